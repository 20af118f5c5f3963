-- The bits of the kinds of event in a mask.
use Rattle.std.specs.Prelude.{ℕ}
use Rattle.fdp_base.specs.declared.event.EventKind.{EventKind}
use Rattle.fdp_base.specs.declared.event.EventKind.TheVariants as kinds

-- the place of a kind in the order of the kinds
abbrev pub kind_bit : EventKind → ℕ
kind_bit kinds.NotFullyWritten = 0
kind_bit kinds.TimeLimitExceeded = 1
kind_bit kinds.HandlesModified = 2
kind_bit kinds.InvalidPlacementIdentifier = 3
kind_bit kinds.MediaReallocated = 4
kind_bit kinds.ImplicitlyModified = 5
