use Rattle.std.proofs.Common.{◌*◌, ℕ, length}
use Rattle.std.specs.Int.{to_le_bytes, w16}
use Rattle.std.specs.Prelude.{◌++◌, flat_map}
use Rattle.fdp_base.specs.Numbers.{numbers_below}
use Rattle.fdp_book.specs.Book.{state_in}
use Rattle.fdp_book.proofs.Answering.{ArePutOf}
use Rattle.fdp_rules.specs.LogPages.{status_descriptor, zeros}
use Rattle.fdp_rules.specs.Room.{handles_of}
use Rattle.fdp_book.proofs.book.Book.write_status.Given as goal

abbrev pub invariant-loop-handle : goal.invariant-loop-handle
invariant-loop-handle l = ArePutOf (λ (x : ℕ × ℕ). flat_map (status_descriptor l.self.config (state_in l.self) x.0 x.1) (numbers_below l.self.config.groups)) (handles_of (state_in l.self) l.nsid) l.handle
    (zeros 14 ++ to_le_bytes w16 (length (handles_of (state_in l.self) l.nsid) * l.self.config.groups)) l.fn.into l.into l.at
