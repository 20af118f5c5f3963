-- What a text of entries comes to: the contracts of private steps cite it.
use Rattle.std.specs.Prelude.{ℕ, ◌<◌, List, [], length}
use Rattle.fdp_base.specs.declared.config.DriveConfig.{DriveConfig}
use Rattle.fdp_reader.specs.declared.entries.Entries.{Entries}
use Rattle.fdp_reader.specs.declared.entries.Entries.TheVariants as found
use Rattle.fdp_reader.specs.Next.{AreRead, StopsAt}

abbrev pub Comes : DriveConfig → List ℕ → Entries → Type 0
Comes c text (found.Whole entries) = AreRead c text entries.items []
Comes c text (found.Stop len) = StopsAt c text len × (0 < length text)
