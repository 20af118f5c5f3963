-- What relocation copied, as pairs.
use Rattle.fdp_base.specs.declared.entry.Spot.{Spot}
use Rattle.fdp_rules.specs.Point.{Copy}

abbrev pub copy_of : Spot × Spot → Copy
copy_of x = record { from = x.0; to = x.1 }
