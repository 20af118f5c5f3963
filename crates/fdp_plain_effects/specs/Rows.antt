-- Tables that have as many rows as before.
use Rattle.std.specs.Prelude.{◌≡◌, length}
use Rattle.fdp_tables.specs.declared.state.Kept.{Kept}

-- each table that a change may change has as many rows as before
pub record KeepsRows (old new : Kept) : Type 0 where
  pub reports : length new.reports.items ≡ length old.reports.items
  pub spaces : length new.spaces.items ≡ length old.spaces.items
  pub references : length new.references.items ≡ length old.references.items
  pub going : length new.going.items ≡ length old.going.items
  pub lost : length new.lost.items ≡ length old.lost.items
  pub worn : length new.worn.items ≡ length old.worn.items
