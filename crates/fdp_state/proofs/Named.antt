-- What a change that names only what there is gives of the pages of blocks, kind by kind.
use Rattle.std.proofs.Common.{◌≡◌, ℕ, ◌<◌, Bool, true, List, length, Option, None, Some}
use Rattle.std.specs.Prelude.{◌&&◌, nat_lt}
use Rattle.std.specs.Option.{IfSome, option_map_or}
use Rattle.std.proofs.lemmas.Bool.{ltb-true}
use Rattle.fdp_base.specs.declared.command.Range.{Range}
use Rattle.fdp_base.specs.declared.config.DriveConfig.{DriveConfig}
use Rattle.fdp_base.specs.Geometry.{data_units}
use Rattle.fdp_base.specs.Placement.{geometry_of}
use Rattle.fdp_records.specs.declared.change.Change.TheVariants as changes
use Rattle.fdp_records.specs.declared.change.UnitPages.{UnitPages}
use Rattle.fdp_image.specs.Reading.{Reading}
use Rattle.fdp_image.specs.Fits.{are_data_pages, are_of_data_unit, has_namespace, lie_within, lies_within, names_what_is}
use Rattle.fdp_outline.proofs.Naming.{left, of-unit, right}

module _ (c : DriveConfig) (r : Reading) where
  pub write_within : (nsid slba pid : ℕ) (invalid : Bool) (pages : List ℕ) → names_what_is c r (changes.Write nsid slba pid invalid pages) ≡ true → lies_within r nsid slba (length pages) ≡ true
  unfolding names_what_is
  write_within nsid slba pid invalid pages h = left (lies_within r nsid slba (length pages)) (are_data_pages c pages) h

  pub clear_there : (nsid : ℕ) (ranges : List Range) → names_what_is c r (changes.Clear nsid ranges) ≡ true → has_namespace r nsid ≡ true
  unfolding names_what_is
  clear_there nsid ranges h = left (has_namespace r nsid) (lie_within r nsid ranges) h

  pub clear_within : (nsid : ℕ) (ranges : List Range) → names_what_is c r (changes.Clear nsid ranges) ≡ true → lie_within r nsid ranges ≡ true
  unfolding names_what_is
  clear_within nsid ranges h = right (has_namespace r nsid) (lie_within r nsid ranges) h

  pub set_index : (enabled : Bool) (index generation : ℕ) → names_what_is c r (changes.SetFdp enabled index generation) ≡ true → index < length c.fdp
  unfolding names_what_is
  set_index enabled index generation h = ltb-true index (length c.fdp) (right _ (nat_lt index (length c.fdp)) h)

  pub moved_first : (victim first : UnitPages) (second : Option UnitPages) (handles : List ℕ) → names_what_is c r (changes.Moved victim first second handles) ≡ true
      → first.unit < data_units (geometry_of c)
  unfolding names_what_is
  moved_first victim first second handles h =
      of-unit c r first (right (are_of_data_unit c victim) (are_of_data_unit c first) (left (are_of_data_unit c victim && are_of_data_unit c first) (option_map_or (are_of_data_unit c) second true) h))

  second-of : (second : Option UnitPages) → option_map_or (are_of_data_unit c) second true ≡ true → IfSome second (λ (t : UnitPages). t.unit < data_units (geometry_of c))
  second-of None h = tt
  second-of (Some t) h = of-unit c r t h

  pub moved_second : (victim first : UnitPages) (second : Option UnitPages) (handles : List ℕ) → names_what_is c r (changes.Moved victim first second handles) ≡ true
      → IfSome second (λ (t : UnitPages). t.unit < data_units (geometry_of c))
  unfolding names_what_is
  moved_second victim first second handles h = second-of second (right (are_of_data_unit c victim && are_of_data_unit c first) (option_map_or (are_of_data_unit c) second true) h)
