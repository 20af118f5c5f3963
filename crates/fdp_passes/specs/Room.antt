-- Whether the pages that a pass may still use suffice.
use Rattle.std.specs.Prelude.{ℕ, ◌+◌, ◌-◌, count_by, is_some, if◌then◌else◌}
use Rattle.std.specs.Option.{option_map_or}
use Rattle.fdp_base.specs.Numbers.{numbers_from}
use Rattle.fdp_owners.specs.OwnerTable.{OwnerTable, owner_at}
use Rattle.fdp_passes.specs.declared.lane.Lane.{Lane}
use Rattle.fdp_passes.specs.GroupPasses.{GroupPasses, Pass, target_at}
use Rattle.fdp_passes.specs.Place.{has_taken}
use Rattle.fdp_units.specs.UnitTable.{UnitTable, unit_at}

-- how many pages of a unit are live, of so many from a first one on
abbrev pub live_among : OwnerTable → ℕ → ℕ → ℕ → ℕ
live_among o unit first count = count_by (λ page. is_some (owner_at o (record { unit = unit; page = page }))) (numbers_from first count)

-- how many live pages of its victim a pass has still to copy
abbrev pub wanted_in : GroupPasses → OwnerTable → ℕ
wanted_in p o = option_map_or (λ (pass : Pass). live_among o pass.victim pass.next (o.unit_pages - pass.next)) p.pass 0

-- how many pages are left of the target of a lane
abbrev pub left_in : GroupPasses → UnitTable → Lane → ℕ
left_in p t lane = option_map_or (λ unit. t.unit_pages - (unit_at t unit).next) (target_at p lane) 0

-- how many pages a pass may still use for a lane: the rest of its target, and a free unit where it took none
abbrev pub room_in : GroupPasses → UnitTable → Lane → ℕ
room_in p t lane = left_in p t lane + (if has_taken p then 0 else t.unit_pages)
