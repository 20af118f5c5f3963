-- The copies of a pass.
use Rattle.std.proofs.Common.{◌≡◌, ℕ, ◌<◌, [], length, get_or, Option, Some, None, refl, sym, subst, arith}
use Rattle.std.specs.Prelude.{Contains}
use Rattle.std.specs.Option.{option_map_or}
use Rattle.std.proofs.lemmas.Option.{slice_get-get_or}
use Rattle.fdp_base.specs.declared.entry.Copied.{Copied}
use Rattle.fdp_owners.specs.OwnerTable.{IsPlace}
use Rattle.fdp_durability.specs.fdp_pages.Joined.{AreJoined}
use Rattle.fdp_durability.specs.fdp_pages.PageTables.{PageTables, copies_at, passes_at}
use Rattle.fdp_durability.proofs.fdp_pages.Places.{place-contains, place-there}
use Rattle.fdp_passes.specs.GroupPasses.{Pass}
use Rattle.fdp_units.specs.UnitTable.{IsGroup, IsUnit}

has-place : (t : PageTables) (rg index : ℕ) (d : Copied) → AreJoined t → IsGroup t.units rg → (p : Option Pass) → (passes_at t rg).pass ≡ p → index < length (option_map_or (λ (x : Pass). x.copies) p []) → IsPlace t.owners (get_or (option_map_or (λ (x : Pass). x.copies) p []) index d).from
has-place t rg index d joined group None is low = absurd (omega (arith, low))
has-place t rg index d joined group (Some pass) is low =
    let copy : Copied = get_or pass.copies index d in
    let within : Contains pass.copies copy = place-contains pass.copies index copy (slice_get-get_or pass.copies index d low) in
    let lie = ((joined.groups rg group).copied pass is).lie copy within in
    let unit : IsUnit t.units copy.from.unit = subst (λ (u : ℕ). IsUnit t.units u) (sym lie.victim) ((joined.groups rg group).ready.victim pass is).is_unit in
    place-there t.units t.owners copy.from joined.cut.owners unit lie.from_page

-- the old page of a copy is there
pub copy-place : (t : PageTables) (rg index : ℕ) (d : Copied) → AreJoined t → IsGroup t.units rg → index < length (copies_at t rg) → IsPlace t.owners (get_or (copies_at t rg) index d).from
copy-place t rg index d joined group low = has-place t rg index d joined group (passes_at t rg).pass refl low
