-- A block that relocation moves stays in its group.
use Rattle.std.proofs.Common.{◌≡◌, ℕ, ◌*◌, ◌/◌, ◌<◌, List, Option, Some, None, sym, ◌∙◌, ap, subst}
use Rattle.std.specs.Prelude.{IfSome, option_map}
use Rattle.fdp_base.specs.declared.entry.Copied.{Copied}
use Rattle.fdp_base.specs.declared.entry.Spot.{Spot}
use Rattle.fdp_base.specs.declared.spare.DataSpare.{DataSpare}
use Rattle.fdp_book.specs.declared.flight.Flight.{Flight}
use Rattle.fdp_book.specs.Held.{lead_in}
use Rattle.fdp_book.specs.Moving.{SharesCut, StaysIn}
use Rattle.fdp_book.specs.Taking.{IsPageIn}
use Rattle.fdp_book.proofs.Relocating.Moves.{LiesInGroup}
use Rattle.fdp_readings.specs.fdp_locations.Located.{LeadsTo}
use Rattle.fdp_map.specs.declared.mapped.Mapped.{Mapped}
use Rattle.fdp_map.specs.MapTable.{IsPlaced, MapTable, mapped_at}
use Rattle.fdp_owners.specs.declared.owner.Holder.{Holder}
use Rattle.fdp_owners.specs.declared.owner.Holder.TheVariants as holders
use Rattle.fdp_owners.specs.OwnerTable.{pointer_in}
use Rattle.fdp_readings.specs.fdp_pages.PageTables.{PageTables}
use Rattle.fdp_pointers.specs.Facts.{Page}
use Rattle.fdp_pointers.specs.Pointers.{Behind, Pointer.of_block}
use Rattle.fdp_rules.specs.PlainState.{PlainState}
use Rattle.fdp_units.specs.UnitTable.{Cut, group_in}

-- a block on the old page of a copy may go to the new one
stays : (map : MapTable) (t : PageTables) (rg : ℕ) (copy : Copied) (m : Mapped) → SharesCut map t.units → LiesInGroup t rg copy → IsPlaced map.geometry m → m.spot ≡ copy.from → IsPageIn map.geometry m.rg copy.to
stays map t rg copy m cut lies placed from =
    let divided : (unit : ℕ) → unit / map.geometry.units ≡ group_in t.units unit = λ unit. ap (λ (x : Cut). unit / x.group_units) (sym cut) in
    record {
      page = record {
        unit = subst (λ (x : Cut). copy.to.unit < x.groups * x.group_units) cut lies.unit;
        page = subst (λ (x : Cut). copy.to.page < x.unit_pages) cut lies.page;
      };
      group = divided copy.to.unit ∙ lies.to ∙ sym (placed.group ∙ divided m.spot.unit ∙ ap (λ (s : Spot). group_in t.units s.unit) from ∙ lies.from);
    }

-- what an owner of the old page points to may go to the new one
pub stays-in : (s : PlainState) (map : MapTable) (flights : List (Option Flight)) (a : Behind Page) (t : PageTables) (rg : ℕ) (copy : Copied) (holder : Holder) (spare : DataSpare) (y : Page) → SharesCut map t.units → LiesInGroup t rg copy →
    ((nsid lba : ℕ) → IfSome (mapped_at map nsid lba) (IsPlaced map.geometry)) → LeadsTo (lead_in s map flights) a → a (pointer_in holder spare) ≡ Some y → y.spot ≡ copy.from → StaysIn map holder spare copy.to
stays-in s map flights a t rg copy holders.Block spare y cut lies places h e from =
    each (mapped_at map spare.nsid spare.lba) (places spare.nsid spare.lba) (sym (h (of_block spare.nsid spare.lba)) ∙ ap (option_map (λ (z : Page). z.spot)) e)
  where
    each : (o : Option Mapped) → IfSome o (IsPlaced map.geometry) → option_map (λ (m : Mapped). m.spot) o ≡ Some y.spot → IfSome o (λ (m : Mapped). IsPageIn map.geometry m.rg copy.to)
    each None placed is = tt
    each (Some m) placed is = let same : m.spot ≡ y.spot = cc in stays map t rg copy m cut lies placed (same ∙ from)
stays-in s map flights a t rg copy (holders.Flight queue) spare y cut lies places h e from = tt
