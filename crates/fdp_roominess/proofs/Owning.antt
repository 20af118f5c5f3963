-- Where no page has an owner that had none, or units are left, each group keeps its room.
use Rattle.std.proofs.Common.{◌≡◌, ℕ, ◌≤◌, List, Option, Some, None, refl, sym, ◌∙◌, ap, subst, arith, ⊎_elim}
use Rattle.std.specs.Prelude.{option_map}
use Rattle.fdp_book.specs.fdp_pages.Joined.{AreJoined}
use Rattle.fdp_book.specs.fdp_pages.PageTables.{PageTables, passes_at}
use Rattle.fdp_book.specs.fdp_pages.Steps.{ChangesOwners, IsLeft, LeavesUnits, Recounts}
use Rattle.fdp_owners.specs.declared.owner.Owner.{Owner}
use Rattle.fdp_owners.specs.OwnerTable.{OwnerTable, live_in, owner_at}
use Rattle.fdp_owners.proofs.Tables.{live-most, unowned-unit}
use Rattle.fdp_passes.specs.GroupPasses.{GroupPasses, Pass}
use Rattle.fdp_units.specs.declared.data_unit.DataUnit.{DataUnit}
use Rattle.fdp_units.specs.UnitTable.{IsGroup, cut_of, unit_at}
use Rattle.fdp_roominess.specs.Room.{HaveRoom, taken_in}
use Rattle.fdp_roominess.proofs.Keeping.{IsNoWorse, KeepsUnits, group-was, room-kept, worse-closed, worse-live, worse-same}

-- each page of a unit that has an owner had one before
abbrev pub OwnsNoMore : OwnerTable → OwnerTable → ℕ → Type 0
OwnsNoMore o now unit = (page : ℕ) (x : Owner) → owner_at now (record { unit = unit; page = page }) ≡ Some x → (y : Owner) × (owner_at o (record { unit = unit; page = page }) ≡ Some y)

-- a unit without a live page has none
pub none-live : (o : OwnerTable) (unit : ℕ) → ((page : ℕ) (x : Owner) → owner_at o (record { unit = unit; page = page }) ≡ Some x → ⊥) → live_in o unit ≡ 0
none-live o unit h =
    let most : live_in o unit ≤ 0 = live-most o unit 0 (omega arith) (λ page low. unowned page (owner_at o (record { unit = unit; page = page })) refl) in
    omega (arith, most) where
      unowned : (page : ℕ) (x : Option Owner) → owner_at o (record { unit = unit; page = page }) ≡ x → owner_at o (record { unit = unit; page = page }) ≡ None
      unowned page None e = e
      unowned page (Some x) e = absurd (h page x e)

pub still-none : (o now : OwnerTable) (unit : ℕ) → OwnsNoMore o now unit → live_in o unit ≡ 0 → live_in now unit ≡ 0
still-none o now unit keeps none = none-live now unit (λ page x e. let was = keeps page x e in unowned-unit o unit none (record { unit = unit; page = page }) was.0 was.1 refl)

-- ---- the tables

-- all groups keep their room
pub all-kept : (t now : PageTables) → cut_of now.units ≡ cut_of t.units → ((rg : ℕ) → IsGroup t.units rg → KeepsUnits t.units now.units rg) → ((rg : ℕ) → IsGroup t.units rg → taken_in (passes_at now rg) ≡ taken_in (passes_at t rg)) → HaveRoom t → HaveRoom now
all-kept t now cut keeps taken h rg there = let was = group-was t.units now.units rg cut there in room-kept t now rg was (keeps rg was) (taken rg was) (h rg was)

-- the units of a group of which none has a page more with an owner
pub recounts-keep : (t now : PageTables) (rg : ℕ) → AreJoined t → Recounts t.units now.units now.owners → ((unit : ℕ) → OwnsNoMore t.owners now.owners unit) → KeepsUnits t.units now.units rg
recounts-keep t now rg joined h keeps = record {
  cut = h.cut;
  each = λ unit is group. worse-live (unit_at t.units unit) (unit_at now.units unit) (ap (λ (x : DataUnit). x.state) (h.kept unit))
      (λ zero. h.counted unit is ∙ still-none t.owners now.owners unit (keeps unit) (sym (joined.live.counted unit is) ∙ zero));
}

pub owners-room : (t now : PageTables) → AreJoined t → ChangesOwners t now → ((unit : ℕ) → OwnsNoMore t.owners now.owners unit) → HaveRoom t → HaveRoom now
owners-room t now joined h keeps =
    all-kept t now h.units.cut (λ rg there. recounts-keep t now rg joined h.units keeps) (λ rg there. ap (λ (ps : List GroupPasses). taken_in (passes_at (record t { passes = ps }) rg)) h.passes)

pub left-room : (t now : PageTables) → LeavesUnits t now → HaveRoom t → HaveRoom now
left-room t now h =
    all-kept t now h.cut
    (λ rg there. record { cut = h.cut; each = λ unit is group. left (unit_at t.units unit) (unit_at now.units unit) (h.units unit) })
    (λ rg there. ap (λ (o : Option Pass). option_map (λ (pass : Pass). pass.took_unit) o) (h.passes rg)) where
      left : (x y : DataUnit) → IsLeft x y → IsNoWorse x y
      left x y = ⊎_elim
          (λ (same : y ≡ x). worse-same x y same)
          (λ closed. worse-closed x y closed.0 (ap (λ (z : DataUnit). z.state) closed.1) (ap (λ (z : DataUnit). z.live) closed.1))

pub same-room : (t now : PageTables) → now ≡ t → HaveRoom t → HaveRoom now
same-room t now same = subst HaveRoom (sym same)
