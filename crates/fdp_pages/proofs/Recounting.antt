-- How a change of one owner and of the count of its unit are joined.
use Rattle.std.proofs.Common.{◌≡◌, ◌≢◌, ℕ, ◌+◌, ◌-◌, ◌<◌, ◌≤◌, Bool, true, false, Option, Some, None, refl, ap, sym, ◌∙◌, subst, arith, eq-eqb, ne_eqb, ⊎_elim, inl, inr, length}
use Rattle.std.specs.Prelude.{◌⊎◌, IsSome, is_some, option_map, if◌then◌else◌}
use Rattle.std.proofs.lemmas.Bool.{cases_eq}
use Rattle.fdp_base.specs.declared.entry.Spot.{Spot}
use Rattle.fdp_base.specs.Numbers.{with_at}
use Rattle.fdp_collector.specs.Ready.{AreLive}
use Rattle.fdp_collector.proofs.Kept.{changed-here, changed-other, unit-kept}
use Rattle.fdp_owners.specs.declared.owner.Holder.{Holder}
use Rattle.fdp_owners.specs.declared.owner.Owner.{Owner}
use Rattle.fdp_owners.specs.OwnerTable.{OwnerTable, held_by, live_in, one_less, one_more, owner_at, with_owner}
use Rattle.fdp_owners.proofs.Tables.{is_spot-other, is_spot-same, live-fewer, one-live, owned-within}
use Rattle.fdp_pages.specs.Joined.{AreJoined}
use Rattle.fdp_pages.specs.PageTables.{PageTables}
use Rattle.fdp_pages.specs.Steps.{ChangesOwners, HasSize, Recounts}
use Rattle.fdp_pages.proofs.Places.{IsFrom, never, one, owner-cases, same-from, some-is}
use Rattle.fdp_pointers.proofs.Copies.{same-spot}
use Rattle.fdp_rules.specs.Sites.{is_spot}
use Rattle.fdp_units.specs.declared.data_unit.DataUnit.{DataUnit}
use Rattle.fdp_units.specs.DataUnits.{lowered, raised}
use Rattle.fdp_units.specs.UnitTable.{Changes, IsUnit, UnitTable, is_worn_at, unit_at}

pub at-here : {X : Type 0} (table : ℕ → X) (place : ℕ) (value : X) → with_at table place value place ≡ value
at-here table place value = ap (λ (b : Bool). if b then value else table place) (eq-eqb place place refl)

pub at-other : {X : Type 0} (table : ℕ → X) (place : ℕ) (value : X) (i : ℕ) → i ≢ place → with_at table place value i ≡ table i
at-other table place value i ne = ap (λ (b : Bool). if b then value else table i) (ne_eqb i place ne)

pub owner-here : (owners : Spot → Option Owner) (spot : Spot) (value : Option Owner) → with_owner owners spot value spot ≡ value
owner-here owners spot value = ap (λ (b : Bool). if b then value else owners spot) (is_spot-same spot)

pub owner-other : (owners : Spot → Option Owner) (spot at : Spot) (value : Option Owner) → at ≢ spot → with_owner owners spot value at ≡ owners at
owner-other owners spot at value ne = ap (λ (b : Bool). if b then value else owners at) (is_spot-other at spot ne)

-- ---- counts

relive : (x y : DataUnit) (l : ℕ) → y ≡ record x { live = l } → y ≡ record x { live = y.live }
relive x y l e = e ∙ sym (ap (λ (z : DataUnit). record x { live = z.live }) e)

changed-recounts : (t new : UnitTable) (o now : OwnerTable) (unit l : ℕ) → AreLive t o → Changes t new unit (record (unit_at t unit) { live = l }) → is_worn_at new ≡ is_worn_at t → live_in now ≡ with_at (live_in o) unit l → Recounts t new now
changed-recounts t new o now unit l live change worn counts = record {
  kept = λ u. ⊎_elim
      (λ (same : u ≡ unit). relive (unit_at t u) (unit_at new u) l (ap (unit_at new) same ∙ changed-here t new unit _ change ∙ ap (λ (k : ℕ). record (unit_at t k) { live = l }) (sym same)))
      (λ (ne : u ≢ unit). relive (unit_at t u) (unit_at new u) (unit_at t u).live (changed-other t new unit u _ change ne))
      (cases_eq u unit);
  counted = λ u is. ⊎_elim
      (λ (same : u ≡ unit).
      ap (λ (k : ℕ). (unit_at new k).live) same ∙ ap (λ (z : DataUnit). z.live) (changed-here t new unit _ change)
      ∙ sym (at-here (live_in o) unit l) ∙ sym (ap (λ (f : ℕ → ℕ). f unit) counts) ∙ ap (live_in now) (sym same))
      (λ (ne : u ≢ unit).
      ap (λ (z : DataUnit). z.live) (changed-other t new unit u _ change ne) ∙ live.counted u is
      ∙ sym (at-other (live_in o) unit l u ne) ∙ sym (ap (λ (f : ℕ → ℕ). f u) counts))
      (cases_eq u unit);
  cut = change.cut;
  worn = worn;
}

pub lowered-recounts : (t new : UnitTable) (o now : OwnerTable) (unit : ℕ) → AreLive t o → IsUnit t unit → Changes t new unit (lowered (unit_at t unit)) → is_worn_at new ≡ is_worn_at t → live_in now ≡ one_less (live_in o) unit → Recounts t new now
lowered-recounts t new o now unit live is change worn counts =
    changed-recounts t new o now unit ((unit_at t unit).live - 1) live change worn (counts ∙ ap (λ (k : ℕ). with_at (live_in o) unit (k - 1)) (sym (live.counted unit is)))

pub raised-recounts : (t new : UnitTable) (o now : OwnerTable) (unit : ℕ) → AreLive t o → IsUnit t unit → Changes t new unit (raised (unit_at t unit)) → is_worn_at new ≡ is_worn_at t → live_in now ≡ one_more (live_in o) unit → Recounts t new now
raised-recounts t new o now unit live is change worn counts =
    changed-recounts t new o now unit ((unit_at t unit).live + 1) live change worn (counts ∙ ap (λ (k : ℕ). with_at (live_in o) unit (k + 1)) (sym (live.counted unit is)))

pub same-recounts : (t : UnitTable) (o now : OwnerTable) → AreLive t o → live_in now ≡ live_in o → Recounts t t now
same-recounts t o now live counts = record {
  kept = λ u. refl;
  counted = λ u is. live.counted u is ∙ sym (ap (λ (f : ℕ → ℕ). f u) counts);
  cut = refl;
  worn = refl;
}

-- a live page is counted
pub live-unit : (t : UnitTable) (o : OwnerTable) (spot : Spot) → AreLive t o → IsSome (owner_at o spot) → 1 ≤ (unit_at t spot.unit).live
live-unit t o spot live some =
    let x = some-is (owner_at o spot) some in
    let within : spot.page < o.unit_pages = owned-within o spot x.0 x.1 in
    let least : 1 ≤ live_in o spot.unit = one-live o spot within some in
    let counted : (unit_at t spot.unit).live ≡ live_in o spot.unit = live.counted spot.unit (live.there spot some) in
    omega (arith, least, counted)

-- behind the used pages of a unit none is live
pub unused-none : (t : UnitTable) (o : OwnerTable) (unit : ℕ) → AreLive t o → (page : ℕ) → (unit_at t unit).next ≤ page → owner_at o (record { unit = unit; page = page }) ≡ None
unused-none t o unit live page high =
    let spot : Spot = record { unit = unit; page = page } in
    owner-cases (owner_at o spot ≡ None) (owner_at o spot) (λ e. e) (λ y e. absurd (omega (arith, high, live.used spot (ap is_some e))))

-- a used page without an owner leaves room for one
pub room-for-one : (t : UnitTable) (o : OwnerTable) (spot : Spot) → AreLive t o → IsUnit t spot.unit → (unit_at t spot.unit).next ≤ o.unit_pages → spot.page < (unit_at t spot.unit).next → owner_at o spot ≡ None → (unit_at t spot.unit).live < (unit_at t spot.unit).next
room-for-one t o spot live is within used none =
    let fewer : live_in o spot.unit < (unit_at t spot.unit).next = live-fewer o spot.unit (unit_at t spot.unit).next spot.page within (unused-none t o spot.unit live) used none in
    omega (arith, fewer, live.counted spot.unit is)

-- ---- owners

pub cleared-from : (owners : Spot → Option Owner) (spot at : Spot) (x : Owner) → with_owner owners spot None at ≡ Some x → IsFrom (owners at) x
cleared-from owners spot at x = how (is_spot at spot) where
  how : (b : Bool) → (if b then None else owners at) ≡ Some x → IsFrom (owners at) x
  how true e = absurd (never x e)
  how false e = same-from (owners at) x e

pub handed-from : (owners : Spot → Option Owner) (spot at : Spot) (holder : Holder) (x : Owner) → with_owner owners spot (option_map (held_by holder) (owners spot)) at ≡ Some x → IsFrom (owners at) x
handed-from owners spot at holder x = how (is_spot at spot) refl where
  held : (y : Option Owner) → owners spot ≡ y → option_map (held_by holder) y ≡ Some x → IsFrom (owners spot) x
  held None is e = absurd (never x e)
  held (Some y) is e = record { owner = y; was = is; spare = ap (λ (z : Owner). z.spare) (one e) }

  how : (b : Bool) → is_spot at spot ≡ b → (if b then option_map (held_by holder) (owners spot) else owners at) ≡ Some x → IsFrom (owners at) x
  how true same e = subst (λ (s : Spot). IsFrom (owners s) x) (sym (same-spot at spot same)) (held (owners spot) refl e)
  how false other e = same-from (owners at) x e

pub put-cases : (owners : Spot → Option Owner) (spot at : Spot) (x y : Owner) → with_owner owners spot (Some x) at ≡ Some y → ((at ≡ spot) × (x ≡ y)) ⊎ (owners at ≡ Some y)
put-cases owners spot at x y = how (is_spot at spot) refl where
  how : (b : Bool) → is_spot at spot ≡ b → (if b then Some x else owners at) ≡ Some y → ((at ≡ spot) × (x ≡ y)) ⊎ (owners at ≡ Some y)
  how true same e = inl (same-spot at spot same, one e)
  how false other e = inr e

-- ---- the tables after one change

-- no row of owners more or less
pub sized-same : (o now : OwnerTable) → now ≡ record o { pages = now.pages } → length now.pages ≡ length o.pages → HasSize o now
sized-same o now rest size = record { unit_pages = ap (λ (x : OwnerTable). x.unit_pages) rest; pages = size }

pub changes-of : (t : PageTables) (units : UnitTable) (owners : OwnerTable) → Recounts t.units units owners → HasSize t.owners owners → ChangesOwners t (record t { units = units; owners = owners })
changes-of t units owners recounts size = record { size = size; units = recounts; handles = refl; passes = refl }

-- ---- changes of owners one after another

pub changes-on : (a b c : PageTables) → ChangesOwners a b → ChangesOwners b c → ChangesOwners a c
changes-on a b c h k = record {
  size = record { unit_pages = k.size.unit_pages ∙ h.size.unit_pages; pages = k.size.pages ∙ h.size.pages };
  units = record {
    kept = λ u. k.units.kept u ∙ ap (λ (x : DataUnit). record x { live = (unit_at c.units u).live }) (h.units.kept u);
    counted = λ u is. k.units.counted u (unit-on u is);
    cut = k.units.cut ∙ h.units.cut;
    worn = k.units.worn ∙ h.units.worn;
  };
  handles = k.handles ∙ h.handles;
  passes = k.passes ∙ h.passes;
} where
  unit-on : (u : ℕ) → IsUnit a.units u → IsUnit b.units u
  unit-on u is = unit-kept a.units b.units u h.units.cut is

pub changes-none : (t : PageTables) → AreJoined t → ChangesOwners t t
changes-none t joined = record {
  size = record { unit_pages = refl; pages = refl };
  units = same-recounts t.units t.owners t.owners joined.live refl;
  handles = refl;
  passes = refl;
}
