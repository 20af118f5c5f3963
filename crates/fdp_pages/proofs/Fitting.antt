-- Units are sound where their pages fit, and where live pages are those that have an owner.
use Rattle.std.proofs.Common.{◌≡◌, ◌≢◌, ℕ, ◌<◌, ◌≤◌, ap, sym, ◌∙◌, subst, arith, ⊎_elim}
use Rattle.std.specs.Prelude.{◌||◌, IsTrue}
use Rattle.std.proofs.lemmas.Bool.{cases_eq}
use Rattle.fdp_collector.specs.Ready.{AreLive}
use Rattle.fdp_collector.proofs.Kept.{changed-here, changed-other, unit-was}
use Rattle.fdp_owners.specs.OwnerTable.{OwnerTable, live_in}
use Rattle.fdp_owners.proofs.Tables.{live-most}
use Rattle.fdp_pages.specs.Joined.{AreSized}
use Rattle.fdp_pages.specs.Steps.{Recounts}
use Rattle.fdp_pages.proofs.Groups.{pages-of}
use Rattle.fdp_pages.proofs.Recounting.{unused-none}
use Rattle.fdp_units.specs.declared.data_unit.DataUnit.{DataUnit}
use Rattle.fdp_units.specs.DataUnits.{IsSound, is_free, is_open}
use Rattle.fdp_units.specs.UnitTable.{Changes, IsUnit, UnitTable, cut_of, unit_at}

-- no more pages were used than there are, and one is left of a free or open unit
pub record FitsIn (pages : ℕ) (x : DataUnit) : Type 0 where
  pub within : x.next ≤ pages
  pub room : IsTrue (is_free x.state || is_open x.state) → x.next < pages

abbrev pub AreFit : UnitTable → Type 0
AreFit t = (unit : ℕ) → IsUnit t unit → FitsIn t.unit_pages (unit_at t unit)

abbrev pub AreSound : UnitTable → Type 0
AreSound t = (unit : ℕ) → IsUnit t unit → IsSound t.unit_pages (unit_at t unit)

pub fit-sound : (t : UnitTable) → AreSound t → AreFit t
fit-sound t h unit is = record { within = (h unit is).next; room = (h unit is).room }

pub sound-fit : (t : UnitTable) (o : OwnerTable) → 1 ≤ t.unit_pages → AreSized t o → AreLive t o → AreFit t → AreSound t
sound-fit t o some sized live fit unit is =
    let within : (unit_at t unit).next ≤ t.unit_pages = (fit unit is).within in
    let pages : o.unit_pages ≡ t.unit_pages = sized.unit_pages in
    let most : live_in o unit ≤ (unit_at t unit).next = live-most o unit (unit_at t unit).next (omega (arith, within, pages)) (unused-none t o unit live) in
    let counted : (unit_at t unit).live ≡ live_in o unit = live.counted unit is in
    record {
      some = some;
      next = within;
      live = omega (arith, most, counted);
      free = live.unused unit;
      room = (fit unit is).room;
    }

-- the units are as they were but for how many of their pages are live
pub recounts-fit : (t new : UnitTable) (o : OwnerTable) → Recounts t new o → AreFit t → AreFit new
recounts-fit t new o h fit unit is =
    let was = fit unit (unit-was t new unit h.cut is) in
    subst (λ (x : DataUnit). FitsIn new.unit_pages x) (sym (h.kept unit))
    (subst (λ (n : ℕ). FitsIn n (record (unit_at t unit) { live = (unit_at new unit).live })) (sym (pages-of t new h.cut)) (record { within = was.within; room = was.room }))

-- one unit becomes another
pub change-fit : (t new : UnitTable) (unit : ℕ) (y : DataUnit) → Changes t new unit y → FitsIn t.unit_pages y → AreFit t → AreFit new
change-fit t new unit y change here fit u is = subst (λ (n : ℕ). FitsIn n (unit_at new u)) (sym (pages-of t new change.cut)) (⊎_elim
    (λ (same : u ≡ unit). subst (λ (x : DataUnit). FitsIn t.unit_pages x) (sym (ap (unit_at new) same ∙ changed-here t new unit y change)) here)
    (λ (ne : u ≢ unit). subst (λ (x : DataUnit). FitsIn t.unit_pages x) (sym (changed-other t new unit u y change ne)) (fit u (unit-was t new u change.cut is)))
    (cases_eq u unit))

pub same-fit : (t new : UnitTable) → cut_of new ≡ cut_of t → unit_at new ≡ unit_at t → AreFit t → AreFit new
same-fit t new cut same fit unit is =
    subst (λ (n : ℕ). FitsIn n (unit_at new unit)) (sym (pages-of t new cut))
    (subst (λ (x : DataUnit). FitsIn t.unit_pages x) (ap (λ (f : ℕ → DataUnit). f unit) (sym same)) (fit unit (unit-was t new unit cut is)))
