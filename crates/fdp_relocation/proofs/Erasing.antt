-- Where an erase is due nothing else is.
use Rattle.std.proofs.Common.{◌≡◌, ℕ, ◌≤◌, ◌⊎◌, Option, Some, None, true, refl, sym, ◌∙◌, ap, subst, arith, ⊎_elim}
use Rattle.std.specs.Prelude.{IsSome, MatchOption}
use Rattle.fdp_base.specs.declared.entry.Spot.{Spot}
use Rattle.fdp_keeper.specs.fdp_book.Book.{BookSeen}
use Rattle.fdp_keeper.specs.fdp_book.Relocating.{Relocates}
use Rattle.fdp_keeper.specs.fdp_collector.declared.step.Lost.TheVariants as lost
use Rattle.fdp_keeper.specs.fdp_collector.declared.step.Step.{Step}
use Rattle.fdp_keeper.specs.fdp_collector.declared.step.Step.TheVariants as steps
use Rattle.fdp_keeper.specs.fdp_collector.Step.{IsStep}
use Rattle.fdp_flash.specs.FlashState.{FlashState}
use Rattle.fdp_owners.specs.declared.owner.Owner.{Owner}
use Rattle.fdp_owners.specs.OwnerTable.{owner_at, OwnerTable}
use Rattle.fdp_keeper.specs.fdp_pages.PageTables.{passes_at, relocation_at}
use Rattle.fdp_passes.specs.declared.due.Due.{Due}
use Rattle.fdp_passes.specs.declared.due.Due.TheVariants as due
use Rattle.fdp_passes.specs.Due.{copies_in, IsDue, IsShort}
use Rattle.fdp_passes.specs.GroupPasses.{GroupPasses, Pass}
use Rattle.fdp_units.specs.DataUnits.{is_free}
use Rattle.fdp_units.specs.UnitTable.{count_in, HasNoVictim, IsVictim, UnitTable}

-- a group has one victim
one-victim : (t : UnitTable) (rg a b : ℕ) → IsVictim t rg a → IsVictim t rg b → a ≡ b
one-victim t rg a b p q =
    let fewer = p.fewest b q.candidate in
    let more = q.fewest a p.candidate in
    let low = p.lowest b q.candidate (omega (arith, fewer, more)) in
    let high = q.lowest a p.candidate (omega (arith, fewer, more)) in
    omega (arith, low, high)

-- one unit is emptied
one-emptied : (t : UnitTable) (rg a b : ℕ) (q : Option Pass) → MatchOption q (IsShort t rg × IsVictim t rg a) (λ (pass : Pass). pass.victim ≡ a) → MatchOption q (IsShort t rg × IsVictim t rg b) (λ (pass : Pass). pass.victim ≡ b) → a ≡ b
one-emptied t rg a b None x y = one-victim t rg a b x.1 y.1
one-emptied t rg a b (Some pass) x y = sym x ∙ y

-- what is due is an erase
abbrev pub IsErase : Due → Type 0
IsErase due.Nothing = ⊥
IsErase (due.Copy spot) = ⊥
IsErase due.Move = ⊥
IsErase (due.Erase unit) = Unit {0}

not-idle : (t : UnitTable) (rg unit : ℕ) (q : Option Pass) → MatchOption q (IsShort t rg × IsVictim t rg unit) (λ (pass : Pass). pass.victim ≡ unit) → q ≡ None → (4 ≤ count_in t rg is_free) ⊎ HasNoVictim t rg → ⊥
not-idle t rg unit None x none enough = ⊎_elim (λ (many : 4 ≤ count_in t rg is_free). let short = x.0 in omega (arith, short, many)) (λ (all : HasNoVictim t rg). all unit x.1.candidate) enough
not-idle t rg unit (Some pass) x none enough = absurd (no-some pass none) where
  no-some : (pass : Pass) → Some pass ≡ None → ⊥
  no-some pass same = cc

none-live : (o : OwnerTable) (spot : Spot) (x : Option Owner) → owner_at o spot ≡ x → IsSome x → x ≡ None → ⊥
none-live o spot None is some none = absurd cc
none-live o spot (Some owner) is some none = cc

pub only-erase : (p : GroupPasses) (t : UnitTable) (o : OwnerTable) (rg unit : ℕ) (other : Due) → IsDue p t o rg (due.Erase unit) → IsDue p t o rg other → IsErase other
only-erase p t o rg unit due.Nothing x y = not-idle t rg unit p.pass x.0 y.0 y.1
only-erase p t o rg unit (due.Copy spot) x y =
    let same : unit ≡ spot.unit = one-emptied t rg unit spot.unit p.pass x.0 y.0 in
    let none : owner_at o spot ≡ None = subst (λ (u : ℕ). owner_at o (record { unit = u; page = spot.page }) ≡ None) same (x.2 spot.page (omega arith)) in
    none-live o spot (owner_at o spot) refl y.1.live none
only-erase p t o rg unit due.Move x y =
    let copies : copies_in p ≡ y.0.copies = ap (λ (q : Option Pass). copies_in (record p { pass = q })) y.1 in
    y.2 (sym copies ∙ x.1)
only-erase p t o rg unit (due.Erase other) x y = tt

-- a step of an erase: it was done, or it failed
abbrev pub IsOfErase : Step → Type 0
IsOfErase steps.Nothing = ⊥
IsOfErase (steps.Copied copy) = ⊥
IsOfErase steps.ReadyToMove = ⊥
IsOfErase (steps.Erased unit) = Unit {0}
IsOfErase steps.EraseDue = ⊥
IsOfErase steps.Starved = ⊥
IsOfErase (steps.Fault lost.None) = ⊥
IsOfErase (steps.Fault (lost.Aside unit)) = ⊥
IsOfErase (steps.Fault (lost.Retired unit)) = Unit {0}

-- where an erase is due and may be made, a step is one of an erase
pub of-erase : (b d : BookSeen) (f n : FlashState) (rg unit : ℕ) (step : Step) → IsDue (passes_at b.pages rg) b.pages.units b.pages.owners rg (due.Erase unit) → Relocates b d f n rg true step → IsOfErase step
of-erase b d f n rg unit step x h = by step h.is where
  other : (y : Due) → IsDue (passes_at b.pages rg) b.pages.units b.pages.owners rg y → IsErase y
  other y = only-erase (passes_at b.pages rg) b.pages.units b.pages.owners rg unit y x

  by : (step : Step) → IsStep b.pages.owners b.pages.handles.classes rg true (relocation_at b.pages rg) (relocation_at d.pages rg) f n step → IsOfErase step
  by steps.Nothing s = other due.Nothing s.0
  by (steps.Copied copy) s = other (due.Copy s.from) s.due
  by steps.ReadyToMove s = other due.Move s.0
  by (steps.Erased unit) s = tt
  by steps.EraseDue s = absurd cc
  by steps.Starved s = other (due.Copy s.from) s.due
  by (steps.Fault lost.None) s = other (due.Copy s.from) s.due
  by (steps.Fault (lost.Aside unit)) s = other (due.Copy s.from) s.due
  by (steps.Fault (lost.Retired unit)) s = tt

pub not-of-erase : (b d : BookSeen) (f n : FlashState) (rg : ℕ) (step other : Step) → (unit : ℕ) × IsDue (passes_at b.pages rg) b.pages.units b.pages.owners rg (due.Erase unit) → Relocates b d f n rg true step → step ≡ other → IsOfErase other
not-of-erase b d f n rg step other x h is = subst IsOfErase is (of-erase b d f n rg x.0 step x.1 h)
