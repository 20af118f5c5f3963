-- A drive whose run begins.
use Rattle.std.proofs.Common.{◌≡◌, ◌⊎◌, ℕ, ◌+◌, ◌*◌, ◌≤◌, Bool, true, false, cond, not, ◌&&◌, List, [], ◌∷◌, length, refl, sym, ◌∙◌, ap, subst, arith, inr, ⊎_elim}
use Rattle.std.specs.Prelude.{Contains, IsFalse, IsTrue, sum_by}
use Rattle.fdp_base.specs.declared.entry.Entry.{Entry}
use Rattle.fdp_base.specs.declared.entry.Entry.TheVariants as entries
use Rattle.fdp_base.specs.EntryKinds.{wears_group}
use Rattle.fdp_base.specs.Numbers.{numbers_below}
use Rattle.fdp_base.proofs.Sums.{counting, sum_from-zero}
use Rattle.fdp_book.specs.Book.{BookSeen, state_in}
use Rattle.fdp_calls.specs.Calls.{counted_more}
use Rattle.fdp_flash.specs.declared.cell.Cell.{Cell}
use Rattle.fdp_flash.specs.Cells.{IsBlankUnit}
use Rattle.fdp_flash.specs.FlashState.{FlashState, IsWellFormed}
use Rattle.fdp_flash.specs.Runs.{Runs}
use Rattle.fdp_units.specs.DataUnits.{is_free, is_lost}
use Rattle.fdp_units.specs.UnitTable.{IsUnit, UnitTable, state_at}
use Rattle.fdp_ledger.specs.Counted.{CountedSince, counts_of}
use Rattle.fdp_ledger.specs.Start.{KnowsUnits, start_of}
use Rattle.fdp_ledger.specs.Ledger.{AreAccounted, IsLedger, is_vain}
use Rattle.fdp_ledger.specs.Uses.{RunStart, idle_after, used_by}
use Rattle.fdp_ledger.proofs.Entries.{quiet-used}
use Rattle.fdp_ledger.proofs.Worn.{never-there}

no : false ≡ true → ⊥
no e = cc

-- a history has no entry yet, or the one that tells of the opening
abbrev pub HasOpened : List Entry → Type 0
HasOpened es = (es ≡ []) ⊎ (es ≡ entries.Reopened ∷ [])

-- Of each unit of a run that begins: it is free, or had a page; one that had a page and is in use is not all blank; and where the run begins
-- fresh each unit is free.
pub record AreUnitsBegun (b : BookSeen) (now : FlashState) : Type 0 where
  pub plain : KnowsUnits now.told (start_of b) → (unit : ℕ) → IsUnit b.pages.units unit → IsTrue (is_free (state_at b.pages.units unit)) ⊎ IsTrue ((start_of b).had unit)
  pub used : IsTrue now.told → (unit : ℕ) → IsUnit b.pages.units unit → IsTrue ((start_of b).had unit) → IsFalse (is_lost (state_at b.pages.units unit)) → IsBlankUnit now.geometry now.cells unit → ⊥
  pub fresh : IsTrue (start_of b).fresh → (unit : ℕ) → IsUnit b.pages.units unit → IsTrue (is_free (state_at b.pages.units unit))

-- the entry of the opening tells of no unit
used-opened : (start : RunStart) (es : List Entry) → HasOpened es → (unit : ℕ) → used_by start es unit ≡ start.had unit
unfolding used_by
used-opened start es opened unit = ⊎_elim
    (λ (none : es ≡ []). ap (λ (xs : List Entry). used_by start xs unit) none)
    (λ (one : es ≡ entries.Reopened ∷ []). ap (λ (xs : List Entry). used_by start xs unit) one ∙ quiet-used start.had entries.Reopened (record { filled = refl; erased = refl }) unit)
    opened

-- a flash that was handed in, and has made calls since, but no program of data
module _ (handed now : FlashState) (Image : ℕ → List Cell → Type 0) (run : Runs handed now Image) (programs : now.programs ≡ handed.programs) where
  counted-none : (start : RunStart) → CountedSince (counts_of handed) now start []
  unfolding counted_more idle_after
  counted-none start = record {
    moment = run.later;
    programs = programs;
    media_replies = run.faults;
    shut = run.faults;
    lost = run.faults;
    idle = λ knows. run.faults;
    worn = λ fresh wears. absurd (no wears);
    worn_out = λ knows before after rg is. absurd (never-there wears_group [] before after (entries.Worn (record { rg = rg })) refl refl is);
  }

  counted-opening : (start : RunStart) → CountedSince (counts_of handed) now start (entries.Reopened ∷ [])
  unfolding counted_more idle_after
  counted-opening start = record {
    moment = run.later;
    programs = programs;
    media_replies = run.faults;
    shut = run.faults;
    lost = run.faults;
    idle = λ knows. run.faults;
    worn = λ fresh wears. absurd (no wears);
    worn_out = λ knows before after rg is. absurd (never-there wears_group (entries.Reopened ∷ []) before after (entries.Worn (record { rg = rg })) refl refl is);
  }

  counted-opened : (start : RunStart) (es : List Entry) → HasOpened es → CountedSince (counts_of handed) now start es
  counted-opened start es opened = ⊎_elim
      (λ (none : es ≡ []). subst (CountedSince (counts_of handed) now start) (sym none) (counted-none start))
      (λ (one : es ≡ entries.Reopened ∷ []). subst (CountedSince (counts_of handed) now start) (sym one) (counted-opening start))
      opened

  idle-opened : (start : RunStart) (es : List Entry) → HasOpened es → idle_after start.had es ≡ 0
  unfolding idle_after
  idle-opened start es opened = ⊎_elim
      (λ (none : es ≡ []). ap (idle_after start.had) none)
      (λ (one : es ≡ entries.Reopened ∷ []). ap (idle_after start.had) one)
      opened

  module _ (b : BookSeen) (opened : HasOpened b.entries) (units : AreUnitsBegun b now) where
    abbrev t : UnitTable
    t = b.pages.units

    abbrev start : RunStart
    start = start_of b

    none-vain : KnowsUnits now.told start → (unit : ℕ) → IsUnit t unit → is_vain start t b.entries unit ≡ false
    none-vain knows unit there = ⊎_elim
        (λ (free : is_free (state_at t unit) ≡ true). ap (λ (x : Bool). not x && not (used_by start b.entries unit)) free)
        (λ (had : start.had unit ≡ true). ap (λ (x : Bool). not (is_free (state_at t unit)) && not x) (used-opened start b.entries opened unit ∙ had) ∙ and-false (not (is_free (state_at t unit))))
        (units.plain knows unit there) where
          and-false : (x : Bool) → (x && false) ≡ false
          and-false true = refl
          and-false false = refl

    accounted-opened : AreAccounted (counts_of handed) start t b.entries now
    unfolding counted_more
    accounted-opened = record {
      vain = λ knows.
          let zero : sum_by (counting (is_vain start t b.entries)) (numbers_below (length t.groups * t.group_units)) ≡ 0 = sum_from-zero (counting (is_vain start t b.entries)) 0 (length t.groups * t.group_units)
          (λ i low high. ap (λ (x : Bool). cond x 1 0) (none-vain knows i (omega (arith, high)))) in
          subst (λ (n : ℕ). counted_more handed.faults (n + sum_by (counting (is_vain start t b.entries)) (numbers_below (length t.groups * t.group_units))) ≤ now.faults) (sym (idle-opened start b.entries opened))
          (subst (λ (n : ℕ). counted_more handed.faults (0 + n) ≤ now.faults) (sym zero) run.faults);
      failed = λ knows tells unit there vain. absurd (no (sym (none-vain knows unit there) ∙ vain));
      used = λ told unit there used kept blank. units.used told unit there (sym (used-opened start b.entries opened unit) ∙ used) kept blank;
    }

    -- the ledger of a run that begins, whose media replies are none
    pub ledger-begun : IsWellFormed handed → IsWellFormed now → (state_in b).media ≡ [] → IsLedger (counts_of handed) b now
    ledger-begun first last media = record {
      handed_is = first.counts.faults_are;
      counted = counted-opened start b.entries opened;
      listed = λ tells. let later = run.later in omega (arith, later, last.calls tells);
      units = accounted-opened;
      free = λ fresh none rg is. inr (inr (λ unit there group. units.fresh fresh unit there));
      moments = λ moment among. absurd (omega (arith, (subst (λ (xs : List ℕ). Contains xs moment) media among).1));
    }
