-- A step of relocation, behind the end of a doubt or not, and a move that was saved keep what saves a drive, and a stop within them loses nothing.
use Rattle.std.proofs.Common.{◌≡◌, ℕ, ◌<◌, ◌≤◌, inl, inr, Bool, true, false, not, IsTrue, List, [], ◌∷◌, length, refl, sym, ◌∙◌, ap, subst, arith, length-append, ne_eqb, Option}
use Rattle.std.specs.Prelude.{All, IsFalse, ◌==◌}
use Rattle.fdp_base.specs.declared.entry.BlockName.{BlockName}
use Rattle.fdp_base.specs.declared.entry.Entry.{Entry}
use Rattle.fdp_base.specs.declared.entry.Entry.TheVariants as entries
use Rattle.fdp_base.specs.Placement.{geometry_of}
use Rattle.fdp_relocation.specs.fdp_book.Book.{BookSeen, point_in}
use Rattle.fdp_relocation.specs.fdp_book.Relocating.{told_by}
use Rattle.fdp_relocation.specs.fdp_collector.declared.step.Step.{Step}
use Rattle.fdp_core.specs.Sound.{IsKept}
use Rattle.fdp_core.proofs.Kept.{kept-on, kept-over, kept-saved, kept-settled, kept-unsettled}
use Rattle.fdp_relocation.specs.fdp_durability.Saved.{firm_renewed, firm_with}
use Rattle.fdp_flash.specs.declared.answer.Wrote.TheVariants as wrote
use Rattle.fdp_flash.specs.FlashState.{FlashState}
use Rattle.fdp_flash.proofs.Runs.{runs_joined}
use Rattle.fdp_relocation.specs.fdp_keeper.Keeper.{IsKeeperOf, KeeperSeen}
use Rattle.fdp_loading.specs.fdp_ledger.declared.counts.Counts.{Counts}
use Rattle.fdp_relocation.specs.Collected.{Collects, FailsToSettle, Moves, Stage, StaysUncalled, Steps, StepsSettled}
use Rattle.fdp_rules.specs.Sites.{moved_blocks}
use Rattle.fdp_relocation.specs.fdp_saving.declared.saved.Saved.{Saved}
use Rattle.fdp_relocation.specs.fdp_saving.declared.saved.Saved.TheVariants as savings
use Rattle.fdp_relocation.specs.fdp_collector.declared.step.Step.TheVariants as steps
use Rattle.fdp_relocation.specs.fdp_collector.declared.step.Lost.TheVariants as lost
use Rattle.fdp_relocation.specs.declared.advance.Advance.TheVariants as advance
use Rattle.std.proofs.lemmas.List.Elements.{All-weaker}
use Rattle.fdp_loading.specs.fdp_survival.Books.{IsInOrder, IsSafe, KeepsApart, KeepsIsolated, Survives}
use Rattle.fdp_loading.specs.fdp_survival.Safe.{IsSafeImage}
use Rattle.fdp_loading.proofs.fdp_survival.Steps.{HoldsBook, keeps-isolated, move-go, safe-fetched, safe-relocated, safe-saved, safe-settled, safe-unmoved, survives-less, survives-longer, survives-relocated, survives-saved, survives-settled}
use Rattle.fdp_relocation.specs.declared.advance.Advance.{Advance}
use Rattle.fdp_relocation.specs.Entries.{AreRelocationIn, IsRelocationIn}
use Rattle.fdp_base.specs.declared.config.DriveConfig.{DriveConfig}
use Rattle.fdp_relocation.specs.fdp_durability.Firm.{completes}
use Rattle.fdp_core.proofs.Passing.{IsPrefix, prefix-apart, prefix-stands, settled-prefix}
use Rattle.fdp_relocation.proofs.Resting.{uncalled-run}
use Rattle.fdp_relocation.proofs.Keeping.{quiet-entry}
use Rattle.fdp_base.specs.declared.entry.Host.{Host}
use Rattle.fdp_image.specs.Kept.{is_completed}
use Rattle.std.specs.Option.{option_map_or}

-- units are erased only while nothing is in doubt
may-erase : (doubt : Bool) → IsTrue (not doubt) → doubt ≡ false
may-erase true may = absurd cc
may-erase false may = refl

-- a move of blocks is lasting
some-moved : (xs : List BlockName) → (xs ≡ [] → ⊥) → not (length xs == 0) ≡ true
some-moved [] some = absurd (some refl)
some-moved (x ∷ xs) some = ap not (ne_eqb (length (x ∷ xs)) 0 (λ none. omega (arith, none)))

module _ {F : Type 0} (state : F → FlashState) (old new : Stage F) (rg : ℕ) (handed : Counts) (order : IsInOrder old.book) (geometry : (state old.flash).geometry ≡ geometry_of old.book.config) (stored : HoldsBook old.book (state old.flash)) (apart : KeepsApart (state old.flash) old.book) (was : IsKept handed (state old.flash) old.book old.keeper) where
  isolated : KeepsIsolated (state old.flash) old.book
  isolated = keeps-isolated old.book (state old.flash) order.known geometry stored apart

  -- ---- a step that called no system unit

  module _ (low : rg < old.book.config.groups) (step : Step) (h : Steps state old new rg step) where
    safe-there : IsSafe new.book old.keeper.saver old.keeper.firm (state new.flash)
    safe-there =
        safe-relocated old.book new.book (state old.flash) (state new.flash) rg (not old.keeper.saver.in_doubt) step old.keeper.saver old.keeper.firm low order geometry stored apart h.made h.run (may-erase old.keeper.saver.in_doubt) was.safe

    pub steps-kept : IsKept handed (state new.flash) new.book new.keeper
    steps-kept =
        subst (IsKept handed (state new.flash) new.book) (sym h.keeper)
        (kept-on handed (state old.flash) (state new.flash) old.book new.book (told_by rg step) old.keeper was h.made.longer h.run.faults safe-there)

    pub steps-survive : Survives new.book old.keeper.firm (length old.book.entries) (state old.flash) (state new.flash)
    steps-survive =
        survives-relocated old.book new.book (state old.flash) (state new.flash) rg (not old.keeper.saver.in_doubt) step old.keeper.saver old.keeper.firm low order geometry stored apart h.made h.run (may-erase old.keeper.saver.in_doubt) was.safe

  -- ---- a move

  -- over a flash that was not called all stands as before
  rested : StaysUncalled (state old.flash) (state new.flash) → IsKept handed (state new.flash) old.book old.keeper
  rested h =
      kept-over handed (state old.flash) (state new.flash) old.book old.keeper was h.run.faults
      (safe-fetched old.book old.keeper.saver old.keeper.firm (state old.flash) (state new.flash) (record {
        kept = record { geometry = h.run.geometry; told = h.run.told; reliable = h.run.reliable; moment = h.run.later; faults = h.run.faults };
        stops = uncalled-run (state old.flash) (state new.flash) (λ m image. image ≡ (state old.flash).cells) h;
        programs = h.uncalled.programs;
        cells = h.uncalled.cells;
      }) was.safe)

  module _ (then_order : IsInOrder new.book) (then_stored : HoldsBook new.book (state new.flash)) (then_isolated : KeepsIsolated (state new.flash) new.book) (low_faults : handed.faults ≤ (state old.flash).faults) (answer : Saved) (h : Moves state old new rg answer) where
    abbrev moved : Entry
    moved = entries.Moved (record { rg = rg; blocks = moved_blocks (point_in old.book) rg })

    pub moves-kept : IsKept handed (state new.flash) new.book new.keeper
    moves-kept = elim h.saved [
      | inl none ↦
          subst (IsKept handed (state new.flash) new.book) (sym none.2)
          (let there = rested none.3 in
          kept-on handed (state new.flash) (state new.flash) old.book new.book (moved ∷ []) old.keeper there h.moved.longer (omega arith)
          (safe-unmoved old.book new.book rg old.keeper.saver old.keeper.firm (state new.flash) order h.moved none.0 there.safe))
      | inr some ↦
          kept-saved handed (state old.flash) (state new.flash) old.book new.book moved old.keeper new.keeper answer order.known.config (some-moved (moved_blocks (point_in old.book) rg) some.0) was low_faults h.moved.longer some.1
          (subst (λ (firm : ℕ). IsSafe new.book new.keeper.saver firm (state new.flash)) (sym some.1.firm_is)
          (safe-saved old.book new.book moved old.keeper.saver new.keeper.saver old.keeper.firm (state old.flash) (state new.flash) answer order geometry stored isolated was.safe some.1.saves then_order h.moved.longer (move-go old.book new.book rg h.moved) then_stored then_isolated (λ ne. refl)))
    ]

    pub moves-survive : Survives new.book old.keeper.firm (length old.book.entries) (state old.flash) (state new.flash)
    moves-survive = elim h.saved [
      | inl none ↦ uncalled-run (state old.flash) (state new.flash) (λ m image. IsSafeImage new.book.config new.book.found new.book.opened new.book.entries old.keeper.firm (length old.book.entries) image) none.3
      | inr some ↦
          survives-saved old.book new.book moved old.keeper.saver new.keeper.saver old.keeper.firm (state old.flash) (state new.flash) answer order geometry stored isolated was.safe some.1.saves then_order h.moved.longer (move-go old.book new.book rg h.moved) then_stored then_isolated
    ]

    moves-firm : old.keeper.firm ≤ new.keeper.firm
    moves-firm = elim h.saved [
      | inl none ↦ let same = ap (λ (k : KeeperSeen). k.firm) none.2 in omega (arith, same)
      | inr some ↦ subst (λ (n : ℕ). old.keeper.firm ≤ n) (sym some.1.firm_is) (with answer)
    ]
      where
        with : (z : Saved) → old.keeper.firm ≤ firm_with old.book.entries (moved ∷ []) old.keeper.firm z
        with savings.Done = let size = length-append old.book.entries (moved ∷ []) in omega (arith, was.safe.at.within, size)
        with (savings.Doubtful moment) = omega arith
        with (savings.Unsaved moment) = omega arith

  -- ---- an erase behind the end of a doubt

  module _ (low : rg < old.book.config.groups) (step : Step) (h : StepsSettled state old new rg step) (some : 1 ≤ length (told_by rg step)) (middle_stored : HoldsBook old.book (state h.middle)) (middle_apart : KeepsApart (state h.middle) old.book) (keeper : IsKeeperOf new.book new.keeper) where
    middle-geometry : (state h.middle).geometry ≡ geometry_of old.book.config
    middle-geometry = h.settled.saves.calls.made.run.geometry ∙ geometry

    settled-safe : IsSafe old.book new.keeper.saver new.keeper.firm (state h.middle)
    settled-safe =
        subst (λ (firm : ℕ). IsSafe old.book new.keeper.saver firm (state h.middle)) (sym h.settled.firm_is)
        (safe-settled old.book old.keeper.saver new.keeper.saver old.keeper.firm (state old.flash) (state h.middle) wrote.Done order geometry stored isolated was.safe h.settled.saves)

    no-doubt : IsTrue true → new.keeper.saver.in_doubt ≡ false
    no-doubt may = h.settled.saves.sure refl

    erased-safe : IsSafe new.book new.keeper.saver new.keeper.firm (state new.flash)
    erased-safe = safe-relocated old.book new.book (state h.middle) (state new.flash) rg true step new.keeper.saver new.keeper.firm low order middle-geometry middle_stored middle_apart h.made h.run no-doubt settled-safe

    pub settled-kept : IsKept handed (state new.flash) new.book new.keeper
    settled-kept = kept-settled handed (state old.flash) (state h.middle) (state new.flash) old.book new.book (told_by rg step) old.keeper new.keeper order.known.config was h.made.longer some h.settled.saves keeper erased-safe

    -- no fewer entries are firm
    firm-more : old.keeper.firm ≤ new.keeper.firm
    firm-more = subst (λ (n : ℕ). old.keeper.firm ≤ n) (sym h.settled.firm_is) (renewed old.keeper.saver.in_doubt) where
      renewed : (b : Bool) → old.keeper.firm ≤ firm_renewed b old.book.entries old.keeper.firm wrote.Done
      renewed true = was.safe.at.within
      renewed false = omega arith

    pub settled-survive : Survives new.book old.keeper.firm (length old.book.entries) (state old.flash) (state new.flash)
    settled-survive =
        runs_joined (state old.flash) (state h.middle) (state new.flash) (λ m image. IsSafeImage new.book.config new.book.found new.book.opened new.book.entries old.keeper.firm (length old.book.entries) image)
        (survives-longer old.book new.book (told_by rg step) old.keeper.firm (length old.book.entries) (state old.flash) (state h.middle) h.made.longer
        (survives-settled old.book old.keeper.saver new.keeper.saver old.keeper.firm (state old.flash) (state h.middle) wrote.Done order geometry stored isolated was.safe h.settled.saves))
        (survives-less new.book new.keeper.firm old.keeper.firm (length old.book.entries) (length old.book.entries) (state h.middle) (state new.flash) firm-more (omega arith)
        (survives-relocated old.book new.book (state h.middle) (state new.flash) rg true step new.keeper.saver new.keeper.firm low order middle-geometry middle_stored middle_apart h.made h.run no-doubt settled-safe))

  -- ---- each answer

  module _ (low : rg < old.book.config.groups) (then_order : IsInOrder new.book) (then_stored : HoldsBook new.book (state new.flash)) (then_isolated : KeepsIsolated (state new.flash) new.book) (low_faults : handed.faults ≤ (state old.flash).faults) (keeper : IsKeeperOf new.book new.keeper) where
    -- behind the end of a doubt the flash holds what it held
    middle-prefix : (step : Step) (h : StepsSettled state old new rg step) → IsPrefix old.book (state old.flash) (state h.middle) h.settled.saves.calls.calls
    middle-prefix step h = settled-prefix old.book old.keeper.saver new.keeper.saver old.keeper.firm (state old.flash) (state h.middle) wrote.Done was.safe h.settled.saves

    middle-holds : (step : Step) (h : StepsSettled state old new rg step) → HoldsBook old.book (state h.middle)
    middle-holds step h = (prefix-stands old.book (state old.flash) (state h.middle) h.settled.saves.calls.calls (record { known = order.known; geometry = geometry; stored = stored }) (middle-prefix step h)).stored

    -- and keeps data apart as it did
    middle-apart : (step : Step) (h : StepsSettled state old new rg step) → KeepsApart (state h.middle) old.book
    middle-apart step h = prefix-apart old.book (state old.flash) (state h.middle) h.settled.saves.calls.calls (middle-prefix step h) apart

    unsettled : FailsToSettle state old new rg → IsSafe old.book new.keeper.saver new.keeper.firm (state new.flash)
    unsettled h =
        subst (λ (firm : ℕ). IsSafe old.book new.keeper.saver firm (state new.flash)) (sym h.failed.firm_is)
        (safe-settled old.book old.keeper.saver new.keeper.saver old.keeper.firm (state old.flash) (state new.flash) wrote.Failed order geometry stored isolated was.safe h.failed.saves)

    pub kept-collected : (x : Advance) → Collects state old new rg x → IsKept handed (state new.flash) new.book new.keeper
    kept-collected advance.Nothing h = steps-kept low steps.Nothing h
    kept-collected advance.Copied h = steps-kept low (steps.Copied h.0) h.1
    kept-collected advance.Moved h = moves-kept then_order then_stored then_isolated low_faults savings.Done h
    kept-collected advance.Erased (unit, inl h) = steps-kept low (steps.Erased unit) h
    kept-collected advance.Erased (unit, inr h) = settled-kept low (steps.Erased unit) h (omega arith) (middle-holds (steps.Erased unit) h) (middle-apart (steps.Erased unit) h) keeper
    kept-collected advance.Starved h = steps-kept low steps.Starved h
    kept-collected advance.Fault (inl h) = steps-kept low (steps.Fault h.0) h.1
    kept-collected advance.Fault (inr (inl h)) = settled-kept low (steps.Fault (lost.Retired h.0)) h.1 (omega arith) (middle-holds (steps.Fault (lost.Retired h.0)) h.1) (middle-apart (steps.Fault (lost.Retired h.0)) h.1) keeper
    kept-collected advance.Fault (inr (inr (inl h))) =
        subst (λ (d : BookSeen). IsKept handed (state new.flash) d new.keeper) (sym h.book)
        (kept-unsettled handed (state old.flash) (state new.flash) old.book old.keeper new.keeper was low_faults h.failed.saves h.failed.keeper (unsettled h))
    kept-collected advance.Fault (inr (inr (inr h))) = moves-kept then_order then_stored then_isolated low_faults h.0 h.2

    pub survives-collected : (x : Advance) → Collects state old new rg x → Survives new.book old.keeper.firm (length old.book.entries) (state old.flash) (state new.flash)
    survives-collected advance.Nothing h = steps-survive low steps.Nothing h
    survives-collected advance.Copied h = steps-survive low (steps.Copied h.0) h.1
    survives-collected advance.Moved h = moves-survive then_order then_stored then_isolated low_faults savings.Done h
    survives-collected advance.Erased (unit, inl h) = steps-survive low (steps.Erased unit) h
    survives-collected advance.Erased (unit, inr h) = settled-survive low (steps.Erased unit) h (omega arith) (middle-holds (steps.Erased unit) h) (middle-apart (steps.Erased unit) h) keeper
    survives-collected advance.Starved h = steps-survive low steps.Starved h
    survives-collected advance.Fault (inl h) = steps-survive low (steps.Fault h.0) h.1
    survives-collected advance.Fault (inr (inl h)) = settled-survive low (steps.Fault (lost.Retired h.0)) h.1 (omega arith) (middle-holds (steps.Fault (lost.Retired h.0)) h.1) (middle-apart (steps.Fault (lost.Retired h.0)) h.1) keeper
    survives-collected advance.Fault (inr (inr (inl h))) =
        subst (λ (d : BookSeen). Survives d old.keeper.firm (length old.book.entries) (state old.flash) (state new.flash)) (sym h.book)
        (survives-settled old.book old.keeper.saver new.keeper.saver old.keeper.firm (state old.flash) (state new.flash) wrote.Failed order geometry stored isolated was.safe h.failed.saves)
    survives-collected advance.Fault (inr (inr (inr h))) = moves-survive then_order then_stored then_isolated low_faults h.0 h.2

    same-firm : (step : Step) → Steps state old new rg step → old.keeper.firm ≤ new.keeper.firm
    same-firm step h = let same = ap (λ (k : KeeperSeen). k.firm) h.keeper in omega (arith, same)

    pub firm-collected : (x : Advance) → Collects state old new rg x → old.keeper.firm ≤ new.keeper.firm
    firm-collected advance.Nothing h = same-firm steps.Nothing h
    firm-collected advance.Copied h = same-firm (steps.Copied h.0) h.1
    firm-collected advance.Moved h = moves-firm then_order then_stored then_isolated low_faults savings.Done h
    firm-collected advance.Erased (unit, inl h) = same-firm (steps.Erased unit) h
    firm-collected advance.Erased (unit, inr h) = firm-more low (steps.Erased unit) h (omega arith) (middle-holds (steps.Erased unit) h) (middle-apart (steps.Erased unit) h) keeper
    firm-collected advance.Starved h = same-firm steps.Starved h
    firm-collected advance.Fault (inl h) = same-firm (steps.Fault h.0) h.1
    firm-collected advance.Fault (inr (inl h)) = firm-more low (steps.Fault (lost.Retired h.0)) h.1 (omega arith) (middle-holds (steps.Fault (lost.Retired h.0)) h.1) (middle-apart (steps.Fault (lost.Retired h.0)) h.1) keeper
    firm-collected advance.Fault (inr (inr (inl h))) = let same = h.failed.firm_is in omega (arith, same)
    firm-collected advance.Fault (inr (inr (inr h))) = moves-firm then_order then_stored then_isolated low_faults h.0 h.2

-- ---- what it leaves

-- none of the entries of a step of relocation completes a change
pub relocation-none : (c : DriveConfig) (rg : ℕ) (es : List Entry) → AreRelocationIn c rg es → All (λ e. IsFalse (completes e)) es
relocation-none c rg es inside = All-weaker (IsRelocationIn c rg) (λ e. IsFalse (completes e)) (λ e is. ap (λ (o : Option Host). option_map_or (λ (h : Host). is_completed h.command h.reply) o false) (quiet-entry c rg e is).0.host) es inside
