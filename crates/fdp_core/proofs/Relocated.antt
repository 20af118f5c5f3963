-- What a step of relocation leaves of how a group stands for its history.
use Rattle.std.proofs.Common.{◌≡◌, ℕ, ◌≤◌, ◌<◌, true, List, [], ◌∷◌, length, sym, ◌∙◌, ap, subst, arith, Bool, inl, inr, refl, not}
use Rattle.std.specs.Prelude.{IsTrue}
use Rattle.fdp_base.specs.declared.config.DriveConfig.{DriveConfig}
use Rattle.fdp_base.specs.declared.entry.Entry.{Entry}
use Rattle.fdp_base.specs.Placement.{geometry_of}
use Rattle.fdp_relocation.specs.fdp_book.Book.{BookSeen, IsLonger, written_in}
use Rattle.fdp_relocation.specs.fdp_book.Relocating.{MayFollow, MovesPass, Relocates, told_by}
use Rattle.fdp_relocation.specs.fdp_collector.declared.step.Lost.TheVariants as lost
use Rattle.fdp_relocation.specs.fdp_collector.declared.step.Step.{Step}
use Rattle.fdp_relocation.specs.fdp_collector.declared.step.Step.TheVariants as steps
use Rattle.fdp_core.specs.Seen.{IsLegalOver}
use Rattle.fdp_core.specs.Sound.{IsSound}
use Rattle.fdp_core.proofs.Apart.{apart-relocated, apart-moved}
use Rattle.fdp_core.proofs.Pushed.{legal-none, legal-one}
use Rattle.fdp_flash.specs.declared.cell.Cell.{Cell}
use Rattle.fdp_flash.specs.FlashState.{Call, FlashState}
use Rattle.fdp_flash.specs.Runs.{Runs}
use Rattle.fdp_loading.specs.fdp_isolation.Laned.{IsKnown}
use Rattle.fdp_loading.specs.fdp_ledger.declared.counts.Counts.{Counts}
use Rattle.fdp_loading.proofs.fdp_ledger.Moved.{ledger-moved}
use Rattle.fdp_loading.proofs.fdp_ledger.Relocated.{ledger-relocated}
use Rattle.fdp_relocation.specs.fdp_locations.Stored.{HoldsWritten}
use Rattle.fdp_relocation.specs.declared.advance.Advance.{Advance}
use Rattle.fdp_relocation.specs.declared.advance.Advance.TheVariants as advance
use Rattle.fdp_relocation.specs.Collected.{Collects, Moves, SavesMove, Stage, Steps, StepsSettled}
use Rattle.fdp_core.proofs.Passing.{longer-none, IsPrefix, prefix-apart, resting-prefix, saving-prefix, settled-prefix, prefix-stands}
use Rattle.fdp_flash.proofs.Runs.{no_run}
use Rattle.fdp_relocation.specs.fdp_saving.declared.saved.Saved.{Saved}
use Rattle.fdp_relocation.specs.fdp_saving.declared.saved.Saved.TheVariants as savings
use Rattle.fdp_flash.specs.declared.answer.Wrote.TheVariants as wrote
use Rattle.fdp_loading.specs.fdp_survival.Books.{IsSafe}
use Rattle.fdp_loading.proofs.fdp_ledger.System.{ledger-system}
use Rattle.fdp_loading.proofs.fdp_ledger.Called.{after-made}
use Rattle.fdp_roominess.proofs.Runs.{keeps-called}
use Rattle.fdp_roominess.proofs.Stepped.{keeps-moved, keeps-relocated}
use Rattle.fdp_passes.specs.declared.due.Due.TheVariants as due
use Rattle.fdp_passes.specs.Due.{IsDue}
use Rattle.fdp_relocation.specs.fdp_pages.PageTables.{passes_at}

-- the same entries may follow, one at most
legal-told : (f n : FlashState) (b d : BookSeen) (es : List Entry) → length es ≤ 1 → IsLonger b d es → n.told ≡ f.told → f.moment ≤ n.moment → IsLegalOver f b → MayFollow b es → IsLegalOver n d
legal-told f n b d [] few longer told later legal may = legal-none f n b d longer told later legal
legal-told f n b d (e ∷ []) few longer told later legal may = legal-one f n b d e longer told later legal (λ _. may n.told)
legal-told f n b d (x ∷ y ∷ es) few longer told later legal may = absurd (omega (arith, few))

pub one-at-most : (rg : ℕ) (step : Step) → length (told_by rg step) ≤ 1
one-at-most rg steps.Nothing = omega arith
one-at-most rg (steps.Copied copy) = omega arith
one-at-most rg steps.ReadyToMove = omega arith
one-at-most rg (steps.Erased unit) = omega arith
one-at-most rg steps.EraseDue = omega arith
one-at-most rg steps.Starved = omega arith
one-at-most rg (steps.Fault lost.None) = omega arith
one-at-most rg (steps.Fault (lost.Aside unit)) = omega arith
one-at-most rg (steps.Fault (lost.Retired unit)) = omega arith

-- what a step left, as far as it is told apart
pub record IsLeft (f n : FlashState) (b d : BookSeen) : Type 0 where
  pub config_is : d.config ≡ b.config
  pub legal : n.told ≡ f.told → f.moment ≤ n.moment → IsLegalOver f b → IsLegalOver n d

left-told : (f n : FlashState) (b d : BookSeen) (rg : ℕ) (may : Bool) (step : Step) → Relocates b d f n rg may step → IsLeft f n b d
left-told f n b d rg may step h = record { config_is = h.longer.config_is; legal = λ told later legal. legal-told f n b d (told_by rg step) (one-at-most rg step) h.longer told later legal h.follows }

-- ---- each part of a step

-- a step of relocation of the book
sound-stepped : (handed : Counts) (f n : FlashState) (b d : BookSeen) (rg : ℕ) (may : Bool) (step : Step) (Image : ℕ → List Cell → Type 0) (block now : List ℕ) → rg < b.config.groups → IsKnown b → IsSound handed f b block → Relocates b d f n rg may step → Runs f n Image
    → (IsTrue n.told → HoldsWritten n.geometry n.cells (written_in d) d.pages.units) → length now ≡ length block → IsSound handed n d now
sound-stepped handed f n b d rg may step Image block now low known so h run stored size =
    let was = left-told f n b d rg may step h in
    record {
      geometry = run.geometry ∙ so.geometry ∙ ap geometry_of (sym was.config_is);
      legal = was.legal run.told run.later so.legal;
      stored = stored;
      apart = apart-relocated f n b d rg low so.geometry known so.stored run.told so.apart may step h;
      ledger = ledger-relocated handed b d f n rg may step Image low known.joined known.units so.geometry so.stored h run so.ledger;
      room = keeps-relocated handed.faults b d f n rg may Image low known run so.room step h;
      buffer = size ∙ so.buffer ∙ ap (λ (c : DriveConfig). c.block) (sym was.config_is);
    }

-- calls in the system units
pub sound-prefix : (handed : Counts) (f n : FlashState) (b : BookSeen) (calls : List Call) (block : List ℕ) → IsKnown b → IsPrefix b f n calls → IsSound handed f b block → IsSound handed n b block
sound-prefix handed f n b calls block known h so =
    let stands = prefix-stands b f n calls (record { known = known; geometry = so.geometry; stored = so.stored }) h in
    record {
      geometry = stands.geometry;
      legal = legal-none f n b b (longer-none b) h.made.run.told h.made.run.later so.legal;
      stored = stands.stored;
      apart = prefix-apart b f n calls h so.apart;
      ledger = ledger-system b f n calls so.geometry h.behind h.programs h.same handed known.units (after-made f n calls h.made) so.ledger;
      room = keeps-called handed.faults f.faults n.faults f.told n.told b h.made.run.told h.made.run.faults so.room;
      buffer = so.buffer;
    }

-- a move, which calls no flash
sound-moved : (handed : Counts) (f : FlashState) (b d : BookSeen) (rg : ℕ) (block now : List ℕ) → rg < b.config.groups → IsDue (passes_at b.pages rg) b.pages.units b.pages.owners rg due.Move → IsKnown b → IsSound handed f b block → MovesPass b d rg → (IsTrue f.told → HoldsWritten f.geometry f.cells (written_in d) d.pages.units) → length now ≡ length block → IsSound handed f d now
sound-moved handed f b d rg block now low is_due known so h stored size = record {
  geometry = so.geometry ∙ ap geometry_of (sym h.longer.config_is);
  legal = legal-one f f b d _ h.longer refl (omega arith) so.legal (λ _. h.follows f.told);
  stored = stored;
  apart = apart-moved f b d rg known h so.apart;
  ledger = ledger-moved handed b d f f rg (λ m image. Unit {0}) known.joined h (record { moment = refl; faults = refl; programs = refl; cells = λ told. refl; calls = λ tells. refl }) (no_run f (λ m image. Unit {0})) so.ledger;
  room = keeps-moved handed.faults f.faults f.told b d rg low known is_due h so.room;
  buffer = size ∙ so.buffer ∙ ap (λ (c : DriveConfig). c.block) (sym h.longer.config_is);
}

-- a buffer of the same size
sound-filled : (handed : Counts) (f : FlashState) (b : BookSeen) (block now : List ℕ) → length now ≡ length block → IsSound handed f b block → IsSound handed f b now
sound-filled handed f b block now size so = record { geometry = so.geometry; legal = so.legal; stored = so.stored; apart = so.apart; ledger = so.ledger; room = so.room; buffer = size ∙ so.buffer }

-- ---- a step

module _ {F : Type 0} (state : F → FlashState) (handed : Counts) (old new : Stage F) (rg : ℕ) (block now : List ℕ) (low : rg < old.book.config.groups) (known : IsKnown old.book) (safe : IsSafe old.book old.keeper.saver old.keeper.firm (state old.flash)) (so : IsSound handed (state old.flash) old.book block)
    (stored : IsTrue (state new.flash).told → HoldsWritten (state new.flash).geometry (state new.flash).cells (written_in new.book) new.book.pages.units) (size : length now ≡ length block) where
  stepped : (step : Step) → Steps state old new rg step → IsSound handed (state new.flash) new.book now
  stepped step h = sound-stepped handed (state old.flash) (state new.flash) old.book new.book rg (not old.keeper.saver.in_doubt) step _ block now low known so h.made h.run stored size

  settled : (step : Step) → StepsSettled state old new rg step → IsSound handed (state new.flash) new.book now
  settled step h =
      sound-stepped handed (state h.middle) (state new.flash) old.book new.book rg true step _ block now low known
      (sound-prefix handed (state old.flash) (state h.middle) old.book h.settled.saves.calls.calls block known (settled-prefix old.book old.keeper.saver new.keeper.saver old.keeper.firm (state old.flash) (state h.middle) wrote.Done safe h.settled.saves) so) h.made h.run stored size

  moved : (answer : Saved) → Moves state old new rg answer → IsSound handed (state new.flash) new.book now
  moved answer h = chosen h.saved where
    chosen : SavesMove state old new rg answer → IsSound handed (state new.flash) new.book now
    chosen (inl none) = sound-moved handed (state new.flash) old.book new.book rg block now low h.due known (sound-prefix handed (state old.flash) (state new.flash) old.book [] block known (resting-prefix old.book (state old.flash) (state new.flash) none.3) so) h.moved stored size
    chosen (inr some) =
        let saves = some.1.saves in
        let prefix = saving-prefix old.book _ old.keeper.saver new.keeper.saver old.keeper.firm (state old.flash) (state new.flash) answer safe saves in
        sound-moved handed (state new.flash) old.book new.book rg block now low h.due known (sound-prefix handed (state old.flash) (state new.flash) old.book saves.calls.calls block known prefix so) h.moved stored size

  pub sound-collected : (x : Advance) → Collects state old new rg x → IsSound handed (state new.flash) new.book now
  sound-collected advance.Nothing h = stepped steps.Nothing h
  sound-collected advance.Copied h = stepped (steps.Copied h.0) h.1
  sound-collected advance.Moved h = moved savings.Done h
  sound-collected advance.Erased (unit, inl h) = stepped (steps.Erased unit) h
  sound-collected advance.Erased (unit, inr h) = settled (steps.Erased unit) h
  sound-collected advance.Starved h = stepped steps.Starved h
  sound-collected advance.Fault (inl h) = stepped (steps.Fault h.0) h.1
  sound-collected advance.Fault (inr (inl h)) = settled (steps.Fault (lost.Retired h.0)) h.1
  sound-collected advance.Fault (inr (inr (inl h))) =
      subst (λ (d : BookSeen). IsSound handed (state new.flash) d now) (sym h.book)
      (sound-filled handed (state new.flash) old.book block now size
      (sound-prefix handed (state old.flash) (state new.flash) old.book h.failed.saves.calls.calls block known (settled-prefix old.book old.keeper.saver new.keeper.saver old.keeper.firm (state old.flash) (state new.flash) wrote.Failed safe h.failed.saves) so))
  sound-collected advance.Fault (inr (inr (inr h))) = moved h.0 h.2

-- ---- the flash

-- whether it tells of its cells does not change
pub told-collected : {F : Type 0} (state : F → FlashState) (old new : Stage F) (rg : ℕ) (x : Advance) → Collects state old new rg x → (state new.flash).told ≡ (state old.flash).told
told-collected {F} state old new rg = of where
  moved : (answer : Saved) → Moves state old new rg answer → (state new.flash).told ≡ (state old.flash).told
  moved answer h = elim h.saved [
    | inl none ↦ none.3.run.told
    | inr some ↦ some.1.saves.calls.made.run.told
  ]

  of : (x : Advance) → Collects state old new rg x → (state new.flash).told ≡ (state old.flash).told
  of advance.Nothing h = h.run.told
  of advance.Copied h = h.1.run.told
  of advance.Moved h = moved savings.Done h
  of advance.Erased (unit, inl h) = h.run.told
  of advance.Erased (unit, inr h) = h.run.told ∙ h.settled.saves.calls.made.run.told
  of advance.Starved h = h.run.told
  of advance.Fault (inl h) = h.1.run.told
  of advance.Fault (inr (inl h)) = h.1.run.told ∙ h.1.settled.saves.calls.made.run.told
  of advance.Fault (inr (inr (inl h))) = h.failed.saves.calls.made.run.told
  of advance.Fault (inr (inr (inr h))) = moved h.0 h.2
