-- A step of relocation as a step of its own.
use Rattle.std.proofs.Common.{◌≡◌, ℕ, ◌+◌, ◌-◌, ◌≤◌, ◌<◌, true, false, List, [], ◌∷◌, length, refl, sym, ◌∙◌, subst, arith, ◌^◌, ap, inl, inr}
use Rattle.std.specs.Prelude.{IsTrue, ◌==◌}
use Rattle.std.proofs.lemmas.Bool.Decides.{nat_tests}
use Rattle.fdp_base.specs.declared.entry.Entry.{Entry}
use Rattle.fdp_relocation.specs.fdp_book.Book.{BookSeen, IsLonger, state_in}
use Rattle.fdp_relocation.specs.fdp_collector.Step.{IsUncalled}
use Rattle.fdp_core.specs.Answers as answers
use Rattle.fdp_core.specs.Answers.{CollectsStep}
use Rattle.fdp_core.specs.Seen.{Seen, stage_of}
use Rattle.fdp_core.specs.Sound.{IsSound}
use Rattle.fdp_core.specs.Steps.{IsGrown, Matches, steps_of}
use Rattle.fdp_core.proofs.Sound.{begun}
use Rattle.fdp_flash.specs.FlashState.{Call, FlashState}
use Rattle.fdp_loading.specs.fdp_ledger.WornOut.{IsWornOut}
use Rattle.fdp_loading.proofs.fdp_isolation.Apart as isolation
use Rattle.fdp_loading.specs.fdp_ledger.declared.counts.Counts.{Counts}
use Rattle.fdp_loading.proofs.fdp_ledger.Alike.{ledger-alike}
use Rattle.fdp_relocation.specs.declared.advance.Advance.{Advance}
use Rattle.fdp_relocation.specs.declared.advance.Advance.TheVariants as advance
use Rattle.fdp_relocation.specs.fdp_saving.declared.saved.Saved.TheVariants as savings
use Rattle.fdp_relocation.specs.Collected.{Collects}
use Rattle.fdp_core.specs.Advancing.{Advances, ComesTo, MovesCopies, TellsMore}
use Rattle.fdp_rules.specs.PlainState.{PlainState}
use Rattle.fdp_relocation.specs.fdp_saving.declared.saved.Saved.{Saved}
use Rattle.fdp_core.proofs.Rooms.{begun_seen}
use Rattle.fdp_roominess.proofs.Runs.{keeps-alike}
use Rattle.fdp_relocation.specs.fdp_book.declared.log.TheConstants.{MOST_STEP_ENTRIES}

-- ---- the step, or none

-- a step that added nothing is as if it had not begun
abbrev pub cancelled : BookSeen → BookSeen
cancelled d = record d { spare = d.spare + 1; spent = d.spent - 1; room = 0; may_move = false }

steps-none : (es : List Entry) → length es ≡ 0 → steps_of es ≡ 0
steps-none [] e = refl
steps-none (x ∷ es) e = absurd (omega (arith, e))

steps-some : (es : List Entry) → 1 ≤ length es → steps_of es ≡ 1
steps-some [] e = absurd (omega (arith, e))
steps-some (x ∷ es) e = refl

pub grown-cancelled : (b d : BookSeen) (es : List Entry) → IsLonger (begun b) d es → (d.room == MOST_STEP_ENTRIES) ≡ true → 0 < b.spare → IsGrown b (cancelled d) es
grown-cancelled b d es longer full spare =
    let room : d.room ≡ 300 = grind (arith, nat_tests, full) in
    let none = steps-none es (omega (arith, room, longer.room_is)) in
    record {
      config_is = longer.config_is;
      found_is = longer.found_is;
      opened_is = longer.opened_is;
      entries_are = longer.entries_are;
      spent_is = omega (arith, none, longer.spent_is);
      spare_is = omega (arith, none, longer.spare_is, spare);
    }

pub grown-kept : (b d : BookSeen) (es : List Entry) → IsLonger (begun b) d es → (d.room == MOST_STEP_ENTRIES) ≡ false → 0 < b.spare → IsGrown b d es
grown-kept b d es longer less spare =
    let some = steps-some es (grind (arith, nat_tests, less, longer.room_is)) in
    record {
      config_is = longer.config_is;
      found_is = longer.found_is;
      opened_is = longer.opened_is;
      entries_are = longer.entries_are;
      spent_is = omega (arith, some, longer.spent_is);
      spare_is = omega (arith, some, longer.spare_is, spare);
    }

pub sound-cancelled : (handed : Counts) (f : FlashState) (d : BookSeen) (block : List ℕ) → IsSound handed f d block → IsSound handed f (cancelled d) block
sound-cancelled handed f d block so = record { geometry = so.geometry; legal = so.legal; stored = so.stored; apart = λ tells opened. isolation.alike d (cancelled d) f.cells refl refl refl refl refl (so.apart tells opened); ledger = ledger-alike handed d (cancelled d) f refl refl refl refl refl so.ledger; room = keeps-alike handed.faults f.faults f.told d (cancelled d) refl refl refl refl refl so.room; buffer = so.buffer }

-- a step that added nothing may still move
pub may-still : {F : Type 0} (state : F → FlashState) (old mid : Seen F) (rg : ℕ) (x : Advance) → Collects state (stage_of old) (stage_of mid) rg x → old.book.may_move ≡ true → old.book.room ≡ MOST_STEP_ENTRIES → (mid.book.room == MOST_STEP_ENTRIES) ≡ true → IsTrue mid.book.may_move
may-still state old mid rg advance.Nothing h may room full = h.made.move_is ∙ may
may-still state old mid rg advance.Copied h may room full = h.1.made.move_is ∙ may
may-still state old mid rg advance.Moved h may room full = let same : mid.book.room ≡ MOST_STEP_ENTRIES = grind (arith, nat_tests, full) in absurd (omega (arith, room, same, h.moved.longer.room_is))
may-still state old mid rg advance.Erased (unit, inl h) may room full = h.made.move_is ∙ may
may-still state old mid rg advance.Erased (unit, inr h) may room full = h.made.move_is ∙ may
may-still state old mid rg advance.Starved h may room full = h.made.move_is ∙ may
may-still state old mid rg advance.Fault (inl h) may room full = h.1.made.move_is ∙ may
may-still state old mid rg advance.Fault (inr (inl h)) may room full = h.1.made.move_is ∙ may
may-still state old mid rg advance.Fault (inr (inr (inl h))) may room full = ap (λ (b : BookSeen). b.may_move) h.book ∙ may
may-still state old mid rg advance.Fault (inr (inr (inr h))) may room full = let same : mid.book.room ≡ MOST_STEP_ENTRIES = grind (arith, nat_tests, full) in absurd (omega (arith, room, same, h.2.moved.longer.room_is))

-- ---- what it is

module _ {F : Type 0} (state : F → FlashState) (old mid new : Seen F) (rg : ℕ) (handed : new.handed ≡ old.handed) (flash : new.flash ≡ mid.flash) (pages : new.book.pages ≡ mid.book.pages) (same : state_in new.book ≡ state_in mid.book) where
  moves : (answer : Saved) (es : List Entry) (calls : List Call) → MovesCopies (begun old.book) old.keeper.saver rg answer es calls → MovesCopies old.book old.keeper.saver rg answer es calls
  moves answer es calls h = record { due = h.due; entries_are = h.entries_are; calls_are = h.calls_are }

  came : (x : Advance) (es : List Entry) (calls : List Call) → ComesTo (begun old.book) old.keeper.saver mid.book rg x es calls → ComesTo old.book old.keeper.saver new.book rg x es calls
  came advance.Nothing es calls h = record { due = h.due; entries_are = h.entries_are; calls_are = h.calls_are; pages = pages ∙ h.pages }
  came advance.Copied es calls h = record { copy = h.copy; due = h.due; entries_are = h.entries_are; calls_are = h.calls_are }
  came advance.Moved es calls h = moves savings.Done es calls h
  came advance.Erased es calls h = record { unit = h.unit; due = h.due; entries_are = h.entries_are; settling = h.settling; settled = h.settled; calls_are = h.calls_are }
  came advance.Starved es calls h = record { from = h.from; due = h.due; free = h.free; entries_are = h.entries_are; calls_are = h.calls_are }
  came advance.Fault es calls (inl h) = inl h
  came advance.Fault es calls (inr (inl h)) = inr (inl (record { unit = h.unit; due = h.due; entries_are = h.entries_are; settled = h.settled; fails = h.fails; pages = pages ∙ h.pages }))
  came advance.Fault es calls (inr (inr h)) = inr (inr (record { answer = h.answer; not_done = h.not_done; moves = moves h.answer es calls h.moves; fails = h.fails }))

  as-step : (x : Advance) (a : Advances state (begun_seen old) mid rg x) → IsGrown old.book new.book a.es → CollectsStep state old new rg x
  as-step x a grown = record {
    es = a.es;
    calls = a.calls;
    came = came x a.es a.calls a.came;
    step = record {
      book = grown;
      handed_is = handed;
      matches = subst (λ (y : F). Matches (state old.flash) (state y) a.es a.calls) (sym flash) a.relocates.extends.matches;
    };
  }

  pub collected : (x : Advance) (a : Advances state (begun_seen old) mid rg x) → TellsMore state (begun_seen old) mid rg x → IsGrown old.book new.book a.es → answers.Collects state old new rg x
  collected advance.Nothing a more grown = (as-step advance.Nothing a grown, subst (λ (y : F). IsUncalled (state old.flash) (state y)) (sym flash) more)
  collected advance.Copied a more grown = as-step advance.Copied a grown
  collected advance.Moved a more grown = as-step advance.Moved a grown
  collected advance.Erased a more grown = as-step advance.Erased a grown
  collected advance.Starved a more grown = (
    as-step advance.Starved a grown,
    subst (λ (s : PlainState). IsWornOut old.handed (state new.flash) s.is_lost rg) (sym same)
        (subst (λ (k : Counts). IsWornOut k (state new.flash) (state_in mid.book).is_lost rg) a.relocates.extends.handed_is
        (subst (λ (y : F). IsWornOut mid.handed (state y) (state_in mid.book).is_lost rg) (sym flash) more)),
  )
  collected advance.Fault a more grown = as-step advance.Fault a grown

-- a step that added nothing spent nothing: as many checkpoints were written at most as entries were added and steps spent
pub cancelled-epochs : (b d : BookSeen) (es : List Entry) (old now : ℕ) → IsLonger (begun b) d es → (d.room == MOST_STEP_ENTRIES) ≡ true → old ≤ 2 ^ 62 + length b.entries + b.spent → now + length b.entries ≤ old + length d.entries → now ≤ 2 ^ 62 + length d.entries + (cancelled d).spent
cancelled-epochs b d es old now longer full was more = omega (arith, was, more, longer.spent_is)

-- what holds from the book of a step that has begun
pub from-begun : {F : Type 0} (old : Seen F) (now : BookSeen) (P : Seen F → Type 0) → now ≡ begun old.book → P (record { book = now; keeper = old.keeper; handed = old.handed; flash = old.flash }) → P (begun_seen old)
from-begun old now P is h = subst (λ (b : BookSeen). P (record { book = b; keeper = old.keeper; handed = old.handed; flash = old.flash })) is h
