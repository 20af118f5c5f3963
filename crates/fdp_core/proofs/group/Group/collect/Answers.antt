use Rattle.std.proofs.Common.{◌≡◌, ◌<◌, ⊎_elim, ℕ, true, false, refl, sym, subst, ap, ◌∙◌, List, []}
use Rattle.std.specs.Prelude.{IsTrue, ◌==◌, ◌+◌, ◌≤◌, length}
use Rattle.fdp_relocation.specs.fdp_book.Book.{BookSeen, IsLonger, point_in, state_in}
use Rattle.fdp_core.specs.Advancing.{Advances, TellsMore}
use Rattle.fdp_core.specs.Answers as answers
use Rattle.fdp_core.specs.Seen.{Seen, stage_of}
use Rattle.fdp_core.specs.Sound.{IsWhole}
use Rattle.fdp_core.specs.Steps.{IsGrown}
use Rattle.fdp_core.specs.Stops.{IsIsolatedBy, OutlastsStops}
use Rattle.fdp_core.proofs.Collecting.{cancelled, cancelled-epochs, collected, from-begun, grown-cancelled, grown-kept, may-still, sound-cancelled}
use Rattle.fdp_core.proofs.Kept.{kept-alike}
use Rattle.fdp_core.proofs.Rooms.{begun_seen}
use Rattle.fdp_core.proofs.Sound.{begun}
use Rattle.fdp_core.proofs.Wholes.{outlasts-begun, whole-begun}
use Rattle.fdp_relocation.specs.declared.advance.Advance.{Advance}
use Rattle.fdp_relocation.specs.declared.advance.Advance.TheVariants as advances
use Rattle.fdp_relocation.specs.fdp_saving.declared.saved.Saved.TheVariants as saved
use Rattle.fdp_rules.specs.Sites.{moved_blocks}
use Rattle.fdp_relocation.specs.Collected.{Collects, Moves}
use Rattle.fdp_loading.specs.fdp_survival.Apart.{IsStopApart}
use Rattle.fdp_loading.specs.Opens.{LeavesOpen}
use Rattle.fdp_core.proofs.group.Group.collect.Goals as goal
use Rattle.fdp_image.specs.Kept.{AreFirm, IsStopSafe}
use Rattle.fdp_base.specs.declared.entry.Entry.{Entry}
use Rattle.fdp_flash.specs.FlashState.{FlashState}
use Rattle.fdp_relocation.specs.fdp_keeper.Keeper.{KeeperSeen}
use Rattle.fdp_roominess.specs.Run.{IsRoomyImage}
use Rattle.fdp_flash.specs.Runs.{Runs}
use Rattle.fdp_base.specs.Counts.{Rose}
use Rattle.fdp_relocation.specs.fdp_book.declared.log.TheConstants.{MOST_STEP_ENTRIES}

pub invariant_of-self : goal.invariant_of-self
invariant_of-self g c =
    let inside = c.self.inside in
    let f = g.F.Flash.state inside.flash in
    subst (λ (b : BookSeen). IsWhole inside.handed f b inside.keeper inside.block.items) (sym c.begin.ensures) (whole-begun inside.handed f inside.book inside.keeper inside.block.items c.self.invariant)

-- a move of blocks that was made is firm
firm-moved : {F : Type 0} (state : F → FlashState) (old mid : Seen F) (rg : ℕ) (x : Advance) → x ≡ advances.Moved → (moved_blocks (point_in old.book) rg ≡ [] → ⊥) → Collects state (stage_of (begun_seen old)) (stage_of mid) rg x → mid.keeper.firm ≡ length mid.book.entries
firm-moved state old mid rg x is some came =
    let m : Moves state (stage_of (begun_seen old)) (stage_of mid) rg saved.Done = subst (Collects state (stage_of (begun_seen old)) (stage_of mid) rg) is came in
    ⊎_elim (λ none. absurd (some none.0)) (λ kept. kept.1.firm_is ∙ sym (ap (λ (es : List Entry). length es) m.moved.longer.entries_are)) m.saved

-- ---- nothing was added

pub cancel-requires-clause-may_move : goal.cancel-requires-clause-may_move
cancel-requires-clause-may_move g c =
    let state = g.F.Flash.state in
    let old : Seen g.row.F.Denot = record { book = c.self.inside.book; keeper = c.self.inside.keeper; handed = c.self.inside.handed; flash = c.self.inside.flash } in
    let mid = c.advance-advance.new.self in
    let collects = from-begun old c.begin.new.self (λ s. Collects state (stage_of s) (stage_of mid) c.args.rg c.advance-advance.result) c.begin.ensures c.advance-advance.ensures.collects in
    let full = subst (λ (s : Seen g.row.F.Denot). (s.book.room == MOST_STEP_ENTRIES) ≡ true) c.self-2.view_is (sym c.has_added_nothing.ensures ∙ c.if-has_added_nothing.true) in
    subst (λ (s : Seen g.row.F.Denot). IsTrue s.book.may_move) (sym c.self-2.view_is) (may-still state (begun_seen old) mid c.args.rg c.advance-advance.result collects refl refl full)

-- the step, by the group behind it as it was opened
is-mid : {F : Type 0} (state : F → FlashState) (old mid new : Seen F) (now : BookSeen) (rg : ℕ) (x : Advance) → now ≡ begun old.book → Advances state (record { book = now; keeper = old.keeper; handed = old.handed; flash = old.flash }) mid rg x →
    TellsMore state (record { book = now; keeper = old.keeper; handed = old.handed; flash = old.flash }) mid rg x → new.handed ≡ old.handed → new.flash ≡ mid.flash → new.book.pages ≡ mid.book.pages → state_in new.book ≡ state_in mid.book →
    ((a : Advances state (begun_seen old) mid rg x) → IsGrown old.book new.book a.es) → answers.Collects state old new rg x
is-mid state old mid new now rg x is step told handed flash pages same grown =
    let a = from-begun old now (λ s. Advances state s mid rg x) is step in
    collected state old mid new rg handed flash pages same x a (from-begun old now (λ s. TellsMore state s mid rg x) is told) (grown a)

-- a flash that is the same one is counted as the same
stops-mid : {F : Type 0} (state : F → FlashState) (old mid new : Seen F) → new.keeper ≡ mid.keeper → new.flash ≡ mid.flash → new.book ≡ cancelled mid.book → OutlastsStops state old mid → OutlastsStops state old new
stops-mid {F} state old mid new keeper flash book h = record {
  stops =
      subst (λ (x : F). IsStopSafe old.book.config old.book.found new.book.entries old.keeper.firm new.keeper.firm (state old.flash) (state x)) (sym flash)
      (subst (λ (k : KeeperSeen). IsStopSafe old.book.config old.book.found new.book.entries old.keeper.firm k.firm (state old.flash) (state mid.flash)) (sym keeper)
      (subst (λ (es : List Entry). IsStopSafe old.book.config old.book.found es old.keeper.firm mid.keeper.firm (state old.flash) (state mid.flash)) (sym entries_are) h.stops));
  roomy = λ began well.
      subst (λ (x : F). Runs (state old.flash) (state x) (λ m image. IsRoomyImage old.book.config image)) (sym flash) (h.roomy began (subst (λ (x : F). Rose old.handed.faults (state x).faults → ⊥) flash well));
  apart = λ opened.
      subst (λ (x : F). IsStopApart old.book.config old.book.found new.book.entries (length old.book.entries) (state old.flash) (state x)) (sym flash)
      (subst (λ (es : List Entry). IsStopApart old.book.config old.book.found es (length old.book.entries) (state old.flash) (state mid.flash)) (sym entries_are) (h.apart opened));
  isolated = λ opened.
      subst (λ (x : F). Runs (state old.flash) (state x) (λ m image. IsIsolatedBy new.book image)) (sym flash)
      (subst (λ (b : BookSeen). Runs (state old.flash) (state mid.flash) (λ m image. IsIsolatedBy b image)) (sym book) (h.isolated opened));
  opens = subst (λ (x : F). LeavesOpen old.book.config (state old.flash) (state x)) (sym flash) h.opens;
  more = subst (λ (k : KeeperSeen). old.keeper.firm ≤ k.firm) (sym keeper) h.more;
  firm = subst (λ (k : KeeperSeen). AreFirm new.book.entries k.firm) (sym keeper) (subst (λ (es : List Entry). AreFirm es mid.keeper.firm) (sym entries_are) h.firm);
} where
  entries_are : new.book.entries ≡ mid.book.entries
  entries_are = ap (λ (b : BookSeen). b.entries) book

pub invariant_of-self-then-has_added_nothing : goal.invariant_of-self-then-has_added_nothing
invariant_of-self-then-has_added_nothing g c =
    let state = g.F.Flash.state in
    let inside = c.self.inside in
    let behind = c.self-2.inside in
    let old : Seen g.row.F.Denot = record { book = inside.book; keeper = inside.keeper; handed = inside.handed; flash = inside.flash } in
    let mid = c.advance-advance.new.self in
    let a = from-begun old c.begin.new.self (λ s. Advances state s mid c.args.rg c.advance-advance.result) c.begin.ensures c.advance-advance.ensures.step in
    let more = from-begun old c.begin.new.self (λ s. mid.keeper.saver.stamp.epoch + length s.book.entries ≤ s.keeper.saver.stamp.epoch + length mid.book.entries) c.begin.ensures c.advance-advance.ensures.epochs in
    let full = sym c.has_added_nothing.ensures ∙ c.if-has_added_nothing.true in
    let longer = subst (λ (s : Seen g.row.F.Denot). IsLonger (begun inside.book) s.book a.es) (sym c.self-2.view_is) a.relocates.extends.book in
    let epochs = subst (λ (s : Seen g.row.F.Denot). s.keeper.saver.stamp.epoch + length inside.book.entries ≤ inside.keeper.saver.stamp.epoch + length s.book.entries) (sym c.self-2.view_is) more in
    subst (λ (b : BookSeen). IsWhole behind.handed (state behind.flash) b behind.keeper behind.block.items) (sym c.cancel.ensures)
    (record {
      sound = sound-cancelled behind.handed (state behind.flash) behind.book behind.block.items c.self-2.invariant.sound;
      kept = kept-alike behind.handed (state behind.flash) behind.book (cancelled behind.book) behind.keeper refl refl refl refl refl
          (cancelled-epochs inside.book behind.book a.es inside.keeper.saver.stamp.epoch behind.keeper.saver.stamp.epoch longer full c.self.invariant.kept.epochs epochs) c.self-2.invariant.kept;
    })

pub returns-then-has_added_nothing-clause-step : goal.returns-then-has_added_nothing-clause-step
returns-then-has_added_nothing-clause-step g c =
    let state = g.F.Flash.state in
    let inside = c.self.inside in
    let mid = c.advance-advance.new.self in
    let old : Seen g.row.F.Denot = record { book = inside.book; keeper = inside.keeper; handed = inside.handed; flash = inside.flash } in
    let new : Seen g.row.F.Denot = record { book = c.cancel.new.self; keeper = c.self-2.inside.keeper; handed = c.self-2.inside.handed; flash = c.self-2.inside.flash } in
    let book : c.self-2.inside.book ≡ mid.book = ap (λ (s : Seen g.row.F.Denot). s.book) c.self-2.view_is in
    let full = subst (λ (s : Seen g.row.F.Denot). (s.book.room == MOST_STEP_ENTRIES) ≡ true) c.self-2.view_is (sym c.has_added_nothing.ensures ∙ c.if-has_added_nothing.true) in
    let final : new.book ≡ cancelled mid.book = c.cancel.ensures ∙ ap cancelled book in
    let handed : mid.handed ≡ old.handed = (from-begun old c.begin.new.self (λ s. Advances state s mid c.args.rg c.advance-advance.result) c.begin.ensures c.advance-advance.ensures.step).relocates.extends.handed_is in
    subst (λ (s : Seen g.row.F.Denot). 0 < s.book.spare → answers.Collects state s new c.args.rg c.advance-advance.result) c.self.view_is
    (λ spare. is-mid state old mid new c.begin.new.self c.args.rg c.advance-advance.result c.begin.ensures c.advance-advance.ensures.step c.advance-advance.ensures.told
    (ap (λ (s : Seen g.row.F.Denot). s.handed) c.self-2.view_is ∙ handed) (ap (λ (s : Seen g.row.F.Denot). s.flash) c.self-2.view_is) (ap (λ (b : BookSeen). b.pages) final) (ap state_in final)
    (λ a. subst (λ (b : BookSeen). IsGrown inside.book b a.es) (sym final) (grown-cancelled inside.book mid.book a.es a.relocates.extends.book full spare)))
    c.requires.spare

pub returns-then-has_added_nothing-clause-stops : goal.returns-then-has_added_nothing-clause-stops
returns-then-has_added_nothing-clause-stops g c =
    let state = g.F.Flash.state in
    let inside = c.self.inside in
    let mid = c.advance-advance.new.self in
    let old : Seen g.row.F.Denot = record { book = inside.book; keeper = inside.keeper; handed = inside.handed; flash = inside.flash } in
    let new : Seen g.row.F.Denot = record { book = c.cancel.new.self; keeper = c.self-2.inside.keeper; handed = c.self-2.inside.handed; flash = c.self-2.inside.flash } in
    subst (λ (s : Seen g.row.F.Denot). OutlastsStops state s new) c.self.view_is
    (stops-mid state old mid new (ap (λ (s : Seen g.row.F.Denot). s.keeper) c.self-2.view_is) (ap (λ (s : Seen g.row.F.Denot). s.flash) c.self-2.view_is) (c.cancel.ensures ∙ ap cancelled (ap (λ (s : Seen g.row.F.Denot). s.book) c.self-2.view_is))
    (outlasts-begun refl c.begin.ensures c.self.invariant.kept.safe.at.firm_is c.advance-advance.ensures.safe c.advance-advance.ensures.stops))

-- ---- an entry was added

pub returns-else-has_added_nothing-clause-step : goal.returns-else-has_added_nothing-clause-step
returns-else-has_added_nothing-clause-step g c =
    let state = g.F.Flash.state in
    let inside = c.self.inside in
    let mid = c.advance-advance.new.self in
    let old : Seen g.row.F.Denot = record { book = inside.book; keeper = inside.keeper; handed = inside.handed; flash = inside.flash } in
    let less = subst (λ (s : Seen g.row.F.Denot). (s.book.room == MOST_STEP_ENTRIES) ≡ false) c.self-2.view_is (sym c.has_added_nothing.ensures ∙ c.if-has_added_nothing.false) in
    let handed : mid.handed ≡ old.handed = (from-begun old c.begin.new.self (λ s. Advances state s mid c.args.rg c.advance-advance.result) c.begin.ensures c.advance-advance.ensures.step).relocates.extends.handed_is in
    subst (λ (s : Seen g.row.F.Denot). 0 < s.book.spare → answers.Collects state s mid c.args.rg c.advance-advance.result) c.self.view_is
    (λ spare. is-mid state old mid mid c.begin.new.self c.args.rg c.advance-advance.result c.begin.ensures c.advance-advance.ensures.step c.advance-advance.ensures.told handed refl refl refl
    (λ a. grown-kept inside.book mid.book a.es a.relocates.extends.book less spare))
    c.requires.spare

pub returns-else-has_added_nothing-clause-stops : goal.returns-else-has_added_nothing-clause-stops
returns-else-has_added_nothing-clause-stops g c = outlasts-begun c.self.view_is c.begin.ensures c.self.invariant.kept.safe.at.firm_is c.advance-advance.ensures.safe c.advance-advance.ensures.stops

pub returns-then-has_added_nothing-clause-firm : goal.returns-then-has_added_nothing-clause-firm
returns-then-has_added_nothing-clause-firm g c =
    let state = g.F.Flash.state in
    let inside = c.self.inside in
    let mid = c.advance-advance.new.self in
    let old : Seen g.row.F.Denot = record { book = inside.book; keeper = inside.keeper; handed = inside.handed; flash = inside.flash } in
    let keeper : c.self-2.inside.keeper ≡ mid.keeper = ap (λ (s : Seen g.row.F.Denot). s.keeper) c.self-2.view_is in
    let final : c.cancel.new.self ≡ cancelled mid.book = c.cancel.ensures ∙ ap cancelled (ap (λ (s : Seen g.row.F.Denot). s.book) c.self-2.view_is) in
    subst (λ (s : Seen g.row.F.Denot). c.advance-advance.result ≡ advances.Moved → (moved_blocks (point_in s.book) c.args.rg ≡ [] → ⊥) → c.self-2.inside.keeper.firm ≡ length c.cancel.new.self.entries) c.self.view_is
    (λ is some.
    ap (λ (k : KeeperSeen). k.firm) keeper
    ∙ firm-moved state old mid c.args.rg c.advance-advance.result is some (from-begun old c.begin.new.self (λ s. Collects state (stage_of s) (stage_of mid) c.args.rg c.advance-advance.result) c.begin.ensures c.advance-advance.ensures.collects)
    ∙ sym (ap (λ (b : BookSeen). length b.entries) final))

pub returns-else-has_added_nothing-clause-firm : goal.returns-else-has_added_nothing-clause-firm
returns-else-has_added_nothing-clause-firm g c =
    let state = g.F.Flash.state in
    let inside = c.self.inside in
    let mid = c.advance-advance.new.self in
    let old : Seen g.row.F.Denot = record { book = inside.book; keeper = inside.keeper; handed = inside.handed; flash = inside.flash } in
    subst (λ (s : Seen g.row.F.Denot). c.advance-advance.result ≡ advances.Moved → (moved_blocks (point_in s.book) c.args.rg ≡ [] → ⊥) → mid.keeper.firm ≡ length mid.book.entries) c.self.view_is
    (λ is some. firm-moved state old mid c.args.rg c.advance-advance.result is some (from-begun old c.begin.new.self (λ s. Collects state (stage_of s) (stage_of mid) c.args.rg c.advance-advance.result) c.begin.ensures c.advance-advance.ensures.collects))
