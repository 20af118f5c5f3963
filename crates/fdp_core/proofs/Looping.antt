-- A pass that is made step by step until its end.
use Rattle.std.proofs.Common.{◌≡◌, ℕ, ◌+◌, ◌≤◌, ◌<◌, ◌⊎◌, Bool, true, false, List, [], ◌∷◌, ◌++◌, Option, Some, None, refl, sym, ◌∙◌, ap, subst, arith, inl, inr, append_assoc, not, length}
use Rattle.std.specs.Prelude.{IsTrue, is_some, if◌then◌else◌}
use Rattle.std.specs.List.{list_any}
use Rattle.std.specs.Option.{option_map_or}
use Rattle.std.proofs.lemmas.Bool.{false≢true}
use Rattle.fdp_base.specs.declared.config.DriveConfig.{DriveConfig}
use Rattle.fdp_base.specs.declared.entry.Entry.{Entry}
use Rattle.fdp_base.specs.declared.entry.Entry.TheVariants as entries
use Rattle.fdp_relocation.specs.fdp_book.Book.{BookSeen, state_in}
use Rattle.fdp_calls.specs.Calls.{erase_at, has_failed}
use Rattle.fdp_base.specs.Config.{IsValidConfig}
use Rattle.fdp_core.specs.declared.group.pass.PassEnd.{PassEnd}
use Rattle.fdp_core.specs.declared.group.pass.PassEnd.TheVariants as ends
use Rattle.fdp_relocation.specs.fdp_collector.declared.step.Step.TheVariants as steps
use Rattle.fdp_core.proofs.Relocated.{one-at-most}
use Rattle.fdp_core.specs.Passes.{EndsPass, EndsRest, FailsInPass, MakesNone, MakesPass, MakesRest, MayBeginPass, MayEndPass, Relocates, Starves, left_in}
use Rattle.fdp_loading.specs.fdp_isolation.Laned.{IsKnown}
use Rattle.fdp_core.specs.Seen.{Seen, Stands, stage_of}
use Rattle.fdp_core.proofs.Passing.{erases-none, relocates-joined, relocates-none}
use Rattle.fdp_flash.specs.FlashState.{Call, FlashState}
use Rattle.fdp_loading.proofs.fdp_ledger.Blank.{ErasesNoUnit}
use Rattle.fdp_relocation.proofs.fdp_locations.Others.{is-group}
use Rattle.fdp_relocation.specs.fdp_pages.PageTables.{copies_at, passes_at}
use Rattle.fdp_passes.specs.declared.due.Due.TheVariants as due
use Rattle.fdp_passes.specs.Due.{IsDue, copies_in}
use Rattle.fdp_passes.specs.GroupPasses.{GroupPasses, Pass}
use Rattle.fdp_relocation.specs.declared.advance.Advance.TheVariants as advance
use Rattle.fdp_relocation.specs.fdp_saving.declared.saved.Saved.TheVariants as savings
use Rattle.fdp_flash.specs.declared.answer.Wrote.TheVariants as wrote
use Rattle.fdp_relocation.specs.Collected.{Collects, StepsErase}
use Rattle.fdp_relocation.specs.Toil.{wanted_at, work}
use Rattle.fdp_relocation.proofs.Toil.Steps.{CopiesOn, MovesOn, copies-on, erases-on, moves-on, wanted-few, ErasesOn}
use Rattle.fdp_units.specs.DataUnits.{is_free}
use Rattle.fdp_units.specs.UnitTable.{Cut, HasNoVictim, IsGroup, count_in, toil_of}
use Rattle.fdp_relocation.specs.fdp_saving.Calls.{FailAtEnd}
use Rattle.fdp_core.specs.Advancing.{Advances, ComesTo, AreCallsOfMove, ErasesVictim, AreCallsOfSettling}
use Rattle.fdp_relocation.specs.fdp_pages.Joined.{AreJoined}
use Rattle.fdp_loading.specs.fdp_ledger.WornOut.{IsWornOut}
use Rattle.fdp_relocation.specs.fdp_journal.JournalState.{JournalState}
use Rattle.fdp_core.proofs.Called.{well-joined, fails-behind}
use Rattle.fdp_relocation.specs.fdp_collector.Step.{IsUncalled}
use Rattle.fdp_relocation.proofs.fdp_saving.Failing.{saved_well, written_well}

-- ---- what is known

group-of : (b : BookSeen) (rg : ℕ) → IsKnown b → rg < b.config.groups → IsGroup b.pages.units rg
group-of b rg known low = is-group b.config (state_in b) b.pages rg known.units low

pages-of : (b : BookSeen) → IsKnown b → b.pages.units.unit_pages ≡ b.config.unit_pages
pages-of b known = ap (λ (x : Cut). x.unit_pages) known.units.cut

-- a pass under way has copies to move only where it may move them
copies-there : (p : GroupPasses) (pass : Pass) → p.pass ≡ Some pass → copies_in p ≡ pass.copies
copies-there p pass e = ap (λ (o : Option Pass). option_map_or (λ (x : Pass). x.copies) o []) e

pub may-move : (b : BookSeen) (rg : ℕ) → MayEndPass b rg → IsDue (passes_at b.pages rg) b.pages.units b.pages.owners rg due.Move → IsTrue b.may_move
may-move b rg may (pass, is, some, none) = of-moves may.moves
  where
    of-moves : (b.may_move ≡ true) ⊎ ((copies_at b.pages rg ≡ []) × (wanted_at b.pages rg ≡ 0)) → IsTrue b.may_move
    of-moves (inl able) = able
    of-moves (inr (bare, _)) = absurd (some (sym (copies-there (passes_at b.pages rg) pass is) ∙ bare))

-- ---- a pass goes on

-- the pass of a group is under way since a moment before: these entries were added, no call failed, and what it has to do did not grow
pub record IsPassing {F : Type 0} (state : F → FlashState) (start now : Seen F) (rg : ℕ) : Type 0 where
  pub es : List Entry
  pub calls : List Call
  pub relocates : Relocates state start now rg es calls
  pub erases : ErasesNoUnit es
  pub well : list_any has_failed calls ≡ false
  pub may : MayEndPass now.book rg
  pub done : work now.book.pages rg ≤ work start.book.pages rg

pub passing-first : {F : Type 0} (state : F → FlashState) (s : Seen F) (rg : ℕ) → MayEndPass s.book rg → IsPassing state s s rg
passing-first state s rg may = record { es = []; calls = []; relocates = relocates-none state s rg; erases = λ unit. refl; well = refl; may = may; done = omega arith }

-- ---- what a step leaves of what a pass may do

-- one copy more
copy-may : (b d : BookSeen) (rg : ℕ) → b.pages.units.unit_pages ≡ b.config.unit_pages → MayEndPass b rg → CopiesOn b.pages d.pages rg → d.config ≡ b.config → d.room + 1 ≡ b.room → d.may_move ≡ b.may_move → MayEndPass d rg
copy-may b d rg pages may on config room move = record {
  group = subst (λ (c : DriveConfig). rg < c.groups) (sym config) may.group;
  under_way = on.under_way;
  room =
      let here : ◌≡◌ {A = ℕ} (if d.may_move then 1 else 0) (if b.may_move then 1 else 0) = ap (λ (k : Bool). if k then 1 else 0) move in
      let size : d.config.unit_pages ≡ b.config.unit_pages = ap (λ (c : DriveConfig). c.unit_pages) config in
      let was = may.room in
      let next = on.next in
      let within = on.within in
      omega (arith, here, size, was, next, within, pages, room);
  moves = of-moves may.moves;
}
  where
    of-moves : (b.may_move ≡ true) ⊎ ((copies_at b.pages rg ≡ []) × (wanted_at b.pages rg ≡ 0)) → (d.may_move ≡ true) ⊎ ((copies_at d.pages rg ≡ []) × (wanted_at d.pages rg ≡ 0))
    of-moves (inl able) = inl (move ∙ able)
    of-moves (inr (bare, none)) = let some = on.wanted may.under_way in absurd (omega (arith, some, none))

-- the copies were moved
move-may : (b d : BookSeen) (rg : ℕ) → MayEndPass b rg → b.may_move ≡ true → MovesOn b.pages d.pages rg → d.config ≡ b.config → d.room + 1 ≡ b.room → d.may_move ≡ false → MayEndPass d rg
move-may b d rg may able on config room move = record {
  group = subst (λ (c : DriveConfig). rg < c.groups) (sym config) may.group;
  under_way = on.under_way;
  room =
      let now : ◌≡◌ {A = ℕ} (if d.may_move then 1 else 0) 0 = ap (λ (k : Bool). if k then 1 else 0) move in
      let was : ◌≡◌ {A = ℕ} (if b.may_move then 1 else 0) 1 = ap (λ (k : Bool). if k then 1 else 0) able in
      let size : d.config.unit_pages ≡ b.config.unit_pages = ap (λ (c : DriveConfig). c.unit_pages) config in
      let left = may.room in
      let next = on.next in
      omega (arith, now, was, size, left, next, room);
  moves = inr (on.copies, on.wanted);
}

copy-less : (b d : BookSeen) (rg : ℕ) → b.pages.units.unit_pages ≡ b.config.unit_pages → CopiesOn b.pages d.pages rg → d.config ≡ b.config → d.may_move ≡ b.may_move → left_in d rg < left_in b rg
copy-less b d rg pages on config move =
    let here : ◌≡◌ {A = ℕ} (if d.may_move then 1 else 0) (if b.may_move then 1 else 0) = ap (λ (k : Bool). if k then 1 else 0) move in
    let size : d.config.unit_pages ≡ b.config.unit_pages = ap (λ (c : DriveConfig). c.unit_pages) config in
    let next = on.next in
    let within = on.within in
    omega (arith, here, size, next, within, pages)

move-less : (b d : BookSeen) (rg : ℕ) → b.may_move ≡ true → MovesOn b.pages d.pages rg → d.config ≡ b.config → d.may_move ≡ false → left_in d rg < left_in b rg
move-less b d rg able on config move =
    let now : ◌≡◌ {A = ℕ} (if d.may_move then 1 else 0) 0 = ap (λ (k : Bool). if k then 1 else 0) move in
    let was : ◌≡◌ {A = ℕ} (if b.may_move then 1 else 0) 1 = ap (λ (k : Bool). if k then 1 else 0) able in
    let size : d.config.unit_pages ≡ b.config.unit_pages = ap (λ (c : DriveConfig). c.unit_pages) config in
    let next = on.next in
    omega (arith, now, was, size, next)

-- ---- calls of which the last failed

-- ---- what a step of relocation came to

-- an answer of a step that failed: the last call did
pub fault-fails : (b new : BookSeen) (s : JournalState) (rg : ℕ) (es : List Entry) (calls : List Call) → ComesTo b s new rg advance.Fault es calls → FailAtEnd calls
fault-fails b new s rg es calls (inl h) = h.fails
fault-fails b new s rg es calls (inr (inl h)) = h.fails
fault-fails b new s rg es calls (inr (inr h)) = h.fails

-- it adds an entry at most
fault-few : (b new : BookSeen) (s : JournalState) (rg : ℕ) (es : List Entry) (calls : List Call) → ComesTo b s new rg advance.Fault es calls → length es ≤ 1
fault-few b new s rg es calls (inl h) = let few = one-at-most rg (steps.Fault h.lost) in omega (arith, few, ap length h.entries_are)
fault-few b new s rg es calls (inr (inl h)) = omega (arith, ap length h.entries_are)
fault-few b new s rg es calls (inr (inr h)) = omega (arith, ap length h.moves.entries_are)

-- the calls of a move that was saved
move-well : (b : BookSeen) (s : JournalState) (rg : ℕ) (calls : List Call) → AreCallsOfMove b s rg savings.Done calls → list_any has_failed calls ≡ false
move-well b s rg calls (inl none) = ap (list_any has_failed) none.2
move-well b s rg calls (inr some) = saved_well s some.1.0 calls some.1.1

-- those of an erase
erase-well : (b : BookSeen) (s : JournalState) (rg : ℕ) (es : List Entry) (calls : List Call) → ErasesVictim b s rg es calls → list_any has_failed calls ≡ false
erase-well b s rg es calls h = ap (list_any has_failed) h.calls_are ∙ well-joined h.settling (erase_at h.unit false ∷ []) (settled h.settled) refl where
  settled : AreCallsOfSettling s wrote.Done h.settling → list_any has_failed h.settling ≡ false
  settled (inl none) = ap (list_any has_failed) none.2
  settled (inr some) = written_well s some.1.0 h.settling some.1.1

-- an erase behind the end of a doubt, or without one
erased-on : {F : Type 0} (state : F → FlashState) (now after : Seen F) (rg unit : ℕ) → AreJoined now.book.pages → IsGroup now.book.pages.units rg → StepsErase state (stage_of now) (stage_of after) rg (steps.Erased unit) → ErasesOn now.book.pages after.book.pages rg
erased-on state now after rg unit joined group (inl h) = erases-on now.book after.book (state now.flash) (state after.flash) rg (not now.keeper.saver.in_doubt) unit joined group h.made
erased-on state now after rg unit joined group (inr h) = erases-on now.book after.book (state h.middle) (state after.flash) rg true unit joined group h.made

-- ---- steps of the loop

module _ {F : Type 0} (state : F → FlashState) (start now after : Seen F) (rg : ℕ) (stands : Stands (state now.flash) now.book) (known : IsKnown after.book) (p : IsPassing state start now rg) where
  was : IsKnown now.book
  was = stands.known

  group : IsGroup now.book.pages.units rg
  group = group-of now.book rg was p.may.group

  joined : (es : List Entry) (calls : List Call) → Relocates state now after rg es calls → Relocates state start after rg (p.es ++ es) (p.calls ++ calls)
  joined es calls r = relocates-joined state start now after rg p.es es p.calls calls p.erases p.relocates r

  pub passing-copied : Advances state now after rg advance.Copied → Collects state (stage_of now) (stage_of after) rg advance.Copied → IsPassing state start after rg
  passing-copied a h =
      let on = copies-on now.book after.book (state now.flash) (state after.flash) rg (not now.keeper.saver.in_doubt) h.0 was.joined group h.1.made in
      let same = on.same p.may.under_way in
      let before = p.done in
      record {
        es = p.es ++ a.es;
        calls = p.calls ++ a.calls;
        relocates = joined a.es a.calls a.relocates;
        erases = erases-none p.es a.es p.erases (subst ErasesNoUnit (sym a.came.entries_are) (λ unit. refl));
        well = well-joined p.calls a.calls p.well (ap (list_any has_failed) a.came.calls_are);
        may = copy-may now.book after.book rg (pages-of now.book was) p.may on h.1.made.longer.config_is h.1.made.longer.room_is h.1.made.move_is;
        done = omega (arith, same, before);
      }

  pub passing-moved : Advances state now after rg advance.Moved → Collects state (stage_of now) (stage_of after) rg advance.Moved → IsPassing state start after rg
  passing-moved a h =
      let on = moves-on now.book after.book rg was.led was.joined known.joined p.may.group group h.due h.moved in
      let same = on.same in
      let before = p.done in
      record {
        es = p.es ++ a.es;
        calls = p.calls ++ a.calls;
        relocates = joined a.es a.calls a.relocates;
        erases = erases-none p.es a.es p.erases (subst ErasesNoUnit (sym a.came.entries_are) (λ unit. refl));
        well = well-joined p.calls a.calls p.well (move-well now.book now.keeper.saver rg a.calls a.came.calls_are);
        may = move-may now.book after.book rg p.may (may-move now.book rg p.may h.due) on h.moved.longer.config_is h.moved.longer.room_is h.moved.move_is;
        done = omega (arith, same, before);
      }

  pub copied-less : Collects state (stage_of now) (stage_of after) rg advance.Copied → left_in after.book rg < left_in now.book rg
  copied-less h =
      copy-less now.book after.book rg (pages-of now.book was) (copies-on now.book after.book (state now.flash) (state after.flash) rg (not now.keeper.saver.in_doubt) h.0 was.joined group h.1.made) h.1.made.longer.config_is h.1.made.move_is

  pub moved-less : Collects state (stage_of now) (stage_of after) rg advance.Moved → left_in after.book rg < left_in now.book rg
  moved-less h = move-less now.book after.book rg (may-move now.book rg p.may h.due) (moves-on now.book after.book rg was.led was.joined known.joined p.may.group group h.due h.moved) h.moved.longer.config_is h.moved.move_is

  pub rest-made : Advances state now after rg advance.Erased → Collects state (stage_of now) (stage_of after) rg advance.Erased → MakesRest state start after rg
  rest-made a h =
      let on = erased-on state now after rg h.0 was.joined group h.1 in
      let lower = on.toil in
      let before = p.done in
      let size : now.book.pages.units.unit_pages ≡ start.book.config.unit_pages = pages-of now.book was ∙ ap (λ (c : DriveConfig). c.unit_pages) p.relocates.extends.book.config_is in
      record {
        before = p.es;
        unit = a.came.unit;
        calls = p.calls ++ a.calls;
        relocates = subst (λ (es : List Entry). Relocates state start after rg (p.es ++ es) (p.calls ++ a.calls)) a.came.entries_are (joined a.es a.calls a.relocates);
        well = well-joined p.calls a.calls p.well (erase-well now.book now.keeper.saver rg a.es a.calls a.came);
        toil = omega (arith, lower, before, size);
      }

  pub rest-starved : IsWornOut after.handed (state after.flash) (state_in after.book).is_lost rg → Advances state now after rg advance.Starved → Starves state start after rg
  rest-starved worn a = record {
    before = p.es;
    calls = p.calls ++ a.calls;
    relocates = subst (λ (es : List Entry). Relocates state start after rg (p.es ++ es) (p.calls ++ a.calls)) a.came.entries_are (joined a.es a.calls a.relocates);
    well = well-joined p.calls a.calls p.well (ap (list_any has_failed) a.came.calls_are);
    worn = worn;
    room = let left = p.may.room in omega (arith, left, a.relocates.extends.book.room_is, ap length a.came.entries_are);
  }

  pub rest-failed : Advances state now after rg advance.Fault → FailsInPass state start after rg
  rest-failed a = record {
    es = p.es ++ a.es;
    calls = p.calls ++ a.calls;
    relocates = joined a.es a.calls a.relocates;
    fails = fails-behind p.calls p.well a.calls (fault-fails now.book after.book now.keeper.saver rg a.es a.calls a.came);
    room = let left = p.may.room in omega (arith, left, a.relocates.extends.book.room_is, fault-few now.book after.book now.keeper.saver rg a.es a.calls a.came);
  }

  -- a pass that is under way has a step that is due
  pub never-nothing : Advances state now after rg advance.Nothing → ⊥
  never-nothing a = false≢true (sym (ap is_some a.came.due.0) ∙ p.may.under_way)

-- ---- the first step of a pass

-- a unit has 256 pages at most
few-pages : (c : DriveConfig) → IsValidConfig c → c.unit_pages ≤ 256
few-pages c valid = valid.ranges.unit_pages.1

module _ {F : Type 0} (state : F → FlashState) (old mid : Seen F) (rg : ℕ) (stands : Stands (state old.flash) old.book) (known : IsKnown mid.book) (may : MayBeginPass old.book rg) where
  begins : IsGroup old.book.pages.units rg
  begins = group-of old.book rg stands.known may.group

  abbrev doubt : Bool
  doubt = old.keeper.saver.in_doubt

  -- the pass that began with a copy may be ended, and has less to do than a whole unit has pages
  pub copied-may : Collects state (stage_of old) (stage_of mid) rg advance.Copied → MayEndPass mid.book rg
  copied-may h =
      let on = copies-on old.book mid.book (state old.flash) (state mid.flash) rg (not doubt) h.0 stands.known.joined begins h.1.made in
      let size : mid.book.config.unit_pages ≡ old.book.config.unit_pages = ap (λ (c : DriveConfig). c.unit_pages) h.1.made.longer.config_is in
      let bit : ◌≡◌ {A = ℕ} (if mid.book.may_move then 1 else 0) 1 = ap (λ (k : Bool). if k then 1 else 0) (h.1.made.move_is ∙ may.may_move) in
      let next = on.next in
      record {
        group = subst (λ (c : DriveConfig). rg < c.groups) (sym h.1.made.longer.config_is) may.group;
        under_way = on.under_way;
        room = omega (arith, size, bit, next, few-pages old.book.config stands.known.config, h.1.made.longer.room_is, may.room);
        moves = inl (h.1.made.move_is ∙ may.may_move);
      }

  copied-work : Collects state (stage_of old) (stage_of mid) rg advance.Copied → work mid.book.pages rg < toil_of old.book.pages.units rg + old.book.config.unit_pages
  copied-work h =
      let on = copies-on old.book mid.book (state old.flash) (state mid.flash) rg (not doubt) h.0 stands.known.joined begins h.1.made in
      let pages = pages-of old.book stands.known in
      let few = wanted-few old.book.pages rg stands.known.joined begins in
      of-pass on (passes_at old.book.pages rg).pass refl pages few
    where
      of-pass : CopiesOn old.book.pages mid.book.pages rg → (o : Option Pass) → (passes_at old.book.pages rg).pass ≡ o → old.book.pages.units.unit_pages ≡ old.book.config.unit_pages → wanted_at old.book.pages rg < old.book.pages.units.unit_pages → work mid.book.pages rg < toil_of old.book.pages.units rg + old.book.config.unit_pages
      of-pass on None e pages few = let first = on.first (ap is_some e) in omega (arith, first, pages)
      of-pass on (Some pass) e pages few = let same = on.same (ap is_some e) in omega (arith, same, pages, few)

  pub moved-may : Collects state (stage_of old) (stage_of mid) rg advance.Moved → MayEndPass mid.book rg
  moved-may h =
      let on = moves-on old.book mid.book rg stands.known.led stands.known.joined known.joined may.group begins h.due h.moved in
      let size : mid.book.config.unit_pages ≡ old.book.config.unit_pages = ap (λ (c : DriveConfig). c.unit_pages) h.moved.longer.config_is in
      let bit : ◌≡◌ {A = ℕ} (if mid.book.may_move then 1 else 0) 0 = ap (λ (k : Bool). if k then 1 else 0) h.moved.move_is in
      record {
        group = subst (λ (c : DriveConfig). rg < c.groups) (sym h.moved.longer.config_is) may.group;
        under_way = on.under_way;
        room = omega (arith, size, bit, few-pages old.book.config stands.known.config, h.moved.longer.room_is, may.room);
        moves = inr (on.copies, on.wanted);
      }

  moved-work : Collects state (stage_of old) (stage_of mid) rg advance.Moved → work mid.book.pages rg < toil_of old.book.pages.units rg + old.book.config.unit_pages
  moved-work h =
      let on = moves-on old.book mid.book rg stands.known.led stands.known.joined known.joined may.group begins h.due h.moved in
      let pages = pages-of old.book stands.known in
      let few = wanted-few old.book.pages rg stands.known.joined begins in
      let same = on.same in
      omega (arith, same, pages, few)

  pub pass-made : Advances state old mid rg advance.Erased → Collects state (stage_of old) (stage_of mid) rg advance.Erased → MakesPass state old mid rg
  pass-made a h =
      let on = erased-on state old mid rg h.0 stands.known.joined begins h.1 in
      let lower = on.toil in
      let some = stands.known.joined.cut.some_page in
      record {
        before = [];
        unit = a.came.unit;
        calls = a.calls;
        relocates = subst (λ (es : List Entry). Relocates state old mid rg es a.calls) a.came.entries_are a.relocates;
        well = erase-well old.book old.keeper.saver rg a.es a.calls a.came;
        toil = omega (arith, lower, some);
      }

  pub pass-starved : IsWornOut mid.handed (state mid.flash) (state_in mid.book).is_lost rg → Advances state old mid rg advance.Starved → Starves state old mid rg
  pass-starved worn a = record {
    before = [];
    calls = a.calls;
    relocates = subst (λ (es : List Entry). Relocates state old mid rg es a.calls) a.came.entries_are a.relocates;
    well = ap (list_any has_failed) a.came.calls_are;
    worn = worn;
    room = omega (arith, may.room, a.relocates.extends.book.room_is, ap length a.came.entries_are);
  }

  pub pass-failed : Advances state old mid rg advance.Fault → FailsInPass state old mid rg
  pass-failed a = record {
    es = a.es;
    calls = a.calls;
    relocates = a.relocates;
    fails = fault-fails old.book mid.book old.keeper.saver rg a.es a.calls a.came;
    room = omega (arith, may.room, a.relocates.extends.book.room_is, fault-few old.book mid.book old.keeper.saver rg a.es a.calls a.came);
  }

  pub pass-none : Advances state old mid rg advance.Nothing → IsUncalled (state old.flash) (state mid.flash) → MakesNone state old mid rg
  pass-none a flash = record {
    none = record { none = a.came.due.0; gains = gains a.came.due.1 };
    relocates = subst (λ (calls : List Call). Relocates state old mid rg [] calls) a.came.calls_are (subst (λ (es : List Entry). Relocates state old mid rg es a.calls) a.came.entries_are a.relocates);
    pages = a.came.pages;
    flash = flash;
  }
    where
      gains : (4 ≤ count_in old.book.pages.units rg is_free) ⊎ HasNoVictim old.book.pages.units rg → HasNoVictim old.book.pages.units rg
      gains (inl four) = let few = may.short in absurd (omega (arith, four, few))
      gains (inr none) = none

-- the first step, and the rest of the pass
pub pass-joined : {F : Type 0} (state : F → FlashState) (old mid new : Seen F) (rg : ℕ) (es : List Entry) (xs : List Call) (x : PassEnd) → ErasesNoUnit es → Relocates state old mid rg es xs → list_any has_failed xs ≡ false → mid.book.config ≡ old.book.config → work mid.book.pages rg < toil_of old.book.pages.units rg + old.book.config.unit_pages → EndsRest state mid new rg x → EndsPass state old new rg x
pass-joined state old mid new rg es xs ends.Made none first well config less rest = record {
  before = es ++ rest.before;
  unit = rest.unit;
  calls = xs ++ rest.calls;
  relocates = subst (λ (fs : List Entry). Relocates state old new rg fs (xs ++ rest.calls)) (sym (append_assoc es rest.before (entries.Erased (record { unit = rest.unit }) ∷ [])))
      (relocates-joined state old mid new rg es (rest.before ++ entries.Erased (record { unit = rest.unit }) ∷ []) xs rest.calls none first rest.relocates);
  well = well-joined xs rest.calls well rest.well;
  toil =
      let low = rest.toil in
      let size : mid.book.config.unit_pages ≡ old.book.config.unit_pages = ap (λ (c : DriveConfig). c.unit_pages) config in
      omega (arith, less, low, size);
}
pass-joined state old mid new rg es xs ends.Nothing none first well config less rest = absurd rest
pass-joined state old mid new rg es xs ends.Starved none first well config less rest = record {
  before = es ++ rest.before;
  calls = xs ++ rest.calls;
  relocates = subst (λ (fs : List Entry). Relocates state old new rg fs (xs ++ rest.calls)) (sym (append_assoc es rest.before (entries.Worn (record { rg = rg }) ∷ [])))
      (relocates-joined state old mid new rg es (rest.before ++ entries.Worn (record { rg = rg }) ∷ []) xs rest.calls none first rest.relocates);
  well = well-joined xs rest.calls well rest.well;
  worn = rest.worn;
  room = rest.room;
}
pass-joined state old mid new rg es xs ends.Fault none first well config less rest = record {
  es = es ++ rest.es;
  calls = xs ++ rest.calls;
  relocates = relocates-joined state old mid new rg es rest.es xs rest.calls none first rest.relocates;
  fails = fails-behind xs well rest.calls rest.fails;
  room = rest.room;
}

-- and it began with a copy, or a move
module _ {F : Type 0} (state : F → FlashState) (old mid new : Seen F) (rg : ℕ) (stands : Stands (state old.flash) old.book) (known : IsKnown mid.book) (may : MayBeginPass old.book rg) (x : PassEnd) (rest : EndsRest state mid new rg x) where
  pub copied-then : Advances state old mid rg advance.Copied → Collects state (stage_of old) (stage_of mid) rg advance.Copied → EndsPass state old new rg x
  copied-then a h =
      pass-joined state old mid new rg a.es a.calls x (subst ErasesNoUnit (sym a.came.entries_are) (λ unit. refl)) a.relocates (ap (list_any has_failed) a.came.calls_are) h.1.made.longer.config_is (copied-work state old mid rg stands known may h) rest

  pub moved-then : Advances state old mid rg advance.Moved → Collects state (stage_of old) (stage_of mid) rg advance.Moved → EndsPass state old new rg x
  moved-then a h =
      pass-joined state old mid new rg a.es a.calls x (subst ErasesNoUnit (sym a.came.entries_are) (λ unit. refl)) a.relocates (move-well old.book old.keeper.saver rg a.calls a.came.calls_are) h.moved.longer.config_is (moved-work state old mid rg stands known may h) rest
