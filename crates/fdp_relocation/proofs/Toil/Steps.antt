-- What each step of a pass makes of the work of its group, and what the erase at its end wins.
use Rattle.std.proofs.Common.{◌≡◌, ℕ, ◌+◌, ◌≤◌, ◌<◌, Bool, [], Option, Some, None, refl, ap, sym, ◌∙◌, subst, arith}
use Rattle.std.specs.Prelude.{IsFalse, IsTrue, is_some, option_map}
use Rattle.fdp_base.specs.declared.entry.Copied.{Copied}
use Rattle.fdp_keeper.specs.fdp_book.Book.{BookSeen, IsLed}
use Rattle.fdp_keeper.specs.fdp_book.Relocating.{MovesPass, Relocates}
use Rattle.fdp_keeper.specs.fdp_collector.declared.step.Step.TheVariants as steps
use Rattle.fdp_keeper.specs.fdp_collector.Ready.{lane_at}
use Rattle.fdp_keeper.specs.fdp_collector.Step.{AddsCopy}
use Rattle.fdp_flash.specs.FlashState.{FlashState}
use Rattle.fdp_keeper.specs.fdp_locations.Located.{next_in as next_of_unit}
use Rattle.fdp_owners.specs.OwnerTable.{OwnerTable, live_in, owner_at}
use Rattle.fdp_keeper.specs.fdp_pages.Joined.{AreJoined}
use Rattle.fdp_keeper.specs.fdp_pages.PageTables.{PageTables, copies_at, is_under_way, passes_at, relocation_at}
use Rattle.fdp_keeper.specs.fdp_pages.Steps.{ended_move}
use Rattle.fdp_keeper.proofs.fdp_pages.Regrouped.{group-low, passes-here}
use Rattle.fdp_passes.specs.declared.due.Due.TheVariants as due
use Rattle.fdp_passes.specs.Due.{HasNoLive, IsDue, copies_in, next_in}
use Rattle.fdp_passes.specs.GroupPasses.{GroupPasses, Pass, without_copies}
use Rattle.fdp_passes.specs.Room.{wanted_in}
use Rattle.fdp_relocation.specs.Toil.{wanted_at, work}
use Rattle.fdp_relocation.proofs.Toil.Copied.{CopiesIn, IsOneCopy, copied-in}
use Rattle.fdp_relocation.proofs.Toil.Erased.{erased-toil}
use Rattle.fdp_relocation.proofs.Toil.Moved.{moved-toil, none-left}
use Rattle.fdp_relocation.proofs.Toil.Wanted.{none-live, some-live, wanted-by, wanted-none}
use Rattle.fdp_keeper.proofs.fdp_trails.Listing.{copies-movable}
use Rattle.fdp_units.specs.UnitTable.{IsGroup, toil_of, unit_at}

-- ---- what is wanted

wanted-few-of : (t : PageTables) (rg : ℕ) → AreJoined t → IsGroup t.units rg → (q : Option Pass) → (passes_at t rg).pass ≡ q → wanted_at t rg < t.units.unit_pages
wanted-few-of t rg h group None is = let none = wanted-none (passes_at t rg) t.owners is in omega (arith, none, h.cut.some_page)
wanted-few-of t rg h group (Some pass) is =
    let own = h.groups rg group in
    let wanted = wanted-by (passes_at t rg) t.owners pass is in
    let most = some-live t.owners pass.victim pass.next in
    let counted : (unit_at t.units pass.victim).live ≡ live_in t.owners pass.victim = h.live.counted pass.victim (own.ready.victim pass is).is_unit in
    omega (arith, wanted, most, counted, own.gains pass is)

-- a pass wants fewer pages than a unit has
pub wanted-few : (t : PageTables) (rg : ℕ) → AreJoined t → IsGroup t.units rg → wanted_at t rg < t.units.unit_pages
wanted-few t rg h group = wanted-few-of t rg h group (passes_at t rg).pass refl

-- ---- a copy

-- A copy of the pass under way in a group, or the first of one: the pass goes on behind the page that was copied. The work stays as it is;
-- that of a pass that began is less than the toil before it and the pages of a unit.
pub record CopiesOn (old new : PageTables) (rg : ℕ) : Type 0 where
  pub under_way : IsTrue (is_under_way new rg)
  pub next : next_in (passes_at old rg) < next_in (passes_at new rg)
  pub within : next_in (passes_at new rg) ≤ old.units.unit_pages
  pub wanted : IsTrue (is_under_way old rg) → 1 ≤ wanted_at old rg
  pub same : IsTrue (is_under_way old rg) → work new rg ≡ work old rg
  pub first : IsFalse (is_under_way old rg) → work new rg + 1 ≤ toil_of old.units rg + old.units.unit_pages

on-by : (old new : PageTables) (rg : ℕ) → new.owners ≡ old.owners → CopiesIn (relocation_at old rg) (relocation_at new rg) old.owners rg → CopiesOn old new rg
on-by old new rg owners h =
    let wanted : wanted_at new rg ≡ wanted_in (passes_at new rg) old.owners = ap (wanted_in (passes_at new rg)) owners in
    record {
      under_way = h.under_way;
      next = h.next;
      within = h.within;
      wanted = λ some. (h.on some).wanted;
      same = λ some. let same = (h.on some).work in omega (arith, same, wanted);
      first = λ none. let less = h.first none in omega (arith, less, wanted);
    }

pub copies-on : (old new : BookSeen) (before after : FlashState) (rg : ℕ) (may_erase : Bool) (copy : Copied) → AreJoined old.pages → IsGroup old.pages.units rg → Relocates old new before after rg may_erase (steps.Copied copy) → CopiesOn old.pages new.pages rg
copies-on old new before after rg may_erase copy was group step =
    let o : OwnerTable = old.pages.owners in
    let classes = old.pages.handles.classes in
    let s = relocation_at old.pages rg in
    let now = relocation_at new.pages rg in
    let h = step.is in
    let one : IsOneCopy s h.middle now o classes rg h.from h.to h.owner = record {
      due = h.due;
      owned = h.owned;
      opened = h.opened;
      adds = subst (λ (x : Copied). AddsCopy h.middle now (lane_at classes h.owner) x) h.ended.0 h.ended.1;
    } in
    on-by old.pages new.pages rg (ap (λ (t : PageTables). t.owners) step.rest) (copied-in s h.middle now o classes rg h.from h.to h.owner (was.groups rg group).ready was.sound one)

-- ---- a move

-- The pass under way is moved: it goes on where it was, with nothing to copy, and the work stays as it is.
pub record MovesOn (old new : PageTables) (rg : ℕ) : Type 0 where
  pub was : IsTrue (is_under_way old rg)
  pub under_way : IsTrue (is_under_way new rg)
  pub next : next_in (passes_at new rg) ≡ next_in (passes_at old rg)
  pub copies : copies_at new rg ≡ []
  pub wanted : wanted_at new rg ≡ 0
  pub same : work new rg ≡ work old rg

moved-on : (old new : PageTables) (rg : ℕ) (pass : Pass) → (passes_at old rg).pass ≡ Some pass → passes_at new rg ≡ ended_move (passes_at old rg) → HasNoLive old.owners pass.victim pass.next → HasNoLive new.owners pass.victim pass.next → toil_of new.units rg ≡ toil_of old.units rg → MovesOn old new rg
moved-on old new rg pass is ended before after toil =
    let now : (passes_at new rg).pass ≡ Some (without_copies pass) = ap (λ (p : GroupPasses). p.pass) ended ∙ ap (option_map without_copies) is in
    let wanted : wanted_at old rg ≡ 0 = wanted-by (passes_at old rg) old.owners pass is ∙ none-live old.owners pass.victim pass.next _ before in
    let left : wanted_at new rg ≡ 0 = wanted-by (passes_at new rg) new.owners (without_copies pass) now ∙ none-live new.owners pass.victim pass.next _ after in
    record {
      was = ap is_some is;
      under_way = ap is_some now;
      next = ap (λ (q : Option Pass). next_in (record (passes_at new rg) { pass = q })) now ∙ sym (ap (λ (q : Option Pass). next_in (record (passes_at old rg) { pass = q })) is);
      copies = ap (λ (q : Option Pass). copies_in (record (passes_at new rg) { pass = q })) now;
      wanted = left;
      same = omega (arith, toil, wanted, left);
    }

pub moves-on : (old new : BookSeen) (rg : ℕ) → IsLed old → AreJoined old.pages → AreJoined new.pages → rg < old.config.groups → IsGroup old.pages.units rg → IsDue (passes_at old.pages rg) old.pages.units old.pages.owners rg due.Move → MovesPass old new rg → MovesOn old.pages new.pages rg
moves-on old new rg led was is low group due moves =
    let pass : Pass = due.0 in
    let ended : passes_at new.pages rg ≡ ended_move (passes_at old.pages rg) = ap (λ ps. passes_at (record new.pages { passes = ps }) rg) moves.passes ∙ passes-here old.pages rg (ended_move (passes_at old.pages rg)) (group-low old.pages rg was group) in
    let movable = copies-movable old.config _ rg (next_of_unit old.pages.units) led.at (owner_at old.pages.owners) (passes_at old.pages rg) led.led.table led.led.owned (led.led.passes rg low) in
    moved-on old.pages new.pages rg pass due.1 ended due.3 (none-left old.pages new.pages rg was group pass due.1 moves.owners due.3) (moved-toil old.pages new.pages rg was is group pass due.1 movable moves.units moves.owners)

-- ---- an erase

-- The pass ends with the erase of its victim: the toil falls by the pages of a unit.
pub record ErasesOn (old new : PageTables) (rg : ℕ) : Type 0 where
  pub none : (passes_at new rg).pass ≡ None
  pub toil : toil_of new.units rg + old.units.unit_pages ≡ toil_of old.units rg

pub erases-on : (old new : BookSeen) (before after : FlashState) (rg : ℕ) (may_erase : Bool) (unit : ℕ) → AreJoined old.pages → IsGroup old.pages.units rg → Relocates old new before after rg may_erase (steps.Erased unit) → ErasesOn old.pages new.pages rg
erases-on old new before after rg may_erase unit was group step = record {
  none = ap (λ (p : GroupPasses). p.pass) step.is.2.passes;
  toil = erased-toil (relocation_at old.pages rg) (relocation_at new.pages rg) old.pages.owners old.pages.handles.classes rg unit (was.groups rg group).ready step.is.0 step.is.2.becomes;
}
