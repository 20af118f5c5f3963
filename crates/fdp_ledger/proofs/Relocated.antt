-- A step of relocation was made.
use Rattle.std.proofs.Common.{◌≡◌, ◌≢◌, ℕ, ◌+◌, ◌<◌, ◌≤◌, Bool, true, false, cond, ◌&&◌, ◌||◌, List, [], ◌∷◌, Some, None, refl, sym, ◌∙◌, ap, subst, arith, ⊎_elim, eq-eqb}
use Rattle.std.specs.Prelude.{◌==◌, IsTrue, slice_get, slice_set, count_by}
use Rattle.std.proofs.lemmas.Bool.{cases_eq, cases_lt}
use Rattle.fdp_base.specs.declared.config.Geometry.{Geometry}
use Rattle.fdp_base.specs.declared.entry.Copied.{Copied}
use Rattle.fdp_base.specs.declared.entry.Entry.{Entry}
use Rattle.fdp_base.specs.declared.entry.Entry.TheVariants as entries
use Rattle.fdp_base.specs.declared.entry.Spot.{Spot}
use Rattle.fdp_base.specs.Counts.{Rose, counted}
use Rattle.fdp_base.specs.Placement.{geometry_of}
use Rattle.fdp_base.specs.Spare.{data_spare}
use Rattle.fdp_base.specs.EntryKinds.{is_shut, loses_unit, unit_erased, unit_filled, wears_group}
use Rattle.fdp_book.specs.Book.{BookSeen, IsLonger, point_in, state_in, written_in}
use Rattle.fdp_book.specs.Relocating.{Relocates, told_by}
use Rattle.fdp_calls.specs.Calls.{erase_at, fetch_at, program_at}
use Rattle.fdp_calls.proofs.Made.{counted_more-one}
use Rattle.fdp_book.specs.fdp_collector.declared.step.Lost.TheVariants as lost
use Rattle.fdp_book.specs.fdp_collector.declared.step.Step.{Step}
use Rattle.fdp_book.specs.fdp_collector.declared.step.Step.TheVariants as steps
use Rattle.fdp_book.specs.fdp_collector.Copying.{Copies}
use Rattle.fdp_book.specs.fdp_collector.Ready.{IsReady, Relocation, lane_at}
use Rattle.fdp_book.specs.fdp_collector.Step.{AddsCopy, EndsInErase, IsStarved, IsStep, IsUnread, Rests, SkipsPage}
use Rattle.fdp_book.proofs.fdp_collector.Kept.{changed-here}
use Rattle.fdp_book.proofs.fdp_collector.Readied.{IsHaving, IsTaking, emptied-unit}
use Rattle.fdp_flash.specs.declared.answer.Wrote.TheVariants as wrote
use Rattle.fdp_flash.specs.declared.cell.Cell.{Cell}
use Rattle.fdp_flash.specs.declared.cell.Cell.TheVariants.{Blank}
use Rattle.fdp_flash.specs.Cells.{IsBlankUnit}
use Rattle.fdp_flash.specs.FlashState.{Call, FlashState}
use Rattle.fdp_flash.specs.Layout.{page_number}
use Rattle.fdp_flash.specs.Runs.{Runs}
use Rattle.fdp_book.specs.fdp_locations.Located.{AreUnitsOf}
use Rattle.fdp_book.specs.fdp_locations.Stored.{HoldsWritten}
use Rattle.fdp_book.proofs.fdp_locations.Copying.{copy-free, copy-to}
use Rattle.fdp_book.proofs.fdp_locations.Others.{is-group}
use Rattle.fdp_owners.specs.declared.owner.Owner.{Owner}
use Rattle.fdp_owners.specs.OwnerTable.{owner_at}
use Rattle.fdp_book.specs.fdp_pages.Joined.{AreJoined}
use Rattle.fdp_book.specs.fdp_pages.PageTables.{PageTables, passes_at, relocation_at}
use Rattle.fdp_book.proofs.fdp_pages.Regrouped.{passes-there}
use Rattle.fdp_passes.specs.declared.due.Due.TheVariants as due
use Rattle.fdp_passes.specs.declared.lane.Lane.{Lane}
use Rattle.fdp_passes.specs.Due.{IsDue}
use Rattle.fdp_passes.specs.GroupPasses.{GroupPasses, slot_of}
use Rattle.fdp_passes.specs.Place.{has_taken}
use Rattle.fdp_passes.specs.Targets.{OpensPage, UsesPage}
use Rattle.fdp_rules.specs.Totals.{media_blocks_of}
use Rattle.fdp_units.specs.declared.data_unit.DataUnit.{DataUnit}
use Rattle.fdp_units.specs.declared.state.UnitState.TheVariants.{Closed, Retired}
use Rattle.fdp_units.specs.DataUnits.{is_free, is_lost}
use Rattle.fdp_units.specs.UnitTable.{Cut, IsGroup, cut_of, group_in, state_at, unit_at}
use Rattle.fdp_ledger.specs.declared.counts.Counts.{Counts}
use Rattle.fdp_ledger.specs.Emptied.{OnlyErasesEmpty}
use Rattle.fdp_ledger.specs.Start.{start_of}
use Rattle.fdp_ledger.specs.Ledger.{HasFreeUnits, IsLedger}
use Rattle.fdp_ledger.specs.Told.{is_media_reply}
use Rattle.fdp_ledger.proofs.Accounted.{accounted-erased, accounted-filled, accounted-kept, accounted-spoilt}
use Rattle.fdp_ledger.proofs.Called.{ErasesNone, IsAfter, after-erased, after-made, after-uncalled}
use Rattle.fdp_ledger.proofs.Emptied.{emptied-erase, emptied-none, failed-emptied, outside-emptied, programmed-emptied, programmed-whole, same-emptied, whole-unblank}
use Rattle.fdp_ledger.proofs.Entries.{quiet-none, quiet-one}
use Rattle.fdp_ledger.proofs.Free.{added-taken, entered-taken, free-elsewhere, free-freed, free-had, free-taken, none-free}
use Rattle.fdp_ledger.proofs.Ledgers.{AreStill, bound-none, bound-one, group-was, handed-low, ledger-of, more-programs, no-rose, one-most, rose-since, same-programs, still-ledger, still-worn}
use Rattle.fdp_ledger.proofs.Moments.{passed-later, quiet-media}
use Rattle.fdp_ledger.proofs.Worn.{still-worn-out, worn-now, worn-out-more}
use Rattle.fdp_ledger.proofs.Units.{FillsUnit, KeepsUnits, aside-keeps, copies-fill, erased-frees, retired-keeps, same-keep, starved-keeps}

no : true ≡ false → ⊥
no e = cc

-- an erase that failed erased none
spared : (b : Bool) → (b && false || false) ≡ false
spared true = refl
spared false = refl

retired-state : (s now : Relocation) (old new : FlashState) (unit : ℕ) → EndsInErase s now old new unit wrote.Failed → state_at now.units unit ≡ Retired
retired-state s now old new unit h = ap (λ (x : DataUnit). x.state) (changed-here s.units now.units unit _ h.becomes)

-- an entry of a unit that was lost
record IsLoss (e : Entry) : Type 0 where
  pages : media_blocks_of e ≡ 0
  media : is_media_reply e ≡ false
  shut : is_shut e ≡ false
  worn : wears_group e ≡ false
  filled : unit_filled e ≡ None
  erased : unit_erased e ≡ None

module _ (b new : BookSeen) (old now : FlashState) (rg : ℕ) (Image : ℕ → List Cell → Type 0) (low : rg < b.config.groups) (joined : AreJoined b.pages) (units : AreUnitsOf b.config (state_in b) b.pages) (geometry : old.geometry ≡ geometry_of b.config) (stored : IsTrue old.told → HoldsWritten old.geometry old.cells (written_in b) b.pages.units)
    (rest : new.pages ≡ record b.pages { units = new.pages.units; passes = slice_set b.pages.passes rg (passes_at new.pages rg) }) (run : Runs old now Image) where
  abbrev s : Relocation
  s = relocation_at b.pages rg

  abbrev n : Relocation
  n = relocation_at new.pages rg

  there : IsGroup b.pages.units rg
  there = is-group b.config (state_in b) b.pages rg units low

  in-group : old.geometry.units ≡ b.pages.units.group_units
  in-group = ap (λ (g : Geometry). g.units) geometry ∙ sym (ap (λ (k : Cut). k.group_units) units.cut)

  ready : IsReady s b.pages.owners b.pages.handles.classes rg
  ready = (joined.groups rg there).ready

  -- the passes of other groups stay
  others : (k : ℕ) → k ≢ rg → has_taken (passes_at new.pages k) ≡ has_taken (passes_at b.pages k)
  others k ne = ap (λ (t : PageTables). has_taken (passes_at t k)) rest ∙ ap has_taken (passes-there b.pages rg k (passes_at new.pages rg) ne)

  -- where that of this group took a unit if it had, all do
  all-taken : has_taken (passes_at new.pages rg) ≡ has_taken (passes_at b.pages rg) → (k : ℕ) → has_taken (passes_at new.pages k) ≡ has_taken (passes_at b.pages k)
  all-taken same k = ⊎_elim
      (λ (is : k ≡ rg). ap (λ (j : ℕ). has_taken (passes_at new.pages j)) is ∙ same ∙ ap (λ (j : ℕ). has_taken (passes_at b.pages j)) (sym is))
      (λ (ne : k ≢ rg). others k ne)
      (cases_eq k rg)

  -- ---- the page that was found for a copy

  module _ (from to : Spot) (owner : Owner) (middle : Relocation) (is_due : IsDue s.passes s.units b.pages.owners rg (due.Copy from)) (owned : owner_at b.pages.owners from ≡ Some owner) (opened : OpensPage s.passes middle.passes s.units middle.units rg from.unit (lane_at b.pages.handles.classes owner) to) where
    abbrev lane : Lane
    lane = lane_at b.pages.handles.classes owner

    size : old.geometry.unit_pages ≡ b.config.unit_pages
    size = ap (λ (g : Geometry). g.unit_pages) geometry

    blank : IsTrue old.told → slice_get old.cells (page_number old.geometry to) ≡ Some Blank
    blank told = copy-free b.config (point_in b) b.pages rg from to owner middle joined units low is_due owned opened old.geometry old.cells size (stored told).blank

    within : to.page < old.geometry.unit_pages
    within = let page = (copy-to b.config (point_in b) b.pages rg from to owner middle joined units low is_due owned opened).1 in omega (arith, page, size)

    fills-of : (passes : GroupPasses) → UsesPage middle.passes passes middle.units new.pages.units lane to.unit → FillsUnit b.pages.units new.pages.units to.unit
    fills-of passes uses = copies-fill s middle b.pages.owners b.pages.handles.classes rg from.unit lane to ready opened passes new.pages.units uses

    group-of : (passes : GroupPasses) → UsesPage middle.passes passes middle.units new.pages.units lane to.unit → group_in b.pages.units to.unit ≡ rg
    group-of passes uses = ⊎_elim
        (λ (h : IsHaving s middle from.unit lane to.unit). (ready.targets.targets (slot_of lane) to.unit h.target).group)
        (λ (h : IsTaking s middle rg from.unit lane to.unit). h.free.is_free.group)
        opened.target

    copied-free : (copy : Copied) → copy ≡ record { from = from; to = to } → (adds : AddsCopy middle n lane copy) → (k : ℕ) → HasFreeUnits b.pages k → HasFreeUnits new.pages k
    copied-free copy is adds k was =
        let uses = subst (λ (u : ℕ). UsesPage middle.passes adds.passes middle.units new.pages.units lane u) (ap (λ (x : Copied). x.to.unit) is) adds.used in
        let fills = fills-of adds.passes uses in
        let group = group-of adds.passes uses in
        let own : has_taken (passes_at new.pages rg) ≡ has_taken middle.passes = added-taken middle n lane copy adds in
        ⊎_elim
        (λ (same : k ≡ rg). subst (HasFreeUnits new.pages) (sym same) (
        let before : HasFreeUnits b.pages rg = subst (HasFreeUnits b.pages) same was in
        ⊎_elim
        (λ (h : IsHaving s middle from.unit lane to.unit).
        free-had b.pages new.pages rg to.unit fills (ap is_free (ready.targets.targets (slot_of lane) to.unit h.target).stands) (own ∙ ap has_taken h.passes ∙ entered-taken s.passes from.unit) before)
        (λ (h : IsTaking s middle rg from.unit lane to.unit).
        free-taken b.pages new.pages rg to.unit from.unit fills group (emptied-unit s b.pages.owners b.pages.handles.classes rg from.unit ready is_due.0) h.first (own ∙ ap has_taken h.passes) before)
        opened.target))
        (λ (ne : k ≢ rg). free-elsewhere b.pages new.pages k to.unit fills.cut fills.others (λ same. ne (sym same ∙ group)) (others k ne) was)
        (cases_eq k rg)

  -- ---- which units are all blank

  step-emptied : (may_erase : Bool) (step : Step) → IsStep b.pages.owners b.pages.handles.classes rg may_erase s n old now step → IsTrue old.told → OnlyErasesEmpty old.geometry old.cells now.cells (told_by rg step)
  step-emptied may_erase steps.Nothing h told = emptied-none old.geometry old.cells now.cells [] (same-emptied old.geometry old.cells now.cells (h.1.flash.cells told))
  step-emptied may_erase (steps.Copied copy) h told =
      let done = h.ended.2.done refl told in
      emptied-none old.geometry old.cells now.cells (entries.Copied copy ∷ []) (programmed-emptied old.geometry old.cells now.cells h.to (data_spare h.owner.spare) done.bytes (blank h.from h.to h.owner h.middle h.due h.owned h.opened told) done.now)
  step-emptied may_erase steps.ReadyToMove h told = emptied-none old.geometry old.cells now.cells [] (same-emptied old.geometry old.cells now.cells (h.1.flash.cells told))
  step-emptied may_erase (steps.Erased unit) h told = emptied-erase old.geometry old.cells now.cells (entries.Erased (record { unit = unit })) unit (ap (λ (x : Bool). x || false) (eq-eqb unit unit refl)) (h.2.flash.done told refl).others
  step-emptied may_erase steps.EraseDue h told = emptied-none old.geometry old.cells now.cells [] (same-emptied old.geometry old.cells now.cells (h.2.flash.cells told))
  step-emptied may_erase steps.Starved h told = emptied-none old.geometry old.cells now.cells (entries.Worn (record { rg = rg }) ∷ []) (same-emptied old.geometry old.cells now.cells (h.flash.cells told))
  step-emptied may_erase (steps.Fault lost.None) h told =
      let left = h.ended.1.left refl told in
      emptied-none old.geometry old.cells now.cells [] (failed-emptied old.geometry old.cells now.cells h.to (data_spare h.owner.spare) left.0 (blank h.from h.to h.owner h.middle h.due h.owned h.opened told) left.1)
  step-emptied may_erase (steps.Fault (lost.Aside unit)) h told = emptied-none old.geometry old.cells now.cells (entries.Aside (record { unit = unit }) ∷ []) (same-emptied old.geometry old.cells now.cells (h.flash.read.cells told))
  step-emptied may_erase (steps.Fault (lost.Retired unit)) h told = emptied-erase old.geometry old.cells now.cells (entries.Retired (record { unit = unit })) unit (ap (λ (x : Bool). false || x) (eq-eqb unit unit refl)) (h.2.flash.failed told refl).others

  module _ (handed : Counts) (was : IsLedger handed b old) where
    low-handed : handed.faults ≤ old.faults
    low-handed = handed-low handed b old was

    rested : (xs : List Entry) → IsLonger b new xs → AreStill (start_of b) b.entries xs → count_by is_media_reply xs ≡ 0 → Rests s n old now → IsLedger handed new now
    rested xs longer still none h =
        let after = after-uncalled old now Image h.flash run in
        let tables : new.pages.units ≡ b.pages.units = ap (λ (r : Relocation). r.units) h.group in
        still-ledger handed b new old now [] xs longer after (λ unit. refl) h.flash.programs h.flash.cells still
        (record {
          units = same-keep b.pages.units new.pages.units (ap cut_of tables) (ap unit_at tables);
          taken = λ k is. all-taken (ap (λ (r : Relocation). has_taken r.passes) h.group) k;
        })
        (bound-none handed was.handed_is is_media_reply b.entries xs old.faults now.faults after.faults was.counted.media_replies none)
        (passed-later (state_in b).media (state_in new).media old.moment now.moment (quiet-media b new xs longer none) after.moment was.moments)
        was

    rested-none : IsLonger b new [] → Rests s n old now → IsLedger handed new now
    rested-none longer = rested [] longer (record { pages = refl; shut = refl; lost = refl; worn = refl; says = quiet-none (start_of b) b.entries }) refl

    -- ---- a copy

    module _ (from to : Spot) (owner : Owner) (middle : Relocation) (is_due : IsDue s.passes s.units b.pages.owners rg (due.Copy from)) (owned : owner_at b.pages.owners from ≡ Some owner) (opened : OpensPage s.passes middle.passes s.units middle.units rg from.unit (lane_at b.pages.handles.classes owner) to) where
      abbrev way : Lane
      way = lane_at b.pages.handles.classes owner

      own-blank : IsTrue old.told → slice_get old.cells (page_number old.geometry to) ≡ Some Blank
      own-blank = blank from to owner middle is_due owned opened

      own-within : to.page < old.geometry.unit_pages
      own-within = within from to owner middle is_due owned opened

      own-fills : (passes : GroupPasses) → UsesPage middle.passes passes middle.units new.pages.units way to.unit → FillsUnit b.pages.units new.pages.units to.unit
      own-fills = fills-of from to owner middle is_due owned opened

      -- a page was copied
      copied-ledger : (copy : Copied) → copy ≡ record { from = from; to = to } → AddsCopy middle n way copy → Copies old now from to (data_spare owner.spare) wrote.Done → IsLonger b new (entries.Copied copy ∷ []) → IsLedger handed new now
      copied-ledger copy is adds copies longer =
          let after = after-made old now (fetch_at from false ∷ program_at to false ∷ []) copies.made in
          let unit : copy.to.unit ≡ to.unit = ap (λ (x : Copied). x.to.unit) is in
          let uses = subst (λ (u : ℕ). UsesPage middle.passes adds.passes middle.units new.pages.units way u) unit adds.used in
          let fills = own-fills adds.passes uses in
          ledger-of handed b new old now (fetch_at from false ∷ program_at to false ∷ []) (entries.Copied copy ∷ []) longer after (record {
            programs = more-programs handed.programs old.programs now.programs b.entries (entries.Copied copy ∷ []) was.counted.programs (copies.programs refl ∙ sym (counted_more-one old.programs));
            media_replies = bound-none handed was.handed_is is_media_reply b.entries (entries.Copied copy ∷ []) old.faults now.faults after.faults was.counted.media_replies refl;
            shut = bound-none handed was.handed_is is_shut b.entries (entries.Copied copy ∷ []) old.faults now.faults after.faults was.counted.shut refl;
            lost = bound-none handed was.handed_is loses_unit b.entries (entries.Copied copy ∷ []) old.faults now.faults after.faults was.counted.lost refl;
            worn = λ fresh. still-worn handed.faults old.faults now.faults b.entries (entries.Copied copy ∷ []) after.faults refl (was.counted.worn fresh);
            worn_out = still-worn-out handed (start_of b) old now (fetch_at from false ∷ program_at to false ∷ []) after was.listed b.entries (entries.Copied copy ∷ []) refl was.counted.worn_out;
            units = accounted-filled handed (start_of b) b.pages.units new.pages.units b.entries old now (fetch_at from false ∷ program_at to false ∷ []) was.handed_is was.listed after was.units (entries.Copied copy) to.unit fills (record { filled = ap (λ (u : ℕ). Some u) unit; erased = refl }) (λ u. refl)
                (λ told no_page.
                let done = copies.done refl told in
                whole-unblank old.geometry now.cells to (data_spare owner.spare) done.bytes own-within (programmed-whole old.geometry old.cells now.cells to (data_spare owner.spare) done.bytes (own-blank told) done.now)
                (subst (λ (k : Geometry). IsBlankUnit k now.cells to.unit) after.geometry no_page))
                (λ told. let done = copies.done refl told in programmed-emptied old.geometry old.cells now.cells to (data_spare owner.spare) done.bytes (own-blank told) done.now);
            free = λ fresh well k is_group. copied-free from to owner middle is_due owned opened copy is adds k (was.free fresh (no-rose handed.faults old.faults now.faults after.faults well) k (group-was b.pages.units new.pages.units k fills.cut is_group));
            moments = passed-later (state_in b).media (state_in new).media old.moment now.moment (quiet-media b new (entries.Copied copy ∷ []) longer refl) after.moment was.moments;
          }) was

      -- a page was skipped
      skipped-ledger : SkipsPage middle n b.pages.owners way to.unit → Copies old now from to (data_spare owner.spare) wrote.Failed → IsLonger b new [] → IsLedger handed new now
      skipped-ledger skips copies longer =
          let after = after-made old now (fetch_at from false ∷ program_at to true ∷ []) copies.made in
          let rose = (copies.failed refl).rose in
          ledger-of handed b new old now (fetch_at from false ∷ program_at to true ∷ []) [] longer after (record {
            programs = more-programs handed.programs old.programs now.programs b.entries [] was.counted.programs (same-programs old.programs now.programs [] (copies.not_done refl) refl);
            media_replies = bound-none handed was.handed_is is_media_reply b.entries [] old.faults now.faults after.faults was.counted.media_replies refl;
            shut = bound-none handed was.handed_is is_shut b.entries [] old.faults now.faults after.faults was.counted.shut refl;
            lost = bound-none handed was.handed_is loses_unit b.entries [] old.faults now.faults after.faults was.counted.lost refl;
            worn = λ fresh. still-worn handed.faults old.faults now.faults b.entries [] after.faults refl (was.counted.worn fresh);
            worn_out = still-worn-out handed (start_of b) old now (fetch_at from false ∷ program_at to true ∷ []) after was.listed b.entries [] refl was.counted.worn_out;
            units = accounted-spoilt handed (start_of b) b.pages.units new.pages.units b.entries old now (fetch_at from false ∷ program_at to true ∷ []) was.handed_is was.listed after was.units [] (fetch_at from false ∷ []) to (own-fills skips.passes skips.used) (quiet-none (start_of b) b.entries) (λ u. refl) refl rose
                (λ told. let left = copies.left refl told in failed-emptied old.geometry old.cells now.cells to (data_spare owner.spare) left.0 (own-blank told) left.1);
            free = λ fresh well. absurd (well (rose-since handed.faults old.faults now.faults low-handed rose));
            moments = passed-later (state_in b).media (state_in new).media old.moment now.moment (quiet-media b new [] longer refl) after.moment was.moments;
          }) was

    -- ---- a unit was lost

    lost-ledger : (e : Entry) (calls : List Call) → IsLonger b new (e ∷ []) → IsAfter old now calls → ErasesNone calls → now.programs ≡ old.programs → Rose old.faults now.faults → IsLoss e → KeepsUnits b.pages.units new.pages.units → (IsTrue old.told → (unit : ℕ) → is_lost (state_at new.pages.units unit) ≡ false → IsBlankUnit now.geometry now.cells unit → IsBlankUnit old.geometry old.cells unit) → IsLedger handed new now
    lost-ledger e calls longer after none programs rose is keeps cells =
        ledger-of handed b new old now calls (e ∷ []) longer after (record {
          programs = more-programs handed.programs old.programs now.programs b.entries (e ∷ []) was.counted.programs (same-programs old.programs now.programs (e ∷ []) programs (ap (λ (k : ℕ). 0 + k) is.pages));
          media_replies = bound-none handed was.handed_is is_media_reply b.entries (e ∷ []) old.faults now.faults after.faults was.counted.media_replies (ap (λ (x : Bool). 0 + cond x 1 0) is.media);
          shut = bound-none handed was.handed_is is_shut b.entries (e ∷ []) old.faults now.faults after.faults was.counted.shut (ap (λ (x : Bool). 0 + cond x 1 0) is.shut);
          lost = bound-one handed was.handed_is loses_unit b.entries (e ∷ []) old.faults now.faults after.faults was.counted.lost (let few = one-most (loses_unit e) in omega (arith, few)) rose;
          worn = λ fresh. still-worn handed.faults old.faults now.faults b.entries (e ∷ []) after.faults (ap (λ (x : Bool). x || false) is.worn) (was.counted.worn fresh);
          worn_out = still-worn-out handed (start_of b) old now calls after was.listed b.entries (e ∷ []) (ap (λ (x : Bool). x || false) is.worn) was.counted.worn_out;
          units = accounted-kept handed (start_of b) b.pages.units new.pages.units b.entries old now calls was.handed_is was.listed after was.units (e ∷ []) keeps (quiet-one (start_of b) b.entries e (record { filled = is.filled; erased = is.erased })) (λ unit there. none unit) (λ told u here. cells told u);
          free = λ fresh well. absurd (well (rose-since handed.faults old.faults now.faults low-handed rose));
          moments = passed-later (state_in b).media (state_in new).media old.moment now.moment (quiet-media b new (e ∷ []) longer (ap (λ (x : Bool). 0 + cond x 1 0) is.media)) after.moment was.moments;
        }) was

    unread-ledger : (unit : ℕ) → IsUnread b.pages.owners b.pages.handles.classes rg s n old now unit → IsLonger b new (entries.Aside (record { unit = unit }) ∷ []) → IsLedger handed new now
    unread-ledger unit h longer =
        let after = after-made old now (fetch_at h.from true ∷ []) h.flash.made in
        let closed : state_at b.pages.units unit ≡ Closed = ap (state_at b.pages.units) h.unit_is ∙ (emptied-unit s b.pages.owners b.pages.handles.classes rg h.from.unit ready h.due.0).stands in
        lost-ledger (entries.Aside (record { unit = unit })) (fetch_at h.from true ∷ []) longer after (λ u. refl) h.flash.read.programs h.flash.failed.rose (record { pages = refl; media = refl; shut = refl; worn = refl; filled = refl; erased = refl }) (aside-keeps s n unit closed h.aside)
        (λ told u kept no_page. same-emptied old.geometry old.cells now.cells (h.flash.read.cells told) u (subst (λ (k : Geometry). IsBlankUnit k now.cells u) after.geometry no_page))

    retired-ledger : (unit : ℕ) → IsDue s.passes s.units b.pages.owners rg (due.Erase unit) → EndsInErase s n old now unit wrote.Failed → IsLonger b new (entries.Retired (record { unit = unit }) ∷ []) → IsLedger handed new now
    retired-ledger unit is_due h longer =
        let after = after-erased old now Image unit wrote.Failed h.flash run in
        let closed = (emptied-unit s b.pages.owners b.pages.handles.classes rg unit ready is_due.0).stands in
        lost-ledger (entries.Retired (record { unit = unit })) (erase_at unit true ∷ []) longer after (λ u. spared (unit == u)) h.flash.programs (h.flash.ended.fault refl).rose (record { pages = refl; media = refl; shut = refl; worn = refl; filled = refl; erased = refl }) (retired-keeps s n old now unit closed h)
        (λ told u kept no_page. ⊎_elim
        (λ (same : u ≡ unit). absurd (no (sym (ap is_lost (ap (state_at new.pages.units) same ∙ retired-state s n old now unit h)) ∙ kept)))
        (λ (ne : u ≢ unit). outside-emptied old.geometry old.cells now.cells unit u (h.flash.failed told refl).others ne (subst (λ (k : Geometry). IsBlankUnit k now.cells u) after.geometry no_page))
        (cases_eq u unit))

    -- ---- a unit was erased

    erased-ledger : (unit : ℕ) → IsDue s.passes s.units b.pages.owners rg (due.Erase unit) → EndsInErase s n old now unit wrote.Done → IsLonger b new (entries.Erased (record { unit = unit }) ∷ []) → IsLedger handed new now
    erased-ledger unit is_due h longer =
        let after = after-erased old now Image unit wrote.Done h.flash run in
        let emptied = emptied-unit s b.pages.owners b.pages.handles.classes rg unit ready is_due.0 in
        let frees = erased-frees s n old now unit emptied.is_unit emptied.stands h in
        let xs : List Entry = entries.Erased (record { unit = unit }) ∷ [] in
        ledger-of handed b new old now (erase_at unit false ∷ []) (entries.Erased (record { unit = unit }) ∷ []) longer after (record {
          programs = more-programs handed.programs old.programs now.programs b.entries xs was.counted.programs (same-programs old.programs now.programs xs h.flash.programs refl);
          media_replies = bound-none handed was.handed_is is_media_reply b.entries xs old.faults now.faults after.faults was.counted.media_replies refl;
          shut = bound-none handed was.handed_is is_shut b.entries xs old.faults now.faults after.faults was.counted.shut refl;
          lost = bound-none handed was.handed_is loses_unit b.entries xs old.faults now.faults after.faults was.counted.lost refl;
          worn = λ fresh. still-worn handed.faults old.faults now.faults b.entries xs after.faults refl (was.counted.worn fresh);
          worn_out = still-worn-out handed (start_of b) old now (erase_at unit false ∷ []) after was.listed b.entries xs refl was.counted.worn_out;
          units = accounted-erased handed (start_of b) b.pages.units new.pages.units b.entries old now (erase_at unit false ∷ []) was.handed_is was.listed after was.units (entries.Erased (record { unit = unit })) unit frees (record { filled = refl; erased = refl }) refl
              (λ told other ne no_page. outside-emptied old.geometry old.cells now.cells unit other (h.flash.done told refl).others ne no_page);
          free = λ fresh well k is_group.
              let before = was.free fresh (no-rose handed.faults old.faults now.faults after.faults well) k (group-was b.pages.units new.pages.units k frees.cut is_group) in
              ⊎_elim
              (λ (same : k ≡ rg). free-freed b.pages new.pages k unit frees (emptied.group ∙ sym same) before)
              (λ (ne : k ≢ rg). free-elsewhere b.pages new.pages k unit frees.cut frees.others (λ same. ne (sym same ∙ emptied.group)) (others k ne) before)
              (cases_eq k rg);
          moments = passed-later (state_in b).media (state_in new).media old.moment now.moment (quiet-media b new xs longer refl) after.moment was.moments;
        }) was

    -- ---- no unit is free

    -- a fault was counted since the flash was handed in
    starved-rose : IsTrue (start_of b).fresh → IsStarved b.pages.owners b.pages.handles.classes rg s n old now → Rose handed.faults now.faults
    starved-rose fresh h = ⊎_elim
        (λ (early : now.faults < counted handed.faults).
        absurd (none-free b.pages rg h.from.unit (emptied-unit s b.pages.owners b.pages.handles.classes rg h.from.unit ready h.due.0) h.starved.free
        (was.free fresh (λ rose. omega (arith, early, rose, h.flash.faults)) rg there)))
        (λ (late : counted handed.faults ≤ now.faults). late)
        (cases_lt now.faults (counted handed.faults))

    starved-ledger : IsStarved b.pages.owners b.pages.handles.classes rg s n old now → IsLonger b new (entries.Worn (record { rg = rg }) ∷ []) → IsLedger handed new now
    starved-ledger h longer =
        let after = after-uncalled old now Image h.flash run in
        let xs : List Entry = entries.Worn (record { rg = rg }) ∷ [] in
        ledger-of handed b new old now [] (entries.Worn (record { rg = rg }) ∷ []) longer after (record {
          programs = more-programs handed.programs old.programs now.programs b.entries xs was.counted.programs (same-programs old.programs now.programs xs h.flash.programs refl);
          media_replies = bound-none handed was.handed_is is_media_reply b.entries xs old.faults now.faults after.faults was.counted.media_replies refl;
          shut = bound-none handed was.handed_is is_shut b.entries xs old.faults now.faults after.faults was.counted.shut refl;
          lost = bound-none handed was.handed_is loses_unit b.entries xs old.faults now.faults after.faults was.counted.lost refl;
          worn = λ fresh wears. starved-rose fresh h;
          worn_out = worn-out-more handed (start_of b) old now [] after was.listed b.entries rg
              (λ knows. worn-now handed (start_of b) b.pages.units b.entries old rg was.handed_is in-group there h.starved.free was.units knows) was.counted.worn_out;
          units = accounted-kept handed (start_of b) b.pages.units new.pages.units b.entries old now [] was.handed_is was.listed after was.units xs
              (starved-keeps s.passes n.passes s.units n.units rg (lane_at b.pages.handles.classes h.owner) h.starved) (quiet-one (start_of b) b.entries _ (record { filled = refl; erased = refl })) (λ unit there. refl)
              (λ told u here kept no_page. same-emptied old.geometry old.cells now.cells (h.flash.cells told) u (subst (λ (k : Geometry). IsBlankUnit k now.cells u) after.geometry no_page));
          free = λ fresh well. absurd (well (starved-rose fresh h));
          moments = passed-later (state_in b).media (state_in new).media old.moment now.moment (quiet-media b new xs longer refl) after.moment was.moments;
        }) was

    -- ---- each step

    step-ledger : (may_erase : Bool) (step : Step) → IsStep b.pages.owners b.pages.handles.classes rg may_erase s n old now step → IsLonger b new (told_by rg step) → IsLedger handed new now
    step-ledger may_erase steps.Nothing h longer = rested-none longer h.1
    step-ledger may_erase (steps.Copied copy) h longer = copied-ledger h.from h.to h.owner h.middle h.due h.owned h.opened copy h.ended.0 h.ended.1 h.ended.2 longer
    step-ledger may_erase steps.ReadyToMove h longer = rested-none longer h.1
    step-ledger may_erase (steps.Erased unit) h longer = erased-ledger unit h.0 h.2 longer
    step-ledger may_erase steps.EraseDue h longer = rested-none longer h.2
    step-ledger may_erase steps.Starved h longer = starved-ledger h longer
    step-ledger may_erase (steps.Fault lost.None) h longer = skipped-ledger h.from h.to h.owner h.middle h.due h.owned h.opened h.ended.0 h.ended.1 longer
    step-ledger may_erase (steps.Fault (lost.Aside unit)) h longer = unread-ledger unit h longer
    step-ledger may_erase (steps.Fault (lost.Retired unit)) h longer = retired-ledger unit h.0 h.2 longer

pub ledger-relocated : (handed : Counts) (b new : BookSeen) (old now : FlashState) (rg : ℕ) (may_erase : Bool) (step : Step) (Image : ℕ → List Cell → Type 0) → rg < b.config.groups → AreJoined b.pages → AreUnitsOf b.config (state_in b) b.pages → old.geometry ≡ geometry_of b.config → (IsTrue old.told → HoldsWritten old.geometry old.cells (written_in b) b.pages.units)
    → Relocates b new old now rg may_erase step → Runs old now Image → IsLedger handed b old → IsLedger handed new now
ledger-relocated handed b new old now rg may_erase step Image group joined units geometry stored is run was =
    step-ledger b new old now rg Image group joined units geometry stored is.rest run handed was may_erase step is.is is.longer

-- a data unit that is all blank was so before, unless the entry tells of its erase
pub emptied-relocated : (b new : BookSeen) (old now : FlashState) (rg : ℕ) (may_erase : Bool) (step : Step) (Image : ℕ → List Cell → Type 0) → rg < b.config.groups → AreJoined b.pages → AreUnitsOf b.config (state_in b) b.pages → old.geometry ≡ geometry_of b.config → (IsTrue old.told → HoldsWritten old.geometry old.cells (written_in b) b.pages.units)
    → Relocates b new old now rg may_erase step → Runs old now Image → IsTrue old.told → OnlyErasesEmpty old.geometry old.cells now.cells (told_by rg step)
emptied-relocated b new old now rg may_erase step Image group joined units geometry stored is run told =
    step-emptied b new old now rg Image group joined units geometry stored is.rest run may_erase step is.is told
