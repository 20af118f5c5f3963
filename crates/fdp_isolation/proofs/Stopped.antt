-- What a stop in a call leaves of isolation, where data was kept apart.
use Rattle.std.proofs.Common.{◌≡◌, ◌≢◌, ◌⊎◌, ℕ, ◌<◌, ◌≤◌, Bool, false, List, refl, sym, ◌∙◌, subst, arith, inl, inr, ⊎_elim}
use Rattle.std.specs.Prelude.{IsTrue, slice_get}
use Rattle.std.specs.Option.{option_map_or}
use Rattle.std.proofs.lemmas.Bool.{cases_eq}
use Rattle.fdp_base.specs.declared.command.Write.{Write}
use Rattle.fdp_base.specs.declared.config.Class.{Class}
use Rattle.fdp_base.specs.declared.config.DriveConfig.{DriveConfig}
use Rattle.fdp_base.specs.declared.config.Geometry.{Geometry}
use Rattle.fdp_base.specs.declared.entry.Entry.{Entry}
use Rattle.fdp_base.specs.declared.entry.Spot.{Spot}
use Rattle.fdp_base.specs.Placement.{classes_of, geometry_of}
use Rattle.fdp_base.specs.Spare.{data_spare}
use Rattle.fdp_book.specs.declared.ticket.Ticket.{Ticket}
use Rattle.fdp_book.specs.Book.{BookSeen, point_in, state_in}
use Rattle.fdp_book.specs.Relocating.{Relocates}
use Rattle.fdp_book.specs.Tickets.{IsNextSpot, IsTicketOf}
use Rattle.fdp_book.specs.fdp_collector.Copying.{Copies, MayBeLeft}
use Rattle.fdp_book.specs.fdp_collector.declared.step.Lost.TheVariants as lost
use Rattle.fdp_book.specs.fdp_collector.declared.step.Step.{Step}
use Rattle.fdp_book.specs.fdp_collector.declared.step.Step.TheVariants as steps
use Rattle.fdp_book.specs.fdp_collector.Step.{IsUncalled}
use Rattle.fdp_calls.specs.Calls.{counted_more}
use Rattle.fdp_flash.specs.declared.answer.Wrote.{Wrote}
use Rattle.fdp_flash.specs.declared.answer.Wrote.TheVariants as wrote
use Rattle.fdp_flash.specs.declared.cell.Cell.{Cell}
use Rattle.fdp_flash.specs.declared.cell.Cell.TheVariants.{Whole}
use Rattle.fdp_flash.specs.Answers.{Erases}
use Rattle.fdp_flash.specs.Cells.{EraseMayLeave, ProgramMayLeave}
use Rattle.fdp_flash.specs.FlashState.{FlashState}
use Rattle.fdp_flash.proofs.Pages.{erased_may_leave}
use Rattle.fdp_image.specs.CheckpointFields.{is_persistent}
use Rattle.fdp_image.specs.Isolation.{IsGrouped, IsIsolated, IsOfOneGroup}
use Rattle.fdp_flash.specs.Layout.{page_number}
use Rattle.fdp_image.specs.Roomy.{page_in}
use Rattle.fdp_image.specs.Saving.{SameDataPages}
use Rattle.fdp_isolation.specs.Isolated.{IsIsolatedDrive}
use Rattle.fdp_isolation.specs.Laned.{AreLaned, StandsOver}
use Rattle.fdp_isolation.specs.Stays.{IsSameSetting}
use Rattle.fdp_isolation.proofs.Keeping.{GoesWay}
use Rattle.fdp_isolation.proofs.Pages.{KeepsPages, each-kept, each-weaker, erase-keeps, program-others}
use Rattle.fdp_isolation.proofs.Placed.{next-pages, next-write}
use Rattle.fdp_isolation.proofs.Promised.{alone-in-lane, isolated}
use Rattle.fdp_isolation.proofs.Relocated.{copy-pages, inside}
use Rattle.fdp_isolation.proofs.Saved.{data-page}
use Rattle.fdp_book.specs.fdp_collector.Ready.{lane_at}
use Rattle.fdp_book.specs.fdp_collector.Step.{IsCopyStep}
use Rattle.fdp_book.specs.fdp_locations.Written.{next_spare}
use Rattle.fdp_book.specs.fdp_pages.PageTables.{relocation_at}
use Rattle.fdp_passes.specs.declared.lane.Lane.{Lane}
use Rattle.fdp_rules.specs.PlainState.{Going, PlainState}
use Rattle.fdp_rules.specs.Point.{Point}
use Rattle.fdp_rules.specs.Step.{IsDataUnit}

-- ---- what a call leaves

-- each whole page of a data unit was so before
abbrev pub PutsNone : DriveConfig → List Cell → List Cell → Type 0
PutsNone c old new = (unit : ℕ) → IsDataUnit c unit → KeepsPages c old new unit

-- so was each but of one unit, whose pages name its group and the generation in force, and go one way
pub record PutsOne (c : DriveConfig) (s : PlainState) (old new : List Cell) : Type 0 where
  pub unit : ℕ
  pub classes : List Class
  pub lane : Lane
  pub in_force : classes_of c s.enabled s.index ≡ classes
  pub others : (other : ℕ) → other ≢ unit → KeepsPages c old new other
  pub way : GoesWay c s.generation classes new unit lane

-- no page was put that would bring together what is kept apart
abbrev pub LeavesApart : DriveConfig → PlainState → List Cell → List Cell → Type 0
LeavesApart c s old new = PutsNone c old new ⊎ PutsOne c s old new

-- ---- a unit that is isolated

module _ (c : DriveConfig) (unit : ℕ) where
  pub isolated-kept : (s : PlainState) (old new : List Cell) → KeepsPages c old new unit → IsIsolated c s old unit → IsIsolated c s new unit
  isolated-kept s old new keeps h = record {
    generation = each-kept c unit old new _ keeps h.generation;
    alone = λ page spare bytes low is.
        let x = h.alone page spare bytes low (keeps page spare bytes low is) in
        (x.0, x.1, λ apart. each-kept c unit old new _ keeps (x.2 apart));
  }

  pub isolated-as : (s now : PlainState) (cells : List Cell) → IsSameSetting s now → IsIsolated c s cells unit → IsIsolated c now cells unit
  isolated-as s now cells same h = record {
    generation = each-weaker c unit cells _ _ (λ x named. named ∙ sym same.generation) h.generation;
    alone = each-weaker c unit cells _ _ (λ x others apart. others (subst (λ (classes : List Class). IsTrue (option_map_or is_persistent (slice_get classes x.ruh) false)) (in-force same.enabled same.index) apart)) h.alone;
  } where
    in-force : now.enabled ≡ s.enabled → now.index ≡ s.index → classes_of c now.enabled now.index ≡ classes_of c s.enabled s.index
    in-force enabled index = λ i. classes_of c (enabled i) (index i)

  pub way-isolated : (s : PlainState) (generation : ℕ) (classes : List Class) (lane : Lane) (cells : List Cell) → GoesWay c generation classes cells unit lane → s.generation ≡ generation → classes_of c s.enabled s.index ≡ classes → IsIsolated c s cells unit
  way-isolated s generation classes lane cells way same in_force = record {
    generation = each-weaker c unit cells _ _ (λ x named. named.1 ∙ sym same) way;
    alone = λ page spare bytes low e.
        let x = way page spare bytes low e in (
          x.0,
          x.1,
          λ keeps other others content below f.
              let y = way other others content below f in (
                y.0,
                y.1,
                alone-in-lane classes x.0.ruh y.0.ruh (subst (λ (xs : List Class). IsTrue (option_map_or is_persistent (slice_get xs x.0.ruh) false)) in_force keeps) (x.2.2 ∙ sym y.2.2),
              ),
        );
  }

-- ---- units that are grouped, and a drive that is isolated

group-kept : (c : DriveConfig) (unit : ℕ) (old new : List Cell) → KeepsPages c old new unit → IsOfOneGroup c old unit → IsOfOneGroup c new unit
group-kept c unit old new keeps h = record { generation = h.generation; pages = each-kept c unit old new _ keeps h.pages }

way-group : (c : DriveConfig) (generation : ℕ) (classes : List Class) (lane : Lane) (cells : List Cell) (unit : ℕ) → GoesWay c generation classes cells unit lane → IsOfOneGroup c cells unit
way-group c generation classes lane cells unit way = record { generation = generation; pages = each-weaker c unit cells _ _ (λ x named. (named.0, named.1)) way }

pub left-grouped : (c : DriveConfig) (s : PlainState) (old new : List Cell) → LeavesApart c s old new → IsGrouped c old → IsGrouped c new
left-grouped c s old new (inl none) h unit is = group-kept c unit old new (none unit is) (h unit is)
left-grouped c s old new (inr one) h unit is = ⊎_elim
    (λ (same : unit ≡ one.unit). subst (IsOfOneGroup c new) (sym same) (way-group c s.generation one.classes one.lane new one.unit one.way))
    (λ (ne : unit ≢ one.unit). group-kept c unit old new (one.others unit ne) (h unit is))
    (cases_eq unit one.unit)

pub left-isolated : (c : DriveConfig) (p : Point) (es : List Entry) (old new : List Cell) → LeavesApart c p.state old new → IsIsolatedDrive c p es old → IsIsolatedDrive c p es new
left-isolated c p es old new left h = record { grouped = left-grouped c p.state old new left h.grouped; apart = λ unit is used. apart left unit is (h.apart unit is used) } where
  apart : LeavesApart c p.state old new → (unit : ℕ) → IsDataUnit c unit → IsIsolated c p.state old unit → IsIsolated c p.state new unit
  apart (inl none) unit is was = isolated-kept c unit p.state old new (none unit is) was
  apart (inr one) unit is was = ⊎_elim
      (λ (same : unit ≡ one.unit). subst (IsIsolated c p.state new) (sym same) (way-isolated c one.unit p.state p.state.generation one.classes one.lane new one.way refl one.in_force))
      (λ (ne : unit ≢ one.unit). isolated-kept c unit p.state old new (one.others unit ne) was)
      (cases_eq unit one.unit)

-- ---- calls that put no page

pub none-same : (c : DriveConfig) (old new : List Cell) → new ≡ old → PutsNone c old new
none-same c old new same = subst (PutsNone c old) (sym same) (λ unit is page spare bytes low whole. whole)

pub none-saved : (c : DriveConfig) (old new : List Cell) → SameDataPages c old new → PutsNone c old new
none-saved c old new same unit is page spare bytes low whole = sym (same (page_number (geometry_of c) (page_in unit page)) (data-page c unit page is low)) ∙ whole

-- ---- the next page of a write

pub write-left : (b : BookSeen) (ticket : Ticket) (g : Going) (w : Write) (spot : Spot) (bytes : List ℕ) (cells now : List Cell) → StandsOver b cells → IsTicketOf (state_in b) ticket g → IsNextSpot b ticket g spot
    → ProgramMayLeave (geometry_of b.config) cells spot (data_spare (next_spare (state_in b) g w)) bytes now → AreLaned b cells → LeavesApart b.config (state_in b) cells now
write-left b ticket g w spot bytes cells now kept is next left h = inr (record {
  unit = spot.unit;
  classes = b.pages.handles.classes;
  lane = _;
  in_force = kept.known.units.classes;
  others = program-others b.config cells now spot (data_spare (next_spare (state_in b) g w)) bytes left (next-write b ticket g w spot kept.known is next).inside;
  way = next-pages b ticket g w spot bytes cells now kept is next left h;
})

-- ---- a step of relocation

module _ (old new : BookSeen) (before after : FlashState) (rg : ℕ) (may_erase : Bool) (told : IsTrue before.told) (geometry : before.geometry ≡ geometry_of old.config) (low : rg < old.config.groups) (kept : StandsOver old before.cells) (h : AreLaned old before.cells) where
  -- what a stop at some moment within it leaves
  abbrev Within : Type 0
  Within = (m : ℕ) (image : List Cell) → before.moment < m → m ≤ after.moment → after.during m image → LeavesApart old.config (state_in old) before.cells image

  -- no call was made
  uncalled : IsUncalled before after → Within
  uncalled none m image above most during = let same = none.moment in absurd (omega (arith, same, above, most))

  -- an erase, done or failed
  erased : (unit : ℕ) (result : Wrote) → after.moment ≡ counted_more before.moment 1 → Erases before after unit result → Within
  unfolding counted_more
  erased unit result one erases m image above most during =
      let last : m ≡ after.moment = omega (arith, one, above, most) in
      inl (λ u is. erase-keeps old.config before.cells image unit
      (subst (λ (g : Geometry). EraseMayLeave g before.cells unit image) geometry (erases.ended.images image (omega (arith, last, above)) (subst (λ (k : ℕ). after.during k image) last during))) u)

  -- a copy, done or failed
  copied : (step : Step) (is : IsCopyStep old.pages.owners old.pages.handles.classes rg (relocation_at old.pages rg) (relocation_at new.pages rg) before after step) (image : List Cell) → (image ≡ before.cells) ⊎ MayBeLeft before.geometry before.cells is.to (data_spare is.owner.spare) image
      → LeavesApart old.config (state_in old) before.cells image
  copied step is image (inl same) = inl (none-same old.config before.cells image same)
  copied step is image (inr left) =
      let there : ProgramMayLeave (geometry_of old.config) before.cells is.to (data_spare is.owner.spare) left.0 image = subst (λ (g : Geometry). ProgramMayLeave g before.cells is.to (data_spare is.owner.spare) left.0 image) geometry left.1 in
      inr (record {
        unit = is.to.unit;
        classes = old.pages.handles.classes;
        lane = lane_at old.pages.handles.classes is.owner;
        in_force = kept.known.units.classes;
        others = program-others old.config before.cells image is.to (data_spare is.owner.spare) left.0 there (inside old new before after rg may_erase told geometry low kept h step is);
        way = copy-pages old new before after rg may_erase told geometry low kept h step is image left.0 there;
      })

  -- behind a copy, and behind an erase
  copy-ended : (from to : Spot) (spare : List ℕ) (result : Wrote) → Copies before after from to spare result → MayBeLeft before.geometry before.cells to spare after.cells
  copy-ended from to spare wrote.Done copies = let done = copies.done refl told in (done.bytes, record { cell = Whole spare done.bytes; page = inr (inr refl); cells = done.now })
  copy-ended from to spare wrote.Failed copies = copies.left refl told

  erased-pages : (unit : ℕ) (result : Wrote) → Erases before after unit result → (u : ℕ) → KeepsPages old.config before.cells after.cells u
  erased-pages unit wrote.Done erases = erase-keeps old.config before.cells after.cells unit (subst (λ (g : Geometry). EraseMayLeave g before.cells unit after.cells) geometry (erased_may_leave before.geometry before.cells unit after.cells (erases.done told refl)))
  erased-pages unit wrote.Failed erases = erase-keeps old.config before.cells after.cells unit (subst (λ (g : Geometry). EraseMayLeave g before.cells unit after.cells) geometry (erases.failed told refl))

  pub step-left : (step : Step) → Relocates old new before after rg may_erase step → Within
  step-left steps.Nothing r = uncalled r.is.1.flash
  step-left (steps.Copied copy) r = λ m image above most during. copied (steps.Copied copy) r.is image (r.is.ended.2.stops.images told m image above most during)
  step-left steps.ReadyToMove r = uncalled r.is.1.flash
  step-left (steps.Erased unit) r = erased unit wrote.Done r.is.2.made.moment r.is.2.flash
  step-left steps.EraseDue r = uncalled r.is.2.flash
  step-left steps.Starved r = uncalled r.is.flash
  step-left (steps.Fault lost.None) r = λ m image above most during. copied (steps.Fault lost.None) r.is image (r.is.ended.1.stops.images told m image above most during)
  step-left (steps.Fault (lost.Aside unit)) r = λ m image above most during. inl (none-same old.config before.cells image (r.is.flash.read.stops.images told m image above most during))
  step-left (steps.Fault (lost.Retired unit)) r = erased unit wrote.Failed r.is.2.made.moment r.is.2.flash

  -- ---- what the whole step leaves

  pub step-ended : (step : Step) → Relocates old new before after rg may_erase step → LeavesApart old.config (state_in old) before.cells after.cells
  step-ended steps.Nothing r = inl (none-same old.config before.cells after.cells (r.is.1.flash.cells told))
  step-ended (steps.Copied copy) r = copied (steps.Copied copy) r.is after.cells (inr (copy-ended r.is.from r.is.to (data_spare r.is.owner.spare) wrote.Done r.is.ended.2))
  step-ended steps.ReadyToMove r = inl (none-same old.config before.cells after.cells (r.is.1.flash.cells told))
  step-ended (steps.Erased unit) r = inl (λ u is. erased-pages unit wrote.Done r.is.2.flash u)
  step-ended steps.EraseDue r = inl (none-same old.config before.cells after.cells (r.is.2.flash.cells told))
  step-ended steps.Starved r = inl (none-same old.config before.cells after.cells (r.is.flash.cells told))
  step-ended (steps.Fault lost.None) r = copied (steps.Fault lost.None) r.is after.cells (inr (copy-ended r.is.from r.is.to (data_spare r.is.owner.spare) wrote.Failed r.is.ended.1))
  step-ended (steps.Fault (lost.Aside unit)) r = inl (none-same old.config before.cells after.cells (r.is.flash.read.cells told))
  step-ended (steps.Fault (lost.Retired unit)) r = inl (λ u is. erased-pages unit wrote.Failed r.is.2.flash u)

-- ---- the same of a drive that is isolated

pub placed-isolated : (b : BookSeen) (ticket : Ticket) (g : Going) (w : Write) (spot : Spot) (bytes : List ℕ) (cells image : List Cell) → StandsOver b cells → AreLaned b cells → IsTicketOf (state_in b) ticket g → IsNextSpot b ticket g spot
    → ProgramMayLeave (geometry_of b.config) cells spot (data_spare (next_spare (state_in b) g w)) bytes image → IsIsolatedDrive b.config (point_in b) b.entries image
placed-isolated b ticket g w spot bytes cells image kept h is next left = left-isolated b.config (point_in b) b.entries cells image (write-left b ticket g w spot bytes cells image kept is next left h) (isolated b cells kept h)

pub erased-isolated : (c : DriveConfig) (p : Point) (es : List Entry) (unit : ℕ) (cells image : List Cell) → EraseMayLeave (geometry_of c) cells unit image → IsIsolatedDrive c p es cells → IsIsolatedDrive c p es image
erased-isolated c p es unit cells image left h = left-isolated c p es cells image (inl (λ u is. erase-keeps c cells image unit left u)) h

pub saved-isolated : (c : DriveConfig) (p : Point) (es : List Entry) (cells image : List Cell) → SameDataPages c cells image → IsIsolatedDrive c p es cells → IsIsolatedDrive c p es image
saved-isolated c p es cells image same h = left-isolated c p es cells image (inl (none-saved c cells image same)) h
