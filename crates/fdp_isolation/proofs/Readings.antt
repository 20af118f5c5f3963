-- Readings, and the units in which their blocks stand.
use Rattle.std.proofs.Common.{◌≡◌, ◌≢◌, ℕ, zero, suc, ◌+◌, ◌<◌, Bool, true, false, List, Option, Some, None, refl, sym, ◌∙◌, ap, subst, arith, inl, inr, ⊎_elim}
use Rattle.std.specs.Prelude.{◌&&◌, ◌==◌, ◌||◌, IsFalse, if◌then◌else◌, not, take}
use Rattle.std.specs.List.{list_all, list_any}
use Rattle.std.specs.Option.{option_map_or}
use Rattle.std.proofs.lemmas.Bool.{cases_eq}
use Rattle.fdp_base.specs.declared.config.DriveConfig.{DriveConfig}
use Rattle.fdp_base.specs.declared.entry.Entry.{Entry}
use Rattle.fdp_base.specs.declared.entry.Spot.{Spot}
use Rattle.fdp_base.specs.declared.spare.DataSpare.{DataSpare}
use Rattle.fdp_base.specs.Config.{IsValidConfig}
use Rattle.fdp_base.specs.Numbers.{numbers_below, numbers_from}
use Rattle.fdp_base.specs.Placement.{classes_of, geometry_of}
use Rattle.fdp_book.specs.fdp_found.Finding.{found_in}
use Rattle.fdp_book.specs.fdp_readings.Drawn.{drawn}
use Rattle.fdp_book.proofs.fdp_found.Leading.{stands-on}
use Rattle.fdp_book.proofs.fdp_found.Paging.{any-number}
use Rattle.fdp_book.proofs.fdp_readings.Drawing.{block-drawn, drawn-block, unit-of}
use Rattle.fdp_flash.specs.declared.cell.Cell.{Cell}
use Rattle.fdp_flash.specs.Layout.{page_number}
use Rattle.fdp_flash.proofs.Pages.{page_number-injective}
use Rattle.fdp_history.specs.Orderly.{IsOrderly}
use Rattle.fdp_history.specs.Standing.{IsStanding}
use Rattle.fdp_history.proofs.Live.{block-live}
use Rattle.fdp_image.specs.Areas.{current_area, data_pages}
use Rattle.fdp_image.specs.Isolation.{EachPage, IsIsolated}
use Rattle.fdp_image.specs.Kept.{IsBeginning}
use Rattle.fdp_image.specs.Outline.{state_with}
use Rattle.fdp_image.specs.Reading.{Reading, has_page, size_in}
use Rattle.fdp_image.specs.Reads.{fresh_reading, is_blank, reads_as, said_by_current}
use Rattle.fdp_image.specs.Roomy.{holds_block, is_unused, page_in}
use Rattle.fdp_image.specs.StandsFor.{Says}
use Rattle.fdp_image.specs.Valid.{IsValid, state_in}
use Rattle.fdp_isolation.specs.Begun.{OpenedApart}
use Rattle.fdp_isolation.specs.Isolated.{IsIsolatedDrive, has_live, since_setting}
use Rattle.fdp_isolation.specs.Reads.{ReadsApart}
use Rattle.fdp_isolation.proofs.Found.{found-isolates}
use Rattle.fdp_isolation.specs.Stays.{IsSameSetting}
use Rattle.fdp_isolation.proofs.Generations.{beginning-setting}
use Rattle.fdp_isolation.proofs.Stopped.{LeavesApart, PutsNone, PutsOne, isolated-as, isolated-kept, way-isolated}
use Rattle.fdp_base.specs.EntryKinds.{puts_into}
use Rattle.fdp_pointers.proofs.Rows.{any-found}
use Rattle.fdp_rules.specs.History.{Found, point_of, state_of}
use Rattle.fdp_rules.specs.PlainState.{PlainState}
use Rattle.fdp_rules.specs.Point.{Point}
use Rattle.fdp_rules.specs.Room.{namespace_ids}
use Rattle.fdp_rules.specs.Sites.{is_live}

-- ---- a block that stands in a unit

-- some number of a row fails
not-all : (test : ℕ → Bool) (first count : ℕ) → list_all test (numbers_from first count) ≡ false → (k : ℕ) × (k < first + count) × (test k ≡ false)
unfolding numbers_from
not-all test first zero e = absurd cc
not-all test first (suc count) e = cases (test first) refl (λ rest. not-all test (first + 1) count rest) e where
  Fails : ℕ → Type 0
  Fails most = (k : ℕ) × (k < most) × (test k ≡ false)

  cases : (b : Bool) → test first ≡ b → (list_all test (numbers_from (first + 1) count) ≡ false → Fails (first + 1 + count)) → (b && list_all test (numbers_from (first + 1) count)) ≡ false → Fails (first + suc count)
  cases false is later all = (first, omega arith, is)
  cases true is later all = let at = later all in (at.0, (let low = at.1 in omega (arith, low)), at.2)

-- a block of a reading stands on a page of a unit
pub record NamesIn (c : DriveConfig) (r : Reading) (unit : ℕ) : Type 0 where
  pub nsid : ℕ
  pub lba : ℕ
  pub place : ℕ
  pub low : place < c.unit_pages
  pub there : r.pages nsid lba ≡ Some (page_number (geometry_of c) (page_in unit place))

-- so it is with a unit that is not unused
pub named-in : (c : DriveConfig) (r : Reading) (unit : ℕ) → IsFalse (is_unused c r unit) → NamesIn c r unit
unfolding namespace_ids
named-in c r unit used =
    let at = not-all (λ page. not (holds_block c r (page_in unit page))) 0 c.unit_pages used in
    let n : ℕ = page_number (geometry_of c) (page_in unit at.0) in
    let space = any-found (λ nsid. list_any (has_page r n nsid) (numbers_below (size_in r nsid))) 1 16 (turned (holds_block c r (page_in unit at.0)) at.2) in
    let block = any-found (has_page r n space.0) 0 (size_in r space.0) space.1 in
    record { nsid = space.0; lba = block.0; place = at.0; low = (let low = at.1 in omega (arith, low)); there = paged (r.pages space.0 block.0) n block.1 } where
      turned : (b : Bool) → not b ≡ false → b ≡ true
      turned true e = refl
      turned false e = absurd cc

      paged : (o : Option ℕ) (n : ℕ) → option_map_or (λ x. x == n) o false ≡ true → o ≡ Some n
      paged None n e = absurd cc
      paged (Some x) n e = grind (arith, e)

-- what holds of each page of the unit holds of one that names the generation of the reading
pub named-each : (c : DriveConfig) (cells : List Cell) (r : Reading) (unit : ℕ) (Fact : DataSpare → Type 0) → IsValid c cells r → NamesIn c r unit → EachPage c cells unit Fact → (s : DataSpare) × (s.generation ≡ r.generation) × Fact s
named-each c cells r unit Fact valid named each =
    let on = stands-on c cells r valid named.nsid named.lba (page_number (geometry_of c) (page_in unit named.place)) named.there in
    let x = each named.place on.spare on.bytes named.low on.cell in
    (x.0, ap (λ (s : DataSpare). s.generation) (one (sym x.1 ∙ on.says)) ∙ on.names.generation, x.2) where
      one : {a b : DataSpare} → Some a ≡ Some b → a ≡ b
      one e = cc

-- ---- cells that change

module _ (c : DriveConfig) (r : Reading) (old new : List Cell) where
  state-same : IsSameSetting (state_in c old r) (state_in c new r)
  unfolding state_in state_with
  state-same = record { enabled = refl; index = refl; generation = refl }

  kept-there : (unit : ℕ) → IsIsolated c (state_in c old r) new unit → IsIsolated c (state_in c new r) new unit
  kept-there unit h = isolated-as c unit (state_in c old r) (state_in c new r) new state-same h

  pub reads-kept : PutsNone c old new → ReadsApart c old r → ReadsApart c new r
  reads-kept none h unit is used = kept-there unit (isolated-kept c unit (state_in c old r) old new (none unit is) (h unit is used))

  -- where a page was put into a unit of the generation that the reading names, it names what is in force
  reads-put : (s : PlainState) → IsValid c new r → (r.generation ≡ s.generation → IsSameSetting s (state_in c new r)) → PutsOne c s old new → ReadsApart c old r → ReadsApart c new r
  reads-put s valid sets one h unit is used = ⊎_elim
      (λ (same : unit ≡ one.unit).
      let named = named-each c new r one.unit _ valid (subst (NamesIn c r) same (named-in c r unit used)) one.way in
      let setting = sets (sym named.1 ∙ named.2.1) in
      subst (IsIsolated c (state_in c new r) new) (sym same)
      (way-isolated c one.unit (state_in c new r) s.generation one.classes one.lane new one.way setting.generation (force s (state_in c new r) setting ∙ one.in_force)))
      (λ (ne : unit ≢ one.unit). kept-there unit (isolated-kept c unit (state_in c old r) old new (one.others unit ne) (h unit is used)))
      (cases_eq unit one.unit) where
        force : (a b : PlainState) → IsSameSetting a b → classes_of c b.enabled b.index ≡ classes_of c a.enabled a.index
        force a b is = let enabled = is.enabled in let index = is.index in λ i. classes_of c (enabled i) (index i)

  pub reads-left : (s : PlainState) → IsValid c new r → (r.generation ≡ s.generation → IsSameSetting s (state_in c new r)) → LeavesApart c s old new → ReadsApart c old r → ReadsApart c new r
  reads-left s valid sets (inl none) h = reads-kept none h
  reads-left s valid sets (inr one) h = reads-put s valid sets one h

-- a reading that says a beginning of a history, in the generation in force, names the configuration in force
pub says-setting : (c : DriveConfig) (f : Found) (es kept lost : List Entry) (cells : List Cell) (r : Reading) → IsBeginning es kept lost → Says c f cells kept r → r.generation ≡ (point_of c f es).state.generation → IsSameSetting (point_of c f es).state (state_in c cells r)
unfolding state_in state_with point_of
says-setting c f es kept lost cells r is says equal =
    let shown = says.shows.lasting_part in
    let generation : r.generation ≡ (state_of c f kept).generation = ap (λ l. l.generation) shown in
    let along = beginning-setting c f es kept lost is (sym generation ∙ equal) in
    record { enabled = ap (λ l. l.enabled) shown ∙ sym along.enabled; index = ap (λ l. l.index) shown ∙ sym along.index; generation = equal }

-- ---- what a history draws

drawn-setting : (c : DriveConfig) (p : Point) (cells : List Cell) → IsSameSetting p.state (state_in c cells (drawn c p))
unfolding state_in state_with
drawn-setting c p cells = record { enabled = refl; index = refl; generation = refl }

-- a unit in which it draws a block has a live page
drawn-live : (c : DriveConfig) (p : Point) (unit : ℕ) → IsOrderly c p → IsStanding c p → NamesIn c (drawn c p) unit → has_live c p unit ≡ true
drawn-live c p unit orderly standing named =
    let at = drawn-block c p named.nsid named.lba (page_number (geometry_of c) (page_in unit named.place)) named.there in
    let stands = standing.blocks named.nsid named.lba at.block at.there in
    let live = block-live c p named.nsid named.lba at.block stands.spot orderly.state at.there stands.site in
    let number : page_number (geometry_of c) stands.spot ≡ page_number (geometry_of c) (page_in unit named.place) =
    one (sym (block-drawn c p named.nsid named.lba at.block stands.spot at.there stands.site) ∙ named.there) in
    let same = page_number-injective (geometry_of c) stands.spot (page_in unit named.place) stands.page.1 named.low number in
    any-number (λ page. is_live c p (page_in unit page)) 0 c.unit_pages stands.spot.page (omega arith) (let low = stands.page.1 in omega (arith, low))
    (ap (λ (u : ℕ). is_live c p (page_in u stands.spot.page)) (sym same.0) ∙ live) where
      one : {a b : ℕ} → Some a ≡ Some b → a ≡ b
      one e = cc

-- so it is isolated, where the drive is
pub drawn-isolates : (c : DriveConfig) (p : Point) (es : List Entry) (cells : List Cell) → IsOrderly c p → IsStanding c p → IsIsolatedDrive c p es cells → ReadsApart c cells (drawn c p)
drawn-isolates c p es cells orderly standing h unit is used =
    isolated-as c unit p.state (state_in c cells (drawn c p)) cells (drawn-setting c p cells)
    (h.apart unit is (ap (λ (b : Bool). b || list_any (puts_into unit) (since_setting es)) (drawn-live c p unit orderly standing (named-in c (drawn c p) unit used))))

-- ---- what a run begins with

-- what was found, where the cells that were opened keep data apart
pub found-reads : (c : DriveConfig) (cells : List Cell) (r : Reading) → IsValidConfig c → IsValid c cells r → OpenedApart c (found_in c cells r) cells → ReadsApart c cells r
found-reads c cells r config valid opened unit is used =
    let named = named-in c r unit used in
    let spot : Spot = page_in unit named.place in
    subst (IsIsolated c (state_in c cells r) cells) (unit-of c spot named.low)
    (found-isolates c cells r config valid opened named.nsid named.lba (page_number (geometry_of c) spot) named.there)

-- a fresh drive has no block
pub fresh-reads : (c : DriveConfig) (cells : List Cell) → ReadsApart c cells (fresh_reading c)
unfolding fresh_reading
fresh-reads c cells unit is used = let named = named-in c (fresh_reading c) unit used in let there = named.there in absurd cc

-- what is read where no area is sealed
pub fresh-read : (c : DriveConfig) (cells : List Cell) (r : Reading) → current_area (geometry_of c) cells ≡ None → reads_as c cells ≡ Some r → ReadsApart c cells r
unfolding reads_as said_by_current
fresh-read c cells r none read = cases (list_all is_blank (take (data_pages (geometry_of c)) cells)) (sym (ap (said_by_current c cells) none) ∙ read) where
  cases : (b : Bool) → (if b then Some (fresh_reading c) else None) ≡ Some r → ReadsApart c cells r
  cases true e = let same : fresh_reading c ≡ r = cc in subst (ReadsApart c cells) same (fresh-reads c cells)
  cases false e = absurd cc
