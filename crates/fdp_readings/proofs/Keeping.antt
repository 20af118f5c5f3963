-- What stays of a reading in cells that change.
use Rattle.std.proofs.Common.{◌≡◌, ◌≢◌, ℕ, ◌+◌, ◌-◌, ◌*◌, ◌/◌, ◌<◌, ◌≤◌, ◌⊎◌, inl, inr, List, Option, Some, None, drop, refl, sym, ◌∙◌, ap, arith, ⊎_elim}
use Rattle.std.specs.Prelude.{option_and_then, option_map, slice_get}
use Rattle.std.proofs.lemmas.Bool.{cases_lt}
use Rattle.std.proofs.lemmas.Nat.{div-mul-add, row_fits}
use Rattle.fdp_base.specs.declared.config.DriveConfig.{DriveConfig}
use Rattle.fdp_base.specs.declared.config.Geometry.{Geometry}
use Rattle.fdp_base.specs.declared.entry.Entry.{Entry}
use Rattle.fdp_base.specs.declared.entry.Spot.{Spot}
use Rattle.fdp_base.specs.Geometry.{area_pages, data_units}
use Rattle.fdp_base.specs.Placement.{geometry_of}
use Rattle.fdp_locations.specs.fdp_collector.Copying.{IsDataPage}
use Rattle.fdp_flash.specs.declared.cell.Cell.{Cell}
use Rattle.fdp_flash.specs.declared.cell.Cell.TheVariants.{Blank}
use Rattle.fdp_flash.specs.Cells.{EraseMayLeave, ProgramMayLeave}
use Rattle.fdp_flash.specs.Layout.{first_page, page_number}
use Rattle.fdp_flash.proofs.Pages.{program_other}
use Rattle.fdp_image.specs.Areas.{Sealed, area_of, area_unit, current_area, data_pages, later_of, sealed_in}
use Rattle.fdp_image.specs.Outline.{state_with}
use Rattle.fdp_image.specs.Reading.{Reading}
use Rattle.fdp_image.specs.Reads.{reads_as, said_by_current}
use Rattle.fdp_image.specs.Saving.{SameDataPages}
use Rattle.fdp_image.specs.StandsFor.{Says, Shows}
use Rattle.fdp_image.specs.Valid.{IsValid, block_from, block_read, state_in}
use Rattle.fdp_image.proofs.Journaling.{slice_get-drop}
use Rattle.fdp_image.proofs.Replacing.{take_same}
use Rattle.fdp_readings.specs.Named.{KeepsNamed, KeepsSystem, NamesNone}
use Rattle.fdp_rules.specs.History.{Found}
use Rattle.fdp_rules.specs.PlainState.{Block, lasting}

-- ---- cells that keep the named pages

module _ (c : DriveConfig) (r : Reading) (old new : List Cell) (keeps : KeepsNamed r old new) where
  pub block-kept : (nsid lba : ℕ) → block_read c new r nsid lba ≡ block_read c old r nsid lba
  block-kept nsid lba = cases (r.pages nsid lba) refl where
    cases : (o : Option ℕ) → r.pages nsid lba ≡ o
        → option_and_then (λ page. option_and_then (block_from c r nsid lba page) (slice_get new page)) o ≡ option_and_then (λ page. option_and_then (block_from c r nsid lba page) (slice_get old page)) o
    cases None e = refl
    cases (Some page) e = ap (option_and_then (block_from c r nsid lba page)) (keeps nsid lba page e)

  state-kept : state_in c new r ≡ state_in c old r
  unfolding state_in
  state-kept = ap (λ (blocks : ℕ → ℕ → Option Block). state_with c blocks r) (λ i nsid lba. block-kept nsid lba i)

  pub valid-kept : IsValid c old r → IsValid c new r
  valid-kept h = record {
    index = h.index;
    identifiers = h.identifiers;
    namespaces = h.namespaces;
    room = h.room;
    blocks = λ nsid lba page e.
        let b = h.blocks nsid lba page e in
        record {
          data_page = b.data_page;
          namespace = b.namespace;
          there = b.there;
          within = b.within;
          block = b.block;
          held = block-kept nsid lba ∙ b.held;
          listed = b.listed;
        };
    apart = h.apart;
  }

  pub shows-kept : (f : Found) (es : List Entry) → Shows c f old es r → Shows c f new es r
  shows-kept f es h = record {
    lasting_part = ap lasting state-kept ∙ h.lasting_part;
    host_events = h.host_events;
    controller_events = h.controller_events;
  }

  pub says-kept : (f : Found) (es : List Entry) → Says c f old es r → Says c f new es r
  says-kept f es h = record { shows = shows-kept f es h.shows; totals = h.totals }

-- ---- calls that keep them

pub system-named : (c : DriveConfig) (r : Reading) (old new : List Cell) → IsValid c old r → SameDataPages c old new → KeepsNamed r old new
system-named c r old new valid same nsid lba page e = same page (valid.blocks nsid lba page e).data_page

-- a page that is named is not blank
named-whole : (c : DriveConfig) (r : Reading) (cells : List Cell) (nsid lba page : ℕ) (b : Block) → r.pages nsid lba ≡ Some page → block_read c cells r nsid lba ≡ Some b → slice_get cells page ≡ Some Blank → ⊥
named-whole c r cells nsid lba page b e held blank =
    let none : block_read c cells r nsid lba ≡ None =
    ap (option_and_then (λ (k : ℕ). option_and_then (block_from c r nsid lba k) (slice_get cells k))) e ∙ ap (option_and_then (block_from c r nsid lba page)) blank in
    let never : None ≡ Some b = sym none ∙ held in
    cc

pub program-named : (c : DriveConfig) (r : Reading) (old new : List Cell) (at : Spot) (spare bytes : List ℕ) → IsValid c old r → slice_get old (page_number (geometry_of c) at) ≡ Some Blank → ProgramMayLeave (geometry_of c) old at spare bytes new → KeepsNamed r old new
program-named c r old new at spare bytes valid blank left nsid lba page e =
    let b = valid.blocks nsid lba page e in
    program_other (geometry_of c) old at spare bytes new page left
    (λ (same : page ≡ page_number (geometry_of c) at). named-whole c r old nsid lba page b.block e b.held (ap (slice_get old) same ∙ blank))

-- a page that is not one of a unit stands before or behind it
outside : (unit pages page : ℕ) → page / pages ≢ unit → (page < unit * pages) ⊎ (unit * pages + pages ≤ page)
outside unit pages page ne =
    ⊎_elim
    (λ (low : page < unit * pages). inl low)
    (λ (high : unit * pages ≤ page).
    ⊎_elim
    (λ (inside : page < unit * pages + pages).
    let place : page ≡ unit * pages + (page - unit * pages) = omega (arith, high) in
    absurd (ne (ap (λ (k : ℕ). k / pages) place ∙ div-mul-add unit pages (page - unit * pages) (omega (arith, high, inside)))))
    (λ (past : unit * pages + pages ≤ page). inr past)
    (cases_lt page (unit * pages + pages)))
    (cases_lt page (unit * pages))

pub erase-named : (c : DriveConfig) (r : Reading) (old new : List Cell) (unit : ℕ) → NamesNone c r unit → EraseMayLeave (geometry_of c) old unit new → KeepsNamed r old new
erase-named c r old new unit none left nsid lba page e =
    ⊎_elim (λ low. left.others.below page low) (λ high. left.others.above page high) (outside unit c.unit_pages page (none nsid lba page e))

-- ---- calls that keep the system pages

pub program-system : (c : DriveConfig) (old new : List Cell) (at : Spot) (spare bytes : List ℕ) → IsDataPage (geometry_of c) at → ProgramMayLeave (geometry_of c) old at spare bytes new → KeepsSystem c old new
program-system c old new at spare bytes is left page high =
    let fits = row_fits at.unit c.unit_pages (c.groups * c.units) c.unit_pages is.unit (omega arith) in
    program_other (geometry_of c) old at spare bytes new page left (λ (same : page ≡ page_number (geometry_of c) at). omega (arith, same, high, fits, is.page))

pub erase-system : (c : DriveConfig) (old new : List Cell) (unit : ℕ) → unit < data_units (geometry_of c) → EraseMayLeave (geometry_of c) old unit new → KeepsSystem c old new
erase-system c old new unit is left page high =
    let fits = row_fits unit c.unit_pages (c.groups * c.units) c.unit_pages is (omega arith) in
    left.others.above page (omega (arith, high, fits))

-- ---- images that keep the system pages

area-kept : (c : DriveConfig) (old new : List Cell) → KeepsSystem c old new → (area : ℕ) → area_of (geometry_of c) area new ≡ area_of (geometry_of c) area old
unfolding area_of
area-kept c old new keeps area =
    let first : ℕ = first_page (geometry_of c) (area_unit (geometry_of c) area) in
    take_same (area_pages (geometry_of c)) (drop first new) (drop first old)
    (λ k low. slice_get-drop new first k ∙ keeps (first + k) (behind (geometry_of c) area k) ∙ sym (slice_get-drop old first k))
  where
    behind : (g : Geometry) (area k : ℕ) → data_pages g ≤ first_page g (area_unit g area) + k
    behind g area k = grind arith

pub current-kept : (c : DriveConfig) (old new : List Cell) → KeepsSystem c old new → current_area (geometry_of c) new ≡ current_area (geometry_of c) old
unfolding current_area
current-kept c old new keeps =
    ap (λ (cells : List Cell). later_of (option_map (λ (x : Sealed). (0, x)) (sealed_in cells)) (option_map (λ (x : Sealed). (1, x)) (sealed_in (area_of (geometry_of c) 1 new)))) (area-kept c old new keeps 0)
    ∙ ap (λ (cells : List Cell). later_of (option_map (λ (x : Sealed). (0, x)) (sealed_in (area_of (geometry_of c) 0 old))) (option_map (λ (x : Sealed). (1, x)) (sealed_in cells))) (area-kept c old new keeps 1)

pub reads-kept : (c : DriveConfig) (old new : List Cell) (area : ℕ × Sealed) → current_area (geometry_of c) old ≡ Some area → KeepsSystem c old new → reads_as c new ≡ reads_as c old
unfolding reads_as said_by_current
reads-kept c old new area current keeps =
    ap (said_by_current c new) (current-kept c old new keeps ∙ current) ∙ sym (ap (said_by_current c old) current)
