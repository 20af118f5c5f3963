-- What the program of a record may leave, and what it leaves once it is done.
use Rattle.std.proofs.Common.{◌≡◌, ℕ, ◌+◌, ◌/◌, ◌<◌, ◌≤◌, ◌∷◌, [], ◌++◌, IsTrue, List, length, Some, refl, sym, ap, subst, ◌∙◌, arith, length-append}
use Rattle.fdp_base.specs.declared.config.DriveConfig.{DriveConfig}
use Rattle.fdp_base.specs.declared.config.Geometry.{Geometry}
use Rattle.fdp_base.specs.declared.entry.Spot.{Spot}
use Rattle.fdp_base.specs.declared.entry.Totals.{Totals}
use Rattle.fdp_base.specs.Geometry.{all_pages, area_pages, data_units}
use Rattle.fdp_base.specs.Placement.{geometry_of}
use Rattle.fdp_flash.specs.declared.cell.Cell.{Cell}
use Rattle.fdp_flash.specs.declared.answer.Wrote.{Wrote}
use Rattle.fdp_flash.specs.declared.answer.Wrote.TheVariants.{Done, Failed}
use Rattle.fdp_flash.specs.declared.answer.Operation.TheVariants.{Program}
use Rattle.fdp_flash.specs.Answers.{Programs, wrote_failed}
use Rattle.fdp_flash.specs.Cells.{IsBlankFrom, IsProgrammed, ProgramMayLeave}
use Rattle.fdp_flash.specs.FlashState.{Begins, FlashState, IsWellFormed}
use Rattle.fdp_flash.specs.Planned.{Makes}
use Rattle.fdp_flash.specs.Runs.{Runs}
use Rattle.fdp_flash.proofs.Calls.{program_leaves}
use Rattle.fdp_flash.proofs.Failing.{program_failed}
use Rattle.fdp_flash.proofs.Planned.{none_made, one_made}
use Rattle.fdp_flash.proofs.Runs.{run_of_program}
use Rattle.fdp_flash.specs.Layout.{first_page, page_number}
use Rattle.fdp_flash.proofs.Pages.{program_other}
use Rattle.fdp_records.specs.declared.change.Change.{Change}
use Rattle.fdp_records.specs.declared.spare.Stamp.{Stamp}
use Rattle.fdp_records.specs.declared.spare.SystemKind.TheVariants.{Journal}
use Rattle.fdp_records.specs.Spares.{system_spare}
use Rattle.fdp_image.specs.Areas.{Sealed, area_unit}
use Rattle.fdp_image.specs.Reads.{next_page, told_by}
use Rattle.fdp_image.specs.Saving.{CanGoOn, IsCurrent, IsNextRecord}
use Rattle.fdp_image.specs.Spots.{spot_in}
use Rattle.fdp_image.proofs.AreaPages.{blank_from_area}
use Rattle.fdp_image.proofs.NextRecord.{next_page_current, next_page_done, next_record_reads, next_record_saved}
use Rattle.fdp_journal.specs.Journal.{Appends, FallsInDoubt, IsAppended, IsJournalIn, MayBeAppended, Writes, doubted, record_call, with_record}
use Rattle.fdp_journal.specs.JournalState.{JournalState, next_in}

-- the spare bytes of the next record of a journal
abbrev pub spare_of : JournalState → List ℕ
spare_of j = system_spare (record { kind = Journal; number = j.records; stamp = j.stamp })

-- the page behind a journal, on a flash of some geometry
pub record IsPlaceIn (g : Geometry) (cells : List Cell) (j : JournalState) (at : Spot) : Type 0 where
  pub size : length cells ≡ all_pages g
  pub area : Sealed
  pub goes_on : CanGoOn g cells j.area area
  pub room : next_page area < area_pages g
  pub place : page_number g at ≡ first_page g (area_unit g j.area) + next_page area
  pub spare : system_spare (record { kind = Journal; number = length area.journal; stamp = area.stamp }) ≡ spare_of j
  pub stamp : area.stamp ≡ j.stamp

next_same : (j : JournalState) (cells : List Cell) (h : IsJournalIn cells j) → next_page h.area ≡ next_in j
next_same j cells h = omega (arith, h.checkpoint, h.records)

-- the spare bytes of the next record are those of the area's next journal page
spare_same : (j : JournalState) (cells : List Cell) (h : IsJournalIn cells j) → system_spare (record { kind = Journal; number = length h.area.journal; stamp = h.area.stamp }) ≡ spare_of j
spare_same j cells h =
    ap (λ (n : ℕ). system_spare (record { kind = Journal; number = n; stamp = h.area.stamp })) h.records
    ∙ ap (λ (t : Stamp). system_spare (record { kind = Journal; number = j.records; stamp = t })) h.stamp

pub place_of : (j : JournalState) (cells : List Cell) (at : Spot) → length cells ≡ all_pages j.geometry → IsJournalIn cells j → next_in j < area_pages j.geometry
    → page_number j.geometry at ≡ first_page j.geometry (area_unit j.geometry j.area) + next_in j → IsPlaceIn j.geometry cells j at
place_of j cells at size h room place = record {
  size = size;
  area = h.area;
  goes_on = h.goes_on;
  room = omega (arith, room, next_same j cells h);
  place = place ∙ ap (λ (n : ℕ). first_page j.geometry (area_unit j.geometry j.area) + n) (sym (next_same j cells h));
  spare = spare_same j cells h;
  stamp = h.stamp;
}

pub blank_at : (j : JournalState) (cells : List Cell) (at : Spot) → j.area ≤ 1 → IsPlaceIn j.geometry cells j at → IsBlankFrom j.geometry cells at
blank_at j cells at two p = blank_from_area j.geometry cells j.area (next_page p.area) at p.size two p.room p.place p.goes_on.blank

next_record : (c : DriveConfig) (cells : List Cell) (j : JournalState) (at : Spot) (bytes : List ℕ) (xs : List (Change × Totals)) → IsPlaceIn (geometry_of c) cells j at → told_by bytes ≡ Some xs
    → IsNextRecord c cells at (spare_of j) bytes xs
next_record c cells j at bytes xs p told = record {
  number = j.area;
  area = p.area;
  current = p.goes_on.current;
  room = p.room;
  blank = p.goes_on.blank;
  place = p.place;
  spare_is = sym p.spare;
  told = told;
}

-- whatever the program leaves
pub may_be_appended : (j : JournalState) (cells : List Cell) (at : Spot) (bytes : List ℕ) (xs : List (Change × Totals)) (image : List Cell) → IsPlaceIn j.geometry cells j at
    → page_number j.geometry at ≡ first_page j.geometry (area_unit j.geometry j.area) + next_in j → told_by bytes ≡ Some xs
    → ProgramMayLeave j.geometry cells at (spare_of j) bytes image → MayBeAppended cells j xs image
may_be_appended j cells at bytes xs image p place told left = record {
  others = λ page other. program_other j.geometry cells at (spare_of j) bytes image page left (λ same. other (same ∙ place));
  current =
      let there = subst (λ (spare : List ℕ). ProgramMayLeave j.geometry cells at spare bytes image) (sym p.spare) left in
      subst (IsCurrent j.geometry image j.area) p.stamp (next_page_current j.geometry cells j.area p.area at bytes image p.size p.goes_on p.room p.place there);
  reads = λ c r same read fit.
      let q : IsPlaceIn (geometry_of c) cells j at = subst (λ (g : Geometry). IsPlaceIn g cells j at) (sym same) p in
      let may : ProgramMayLeave (geometry_of c) cells at (spare_of j) bytes image = subst (λ (g : Geometry). ProgramMayLeave g cells at (spare_of j) bytes image) (sym same) left in
      next_record_reads c cells r at (spare_of j) bytes xs image q.size read fit (next_record c cells j at bytes xs q told) may;
}

-- once it is done the cells read with the change
pub is_appended : (j : JournalState) (cells : List Cell) (at : Spot) (bytes : List ℕ) (xs : List (Change × Totals)) (new : List Cell) → IsPlaceIn j.geometry cells j at
    → told_by bytes ≡ Some xs → IsProgrammed j.geometry cells at (spare_of j) bytes new → IsAppended cells j xs new
is_appended j cells at bytes xs new p told done c r same read fit =
    let q : IsPlaceIn (geometry_of c) cells j at = subst (λ (g : Geometry). IsPlaceIn g cells j at) (sym same) p in
    let is : IsProgrammed (geometry_of c) cells at (spare_of j) bytes new = subst (λ (g : Geometry). IsProgrammed g cells at (spare_of j) bytes new) (sym same) done in
    (next_record_saved c cells r at (spare_of j) bytes xs new q.size read fit (next_record c cells j at bytes xs q told) is).reads

-- and the journal can go on
pub journal_in : (j : JournalState) (cells : List Cell) (at : Spot) (bytes : List ℕ) (new : List Cell) → (h : IsJournalIn cells j) → length cells ≡ all_pages j.geometry
    → next_in j < area_pages j.geometry → page_number j.geometry at ≡ first_page j.geometry (area_unit j.geometry j.area) + next_in j
    → IsProgrammed j.geometry cells at (spare_of j) bytes new → IsJournalIn new (with_record j)
journal_in j cells at bytes new h size room place done =
    let is : IsProgrammed j.geometry cells at (system_spare (record { kind = Journal; number = length h.area.journal; stamp = h.area.stamp })) bytes new =
    subst (λ (spare : List ℕ). IsProgrammed j.geometry cells at spare bytes new) (sym (spare_same j cells h)) done in
    record {
      area = record h.area { journal = h.area.journal ++ bytes ∷ [] };
      goes_on = next_page_done j.geometry cells j.area h.area at bytes new size h.goes_on (omega (arith, room, next_same j cells h)) (place ∙ ap (λ (n : ℕ). first_page j.geometry (area_unit j.geometry j.area) + n) (sym (next_same j cells h))) is;
      stamp = h.stamp;
      checkpoint = h.checkpoint;
      records = omega (arith, length-append h.area.journal (bytes ∷ []), h.records);
    }

-- ---- over a flash

-- what is at hand when the record is programmed: the journal, the flash before, the page, and the record's spare and bytes
pub record IsAtHand (j : JournalState) (old : FlashState) (at : Spot) (spare bytes : List ℕ) (xs : List (Change × Totals)) : Type 0 where
  pub well_formed : IsWellFormed old
  pub geometry : old.geometry ≡ j.geometry
  pub area : j.area ≤ 1
  pub journal : IsTrue old.told → IsJournalIn old.cells j
  pub room : next_in j < area_pages j.geometry
  pub place : page_number j.geometry at ≡ first_page j.geometry (area_unit j.geometry j.area) + next_in j
  pub spot : at ≡ spot_in j.geometry j.area (next_in j)
  pub spare_is : spare ≡ spare_of j
  pub tells : told_by bytes ≡ Some xs

-- the journal by its fields is the one that contracts see
pub at_hand : (j inside : JournalState) (old : FlashState) (at : Spot) (spare bytes : List ℕ) (xs : List (Change × Totals)) (next : ℕ) → inside ≡ j
    → IsWellFormed old → old.geometry ≡ j.geometry → inside.area ≤ 1 → (IsTrue old.told → IsJournalIn old.cells j) → next_in j < area_pages j.geometry → next ≡ next_in j
    → page_number inside.geometry at ≡ first_page inside.geometry (area_unit inside.geometry inside.area) + next → at ≡ spot_in inside.geometry inside.area next → spare ≡ spare_of j → told_by bytes ≡ Some xs
    → IsAtHand j old at spare bytes xs
at_hand j inside old at spare bytes xs next same w geometry area journal room next_is place spot spare_is tells = record {
  well_formed = w;
  geometry = geometry;
  area = subst (λ (k : JournalState). k.area ≤ 1) same area;
  journal = journal;
  room = room;
  place =
      subst (λ (k : JournalState). page_number k.geometry at ≡ first_page k.geometry (area_unit k.geometry k.area) + next) same place
      ∙ ap (λ (n : ℕ). first_page j.geometry (area_unit j.geometry j.area) + n) next_is;
  spot = subst (λ (k : JournalState). at ≡ spot_in k.geometry k.area next) same spot ∙ ap (spot_in j.geometry j.area) next_is;
  spare_is = spare_is;
  tells = tells;
}

size_of : (j : JournalState) (old : FlashState) (at : Spot) (spare bytes : List ℕ) (xs : List (Change × Totals)) → IsAtHand j old at spare bytes xs → IsTrue old.told → length old.cells ≡ all_pages j.geometry
size_of j old at spare bytes xs h told = h.well_formed.size told ∙ ap all_pages h.geometry

pub order : (j : JournalState) (old : FlashState) (at : Spot) (spare bytes : List ℕ) (xs : List (Change × Totals)) → IsAtHand j old at spare bytes xs → IsTrue old.told → IsBlankFrom old.geometry old.cells at
order j old at spare bytes xs h told =
    subst (λ (g : Geometry). IsBlankFrom g old.cells at) (sym h.geometry)
    (blank_at j old.cells at h.area (place_of j old.cells at (size_of j old at spare bytes xs h told) (h.journal told) h.room h.place))

left_of : (j : JournalState) (old : FlashState) (at : Spot) (spare bytes : List ℕ) (xs : List (Change × Totals)) → IsAtHand j old at spare bytes xs → IsTrue old.told
    → (image : List Cell) → ProgramMayLeave old.geometry old.cells at spare bytes image → MayBeAppended old.cells j xs image
left_of j old at spare bytes xs h told image left =
    let there = subst (λ (g : Geometry). ProgramMayLeave g old.cells at spare bytes image) h.geometry left in
    may_be_appended j old.cells at bytes xs image (place_of j old.cells at (size_of j old at spare bytes xs h told) (h.journal told) h.room h.place) h.place h.tells
    (subst (λ (s : List ℕ). ProgramMayLeave j.geometry old.cells at s bytes image) h.spare_is there)

-- the images of the program, whatever it answered
images_of : (j : JournalState) (old new : FlashState) (at : Spot) (spare bytes : List ℕ) (xs : List (Change × Totals)) (result : Wrote) → IsAtHand j old at spare bytes xs
    → Begins old new → Programs old new at spare bytes result → Runs old new (λ moment image. MayBeAppended old.cells j xs image)
images_of j old new at spare bytes xs result h b a = run_of_program old new at spare bytes result _ b a (λ told later image left. left_of j old at spare bytes xs h told image left)

cells_left : (j : JournalState) (old new : FlashState) (at : Spot) (spare bytes : List ℕ) (xs : List (Change × Totals)) (result : Wrote) → IsAtHand j old at spare bytes xs
    → Programs old new at spare bytes result → IsTrue old.told → MayBeAppended old.cells j xs new.cells
cells_left j old new at spare bytes xs result h a told = left_of j old at spare bytes xs h told new.cells (program_leaves old new at spare bytes result a told)

-- the program is that of the next page of the journal, and no data page
program_made : (j : JournalState) (old new : FlashState) (at : Spot) (spare bytes : List ℕ) (xs : List (Change × Totals)) (result : Wrote) → IsAtHand j old at spare bytes xs
    → Begins old new → Programs old new at spare bytes result → Makes old new (record (record_call j) { failed = wrote_failed result } ∷ [])
program_made j old new at spare bytes xs result h b a =
    subst (λ (s : Spot). Makes old new (record { operation = Program; at = s; failed = wrote_failed result } ∷ [])) h.spot
    (one_made old old new [] (record { operation = Program; at = at; failed = wrote_failed result }) _ (none_made old h.well_formed) b a.ended)

program_uncounted : (j : JournalState) (old new : FlashState) (at : Spot) (spare bytes : List ℕ) (xs : List (Change × Totals)) (result : Wrote) → IsAtHand j old at spare bytes xs
    → Programs old new at spare bytes result → new.programs ≡ old.programs
program_uncounted j old new at spare bytes xs Done h a =
    let behind : data_units j.geometry ≤ area_unit j.geometry j.area + next_in j / j.geometry.unit_pages = omega arith in
    let there : data_units j.geometry ≤ at.unit = subst (λ (s : Spot). data_units j.geometry ≤ s.unit) (sym h.spot) behind in
    a.system_done refl (subst (λ (g : Geometry). data_units g ≤ at.unit) (sym h.geometry) there)
program_uncounted j old new at spare bytes xs Failed h a = a.not_done refl

appends : (j : JournalState) (old new : FlashState) (at : Spot) (spare bytes : List ℕ) (xs : List (Change × Totals)) → IsAtHand j old at spare bytes xs
    → Begins old new → Programs old new at spare bytes Done → Appends j (with_record j) old new xs
appends j old new at spare bytes xs h b a =
    let done : IsTrue old.told → IsProgrammed j.geometry old.cells at (spare_of j) bytes new.cells =
    λ told. subst (λ (s : List ℕ). IsProgrammed j.geometry old.cells at s bytes new.cells) h.spare_is (subst (λ (g : Geometry). IsProgrammed g old.cells at spare bytes new.cells) h.geometry (a.done told refl)) in
    let before : IsTrue new.told → IsTrue old.told = λ told. rw (← b.told) told in
    record {
      journal = refl;
      one_call = b.moment;
      call = program_made j old new at spare bytes xs Done h b a;
      faults = a.ended.no_fault refl;
      programs = program_uncounted j old new at spare bytes xs Done h a;
      goes_on = λ told. journal_in j old.cells at bytes new.cells (h.journal (before told)) (size_of j old at spare bytes xs h (before told)) h.room h.place (done (before told));
      saved = λ told. is_appended j old.cells at bytes xs new.cells (place_of j old.cells at (size_of j old at spare bytes xs h (before told)) (h.journal (before told)) h.room h.place) h.tells (done (before told));
    }

falls_in_doubt : (j : JournalState) (old new : FlashState) (at : Spot) (spare bytes : List ℕ) (xs : List (Change × Totals)) → IsAtHand j old at spare bytes xs → IsWellFormed new
    → Begins old new → Programs old new at spare bytes Failed → FallsInDoubt j (doubted j) old new new.moment
falls_in_doubt j old new at spare bytes xs h w b a = record {
  journal = refl;
  one_call = b.moment;
  call = program_made j old new at spare bytes xs Failed h b a;
  fails = program_failed old new at spare bytes w b a;
  programs = program_uncounted j old new at spare bytes xs Failed h a;
}

pub writes : (j : JournalState) (old new : FlashState) (at : Spot) (spare bytes : List ℕ) (xs : List (Change × Totals)) (result : Wrote) → IsAtHand j old at spare bytes xs → IsWellFormed new
    → Begins old new → Programs old new at spare bytes result → Writes j old new xs result
writes j old new at spare bytes xs result h w b a = record {
  images = images_of j old new at spare bytes xs result h b a;
  left = cells_left j old new at spare bytes xs result h a;
  done = λ is. appends j old new at spare bytes xs h b (subst (Programs old new at spare bytes) is a);
  failed = λ is. falls_in_doubt j old new at spare bytes xs h w b (subst (Programs old new at spare bytes) is a);
}
