-- The steps of writing a checkpoint, each over the states of the flash before and after it.
use Rattle.std.proofs.Common.{◌≡◌, ℕ, zero, suc, ◌+◌, ◌-◌, ◌*◌, ◌/◌, ◌<◌, ◌≤◌, ◌⊎◌, true, IsTrue, List, [], ◌∷◌, ◌++◌, length, drop, replicate, set, take, Option, Some, None, refl, sym, ap, ◌∙◌, subst, arith, inl, inr}
use Rattle.std.specs.Prelude.{◌==◌, slice_get}
use Rattle.std.proofs.Math.Nat.{mul-le-mul_right}
use Rattle.std.proofs.lemmas.Bool.{eqb-true, or_cases}
use Rattle.fdp_base.specs.declared.config.Geometry.{Geometry}
use Rattle.fdp_base.specs.declared.entry.Spot.{Spot}
use Rattle.fdp_base.specs.Geometry.{IsValidGeometry, all_pages, area_pages, data_units}
use Rattle.fdp_flash.specs.declared.answer.Wrote.{Wrote}
use Rattle.fdp_flash.specs.declared.answer.Wrote.TheVariants.{Done, Failed}
use Rattle.fdp_flash.specs.declared.cell.Cell.{Cell}
use Rattle.fdp_flash.specs.declared.cell.Cell.TheVariants.{Blank, Torn, Whole}
use Rattle.fdp_flash.specs.Answers.{Programs}
use Rattle.fdp_flash.specs.Area.{AreaMayLeave, IsBlankArea}
use Rattle.fdp_flash.specs.Cells.{ProgramMayLeave}
use Rattle.fdp_flash.specs.FlashState.{Begins, Ends, FlashState, IsWellFormed}
use Rattle.fdp_flash.specs.Failing.{FailsLast}
use Rattle.fdp_flash.specs.Layout.{page_number}
use Rattle.fdp_flash.specs.Planned.{Makes, MakesPlanned, StopsAt, calls_from, erase_of}
use Rattle.fdp_flash.specs.Runs.{Holds}
use Rattle.fdp_flash.proofs.Calls.{program_leaves}
use Rattle.fdp_flash.proofs.Failing.{program_failed}
use Rattle.fdp_flash.proofs.Planned.{calls_split, made_joined, next_made, next_stops, none_made, one_made, stops_before, stops_behind}
use Rattle.fdp_flash.proofs.Held.{holds_joined, holds_weakened}
use Rattle.fdp_flash.proofs.Runs.{run_of_program}
use Rattle.fdp_image.specs.Areas.{area_of, area_unit, sealed_in}
use Rattle.fdp_image.specs.Replacing.{HasNoSeal, IsNewlySealed, IsSameBeside, MayBeWritten, new_stamp, pages_for}
use Rattle.fdp_image.specs.Saving.{AreBlankFrom}
use Rattle.fdp_image.specs.Spots.{spot_in}
use Rattle.fdp_image.proofs.NextRecord.{area_long}
use Rattle.fdp_image.proofs.Replacing.{may_be_written}
use Rattle.fdp_image.proofs.Unsealed.{IsLeft, left_no_seal, set_no_seal, unsealed}
use Rattle.fdp_records.specs.declared.spare.SystemKind.{SystemKind}
use Rattle.fdp_records.specs.declared.spare.SystemKind.TheVariants as kinds
use Rattle.fdp_records.specs.Spares.{said_by_system, system_spare}
use Rattle.fdp_snapshot.specs.declared.state.State.{State}
use Rattle.fdp_snapshot.specs.Checkpoint.{IsState, checkpoint_of, checkpoint_size, page_list_bytes}
use Rattle.fdp_snapshot.specs.Fixed.{fixed_of}
use Rattle.fdp_snapshot.specs.Rows.{zeros}
use Rattle.fdp_snapshot.specs.Sizes.{SummaryFits}
use Rattle.fdp_snapshot.proofs.FixedPart.{fixed_long}
use Rattle.fdp_snapshot.proofs.RoundTrip.{lists_long}
use Rattle.fdp_checkpoint.specs.declared.target.Target.{Target}
use Rattle.fdp_checkpoint.specs.Target.{ProgramsIn}
use Rattle.fdp_checkpoint.specs.Writing.{HasCheckpoint, HasPages, IsErasing, IsKeptBehind, IsSealing, IsUnsealed, IsWritten, IsWrittenWith, checkpoint_calls, page_call, page_in, system_cell}
use Rattle.fdp_checkpoint.proofs.Areas.{beside_joined, beside_none, blank_area, erased_area, programmed_area, programmed_beside}
use Rattle.fdp_checkpoint.proofs.SealedAnew.{IsReady, blank_behind, one_more_kept, pages_enough, pages_more, sealed_anew}

-- ---- the erase

pub erase_held : (g : Geometry) (first area : ℕ) (old new : FlashState) → g ≡ old.geometry → first ≡ area_unit g area → area ≤ 1 → IsWellFormed old
    → Holds (AreaMayLeave old.geometry first g.area_units old.cells) old new → Holds (IsErasing g area old.cells) old new
erase_held g first area old new same is two w held =
    let there = subst (λ (h : Geometry). Holds (AreaMayLeave h first g.area_units old.cells) old new) (sym same) held in
    let here = subst (λ (n : ℕ). Holds (AreaMayLeave g n g.area_units old.cells) old new) is there in
    holds_weakened (AreaMayLeave g (area_unit g area) g.area_units old.cells) (IsErasing g area old.cells) old new here
    (λ told cells may. erased_area g area old.cells cells two (w.size told ∙ ap all_pages (sym same)) may)

pub erase_blank : (g : Geometry) (first area : ℕ) (old new : FlashState) → g ≡ old.geometry → first ≡ area_unit g area → area ≤ 1 → IsValidGeometry g → new.geometry ≡ old.geometry → new.told ≡ old.told → IsWellFormed new
    → IsTrue old.told → IsBlankArea old.geometry first g.area_units new.cells → AreBlankFrom 0 (area_of g area new.cells)
erase_blank g first area old new same is two valid kept told w t blank =
    let there = subst (λ (h : Geometry). IsBlankArea h first g.area_units new.cells) (sym same) blank in
    let here = subst (λ (n : ℕ). IsBlankArea g n g.area_units new.cells) is there in
    blank_area g area new.cells valid two (w.size (rw told t) ∙ ap all_pages (kept ∙ sym same)) here

-- ---- one program

program_holds : (Fact : List Cell → Type 0) (now new : FlashState) (at : Spot) (spare bytes : List ℕ) (result : Wrote) → Begins now new → Programs now new at spare bytes result
    → (IsTrue now.told → (left : List Cell) → ProgramMayLeave now.geometry now.cells at spare bytes left → Fact left) → Holds Fact now new
program_holds Fact now new at spare bytes result b a each = record {
  run = run_of_program now new at spare bytes result (λ m image. Fact image) b a (λ told later image left. each told image left);
  cells = λ told. each told new.cells (program_leaves now new at spare bytes result a told);
}

-- a program of a page of a system area is not one of a data page
pub program_uncounted : (x : Target) (kind : SystemKind) (number place : ℕ) (bytes : List ℕ) (now new : FlashState) (result : Wrote) → x.geometry ≡ now.geometry → ProgramsIn x kind number place bytes now new result → new.programs ≡ now.programs
program_uncounted x kind number place bytes now new Done same p =
    let behind : data_units x.geometry ≤ area_unit x.geometry x.area + place / x.geometry.unit_pages = omega arith in
    p.answer.system_done refl (subst (λ (g : Geometry). data_units g ≤ area_unit x.geometry x.area + place / x.geometry.unit_pages) same behind)
program_uncounted x kind number place bytes now new Failed same p = p.answer.not_done refl

pub program_faultless : (x : Target) (kind : SystemKind) (number place : ℕ) (bytes : List ℕ) (now new : FlashState) (result : Wrote) → ProgramsIn x kind number place bytes now new result → result ≡ Done → new.faults ≡ now.faults
program_faultless x kind number place bytes now new Done p is = p.answer.ended.no_fault refl
program_faultless x kind number place bytes now new Failed p is = absurd cc

pub program_fails : (x : Target) (kind : SystemKind) (number place : ℕ) (bytes : List ℕ) (now new : FlashState) (result : Wrote) → IsWellFormed new → ProgramsIn x kind number place bytes now new result → result ≡ Failed → FailsLast now new new.moment
program_fails x kind number place bytes now new Done w p is = absurd cc
program_fails x kind number place bytes now new Failed w p is = program_failed now new _ _ bytes w p.call p.answer

pub program_calls : (x : Target) (kind : SystemKind) (number place : ℕ) (bytes : List ℕ) (now new : FlashState) (result : Wrote) → IsWellFormed now → ProgramsIn x kind number place bytes now new result
    → MakesPlanned now new (page_call x.geometry x.area place ∷ []) result
program_calls x kind number place bytes now new Done w p = one_made now now new [] (page_call x.geometry x.area place) _ (none_made now w) p.call p.answer.ended
program_calls x kind number place bytes now new Failed w p = record {
  before = [];
  last = page_call x.geometry x.area place;
  behind = [];
  planned_is = refl;
  made = one_made now now new [] (record (page_call x.geometry x.area place) { failed = true }) _ (none_made now w) p.call p.answer.ended;
}

-- what is known before a page of an area is programmed
pub record IsProgramming (x : Target) (place : ℕ) (now : FlashState) : Type 0 where
  pub geometry : x.geometry ≡ now.geometry
  pub area : x.area ≤ 1
  pub inside : place < area_pages x.geometry
  pub well_formed : IsWellFormed now

pub long_area : (x : Target) (place : ℕ) (now : FlashState) → IsProgramming x place now → IsTrue now.told → place < length (area_of x.geometry x.area now.cells)
long_area x place now h told = omega (arith, h.inside, area_long x.geometry x.area now.cells h.area (h.well_formed.size told ∙ ap all_pages (sym h.geometry)))

-- what a program of a page may leave of the flash
record IsLeftIn (x : Target) (kind : SystemKind) (number place : ℕ) (bytes : List ℕ) (now : FlashState) (left : List Cell) : Type 0 where
  beside : IsSameBeside x.geometry x.area now.cells left
  cell : Cell
  page : IsLeft kind number x.stamp bytes cell
  set_is : area_of x.geometry x.area left ≡ set (area_of x.geometry x.area now.cells) place cell

left_in : (x : Target) (kind : SystemKind) (number place : ℕ) (bytes : List ℕ) (now new : FlashState) (result : Wrote) (left : List Cell) → IsProgramming x place now → ProgramsIn x kind number place bytes now new result
    → ProgramMayLeave now.geometry now.cells (spot_in x.geometry x.area place) (system_spare (record { kind = kind; number = number; stamp = x.stamp })) bytes left → IsLeftIn x kind number place bytes now left
left_in x kind number place bytes now new result left h p may =
    let g = x.geometry in
    let at = spot_in g x.area place in
    let spare = system_spare (record { kind = kind; number = number; stamp = x.stamp }) in
    let here : ProgramMayLeave g now.cells at spare bytes left = subst (λ (k : Geometry). ProgramMayLeave k now.cells at spare bytes left) (sym h.geometry) may in
    record {
      beside = programmed_beside g x.area place at spare bytes now.cells left h.inside p.place here;
      cell = here.cell;
      page = here.page;
      set_is = programmed_area g x.area place at spare bytes now.cells left p.place here;
    }

-- a page that is programmed stands
pub program_stands : (x : Target) (kind : SystemKind) (number place : ℕ) (bytes : List ℕ) (now new : FlashState) → IsProgramming x place now → ProgramsIn x kind number place bytes now new Done → IsTrue now.told
    → area_of x.geometry x.area new.cells ≡ set (area_of x.geometry x.area now.cells) place (system_cell kind number x.stamp bytes)
program_stands x kind number place bytes now new h p told =
    let g = x.geometry in
    let at = spot_in g x.area place in
    let spare = system_spare (record { kind = kind; number = number; stamp = x.stamp }) in
    programmed_area g x.area place at spare bytes now.cells new.cells p.place
    (record { cell = Whole spare bytes; page = inr (inr refl); cells = subst (λ (k : Geometry). new.cells ≡ set now.cells (page_number k at) (Whole spare bytes)) (sym h.geometry) (p.answer.done told refl) })

-- a program of a checkpoint page or a journal page leaves an area without a seal without one
pub program_unsealed : (x : Target) (kind : SystemKind) (number place : ℕ) (bytes : List ℕ) (now new : FlashState) (result : Wrote) → (kind ≡ kinds.Checkpoint) ⊎ (kind ≡ kinds.Journal) → IsProgramming x place now
    → (IsTrue now.told → HasNoSeal (area_of x.geometry x.area now.cells)) → ProgramsIn x kind number place bytes now new result → Holds (IsUnsealed x.geometry x.area now.cells) now new
program_unsealed x kind number place bytes now new result which h none p =
    program_holds (IsUnsealed x.geometry x.area now.cells) now new _ _ bytes result p.call p.answer
    (λ told left may.
    let l = left_in x kind number place bytes now new result left h p may in
    record {
      beside = l.beside;
      none = subst HasNoSeal (sym l.set_is) (set_no_seal (area_of x.geometry x.area now.cells) place l.cell (long_area x place now h told) (none told) (left_no_seal kind number x.stamp bytes l.cell which l.page));
    })

pub unsealed_joined : (g : Geometry) (area : ℕ) (a b d : FlashState) → Holds (IsUnsealed g area a.cells) a b → Holds (IsUnsealed g area b.cells) b d → Holds (IsUnsealed g area a.cells) a d
unsealed_joined g area a b d p q =
    holds_joined (IsUnsealed g area a.cells) a b d p
    (holds_weakened (IsUnsealed g area b.cells) (IsUnsealed g area a.cells) b d q
    (λ told cells u. record { beside = beside_joined g area a.cells b.cells cells (p.cells (rw (← p.run.told) told)).beside u.beside; none = u.none }))

-- one page more of several
pub page_unsealed : (x : Target) (kind : SystemKind) (number place : ℕ) (bytes : List ℕ) (start now new : FlashState) (result : Wrote) → (kind ≡ kinds.Checkpoint) ⊎ (kind ≡ kinds.Journal) → IsProgramming x place now
    → Holds (IsUnsealed x.geometry x.area start.cells) start now → ProgramsIn x kind number place bytes now new result → Holds (IsUnsealed x.geometry x.area start.cells) start new
page_unsealed x kind number place bytes start now new result which h held p =
    unsealed_joined x.geometry x.area start now new held (program_unsealed x kind number place bytes now new result which h (λ told. (held.cells (rw (← held.run.told) told)).none) p)

-- ---- the pages

pub unsealed_start : (g : Geometry) (area : ℕ) (s : FlashState) → (IsTrue s.told → HasNoSeal (area_of g area s.cells)) → IsTrue s.told → IsUnsealed g area s.cells s.cells
unsealed_start g area s none told = record { beside = beside_none g area s.cells; none = none told }

-- the bytes that are put on a page are its own
pub put_is : (fixed : List ℕ) (s : State) (number count block : ℕ) (page : List ℕ) → fixed ≡ fixed_of 1 s.summary → length fixed ≡ 5120 → IsState s → number < count → checkpoint_size s.summary ≤ count * block
    → ((rest : ℕ) → (number + 1) * block ≤ length fixed + length (page_list_bytes s.pages) + rest → page ≡ take block (drop (number * block) (fixed ++ page_list_bytes s.pages ++ zeros rest)))
    → page ≡ page_in block (checkpoint_of 1 (count * block) s) number
unfolding checkpoint_of checkpoint_size
put_is fixed s number count block page is long state lt room put =
    let rest : ℕ = count * block - checkpoint_size s.summary in
    let lists = lists_long s.pages s.summary.spaces state.sizes in
    let next : number + 1 ≤ count = omega arith in
    let most : (number + 1) * block ≤ count * block = mul-le-mul_right block next in
    put rest (omega (arith, long, lists, most, room)) ∙ ap (λ (f : List ℕ). take block (drop (number * block) (f ++ page_list_bytes s.pages ++ zeros rest))) is

-- what putting a page says of its bytes
abbrev pub Puts : List ℕ → List (List (Option ℕ)) → ℕ → ℕ → List ℕ → Type 0
Puts fixed pages block number page = (rest : ℕ) → (number + 1) * block ≤ length fixed + length (page_list_bytes pages) + rest → page ≡ take block (drop (number * block) (fixed ++ page_list_bytes pages ++ zeros rest))

pub put_by : (fixed : List ℕ) (s : State) (pages : List (List (Option ℕ))) (size number count block : ℕ) (page : List ℕ) → pages ≡ s.pages → size ≡ block → fixed ≡ fixed_of 1 s.summary → length fixed ≡ 5120 → IsState s
    → number < count → checkpoint_size s.summary ≤ count * block → Puts fixed pages size number page → page ≡ page_in block (checkpoint_of 1 (count * block) s) number
put_by fixed s pages size number count block page same long_is is long state lt room put =
    put_is fixed s number count block page is long state lt room
    (subst (λ (n : ℕ). Puts fixed s.pages n number page) long_is (subst (λ (ps : List (List (Option ℕ))). Puts fixed ps size number page) same put))

-- a checkpoint page more stands
pub page_stands : (x : Target) (number : ℕ) (all bytes : List ℕ) (now new : FlashState) → IsProgramming x number now → bytes ≡ page_in x.geometry.block all number → ProgramsIn x kinds.Checkpoint number number bytes now new Done
    → IsTrue now.told → HasPages x.geometry.block x.stamp all (area_of x.geometry x.area now.cells) number → HasPages x.geometry.block x.stamp all (area_of x.geometry x.area new.cells) (number + 1)
page_stands x number all bytes now new h is p told before =
    let cells = area_of x.geometry x.area now.cells in
    let stands = program_stands x kinds.Checkpoint number number bytes now new h p told ∙ ap (λ (bs : List ℕ). set cells number (system_cell kinds.Checkpoint number x.stamp bs)) is in
    subst (λ (cs : List Cell). HasPages x.geometry.block x.stamp all cs (number + 1)) (sym stands) (pages_more x.geometry.block x.stamp all cells number (long_area x number now h told) before)

-- a journal page more stands
pub record_stands : (x : Target) (count number : ℕ) (kept : List (List ℕ)) (bytes : List ℕ) (old : List Cell) (now new : FlashState) → IsProgramming x (count + number) now → slice_get kept number ≡ Some bytes
    → ProgramsIn x kinds.Journal number (count + number) bytes now new Done → IsTrue now.told → IsKeptBehind x.stamp count kept number old (area_of x.geometry x.area now.cells)
    → IsKeptBehind x.stamp count kept (number + 1) old (area_of x.geometry x.area new.cells)
record_stands x count number kept bytes old now new h at p told before =
    subst (IsKeptBehind x.stamp count kept (number + 1) old) (sym (program_stands x kinds.Journal number (count + number) bytes now new h p told))
    (one_more_kept x.stamp count kept number bytes old (area_of x.geometry x.area now.cells) at (long_area x (count + number) now h told) before)

-- ---- the seal

pub record IsSealReady (x : Target) (count : ℕ) (s : State) (kept : List (List ℕ)) (start now : FlashState) : Type 0 where
  pub at : IsProgramming x (count + length kept) now
  pub some : 0 < x.geometry.block
  pub stamp : x.stamp ≡ new_stamp x.stamp.epoch
  pub first : said_by_system (system_spare (record { kind = kinds.Checkpoint; number = 0; stamp = x.stamp })) ≡ Some (record { kind = kinds.Checkpoint; number = 0; stamp = x.stamp })
  pub checkpoint : IsTrue now.told → HasCheckpoint x count s start.cells
  pub behind : IsTrue now.told → IsKeptBehind x.stamp count kept (length kept) (area_of x.geometry x.area start.cells) (area_of x.geometry x.area now.cells)
  pub none : IsTrue now.told → HasNoSeal (area_of x.geometry x.area now.cells)

ready : (x : Target) (count : ℕ) (s : State) (kept : List (List ℕ)) (start now : FlashState) (h : IsSealReady x count s kept start now) (told : IsTrue now.told)
    → IsReady x.geometry.block count x.stamp.epoch s (h.checkpoint told).bytes kept (area_of x.geometry x.area start.cells) (area_of x.geometry x.area now.cells)
ready x count s kept start now h told =
    let c = h.checkpoint told in
    record {
      some = h.some;
      frozen = c.frozen;
      count_is = c.count_is;
      first = subst (λ t. said_by_system (system_spare (record { kind = kinds.Checkpoint; number = 0; stamp = t })) ≡ Some (record { kind = kinds.Checkpoint; number = 0; stamp = t })) h.stamp h.first;
      inside = long_area x (count + length kept) now h.at told;
      pages = subst (λ t. HasPages x.geometry.block t c.bytes (area_of x.geometry x.area start.cells) count) h.stamp c.pages;
      behind = subst (λ t. IsKeptBehind t count kept (length kept) (area_of x.geometry x.area start.cells) (area_of x.geometry x.area now.cells)) h.stamp (h.behind told);
    }

-- the program of the seal
abbrev pub SealsIn : Target → ℕ → FlashState → FlashState → Wrote → Type 0
SealsIn x number now new result = ProgramsIn x kinds.Seal number number (zeros x.geometry.block) now new result

seal_cell : (x : Target) (number : ℕ) → x.stamp ≡ new_stamp x.stamp.epoch → system_cell kinds.Seal number x.stamp (zeros x.geometry.block) ≡ system_cell kinds.Seal number (new_stamp x.stamp.epoch) (zeros x.geometry.block)
seal_cell x number same = ap (λ t. system_cell kinds.Seal number t (zeros x.geometry.block)) same

pub seal_held : (x : Target) (count : ℕ) (s : State) (kept : List (List ℕ)) (start now new : FlashState) (result : Wrote) → IsSealReady x count s kept start now → SealsIn x (count + length kept) now new result
    → Holds (IsSealing x.geometry x.area x.stamp.epoch s kept now.cells) now new
seal_held x count s kept start now new result h p =
    let g = x.geometry in
    let place = count + length kept in
    let cells = area_of g x.area now.cells in
    program_holds (IsSealing g x.area x.stamp.epoch s kept now.cells) now new _ _ (zeros g.block) result p.call p.answer
    (λ told left may.
    let l = left_in x kinds.Seal place place (zeros g.block) now new result left h.at p may in
    let unsealed_by : (l.cell ≡ Blank) ⊎ (l.cell ≡ Torn) → sealed_in (area_of g x.area left) ≡ None =
    λ half.
    ap sealed_in l.set_is
    ∙ unsealed (set cells place l.cell)
    (set_no_seal cells place l.cell (long_area x place now h.at told) (h.none told)
    (left_no_seal kinds.Checkpoint 0 x.stamp [] l.cell (inl refl) (elim half [ inl blank ↦ inl blank | inr torn ↦ inr (inl torn) ]))) in
    record {
      beside = l.beside;
      left = elim l.page [
        | inl blank ↦ inl (unsealed_by (inl blank))
        | inr other ↦ elim other [
          | inl torn ↦ inl (unsealed_by (inr torn))
          | inr whole ↦ inr
              (subst (IsNewlySealed g.block x.stamp.epoch s kept) (sym (l.set_is ∙ ap (set cells place) (whole ∙ seal_cell x place h.stamp)))
              (sealed_anew g.block count x.stamp.epoch s _ kept _ cells (ready x count s kept start now h told)))
        ]
      ];
    })

pub seal_done : (x : Target) (count : ℕ) (s : State) (kept : List (List ℕ)) (start now new : FlashState) (result : Wrote) → IsSealReady x count s kept start now → SealsIn x (count + length kept) now new result → IsTrue now.told
    → result ≡ Done → IsWrittenWith x.geometry x.area x.stamp.epoch s kept new.cells
seal_done x count s kept start now new Failed h p told is = absurd cc
seal_done x count s kept start now new Done h p told is =
    let g = x.geometry in
    let place = count + length kept in
    let cells = area_of g x.area now.cells in
    let r = ready x count s kept start now h told in
    let stands = program_stands x kinds.Seal place place (zeros g.block) now new h.at p told ∙ ap (set cells place) (seal_cell x place h.stamp) in
    record {
      sealed = subst (IsNewlySealed g.block x.stamp.epoch s kept) (sym stands) (sealed_anew g.block count x.stamp.epoch s _ kept _ cells r);
      blank = subst (λ (cs : List Cell). AreBlankFrom (suc (pages_for g.block s.summary + length kept)) cs) (sym stands)
          (blank_behind g.block count x.stamp.epoch s _ kept _ cells (system_cell kinds.Seal place (new_stamp x.stamp.epoch) (zeros g.block)) r);
    }

-- ---- the whole

pub unsealed_sealing : (g : Geometry) (area epoch : ℕ) (s : State) (kept : List (List ℕ)) (old new : FlashState) → Holds (IsUnsealed g area old.cells) old new → Holds (IsSealing g area epoch s kept old.cells) old new
unsealed_sealing g area epoch s kept old new held =
    holds_weakened (IsUnsealed g area old.cells) (IsSealing g area epoch s kept old.cells) old new held (λ told cells u. record { beside = u.beside; left = inl (unsealed (area_of g area cells) u.none) })

pub sealing_behind : (g : Geometry) (area epoch : ℕ) (s : State) (kept : List (List ℕ)) (a b d : FlashState) → Holds (IsUnsealed g area a.cells) a b → Holds (IsSealing g area epoch s kept b.cells) b d
    → Holds (IsSealing g area epoch s kept a.cells) a d
sealing_behind g area epoch s kept a b d p q =
    holds_joined (IsSealing g area epoch s kept a.cells) a b d (unsealed_sealing g area epoch s kept a b p)
    (holds_weakened (IsSealing g area epoch s kept b.cells) (IsSealing g area epoch s kept a.cells) b d q
    (λ told cells u. record { beside = beside_joined g area a.cells b.cells cells (p.cells (rw (← p.run.told) told)).beside u.beside; left = u.left }))

pub erasing_written : (g : Geometry) (area epoch : ℕ) (s : State) (old new : FlashState) → area ≤ 1 → Holds (IsErasing g area old.cells) old new → Holds (MayBeWritten g area epoch s old.cells) old new
erasing_written g area epoch s old new two held =
    holds_weakened (IsErasing g area old.cells) (MayBeWritten g area epoch s old.cells) old new held
    (λ told cells e. may_be_written g area epoch s old.cells cells two e.beside (elim e.left [ inl none ↦ inl none | inr short ↦ inr (inl short) ]))

pub written_whole : (g : Geometry) (area epoch : ℕ) (s : State) (a b d : FlashState) → area ≤ 1 → Holds (IsErasing g area a.cells) a b → Holds (IsSealing g area epoch s [] b.cells) b d → Holds (MayBeWritten g area epoch s a.cells) a d
written_whole g area epoch s a b d two p q =
    holds_joined (MayBeWritten g area epoch s a.cells) a b d (erasing_written g area epoch s a b two p)
    (holds_weakened (IsSealing g area epoch s [] b.cells) (MayBeWritten g area epoch s a.cells) b d q
    (λ told cells u.
    may_be_written g area epoch s a.cells cells two (beside_joined g area a.cells b.cells cells (p.cells (rw (← p.run.told) told)).beside u.beside)
    (elim u.left [ inl none ↦ inl none | inr anew ↦ inr (inr anew) ])))

-- without a journal page before the seal
pub written_plain : (g : Geometry) (area epoch : ℕ) (s : State) (cells : List Cell) → IsWrittenWith g area epoch s [] cells → IsWritten g area epoch s cells
written_plain g area epoch s cells w =
    let none : suc (pages_for g.block s.summary + 0) ≡ suc (pages_for g.block s.summary) = omega arith in
    record { sealed = w.sealed; blank = subst (λ (n : ℕ). AreBlankFrom n (area_of g area cells)) none w.blank }

-- ---- the calls, joined

-- some pages, and those behind them
pub pages_joined : (g : Geometry) (area first count more : ℕ) (a b d : FlashState) (result : Wrote) → (IsTrue d.tells_calls → IsTrue b.tells_calls) → Makes a b (calls_from (page_call g area) first count)
    → MakesPlanned b d (calls_from (page_call g area) (first + count) more) result → MakesPlanned a d (calls_from (page_call g area) first (count + more)) result
pages_joined g area first count more a b d Done before p q =
    rw (calls_split (page_call g area) first count more) (made_joined a b d (calls_from (page_call g area) first count) (calls_from (page_call g area) (first + count) more) before p q)
pages_joined g area first count more a b d Failed before p q =
    rw (calls_split (page_call g area) first count more) (stops_behind a b d (calls_from (page_call g area) first count) (calls_from (page_call g area) (first + count) more) before p q)

-- pages that stop, and so none behind them
pub pages_stop : (g : Geometry) (area first count more : ℕ) (a b : FlashState) → StopsAt a b (calls_from (page_call g area) first count) → StopsAt a b (calls_from (page_call g area) first (count + more))
pages_stop g area first count more a b s =
    rw (calls_split (page_call g area) first count more) (stops_before a b (calls_from (page_call g area) first count) (calls_from (page_call g area) (first + count) more) s)

-- the erases, and then the programs
pub whole_calls : (g : Geometry) (area count : ℕ) (a b d : FlashState) (result : Wrote) → (IsTrue d.tells_calls → IsTrue b.tells_calls) → Makes a b (calls_from erase_of (area_unit g area) g.area_units)
    → MakesPlanned b d (calls_from (page_call g area) 0 (count + 1)) result → MakesPlanned a d (checkpoint_calls g area count) result
whole_calls g area count a b d Done before p q = made_joined a b d (calls_from erase_of (area_unit g area) g.area_units) (calls_from (page_call g area) 0 (count + 1)) before p q
whole_calls g area count a b d Failed before p q = stops_behind a b d (calls_from erase_of (area_unit g area) g.area_units) (calls_from (page_call g area) 0 (count + 1)) before p q

-- a block has bytes
pub block_some : (g : Geometry) → IsValidGeometry g → 0 < g.block
block_some g valid = elim (or_cases (g.block == 512) (g.block == 4096) valid.block) [
  | inl small ↦ omega (arith, eqb-true g.block 512 small)
  | inr large ↦ omega (arith, eqb-true g.block 4096 large)
]

-- the pages hold the checkpoint
pub content_fits : (g : Geometry) (count : ℕ) (s : State) → IsValidGeometry g → count ≡ pages_for g.block s.summary → checkpoint_size s.summary ≤ count * g.block
content_fits g count s valid is = rw is (pages_enough g.block s.summary (block_some g valid))

pub fixed_size_is : (fixed : List ℕ) (s : State) → IsState s → SummaryFits s.summary → fixed ≡ fixed_of 1 s.summary → length fixed ≡ 5120
fixed_size_is fixed s state fits is = ap length is ∙ fixed_long 1 s.summary state.summary fits.lists.masks

-- the same calls, by the geometry and the state
pub calls_at : (g h : Geometry) (area count : ℕ) (s : State) (a b : FlashState) (result : Wrote) → g ≡ h → count ≡ pages_for g.block s.summary → MakesPlanned a b (checkpoint_calls g area count) result
    → MakesPlanned a b (checkpoint_calls h area (pages_for h.block s.summary)) result
calls_at g h area count s a b result same is made =
    subst (λ (k : Geometry). MakesPlanned a b (checkpoint_calls k area (pages_for k.block s.summary)) result) same (subst (λ (n : ℕ). MakesPlanned a b (checkpoint_calls g area n) result) is made)

-- the next page is programmed, or its program failed
abbrev page_left : Target → SystemKind → ℕ → ℕ → List ℕ → FlashState → List Cell → Type 0
page_left x kind number place bytes now = ProgramMayLeave now.geometry now.cells (spot_in x.geometry x.area place) (system_spare (record { kind = kind; number = number; stamp = x.stamp })) bytes

pub page_made : (x : Target) (kind : SystemKind) (number first n place : ℕ) (bytes : List ℕ) (start now new : FlashState) → place ≡ first + n → Makes start now (calls_from (page_call x.geometry x.area) first n)
    → ProgramsIn x kind number place bytes now new Done → Makes start new (calls_from (page_call x.geometry x.area) first (n + 1))
page_made x kind number first n place bytes start now new on made p =
    next_made (page_call x.geometry x.area) first n start now new (page_left x kind number place bytes now) made p.call
    (subst (λ (k : ℕ). Ends now new (page_call x.geometry x.area k) (page_left x kind number place bytes now)) on p.answer.ended)

pub page_stops : (x : Target) (kind : SystemKind) (number first n count place : ℕ) (bytes : List ℕ) (start now new : FlashState) → n < count → place ≡ first + n → Makes start now (calls_from (page_call x.geometry x.area) first n)
    → ProgramsIn x kind number place bytes now new Failed → StopsAt start new (calls_from (page_call x.geometry x.area) first count)
page_stops x kind number first n count place bytes start now new lt on made p =
    next_stops (page_call x.geometry x.area) first n count start now new (page_left x kind number place bytes now) lt made p.call
    (subst (λ (k : ℕ). Ends now new (record (page_call x.geometry x.area k) { failed = true }) (page_left x kind number place bytes now)) on p.answer.ended)

-- the bytes of a seal
pub zeros_taken : (g : Geometry) → IsValidGeometry g → take g.block (replicate 4096 0) ≡ zeros g.block
zeros_taken g valid = take-replicate g.block 4096 most where
  most : g.block ≤ 4096
  most = elim (or_cases (g.block == 512) (g.block == 4096) valid.block) [
    | inl small ↦ omega (arith, eqb-true g.block 512 small)
    | inr large ↦ omega (arith, eqb-true g.block 4096 large)
  ]

  take-replicate : (n m : ℕ) → n ≤ m → take n (replicate m 0) ≡ zeros n
  take-replicate zero m lt = refl
  take-replicate (suc n) zero lt = absurd (omega (arith, lt))
  take-replicate (suc n) (suc m) lt = ap (λ (xs : List ℕ). 0 ∷ xs) (take-replicate n m (omega (arith, lt)))
