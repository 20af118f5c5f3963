-- What a slice leaves of an area, and what its calls have done.
use Rattle.std.proofs.Common.{◌≡◌, ℕ, ◌+◌, ◌-◌, ◌<◌, ◌≤◌, ◌⊎◌, Bool, true, false, IsTrue, List, [], ◌∷◌, Some, refl, sym, ap, ◌∙◌, subst, arith, inl, inr, zero, suc, ◌++◌}
use Rattle.std.specs.Prelude.{if◌then◌else◌, nat_lt}
use Rattle.std.proofs.lemmas.Bool.Decides.{nat_tests}
use Rattle.fdp_base.specs.declared.config.Geometry.{Geometry}
use Rattle.fdp_base.specs.Geometry.{IsValidGeometry, all_pages}
use Rattle.fdp_flash.specs.declared.answer.Wrote.{Wrote}
use Rattle.fdp_flash.specs.declared.answer.Wrote.TheVariants.{Done, Failed}
use Rattle.fdp_flash.specs.declared.cell.Cell.{Cell}
use Rattle.fdp_flash.specs.declared.cell.Cell.TheVariants.{Blank, Torn}
use Rattle.fdp_flash.specs.Answers.{Erases}
use Rattle.fdp_flash.specs.Area.{IsBlankArea}
use Rattle.fdp_flash.specs.Cells.{EraseMayLeave, IsErased}
use Rattle.fdp_flash.specs.Failing.{FailsLast}
use Rattle.fdp_flash.specs.FlashState.{Begins, Call, FlashState, IsWellFormed}
use Rattle.fdp_flash.specs.Planned.{Makes, MakesPlanned, StopsAt, calls_from, erase_of}
use Rattle.fdp_flash.specs.Runs.{Holds}
use Rattle.fdp_flash.proofs.Calls.{erase_leaves}
use Rattle.fdp_flash.proofs.Failing.{erase_failed}
use Rattle.fdp_flash.proofs.Held.{holds_joined, holds_weakened}
use Rattle.fdp_flash.proofs.Planned.{calls_one_more, calls_split, made_joined, none_made, one_made, stops_before, stops_behind}
use Rattle.fdp_flash.proofs.Runs.{run_of_erase}
use Rattle.fdp_flash.proofs.Units.{area_blank_more, area_erased, area_unchanged}
use Rattle.fdp_image.specs.Areas.{area_of, area_unit}
use Rattle.fdp_image.specs.Replacing.{HasNoSeal, IsWiped, pages_for}
use Rattle.fdp_image.specs.Saving.{AreBlankFrom}
use Rattle.fdp_image.proofs.Wiping.{in_range}
use Rattle.fdp_records.specs.declared.spare.Stamp.{Stamp}
use Rattle.fdp_image.specs.Areas.{is_seal, page_bytes}
use Rattle.fdp_records.specs.declared.spare.SystemKind.TheVariants as kinds
use Rattle.fdp_snapshot.specs.declared.state.State.{State}
use Rattle.fdp_checkpoint.specs.declared.target.Target.{Target}
use Rattle.fdp_checkpoint.specs.Slices.{IsPartDone, IsSliced, slice_call}
use Rattle.fdp_checkpoint.specs.Target.{ProgramsIn}
use Rattle.fdp_checkpoint.specs.Writing.{HasCheckpoint, HasPages, IsFrozen, IsUnsealed, page_call, page_in}
use Rattle.fdp_checkpoint.proofs.Areas.{beside_joined, beside_none, blank_area, erased_beside, erased_wiped}
use Rattle.fdp_checkpoint.proofs.SealedAnew.{pages_no_seal, pages_none}
use Rattle.fdp_checkpoint.proofs.Steps.{IsProgramming, page_stands, program_calls, program_unsealed}

-- ---- what a stop leaves

wiped_joined : (a b d : List Cell) → IsWiped a b → IsWiped b d → IsWiped a d
wiped_joined a b d p q = record {
  size = q.size ∙ p.size;
  pages = λ k lt. elim (q.pages k (omega (arith, lt, p.size))) [
    | inl same ↦ elim (p.pages k lt) [
      | inl before ↦ inl (same ∙ before)
      | inr left ↦ inr (elim left [ inl blank ↦ inl (same ∙ blank) | inr torn ↦ inr (same ∙ torn) ])
    ]
    | inr left ↦ inr left
  ];
}

half_no_seal : (cell : Cell) → (cell ≡ Blank) ⊎ (cell ≡ Torn) → (t : Stamp) (n : ℕ) → is_seal t n cell ≡ false
unfolding page_bytes
half_no_seal cell (inl blank) t n = ap (is_seal t n) blank
half_no_seal cell (inr torn) t n = ap (is_seal t n) torn

wiped_no_seal : (a b : List Cell) → HasNoSeal a → IsWiped a b → HasNoSeal b
wiped_no_seal a b none w k cell at t n = elim (w.pages k (omega (arith, in_range b k cell at, w.size))) [
  | inl same ↦ none k cell (sym same ∙ at) t n
  | inr left ↦ elim left [
    | inl blank ↦ (let both : Some cell ≡ Some Blank = sym at ∙ blank in half_no_seal cell (inl cc) t n)
    | inr torn ↦ (let both : Some cell ≡ Some Torn = sym at ∙ torn in half_no_seal cell (inr cc) t n)
  ]
]

-- before the first call of a slice
pub sliced_none : (g : Geometry) (area : ℕ) (cells : List Cell) → IsSliced g area cells cells
sliced_none g area cells = record { beside = beside_none g area cells; left = inl (record { size = refl; pages = λ k lt. inl refl }) }

-- two slices, one after the other
pub sliced_joined : (g : Geometry) (area : ℕ) (a b d : List Cell) → IsSliced g area a b → IsSliced g area b d → IsSliced g area a d
sliced_joined g area a b d p q = record {
  beside = beside_joined g area a b d p.beside q.beside;
  left = elim q.left [
    | inl wiped ↦ elim p.left [
      | inl before ↦ inl (wiped_joined (area_of g area a) (area_of g area b) (area_of g area d) before wiped)
      | inr none ↦ inr (wiped_no_seal (area_of g area b) (area_of g area d) none wiped)
    ]
    | inr none ↦ inr none
  ];
}

-- an area without a seal stays one
pub sliced_no_seal : (g : Geometry) (area : ℕ) (old new : List Cell) → HasNoSeal (area_of g area old) → IsSliced g area old new → HasNoSeal (area_of g area new)
sliced_no_seal g area old new none p = elim p.left [
  | inl wiped ↦ wiped_no_seal (area_of g area old) (area_of g area new) none wiped
  | inr left ↦ left
]

pub slices_joined : (g : Geometry) (area : ℕ) (a b d : FlashState) → Holds (IsSliced g area a.cells) a b → Holds (IsSliced g area b.cells) b d → Holds (IsSliced g area a.cells) a d
slices_joined g area a b d p q =
    holds_joined (IsSliced g area a.cells) a b d p
    (holds_weakened (IsSliced g area b.cells) (IsSliced g area a.cells) b d q
    (λ told cells u. sliced_joined g area a.cells b.cells cells (p.cells (rw (← p.run.told) told)) u))

-- ---- an erase of a unit

-- what is known before a unit of an area is erased
pub record IsErasingUnit (x : Target) (number : ℕ) (now : FlashState) : Type 0 where
  pub geometry : x.geometry ≡ now.geometry
  pub valid : IsValidGeometry x.geometry
  pub area : x.area ≤ 1
  pub inside : number < x.geometry.area_units
  pub well_formed : IsWellFormed now

-- one call was made: the erase of this unit of the area
abbrev pub ErasesIn : Target → ℕ → FlashState → FlashState → Wrote → Type 0
ErasesIn x number now new result = Begins now new × Erases now new (area_unit x.geometry x.area + number) result

unit_sliced : (x : Target) (number : ℕ) (now : FlashState) (left : List Cell) → IsErasingUnit x number now → IsTrue now.told → EraseMayLeave now.geometry now.cells (area_unit x.geometry x.area + number) left
    → IsSliced x.geometry x.area now.cells left
unit_sliced x number now left h told may =
    let g = x.geometry in
    let first = area_unit g x.area in
    let here : EraseMayLeave g now.cells (first + number) left = subst (λ (k : Geometry). EraseMayLeave k now.cells (first + number) left) (sym h.geometry) may in
    let area = area_erased g first g.area_units now.cells now.cells (first + number) left (omega arith) (omega (arith, h.inside)) (area_unchanged g first g.area_units now.cells) here in
    record {
      beside = erased_beside g x.area now.cells left area;
      left = inl (erased_wiped g x.area now.cells left h.area (h.well_formed.size told ∙ ap all_pages (sym h.geometry)) area);
    }

pub unit_held : (x : Target) (number : ℕ) (now new : FlashState) (result : Wrote) → IsErasingUnit x number now → ErasesIn x number now new result → Holds (IsSliced x.geometry x.area now.cells) now new
unit_held x number now new result h p = record {
  run = run_of_erase now new (area_unit x.geometry x.area + number) result (λ m image. IsSliced x.geometry x.area now.cells image) p.0 p.1 (λ told later image left. unit_sliced x number now image h told left);
  cells = λ told. unit_sliced x number now new.cells h told (erase_leaves now new (area_unit x.geometry x.area + number) result p.1 told);
}

pub unit_done : (x : Target) (number : ℕ) (frozen : List ℕ) (now new : FlashState) (result : Wrote) → IsErasingUnit x number now → IsWellFormed new → ErasesIn x number now new result → IsTrue now.told → result ≡ Done
    → IsPartDone x frozen number now.cells → IsPartDone x frozen (number + 1) new.cells
unit_done x number frozen now new Failed h w p told is before = absurd cc
unit_done x number frozen now new Done h w p told is before =
    let g = x.geometry in
    let first = area_unit g x.area in
    let erased : IsErased g now.cells (first + number) new.cells = subst (λ (k : Geometry). IsErased k now.cells (first + number) new.cells) (sym h.geometry) (p.1.done told refl) in
    let more = area_blank_more g first number now.cells new.cells (before.erased (omega (arith, h.inside))) erased in
    let size = w.size (rw p.0.told told) ∙ ap all_pages (p.0.geometry ∙ sym h.geometry) in
    record {
      erased = λ most. more;
      filled = λ least.
          let all : number + 1 ≡ g.area_units = omega (arith, least, h.inside) in
          let none : number + 1 - g.area_units ≡ 0 = omega (arith, all) in
          let blank = blank_area g x.area new.cells h.valid h.area size (subst (λ (n : ℕ). IsBlankArea g first n new.cells) all more) in
          subst (HasPages g.block x.stamp frozen (area_of g x.area new.cells)) (sym none) (pages_none g.block x.stamp frozen (area_of g x.area new.cells) blank);
    }

-- ---- a program of a page

pub page_held : (x : Target) (number : ℕ) (bytes : List ℕ) (now new : FlashState) (result : Wrote) → IsProgramming x number now → (IsTrue now.told → HasNoSeal (area_of x.geometry x.area now.cells)) → ProgramsIn x kinds.Checkpoint number number bytes now new result
    → Holds (IsSliced x.geometry x.area now.cells) now new
page_held x number bytes now new result h none p =
    holds_weakened (IsUnsealed x.geometry x.area now.cells) (IsSliced x.geometry x.area now.cells) now new (program_unsealed x kinds.Checkpoint number number bytes now new result (inl refl) h none p)
    (λ told cells u. record { beside = u.beside; left = inr u.none })

pub page_done : (x : Target) (number place : ℕ) (frozen : List ℕ) (now new : FlashState) (result : Wrote) → x.geometry.area_units ≤ number → place ≡ number - x.geometry.area_units → IsProgramming x place now
    → ProgramsIn x kinds.Checkpoint place place (page_in x.geometry.block frozen place) now new result → IsTrue now.told → result ≡ Done → IsPartDone x frozen number now.cells → IsPartDone x frozen (number + 1) new.cells
page_done x number place frozen now new Failed least at h p told is before = absurd cc
page_done x number place frozen now new Done least at h p told is before =
    let g = x.geometry in
    let there : HasPages g.block x.stamp frozen (area_of g x.area now.cells) place = subst (HasPages g.block x.stamp frozen (area_of g x.area now.cells)) (sym at) (before.filled least) in
    let next : place + 1 ≡ number + 1 - g.area_units = omega (arith, at, least) in
    record {
      erased = λ most. absurd (omega (arith, most, least));
      filled = λ more. subst (HasPages g.block x.stamp frozen (area_of g x.area new.cells)) next (page_stands x place frozen (page_in g.block frozen place) now new h refl p told there);
    }

-- once all units are erased the area has no seal
pub part_no_seal : (x : Target) (frozen : List ℕ) (done : ℕ) (cells : List Cell) → x.geometry.area_units ≤ done → IsPartDone x frozen done cells → HasNoSeal (area_of x.geometry x.area cells)
part_no_seal x frozen done cells least p = pages_no_seal x.geometry.block x.stamp frozen (area_of x.geometry x.area cells) (done - x.geometry.area_units) (p.filled least)

pub part_blank : (x : Target) (frozen : List ℕ) (done : ℕ) (cells : List Cell) → x.geometry.area_units ≤ done → IsPartDone x frozen done cells → AreBlankFrom (done - x.geometry.area_units) (area_of x.geometry x.area cells)
part_blank x frozen done cells least p = (p.filled least).blank

-- before the first call
pub none_done : (x : Target) (frozen : List ℕ) (cells : List Cell) → 0 < x.geometry.area_units → IsPartDone x frozen 0 cells
none_done x frozen cells some = record {
  erased = λ most unit least below. absurd (omega (arith, least, below));
  filled = λ least. absurd (omega (arith, some, least));
}

-- all calls are done: the checkpoint stands
pub all_done : (x : Target) (frozen : List ℕ) (count : ℕ) (s : State) (cells : List Cell) → IsFrozen x.geometry.block s frozen → count ≡ pages_for x.geometry.block s.summary
    → IsPartDone x frozen (x.geometry.area_units + count) cells → HasCheckpoint x count s cells
all_done x frozen count s cells is many p =
    let all : x.geometry.area_units + count - x.geometry.area_units ≡ count = omega arith in
    record {
      bytes = frozen;
      frozen = is;
      count_is = many;
      pages = subst (HasPages x.geometry.block x.stamp frozen (area_of x.geometry x.area cells)) all (p.filled (omega arith));
    }

-- ---- the calls

less : (a b : ℕ) → a < b → nat_lt a b ≡ true
less a b h = grind (arith, nat_tests)

not_less : (a b : ℕ) → b ≤ a → nat_lt a b ≡ false
not_less a b h = grind (arith, nat_tests)

abbrev one_of : Bool → Call → Call → Call
one_of b x y = if b then x else y

erase_is : (g : Geometry) (area number : ℕ) → number < g.area_units → slice_call g area number ≡ erase_of (area_unit g area + number)
erase_is g area number lt = ap (λ (b : Bool). one_of b (erase_of (area_unit g area + number)) (page_call g area (number - g.area_units))) (less number g.area_units lt)

page_is : (g : Geometry) (area number : ℕ) → g.area_units ≤ number → slice_call g area number ≡ page_call g area (number - g.area_units)
page_is g area number least = ap (λ (b : Bool). one_of b (erase_of (area_unit g area + number)) (page_call g area (number - g.area_units))) (not_less number g.area_units least)

one_erase : (unit : ℕ) (now new : FlashState) (result : Wrote) → IsWellFormed now → Begins now new → Erases now new unit result → MakesPlanned now new (erase_of unit ∷ []) result
one_erase unit now new Done w b a = one_made now now new [] (erase_of unit) _ (none_made now w) b a.ended
one_erase unit now new Failed w b a = record {
  before = [];
  last = erase_of unit;
  behind = [];
  planned_is = refl;
  made = one_made now now new [] (record (erase_of unit) { failed = true }) _ (none_made now w) b a.ended;
}

pub unit_calls : (x : Target) (number : ℕ) (now new : FlashState) (result : Wrote) → IsErasingUnit x number now → ErasesIn x number now new result → MakesPlanned now new (slice_call x.geometry x.area number ∷ []) result
unit_calls x number now new result h p =
    subst (λ (call : Call). MakesPlanned now new (call ∷ []) result) (sym (erase_is x.geometry x.area number h.inside)) (one_erase (area_unit x.geometry x.area + number) now new result h.well_formed p.0 p.1)

pub unit_faultless : (x : Target) (number : ℕ) (now new : FlashState) (result : Wrote) → ErasesIn x number now new result → result ≡ Done → new.faults ≡ now.faults
unit_faultless x number now new Done p is = p.1.ended.no_fault refl
unit_faultless x number now new Failed p is = absurd cc

pub unit_fails : (x : Target) (number : ℕ) (now new : FlashState) (result : Wrote) → IsWellFormed new → ErasesIn x number now new result → result ≡ Failed → FailsLast now new new.moment
unit_fails x number now new Done w p is = absurd cc
unit_fails x number now new Failed w p is = erase_failed now new _ w p.0 p.1

pub page_calls : (x : Target) (number place : ℕ) (bytes : List ℕ) (now new : FlashState) (result : Wrote) → x.geometry.area_units ≤ number → place ≡ number - x.geometry.area_units → IsWellFormed now
    → ProgramsIn x kinds.Checkpoint place place bytes now new result → MakesPlanned now new (slice_call x.geometry x.area number ∷ []) result
page_calls x number place bytes now new result least at w p =
    subst (λ (call : Call). MakesPlanned now new (call ∷ []) result) (ap (page_call x.geometry x.area) at ∙ sym (page_is x.geometry x.area number least)) (program_calls x kinds.Checkpoint place place bytes now new result w p)

-- one call more of those that are planned
pub call_more : (call : ℕ → Call) (first number : ℕ) (start now new : FlashState) → first ≤ number → (IsTrue new.tells_calls → IsTrue now.tells_calls) → Makes start now (calls_from call first (number - first))
    → Makes now new (call number ∷ []) → Makes start new (calls_from call first (number + 1 - first))
call_more call first number start now new least before p q =
    let on : first + (number - first) ≡ number = omega (arith, least) in
    let next : number - first + 1 ≡ number + 1 - first = omega (arith, least) in
    let joined = made_joined start now new (calls_from call first (number - first)) (call (first + (number - first)) ∷ []) before p (subst (λ (n : ℕ). Makes now new (call n ∷ [])) (sym on) q) in
    subst (λ (n : ℕ). Makes start new (calls_from call first n)) next (rw (calls_one_more call first (number - first)) joined)

pub call_stops : (call : ℕ → Call) (first number count : ℕ) (start now new : FlashState) → first ≤ number → number < first + count → (IsTrue new.tells_calls → IsTrue now.tells_calls)
    → Makes start now (calls_from call first (number - first)) → StopsAt now new (call number ∷ []) → StopsAt start new (calls_from call first count)
call_stops call first number count start now new least most before p q =
    let n = number - first in
    let on : first + n ≡ number = omega (arith, least) in
    let joined = stops_behind start now new (calls_from call first n) (call (first + n) ∷ []) before p (subst (λ (m : ℕ). StopsAt now new (call m ∷ [])) (sym on) q) in
    let here : StopsAt start new (calls_from call first (n + 1)) = rw (calls_one_more call first n) joined in
    let all : n + 1 + (count - (n + 1)) ≡ count = omega (arith, least, most) in
    subst (λ (m : ℕ). StopsAt start new (calls_from call first m)) all
    (rw (calls_split call first (n + 1) (count - (n + 1))) (stops_before start new (calls_from call first (n + 1)) (calls_from call (first + (n + 1)) (count - (n + 1))) here))

same_calls : (f h : ℕ → Call) (a b n : ℕ) → ((k : ℕ) → k < n → f (a + k) ≡ h (b + k)) → calls_from f a n ≡ calls_from h b n
unfolding calls_from
same_calls f h a b zero each = refl
same_calls f h a b (suc n) each =
    let from : a + 0 ≡ a = omega arith in
    let to : b + 0 ≡ b = omega arith in
    let first : f a ≡ h b = ap f (sym from) ∙ each 0 (omega arith) ∙ ap h to in
    let rest =
    same_calls f h (suc a) (suc b) n
    (λ k lt.
    let x : suc a + k ≡ a + suc k = omega arith in
    let y : b + suc k ≡ suc b + k = omega arith in
    ap f x ∙ each (suc k) (omega (arith, lt)) ∙ ap h y) in
    λ i. first i ∷ rest i

-- all calls of the slices are the erases of the units and then the programs of the pages
pub all_calls : (g : Geometry) (area count : ℕ) → calls_from (slice_call g area) 0 (g.area_units + count) ≡ calls_from erase_of (area_unit g area) g.area_units ++ calls_from (page_call g area) 0 count
all_calls g area count =
    let erases : calls_from (slice_call g area) 0 g.area_units ≡ calls_from erase_of (area_unit g area) g.area_units =
    same_calls (slice_call g area) erase_of 0 (area_unit g area) g.area_units (λ k lt. let on : 0 + k ≡ k = omega arith in ap (slice_call g area) on ∙ erase_is g area k lt) in
    let pages : calls_from (slice_call g area) (0 + g.area_units) count ≡ calls_from (page_call g area) 0 count =
    same_calls (slice_call g area) (page_call g area) (0 + g.area_units) 0 count
    (λ k lt. let on : 0 + g.area_units + k - g.area_units ≡ 0 + k = omega arith in page_is g area (0 + g.area_units + k) (omega arith) ∙ ap (page_call g area) on) in
    calls_split (slice_call g area) 0 g.area_units count ∙ (λ i. erases i ++ pages i)
