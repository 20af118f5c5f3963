-- Blocks that are kept on their pages, and the marks of those pages, one after another.
use Rattle.std.proofs.Common.{◌≡◌, ◌≢◌, ◌⊎◌, ℕ, zero, suc, ◌+◌, ◌<◌, ◌≤◌, Bool, true, false, IsTrue, List, [], ◌∷◌, length, set, get_or, Option, Some, None, refl, sym, ap, subst, ◌∙◌, arith, inl, inr, ⊎_elim, replicate}
use Rattle.std.specs.Prelude.{◌&&◌, ◌==◌, if◌then◌else◌, nat_lt, slice_get}
use Rattle.std.specs.Option.{option_and_then, option_map_or}
use Rattle.std.proofs.lemmas.Bool.{cases_lt}
use Rattle.std.proofs.lemmas.Bool.Decides.{eqb_tells, nat_tests}
use Rattle.std.proofs.lemmas.List.{length-set}
use Rattle.std.proofs.lemmas.List.Sums.{count_by-le-length, sum_by-set}
use Rattle.std.proofs.lemmas.Option.{get_or_from_slice_get, slice_get_past, slice_get_within}
use Rattle.fdp_base.specs.declared.config.DriveConfig.{DriveConfig}
use Rattle.fdp_base.specs.Placement.{geometry_of}
use Rattle.fdp_flash.specs.declared.cell.Cell.{Cell}
use Rattle.fdp_flash.proofs.Lists.{slice_get-set_other, slice_get-set_same}
use Rattle.fdp_image.specs.Areas.{data_pages}
use Rattle.fdp_image.specs.Checkpoint.{page_in_lists, reading_of_state}
use Rattle.fdp_image.specs.Reading.{Reading}
use Rattle.fdp_snapshot.specs.declared.state.State.{State}
use Rattle.fdp_state.specs.Parts.{row}
use Rattle.fdp_state.proofs.Listing.{listed-id}
use Rattle.fdp_state.proofs.Places.{id_is}
use Rattle.fdp_recovery.specs.Blocks.{AreKept, IsBefore, IsFirstUnkept, StandApart, holds, is_kept}
use Rattle.fdp_recovery.specs.Walking.{AreKeptBefore, AreMarks, StandsBefore, marked_in}
use Rattle.fdp_recovery.proofs.Sound.{kept_once}

less_true : (a b : ℕ) → a < b → nat_lt a b ≡ true
less_true a b h = grind (arith, nat_tests)

less_false : (a b : ℕ) → b ≤ a → nat_lt a b ≡ false
less_false a b h = grind (arith, nat_tests)

-- ---- one page

-- no data page
not_data : (c : DriveConfig) (cells : List Cell) (r : Reading) (nsid lba page : ℕ) → data_pages (geometry_of c) ≤ page → is_kept c cells r nsid lba page ≡ false
not_data c cells r nsid lba page past = ap (λ (b : Bool). b && option_map_or (holds c r nsid lba page) (slice_get cells page) false) (less_false page (data_pages (geometry_of c)) past)

-- a data page is kept by its cell
pub by_cell : (c : DriveConfig) (cells : List Cell) (r : Reading) (nsid lba page : ℕ) (cell : Cell) → page < data_pages (geometry_of c) → slice_get cells page ≡ Some cell → holds c r nsid lba page cell ≡ is_kept c cells r nsid lba page
by_cell c cells r nsid lba page cell small at =
    sym (ap (λ (b : Bool). b && option_map_or (holds c r nsid lba page) (slice_get cells page) false) (less_true page (data_pages (geometry_of c)) small)
    ∙ ap (λ (o : Option Cell). option_map_or (holds c r nsid lba page) o false) at)

-- a block that there is has an entry in the list
pub entry_is : (s : State) (nsid lba : ℕ) (rows : List (Option ℕ)) → row rows lba ≡ page_in_lists s.pages nsid lba → (reading_of_state s).pages nsid lba ≡ row rows lba
unfolding reading_of_state
entry_is s nsid lba rows e = sym e

-- the list is that of the state
pub rows_of : (s : State) (nsid : ℕ) (lists : List (List (Option ℕ))) (rows : List (Option ℕ)) → ((l : ℕ) → row rows l ≡ page_in_lists lists nsid l) → lists ≡ s.pages → (l : ℕ) → row rows l ≡ page_in_lists s.pages nsid l
rows_of s nsid lists rows e same l = e l ∙ ap (λ (xs : List (List (Option ℕ))). page_in_lists xs nsid l) same

-- behind the list there are none
pub past_list : (s : State) (nsid lba : ℕ) (rows : List (Option ℕ)) → ((l : ℕ) → row rows l ≡ page_in_lists s.pages nsid l) → length rows ≤ lba → (l : ℕ) → lba ≤ l → (reading_of_state s).pages nsid l ≡ None
unfolding reading_of_state
past_list s nsid lba rows e past l le = sym (e l) ∙ ap (option_and_then (λ (x : Option ℕ). x)) (slice_get_past rows l (omega (arith, past, le)))

-- ---- the order of the blocks

-- the blocks before the next one are those before this one, and this one
pub before-next : (n l nsid lba : ℕ) → IsBefore n l nsid (lba + 1) → IsBefore n l nsid lba ⊎ ((n ≡ nsid) × (l ≡ lba))
before-next n l nsid lba (inl low) = inl (inl low)
before-next n l nsid lba (inr h) =
    ⊎_elim (λ (low : l < lba). inl (inr (h.0, low))) (λ (high : lba ≤ l). let same : l ≡ lba = omega (arith, high, h.1) in inr (h.0, same)) (cases_lt l lba)

pub before-more : (n l nsid lba : ℕ) → IsBefore n l nsid lba → IsBefore n l nsid (lba + 1)
before-more n l nsid lba (inl low) = inl low
before-more n l nsid lba (inr h) = inr (h.0, omega (arith, h.1))

-- those before the next namespace are those before any address of this one, and those behind that
pub before-row : (n l nsid lba : ℕ) → IsBefore n l (nsid + 1) 0 → IsBefore n l nsid lba ⊎ ((n ≡ nsid) × (lba ≤ l))
before-row n l nsid lba (inl low) =
    ⊎_elim
    (λ (lower : n < nsid). inl (inl lower))
    (λ (high : nsid ≤ n).
    let same : n ≡ nsid = omega (arith, high, low) in
    ⊎_elim (λ (first : l < lba). inl (inr (same, first))) (λ (behind : lba ≤ l). inr (same, behind)) (cases_lt l lba))
    (cases_lt n nsid)
before-row n l nsid lba (inr h) = absurd (omega (arith, h.1))

pub before-all-row : (n l nsid lba : ℕ) → IsBefore n l nsid lba → IsBefore n l (nsid + 1) 0
before-all-row n l nsid lba (inl low) = inl (omega (arith, low))
before-all-row n l nsid lba (inr h) = inl (omega (arith, h.0))

pub never-before : (nsid lba : ℕ) → IsBefore nsid lba nsid lba → ⊥
never-before nsid lba (inl low) = omega (arith, low)
never-before nsid lba (inr h) = omega (arith, h.1)

-- ---- the namespaces

-- a block that has a page is of one of the sixteen namespaces
pub record IsOfSixteen (nsid : ℕ) : Type 0 where
  pub least : 1 ≤ nsid
  pub most : nsid < 17

pub of_sixteen : (s : State) (nsid lba page : ℕ) → (reading_of_state s).pages nsid lba ≡ Some page → IsOfSixteen nsid
unfolding reading_of_state
of_sixteen s nsid lba page there = let id = id_is nsid (listed-id s.pages nsid lba page there) in record { least = id.0; most = omega (arith, id.1) }

pub none-before : (s : State) (n l page : ℕ) → IsBefore n l 1 0 → (reading_of_state s).pages n l ≡ Some page → ⊥
none-before s n l page (inl low) there = let is = of_sixteen s n l page there in omega (arith, is.least, low)
none-before s n l page (inr h) there = omega (arith, h.1)

pub all-before : (s : State) (n l page nsid : ℕ) → 17 ≤ nsid → (reading_of_state s).pages n l ≡ Some page → IsBefore n l nsid 0
all-before s n l page nsid past there = let is = of_sixteen s n l page there in inl (omega (arith, is.most, past))

-- ---- blocks that are kept

pub kept-first : (c : DriveConfig) (cells : List Cell) (s : State) → AreKeptBefore c cells (reading_of_state s) 1 0
kept-first c cells s n l page before there = absurd (none-before s n l page before there)

-- a block that is kept, or that has no page
pub kept-next : (c : DriveConfig) (cells : List Cell) (r : Reading) (nsid lba : ℕ) → AreKeptBefore c cells r nsid lba → ((page : ℕ) → r.pages nsid lba ≡ Some page → IsTrue (is_kept c cells r nsid lba page))
    → AreKeptBefore c cells r nsid (lba + 1)
kept-next c cells r nsid lba h here n l page before there = of_place (before-next n l nsid lba before) where
  of_place : IsBefore n l nsid lba ⊎ ((n ≡ nsid) × (l ≡ lba)) → IsTrue (is_kept c cells r n l page)
  of_place (inl earlier) = h n l page earlier there
  of_place (inr same) =
      let at : r.pages nsid lba ≡ Some page = ap (λ (k : ℕ). r.pages k lba) (sym same.0) ∙ ap (r.pages n) (sym same.1) ∙ there in
      subst (λ (k : ℕ). IsTrue (is_kept c cells r k l page)) (sym same.0) (subst (λ (k : ℕ). IsTrue (is_kept c cells r nsid k page)) (sym same.1) (here page at))

pub kept-here : (c : DriveConfig) (cells : List Cell) (r : Reading) (nsid lba page : ℕ) → AreKeptBefore c cells r nsid lba → r.pages nsid lba ≡ Some page → IsTrue (is_kept c cells r nsid lba page) → AreKeptBefore c cells r nsid (lba + 1)
kept-here c cells r nsid lba page h there kept =
    kept-next c cells r nsid lba h (λ p at. let e : Some page ≡ Some p = sym there ∙ at in let same : page ≡ p = cc in subst (λ (q : ℕ). IsTrue (is_kept c cells r nsid lba q)) same kept)

pub kept-row : (c : DriveConfig) (cells : List Cell) (r : Reading) (nsid lba : ℕ) → ((l : ℕ) → lba ≤ l → r.pages nsid l ≡ None) → AreKeptBefore c cells r nsid lba → AreKeptBefore c cells r (nsid + 1) 0
kept-row c cells r nsid lba none h n l page before there = of_place (before-row n l nsid lba before) where
  of_place : IsBefore n l nsid lba ⊎ ((n ≡ nsid) × (lba ≤ l)) → IsTrue (is_kept c cells r n l page)
  of_place (inl earlier) = h n l page earlier there
  of_place (inr same) = let e : None ≡ Some page = sym (none l same.1) ∙ ap (λ (k : ℕ). r.pages k l) (sym same.0) ∙ there in absurd cc

pub kept-all : (c : DriveConfig) (cells : List Cell) (s : State) (nsid : ℕ) → 17 ≤ nsid → AreKeptBefore c cells (reading_of_state s) nsid 0 → AreKept c cells (reading_of_state s)
kept-all c cells s nsid past h n l page there = h n l page (all-before s n l page nsid past there) there

-- the first that is not kept
pub first-here : (c : DriveConfig) (cells : List Cell) (r : Reading) (nsid lba page : ℕ) → AreKeptBefore c cells r nsid lba → r.pages nsid lba ≡ Some page → is_kept c cells r nsid lba page ≡ false → IsFirstUnkept c cells r page
first-here c cells r nsid lba page h there unkept = record { nsid = nsid; lba = lba; there = there; unkept = unkept; before = λ n l p at earlier. h n l p earlier at }

-- a block whose page is no data page, or that of a block before it that is kept, is not kept
none-within : {X : Type 0} (xs : List X) (k : ℕ) → k < length xs → slice_get xs k ≢ None
none-within [] k low e = omega (arith, low)
none-within (x ∷ xs) zero low e = cc
none-within (x ∷ xs) (suc k) low e = none-within xs k (omega (arith, low)) e

pub unkept-again : (c : DriveConfig) (cells : List Cell) (r : Reading) (nsid lba page : ℕ) (marks : List Bool) → AreMarks c r nsid lba marks → AreKeptBefore c cells r nsid lba → slice_get marks page ≢ Some false
    → is_kept c cells r nsid lba page ≡ false
unkept-again c cells r nsid lba page marks m h again = of_mark (slice_get marks page) refl where
  of_test : slice_get marks page ≡ Some true → (b : Bool) → is_kept c cells r nsid lba page ≡ b → is_kept c cells r nsid lba page ≡ false
  of_test at false is = is
  of_test at true is =
      let s = m.stands page at in
      let one = kept_once c cells r s.n s.l nsid lba page (h s.n s.l page s.before s.there) is in
      absurd (never-before nsid lba (subst (λ (k : ℕ). IsBefore k lba nsid lba) one.0 (subst (λ (k : ℕ). IsBefore s.n k nsid lba) one.1 s.before)))

  of_mark : (o : Option Bool) → slice_get marks page ≡ o → is_kept c cells r nsid lba page ≡ false
  of_mark None is =
      ⊎_elim
      (λ (low : page < length marks). absurd (none-within marks page low is))
      (λ (past : length marks ≤ page). not_data c cells r nsid lba page (omega (arith, past, m.size)))
      (cases_lt page (length marks))
  of_mark (Some true) is = of_test is (is_kept c cells r nsid lba page) refl
  of_mark (Some false) is = absurd (again is)

-- ---- marks

pub page-within : (c : DriveConfig) (r : Reading) (nsid lba page : ℕ) (marks : List Bool) → AreMarks c r nsid lba marks → slice_get marks page ≡ Some false → page < data_pages (geometry_of c)
page-within c r nsid lba page marks m first = let within = slice_get_within marks page false first in omega (arith, within, m.size)

all-unmarked : (n page : ℕ) → slice_get (replicate n false) page ≢ Some true
all-unmarked zero page e = cc
all-unmarked (suc n) zero e = cc
all-unmarked (suc n) (suc page) e = all-unmarked n page e

as-many : (n : ℕ) → length (replicate n false) ≡ n
as-many zero = refl
as-many (suc n) = ap suc (as-many n)

pub marks-first : (c : DriveConfig) (s : State) (marks : List Bool) → marks ≡ replicate (data_pages (geometry_of c)) false → AreMarks c (reading_of_state s) 1 0 marks
marks-first c s marks none = record {
  size = ap length none ∙ as-many (data_pages (geometry_of c));
  marked = λ n l page before there. absurd (none-before s n l page before there);
  stands = λ page at. absurd (all-unmarked (data_pages (geometry_of c)) page (sym (ap (λ (xs : List Bool). slice_get xs page) none) ∙ at));
  apart = λ n l m k page before other there at. absurd (none-before s n l page before there);
}

stands-more : (r : Reading) (nsid lba page : ℕ) → StandsBefore r nsid lba page → StandsBefore r nsid (lba + 1) page
stands-more r nsid lba page h = record { n = h.n; l = h.l; before = before-more h.n h.l nsid lba h.before; there = h.there }

-- a block without a page
pub marks-none : (c : DriveConfig) (r : Reading) (nsid lba : ℕ) (marks : List Bool) → r.pages nsid lba ≡ None → AreMarks c r nsid lba marks → AreMarks c r nsid (lba + 1) marks
marks-none c r nsid lba marks none h = record {
  size = h.size;
  marked = λ n l page before there. h.marked n l page (earlier n l page there (before-next n l nsid lba before)) there;
  stands = λ page at. stands-more r nsid lba page (h.stands page at);
  apart = λ n l m k page before other there at.
      h.apart n l m k page (earlier n l page there (before-next n l nsid lba before)) (earlier m k page at (before-next m k nsid lba other)) there at;
} where
  earlier : (n l page : ℕ) → r.pages n l ≡ Some page → IsBefore n l nsid lba ⊎ ((n ≡ nsid) × (l ≡ lba)) → IsBefore n l nsid lba
  earlier n l page there (inl is) = is
  earlier n l page there (inr same) = let e : None ≡ Some page = sym none ∙ ap (λ (k : ℕ). r.pages k lba) (sym same.0) ∙ ap (r.pages n) (sym same.1) ∙ there in absurd cc

-- a block with a page that was not marked
pub marks-more : (c : DriveConfig) (r : Reading) (nsid lba page : ℕ) (marks : List Bool) → r.pages nsid lba ≡ Some page → slice_get marks page ≡ Some false → AreMarks c r nsid lba marks
    → AreMarks c r nsid (lba + 1) (set marks page true)
marks-more c r nsid lba page marks here first h = record {
  size = length-set marks page true ∙ h.size;
  marked = λ n l p before there. marked n l p there (before-next n l nsid lba before);
  stands = λ p at. stands p at;
  apart = λ n l m k p before other there at. apart n l m k p there at (before-next n l nsid lba before) (before-next m k nsid lba other);
} where
  within : page < length marks
  within = slice_get_within marks page false first

  -- the page of a block before this one is marked, so it is another
  other-page : (n l : ℕ) → IsBefore n l nsid lba → r.pages n l ≢ Some page
  other-page n l before there = let e : Some false ≡ Some true = sym first ∙ h.marked n l page before there in cc

  same-block : (n l p : ℕ) → r.pages n l ≡ Some p → (n ≡ nsid) × (l ≡ lba) → p ≡ page
  same-block n l p there same =
      let e : Some p ≡ Some page = sym (ap (λ (k : ℕ). r.pages k lba) (sym same.0) ∙ ap (r.pages n) (sym same.1) ∙ there) ∙ here in
      cc

  marked : (n l p : ℕ) → r.pages n l ≡ Some p → IsBefore n l nsid lba ⊎ ((n ≡ nsid) × (l ≡ lba)) → slice_get (set marks page true) p ≡ Some true
  marked n l p there (inl before) =
      let ne : p ≢ page = λ (e : p ≡ page). other-page n l before (there ∙ ap Some e) in
      slice_get-set_other marks page p true ne ∙ h.marked n l p before there
  marked n l p there (inr same) = ap (slice_get (set marks page true)) (same-block n l p there same) ∙ slice_get-set_same marks page true within

  stands : (p : ℕ) → slice_get (set marks page true) p ≡ Some true → StandsBefore r nsid (lba + 1) p
  stands p at =
      ⊎_elim
      (λ (e : (p == page ≡ true) × (p ≡ page)). record { n = nsid; l = lba; before = inr (refl, omega arith); there = here ∙ ap Some (sym e.1) })
      (λ (e : (p == page ≡ false) × (p ≢ page)). stands-more r nsid lba p (h.stands p (sym (slice_get-set_other marks page p true e.1) ∙ at)))
      (eqb_tells p page)

  apart : (n l m k p : ℕ) → r.pages n l ≡ Some p → r.pages m k ≡ Some p → IsBefore n l nsid lba ⊎ ((n ≡ nsid) × (l ≡ lba)) → IsBefore m k nsid lba ⊎ ((m ≡ nsid) × (k ≡ lba)) → (n ≡ m) × (l ≡ k)
  apart n l m k p there at (inl a) (inl b) = h.apart n l m k p a b there at
  apart n l m k p there at (inl a) (inr b) = absurd (other-page n l a (there ∙ ap Some (same-block m k p at b)))
  apart n l m k p there at (inr a) (inl b) = absurd (other-page m k b (at ∙ ap Some (same-block n l p there a)))
  apart n l m k p there at (inr a) (inr b) = (a.0 ∙ sym b.0, a.1 ∙ sym b.1)

pub marks-row : (c : DriveConfig) (r : Reading) (nsid lba : ℕ) (marks : List Bool) → ((l : ℕ) → lba ≤ l → r.pages nsid l ≡ None) → AreMarks c r nsid lba marks → AreMarks c r (nsid + 1) 0 marks
marks-row c r nsid lba marks none h = record {
  size = h.size;
  marked = λ n l page before there. h.marked n l page (earlier n l page there (before-row n l nsid lba before)) there;
  stands = λ page at. let s = h.stands page at in record { n = s.n; l = s.l; before = before-all-row s.n s.l nsid lba s.before; there = s.there };
  apart = λ n l m k page before other there at.
      h.apart n l m k page (earlier n l page there (before-row n l nsid lba before)) (earlier m k page at (before-row m k nsid lba other)) there at;
} where
  earlier : (n l page : ℕ) → r.pages n l ≡ Some page → IsBefore n l nsid lba ⊎ ((n ≡ nsid) × (lba ≤ l)) → IsBefore n l nsid lba
  earlier n l page there (inl is) = is
  earlier n l page there (inr same) = let e : None ≡ Some page = sym (none l same.1) ∙ ap (λ (k : ℕ). r.pages k l) (sym same.0) ∙ there in absurd cc

pub marks-all : (c : DriveConfig) (s : State) (nsid : ℕ) (marks : List Bool) → 17 ≤ nsid → AreMarks c (reading_of_state s) nsid 0 marks → StandApart c (reading_of_state s)
marks-all c s nsid marks past h = record {
  places = λ n l page there. let at = h.marked n l page (all-before s n l page nsid past there) there in omega (arith, slice_get_within marks page true at, h.size);
  apart = λ n l m k page there at. h.apart n l m k page (all-before s n l page nsid past there) (all-before s m k page nsid past at) there at;
}

-- ---- how many are marked

pub marked-more : (marks : List Bool) (page : ℕ) → slice_get marks page ≡ Some false → marked_in (set marks page true) ≡ marked_in marks + 1
marked-more marks page at =
    let within = slice_get_within marks page false at in
    let off : get_or marks page false ≡ false = get_or_from_slice_get marks page false false at in
    let e = sum_by-set (λ (x : Bool). if x then 1 else 0) marks page true false within in
    let one : Bool → ℕ = λ (b : Bool). if b then 1 else 0 in
    let none : one (get_or marks page false) ≡ one false = ap one off in
    omega (arith, e, none)

pub marked-most : (marks : List Bool) → marked_in marks ≤ length marks
marked-most marks = count_by-le-length (λ (x : Bool). x) marks
