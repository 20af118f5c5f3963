-- What the programming of the next page of the journal may leave of what an image reads as.
use Rattle.std.proofs.Common.{◌≡◌, ℕ, zero, suc, ◌+◌, ◌<◌, ◌≤◌, ◌⊎◌, Bool, true, false, List, [], ◌∷◌, ◌++◌, length, set, drop, take, Option, Some, None, refl, sym, ap, subst, ◌∙◌, arith, inl, inr, ⊎_elim}
use Rattle.std.specs.Prelude.{IsTrue, if◌then◌else◌, nat_lt, option_map, slice_get}
use Rattle.std.proofs.lemmas.Bool.{cases_Bool}
use Rattle.std.proofs.lemmas.List.{append-nil, append_assoc, drop-set-add, drop-set-lt, length-append, length-drop, length-set, length-take-le, take-set-le}
use Rattle.std.proofs.lemmas.List.Sums.{fold-append}
use Rattle.std.proofs.lemmas.Slice.Eq.{bytes_eq-Decides}
use Rattle.std.specs.List.{concat}
use Rattle.std.specs.Option.{option_and_then}
use Rattle.fdp_base.specs.declared.config.DriveConfig.{DriveConfig}
use Rattle.fdp_base.specs.declared.config.Geometry.{Geometry}
use Rattle.fdp_base.specs.declared.entry.Spot.{Spot}
use Rattle.fdp_base.specs.declared.entry.Totals.{Totals}
use Rattle.fdp_base.specs.Geometry.{all_pages, area_pages}
use Rattle.fdp_base.specs.Placement.{geometry_of}
use Rattle.fdp_flash.specs.declared.cell.Cell.{Cell}
use Rattle.fdp_flash.specs.declared.cell.Cell.TheVariants.{Blank, Torn, Whole}
use Rattle.fdp_flash.specs.Cells.{IsProgrammed, ProgramMayLeave}
use Rattle.fdp_flash.specs.Layout.{first_page, page_number}
use Rattle.fdp_records.specs.declared.change.Change.{Change}
use Rattle.fdp_records.specs.declared.spare.Stamp.{Stamp}
use Rattle.fdp_records.specs.declared.spare.SystemKind.TheVariants.{Journal}
use Rattle.fdp_records.specs.Reading.{decoded}
use Rattle.fdp_records.specs.Spares.{system_spare}
use Rattle.fdp_image.specs.Applied.{applied, with_changes}
use Rattle.fdp_image.specs.Areas.{Sealed, area_of, area_unit, current_area, data_pages, later_of, page_bytes, sealed_in}
use Rattle.fdp_image.specs.Checkpoint.{said_by_checkpoint}
use Rattle.fdp_image.specs.Fits.{all_fit, fits}
use Rattle.fdp_image.specs.Reading.{Reading}
use Rattle.fdp_image.specs.Reads.{changes_in, is_checkpoint_of, is_sound_checkpoint, next_page, reads_as, said_by_area, said_by_current, told_by}
use Rattle.fdp_image.specs.Saving.{CanGoOn, IsCurrent, IsNextRecord, IsSavedIn, ReadsWithOrWithout}
use Rattle.fdp_image.proofs.Fitting.{all_fit-append, said_by-made, said_by-parts}
use Rattle.fdp_image.proofs.Journaling.{journal_grows, journal_stays, slice_get-set_other}
use Rattle.fdp_image.proofs.Leading.{whole_page}

-- ---- the areas

take-set : (n k : ℕ) (xs : List Cell) (y : Cell) → take n (set xs k y) ≡ set (take n xs) k y
take-set zero zero xs y = refl
take-set zero (suc k) xs y = refl
take-set (suc n) zero [] y = refl
take-set (suc n) (suc k) [] y = refl
take-set (suc n) zero (x ∷ xs) y = refl
take-set (suc n) (suc k) (x ∷ xs) y = ap (λ (ys : List Cell). x ∷ ys) (take-set n k xs y)

-- a page of an area that is set is a page of it
pub area_set : (g : Geometry) (area k : ℕ) (cells : List Cell) (cell : Cell) → area_of g area (set cells (first_page g (area_unit g area) + k) cell) ≡ set (area_of g area cells) k cell
unfolding area_of
area_set g area k cells cell =
    let first = first_page g (area_unit g area) in
    ap (take (area_pages g)) (drop-set-add first cells k cell) ∙ take-set (area_pages g) k (drop first cells) cell

second_first : (g : Geometry) → first_page g (area_unit g 1) ≡ first_page g (area_unit g 0) + area_pages g
second_first g = grind arith

-- and of none of the other
pub second_kept : (g : Geometry) (k : ℕ) (cells : List Cell) (cell : Cell) → k < area_pages g → area_of g 1 (set cells (first_page g (area_unit g 0) + k) cell) ≡ area_of g 1 cells
unfolding area_of
second_kept g k cells cell lt =
    let e = second_first g in
    ap (take (area_pages g)) (drop-set-lt (first_page g (area_unit g 1)) cells (first_page g (area_unit g 0) + k) cell (omega arith))

pub first_kept : (g : Geometry) (k : ℕ) (cells : List Cell) (cell : Cell) → area_of g 0 (set cells (first_page g (area_unit g 1) + k) cell) ≡ area_of g 0 cells
unfolding area_of
first_kept g k cells cell =
    let n = area_pages g in
    let first = first_page g (area_unit g 0) in
    let e = second_first g in
    let place : first_page g (area_unit g 1) + k ≡ first + (n + k) = omega arith in
    ap (λ (p : ℕ). take n (drop first (set cells p cell))) place ∙ ap (take n) (drop-set-add first cells (n + k) cell) ∙ take-set-le n (drop first cells) (n + k) cell (omega arith)

pub area_long : (g : Geometry) (area : ℕ) (cells : List Cell) → area ≤ 1 → length cells ≡ all_pages g → length (area_of g area cells) ≡ area_pages g
unfolding area_of
area_long g area cells two size =
    let first = first_page g (area_unit g area) in
    let end : first + area_pages g ≤ length cells = ⊎_elim (λ (e : area ≡ 0). subst (λ (a : ℕ). first_page g (area_unit g a) + area_pages g ≤ length cells) (sym e) (grind (arith, size)))
    (λ (e : area ≡ 1). subst (λ (a : ℕ). first_page g (area_unit g a) + area_pages g ≤ length cells) (sym e) (grind (arith, size))) (zero_or_one area two) in
    length-take-le (area_pages g) (drop first cells) (omega (arith, length-drop first cells))
  where
    zero_or_one : (a : ℕ) → a ≤ 1 → (a ≡ 0) ⊎ (a ≡ 1)
    zero_or_one zero h = inl refl
    zero_or_one (suc zero) h = inr refl
    zero_or_one (suc (suc a)) h = absurd (omega arith)

-- ---- the current area

numbered : ℕ → Option Sealed → Option (ℕ × Sealed)
numbered area o = option_map (λ (x : Sealed). (area, x)) o

-- one of the areas is current, and stays so where it changes and keeps its version and epoch
record IsFirst (a b : Option Sealed) (n : ℕ) (s : Sealed) : Type 0 where
  number : n ≡ 0
  sealed : a ≡ Some s
  stays : (x : Sealed) → x.stamp ≡ s.stamp → later_of (numbered 0 (Some x)) (numbered 1 b) ≡ Some (n, x)

record IsSecond (a b : Option Sealed) (n : ℕ) (s : Sealed) : Type 0 where
  number : n ≡ 1
  sealed : b ≡ Some s
  stays : (x : Sealed) → x.stamp ≡ s.stamp → later_of (numbered 0 a) (numbered 1 (Some x)) ≡ Some (n, x)

which : (a b : Option Sealed) (n : ℕ) (s : Sealed) → later_of (numbered 0 a) (numbered 1 b) ≡ Some (n, s) → IsFirst a b n s ⊎ IsSecond a b n s
unfolding numbered
which None None n s e = absurd cc
which (Some x) None n s e =
    let is : (0, x) ≡ (n, s) = cc in
    let number : n ≡ 0 = sym (ap (λ (p : ℕ × Sealed). p.0) is) in
    let same : x ≡ s = ap (λ (p : ℕ × Sealed). p.1) is in
    inl (record { number = number; sealed = ap Some same; stays = λ y stamp. ap (λ (m : ℕ). Some (m, y)) (sym number) })
which None (Some x) n s e =
    let is : (1, x) ≡ (n, s) = cc in
    let number : n ≡ 1 = sym (ap (λ (p : ℕ × Sealed). p.0) is) in
    let same : x ≡ s = ap (λ (p : ℕ × Sealed). p.1) is in
    inr (record { number = number; sealed = ap Some same; stays = λ y stamp. ap (λ (m : ℕ). Some (m, y)) (sym number) })
which (Some x) (Some y) n s e = ⊎_elim later earlier (cases_Bool (nat_lt x.stamp.epoch y.stamp.epoch)) where
  later : nat_lt x.stamp.epoch y.stamp.epoch ≡ true → IsFirst (Some x) (Some y) n s ⊎ IsSecond (Some x) (Some y) n s
  later t =
      let is : Some (1, y) ≡ Some (n, s) = rw t at e in
      let pair : (1, y) ≡ (n, s) = cc in
      let number : n ≡ 1 = sym (ap (λ (p : ℕ × Sealed). p.0) pair) in
      let same : y ≡ s = ap (λ (p : ℕ × Sealed). p.1) pair in
      inr (record {
        number = number;
        sealed = ap Some same;
        stays = λ z stamp.
            let epoch : z.stamp.epoch ≡ y.stamp.epoch = ap (λ (w : Stamp). w.epoch) (stamp ∙ ap (λ (w : Sealed). w.stamp) (sym same)) in
            let test : nat_lt x.stamp.epoch z.stamp.epoch ≡ true = ap (nat_lt x.stamp.epoch) epoch ∙ t in
            rw test (ap (λ (m : ℕ). Some (m, z)) (sym number));
      })

  earlier : nat_lt x.stamp.epoch y.stamp.epoch ≡ false → IsFirst (Some x) (Some y) n s ⊎ IsSecond (Some x) (Some y) n s
  earlier t =
      let is : Some (0, x) ≡ Some (n, s) = rw t at e in
      let pair : (0, x) ≡ (n, s) = cc in
      let number : n ≡ 0 = sym (ap (λ (p : ℕ × Sealed). p.0) pair) in
      let same : x ≡ s = ap (λ (p : ℕ × Sealed). p.1) pair in
      inl (record {
        number = number;
        sealed = ap Some same;
        stays = λ z stamp.
            let epoch : z.stamp.epoch ≡ x.stamp.epoch = ap (λ (w : Stamp). w.epoch) (stamp ∙ ap (λ (w : Sealed). w.stamp) (sym same)) in
            let test : nat_lt z.stamp.epoch y.stamp.epoch ≡ false = ap (λ (m : ℕ). nat_lt m y.stamp.epoch) epoch ∙ t in
            rw test (ap (λ (m : ℕ). Some (m, z)) (sym number));
      })

-- ---- what the current area says

-- a page of one change tells it alone
pub told_one : (bytes : List ℕ) (x : Change × Totals) → decoded bytes ≡ Some x → told_by bytes ≡ Some (x ∷ [])
unfolding told_by
told_one bytes x e = ap (option_map (λ (y : Change × Totals). y ∷ [])) e

pub told_none : (bytes : List ℕ) → decoded bytes ≡ None → told_by bytes ≡ None
unfolding told_by
told_none bytes e = ap (option_map (λ (y : Change × Totals). y ∷ [])) e

-- a journal with a page more tells what it told, and then what the page tells
pub told-push : (pages : List (List ℕ)) (page : List ℕ) (changes more : List (Change × Totals)) → changes_in pages ≡ Some changes → told_by page ≡ Some more → changes_in (pages ++ page ∷ []) ≡ Some (changes ++ more)
unfolding changes_in
told-push [] page changes more told one =
    let none : [] ≡ changes = cc in
    ap (option_and_then (λ (xs : List (Change × Totals)). Some (xs ++ []))) one ∙ ap Some (append-nil more) ∙ ap (λ (xs : List (Change × Totals)). Some (xs ++ more)) none
told-push (first ∷ pages) page changes more told one = of_first (told_by first) refl told (λ rest is. told-push pages page rest more is one) where
  of_rest : (xs : List (Change × Totals)) → told_by first ≡ Some xs → (o : Option (List (Change × Totals))) → changes_in pages ≡ o → option_map (λ ys. xs ++ ys) o ≡ Some changes
      → ((rest : List (Change × Totals)) → changes_in pages ≡ Some rest → changes_in (pages ++ page ∷ []) ≡ Some (rest ++ more)) → changes_in (first ∷ (pages ++ page ∷ [])) ≡ Some (changes ++ more)
  of_rest xs first_is None is h again = absurd cc
  of_rest xs first_is (Some rest) is h again =
      let whole : xs ++ rest ≡ changes = cc in
      ap (option_and_then (λ (ys : List (Change × Totals)). option_map (λ (zs : List (Change × Totals)). ys ++ zs) (changes_in (pages ++ page ∷ [])))) first_is
      ∙ ap (option_map (λ (zs : List (Change × Totals)). xs ++ zs)) (again rest is)
      ∙ ap Some (sym (append_assoc xs rest more) ∙ ap (λ (ys : List (Change × Totals)). ys ++ more) whole)

  of_first : (o : Option (List (Change × Totals))) → told_by first ≡ o → option_and_then (λ xs. option_map (λ ys. xs ++ ys) (changes_in pages)) o ≡ Some changes
      → ((rest : List (Change × Totals)) → changes_in pages ≡ Some rest → changes_in (pages ++ page ∷ []) ≡ Some (rest ++ more)) → changes_in (first ∷ (pages ++ page ∷ [])) ≡ Some (changes ++ more)
  of_first None is h again = absurd cc
  of_first (Some xs) is h again = of_rest xs is (changes_in pages) refl h again

abbrev first_of : Sealed → Reading
first_of s = said_by_checkpoint (concat s.checkpoint)

abbrev with_page : Sealed → List ℕ → Sealed
with_page s bytes = record s { journal = s.journal ++ bytes ∷ [] }

-- an area says with a page more, whose changes fit what it said, that with the changes
said_with : (c : DriveConfig) (s : Sealed) (r : Reading) (bytes : List ℕ) (xs : List (Change × Totals)) → said_by_area c s ≡ Some r → IsTrue (all_fit fits c r xs) → told_by bytes ≡ Some xs
    → said_by_area c (with_page s bytes) ≡ Some (with_changes c r xs)
unfolding is_sound_checkpoint is_checkpoint_of
said_with c s r bytes xs said fit told =
    let h = said_by-parts c s r said in
    let first = first_of s in
    said_by-made c (with_page s bytes) (with_changes c r xs) (record {
      sound = h.sound;
      changes = h.changes ++ xs;
      told = told-push s.journal bytes h.changes xs h.told told;
      after = record {
        fit = all_fit-append fits c first h.changes xs h.after.fit (subst (λ (a : Reading). IsTrue (all_fit fits c a xs)) (sym h.after.said) fit);
        said = fold-append (applied c) first h.changes xs ∙ ap (λ (a : Reading). with_changes c a xs) h.after.said;
      };
    })

-- ---- the image

no_page : (number : ℕ) (t : Stamp) (cell : Cell) → (cell ≡ Blank) ⊎ (cell ≡ Torn) → page_bytes Journal number t cell ≡ None
unfolding page_bytes
no_page number t cell (inl e) = ap (page_bytes Journal number t) e
no_page number t cell (inr e) = ap (page_bytes Journal number t) e

-- the areas of the cells, one of which is current, once the page behind its journal is set
area_read : (g : Geometry) (cells : List Cell) (number : ℕ) (s z : Sealed) (cell : Cell) → current_area g cells ≡ Some (number, s) → next_page s < area_pages g → z.stamp ≡ s.stamp
    → (sealed_in (area_of g number cells) ≡ Some s → sealed_in (set (area_of g number cells) (next_page s) cell) ≡ Some z)
    → current_area g (set cells (first_page g (area_unit g number) + next_page s) cell) ≡ Some (number, z)
unfolding current_area numbered
area_read g cells number s z cell current room stamp grows = ⊎_elim first second (which (sealed_in (area_of g 0 cells)) (sealed_in (area_of g 1 cells)) number s current) where
  first : IsFirst (sealed_in (area_of g 0 cells)) (sealed_in (area_of g 1 cells)) number s → current_area g (set cells (first_page g (area_unit g number) + next_page s) cell) ≡ Some (number, z)
  first h =
      let k = next_page s in
      let here : sealed_in (area_of g number cells) ≡ Some s = ap (λ (a : ℕ). sealed_in (area_of g a cells)) h.number ∙ h.sealed in
      let done : sealed_in (set (area_of g 0 cells) k cell) ≡ Some z = sym (ap (λ (a : ℕ). sealed_in (set (area_of g a cells) k cell)) h.number) ∙ grows here in
      let place : set cells (first_page g (area_unit g number) + k) cell ≡ set cells (first_page g (area_unit g 0) + k) cell = ap (λ (a : ℕ). set cells (first_page g (area_unit g a) + k) cell) h.number in
      let one : sealed_in (area_of g 0 (set cells (first_page g (area_unit g 0) + k) cell)) ≡ Some z = ap sealed_in (area_set g 0 k cells cell) ∙ done in
      let other : sealed_in (area_of g 1 (set cells (first_page g (area_unit g 0) + k) cell)) ≡ sealed_in (area_of g 1 cells) = ap sealed_in (second_kept g k cells cell room) in
      ap (current_area g) place
      ∙ ap (λ (o : Option Sealed). later_of (numbered 0 o) (numbered 1 (sealed_in (area_of g 1 (set cells (first_page g (area_unit g 0) + k) cell))))) one
      ∙ ap (λ (o : Option Sealed). later_of (numbered 0 (Some z)) (numbered 1 o)) other
      ∙ h.stays z stamp

  second : IsSecond (sealed_in (area_of g 0 cells)) (sealed_in (area_of g 1 cells)) number s → current_area g (set cells (first_page g (area_unit g number) + next_page s) cell) ≡ Some (number, z)
  second h =
      let k = next_page s in
      let here : sealed_in (area_of g number cells) ≡ Some s = ap (λ (a : ℕ). sealed_in (area_of g a cells)) h.number ∙ h.sealed in
      let done : sealed_in (set (area_of g 1 cells) k cell) ≡ Some z = sym (ap (λ (a : ℕ). sealed_in (set (area_of g a cells) k cell)) h.number) ∙ grows here in
      let place : set cells (first_page g (area_unit g number) + k) cell ≡ set cells (first_page g (area_unit g 1) + k) cell = ap (λ (a : ℕ). set cells (first_page g (area_unit g a) + k) cell) h.number in
      let one : sealed_in (area_of g 1 (set cells (first_page g (area_unit g 1) + k) cell)) ≡ Some z = ap sealed_in (area_set g 1 k cells cell) ∙ done in
      let other : sealed_in (area_of g 0 (set cells (first_page g (area_unit g 1) + k) cell)) ≡ sealed_in (area_of g 0 cells) = ap sealed_in (first_kept g k cells cell) in
      ap (current_area g) place
      ∙ ap (λ (o : Option Sealed). later_of (numbered 0 o) (numbered 1 (sealed_in (area_of g 1 (set cells (first_page g (area_unit g 1) + k) cell))))) other
      ∙ ap (λ (o : Option Sealed). later_of (numbered 0 (sealed_in (area_of g 0 cells))) (numbered 1 o)) one
      ∙ h.stays z stamp

pub number_small : (g : Geometry) (cells : List Cell) (number : ℕ) (s : Sealed) → current_area g cells ≡ Some (number, s) → number ≤ 1
unfolding current_area numbered
number_small g cells number s current = ⊎_elim (λ h. omega (arith, h.number)) (λ h. omega (arith, h.number)) (which (sealed_in (area_of g 0 cells)) (sealed_in (area_of g 1 cells)) number s current)

-- the current area is sealed
pub current_sealed : (g : Geometry) (cells : List Cell) (number : ℕ) (s : Sealed) → current_area g cells ≡ Some (number, s) → sealed_in (area_of g number cells) ≡ Some s
unfolding current_area numbered
current_sealed g cells number s current =
    ⊎_elim (λ h. ap (λ (a : ℕ). sealed_in (area_of g a cells)) h.number ∙ h.sealed) (λ h. ap (λ (a : ℕ). sealed_in (area_of g a cells)) h.number ∙ h.sealed)
    (which (sealed_in (area_of g 0 cells)) (sealed_in (area_of g 1 cells)) number s current)

-- what an image reads as whose current area is known
pub read_by : (c : DriveConfig) (cells : List Cell) (number : ℕ) (s : Sealed) → current_area (geometry_of c) cells ≡ Some (number, s) → reads_as c cells ≡ said_by_area c s
unfolding reads_as said_by_current
read_by c cells number s current = ap (said_by_current c cells) current

-- a program of the page behind the journal leaves an image that reads as before, or with the change
pub next_record_reads : (c : DriveConfig) (cells : List Cell) (r : Reading) (at : Spot) (spare bytes : List ℕ) (xs : List (Change × Totals)) (image : List Cell)
    → length cells ≡ all_pages (geometry_of c) → reads_as c cells ≡ Some r → IsTrue (all_fit fits c r xs) → IsNextRecord c cells at spare bytes xs → ProgramMayLeave (geometry_of c) cells at spare bytes image
    → ReadsWithOrWithout c cells r xs image
next_record_reads c cells r at spare bytes xs image size read fit next left =
    let g = geometry_of c in
    let s = next.area in
    let number = next.number in
    let room : next_page s < area_pages g = next.room in
    let long : next_page s < length (area_of g number cells) = omega (arith, area_long g number cells (number_small g cells number s next.current) size) in
    let said : said_by_area c s ≡ Some r = sym (read_by c cells number s next.current) ∙ read in
    let place : image ≡ set cells (first_page g (area_unit g number) + next_page s) left.cell = left.cells ∙ ap (λ (k : ℕ). set cells k left.cell) next.place in
    let same : page_bytes Journal (length s.journal) s.stamp left.cell ≡ None → reads_as c image ≡ Some r =
    λ none. ap (reads_as c) place ∙ read_by c (set cells (first_page g (area_unit g number) + next_page s) left.cell) number s
    (area_read g cells number s s left.cell next.current room refl (λ sealed. journal_stays (area_of g number cells) s left.cell sealed long none)) ∙ said in
    let more : left.cell ≡ Whole spare bytes → reads_as c image ≡ Some (with_changes c r xs) =
    λ whole.
    let page : page_bytes Journal (length s.journal) s.stamp left.cell ≡ Some bytes =
    ap (page_bytes Journal (length s.journal) s.stamp) (whole ∙ ap (λ (sp : List ℕ). Whole sp bytes) next.spare_is) ∙ whole_page Journal (length s.journal) s.stamp bytes in
    ap (reads_as c) place ∙ read_by c (set cells (first_page g (area_unit g number) + next_page s) left.cell) number (with_page s bytes)
    (area_read g cells number s (with_page s bytes) left.cell next.current room refl (λ sealed. journal_grows (area_of g number cells) s left.cell bytes sealed long next.blank page))
    ∙ said_with c s r bytes xs said fit next.told in
    record {
      reads = elim left.page [
        | inl blank ↦ inl (same (no_page (length s.journal) s.stamp left.cell (inl blank)))
        | inr other ↦ elim other [ inl torn ↦ inl (same (no_page (length s.journal) s.stamp left.cell (inr torn))) | inr whole ↦ inr (more whole) ]
      ];
      data_pages_same = λ page lt.
          ap (λ (cs : List Cell). slice_get cs page) place
          ∙ slice_get-set_other cells (first_page g (area_unit g number) + next_page s) page left.cell (behind_data g number (next_page s) page lt);
    }
  where
    behind_data : (g : Geometry) (number k page : ℕ) → page < data_pages g → page < first_page g (area_unit g number) + k
    behind_data g number k page lt = grind (arith, lt)

-- whatever the program of the page behind the journal leaves, its area stays current
pub next_page_current : (g : Geometry) (cells : List Cell) (number : ℕ) (s : Sealed) (at : Spot) (bytes : List ℕ) (image : List Cell)
    → length cells ≡ all_pages g → CanGoOn g cells number s → next_page s < area_pages g
    → page_number g at ≡ first_page g (area_unit g number) + next_page s
    → ProgramMayLeave g cells at (system_spare (record { kind = Journal; number = length s.journal; stamp = s.stamp })) bytes image → IsCurrent g image number s.stamp
next_page_current g cells number s at bytes image size open_ room at_is left =
    let long : next_page s < length (area_of g number cells) = omega (arith, area_long g number cells (number_small g cells number s open_.current) size) in
    let place : image ≡ set cells (first_page g (area_unit g number) + next_page s) left.cell = left.cells ∙ ap (λ (k : ℕ). set cells k left.cell) at_is in
    let same : page_bytes Journal (length s.journal) s.stamp left.cell ≡ None → IsCurrent g image number s.stamp =
    λ none. record {
      area = s;
      current = ap (current_area g) place ∙ area_read g cells number s s left.cell open_.current room refl (λ sealed. journal_stays (area_of g number cells) s left.cell sealed long none);
      stamp = refl;
    } in
    let more : left.cell ≡ Whole (system_spare (record { kind = Journal; number = length s.journal; stamp = s.stamp })) bytes → IsCurrent g image number s.stamp =
    λ whole. record {
      area = with_page s bytes;
      current =
          ap (current_area g) place
          ∙ area_read g cells number s (with_page s bytes) left.cell open_.current room refl
          (λ sealed. journal_grows (area_of g number cells) s left.cell bytes sealed long open_.blank (ap (page_bytes Journal (length s.journal) s.stamp) whole ∙ whole_page Journal (length s.journal) s.stamp bytes));
      stamp = refl;
    } in
    elim left.page [
      | inl blank ↦ same (no_page (length s.journal) s.stamp left.cell (inl blank))
      | inr other ↦ elim other [ inl torn ↦ same (no_page (length s.journal) s.stamp left.cell (inr torn)) | inr whole ↦ more whole ]
    ]

pub slice_get-set_above : (cells : List Cell) (k j : ℕ) (cell : Cell) → k < j → slice_get (set cells k cell) j ≡ slice_get cells j
slice_get-set_above [] zero j cell lt = refl
slice_get-set_above [] (suc k) j cell lt = refl
slice_get-set_above (c ∷ cs) k zero cell lt = absurd (omega arith)
slice_get-set_above (c ∷ cs) zero (suc j) cell lt = refl
slice_get-set_above (c ∷ cs) (suc k) (suc j) cell lt = slice_get-set_above cs k j cell (omega arith)

-- a program that is done saves the change, and the journal can go on
pub next_record_saved : (c : DriveConfig) (cells : List Cell) (r : Reading) (at : Spot) (spare bytes : List ℕ) (xs : List (Change × Totals)) (image : List Cell)
    → length cells ≡ all_pages (geometry_of c) → reads_as c cells ≡ Some r → IsTrue (all_fit fits c r xs) → (next : IsNextRecord c cells at spare bytes xs) → IsProgrammed (geometry_of c) cells at spare bytes image
    → IsSavedIn c r next.number next.area bytes xs image
next_record_saved c cells r at spare bytes xs image size read fit next done =
    let g = geometry_of c in
    let s = next.area in
    let number = next.number in
    let room : next_page s < area_pages g = next.room in
    let long : next_page s < length (area_of g number cells) = omega (arith, area_long g number cells (number_small g cells number s next.current) size) in
    let said : said_by_area c s ≡ Some r = sym (read_by c cells number s next.current) ∙ read in
    let cell = Whole spare bytes in
    let new = set cells (first_page g (area_unit g number) + next_page s) cell in
    let place : image ≡ new = done ∙ ap (λ (k : ℕ). set cells k cell) next.place in
    let page : page_bytes Journal (length s.journal) s.stamp cell ≡ Some bytes =
    ap (λ (sp : List ℕ). page_bytes Journal (length s.journal) s.stamp (Whole sp bytes)) next.spare_is ∙ whole_page Journal (length s.journal) s.stamp bytes in
    let current : current_area g new ≡ Some (number, with_page s bytes) =
    area_read g cells number s (with_page s bytes) cell next.current room refl (λ sealed. journal_grows (area_of g number cells) s cell bytes sealed long next.blank page) in
    let area : area_of g number new ≡ set (area_of g number cells) (next_page s) cell = area_set g number (next_page s) cells cell in
    record {
      reads = ap (reads_as c) place ∙ read_by c new number (with_page s bytes) current ∙ said_with c s r bytes xs said fit next.told;
      current = ap (current_area g) place ∙ current;
      blank = λ k lo hi.
          let same : area_of g number image ≡ set (area_of g number cells) (next_page s) cell = ap (area_of g number) place ∙ area in
          let within : k < length (area_of g number cells) = omega (arith, hi, ap length same, length-set (area_of g number cells) (next_page s) cell) in
          ap (λ (cs : List Cell). slice_get cs k) same ∙ slice_get-set_above (area_of g number cells) (next_page s) k cell (omega (arith, lo)) ∙ next.blank k (omega (arith, lo)) within;
    }

-- the page of the journal that is programmed: the journal goes on behind it
pub next_page_done : (g : Geometry) (cells : List Cell) (number : ℕ) (s : Sealed) (at : Spot) (bytes : List ℕ) (image : List Cell)
    → length cells ≡ all_pages g → CanGoOn g cells number s → next_page s < area_pages g
    → page_number g at ≡ first_page g (area_unit g number) + next_page s
    → IsProgrammed g cells at (system_spare (record { kind = Journal; number = length s.journal; stamp = s.stamp })) bytes image → CanGoOn g image number (with_page s bytes)
next_page_done g cells number s at bytes image size open_ room at_is done =
    let long : next_page s < length (area_of g number cells) = omega (arith, area_long g number cells (number_small g cells number s open_.current) size) in
    let cell = Whole (system_spare (record { kind = Journal; number = length s.journal; stamp = s.stamp })) bytes in
    let new = set cells (first_page g (area_unit g number) + next_page s) cell in
    let place : image ≡ new = done ∙ ap (λ (k : ℕ). set cells k cell) at_is in
    let area : area_of g number new ≡ set (area_of g number cells) (next_page s) cell = area_set g number (next_page s) cells cell in
    let grown : next_page (with_page s bytes) ≡ next_page s + 1 = omega (arith, length-append s.journal (bytes ∷ [])) in
    record {
      current =
          ap (current_area g) place
          ∙ area_read g cells number s (with_page s bytes) cell open_.current room refl
          (λ sealed. journal_grows (area_of g number cells) s cell bytes sealed long open_.blank (whole_page Journal (length s.journal) s.stamp bytes));
      blank = λ k lo hi.
          let same : area_of g number image ≡ set (area_of g number cells) (next_page s) cell = ap (area_of g number) place ∙ area in
          let within : k < length (area_of g number cells) = omega (arith, hi, ap length same, length-set (area_of g number cells) (next_page s) cell) in
          ap (λ (cs : List Cell). slice_get cs k) same ∙ slice_get-set_above (area_of g number cells) (next_page s) k cell (omega (arith, lo, grown)) ∙ open_.blank k (omega (arith, lo, grown)) within;
    }
