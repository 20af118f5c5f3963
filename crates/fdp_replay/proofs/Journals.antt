-- The pages of a journal that were read, and what the next page makes of them.
use Rattle.std.proofs.Common.{◌≡◌, ℕ, zero, suc, ◌+◌, ◌<◌, ◌≤◌, Bool, true, false, IsTrue, List, [], ◌∷◌, ◌++◌, ◌-◌, drop, length, take, Option, Some, None, refl, sym, ap, ◌∙◌, subst, arith, zero-add, inl, inr}
use Rattle.std.specs.Prelude.{bytes_eq, if◌then◌else◌, nat_lt, slice_get}
use Rattle.std.proofs.lemmas.Bool.{cases_lt}
use Rattle.std.proofs.lemmas.Bool.Decides.{nat_tests}
use Rattle.std.proofs.lemmas.List.{length-append, length-drop, length-take-le}
use Rattle.std.proofs.lemmas.List.Sums.{fold-append}
use Rattle.fdp_base.specs.declared.config.DriveConfig.{DriveConfig}
use Rattle.fdp_base.specs.declared.config.Geometry.{Geometry}
use Rattle.fdp_base.specs.declared.entry.Totals.{Totals}
use Rattle.fdp_base.specs.Geometry.{all_pages, area_pages}
use Rattle.fdp_flash.specs.declared.cell.Cell.{Cell}
use Rattle.fdp_flash.specs.declared.cell.Cell.TheVariants.{Blank, Torn, Whole}
use Rattle.fdp_records.specs.declared.change.Change.{Change}
use Rattle.fdp_records.specs.declared.spare.Stamp.{Stamp}
use Rattle.fdp_records.specs.declared.spare.SystemKind.{SystemKind}
use Rattle.fdp_records.specs.declared.spare.SystemKind.TheVariants as kinds
use Rattle.fdp_records.specs.Reading.{decoded}
use Rattle.fdp_records.specs.Spares.{system_spare}
use Rattle.fdp_image.specs.Applied.{applied, with_changes}
use Rattle.fdp_image.specs.Areas.{Sealed, area_of, current_area, leading, more, page_bytes, record_page}
use Rattle.fdp_image.specs.Fits.{Fitting, all_fit}
use Rattle.fdp_image.specs.Reading.{Reading}
use Rattle.fdp_image.specs.Reads.{changes_in}
use Rattle.fdp_image.proofs.Fitting.{all_fit-append, fit_one, unfit_one}
use Rattle.fdp_image.proofs.Journaling.{journal_cells, journal_read, slice_get-drop}
use Rattle.fdp_image.proofs.NextRecord.{area_long, current_sealed, told-push, told_one}
use Rattle.fdp_areas.specs.declared.seal.Current.{Current}
use Rattle.fdp_areas.specs.Seals.{IsCurrentSeal, LiesIn}
use Rattle.fdp_image.proofs.Leading.{leading_ends, leading_most, leading_next}
use Rattle.fdp_image.proofs.Wiping.{in_range}
use Rattle.fdp_replay.specs.Records.{IsTaken, IsUnfit}
use Rattle.fdp_replay.specs.Replay.{IsReplayed}

-- the pages of the area where its journal stands
abbrev pub record_cells : Geometry → List Cell → Current → List Cell
record_cells g cells x = journal_cells x.seal.checkpoint x.seal.before (area_of g x.area cells)

-- the journal pages there
abbrev pub journal_of : Geometry → List Cell → Current → List (List ℕ)
journal_of g cells x = leading kinds.Journal 0 x.seal.stamp (record_cells g cells x)

-- where they stand in the area
abbrev pub place_of : Current → ℕ → ℕ
place_of x number = record_page x.seal.checkpoint x.seal.before number

-- the bytes of a page that is the next of those that come first
pub leading_at : (kind : SystemKind) (number : ℕ) (t : Stamp) (cells : List Cell) (i : ℕ) (cell : Cell) (bytes : List ℕ) → i ≤ length (leading kind number t cells)
    → slice_get cells i ≡ Some cell → page_bytes kind (number + i) t cell ≡ Some bytes → slice_get (leading kind number t cells) i ≡ Some bytes
unfolding leading
leading_at kind number t [] i cell bytes most at page = absurd cc
leading_at kind number t (c ∷ cs) zero cell bytes most at page =
    let same : c ≡ cell = cc in
    let place : number ≡ number + 0 = omega arith in
    let here : page_bytes kind number t c ≡ Some bytes = ap (page_bytes kind number t) same ∙ ap (λ (n : ℕ). page_bytes kind n t cell) place ∙ page in
    ap (λ (o : Option (List ℕ)). slice_get (more o (leading kind (suc number) t cs)) 0) here
leading_at kind number t (c ∷ cs) (suc i) cell bytes most at page =
    let place : number + suc i ≡ suc number + i = omega arith in
    of_page (page_bytes kind number t c) refl (λ h. leading_at kind (suc number) t cs i cell bytes h at (sym (ap (λ (n : ℕ). page_bytes kind n t cell) place) ∙ page))
  where
    of_page : (o : Option (List ℕ)) → page_bytes kind number t c ≡ o → (i ≤ length (leading kind (suc number) t cs) → slice_get (leading kind (suc number) t cs) i ≡ Some bytes)
        → slice_get (more (page_bytes kind number t c) (leading kind (suc number) t cs)) (suc i) ≡ Some bytes
    of_page None is again =
        let none : length (more (page_bytes kind number t c) (leading kind (suc number) t cs)) ≡ 0 = ap (λ (x : Option (List ℕ)). length (more x (leading kind (suc number) t cs))) is in
        absurd (omega arith)
    of_page (Some xs) is again =
        let size : length (more (page_bytes kind number t c) (leading kind (suc number) t cs)) ≡ suc (length (leading kind (suc number) t cs)) =
        ap (λ (x : Option (List ℕ)). length (more x (leading kind (suc number) t cs))) is in
        ap (λ (x : Option (List ℕ)). slice_get (more x (leading kind (suc number) t cs)) (suc i)) is ∙ again (omega arith)

take-one_more : (xs : List (List ℕ)) (i : ℕ) (x : List ℕ) → slice_get xs i ≡ Some x → take (i + 1) xs ≡ take i xs ++ x ∷ []
take-one_more [] i x at = absurd cc
take-one_more (y ∷ ys) zero x at = let same : y ≡ x = cc in ap (λ (z : List ℕ). z ∷ []) same
take-one_more (y ∷ ys) (suc i) x at =
    let n : suc i + 1 ≡ suc (i + 1) = omega arith in
    ap (λ (k : ℕ). take k (y ∷ ys)) n ∙ ap (λ (zs : List (List ℕ)). y ∷ zs) (take-one_more ys i x at)

-- a page of one change, taken
pub taken_one : (fits : Fitting) (c : DriveConfig) (bytes : List ℕ) (x : Change × Totals) (old new : Reading) → decoded bytes ≡ Some x → IsTrue (fits c old x) → new ≡ applied c old x → IsTaken fits c bytes old new
taken_one fits c bytes x old new told fit reading = record { changes = x ∷ []; told = told_one bytes x told; fit = fit_one fits c old x fit; reading = reading }

-- and one that does not fit
pub unfit_page : (fits : Fitting) (c : DriveConfig) (bytes : List ℕ) (x : Change × Totals) (old : Reading) → decoded bytes ≡ Some x → fits c old x ≡ false → IsUnfit fits c bytes old
unfit_page fits c bytes x old told unfit = record { changes = x ∷ []; told = told_one bytes x told; unfit = unfit_one fits c old x unfit }

-- no page was read
pub replayed_none : (fits : Fitting) (c : DriveConfig) (journal : List (List ℕ)) (r : Reading) → IsReplayed fits c journal 0 r r
unfolding changes_in all_fit
replayed_none fits c journal r = record { changes = []; told = refl; fit = refl; reading = refl }

-- one page more was read
pub replayed_more : (fits : Fitting) (c : DriveConfig) (journal : List (List ℕ)) (i : ℕ) (bytes : List ℕ) (start old new : Reading) → slice_get journal i ≡ Some bytes
    → IsReplayed fits c journal i start old → IsTaken fits c bytes old new → IsReplayed fits c journal (i + 1) start new
replayed_more fits c journal i bytes start old new at p taken = record {
  changes = p.changes ++ taken.changes;
  told = ap changes_in (take-one_more journal i bytes at) ∙ told-push (take i journal) bytes p.changes taken.changes p.told taken.told;
  fit = all_fit-append fits c start p.changes taken.changes p.fit (subst (λ (r : Reading). IsTrue (all_fit fits c r taken.changes)) p.reading taken.fit);
  reading = taken.reading ∙ ap (λ (r : Reading). with_changes c r taken.changes) p.reading ∙ sym (fold-append (applied c) start p.changes taken.changes);
}

-- the journal of the current area stands there
pub sealed_journal : (g h : Geometry) (cells : List Cell) (x : Current) (area : Sealed) → g ≡ h → IsCurrentSeal h cells x → current_area h cells ≡ Some (x.area, area)
    → area.journal ≡ journal_of g cells x
sealed_journal g h cells x area same is current =
    let both : Some (x.area, is.area) ≡ Some (x.area, area) = sym is.current ∙ current in
    let pair : (x.area, is.area) ≡ (x.area, area) = cc in
    let one : is.area ≡ area = ap (λ (p : ℕ × Sealed). p.1) pair in
    let stamp : area.stamp ≡ x.seal.stamp = ap (λ (s : Sealed). s.stamp) (sym one) ∙ is.seal_is.stamp in
    let count : length area.checkpoint ≡ x.seal.checkpoint = ap (λ (s : Sealed). length s.checkpoint) (sym one) ∙ is.seal_is.checkpoint in
    let before : area.before ≡ x.seal.before = ap (λ (s : Sealed). s.before) (sym one) ∙ is.seal_is.before in
    sym (journal_read (area_of h x.area cells) area (current_sealed h cells x.area area current))
    ∙ (λ i. leading kinds.Journal 0 (stamp i) (journal_cells (count i) (before i) (area_of h x.area cells)))
    ∙ ap (λ (k : Geometry). journal_of k cells x) (sym same)

slice_get-first : (xs ys : List Cell) (k : ℕ) (cell : Cell) → slice_get xs k ≡ Some cell → slice_get (xs ++ ys) k ≡ Some cell
slice_get-first [] ys k cell at = absurd cc
slice_get-first (x ∷ xs) ys zero cell at = at
slice_get-first (x ∷ xs) ys (suc k) cell at = slice_get-first xs ys k cell at

slice_get-take : (n : ℕ) (xs : List Cell) (k : ℕ) → k < n → slice_get (take n xs) k ≡ slice_get xs k
slice_get-take zero xs k lt = absurd (omega (arith, lt))
slice_get-take (suc n) [] k lt = refl
slice_get-take (suc n) (x ∷ xs) zero lt = refl
slice_get-take (suc n) (x ∷ xs) (suc k) lt = slice_get-take n xs k (omega (arith, lt))

slice_get-behind : (xs ys : List Cell) (k : ℕ) → slice_get (xs ++ ys) (length xs + k) ≡ slice_get ys k
slice_get-behind [] ys k = ap (slice_get ys) (zero-add k)
slice_get-behind (x ∷ xs) ys k = let place : length (x ∷ xs) + k ≡ suc (length xs + k) = omega arith in ap (slice_get (x ∷ (xs ++ ys))) place ∙ slice_get-behind xs ys k

-- a page of the area that is one of these, by its number in the journal
pub record_at : (g : Geometry) (cells : List Cell) (x : Current) (number : ℕ) (cell : Cell) → slice_get (area_of g x.area cells) (place_of x number) ≡ Some cell → slice_get (record_cells g cells x) number ≡ Some cell
record_at g cells x number cell at = elim (cases_lt number x.seal.before) [
  | inl first ↦ (
      let n = x.seal.checkpoint in
      let b = x.seal.before in
      let area = area_of g x.area cells in
      let test : nat_lt number b ≡ true = grind (arith, nat_tests, first) in
      let here : slice_get area (n + number) ≡ Some cell = sym (ap (λ (t : Bool). slice_get area (if t then n + number else suc n + number)) test) ∙ at in
      slice_get-first (take b (drop n area)) (drop (suc (n + b)) area) number cell (slice_get-take b (drop n area) number first ∙ slice_get-drop area n number ∙ here)
      )
  | inr behind ↦ (
      let n = x.seal.checkpoint in
      let b = x.seal.before in
      let area = area_of g x.area cells in
      let test : nat_lt number b ≡ false = grind (arith, nat_tests, behind) in
      let here : slice_get area (suc n + number) ≡ Some cell = sym (ap (λ (t : Bool). slice_get area (if t then n + number else suc n + number)) test) ∙ at in
      let inside : suc n + number < length area = in_range area (suc n + number) cell here in
      let size : length (take b (drop n area)) ≡ b = length-take-le b (drop n area) (omega (arith, inside, behind, length-drop n area)) in
      let place : number ≡ length (take b (drop n area)) + (number - b) = omega (arith, size, behind) in
      let far : suc (n + b) + (number - b) ≡ suc n + number = omega (arith, behind) in
      ap (slice_get (record_cells g cells x)) place
      ∙ slice_get-behind (take b (drop n area)) (drop (suc (n + b)) area) (number - b) ∙ slice_get-drop area (suc (n + b)) (number - b) ∙ ap (slice_get area) far ∙ here
      )
]

-- a whole page with the spare of the next record, and one with another spare
pub journal_page : (t : Stamp) (number : ℕ) (spare bytes : List ℕ) → bytes_eq (system_spare (record { kind = kinds.Journal; number = number; stamp = t })) spare ≡ true
    → page_bytes kinds.Journal number t (Whole spare bytes) ≡ Some bytes
unfolding page_bytes
journal_page t number spare bytes e = ap (λ (b : Bool). if b then Some bytes else None) e

pub no_journal_page : (t : Stamp) (number : ℕ) (spare bytes : List ℕ) → bytes_eq (system_spare (record { kind = kinds.Journal; number = number; stamp = t })) spare ≡ false
    → page_bytes kinds.Journal number t (Whole spare bytes) ≡ None
unfolding page_bytes
no_journal_page t number spare bytes e = ap (λ (b : Bool). if b then Some bytes else None) e

blank_page : (t : Stamp) (number : ℕ) → page_bytes kinds.Journal number t Blank ≡ None
unfolding page_bytes
blank_page t number = refl

torn_page : (t : Stamp) (number : ℕ) → page_bytes kinds.Journal number t Torn ≡ None
unfolding page_bytes
torn_page t number = refl

-- the next page is one of the journal
pub journal_next : (g : Geometry) (cells : List Cell) (x : Current) (i : ℕ) (cell : Cell) (bytes : List ℕ) → i ≤ length (journal_of g cells x)
    → slice_get (area_of g x.area cells) (place_of x i) ≡ Some cell → page_bytes kinds.Journal i x.seal.stamp cell ≡ Some bytes
    → (i + 1 ≤ length (journal_of g cells x)) × (slice_get (journal_of g cells x) i ≡ Some bytes)
journal_next g cells x i cell bytes most at page =
    let here = ap (λ (n : ℕ). page_bytes kinds.Journal n x.seal.stamp cell) (zero-add i) ∙ page in
    let there = record_at g cells x i cell at in
    (leading_next kinds.Journal 0 x.seal.stamp (record_cells g cells x) i cell bytes most there here, leading_at kinds.Journal 0 x.seal.stamp (record_cells g cells x) i cell bytes most there here)

-- the next page is none of it
pub journal_ends : (g : Geometry) (cells : List Cell) (x : Current) (i : ℕ) (cell : Cell) → i ≤ length (journal_of g cells x)
    → slice_get (area_of g x.area cells) (place_of x i) ≡ Some cell → page_bytes kinds.Journal i x.seal.stamp cell ≡ None → i ≡ length (journal_of g cells x)
journal_ends g cells x i cell most at page =
    sym (leading_ends kinds.Journal 0 x.seal.stamp (record_cells g cells x) i cell most (record_at g cells x i cell at) (ap (λ (n : ℕ). page_bytes kinds.Journal n x.seal.stamp cell) (zero-add i) ∙ page))

pub journal_ends_blank : (g : Geometry) (cells : List Cell) (x : Current) (i : ℕ) → i ≤ length (journal_of g cells x)
    → slice_get (area_of g x.area cells) (place_of x i) ≡ Some Blank → i ≡ length (journal_of g cells x)
journal_ends_blank g cells x i most at = journal_ends g cells x i Blank most at (blank_page x.seal.stamp i)

pub journal_ends_torn : (g : Geometry) (cells : List Cell) (x : Current) (i : ℕ) → i ≤ length (journal_of g cells x)
    → slice_get (area_of g x.area cells) (place_of x i) ≡ Some Torn → i ≡ length (journal_of g cells x)
journal_ends_torn g cells x i most at = journal_ends g cells x i Torn most at (torn_page x.seal.stamp i)

-- the area ends
pub journal_fills : (g : Geometry) (cells : List Cell) (x : Current) (i : ℕ) → length cells ≡ all_pages g → LiesIn g x → i ≤ length (journal_of g cells x)
    → area_pages g - (1 + x.seal.checkpoint) ≤ i → i ≡ length (journal_of g cells x)
journal_fills g cells x i size lies most end =
    let n = x.seal.checkpoint in
    let b = x.seal.before in
    let area = area_of g x.area cells in
    let first : length (take b (drop n area)) ≤ b = length-take-most b (drop n area) in
    let sum = length-append (take b (drop n area)) (drop (suc (n + b)) area) in
    let within = lies.pages in
    omega (arith, leading_most kinds.Journal 0 x.seal.stamp (record_cells g cells x), sum, first, within, length-drop (suc (n + b)) area, area_long g x.area cells lies.area size)
  where
    length-take-most : (n : ℕ) (xs : List Cell) → length (take n xs) ≤ n
    length-take-most zero xs = omega arith
    length-take-most (suc n) [] = omega arith
    length-take-most (suc n) (x ∷ xs) = let most = length-take-most n xs in omega (arith, most)

-- all pages of the journal were read
pub replayed_whole : (fits : Fitting) (c : DriveConfig) (journal : List (List ℕ)) (area : Sealed) (i : ℕ) (old new : Reading) → area.journal ≡ journal → i ≡ length journal
    → IsReplayed fits c journal i old new → (i ≡ length area.journal) × IsReplayed fits c area.journal i old new
replayed_whole fits c journal area i old new same end p =
    (end ∙ ap length (sym same), subst (λ (pages : List (List ℕ)). IsReplayed fits c pages i old new) (sym same) p)
