-- The checkpoint pages of an area that were looked at, and what the page behind them makes of it.
use Rattle.std.proofs.Common.{◌≡◌, ℕ, zero, suc, ◌+◌, ◌-◌, ◌<◌, ◌≤◌, Bool, true, false, List, [], ◌∷◌, ◌++◌, drop, length, Option, Some, None, refl, sym, ap, ◌∙◌, arith, zero-add, inl, inr}
use Rattle.std.specs.Prelude.{IfSome, ◌==◌, ◌&&◌, bytes_eq, if◌then◌else◌, nat_lt, option_map, slice_get}
use Rattle.std.specs.Option.{option_and_then, option_map_or}
use Rattle.std.proofs.lemmas.Bool.{and_parts, cases_lt, eqb-true}
use Rattle.std.proofs.lemmas.List.{length-drop}
use Rattle.std.proofs.lemmas.Slice.Eq.{bytes_eq-Decides}
use Rattle.fdp_base.specs.declared.config.Geometry.{Geometry}
use Rattle.fdp_base.specs.Geometry.{area_pages}
use Rattle.fdp_flash.specs.declared.cell.Cell.{Cell}
use Rattle.fdp_flash.specs.declared.cell.Cell.TheVariants.{Blank, Torn, Whole}
use Rattle.fdp_records.specs.declared.spare.Stamp.{Stamp}
use Rattle.fdp_records.specs.declared.spare.SystemKind.{SystemKind}
use Rattle.fdp_records.specs.declared.spare.SystemKind.TheVariants as kinds
use Rattle.fdp_records.specs.declared.spare.SystemSpare.{SystemSpare}
use Rattle.fdp_records.specs.Spares.{said_by_system, system_code, system_spare}
use Rattle.fdp_records.proofs.SpareTold.{system_is_spelled}
use Rattle.fdp_image.proofs.Journaling.{sealed_with, slice_get-drop}
use Rattle.fdp_image.proofs.Leading.{leading_ends, leading_most, leading_next}
use Rattle.fdp_image.specs.Areas.{Sealed, area_of, current_area, first_stamp, is_known_version, is_seal, later_of, leading, page_bytes, sealed_behind, sealed_by, sealed_in, stamp_of}
use Rattle.fdp_image.proofs.NextRecord.{current_sealed}
use Rattle.fdp_areas.specs.declared.seal.Current.{Current}
use Rattle.fdp_areas.specs.declared.seal.Seal.{Seal}
use Rattle.fdp_areas.specs.Seals.{IsCurrentSeal, IsNoPage, IsSealed, LiesIn, Tells, TellsCurrent, later_seal}

-- ---- the pages that were looked at

-- so many checkpoint pages come first, and behind them so many journal pages; none of them is not the last of its kind where the next kind began
pub record IsWalked (t : Stamp) (cells : List Cell) (checkpoint before : ℕ) : Type 0 where
  pub pages : checkpoint ≤ length (leading kinds.Checkpoint 0 t cells)
  pub ended : 0 < before → length (leading kinds.Checkpoint 0 t cells) ≡ checkpoint
  pub records : before ≤ length (leading kinds.Journal 0 t (drop checkpoint cells))

-- just so many of both come first
pub record IsEnded (t : Stamp) (cells : List Cell) (checkpoint before : ℕ) : Type 0 where
  pub pages : length (leading kinds.Checkpoint 0 t cells) ≡ checkpoint
  pub records : length (leading kinds.Journal 0 t (drop checkpoint cells)) ≡ before

-- the page behind checkpoint pages is a further one
pub walked_page : (t : Stamp) (cells : List Cell) (checkpoint before : ℕ) (cell : Cell) (bytes : List ℕ) → IsWalked t cells checkpoint before → slice_get cells (checkpoint + before) ≡ Some cell → before ≡ 0
    → page_bytes kinds.Checkpoint checkpoint t cell ≡ Some bytes → IsWalked t cells (checkpoint + 1) before
walked_page t cells checkpoint before cell bytes h at none page =
    let place : checkpoint + before ≡ checkpoint = omega (arith, none) in
    let here : slice_get cells checkpoint ≡ Some cell = sym (ap (slice_get cells) place) ∙ at in
    record {
      pages = leading_next kinds.Checkpoint 0 t cells checkpoint cell bytes h.pages here (ap (λ (n : ℕ). page_bytes kinds.Checkpoint n t cell) (zero-add checkpoint) ∙ page);
      ended = λ some. absurd (omega (arith, some, none));
      records = omega (arith, none);
    }

-- behind a page that is none there are no further checkpoint pages
no_page : (t : Stamp) (cells : List Cell) (checkpoint before : ℕ) (cell : Cell) → IsWalked t cells checkpoint before → slice_get cells (checkpoint + before) ≡ Some cell → IsNoPage checkpoint before t cell
    → length (leading kinds.Checkpoint 0 t cells) ≡ checkpoint
no_page t cells checkpoint before cell h at page = elim (cases_lt 0 before) [
  | inl some ↦ h.ended some
  | inr few ↦ (
      let none : before ≡ 0 = omega (arith, few) in
      let place : checkpoint + before ≡ checkpoint = omega (arith, none) in
      leading_ends kinds.Checkpoint 0 t cells checkpoint cell h.pages (sym (ap (slice_get cells) place) ∙ at) (ap (λ (n : ℕ). page_bytes kinds.Checkpoint n t cell) (zero-add checkpoint) ∙ page none)
      )
]

-- the page behind them is the next journal page
pub walked_record : (t : Stamp) (cells : List Cell) (checkpoint before : ℕ) (cell : Cell) (bytes : List ℕ) → IsWalked t cells checkpoint before → slice_get cells (checkpoint + before) ≡ Some cell
    → IsNoPage checkpoint before t cell → page_bytes kinds.Journal before t cell ≡ Some bytes → IsWalked t cells checkpoint (before + 1)
walked_record t cells checkpoint before cell bytes h at none page = record {
  pages = h.pages;
  ended = λ some. no_page t cells checkpoint before cell h at none;
  records =
      leading_next kinds.Journal 0 t (drop checkpoint cells) before cell bytes h.records (slice_get-drop cells checkpoint before ∙ at)
      (ap (λ (n : ℕ). page_bytes kinds.Journal n t cell) (zero-add before) ∙ page);
}

-- it is none
pub walked_ends : (t : Stamp) (cells : List Cell) (checkpoint before : ℕ) (cell : Cell) → IsWalked t cells checkpoint before → slice_get cells (checkpoint + before) ≡ Some cell
    → IsNoPage checkpoint before t cell → page_bytes kinds.Journal before t cell ≡ None → IsEnded t cells checkpoint before
walked_ends t cells checkpoint before cell h at none page = record {
  pages = no_page t cells checkpoint before cell h at none;
  records =
      leading_ends kinds.Journal 0 t (drop checkpoint cells) before cell h.records (slice_get-drop cells checkpoint before ∙ at)
      (ap (λ (n : ℕ). page_bytes kinds.Journal n t cell) (zero-add before) ∙ page);
}

-- they are the whole area
walked_out : (t : Stamp) (cells : List Cell) (checkpoint before : ℕ) → IsWalked t cells checkpoint before → length cells ≤ checkpoint + before → IsEnded t cells checkpoint before
walked_out t cells checkpoint before h end =
    let most = leading_most kinds.Checkpoint 0 t cells in
    let few = leading_most kinds.Journal 0 t (drop checkpoint cells) in
    let size : length (drop checkpoint cells) ≡ length cells - checkpoint = length-drop checkpoint cells in
    record {
      pages = elim (cases_lt 0 before) [ inl some ↦ h.ended some | inr none ↦ (let pages = h.pages in omega (arith, pages, most, none, end)) ];
      records = (let pages = h.records in omega (arith, pages, few, size, end));
    }

-- ---- the first page

checkpoint_by_code : (kind : SystemKind) → system_code kind ≡ 2 → kind ≡ kinds.Checkpoint
checkpoint_by_code kinds.Checkpoint e = refl
checkpoint_by_code kinds.Seal e = absurd (omega (arith, e))
checkpoint_by_code kinds.Journal e = absurd (omega (arith, e))

same_bytes : (xs ys : List ℕ) → xs ≡ ys → bytes_eq xs ys ≡ true
same_bytes xs ys e = (bytes_eq-Decides xs ys).1 e

-- the page whose version and epoch are told is the first checkpoint page
pub first_page : (t : Stamp) (spare bytes : List ℕ) → option_and_then first_stamp (said_by_system spare) ≡ Some t → page_bytes kinds.Checkpoint 0 t (Whole spare bytes) ≡ Some bytes
unfolding page_bytes
first_page t spare bytes e = of_said (said_by_system spare) refl where
  of_test : (s : SystemSpare) (b : Bool) → said_by_system spare ≡ Some s → (system_code s.kind == 2 && s.number == 0 && is_known_version s.stamp.version) ≡ b
      → (if b then Some s.stamp else None) ≡ Some t → (if bytes_eq (system_spare (record { kind = kinds.Checkpoint; number = 0; stamp = t })) spare then Some bytes else None) ≡ Some bytes
  of_test s false said test is = absurd cc
  of_test s true said test is =
      let both = and_parts (system_code s.kind == 2 && s.number == 0) (is_known_version s.stamp.version) test in
      let two = and_parts (system_code s.kind == 2) (s.number == 0) both.0 in
      let kind = checkpoint_by_code s.kind (eqb-true (system_code s.kind) 2 two.0) in
      let number : s.number ≡ 0 = eqb-true s.number 0 two.1 in
      let stamp : s.stamp ≡ t = cc in
      let whole : s ≡ record { kind = kinds.Checkpoint; number = 0; stamp = t } = λ i. record { kind = kind i; number = number i; stamp = stamp i } in
      ap (λ (b : Bool). if b then Some bytes else None)
      (same_bytes (system_spare (record { kind = kinds.Checkpoint; number = 0; stamp = t })) spare (sym (ap system_spare whole) ∙ system_is_spelled spare s said))

  of_said : (o : Option SystemSpare) → said_by_system spare ≡ o → (if bytes_eq (system_spare (record { kind = kinds.Checkpoint; number = 0; stamp = t })) spare then Some bytes else None) ≡ Some bytes
  of_said None is = let bad : None ≡ Some t = sym (ap (option_and_then first_stamp) is) ∙ e in absurd cc
  of_said (Some s) is = of_test s (system_code s.kind == 2 && s.number == 0 && is_known_version s.stamp.version) is refl (sym (ap (option_and_then first_stamp) is) ∙ e)

first_of_cell : (cell : Cell) (t : Stamp) → stamp_of cell ≡ Some t → (bytes : List ℕ) × (page_bytes kinds.Checkpoint 0 t cell ≡ Some bytes)
first_of_cell Blank t e = absurd cc
first_of_cell Torn t e = absurd cc
first_of_cell (Whole spare bytes) t e = (bytes, first_page t spare bytes e)

-- so it comes first
first_leads : (cells : List Cell) (t : Stamp) → option_and_then stamp_of (slice_get cells 0) ≡ Some t → 1 ≤ length (leading kinds.Checkpoint 0 t cells)
first_leads [] t e = absurd cc
first_leads (c ∷ cs) t e = let page = first_of_cell c t e in leading_next kinds.Checkpoint 0 t (c ∷ cs) 0 c page.0 (omega arith) refl page.1

pub first_walked : (cells : List Cell) (t : Stamp) → option_and_then stamp_of (slice_get cells 0) ≡ Some t → IsWalked t cells 1 0
first_walked cells t e = record { pages = first_leads cells t e; ended = λ some. absurd (omega (arith, some)); records = omega arith }

-- ---- the seal

in_area : (cells : List Cell) (t : Stamp) → option_and_then stamp_of (slice_get cells 0) ≡ Some t → sealed_in cells ≡ sealed_by cells t
unfolding sealed_in
in_area cells t e = ap (option_and_then (sealed_by cells)) e

-- the page behind them is the seal
pub seal_found : (cells : List Cell) (t : Stamp) (checkpoint before : ℕ) (cell : Cell) → option_and_then stamp_of (slice_get cells 0) ≡ Some t → IsEnded t cells checkpoint before
    → slice_get cells (checkpoint + before) ≡ Some cell → is_seal t (checkpoint + before) cell ≡ true → IsSealed cells (record { stamp = t; checkpoint = checkpoint; before = before })
seal_found cells t checkpoint before cell first h at seal =
    let pages = leading kinds.Checkpoint 0 t cells in
    let records = leading kinds.Journal 0 t (drop (length pages) cells) in
    let count : length records ≡ before = ap (λ (n : ℕ). length (leading kinds.Journal 0 t (drop n cells))) h.pages ∙ h.records in
    let place : checkpoint + before ≡ length pages + length records = omega (arith, count, h.pages) in
    let behind = leading kinds.Journal (length records) t (drop (suc (length pages + length records)) cells) in
    record {
      area = record { stamp = t; checkpoint = pages; before = length records; journal = records ++ behind };
      sealed = sealed_with cells t pages records behind (record {
        stamp = first;
        pages = refl;
        first = refl;
        seal = sym (ap (λ (n : ℕ). option_map_or (is_seal t n) (slice_get cells n) false) place) ∙ ap (λ (o : Option Cell). option_map_or (is_seal t (checkpoint + before)) o false) at ∙ seal;
        records = refl;
      });
      seal_is = record { stamp = refl; checkpoint = h.pages; before = count };
    }

-- it is not
pub seal_missing : (cells : List Cell) (t : Stamp) (checkpoint before : ℕ) → option_and_then stamp_of (slice_get cells 0) ≡ Some t → IsEnded t cells checkpoint before
    → option_map_or (is_seal t (checkpoint + before)) (slice_get cells (checkpoint + before)) false ≡ false → sealed_in cells ≡ None
unfolding sealed_by sealed_behind
seal_missing cells t checkpoint before first h test =
    let pages = leading kinds.Checkpoint 0 t cells in
    let records = leading kinds.Journal 0 t (drop (length pages) cells) in
    let count : length records ≡ before = ap (λ (n : ℕ). length (leading kinds.Journal 0 t (drop n cells))) h.pages ∙ h.records in
    let place : length pages + length records ≡ checkpoint + before = omega (arith, count, h.pages) in
    let behind = leading kinds.Journal (length records) t (drop (suc (length pages + length records)) cells) in
    in_area cells t first
    ∙ ap (λ (b : Bool). if b then Some (record { stamp = t; checkpoint = pages; before = length records; journal = records ++ behind }) else None)
    (ap (λ (n : ℕ). option_map_or (is_seal t n) (slice_get cells n) false) place ∙ test)

-- there is no first checkpoint page
pub no_first : (cells : List Cell) → option_and_then stamp_of (slice_get cells 0) ≡ None → sealed_in cells ≡ None
unfolding sealed_in
no_first cells e = ap (option_and_then (sealed_by cells)) e

pub slice_get-end : (cells : List Cell) (i : ℕ) → length cells ≤ i → slice_get cells i ≡ None
slice_get-end [] i h = refl
slice_get-end (c ∷ cs) zero h = absurd (omega arith)
slice_get-end (c ∷ cs) (suc i) h = slice_get-end cs i (omega arith)

-- the whole area is checkpoint pages and journal pages
pub no_room_for_seal : (cells : List Cell) (t : Stamp) (checkpoint before : ℕ) → option_and_then stamp_of (slice_get cells 0) ≡ Some t → IsWalked t cells checkpoint before → length cells ≤ checkpoint + before → sealed_in cells ≡ None
no_room_for_seal cells t checkpoint before first h end =
    seal_missing cells t checkpoint before first (walked_out t cells checkpoint before h end)
    (ap (λ (o : Option Cell). option_map_or (is_seal t (checkpoint + before)) o false) (slice_get-end cells (checkpoint + before) end))

-- no page that is blank or torn is one of them or the seal
pub blank_is_none : (t : Stamp) (checkpoint before : ℕ) (cells : List Cell) → option_and_then stamp_of (slice_get cells 0) ≡ Some t → IsWalked t cells checkpoint before → slice_get cells (checkpoint + before) ≡ Some Blank → sealed_in cells ≡ None
unfolding page_bytes
blank_is_none t checkpoint before cells first h at =
    seal_missing cells t checkpoint before first (walked_ends t cells checkpoint before Blank h at (λ none. refl) refl) (ap (λ (o : Option Cell). option_map_or (is_seal t (checkpoint + before)) o false) at)

pub torn_is_none : (t : Stamp) (checkpoint before : ℕ) (cells : List Cell) → option_and_then stamp_of (slice_get cells 0) ≡ Some t → IsWalked t cells checkpoint before → slice_get cells (checkpoint + before) ≡ Some Torn → sealed_in cells ≡ None
unfolding page_bytes
torn_is_none t checkpoint before cells first h at =
    seal_missing cells t checkpoint before first (walked_ends t cells checkpoint before Torn h at (λ none. refl) refl) (ap (λ (o : Option Cell). option_map_or (is_seal t (checkpoint + before)) o false) at)

-- ---- both areas

both_areas : (g : Geometry) (cells : List Cell) (first second : Option Sealed) → sealed_in (area_of g 0 cells) ≡ first → sealed_in (area_of g 1 cells) ≡ second
    → current_area g cells ≡ later_of (option_map (λ (s : Sealed). (0, s)) first) (option_map (λ (s : Sealed). (1, s)) second)
unfolding current_area
both_areas g cells first second a b = λ i. later_of (option_map (λ (s : Sealed). (0, s)) (a i)) (option_map (λ (s : Sealed). (1, s)) (b i))

-- what is said of both areas says which is current
pub current_told : (g : Geometry) (cells : List Cell) (first second : Option Seal) → Tells (area_of g 0 cells) first → Tells (area_of g 1 cells) second → TellsCurrent g cells (later_seal first second)
unfolding current_area
current_told g cells None None a b = both_areas g cells None None a b
current_told g cells (Some x) None a b = record { area = a.area; current = both_areas g cells (Some a.area) None a.sealed b; seal_is = a.seal_is }
current_told g cells None (Some y) a b = record { area = b.area; current = both_areas g cells None (Some b.area) a b.sealed; seal_is = b.seal_is }
current_told g cells (Some x) (Some y) a b = of_test (nat_lt x.stamp.epoch y.stamp.epoch) refl where
  told : current_area g cells ≡ later_of (Some (0, a.area)) (Some (1, b.area))
  told = both_areas g cells (Some a.area) (Some b.area) a.sealed b.sealed

  epochs : nat_lt a.area.stamp.epoch b.area.stamp.epoch ≡ nat_lt x.stamp.epoch y.stamp.epoch
  epochs = ap (λ (t : Stamp). nat_lt t.epoch b.area.stamp.epoch) a.seal_is.stamp ∙ ap (λ (t : Stamp). nat_lt x.stamp.epoch t.epoch) b.seal_is.stamp

  of_test : (later : Bool) → nat_lt x.stamp.epoch y.stamp.epoch ≡ later
      → TellsCurrent g cells (if later then Some (record { area = 1; seal = y }) else Some (record { area = 0; seal = x }))
  of_test true is = record {
    area = b.area;
    current = told ∙ ap (λ (later : Bool). if later then Some (1, b.area) else Some (0, a.area)) (epochs ∙ is);
    seal_is = b.seal_is;
  }
  of_test false is = record {
    area = a.area;
    current = told ∙ ap (λ (later : Bool). if later then Some (1, b.area) else Some (0, a.area)) (epochs ∙ is);
    seal_is = a.seal_is;
  }

-- the later of seals that stand in their areas stands in its own
pub later_lies : (g : Geometry) (first second : Option Seal) → IfSome first (λ x. x.checkpoint + x.before < area_pages g) → IfSome second (λ x. x.checkpoint + x.before < area_pages g) → IfSome (later_seal first second) (LiesIn g)
later_lies g None None a b = tt
later_lies g (Some x) None a b = record { area = omega arith; pages = omega arith }
later_lies g None (Some y) a b = record { area = omega arith; pages = omega arith }
later_lies g (Some x) (Some y) a b = of_test (nat_lt x.stamp.epoch y.stamp.epoch) where
  of_test : (later : Bool) → IfSome (if later then Some (record { area = 1; seal = y }) else Some (record { area = 0; seal = x })) (LiesIn g)
  of_test true = record { area = omega arith; pages = omega arith }
  of_test false = record { area = omega arith; pages = omega arith }

-- the current area is sealed so
pub current_is_sealed : (g : Geometry) (cells : List Cell) (x : Current) → IsCurrentSeal g cells x → IsSealed (area_of g x.area cells) x.seal
current_is_sealed g cells x h = record { area = h.area; sealed = current_sealed g cells x.area h.area h.current; seal_is = h.seal_is }
