-- The pages of a checkpoint in an area: unsealed while they are programmed, and sealed by its seal.
use Rattle.std.proofs.Common.{◌≡◌, ◌≢◌, ℕ, zero, suc, ◌+◌, ◌-◌, ◌*◌, ◌%◌, ◌<◌, ◌≤◌, Bool, true, false, List, [], ◌∷◌, ◌++◌, drop, length, set, take, Option, Some, None, refl, sym, ap, ◌∙◌, subst, arith, inl, inr}
use Rattle.std.specs.Prelude.{if◌then◌else◌, slice_get, slice_index_or}
use Rattle.std.specs.List.{concat}
use Rattle.std.specs.Option.{option_and_then, option_map_or}
use Rattle.std.proofs.lemmas.Bool.{cases_eq, cases_lt}
use Rattle.std.proofs.lemmas.List.{append-nil, drop-drop, length-drop, length-set, take_all}
use Rattle.std.proofs.lemmas.Nat.{div-add-mod'}
use Rattle.std.proofs.lemmas.Slice.Eq.{bytes_eq-Decides}
use Rattle.fdp_flash.specs.declared.cell.Cell.{Cell}
use Rattle.fdp_flash.specs.declared.cell.Cell.TheVariants.{Blank, Whole}
use Rattle.fdp_flash.proofs.Lists.{slice_get-set_other, slice_get-set_same}
use Rattle.fdp_image.specs.Areas.{first_stamp, is_seal, leading, more, page_bytes, sealed_in, stamp_of}
use Rattle.fdp_image.specs.Fields.{are_zeros, pieces}
use Rattle.fdp_image.specs.Replacing.{HasNoSeal, IsCheckpointOf, IsNewlySealed, new_stamp, pages_for}
use Rattle.fdp_image.specs.Saving.{AreBlankFrom}
use Rattle.fdp_image.proofs.Journaling.{leading_blank, sealed_with, slice_get-drop}
use Rattle.fdp_image.proofs.Leading.{whole_page}
use Rattle.fdp_image.proofs.Unsealed.{blank_no_seal, left_no_seal, unsealed}
use Rattle.fdp_image.proofs.Wiping.{in_range, record_is_no_page, seal_is_no_page, seal_is_no_record}
use Rattle.fdp_records.specs.declared.spare.Stamp.{Stamp}
use Rattle.fdp_records.specs.declared.spare.SystemKind.{SystemKind}
use Rattle.fdp_records.specs.declared.spare.SystemKind.TheVariants.{Checkpoint, Journal, Seal}
use Rattle.fdp_records.specs.Spares.{said_by_system, system_spare}
use Rattle.fdp_snapshot.specs.declared.state.State.{State}
use Rattle.fdp_snapshot.specs.declared.state.Summary.{Summary}
use Rattle.fdp_snapshot.specs.Checkpoint.{checkpoint_of, checkpoint_size}
use Rattle.fdp_snapshot.specs.Reading.{state_in, summary_in}
use Rattle.fdp_snapshot.specs.Rows.{zeros}
use Rattle.fdp_snapshot.proofs.Words.{take-add}
use Rattle.fdp_snapshot.proofs.RoundTrip.{written_is, written_long, written_told}
use Rattle.fdp_checkpoint.specs.Writing.{HasPages, IsFrozen, IsKeptBehind, page_in, system_cell}
use Rattle.fdp_checkpoint.proofs.Telling.{size_least, summary_told}

-- ---- the number of pages

pub pages_enough : (block : ℕ) (s : Summary) → 0 < block → checkpoint_size s ≤ pages_for block s * block
pages_enough block s some =
    let n : ℕ = checkpoint_size s + (block - 1) in
    omega (arith, div-add-mod' n block, mod_below n block some)
  where
    mod_below : (n m : ℕ) → 0 < m → n % m < m
    mod_below n m some = omega arith

pub pages_few : (block : ℕ) (s : Summary) → 0 < block → pages_for block s * block < checkpoint_size s + block
pages_few block s some =
    let n : ℕ = checkpoint_size s + (block - 1) in
    omega (arith, div-add-mod' n block)

pub pages_some : (block : ℕ) (s : Summary) → 0 < block → 0 < pages_for block s
pages_some block s some = of_count (pages_for block s) refl where
  of_count : (n : ℕ) → pages_for block s ≡ n → 0 < pages_for block s
  of_count zero is = let none : pages_for block s * block ≡ zero * block = ap (λ (k : ℕ). k * block) is in absurd (omega (arith, none, pages_enough block s some, size_least s))
  of_count (suc n) is = omega (arith, is)

-- ---- an area without a seal

pub pages_no_seal : (block : ℕ) (t : Stamp) (bytes : List ℕ) (cells : List Cell) (number : ℕ) → HasPages block t bytes cells number → HasNoSeal cells
pages_no_seal block t bytes cells number p k cell at x n = elim (cases_lt k number) [
  | inl below ↦ (
      let both : Some (system_cell Checkpoint k t (page_in block bytes k)) ≡ Some cell = sym (p.whole k below) ∙ at in
      let is : cell ≡ system_cell Checkpoint k t (page_in block bytes k) = cc in
      left_no_seal Checkpoint k t (page_in block bytes k) cell (inl refl) (inr (inr is)) x n
      )
  | inr above ↦ (
      let both : Some Blank ≡ Some cell = sym (p.blank k (omega arith) (in_range cells k cell at)) ∙ at in
      let is : cell ≡ Blank = cc in
      left_no_seal Checkpoint k t [] cell (inl refl) (inl is) x n
      )
]

-- ---- pages, one after another

pub pages_none : (block : ℕ) (t : Stamp) (bytes : List ℕ) (cells : List Cell) → AreBlankFrom 0 cells → HasPages block t bytes cells 0
pages_none block t bytes cells blank = record { whole = λ k lt. absurd (omega arith); blank = blank }

blank_more : (cells : List Cell) (place : ℕ) (cell : Cell) → AreBlankFrom place cells → AreBlankFrom (place + 1) (set cells place cell)
blank_more cells place cell blank k lo hi =
    slice_get-set_other cells place k cell (λ same. absurd (omega (arith, same, lo))) ∙ blank k (omega (arith, lo)) (omega (arith, hi, length-set cells place cell))

pub pages_more : (block : ℕ) (t : Stamp) (bytes : List ℕ) (cells : List Cell) (number : ℕ) → number < length cells → HasPages block t bytes cells number
    → HasPages block t bytes (set cells number (system_cell Checkpoint number t (page_in block bytes number))) (number + 1)
pages_more block t bytes cells number inside p =
    let new = system_cell Checkpoint number t (page_in block bytes number) in
    record {
      whole = λ k lt. elim (cases_eq k number) [
        | inl same ↦ subst (λ (n : ℕ). slice_get (set cells number new) n ≡ Some (system_cell Checkpoint n t (page_in block bytes n))) (sym same) (slice_get-set_same cells number new inside)
        | inr other ↦ (let apart : k ≢ number = other in slice_get-set_other cells number k new other ∙ p.whole k (omega arith))
      ];
      blank = blank_more cells number new p.blank;
    }

pub none_kept : (t : Stamp) (count : ℕ) (kept : List (List ℕ)) (cells : List Cell) → AreBlankFrom count cells → IsKeptBehind t count kept 0 cells cells
none_kept t count kept cells blank =
    let none : count + 0 ≡ count = omega arith in
    record { same = λ k lt. refl; journal = λ k page lt at. absurd (omega (arith, lt)); blank = subst (λ (n : ℕ). AreBlankFrom n cells) (sym none) blank }

pub one_more_kept : (t : Stamp) (count : ℕ) (kept : List (List ℕ)) (number : ℕ) (page : List ℕ) (old cells : List Cell) → slice_get kept number ≡ Some page → count + number < length cells
    → IsKeptBehind t count kept number old cells → IsKeptBehind t count kept (number + 1) old (set cells (count + number) (system_cell Journal number t page))
one_more_kept t count kept number page old cells at inside p =
    let place = count + number in
    let new = system_cell Journal number t page in
    let next : count + (number + 1) ≡ place + 1 = omega arith in
    record {
      same = λ k lt. slice_get-set_other cells place k new (λ same. absurd (omega (arith, same, lt))) ∙ p.same k lt;
      journal = λ k found lt there. elim (cases_eq k number) [
        | inl same ↦ (
            let both : Some page ≡ Some found = sym at ∙ ap (slice_get kept) (sym same) ∙ there in
            let one : page ≡ found = cc in
            ap (λ (n : ℕ). slice_get (set cells place new) (count + n)) same ∙ slice_get-set_same cells place new inside ∙ ap (λ (bs : List ℕ). Some (system_cell Journal number t bs)) one
            ∙ ap (λ (n : ℕ). Some (system_cell Journal n t found)) (sym same)
            )
        | inr other ↦ (
            let apart : k ≢ number = other in
            slice_get-set_other cells place (count + k) new (λ same. absurd (apart (omega (arith, same)))) ∙ p.journal k found (omega arith) there
            )
      ];
      blank = subst (λ (n : ℕ). AreBlankFrom n (set cells place new)) (sym next) (blank_more cells place new p.blank);
    }

-- ---- the seal

pieces_joined : (size n : ℕ) (bytes : List ℕ) → concat (pieces size n bytes) ≡ take (n * size) bytes
unfolding pieces
pieces_joined size zero bytes = let e : zero * size ≡ 0 = omega arith in sym (ap (λ (k : ℕ). take k bytes) e)
pieces_joined size (suc n) bytes =
    let e : suc n * size ≡ size + n * size = omega arith in
    ap (λ (bs : List ℕ). take size bytes ++ bs) (pieces_joined size n (drop size bytes)) ∙ sym (take-add size (n * size) bytes) ∙ sym (ap (λ (k : ℕ). take k bytes) e)

pieces_count : (size n : ℕ) (bytes : List ℕ) → length (pieces size n bytes) ≡ n
unfolding pieces
pieces_count size zero bytes = refl
pieces_count size (suc n) bytes = ap suc (pieces_count size n (drop size bytes))

pieces_at : (size n : ℕ) (bytes : List ℕ) (k : ℕ) (page : List ℕ) → slice_get (pieces size n bytes) k ≡ Some page → (k < n) × (page ≡ page_in size bytes k)
unfolding pieces
pieces_at size zero bytes k page at = absurd cc
pieces_at size (suc n) bytes zero page at =
    let same : take size bytes ≡ page = cc in
    let none : 0 * size ≡ 0 = omega arith in
    (omega arith, sym same ∙ ap (λ (m : ℕ). take size (drop m bytes)) (sym none))
pieces_at size (suc n) bytes (suc k) page at =
    let rest = pieces_at size n (drop size bytes) k page at in
    let far : suc k * size ≡ size + k * size = omega arith in
    (omega (arith, rest.0), rest.1 ∙ ap (take size) (drop-drop (k * size) size bytes) ∙ sym (ap (λ (m : ℕ). take size (drop m bytes)) far))

get_within : (pages : List (List ℕ)) (k : ℕ) (page : List ℕ) → slice_get pages k ≡ Some page → k < length pages
get_within [] k page at = absurd cc
get_within (p ∷ ps) zero page at = omega arith
get_within (p ∷ ps) (suc k) page at = let lt = get_within ps k page at in omega (arith, lt)

pub get_at : (pages : List (List ℕ)) (k : ℕ) (d : List ℕ) → k < length pages → slice_get pages k ≡ Some (slice_index_or pages k d)
get_at [] k d lt = absurd (omega (arith, lt))
get_at (p ∷ ps) zero d lt = refl
get_at (p ∷ ps) (suc k) d lt = get_at ps k d (omega (arith, lt))

-- whole pages of a kind, and behind them one that is none of it, are those that come first
leading_whole : (kind : SystemKind) (first : ℕ) (t : Stamp) (pages : List (List ℕ)) (cells : List Cell)
    → ((k : ℕ) (page : List ℕ) → slice_get pages k ≡ Some page → slice_get cells k ≡ Some (system_cell kind (first + k) t page))
    → option_and_then (page_bytes kind (first + length pages) t) (slice_get cells (length pages)) ≡ None → leading kind first t cells ≡ pages
unfolding leading
leading_whole kind first t [] [] whole end = refl
leading_whole kind first t [] (c ∷ cs) whole end =
    let place : first + 0 ≡ first = omega arith in
    ap (λ (o : Option (List ℕ)). more o (leading kind (suc first) t cs)) (sym (ap (λ (k : ℕ). page_bytes kind k t c) place) ∙ end)
leading_whole kind first t (p ∷ ps) [] whole end = let bad = whole 0 p refl in absurd cc
leading_whole kind first t (p ∷ ps) (c ∷ cs) whole end =
    let at : Some c ≡ Some (system_cell kind (first + 0) t p) = whole 0 p refl in
    let is : c ≡ system_cell kind (first + 0) t p = cc in
    let place : first + 0 ≡ first = omega arith in
    let here : c ≡ system_cell kind first t p = is ∙ ap (λ (n : ℕ). system_cell kind n t p) place in
    let behind : suc first + length ps ≡ first + suc (length ps) = omega arith in
    let rest : leading kind (suc first) t cs ≡ ps =
    leading_whole kind (suc first) t ps cs
    (λ k page there. let number : first + suc k ≡ suc first + k = omega arith in whole (suc k) page there ∙ ap (λ (n : ℕ). Some (system_cell kind n t page)) number)
    (ap (λ (n : ℕ). option_and_then (page_bytes kind n t) (slice_get cs (length ps))) behind ∙ end) in
    ap (λ (o : Option (List ℕ)). more o (leading kind (suc first) t cs)) (ap (page_bytes kind first t) here ∙ whole_page kind first t p) ∙ ap (λ (xs : List (List ℕ)). p ∷ xs) rest

zeros_are : (n : ℕ) → are_zeros (zeros n) ≡ true
zeros_are zero = refl
zeros_are (suc n) = zeros_are n

seal_read : (n : ℕ) (t : Stamp) (size : ℕ) → is_seal t n (Whole (system_spare (record { kind = Seal; number = n; stamp = t })) (zeros size)) ≡ true
unfolding page_bytes
seal_read n t size =
    let spare = system_spare (record { kind = Seal; number = n; stamp = t }) in
    ap (λ (b : Bool). option_map_or are_zeros (if b then Some (zeros size) else None) false) ((bytes_eq-Decides spare spare).1 refl) ∙ zeros_are size

pub frozen_long : (block : ℕ) (s : State) (bytes : List ℕ) → 0 < block → IsFrozen block s bytes → length bytes ≡ pages_for block s.summary * block
frozen_long block s bytes some h = ap length h.is ∙ written_long 1 (pages_for block s.summary * block) s h.state h.fits (pages_enough block s.summary some)

-- what is at hand when the seal is programmed: the area as it was before the journal pages, and as it is now
pub record IsReady (block count epoch : ℕ) (s : State) (bytes : List ℕ) (kept : List (List ℕ)) (cells now : List Cell) : Type 0 where
  pub some : 0 < block
  pub frozen : IsFrozen block s bytes
  pub count_is : count ≡ pages_for block s.summary
  pub first : said_by_system (system_spare (record { kind = Checkpoint; number = 0; stamp = new_stamp epoch })) ≡ Some (record { kind = Checkpoint; number = 0; stamp = new_stamp epoch })
  pub inside : count + length kept < length now
  pub pages : HasPages block (new_stamp epoch) bytes cells count
  pub behind : IsKeptBehind (new_stamp epoch) count kept (length kept) cells now

pub sealed_anew : (block count epoch : ℕ) (s : State) (bytes : List ℕ) (kept : List (List ℕ)) (cells now : List Cell) → IsReady block count epoch s bytes kept cells now
    → IsNewlySealed block epoch s kept (set now (count + length kept) (system_cell Seal (count + length kept) (new_stamp epoch) (zeros block)))
sealed_anew block count epoch s bytes kept cells now h =
    let t = new_stamp epoch in
    let end = count + length kept in
    let cell = system_cell Seal end t (zeros block) in
    let new = set now end cell in
    let list = pieces block count bytes in
    let size : length list ≡ count = pieces_count block count bytes in
    let place : length list + length kept ≡ end = omega (arith, size) in
    let at : slice_get new end ≡ Some cell = slice_get-set_same now end cell h.inside in
    let is_read : is_seal t end cell ≡ true = seal_read end t block in
    let len = pages_for block s.summary * block in
    let long : count * block ≡ len = ap (λ (n : ℕ). n * block) h.count_is in
    let room : checkpoint_size s.summary ≤ len = pages_enough block s.summary h.some in
    let few : len < checkpoint_size s.summary + block = pages_few block s.summary h.some in
    let some : 0 < count = rw h.count_is (pages_some block s.summary h.some) in
    let other : (k : ℕ) → k < end → slice_get new k ≡ slice_get now k = λ k lt. slice_get-set_other now end k cell (λ same. absurd (omega (arith, same, lt))) in
    let whole : (k : ℕ) → k < count → slice_get new k ≡ Some (system_cell Checkpoint k t (page_in block bytes k)) = λ k lt. other k (omega (arith, lt)) ∙ h.behind.same k lt ∙ h.pages.whole k lt in
    let records : (k : ℕ) (page : List ℕ) → slice_get kept k ≡ Some page → slice_get new (count + k) ≡ Some (system_cell Journal k t page) =
    λ k page there. let within = get_within kept k page there in other (count + k) (omega (arith, within)) ∙ h.behind.journal k page within there in
    let none_behind : option_and_then (page_bytes Checkpoint (0 + length list) t) (slice_get new (length list)) ≡ None =
    ap (λ (n : ℕ). option_and_then (page_bytes Checkpoint (0 + length list) t) (slice_get new n)) size ∙ of_kept kept refl in
    let pages : leading Checkpoint 0 t new ≡ list =
    leading_whole Checkpoint 0 t list new
    (λ k page there.
    let p = pieces_at block count bytes k page there in
    let on : k ≡ 0 + k = omega arith in
    whole k p.0 ∙ ap (λ (bs : List ℕ). Some (system_cell Checkpoint k t bs)) (sym p.1) ∙ ap (λ (n : ℕ). Some (system_cell Checkpoint n t page)) on)
    none_behind in
    let first : leading Journal 0 t (drop (length list) new) ≡ kept =
    leading_whole Journal 0 t kept (drop (length list) new)
    (λ k page there.
    let on : k ≡ 0 + k = omega arith in
    slice_get-drop new (length list) k ∙ ap (λ (n : ℕ). slice_get new (n + k)) size ∙ records k page there ∙ ap (λ (n : ℕ). Some (system_cell Journal n t page)) on)
    (ap (option_and_then (page_bytes Journal (0 + length kept) t)) (slice_get-drop new (length list) (length kept) ∙ ap (slice_get new) place ∙ at) ∙ seal_is_no_record t end (0 + length kept) cell is_read) in
    let first_cell : slice_get new 0 ≡ Some (system_cell Checkpoint 0 t (page_in block bytes 0)) = whole 0 some in
    let behind : AreBlankFrom 0 (drop (suc (length list + length kept)) new) =
    λ k lo hi.
    slice_get-drop new (suc (length list + length kept)) k ∙ slice_get-set_other now end (suc (length list + length kept) + k) cell (λ same. absurd (omega (arith, same, place)))
    ∙ h.behind.blank (suc (length list + length kept) + k) (omega (arith, place)) (omega (arith, hi, length-drop (suc (length list + length kept)) new, length-set now end cell)) in
    let joined : concat list ≡ checkpoint_of 1 len s =
    pieces_joined block count bytes ∙ take_all (count * block) bytes (omega (arith, frozen_long block s bytes h.some h.frozen, long)) ∙ h.frozen.is in
    let told : s ≡ state_in (checkpoint_of 1 len s) = sym (written_told 1 len s h.frozen.state h.frozen.fits room) in
    let summary : summary_in (checkpoint_of 1 len s) ≡ s.summary = sym (summary_told s (checkpoint_of 1 len s) told) in
    record {
      area = record { stamp = t; checkpoint = list; before = length kept; journal = kept ++ [] };
      sealed = sealed_with new t list kept [] (record {
        stamp = ap (option_and_then stamp_of) first_cell ∙ ap (option_and_then first_stamp) h.first;
        pages = pages;
        first = first;
        seal = ap (λ (k : ℕ). option_map_or (is_seal t k) (slice_get new k) false) place ∙ ap (λ (o : Option Cell). option_map_or (is_seal t end) o false) at ∙ is_read;
        records = leading_blank Journal (length kept) t (drop (suc (length list + length kept)) new) behind;
      });
      stamp = refl;
      content = subst (λ (bs : List ℕ). IsCheckpointOf 1 block bs s) (sym joined) (record {
        whole = written_is 1 len s h.frozen.state h.frozen.fits room;
        state = told;
        filled = rw (summary, written_long 1 len s h.frozen.state h.frozen.fits room) few;
      });
      filled = size ∙ h.count_is;
      before = refl;
      journal = append-nil kept;
    }
  where
    -- the page behind the checkpoint pages is the first journal page, or the seal
    of_kept : (pages : List (List ℕ)) → kept ≡ pages
        → option_and_then (page_bytes Checkpoint (0 + length (pieces block count bytes)) (new_stamp epoch)) (slice_get (set now (count + length kept) (system_cell Seal (count + length kept) (new_stamp epoch) (zeros block))) count) ≡ None
    of_kept [] is =
        let t = new_stamp epoch in
        let end = count + length kept in
        let cell = system_cell Seal end t (zeros block) in
        let none : length kept ≡ 0 = ap length is in
        let here : count ≡ end = omega (arith, none) in
        let n = 0 + length (pieces block count bytes) in
        ap (option_and_then (page_bytes Checkpoint n t)) (ap (slice_get (set now end cell)) here ∙ slice_get-set_same now end cell h.inside) ∙ seal_is_no_page t end n cell (seal_read end t block)
    of_kept (page ∷ pages) is =
        let t = new_stamp epoch in
        let end = count + length kept in
        let cell = system_cell Seal end t (zeros block) in
        let n = 0 + length (pieces block count bytes) in
        let there : slice_get kept 0 ≡ Some page = ap (λ (ps : List (List ℕ)). slice_get ps 0) is in
        let within = get_within kept 0 page there in
        let on : count ≡ count + 0 = omega arith in
        let at : slice_get (set now end cell) count ≡ Some (system_cell Journal 0 t page) =
        slice_get-set_other now end count cell (λ same. absurd (omega (arith, same, within))) ∙ ap (slice_get now) on ∙ h.behind.journal 0 page within there in
        ap (option_and_then (page_bytes Checkpoint n t)) at ∙ record_is_no_page t n 0 (system_cell Journal 0 t page) page (whole_page Journal 0 t page)

pub blank_behind : (block count epoch : ℕ) (s : State) (bytes : List ℕ) (kept : List (List ℕ)) (cells now : List Cell) (cell : Cell) → IsReady block count epoch s bytes kept cells now
    → AreBlankFrom (suc (pages_for block s.summary + length kept)) (set now (count + length kept) cell)
blank_behind block count epoch s bytes kept cells now cell h k lo hi =
    slice_get-set_other now (count + length kept) k cell (λ same. absurd (omega (arith, same, lo, h.count_is)))
    ∙ h.behind.blank k (omega (arith, lo, h.count_is)) (omega (arith, hi, length-set now (count + length kept) cell))

pub blank_unsealed : (cells : List Cell) → AreBlankFrom 0 cells → sealed_in cells ≡ None
blank_unsealed cells blank = unsealed cells (blank_no_seal cells blank)
