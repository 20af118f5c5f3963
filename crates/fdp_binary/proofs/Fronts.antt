-- Head and entry are 80 bytes, which say them.
use Rattle.std.proofs.Common.{◌≡◌, ℕ, ◌+◌, ◌%◌, ◌^◌, ◌<◌, ◌≤◌, Bool, true, false, ◌&&◌, IsTrue, leb, eqb, List, [], ◌∷◌, ◌++◌, length, take, drop, replicate, refl, sym, ap, ◌∙◌, arith, append_assoc, Some, None, inl, inr}
use Rattle.std.specs.Prelude.{not, slice_index}
use Rattle.std.specs.List.{list_any}
use Rattle.std.specs.Int.{to_le_bytes, from_le_bytes, w32}
use Rattle.std.proofs.lemmas.Bool.{cases_Bool, leb-true}
use Rattle.std.proofs.lemmas.Bool.Decides.{nat_tests}
use Rattle.std.proofs.lemmas.Nat.{from_le_bytes-to_le_bytes_4}
use Rattle.std.proofs.lemmas.List.{length-append, length-replicate, take_at, drop_at, take-append-drop}
use Rattle.std.proofs.Math.Seq.{take-add}
use Rattle.byteorder.specs.Endian.{little_bytes}
use Rattle.byteorder.specs.Numbers.{length-bytes_low_first}
use Rattle.fdp_base.specs.EventCodes.{bit}
use Rattle.fdp_layouts.specs.declared.range.DsmRange.{DsmRange}
use Rattle.fdp_layouts.specs.declared.submission.Sqe.{Sqe}
use Rattle.fdp_layouts.specs.Frame.{Field, Fits, ascend, bits_of, filled, frame_of, covers, fault_of, first_reserved, is_stray, numbers_in, packed, placed, size, spans_of}
use Rattle.fdp_layouts.specs.declared.bad_frame.BadFrame.{BadFrame}
use Rattle.fdp_layouts.proofs.Search.{finds_none}
use Rattle.fdp_layouts.specs.Range.{dsm_range, dsm_range_numbers}
use Rattle.fdp_layouts.specs.Submission.{sqe, sqe_numbers}
use Rattle.fdp_layouts.proofs.Decoding.{again}
use Rattle.fdp_layouts.proofs.Filling.{length-placed}
use Rattle.fdp_layouts.proofs.RangeApart.{dsm_range_by_numbers}
use Rattle.fdp_layouts.proofs.SubmissionApart.{sqe_by_numbers}
use Rattle.fdp_queues.specs.Entry.{entry_bytes}
use Rattle.fdp_queues.proofs.Data.{length-entry}
use Rattle.fdp_binary.specs.declared.front.Front.{Front}
use Rattle.fdp_binary.specs.Front.{Begins, IsEntry, IsHead, IsSound, front_bytes, head}
use Rattle.fdp_binary.proofs.Laid.{same-front}

-- ---- how long they are

pub length-head : (admin : Bool) (len : ℕ) → length (head admin len) ≡ 16
length-head admin len = refl

pub length-front : (f : Front) → length (front_bytes f) ≡ 80
length-front f = length-append (head f.admin f.len) (entry_bytes f.entry) ∙ ap (λ (n : ℕ). 16 + n) (length-entry f.entry)

-- ---- what they say

bit_of : List ℕ → ℕ
bit_of [] = 0
bit_of (b ∷ bs) = b

same-bit : (a b : Bool) → bit a ≡ bit b → a ≡ b
same-bit true true e = refl
same-bit false false e = refl
same-bit true false e = absurd (omega (arith, e))
same-bit false true e = absurd (omega (arith, e))

one_head : (a b : Bool) (m n : ℕ) → m < 2 ^ 32 → n < 2 ^ 32 → head a m ≡ head b n → (a ≡ b) × (m ≡ n)
unfolding bit_of
one_head a b m n sm sn e =
    let first : bit a ≡ bit b = ap bit_of e in
    let word : to_le_bytes w32 m ≡ to_le_bytes w32 n = ap (λ (t : List ℕ). take 4 (drop 4 t)) e in
    (same-bit a b first, sym (from_le_bytes-to_le_bytes_4 m sm) ∙ ap (from_le_bytes w32) word ∙ from_le_bytes-to_le_bytes_4 n sn)

one_frame_of : (len : ℕ) (fields : List Field) (vss wss : List (List ℕ)) → IsTrue (ascend 0 len fields) → Fits fields vss → Fits fields wss → frame_of len fields vss ≡ frame_of len fields wss → vss ≡ wss
one_frame_of len fields vss wss asc fv fw same = sym (again len fields vss asc fv).0 ∙ ap (numbers_in fields) same ∙ (again len fields wss asc fw).0

pub one_entry : (e g : Sqe) → Fits sqe (sqe_numbers e) → Fits sqe (sqe_numbers g) → entry_bytes e ≡ entry_bytes g → e ≡ g
one_entry e g fe fg same = sqe_by_numbers e g (one_frame_of 64 sqe (sqe_numbers e) (sqe_numbers g) refl fe fg same)

pub one_range : (r s : DsmRange) → Fits dsm_range (dsm_range_numbers r) → Fits dsm_range (dsm_range_numbers s) → frame_of 16 dsm_range (dsm_range_numbers r) ≡ frame_of 16 dsm_range (dsm_range_numbers s) → r ≡ s
one_range r s fr fs same = dsm_range_by_numbers r s (one_frame_of 16 dsm_range (dsm_range_numbers r) (dsm_range_numbers s) refl fr fs same)

-- bytes begin with one head and entry
pub one_front : (f g : Front) → IsSound f → IsSound g → front_bytes f ≡ front_bytes g → f ≡ g
one_front f g sf sg same =
    let cut = same-front (head f.admin f.len) (head g.admin g.len) (entry_bytes f.entry) (entry_bytes g.entry) refl same in
    let h = one_head f.admin g.admin f.len g.len sf.short sg.short cut.0 in
    let e = one_entry f.entry g.entry sf.fits sg.fits cut.1 in
    λ i. record { admin = h.0 i; len = h.1 i; entry = e i }

pub begins-one : (f g : Front) (bytes : List ℕ) → Begins f bytes → Begins g bytes → f ≡ g
begins-one f g bytes bf bg = one_front f g bf.sound bg.sound (sym bf.is ∙ bg.is)

-- head and entry in front of anything
pub begins-front : (f : Front) (bytes tail : List ℕ) → IsSound f → bytes ≡ front_bytes f ++ tail → Begins f bytes
begins-front f bytes tail sound whole = record { sound = sound; is = ap (take 80) whole ∙ take_at (front_bytes f) tail 80 (length-front f) }

pub begins-tail : (f : Front) (bytes : List ℕ) → Begins f bytes → bytes ≡ front_bytes f ++ drop 80 bytes
begins-tail f bytes b = sym (take-append-drop 80 bytes) ∙ ap (λ (t : List ℕ). t ++ drop 80 bytes) b.is

-- the first 16 bytes are a head, and the 64 behind them an entry
pub begins-both : (admin : Bool) (len : ℕ) (e : Sqe) (bytes : List ℕ) → 80 ≤ length bytes → IsHead (take 16 bytes) admin len → IsEntry (take 64 (drop 16 bytes)) e → Begins (record { admin = admin; len = len; entry = e }) bytes
begins-both admin len e bytes enough h en = record {
  sound = record { short = h.0; fits = en.0 };
  is = take-add 16 64 bytes ∙ ap (λ (t : List ℕ). t ++ take 64 (drop 16 bytes)) h.1 ∙ ap (λ (t : List ℕ). head admin len ++ t) en.1;
}

pub begins-head : (f : Front) (bytes : List ℕ) → Begins f bytes → IsHead (take 16 bytes) f.admin f.len
begins-head f bytes b =
    (b.sound.short, ap (take 16) (begins-tail f bytes b ∙ append_assoc (head f.admin f.len) (entry_bytes f.entry) (drop 80 bytes)) ∙ take_at (head f.admin f.len) (entry_bytes f.entry ++ drop 80 bytes) 16 refl)

pub begins-entry : (f : Front) (bytes : List ℕ) → Begins f bytes → IsEntry (take 64 (drop 16 bytes)) f.entry
begins-entry f bytes b = (
  b.sound.fits,
  ap (λ (t : List ℕ). take 64 (drop 16 t)) (begins-tail f bytes b ∙ append_assoc (head f.admin f.len) (entry_bytes f.entry) (drop 80 bytes))
      ∙ ap (take 64) (drop_at (head f.admin f.len) (entry_bytes f.entry ++ drop 80 bytes) 16 refl)
      ∙ take_at (entry_bytes f.entry) (drop 80 bytes) 64 (length-entry f.entry),
)

-- ---- a range is never refused

covered : (i : ℕ) → i < 16 → list_any (covers i) (spans_of dsm_range) ≡ true
covered i lt = grind (arith, nat_tests)

no-stray : (b : ℕ) (any : Bool) → any ≡ true → (not (eqb b 0) && not any) ≡ false
no-stray b true h = elim (cases_Bool (eqb b 0)) [ inl here ↦ rw here refl | inr there ↦ rw there refl ]
no-stray b false h = absurd cc

pub no-bad-range : (bytes : List ℕ) (e : BadFrame) → fault_of 16 dsm_range bytes ≡ Some e → ⊥
unfolding first_reserved
no-bad-range bytes e fault =
    let none : first_reserved 16 (spans_of dsm_range) bytes ≡ None = finds_none (is_stray (spans_of dsm_range) bytes) 0 16 (λ i lo hi. no-stray (slice_index bytes i) (list_any (covers i) (spans_of dsm_range)) (covered i (omega arith))) in
    let clash : fault_of 16 dsm_range bytes ≡ None = rw none refl in
    cc
