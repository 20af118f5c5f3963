-- The fields of an entry are read back from the words that are printed of them.
use Rattle.std.proofs.Common.{◌≡◌, ℕ, ◌+◌, ◌%◌, ◌^◌, ◌<◌, ◌≤◌, Bool, true, false, ◌&&◌, nat_le, List, [], ◌∷◌, ◌++◌, map, refl, ap, ◌∙◌, arith, append_assoc, Result, Ok, Some}
use Rattle.std.specs.Prelude.{decimal, ◌==◌}
use Rattle.std.specs.List.{AllByRecursion, before_first, after_first}
use Rattle.std.proofs.lemmas.Bool.Decides.{nat_tests}
use Rattle.std.proofs.lemmas.Fmt.{decimal_by_steps}
use Rattle.fdp_base.specs.declared.entry.BlockName.{BlockName}
use Rattle.fdp_base.specs.declared.entry.Spot.{Spot}
use Rattle.fdp_base.specs.declared.status.Status.{Status}
use Rattle.fdp_base.specs.EventCodes.{bit}
use Rattle.fdp_base.specs.Text.{hex, status_text}
use Rattle.fdp_output.specs.HistoryText.{block_word}
use Rattle.fdp_trace.specs.declared.fault.FaultKind.{FaultKind}
use Rattle.fdp_trace.specs.Reader.NumberOf.{number_of}
use Rattle.fdp_trace.specs.Reader.Reading.{◌>>=◌, bounded, field, within}
use Rattle.fdp_trace.proofs.Numerals.{number_is}
use Rattle.fdp_trace.proofs.Spelling.{number_back}
use Rattle.fdp_prints.specs.Told.{IsToldName, IsToldSpot}
use Rattle.fdp_prints.specs.Reader.{Words, dword_field, flag, is_colon, name_in, names_in, spot_field, status_field, status_in}
use Rattle.fdp_prints.proofs.Cutting.{HasNone, after-is, before-is, none-append}
use Rattle.fdp_prints.proofs.Digits.{byte-fits, digit-fits, dword-fits, within-hex}

-- ---- numbers

within-test : (high n : ℕ) → n ≤ high → (nat_le 0 n && nat_le n high) ≡ true
within-test high n le = grind (arith, nat_tests)

pub within-back : (high n : ℕ) → n ≤ high → high < 2 ^ 64 → within 0 high (decimal n) ≡ Ok n
within-back high n le small =
    let is : number_of (decimal n) ≡ Some n = number_is (decimal n) n (number_back n (omega (arith, le, small))) in
    let test = within-test high n le in
    ap (bounded 0 high) is ∙ rw test refl

pub field-back : (high n : ℕ) (ws : Words) → n ≤ high → high < 2 ^ 64 → field 0 high (decimal n ∷ ws) ≡ Ok (n, ws)
unfolding field
field-back high n ws le small = ap (λ (r : Result ℕ FaultKind). r >>= λ n. Ok (n, ws)) (within-back high n le small)

pub flag-back : (b : Bool) (ws : Words) → flag (decimal (bit b) ∷ ws) ≡ Ok (b, ws)
unfolding flag
flag-back true ws = ap (λ (r : Result (ℕ × Words) FaultKind). r >>= λ x. Ok (x.0 == 1, x.1)) (field-back 1 1 ws (omega arith) (omega arith))
flag-back false ws = ap (λ (r : Result (ℕ × Words) FaultKind). r >>= λ x. Ok (x.0 == 1, x.1)) (field-back 1 0 ws (omega arith) (omega arith))

pub dword-back : (n : ℕ) (ws : Words) → n < 2 ^ 32 → dword_field (hex 8 n ∷ ws) ≡ Ok (n, ws)
unfolding dword_field
dword-back n ws lt = ap (λ (r : Result ℕ FaultKind). r >>= λ n. Ok (n, ws)) (within-hex 8 n 4294967295 (dword-fits n lt) (omega (arith, lt)) (omega (arith, lt)))

-- ---- a status

status-word : (s : Status) → s.sct < 16 → s.sc < 256 → status_in (status_text s) ≡ Ok s
unfolding status_in hex
status-word s low small =
    let front = within-hex 1 s.sct 15 (digit-fits s.sct low) (omega (arith, low)) (omega (arith, low)) in
    let back = within-hex 2 s.sc 255 (byte-fits s.sc small) (omega (arith, small)) (omega (arith, small)) in
    rw (front, back) refl

pub status-back : (s : Status) (ws : Words) → s.sct < 16 → s.sc < 256 → status_field (status_text s ∷ ws) ≡ Ok (s, ws)
unfolding status_field
status-back s ws low small = ap (λ (r : Result Status FaultKind). r >>= λ status. Ok (status, ws)) (status-word s low small)

-- ---- names of blocks and of pages

-- decimal digits have no colon
no_colon : (n : ℕ) → n < 2 ^ 64 → HasNone 58 (decimal n)
no_colon n lt = decimal_by_steps (λ (n : ℕ) (ds : List ℕ). HasNone 58 ds) (λ n small. (λ same. omega (arith, same, small), tt)) (λ n ds big h. none-append 58 ds ((48 + n % 10) ∷ []) h (λ same. omega (arith, same), tt)) n lt

pub name-back : (b : BlockName) → IsToldName b → name_in (block_word b) ≡ Ok b
unfolding name_in
name-back b told =
    let none = no_colon b.nsid (omega (arith, told.nsid)) in
    let word : block_word b ≡ decimal b.nsid ++ 58 ∷ decimal b.lba = append_assoc (decimal b.nsid) (58 ∷ []) (decimal b.lba) in
    let front : before_first is_colon (block_word b) ≡ decimal b.nsid = ap (before_first is_colon) word ∙ before-is 58 (decimal b.nsid) (decimal b.lba) none in
    let back : after_first is_colon (block_word b) ≡ decimal b.lba = ap (after_first is_colon) word ∙ after-is 58 (decimal b.nsid) (decimal b.lba) none in
    let n = within-back 4294967295 b.nsid (omega (arith, told.nsid)) (omega arith) in
    let l = within-back 18446744073709551615 b.lba (omega (arith, told.lba)) (omega arith) in
    rw (front, back, n, l) refl

pub names-back : (bs : List BlockName) → AllByRecursion IsToldName bs → names_in (map block_word bs) ≡ Ok bs
unfolding names_in
names-back [] told = refl
names-back (b ∷ bs) told = let first = name-back b told.0 in let rest = names-back bs told.1 in rw (first, rest) refl

pub spot-back : (s : Spot) (ws : Words) → IsToldSpot s → spot_field (decimal s.unit ∷ decimal s.page ∷ ws) ≡ Ok (s, ws)
unfolding spot_field
spot-back s ws told =
    let u = field-back 4294967295 s.unit (decimal s.page ∷ ws) (omega (arith, told.unit)) (omega arith) in
    let p = field-back 4294967295 s.page ws (omega (arith, told.page)) (omega arith) in
    rw (u, p) refl
