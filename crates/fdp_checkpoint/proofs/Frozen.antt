-- Pages that are put into room one behind another.
use Rattle.std.proofs.Common.{◌≡◌, ℕ, ◌+◌, ◌-◌, ◌*◌, ◌/◌, ◌<◌, ◌≤◌, List, ◌++◌, drop, length, take, sym, ap, ◌∙◌, arith}
use Rattle.std.proofs.Math.Nat.{add-mul, mul-le-mul_right}
use Rattle.std.proofs.lemmas.List.{length-append, length-drop, length-take}
use Rattle.std.proofs.lemmas.Nat.{div-mul-add}
use Rattle.std.proofs.lemmas.Slice.{take-put_mid}
use borrow.Rule.Slice.PartMut.{put_mid}
use Rattle.fdp_snapshot.proofs.Words.{take-add}
use Rattle.fdp_checkpoint.specs.Writing.{page_in}

-- how many pages the room has
pub room_for : (n block size : ℕ) → 0 < block → size ≡ n * block → size / block ≡ n
room_for n block size some is =
    let none : n * block + 0 ≡ n * block = omega arith in
    ap (λ (m : ℕ). m / block) (is ∙ sym none) ∙ div-mul-add n block 0 some

-- the page with this number is within the room
pub page_within : (n block number size : ℕ) → number < n → size ≡ n * block → number * block + block ≤ size
page_within n block number size lt is =
    let most : (number + 1) * block ≤ n * block = mul-le-mul_right block (omega (arith, lt)) in
    omega (arith, most, is, add-mul number 1 block)

-- one page more is put
pub record IsPut (number block : ℕ) (room page bytes new : List ℕ) : Type 0 where
  pub size : length new ≡ length room
  pub so_far : take ((number + 1) * block) new ≡ take ((number + 1) * block) bytes

pub page_put : (number block : ℕ) (room page bytes : List ℕ) → number * block + block ≤ length room → length page ≡ block → page ≡ page_in block bytes number → take (number * block) room ≡ take (number * block) bytes
    → IsPut number block room page bytes (put_mid (number * block) (number * block + block - number * block) room page)
page_put number block room page bytes inside long is before =
    let start = number * block in
    let next : (number + 1) * block ≡ start + block = omega arith in
    record {
      size = omega (arith, length-append (take start room) (page ++ drop (start + block - start) (drop start room)), length-append page (drop (start + block - start) (drop start room)), length-take start room, length-drop (start + block - start) (drop start room), length-drop start room, long, inside);
      so_far =
          take-put_mid start (start + block - start) room page ((number + 1) * block) (omega (arith, next, long)) (omega (arith, inside)) ∙ ap (λ (xs : List ℕ). xs ++ page) before ∙ ap (λ (xs : List ℕ). take start bytes ++ xs) is
          ∙ sym (take-add start block bytes) ∙ ap (λ (k : ℕ). take k bytes) (sym next);
    }
