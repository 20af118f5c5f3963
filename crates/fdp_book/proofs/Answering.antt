-- Bytes that are written into a buffer of zeros, piece by piece.
use Rattle.std.proofs.Common.{◌≡◌, ℕ, zero, suc, ◌+◌, ◌-◌, ◌*◌, ◌<◌, ◌≤◌, List, [], ◌∷◌, ◌++◌, length, drop, get_or, slice_set, take, refl, ap, sym, ◌∙◌, subst, append_assoc, add-one, arith, drop-cons, length-append}
use Rattle.std.specs.Prelude.{Bool, None, flat_map, if◌then◌else◌}
use Rattle.std.proofs.lemmas.Bool.{le-leb}
use Rattle.std.specs.List.{enumerate_from}
use Rattle.std.proofs.Math.ListN.{length-set}
use Rattle.std.proofs.lemmas.List.{append-nil, drop_all, take_all}
use Rattle.fdp_base.specs.Numbers.{numbers_below, numbers_from}
use Rattle.fdp_base.proofs.Sums.{rest_end, rest_next, rest_of}
use Rattle.fdp_base.specs.declared.command.Command.TheVariants as commands
use Rattle.fdp_base.specs.declared.command.HandleStatus.{HandleStatus}
use Rattle.fdp_base.specs.declared.entry.Reply.{Reply}
use Rattle.fdp_base.specs.declared.limits.TheConstants.{MOST_DWORDS}
use Rattle.fdp_book.specs.declared.room.Replies.{Replies}
use Rattle.fdp_book.specs.Answering.{IsAnswer, IsFilled, filled}
use Rattle.fdp_book.specs.Book.{BookSeen, point_in, state_in}
use Rattle.fdp_book.specs.Room.{IsTwice, bytes_of_dwords, read_reply}
use Rattle.fdp_book.proofs.Histories.Accepted.{accepted-status}
use Rattle.fdp_rules.specs.Answer.{data_of}
use Rattle.fdp_rules.specs.LogPages.{handle_status, zeros}
use Rattle.fdp_rules.specs.Refusal.{refusal_of}

-- ---- a byte

take-zeros : (n m : ℕ) → n ≤ m → take n (zeros m) ≡ zeros n
take-zeros zero m few = refl
take-zeros (suc n) zero few = absurd (omega (arith, few))
take-zeros (suc n) (suc m) few = ap (λ (xs : List ℕ). 0 ∷ xs) (take-zeros n m (omega (arith, few)))

set-filled : (n m k x : ℕ) (bytes : List ℕ) → n ≤ length bytes + m → n ≤ length bytes + 1 + k → slice_set (take n (bytes ++ zeros m)) (length bytes) x ≡ take n (bytes ++ x ∷ zeros k)
set-filled zero m k x [] few less = refl
set-filled (suc n) zero k x [] few less = absurd (omega (arith, few))
set-filled (suc n) (suc m) k x [] few less = ap (λ (xs : List ℕ). x ∷ xs) (take-zeros n m (omega (arith, few)) ∙ sym (take-zeros n k (omega (arith, less))))
set-filled zero m k x (y ∷ ys) few less = refl
set-filled (suc n) m k x (y ∷ ys) few less = ap (λ (xs : List ℕ). y ∷ xs) (set-filled n m k x ys (omega (arith, few)) (omega (arith, less)))

-- one more byte
pub filled-byte : (old new : List ℕ) (at x : ℕ) (bytes : List ℕ) → new ≡ slice_set old at x → IsFilled old at bytes → IsFilled new (at + 1) (bytes ++ x ∷ [])
filled-byte old new at x bytes is h =
    let size : length new ≡ length old = ap (λ (xs : List ℕ). length xs) is ∙ length-set old at x in
    let put : slice_set old at x ≡ filled (length old) (bytes ++ x ∷ []) =
    ap (λ (k : ℕ). slice_set old k x) h.place_is
    ∙ ap (λ (xs : List ℕ). slice_set xs (length bytes) x) h.buffer_is
    ∙ set-filled (length old) (length old) (length old) x bytes (omega arith) (omega arith)
    ∙ ap (take (length old)) (sym (append_assoc bytes (x ∷ []) (zeros (length old)))) in
    record {
      buffer_is = is ∙ put ∙ ap (λ (k : ℕ). filled k (bytes ++ x ∷ [])) (sym size);
      place_is = omega (arith, h.place_is, length-append bytes (x ∷ []));
    }

-- nothing yet
pub filled-none : (buffer : List ℕ) → buffer ≡ zeros (length buffer) → IsFilled buffer 0 []
filled-none buffer is = record { buffer_is = is ∙ sym (take-zeros (length buffer) (length buffer) (omega arith)); place_is = refl }

-- ---- pieces, by number

-- a buffer has what was written, which with what is left comes to the whole
pub record IsWritten (piece : ℕ → List ℕ) (n i : ℕ) (start buffer : List ℕ) (at : ℕ) : Type 0 where
  pub out : List ℕ
  pub holds : IsFilled buffer at out
  pub value : out ++ flat_map piece (rest_of i n) ≡ start ++ flat_map piece (numbers_below n)

pub written-first : (piece : ℕ → List ℕ) (n : ℕ) (start buffer : List ℕ) (at : ℕ) → IsFilled buffer at start → IsWritten piece n 0 start buffer at
written-first piece n start buffer at h =
    let whole : n - 0 ≡ n = omega arith in
    record { out = start; holds = h; value = ap (λ (k : ℕ). start ++ flat_map piece (numbers_from 0 k)) whole }

pub written-next : (piece : ℕ → List ℕ) (n i : ℕ) (start buffer new : List ℕ) (at end : ℕ) (frame : List ℕ) → i < n → frame ≡ piece i → ((bytes : List ℕ) → IsFilled buffer at bytes → IsFilled new end (bytes ++ frame)) → IsWritten piece n i start buffer at → IsWritten piece n (i + 1) start new end
written-next piece n i start buffer new at end frame below is puts h = record {
  out = h.out ++ frame;
  holds = puts h.out h.holds;
  value = append_assoc h.out frame (flat_map piece (rest_of (i + 1) n))
      ∙ ap (λ (xs : List ℕ). h.out ++ (xs ++ flat_map piece (rest_of (i + 1) n))) is
      ∙ ap (λ (xs : List ℕ). h.out ++ flat_map piece xs) (sym (rest_next i n below)) ∙ h.value;
}

pub written-end : (piece : ℕ → List ℕ) (n i : ℕ) (start buffer : List ℕ) (at : ℕ) → n ≤ i → IsWritten piece n i start buffer at → IsFilled buffer at (start ++ flat_map piece (numbers_below n))
written-end piece n i start buffer at past h =
    let is : h.out ≡ start ++ flat_map piece (numbers_below n) = sym (append-nil h.out) ∙ ap (λ (xs : List ℕ). h.out ++ flat_map piece xs) (sym (rest_end i n past)) ∙ h.value in
    subst (IsFilled buffer at) is h.holds

-- ---- and by the elements of a list, with their places

pub record IsWrittenOf (piece : (ℕ × ℕ) → List ℕ) (xs : List ℕ) (i : ℕ) (start buffer : List ℕ) (at : ℕ) : Type 0 where
  pub out : List ℕ
  pub holds : IsFilled buffer at out
  pub value : out ++ flat_map piece (enumerate_from i (drop i xs)) ≡ start ++ flat_map piece (enumerate_from 0 xs)

pub written_of-first : (piece : (ℕ × ℕ) → List ℕ) (xs start buffer : List ℕ) (at : ℕ) → IsFilled buffer at start → IsWrittenOf piece xs 0 start buffer at
written_of-first piece xs start buffer at h = record { out = start; holds = h; value = refl }

pub written_of-next : (piece : (ℕ × ℕ) → List ℕ) (xs : List ℕ) (i : ℕ) (start buffer new : List ℕ) (at end d : ℕ) → i < length xs → ((bytes : List ℕ) → IsFilled buffer at bytes → IsFilled new end (bytes ++ piece (i, get_or xs i d))) → IsWrittenOf piece xs i start buffer at → IsWrittenOf piece xs (i + 1) start new end
written_of-next piece xs i start buffer new at end d below puts h =
    let x = get_or xs i d in
    let rest : drop i xs ≡ x ∷ drop (i + 1) xs = rw (add-one) (drop-cons xs i d below) in
    record {
      out = h.out ++ piece (i, x);
      holds = puts h.out h.holds;
      value = append_assoc h.out (piece (i, x)) (flat_map piece (enumerate_from (i + 1) (drop (i + 1) xs)))
          ∙ ap (λ (ys : List ℕ). h.out ++ flat_map piece (enumerate_from i ys)) (sym rest) ∙ h.value;
    }

pub written_of-end : (piece : (ℕ × ℕ) → List ℕ) (xs : List ℕ) (i : ℕ) (start buffer : List ℕ) (at : ℕ) → length xs ≤ i → IsWrittenOf piece xs i start buffer at → IsFilled buffer at (start ++ flat_map piece (enumerate_from 0 xs))
written_of-end piece xs i start buffer at past h =
    let is : h.out ≡ start ++ flat_map piece (enumerate_from 0 xs) = sym (append-nil h.out) ∙ ap (λ (ys : List ℕ). h.out ++ flat_map piece (enumerate_from i ys)) (sym (drop_all i xs past)) ∙ h.value in
    subst (IsFilled buffer at) is h.holds

-- ---- a frame, byte by byte

-- the first bytes of a frame were written from a place on
pub record IsPut (old new : List ℕ) (at count : ℕ) (frame : List ℕ) : Type 0 where
  pub size : length new ≡ length old
  pub bytes : (bytes : List ℕ) → IsFilled old at bytes → IsFilled new (at + count) (bytes ++ take count frame)

pub put-none : (buffer : List ℕ) (at : ℕ) (frame : List ℕ) → IsPut buffer buffer at 0 frame
put-none buffer at frame = record {
  size = refl;
  bytes = λ bytes h. subst (λ (xs : List ℕ). IsFilled buffer (at + 0) xs) (sym (append-nil bytes)) (record { buffer_is = h.buffer_is; place_is = omega (arith, h.place_is) });
}

pub put-next : (old now new : List ℕ) (at count x : ℕ) (frame : List ℕ) → take (count + 1) frame ≡ take count frame ++ x ∷ [] → new ≡ slice_set now (at + count) x → IsPut old now at count frame → IsPut old new at (count + 1) frame
put-next old now new at count x frame more is h = record {
  size = ap (λ (xs : List ℕ). length xs) is ∙ length-set now (at + count) x ∙ h.size;
  bytes = λ bytes holds.
      let next : IsFilled new (at + count + 1) ((bytes ++ take count frame) ++ x ∷ []) = filled-byte now new (at + count) x (bytes ++ take count frame) is (h.bytes bytes holds) in
      let joined : (bytes ++ take count frame) ++ x ∷ [] ≡ bytes ++ take (count + 1) frame = append_assoc bytes (take count frame) (x ∷ []) ∙ ap (λ (xs : List ℕ). bytes ++ xs) (sym more) in
      subst (λ (xs : List ℕ). IsFilled new (at + (count + 1)) xs) joined (record { buffer_is = next.buffer_is; place_is = omega (arith, next.place_is) });
}

-- ---- descriptors of the same size, one after another

-- so many were written from a place on
pub record ArePut (piece : ℕ → List ℕ) (size n i : ℕ) (old buffer : List ℕ) (at end : ℕ) : Type 0 where
  pub place : end ≡ at + size * i
  pub length_is : length buffer ≡ length old
  pub bytes : (bytes : List ℕ) → IsFilled old at bytes → IsWritten piece n i bytes buffer end

pub put-first : (piece : ℕ → List ℕ) (size n : ℕ) (buffer : List ℕ) (at : ℕ) → ArePut piece size n 0 buffer buffer at at
put-first piece size n buffer at = record { place = omega arith; length_is = refl; bytes = λ bytes h. written-first piece n bytes buffer at h }

pub put-another : (piece : ℕ → List ℕ) (size n i : ℕ) (old buffer new : List ℕ) (at end next : ℕ) (frame : List ℕ) → i < n → frame ≡ piece i → next ≡ end + size → length new ≡ length buffer → ((bytes : List ℕ) → IsFilled buffer end bytes → IsFilled new next (bytes ++ frame)) → ArePut piece size n i old buffer at end → ArePut piece size n (i + 1) old new at next
put-another piece size n i old buffer new at end next frame below is place same puts h = record {
  place = omega (arith, place, h.place);
  length_is = same ∙ h.length_is;
  bytes = λ bytes holds. written-next piece n i bytes buffer new end next frame below is puts (h.bytes bytes holds);
}

-- and those of the elements of a list
pub record ArePutOf (piece : (ℕ × ℕ) → List ℕ) (xs : List ℕ) (i : ℕ) (start old buffer : List ℕ) (end : ℕ) : Type 0 where
  pub near : end ≤ 16 + 512 * i
  pub length_is : length buffer ≡ length old
  pub written : IsWrittenOf piece xs i start buffer end

-- ---- a handle status

-- a buffer whose bytes were all written
pub kept-buffer : (xs old : List ℕ) (n : ℕ) → length old ≡ n → length xs ≡ length old → take n (xs ++ drop (length xs) old) ≡ xs
kept-buffer xs old n len same = ap (take n) (ap (λ (ys : List ℕ). xs ++ ys) (drop_all (length xs) old (omega (arith, same))) ∙ append-nil xs) ∙ take_all n xs (omega (arith, len, same))

-- the answer to one that is accepted: as much of the status as was asked for
pub status-answer : (b : BookSeen) (s : HandleStatus) (r : Replies) (bytes : List ℕ) → refusal_of b.config (point_in b) (commands.Status s) ≡ None → IsTwice (read_reply bytes) r → bytes ≡ filled (bytes_of_dwords s.dwords) (handle_status b.config (state_in b) s.nsid) → IsAnswer b (commands.Status s) r
status-answer b s r bytes accepted twice is =
    let few : s.dwords ≤ MOST_DWORDS = accepted-status b.config (point_in b) s.nsid s.mo s.dwords accepted in
    let whole : bytes_of_dwords s.dwords ≡ 4 * s.dwords = ap (λ (t : Bool). if t then 4 * s.dwords else 0) (le-leb s.dwords MOST_DWORDS few) in
    let told : r.history.bytes ≡ data_of b.config (point_in b) (commands.Status s) =
    ap (λ (x : Reply). x.bytes) twice.history_is ∙ is ∙ ap (λ (n : ℕ). filled n (handle_status b.config (state_in b) s.nsid)) whole in
    record {
      success = λ tells. record {
        status = ap (λ (x : Reply). x.status) twice.history_is;
        dword0 = ap (λ (x : Reply). x.dw0) twice.history_is;
        size = ap (λ (xs : List ℕ). length xs) told;
        bytes_are = λ _. told;
        applied = ap (λ (x : Reply). x.applied) twice.history_is;
      };
      same = twice.answer_is ∙ sym twice.history_is;
    }
