-- What the bytes of a checkpoint say is a state that a checkpoint has room for.
use Rattle.std.proofs.Common.{◌≡◌, ◌⊎◌, ℕ, zero, suc, ◌+◌, ◌-◌, ◌*◌, ◌^◌, ◌<◌, ◌≤◌, Bool, true, false, List, [], ◌∷◌, drop, length, map, take, min, Option, Some, None, refl, sym, ap, subst, ◌∙◌, arith, inl, inr, lit<}
use Rattle.std.specs.Prelude.{◌==◌, All, if◌then◌else◌, slice_index}
use Rattle.std.proofs.lemmas.List.{get_or-drop, get_or-take}
use Rattle.std.proofs.lemmas.List.Elements.{All-cons, All-nil}
use Rattle.std.proofs.lemmas.Bool.Decides.{nat_tests}
use Rattle.byteorder.specs.Endian.{little_number}
use Rattle.fdp_base.specs.EventCodes.{kind_code}
use Rattle.fdp_records.specs.Bytes.{◌⊕◌, items, value}
use Rattle.fdp_records.proofs.Telling.{length-items-read}
use Rattle.fdp_snapshot.specs.declared.space.Space.{Space}
use Rattle.fdp_snapshot.specs.declared.state.State.{State}
use Rattle.fdp_snapshot.specs.declared.state.Summary.{Summary}
use Rattle.fdp_snapshot.specs.Checkpoint.{IsState}
use Rattle.fdp_snapshot.specs.Events.{IsPlain, event_at, if_moved, kind_or_first}
use Rattle.fdp_snapshot.specs.Fixed.{IsSummary}
use Rattle.fdp_snapshot.specs.Reading.{page_lists, sizes_of, state_in, summary_in}
use Rattle.fdp_snapshot.specs.Rows.{IsEntry, entry_of, page_by, page_in}
use Rattle.fdp_snapshot.proofs.FixedPart.{all_read, summary_is}

-- each number is that of a byte
pub record AreBytes (bytes : List ℕ) : Type 0 where
  pub below : (k : ℕ) → slice_index bytes k < 256

bytes_behind : (n : ℕ) (bytes : List ℕ) → AreBytes bytes → AreBytes (drop n bytes)
bytes_behind n bytes h = record { below = λ k. rw (get_or-drop n bytes k 0) (h.below (n + k)) }

-- ---- the pages of the blocks

four_bytes : (bytes : List ℕ) → AreBytes bytes → little_number 4 (take 4 bytes) < 2 ^ 32
four_bytes bytes h =
    let a : slice_index (take 4 bytes) 0 < 256 = rw (get_or-take 4 bytes 0 0 (lit< tt)) (h.below 0) in
    let b : slice_index (take 4 bytes) 1 < 256 = rw (get_or-take 4 bytes 1 0 (lit< tt)) (h.below 1) in
    let c : slice_index (take 4 bytes) 2 < 256 = rw (get_or-take 4 bytes 2 0 (lit< tt)) (h.below 2) in
    let d : slice_index (take 4 bytes) 3 < 256 = rw (get_or-take 4 bytes 3 0 (lit< tt)) (h.below 3) in
    omega (arith, a, b, c, d)

entry_is : (n : ℕ) → n < 2 ^ 32 → IsEntry (page_by n)
entry_is n small = of_test (n == 0) refl where
  of_test : (b : Bool) → (n == 0) ≡ b → IsEntry (if b then None else Some (n - 1))
  of_test true is = lit< tt
  of_test false is = grind (arith, nat_tests)

entries_are : (n : ℕ) (bytes : List ℕ) → AreBytes bytes → All IsEntry (items 4 page_in n bytes)
unfolding items
entries_are zero bytes h = All-nil IsEntry
entries_are (suc n) bytes h =
    All-cons IsEntry (page_in (take 4 bytes)) (items 4 page_in n (drop 4 bytes)) (entry_is (little_number 4 (take 4 bytes)) (four_bytes bytes h)) (entries_are n (drop 4 bytes) (bytes_behind 4 bytes h))

lists_are : (ns bytes : List ℕ) → AreBytes bytes → All (λ list. All IsEntry list) (page_lists ns bytes)
unfolding page_lists
lists_are [] bytes h = All-nil (λ (list : List (Option ℕ)). All IsEntry list)
lists_are (n ∷ ns) bytes h =
    All-cons (λ (list : List (Option ℕ)). All IsEntry list) (items 4 page_in n bytes) (page_lists ns (drop (4 * n) bytes)) (entries_are n bytes h) (lists_are ns (drop (4 * n) bytes) (bytes_behind (4 * n) bytes h))

lists_long : (ns bytes : List ℕ) → map length (page_lists ns bytes) ≡ ns
unfolding page_lists
lists_long [] bytes = refl
lists_long (n ∷ ns) bytes = λ i. length-items-read 4 page_in n bytes i ∷ lists_long ns (drop (4 * n) bytes) i

-- ---- events

moved_code : (code : ℕ) → (code == 0x80) ≡ true → kind_code (kind_or_first code) ≡ 0x80
moved_code code is = let same : code ≡ 0x80 = grind (arith, nat_tests) in ap (λ (n : ℕ). kind_code (kind_or_first n)) same

plain_number : (code n : ℕ) → (kind_code (kind_or_first code) ≡ 0x80) ⊎ (if_moved code n ≡ 0)
plain_number code n = of_test (code == 0x80) refl where
  of_test : (b : Bool) → (code == 0x80) ≡ b → (kind_code (kind_or_first code) ≡ 0x80) ⊎ ((if b then n else 0) ≡ 0)
  of_test true is = inl (moved_code code is)
  of_test false is = inr refl

plain_is : (bytes : List ℕ) → IsPlain (event_at bytes)
plain_is bytes = record {
  moved = plain_number (slice_index bytes 0) (value (18 ⊕ 2) bytes);
  lba = plain_number (slice_index bytes 0) (value (20 ⊕ 8) bytes);
}

pub state_is : (bytes : List ℕ) → AreBytes bytes → IsState (state_in bytes)
unfolding state_in summary_in
state_is bytes h = record {
  summary = summary_is bytes;
  host_events = all_read 64 event_at IsPlain (λ row small. plain_is row) (min (slice_index bytes 768) 32) (drop 832 bytes);
  controller_events = all_read 64 event_at IsPlain (λ row small. plain_is row) (min (slice_index bytes 769) 32) (drop 2880 bytes);
  sizes = lists_long (sizes_of (summary_in bytes)) (drop 5120 bytes);
  pages = lists_are (sizes_of (summary_in bytes)) (drop 5120 bytes) (bytes_behind 5120 bytes h);
}

-- what was read of a checkpoint
pub read_is_state : (bytes : List ℕ) (summary : Summary) (pages : List (List (Option ℕ))) → summary ≡ summary_in bytes → pages ≡ page_lists (sizes_of (summary_in bytes)) (drop 5120 bytes) → AreBytes bytes
    → IsState (record { summary = summary; pages = pages })
unfolding state_in
read_is_state bytes summary pages a b h =
    let e : record { summary = summary; pages = pages } ≡ state_in bytes = λ i. record { summary = a i; pages = b i } in
    subst IsState (sym e) (state_is bytes h)
