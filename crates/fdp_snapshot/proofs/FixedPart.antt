-- The fields of the fixed part follow one another within 5,120 bytes.
use Rattle.std.proofs.Common.{◌≡◌, ℕ, zero, suc, ◌≤◌, List, ◌++◌, length, take, drop, get_or, min, refl, arith, lit≤}
use Rattle.std.specs.Prelude.{All}
use Rattle.std.proofs.lemmas.List.{length-drop, length-replicate, length-take}
use Rattle.fdp_rules.specs.LogPages.{event_bytes}
use Rattle.fdp_records.specs.Bytes.{◌⊕◌, Piece, items, value}
use Rattle.fdp_records.proofs.Laying.{Ascends, length-items, length-laid}
use Rattle.fdp_records.proofs.Telling.{length-items-read}
use Rattle.std.proofs.lemmas.List.Elements.{All-cons, All-nil}
use Rattle.fdp_snapshot.specs.declared.keys.HandleRow.{HandleRow}
use Rattle.fdp_snapshot.specs.declared.state.Summary.{Summary}
use Rattle.fdp_snapshot.specs.Events.{event_at}
use Rattle.fdp_snapshot.specs.Fixed.{IsSummary, fixed_of, head_pieces, key_pieces, list_pieces}
use Rattle.fdp_snapshot.specs.Lengths.{event_long, space_long}
use Rattle.fdp_snapshot.specs.Reading.{summary_in}
use Rattle.fdp_snapshot.specs.Rows.{IsSpaceRow, configuration_bytes, configuration_in, space_bytes, space_in, zeros}
use Rattle.fdp_snapshot.proofs.Spaces.{row_is}

abbrev pub fixed_pieces : ℕ → Summary → List Piece
fixed_pieces version s = head_pieces version s ++ key_pieces s.keys ++ list_pieces s

lists_ascend : (s : Summary) → IsSummary s → length s.masks ≡ 16 → Ascends 112 5120 (list_pieces s)
unfolding Ascends
lists_ascend s is masks =
    let places = length-items space_bytes 40 space_long s.spaces in
    let hosts = length-items event_bytes 64 event_long s.host_events in
    let controllers = length-items event_bytes 64 event_long s.controller_events in
    (lit≤ tt, (omega (arith, masks), (omega (arith, places, is.places), (lit≤ tt, (lit≤ tt, (omega (arith, hosts, is.host_count), omega (arith, controllers, is.controller_count)))))))

keys_ascend : (s : Summary) → IsSummary s → length s.masks ≡ 16 → Ascends 64 5120 (key_pieces s.keys ++ list_pieces s)
unfolding Ascends
keys_ascend s is masks =
    let rows = length-items configuration_bytes 4 (λ (x : HandleRow). refl) s.keys.configurations in
    let rest = lists_ascend s is masks in
    (lit≤ tt, (lit≤ tt, (lit≤ tt, (lit≤ tt, (lit≤ tt, (lit≤ tt, (lit≤ tt, (lit≤ tt, (lit≤ tt, (omega (arith, rows, is.configurations), rest.1))))))))))

pub fixed_ascends : (version : ℕ) (s : Summary) → IsSummary s → length s.masks ≡ 16 → Ascends 0 5120 (fixed_pieces version s)
unfolding Ascends
fixed_ascends version s is masks =
    let rest = keys_ascend s is masks in
    (lit≤ tt, (lit≤ tt, (lit≤ tt, (lit≤ tt, (lit≤ tt, (lit≤ tt, (lit≤ tt, (lit≤ tt, (lit≤ tt, (lit≤ tt, rest.1))))))))))

pub fixed_long : (version : ℕ) (s : Summary) → IsSummary s → length s.masks ≡ 16 → length (fixed_of version s) ≡ 5120
unfolding fixed_of
fixed_long version s is masks = length-laid 0 5120 (fixed_pieces version s) (zeros 5120) (length-replicate {A = ℕ} 5120 0) (fixed_ascends version s is masks)

-- ---- what is read is a summary

pub all_read : {X : Type 0} (w : ℕ) (read : List ℕ → X) (P : X → Type 0) → ((bytes : List ℕ) → length bytes ≤ w → P (read bytes)) → (n : ℕ) (bytes : List ℕ) → All P (items w read n bytes)
unfolding items
all_read w read P each zero bytes = All-nil P
all_read w read P each (suc n) bytes =
    All-cons P (read (take w bytes)) (items w read n (drop w bytes)) (each (take w bytes) (omega (arith, length-take w bytes))) (all_read w read P each n (drop w bytes))

pub summary_is : (bytes : List ℕ) → IsSummary (summary_in bytes)
unfolding summary_in
summary_is bytes = record {
  configurations = omega (arith, length-items-read 4 configuration_in (min (value (92 ⊕ 4) bytes) 4) (drop 96 bytes));
  places = length-items-read 40 space_in 16 (drop 128 bytes);
  spaces = all_read 40 space_in IsSpaceRow row_is 16 (drop 128 bytes);
  host_count = omega (arith, length-items-read 64 event_at (min (get_or bytes 768 0) 32) (drop 832 bytes));
  controller_count = omega (arith, length-items-read 64 event_at (min (get_or bytes 769 0) 32) (drop 2880 bytes));
}

pub masks_are : (bytes : List ℕ) → 5120 ≤ length bytes → length (summary_in bytes).masks ≡ 16
unfolding summary_in
masks_are bytes long = omega (arith, length-take 16 (drop 112 bytes), length-drop 112 bytes)
