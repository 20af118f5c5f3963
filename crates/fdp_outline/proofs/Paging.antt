-- An outline with the pages of the blocks is a state that a checkpoint has room for.
use Rattle.std.proofs.Common.{◌≡◌, ℕ, suc, ◌+◌, ◌-◌, ◌^◌, ◌<◌, ◌≤◌, Bool, true, List, [], ◌∷◌, length, map, Option, Some, None, refl, ap, sym, ◌∙◌, arith, subst, ⊎_elim}
use Rattle.std.specs.Prelude.{All, IfSome, ◌&&◌, if◌then◌else◌, nat_lt, option_map, slice_get, sum_by}
use Rattle.std.specs.Option.{option_and_then, option_map_or}
use Rattle.std.proofs.lemmas.Bool.{cases_lt, le-leb, lt-ltb}
use Rattle.std.proofs.lemmas.List.Elements.{All-cons, All-nil}
use Rattle.std.proofs.lemmas.List.Sums.{sum_by-cons}
use Rattle.std.proofs.lemmas.Option.{slice_get_past}
use Rattle.fdp_base.specs.declared.config.DriveConfig.{DriveConfig}
use Rattle.fdp_base.specs.Numbers.{numbers_from}
use Rattle.fdp_image.specs.Checkpoint.{namespace_of, page_in_lists, reading_of_state}
use Rattle.fdp_image.specs.CheckpointRows.{is_namespace_id}
use Rattle.fdp_image.specs.Reading.{Reading, size_in}
use Rattle.fdp_rules.specs.PlainState.{Namespace}
use Rattle.fdp_rules.specs.Room.{namespace_ids}
use Rattle.fdp_snapshot.specs.declared.space.Space.{Space}
use Rattle.fdp_snapshot.specs.declared.state.Summary.{Summary}
use Rattle.fdp_snapshot.specs.Checkpoint.{IsState}
use Rattle.fdp_snapshot.specs.Reading.{blocks_in, size_of_row}
use Rattle.fdp_snapshot.specs.Rows.{IsEntry}
use Rattle.fdp_outline.specs.Outline.{IsOutlineOf, IsWritable}
use Rattle.fdp_outline.specs.Pages.{ArePagesOf, size_in_lists}

pub one-less : (k : ℕ) → suc k - 1 ≡ k
one-less k = omega arith

pub is-id : (k : ℕ) → k < 16 → is_namespace_id (suc k) ≡ true
is-id k low = ap (λ (b : Bool). b && nat_lt (suc k) 17) (le-leb 1 (suc k) (omega arith)) ∙ lt-ltb (suc k) 17 (omega (arith, low))

-- ---- sizes

-- the size of the namespace in a place
abbrev size_of_place : Option (Option Space) → ℕ
size_of_place o = option_map_or (λ (x : Namespace). x.size) (option_map namespace_of (option_and_then (λ (x : Option Space). x) o)) 0

place-size : (o : Option (Option Space)) → size_of_place o ≡ option_map_or size_of_row o 0
place-size None = refl
place-size (Some None) = refl
place-size (Some (Some x)) = refl

-- what a reading says of the size of a namespace, by the places of its outline
size-said : (c : DriveConfig) (r : Reading) (s : Summary) (k : ℕ) → IsOutlineOf c r s → k < 16 → size_in r (suc k) ≡ option_map_or size_of_row (slice_get s.spaces k) 0
unfolding reading_of_state
size-said c r s k h low =
    ap (λ (x : Reading). size_in x (suc k)) (sym h.says)
    ∙ ap (λ (b : Bool). option_map_or (λ (x : Namespace). x.size) (option_map namespace_of (if b then option_and_then (λ (x : Option Space). x) (slice_get s.spaces (suc k - 1)) else None)) 0) (is-id k low)
    ∙ ap (λ (i : ℕ). size_of_place (slice_get s.spaces i)) (one-less k)
    ∙ place-size (slice_get s.spaces k)

size-listed : (lists : List (List (Option ℕ))) (k : ℕ) → k < 16 → size_in_lists lists (suc k) ≡ option_map_or length (slice_get lists k) 0
size-listed lists k low = ap (λ (b : Bool). if b then option_map_or length (slice_get lists (suc k - 1)) 0 else 0) (is-id k low) ∙ ap (λ (i : ℕ). option_map_or length (slice_get lists i) 0) (one-less k)

sizes-alike : (lists : List (List (Option ℕ))) (spaces : List (Option Space)) → length lists ≡ length spaces → ((k : ℕ) → k < length spaces → option_map_or length (slice_get lists k) 0 ≡ option_map_or size_of_row (slice_get spaces k) 0) → map length lists ≡ map size_of_row spaces
sizes-alike [] [] same each = refl
sizes-alike [] (x ∷ xs) same each = absurd (omega (arith, same))
sizes-alike (l ∷ ls) [] same each = absurd (omega (arith, same))
sizes-alike (l ∷ ls) (x ∷ xs) same each =
    ap (λ (n : ℕ). n ∷ map length ls) (each 0 (omega arith))
    ∙ ap (λ (ns : List ℕ). size_of_row x ∷ ns) (sizes-alike ls xs (omega (arith, same)) (λ k low. each (suc k) (omega (arith, low))))

blocks-summed : (size : ℕ → ℕ) (first : ℕ) (spaces : List (Option Space)) → ((k : ℕ) → k < length spaces → size (first + k) ≡ option_map_or size_of_row (slice_get spaces k) 0) → blocks_in spaces ≡ sum_by size (numbers_from first (length spaces))
unfolding blocks_in numbers_from
blocks-summed size first [] each = refl
blocks-summed size first (x ∷ xs) each =
    let here : size first ≡ size_of_row x = ap size (plus-none first) ∙ each 0 (omega arith) in
    let rest : blocks_in xs ≡ sum_by size (numbers_from (first + 1) (length xs)) = blocks-summed size (first + 1) xs (λ k low. ap size (plus-next first k) ∙ each (suc k) (omega (arith, low))) in
    let all : sum_by size (first ∷ numbers_from (first + 1) (length xs)) ≡ size first + sum_by size (numbers_from (first + 1) (length xs)) = sum_by-cons size first (numbers_from (first + 1) (length xs)) in
    omega (arith, here, rest, all)
  where
    plus-none : (n : ℕ) → n ≡ n + 0
    plus-none n = omega arith

    plus-next : (n k : ℕ) → n + 1 + k ≡ n + suc k
    plus-next n k = omega arith

-- the namespaces have together as many blocks as the reading says
pub outline-blocks : (c : DriveConfig) (r : Reading) (s : Summary) → IsOutlineOf c r s → length s.spaces ≡ 16 → blocks_in s.spaces ≡ sum_by (size_in r) namespace_ids
unfolding namespace_ids
outline-blocks c r s h places =
    blocks-summed (size_in r) 1 s.spaces (λ k low. ap (size_in r) (one-more k) ∙ size-said c r s k h (omega (arith, low, places)))
    ∙ ap (λ (n : ℕ). sum_by (size_in r) (numbers_from 1 n)) places
  where
    one-more : (k : ℕ) → 1 + k ≡ suc k
    one-more k = omega arith

-- ---- pages

entry-of : (o : Option ℕ) → IfSome o (λ page. page + 1 < 2 ^ 32) → IsEntry o
entry-of None h = omega arith
entry-of (Some page) h = h

entries : (list : List (Option ℕ)) → ((lba : ℕ) (o : Option ℕ) → slice_get list lba ≡ Some o → IsEntry o) → All IsEntry list
entries [] each = All-nil IsEntry
entries (o ∷ os) each = All-cons IsEntry o os (each 0 o refl) (entries os (λ lba x is. each (suc lba) x is))

all-entries : (lists : List (List (Option ℕ))) → ((k lba : ℕ) (list : List (Option ℕ)) (o : Option ℕ) → slice_get lists k ≡ Some list → slice_get list lba ≡ Some o → IsEntry o) → All (λ (list : List (Option ℕ)). All IsEntry list) lists
all-entries [] each = All-nil (λ (list : List (Option ℕ)). All IsEntry list)
all-entries (l ∷ ls) each = All-cons (λ (list : List (Option ℕ)). All IsEntry list) l ls (entries l (λ lba o is. each 0 lba l o refl is)) (all-entries ls (λ k lba list o at is. each (suc k) lba list o at is))

page-listed : (lists : List (List (Option ℕ))) (k lba : ℕ) (list : List (Option ℕ)) (o : Option ℕ) → k < 16 → slice_get lists k ≡ Some list → slice_get list lba ≡ Some o → page_in_lists lists (suc k) lba ≡ o
page-listed lists k lba list o low at is =
    ap (λ (b : Bool). if b then option_and_then (λ (xs : List (Option ℕ)). option_and_then (λ (page : Option ℕ). page) (slice_get xs lba)) (slice_get lists (suc k - 1)) else None) (is-id k low)
    ∙ ap (λ (i : ℕ). option_and_then (λ (xs : List (Option ℕ)). option_and_then (λ (page : Option ℕ). page) (slice_get xs lba)) (slice_get lists i)) (one-less k)
    ∙ ap (λ (x : Option (List (Option ℕ))). option_and_then (λ (xs : List (Option ℕ)). option_and_then (λ (page : Option ℕ). page) (slice_get xs lba)) x) at
    ∙ ap (λ (x : Option (Option ℕ)). option_and_then (λ (page : Option ℕ). page) x) is

-- what is written has room
pub outline-state : (c : DriveConfig) (r : Reading) (s : Summary) (lists : List (List (Option ℕ))) → IsOutlineOf c r s → IsWritable s → ArePagesOf r lists → IsState (record { summary = s; pages = lists })
outline-state c r s lists h w p = record {
  summary = w.summary;
  host_events = w.host_events;
  controller_events = w.controller_events;
  sizes = sizes-alike lists s.spaces (p.places ∙ sym w.summary.places) (λ k low.
      let few : k < 16 = omega (arith, low, w.summary.places) in
      sym (size-listed lists k few) ∙ p.sizes (suc k) ∙ size-said c r s k h few);
  pages = all-entries lists (λ k lba list o at is. ⊎_elim
      (λ (low : k < 16). entry-of o (subst (λ (x : Option ℕ). IfSome x (λ page. page + 1 < 2 ^ 32)) (page-listed lists k lba list o low at is) (p.fit (suc k) lba)))
      (λ (past : 16 ≤ k). absurd (none-some list (sym (slice_get_past lists k (omega (arith, past, p.places))) ∙ at)))
      (cases_lt k 16));
} where
  none-some : (x : List (Option ℕ)) → None ≡ Some x → ⊥
  none-some x e = cc
