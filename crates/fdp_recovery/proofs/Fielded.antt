-- A checkpoint without a bad field says what a drive may say.
use Rattle.std.proofs.Common.{◌≡◌, ℕ, zero, suc, ◌+◌, ◌-◌, ◌*◌, ◌<◌, ◌≤◌, Bool, true, false, List, [], ◌∷◌, length, get_or, Option, Some, None, refl, sym, ap, subst, ◌∙◌, arith}
use Rattle.std.specs.Prelude.{◌&&◌, if◌then◌else◌, nat_le, nat_lt, slice_get, sum_by, option_map}
use Rattle.std.specs.Option.{option_and_then, option_map_or}
use Rattle.std.proofs.lemmas.Bool.{and_parts, leb-true}
use Rattle.std.proofs.lemmas.List.Sums.{sum_by-cons}
use Rattle.std.proofs.lemmas.Option.{slice_get-get_or}
use Rattle.fdp_base.specs.declared.config.DriveConfig.{DriveConfig}
use Rattle.fdp_base.specs.Config.{IsHandleList}
use Rattle.fdp_base.specs.Numbers.{numbers_from}
use Rattle.fdp_base.specs.Placement.{full_budget, handle_count}
use Rattle.fdp_rules.specs.PlainState.{Namespace}
use Rattle.fdp_rules.specs.Room.{namespace_ids}
use Rattle.fdp_image.specs.Checkpoint.{in_place, namespace_of, reading_of_state}
use Rattle.fdp_image.specs.CheckpointRows.{is_namespace_id}
use Rattle.fdp_image.specs.Reading.{size_in}
use Rattle.fdp_image.specs.Valid.{IsGoodNamespace}
use Rattle.fdp_snapshot.specs.declared.space.Space.{Space}
use Rattle.fdp_snapshot.specs.declared.state.State.{State}
use Rattle.fdp_snapshot.specs.declared.state.Summary.{Summary}
use Rattle.fdp_snapshot.specs.Checkpoint.{IsState}
use Rattle.fdp_snapshot.specs.Reading.{blocks_in, size_of_row}
use Rattle.fdp_snapshot.specs.Rows.{IsSpaceRow}
use Rattle.fdp_image.specs.Fits.{blocks_of_all, is_handle_list}
use Rattle.fdp_state.specs.Good.{IsGood}
use Rattle.fdp_state.proofs.fdp_events.KnownRows.{rows-known}
use Rattle.fdp_state.proofs.Keeping.{list-of}
use Rattle.fdp_state.proofs.Loadable.{loadable}
use Rattle.fdp_state.proofs.Spacing.{space_size}
use Rattle.fdp_state.proofs.Stating.{all-read, lies-within, placed}
use Rattle.fdp_image.specs.BadFields.{HasKnownRows, bad_field, bad_row, bad_space, may_stand, or_else}

-- ---- none of several is there

none-first : (x y : Option ℕ) → or_else x y ≡ None → x ≡ None
none-first None y e = refl
none-first (Some x) y e = cc

none-second : (x y : Option ℕ) → or_else x y ≡ None → y ≡ None
none-second None y e = e
none-second (Some x) y e = cc

none-of : (f : ℕ → ℕ) (x : Option ℕ) → option_map f x ≡ None → x ≡ None
none-of f None e = refl
none-of f (Some x) e = cc

-- ---- namespaces of which none is bad

record AreGoodSpaces (count position room : ℕ) (xs : List (Option Space)) : Type 0 where
  pub each : (k : ℕ) (x : Space) → slice_get xs k ≡ Some (Some x) → IsHandleList count x.handles × (x.birth ≤ position)
  pub fits : blocks_in xs ≤ room

-- behind a place without a namespace, and behind one with a good one
behind-none : (count position : ℕ) (xs : List (Option Space)) → ((k : ℕ) (x : Space) → slice_get xs k ≡ Some (Some x) → IsHandleList count x.handles × (x.birth ≤ position))
    → (k : ℕ) (x : Space) → slice_get (None ∷ xs) k ≡ Some (Some x) → IsHandleList count x.handles × (x.birth ≤ position)
behind-none count position xs h zero x at = cc
behind-none count position xs h (suc k) x at = h k x at

behind-some : (count position : ℕ) (y : Space) (xs : List (Option Space)) → IsHandleList count y.handles × (y.birth ≤ position)
    → ((k : ℕ) (x : Space) → slice_get xs k ≡ Some (Some x) → IsHandleList count x.handles × (x.birth ≤ position))
    → (k : ℕ) (x : Space) → slice_get (Some y ∷ xs) k ≡ Some (Some x) → IsHandleList count x.handles × (x.birth ≤ position)
behind-some count position y xs here h zero x at = let same : y ≡ x = cc in subst (λ (z : Space). IsHandleList count z.handles × (z.birth ≤ position)) same here
behind-some count position y xs here h (suc k) x at = h k x at

good-spaces : (count position room : ℕ) (xs : List (Option Space)) → bad_space count position room xs ≡ None → AreGoodSpaces count position room xs
unfolding bad_space blocks_in
good-spaces count position room [] e = record { each = λ k x at. absurd cc; fits = omega arith }
good-spaces count position room (None ∷ xs) e =
    let h = good-spaces count position room xs (none-of suc (bad_space count position room xs) e) in
    record { each = behind-none count position xs h.each; fits = omega (arith, h.fits) }
good-spaces count position room (Some y ∷ xs) e = of_test (good-spaces count position (room - y.size) xs) (may_stand count position room y) refl e where
  of_test : (bad_space count position (room - y.size) xs ≡ None → AreGoodSpaces count position (room - y.size) xs) → (b : Bool) → may_stand count position room y ≡ b
      → (if b then option_map suc (bad_space count position (room - y.size) xs) else Some 0) ≡ None → AreGoodSpaces count position room (Some y ∷ xs)
  of_test rest false is e = cc
  of_test rest true is e =
      let h = rest (none-of suc (bad_space count position (room - y.size) xs) e) in
      let a = and_parts (is_handle_list count y.handles && nat_le y.birth position) (nat_le y.size room) is in
      let b = and_parts (is_handle_list count y.handles) (nat_le y.birth position) a.0 in
      let size = leb-true y.size room a.1 in
      record { each = behind-some count position y xs (list-of count y.handles b.0, leb-true y.birth position b.1) h.each; fits = omega (arith, h.fits, size) }

-- ---- the sizes by identifier

sum-rows : (f : ℕ → ℕ) (xs : List (Option Space)) (first : ℕ) → ((k : ℕ) → k < length xs → f (first + k) ≡ size_of_row (get_or xs k None)) → sum_by f (numbers_from first (length xs)) ≡ blocks_in xs
unfolding numbers_from blocks_in
sum-rows f [] first each = refl
sum-rows f (x ∷ xs) first each =
    let start : first + 0 ≡ first = omega arith in
    let head : f first ≡ size_of_row x = ap f (sym start) ∙ each 0 (omega arith) in
    let rest = sum-rows f xs (first + 1) (λ k low. let next : first + 1 + k ≡ first + suc k = omega arith in ap f next ∙ each (suc k) (omega (arith, low))) in
    omega (arith, sum_by-cons f first (numbers_from (first + 1) (length xs)), head, rest)

module _ (s : State) (h : IsState s) where
  size-row : (k : ℕ) → k < 16 → size_in (reading_of_state s) (1 + k) ≡ size_of_row (get_or s.summary.spaces k None)
  unfolding reading_of_state
  size-row k low =
      let swap : 1 + k ≡ k + 1 = omega arith in
      let there : k < length s.summary.spaces = omega (arith, low, h.summary.places) in
      ap (size_in (reading_of_state s)) swap
      ∙ space_size (in_place s.summary.spaces (k + 1))
      ∙ ap (λ (o : Option Space). option_map_or (λ (x : Space). x.size) o 0) (placed s.summary.spaces k low ∙ ap (option_and_then (λ (x : Option Space). x)) (slice_get-get_or s.summary.spaces k None there))

  pub sizes-by-id : blocks_of_all (reading_of_state s) ≡ blocks_in s.summary.spaces
  unfolding namespace_ids
  sizes-by-id =
      ap (λ (n : ℕ). sum_by (size_in (reading_of_state s)) (numbers_from 1 n)) (sym h.summary.places)
      ∙ sum-rows (size_in (reading_of_state s)) s.summary.spaces 1 (λ k low. size-row k (omega (arith, low, h.summary.places)))

  -- a namespace that is said stands in its row
  record StandsInRow (nsid : ℕ) (x : Namespace) : Type 0 where
    pub id : is_namespace_id nsid ≡ true
    pub space : Space
    pub row : slice_get s.summary.spaces (nsid - 1) ≡ Some (Some space)
    pub same : namespace_of space ≡ x

  in-row : (nsid : ℕ) (x : Namespace) → (reading_of_state s).namespaces nsid ≡ Some x → StandsInRow nsid x
  unfolding reading_of_state
  in-row nsid x there = of_id (is_namespace_id nsid) refl there where
    of_row : is_namespace_id nsid ≡ true → (o : Option (Option Space)) → slice_get s.summary.spaces (nsid - 1) ≡ o → option_map namespace_of (option_and_then (λ (y : Option Space). y) o) ≡ Some x → StandsInRow nsid x
    of_row id None is e = cc
    of_row id (Some None) is e = cc
    of_row id (Some (Some space)) is e = let same : namespace_of space ≡ x = cc in record { id = id; space = space; row = is; same = same }

    of_id : (b : Bool) → is_namespace_id nsid ≡ b → option_map namespace_of (if b then option_and_then (λ (y : Option Space). y) (slice_get s.summary.spaces (nsid - 1)) else None) ≡ Some x → StandsInRow nsid x
    of_id false is e = cc
    of_id true is e = of_row is (slice_get s.summary.spaces (nsid - 1)) refl e

-- ---- what a checkpoint says

rows-none : (c : DriveConfig) (s : Summary) → bad_field c s ≡ None → bad_row c (handle_count c s.enabled s.index) s ≡ None
unfolding bad_field
rows-none c s none = of_test (nat_lt s.index (length c.fdp)) none where
  of_test : (b : Bool) → (if b then bad_row c (handle_count c s.enabled s.index) s else Some 49) ≡ None → bad_row c (handle_count c s.enabled s.index) s ≡ None
  of_test true e = e
  of_test false e = cc

spaces-none : (c : DriveConfig) (count : ℕ) (s : Summary) → bad_row c count s ≡ None → bad_space count s.totals.position (full_budget c count) s.spaces ≡ None
unfolding bad_row
spaces-none c count s none =
    none-of (λ i. 128 + 40 * i) (bad_space count s.totals.position (full_budget c count) s.spaces) (none-first _ _ (none-second _ _ (none-second _ _ none)))

-- its rows are those of a drive with the handles in force
pub rows-good : (c : DriveConfig) (s : Summary) → bad_field c s ≡ None → HasKnownRows (handle_count c s.enabled s.index) s
rows-good c s none = rows-known c (handle_count c s.enabled s.index) s (rows-none c s none)

pub field-good : (c : DriveConfig) (s : State) → IsState s → s.summary.index < length c.fdp → bad_field c s.summary ≡ None → IsGood c (reading_of_state s)
unfolding reading_of_state
field-good c s h index none =
    let count : ℕ = handle_count c s.summary.enabled s.summary.index in
    let spaces = good-spaces count s.summary.totals.position (full_budget c count) s.summary.spaces (spaces-none c count s.summary (rows-none c s.summary none)) in
    record {
      index = index;
      identifiers = λ nsid x there. (in-row s h nsid x there).id;
      namespaces = λ nsid x there.
          let r = in-row s h nsid x there in
          let good = spaces.each (nsid - 1) r.space r.row in
          let some = all-read IsSpaceRow s.summary.spaces (nsid - 1) (Some r.space) h.summary.spaces r.row in
          subst (IsGoodNamespace count s.summary.totals.position) r.same (record { some_blocks = some.blocks; list = good.0; born = good.1 });
      room = omega (arith, sizes-by-id s h, spaces.fits);
      blocks = λ nsid lba page at. lies-within s (loadable s h) nsid lba page at;
    }
