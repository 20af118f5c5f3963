-- The pages that were moved, and the blocks on them.
use Rattle.std.proofs.Common.{◌≡◌, ℕ, [], ◌∷◌, filter, flat_map, replicate, ◌*◌, ◌/◌, ◌%◌, ◌^◌, ◌+◌, ◌++◌, Bool, true, false, List, length, map, refl, ap, sym, ◌∙◌}
use Rattle.std.proofs.Math.Nat.{zero-div}
use Rattle.std.proofs.lemmas.List.{map-append}
use Rattle.std.proofs.lemmas.List.Elements.{filter-append}
use Rattle.fdp_base.specs.declared.config.DriveConfig.{DriveConfig}
use Rattle.fdp_base.specs.Numbers.{numbers_below}
use Rattle.fdp_records.specs.Records.{no_target, no_unit}
use Rattle.fdp_image.specs.Bits.{has_bit, is_bit_set}
use Rattle.fdp_image.specs.Changed.{page_numbers}
use Rattle.fdp_events.proofs.MaskBits.{zeros_read}
use Rattle.std.specs.Prelude.{◌==◌, if◌then◌else◌}
use Rattle.fdp_base.specs.declared.entry.BlockName.{BlockName}
use Rattle.fdp_image.specs.Reading.{Reading, blocks_in, blocks_on}
use Rattle.fdp_commands.proofs.Summing.{namespace_ids_are}
use Rattle.fdp_outline.specs.declared.moved_block.MovedBlock.{MovedBlock}
use Rattle.fdp_outline.specs.Events.{names_of_handle}
use Rattle.fdp_state.specs.Owners.{with_handle}

filter_none : (test : ℕ → Bool) (xs : List ℕ) → ((k : ℕ) → test k ≡ false) → filter test xs ≡ []
filter_none test [] h = refl
filter_none test (x ∷ xs) h = ap (λ (b : Bool). if b then x ∷ filter test xs else filter test xs) (h x) ∙ filter_none test xs h

-- no target has no page
pub no_pages : (c : DriveConfig) → page_numbers c no_target ≡ []
no_pages c =
    let zeros : List ℕ = replicate 32 0 in
    ap (map (λ (page : ℕ). no_unit * c.unit_pages + page))
    (filter_none (is_bit_set zeros) (numbers_below (8 * length zeros))
    (λ k. ap (λ (n : ℕ). has_bit n (k % 8)) (zeros_read 32 (k / 8)) ∙ ap (λ (n : ℕ). n % 2 == 1) (zero-div (2 ^ (k % 8)))))

-- the blocks of all namespaces that have a page
pub blocks_are : (r : Reading) (page : ℕ) → flat_map (blocks_in r page) (1 ∷ 2 ∷ 3 ∷ 4 ∷ 5 ∷ 6 ∷ 7 ∷ 8 ∷ 9 ∷ 10 ∷ 11 ∷ 12 ∷ 13 ∷ 14 ∷ 15 ∷ 16 ∷ []) ≡ blocks_on r page
unfolding blocks_on
blocks_are r page = sym (ap (flat_map (blocks_in r page)) namespace_ids_are)

-- ---- blocks with the handles of their pages

-- those of a handle among the blocks of one page
same-handle : (h ruh : ℕ) (bs : List BlockName) → names_of_handle (with_handle h bs) ruh ≡ (if h == ruh then bs else [])
same-handle h ruh [] = of_test (h == ruh) where
  of_test : (b : Bool) → ◌≡◌ {A = List BlockName} [] (if b then [] else [])
  of_test true = refl
  of_test false = refl
same-handle h ruh (x ∷ xs) = of_test (h == ruh) (same-handle h ruh xs) where
  rest : List MovedBlock
  rest = filter (λ (y : MovedBlock). y.ruh == ruh) (with_handle h xs)

  of_test : (b : Bool) → map (λ (y : MovedBlock). y.name) rest ≡ (if b then xs else []) → map (λ (y : MovedBlock). y.name) (if b then record { name = x; ruh = h } ∷ rest else rest) ≡ (if b then x ∷ xs else [])
  of_test true e = ap (λ (ys : List BlockName). x ∷ ys) e
  of_test false e = e

-- those of a handle among the blocks of some pages
pub of-handle : (g : ℕ → List BlockName) (xs : List (ℕ × ℕ)) (ruh : ℕ) → names_of_handle (flat_map (λ (x : ℕ × ℕ). with_handle x.1 (g x.0)) xs) ruh ≡ flat_map (λ (x : ℕ × ℕ). g x.0) (filter (λ (x : ℕ × ℕ). x.1 == ruh) xs)
of-handle g [] ruh = refl
of-handle g (x ∷ xs) ruh =
    let here : List MovedBlock = with_handle x.1 (g x.0) in
    let rest : List MovedBlock = flat_map (λ (y : ℕ × ℕ). with_handle y.1 (g y.0)) xs in
    ap (map (λ (y : MovedBlock). y.name)) (filter-append (λ (y : MovedBlock). y.ruh == ruh) here rest)
    ∙ map-append (λ (y : MovedBlock). y.name) (filter (λ (y : MovedBlock). y.ruh == ruh) here) (filter (λ (y : MovedBlock). y.ruh == ruh) rest)
    ∙ ap (λ (ys : List BlockName). ys ++ names_of_handle rest ruh) (same-handle x.1 ruh (g x.0))
    ∙ ap (λ (ys : List BlockName). (if x.1 == ruh then g x.0 else []) ++ ys) (of-handle g xs ruh)
    ∙ of_test (x.1 == ruh)
  where
    of_test : (b : Bool) → (if b then g x.0 else []) ++ flat_map (λ (y : ℕ × ℕ). g y.0) (filter (λ (y : ℕ × ℕ). y.1 == ruh) xs)
        ≡ flat_map (λ (y : ℕ × ℕ). g y.0) (if b then x ∷ filter (λ (y : ℕ × ℕ). y.1 == ruh) xs else filter (λ (y : ℕ × ℕ). y.1 == ruh) xs)
    of_test true = refl
    of_test false = refl
