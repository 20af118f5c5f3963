-- The page list of an identifier, taken out, edited and put back.
use Rattle.std.proofs.Common.{◌≡◌, ◌≢◌, ℕ, ◌-◌, ◌<◌, ◌≤◌, Bool, true, false, IsTrue, List, [], length, set, get_or, Option, None, Some, refl, ap, sym, ◌∙◌, arith, ⊎_elim}
use Rattle.std.specs.Prelude.{◌==◌, ◌&&◌, slice_get, if◌then◌else◌}
use Rattle.std.specs.Option.{option_and_then, option_map_or}
use Rattle.std.proofs.lemmas.Bool.Decides.{eqb_tells, nat_tests}
use Rattle.std.proofs.lemmas.Option.{slice_get-get_or}
use Rattle.fdp_image.specs.Checkpoint.{page_in_lists}
use Rattle.fdp_image.specs.CheckpointRows.{is_namespace_id}
use Rattle.fdp_state.specs.Parts.{listed, row}
use Rattle.fdp_state.proofs.Places.{id_is, place_set}

-- the list in the place of an identifier
module _ (lists : List (List (Option ℕ))) (id : ℕ) (list : List (Option ℕ)) (good : IsTrue (is_namespace_id id)) (size : length lists ≡ 16) (is : list ≡ get_or lists (id - 1) list) where
  stands : slice_get lists (id - 1) ≡ Some list
  stands =
      let low : 1 ≤ id = (id_is id good).0 in
      let high : id ≤ 16 = (id_is id good).1 in
      slice_get-get_or lists (id - 1) list (omega arith) ∙ ap Some (sym is)

  pub list_pages : (lba : ℕ) → row list lba ≡ page_in_lists lists id lba
  list_pages lba =
      sym
      (ap (λ (b : Bool). if b then option_and_then (λ (x : List (Option ℕ)). row x lba) (slice_get lists (id - 1)) else None) good
      ∙ ap (option_and_then (λ (x : List (Option ℕ)). row x lba)) stands)

  pub list_size : length list ≡ listed lists id
  list_size =
      sym
      (ap (λ (b : Bool). if b then option_map_or length (slice_get lists (id - 1)) 0 else 0) good
      ∙ ap (λ (o : Option (List (Option ℕ))). option_map_or length o 0) stands)

-- an identifier that no namespace may have
pub id_none : (id : ℕ) → is_namespace_id id ≡ false → (lists : List (List (Option ℕ))) (lba : ℕ) → page_in_lists lists id lba ≡ None
id_none id other lists lba = ap (λ (b : Bool). if b then option_and_then (λ (x : List (Option ℕ)). row x lba) (slice_get lists (id - 1)) else None) other

pub size_none : (id : ℕ) → is_namespace_id id ≡ false → (lists : List (List (Option ℕ))) → listed lists id ≡ 0
size_none id other lists = ap (λ (b : Bool). if b then option_map_or length (slice_get lists (id - 1)) 0 else 0) other

pub id_zero : is_namespace_id 0 ≡ false
id_zero = refl

pub id_above : (id : ℕ) → 16 < id → is_namespace_id id ≡ false
id_above id above = grind (arith, nat_tests)

pub id_good : (id : ℕ) → id ≢ 0 → id ≤ 16 → IsTrue (is_namespace_id id)
id_good id some most = let is : is_namespace_id id ≡ true = grind (arith, nat_tests) in is

-- the edited list is put back
module _ (old mid new : List (List (Option ℕ))) (id : ℕ) (list : List (Option ℕ)) (good : IsTrue (is_namespace_id id)) (size : length old ≡ 16) (taken : mid ≡ set old (id - 1) []) where
  pub put_back : (f : ℕ → Option ℕ → Option ℕ) → ((n lba : ℕ) → page_in_lists new n lba ≡ (if n == id then row list lba else page_in_lists mid n lba))
      → ((lba : ℕ) → row list lba ≡ f lba (page_in_lists old id lba)) → (n lba : ℕ)
      → page_in_lists new n lba ≡ (if n == id then f lba (page_in_lists old n lba) else page_in_lists old n lba)
  put_back f there edit n lba =
      ⊎_elim
      (λ (h : (n == id ≡ true) × (n ≡ id)).
      there n lba
      ∙ ap (λ (b : Bool). if b then row list lba else page_in_lists mid n lba) h.0
      ∙ edit lba
      ∙ sym (ap (λ (b : Bool). if b then f lba (page_in_lists old n lba) else page_in_lists old n lba) h.0 ∙ ap (λ (k : ℕ). f lba (page_in_lists old k lba)) h.1))
      (λ (h : (n == id ≡ false) × (n ≢ id)).
      there n lba
      ∙ ap (λ (b : Bool). if b then row list lba else page_in_lists mid n lba) h.0
      ∙ ap (λ (ls : List (List (Option ℕ))). page_in_lists ls n lba) taken
      ∙ place_set (option_and_then (λ (x : List (Option ℕ)). row x lba)) None old id [] good size n
      ∙ ap (λ (b : Bool). if b then None else page_in_lists old n lba) h.0
      ∙ sym (ap (λ (b : Bool). if b then f lba (page_in_lists old n lba) else page_in_lists old n lba) h.0))
      (eqb_tells n id)

  pub size_back : ((n : ℕ) → listed new n ≡ (if n == id then length list else listed mid n)) → length list ≡ listed old id → (n : ℕ) → listed new n ≡ listed old n
  size_back there same n =
      ⊎_elim
      (λ (h : (n == id ≡ true) × (n ≡ id)).
      there n ∙ ap (λ (b : Bool). if b then length list else listed mid n) h.0 ∙ same ∙ ap (listed old) (sym h.1))
      (λ (h : (n == id ≡ false) × (n ≢ id)).
      there n
      ∙ ap (λ (b : Bool). if b then length list else listed mid n) h.0
      ∙ ap (λ (ls : List (List (Option ℕ))). listed ls n) taken
      ∙ place_set (λ (o : Option (List (Option ℕ))). option_map_or length o 0) 0 old id [] good size n
      ∙ ap (λ (b : Bool). if b then 0 else listed old n) h.0)
      (eqb_tells n id)

-- a test within a test
pub if_both : {X : Type 0} (a b : Bool) (x y : X) → (if a then (if b then x else y) else y) ≡ (if a && b then x else y)
if_both true b x y = refl
if_both false b x y = refl

-- a place in the page list of an identifier
pub id_of_place : (lists : List (List (Option ℕ))) (id lba : ℕ) → lba < listed lists id → IsTrue (is_namespace_id id)
id_of_place lists id lba there = of_id (is_namespace_id id) refl there where
  of_id : (b : Bool) → is_namespace_id id ≡ b → lba < (if b then option_map_or length (slice_get lists (id - 1)) 0 else 0) → IsTrue (is_namespace_id id)
  of_id true is low = is
  of_id false is low = absurd (omega (arith, low))
