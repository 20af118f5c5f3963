-- A list of handles, one by one.
use Rattle.std.proofs.Common.{◌≡◌, ℕ, ◌+◌, List, [], ◌∷◌, true, false, ◌&&◌, Option, Some, None, refl, if◌then◌else◌}
use Rattle.std.specs.List.{list_all}
use Rattle.std.specs.Option.{option_or}
use Rattle.toml.specs.Data.{Data}
use Rattle.fdp_config.specs.Ranges.{first_of, is_handle}

-- a number that is no handle
abbrev pub handle_fault : ℕ → ℕ → Data → Option ℕ
handle_fault count place d = if is_handle count d then None else Some place

-- none is told where all are handles
pub list_all-handles : (count place : ℕ) (ds : List Data) → first_of (handle_fault count) place ds ≡ None → list_all (is_handle count) ds ≡ true
unfolding first_of
list_all-handles count place [] none = refl
list_all-handles count place (d ∷ ds) none =
    elim (is_handle count d) as (λ b. option_or (if b then None else Some place) (first_of (handle_fault count) (place + 1) ds) ≡ None → (b && list_all (is_handle count) ds) ≡ true) [
      | true ↦ λ rest. list_all-handles count (place + 1) ds rest
      | false ↦ λ told. absurd (cc)
    ] none

-- one is told where not all are
pub list_all-told : (count place told : ℕ) (ds : List Data) → first_of (handle_fault count) place ds ≡ Some told → list_all (is_handle count) ds ≡ false
unfolding first_of
list_all-told count place told [] is = absurd (cc)
list_all-told count place told (d ∷ ds) is =
    elim (is_handle count d) as (λ b. option_or (if b then None else Some place) (first_of (handle_fault count) (place + 1) ds) ≡ Some told → (b && list_all (is_handle count) ds) ≡ false) [
      | true ↦ λ rest. list_all-told count (place + 1) told ds rest
      | false ↦ λ _. refl
    ] is
