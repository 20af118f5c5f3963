-- Numbers that are listed under keys.
use Rattle.std.specs.Prelude.{ℕ, Bool, ◌==◌, List, [], Option, IfSome, IsTrue, slice_index_or}
use Rattle.std.specs.List.{list_any}

-- a number is one of a list
abbrev pub is_listed : ℕ → List ℕ → Bool
is_listed value list = list_any (λ x. x == value) list

-- a number is listed under a key, if the lists were not given up
abbrev pub Lists : Option (List (List ℕ)) → ℕ → ℕ → Type 0
Lists index key value = IfSome index (λ lists. IsTrue (is_listed value (slice_index_or lists key [])))
