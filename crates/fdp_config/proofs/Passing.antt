-- Tests of values and of keys beside those of their data.
use Rattle.std.proofs.Common.{◌≡◌, ℕ, Bool, ◌&&◌, List, [], ◌∷◌, Some, option_map, string_bytes, refl, ap, ◌∙◌, inl, inr}
use Rattle.std.proofs.lemmas.Bool.{cases_Bool}
use Rattle.std.specs.List.{find, list_all}
use Rattle.std.specs.Map.{keys_of}
use Rattle.toml.proofs.Views.{Entry}
use Rattle.toml.specs.Data.{Data, as_array}
use Rattle.toml.specs.View.{view, items_view, members_view}
use Rattle.toml.specs.declared.value.Value.{Value}
use Rattle.fdp_config.specs.Document.{items_list, words_in}
use Rattle.fdp_config.specs.Kinds.{is_array_of}

list_all-view : (test : Data → Bool) (vs : List Value) → list_all (λ v. test (view v)) vs ≡ list_all test (items_list (items_view vs))
list_all-view test [] = refl
list_all-view test (v ∷ vs) = ap (λ b. test (view v) && b) (list_all-view test vs)

-- an array whose elements all pass
pub array_passes : (test : Data → Bool) (d : Data) (vs ws : List Value) (passes : Bool) → Some (items_view vs) ≡ as_array d → ws ≡ vs
    → passes ≡ list_all (λ v. test (view v)) ws → passes ≡ is_array_of test d
array_passes test d vs ws passes is same all = all ∙ rw (← is, same) (list_all-view test vs)

-- the first word that passes
pub find-words : (test : List ℕ → Bool) (es : List Entry) → option_map string_bytes (find (λ word. test (string_bytes word)) (keys_of es)) ≡ find test (words_in (members_view es))
find-words test [] = refl
find-words test (e ∷ es) =
    elim (cases_Bool (test (string_bytes e.0))) [
      | inl passes ↦ rw passes refl
      | inr fails ↦ rw fails (find-words test es)
    ]

-- whether all words pass
pub list_all-words : (test : List ℕ → Bool) (es : List Entry) → list_all (λ word. test (string_bytes word)) (keys_of es) ≡ list_all test (words_in (members_view es))
list_all-words test [] = refl
list_all-words test (e ∷ es) = ap (λ b. test (string_bytes e.0) && b) (list_all-words test es)
