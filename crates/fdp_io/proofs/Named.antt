-- Looking a text up by its name.
use Rattle.std.proofs.Common.{◌≡◌, ℕ, Bool, true, false, List, [], ◌∷◌, ◌++◌, Option, Some, None, cond, refl}
use Rattle.std.specs.Prelude.{bytes_eq, string_bytes}
use Rattle.std.specs.Option.{option_or}
use Rattle.fdp_io.specs.declared.bench_mem.Text.{Text}
use Rattle.fdp_io.specs.Texts.{text_named}

chosen : (b : Bool) (text : List ℕ) (x y z : Option (List ℕ)) → x ≡ option_or y z → cond b (Some text) x ≡ option_or (cond b (Some text) y) z
chosen true text x y z h = refl
chosen false text x y z h = h

-- one more text at the end serves where none was found
pub text_named-push : (name : List ℕ) (texts : List Text) (text : Text) → text_named name (texts ++ text ∷ []) ≡ option_or (text_named name texts) (cond (bytes_eq (string_bytes text.name) name) (Some text.bytes.items) None)
text_named-push name [] text = refl
text_named-push name (x ∷ xs) text = chosen (bytes_eq (string_bytes x.name) name) x.bytes.items _ _ _ (text_named-push name xs text)
