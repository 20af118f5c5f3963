-- The texts of a bench in memory.
use Rattle.std.specs.Prelude.{ℕ, List, [], ◌∷◌, Option, Some, None, bytes_eq, if◌then◌else◌, string_bytes}
use Rattle.fdp_io.specs.declared.bench_mem.Text.{Text}

-- the first text of a name
abbrev pub text_named : List ℕ → List Text → Option (List ℕ)
text_named name [] = None
text_named name (text ∷ texts) = if bytes_eq (string_bytes text.name) name then Some text.bytes.items else text_named name texts
