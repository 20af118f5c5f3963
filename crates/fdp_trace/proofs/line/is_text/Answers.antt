use Rattle.std.proofs.Common.{◌≡◌, ℕ, false, List, sym, inl, inr}
use Rattle.std.specs.Str.{IsUtf8, is_utf8}
use Rattle.std.proofs.lemmas.Bool.{cases_Bool}
use Rattle.std.proofs.lemmas.Str.{is_utf8-from_IsUtf8, IsUtf8-from_is_utf8}
use Rattle.fdp_trace.proofs.line.is_text.Goals as goal

no_text : (line : List ℕ) → (IsUtf8 line → ⊥) → false ≡ is_utf8 line
no_text line not = elim (cases_Bool (is_utf8 line)) [
  | inl here ↦ absurd (not (IsUtf8-from_is_utf8 line here))
  | inr there ↦ sym there
]

pub returns-in-Ok : goal.returns-in-Ok
returns-in-Ok c = sym (is_utf8-from_IsUtf8 c.args.line.now c.in-Ok.ensures.cases.1)

pub returns-in-Err : goal.returns-in-Err
returns-in-Err c = no_text c.args.line.now c.in-Err.ensures.cases.0
