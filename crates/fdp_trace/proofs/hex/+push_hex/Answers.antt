use Rattle.std.proofs.Common.{ℕ, [], ◌∷◌, ◌++◌, ap, ◌∙◌}
use Rattle.fdp_trace.proofs.Printed.{hex_push}
use Rattle.fdp_trace.proofs.hex.+push_hex.Goals as goal

pub returns-clause-ok : goal.returns-clause-ok
returns-clause-ok t c =
    c.in_ok-push.ensures.items ∙ ap (λ (d : ℕ). c.push_hex.new.text.items ++ d ∷ []) c.hex_digit.ensures
    ∙ hex_push c.push_hex.new.text.items c.args.text.now.items c.args.digits c.args.n c.if-digits-eq0.false c.in_ok-push_hex.ensures.ok
