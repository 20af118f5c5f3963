use Rattle.std.proofs.Common.{ap, ◌∙◌, List, ℕ, ◌++◌, decimal}
use Rattle.fdp_base.specs.Text.{hex}
use Rattle.fdp_base.specs.Text.{status_text}
use Rattle.fdp_base.specs.CommandKinds.{word_of}
use Rattle.fdp_trace.proofs.Printed.{line_of_four}
use Rattle.fdp_trace.proofs.completion.push_head.Goals as goal

pub returns-clause-ok : goal.returns-clause-ok
returns-clause-ok c =
    line_of_four c.args.text.now.items (decimal c.args.number) (word_of c.args.command.now) (status_text c.args.reply.now.status) (hex 8 c.args.reply.now.dw0) _ _ _ _ _ _ _ _
    (c.in_ok-push_decimal.ensures.ok ∙ ap (λ (n : ℕ). c.args.text.now.items ++ decimal n) c.from.ensures)
    c.in_ok-push.ensures.items
    (c.in_ok-extend_from_slice.ensures.items ∙ ap (λ (x : List ℕ). c.push.new.self.items ++ x) (c.as_bytes.ensures.value ∙ c.word.ensures))
    c.in_ok-push-2.ensures.items
    c.in_ok-push_status.ensures.ok
    c.in_ok-push-3.ensures.items
    c.in_ok-push_hex.ensures.ok
    c.in_ok-push-4.ensures.items
