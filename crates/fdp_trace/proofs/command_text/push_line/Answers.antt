use Rattle.std.proofs.Common.{List, ℕ, ◌++◌, append_assoc, ap, sym, ◌∙◌}
use Rattle.fdp_base.specs.CommandKinds.{word_of}
use Rattle.fdp_output.specs.CommandText.{argument_words}
use Rattle.fdp_trace.specs.Printer.{spaced_behind}
use Rattle.fdp_trace.proofs.Printed.{when_ok}
use Rattle.fdp_trace.proofs.Spelling.{spaced_is}
use Rattle.fdp_trace.proofs.command_text.push_line.Goals as goal

pub returns-clause-ok : goal.returns-clause-ok
returns-clause-ok c =
    let command = c.args.command.now in
    let behind = spaced_behind (argument_words command) in
    let word = c.in_ok-extend_from_slice.ensures.items ∙ ap (λ (x : List ℕ). c.args.text.now.items ++ x) (c.as_bytes.ensures.value ∙ c.word.ensures) in
    when_ok _ _ c.push_arguments.result (λ added. added ∙ ap (λ (x : List ℕ). x ++ behind) word
    ∙ append_assoc c.args.text.now.items (word_of command) behind
    ∙ ap (λ (x : List ℕ). c.args.text.now.items ++ x) (sym (spaced_is (word_of command) (argument_words command)))) c.push_arguments.ensures.ok
