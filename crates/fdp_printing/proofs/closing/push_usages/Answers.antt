use Rattle.std.proofs.Common.{◌+◌, ◌++◌, drop, ap, refl, sym, ◌∙◌, append_assoc, arith}
use Rattle.std.proofs.lemmas.List.{append-nil}
use Rattle.fdp_output.specs.RunOutput.{usage_line}
use Rattle.fdp_printing.specs.Lines.{usage_lines}
use Rattle.fdp_printing.proofs.Lists.{usages_last, usages_next}
use Rattle.fdp_printing.proofs.closing.push_usages.Goals as goal

pub loop-ruh-preserved : goal.loop-ruh-preserved
loop-ruh-preserved c =
    let us = c.args.usages.now in
    let i = c.loop-ruh.ruh in
    let before = c.loop-ruh.into.items in
    let rest = usage_lines (i + 1) (drop (i + 1) us) in
    ap (λ t. t ++ rest) c.in_ok-push_usage.ensures
    ∙ append_assoc before (usage_line i _) rest
    ∙ ap (λ t. before ++ t) (sym (usages_next us i _ (omega arith) refl))
    ∙ c.loop-ruh.invariant

pub returns : goal.returns
returns c =
    let text = c.loop-ruh.into.items in
    sym (append-nil text) ∙ ap (λ t. text ++ t) (sym (usages_last c.args.usages.now c.loop-ruh.ruh (omega arith))) ∙ c.loop-ruh.invariant
