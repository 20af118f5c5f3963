use Rattle.std.proofs.Common.{◌++◌, ◌∙◌, ap, ap₂, decimal}
use Rattle.fdp_make.specs.Summary.{summary_line}
use Rattle.fdp_make.proofs.Lines.{line_pushed}
use Rattle.fdp_make.proofs.line.push_summary.Goals as goal

pub returns : goal.returns
returns c =
    let s = c.args.summary.now in
    line_pushed c.args.into.now.items c.extend_from_slice.new.self.items c.extend_from_slice-2.new.self.items c.push_sum.new.into.items c.push_sum-2.new.into.items
    c.push_sum-3.new.into.items c.push_sum-4.new.into.items c.push_sum-5.new.into.items c.push.new.self.items
    c.args.word.now (decimal c.from.result) (decimal c.from-2.result) (decimal s.host_bytes) (decimal s.read) (decimal s.same)
    c.in_ok-extend_from_slice.ensures.items (c.in_ok-extend_from_slice-2.ensures.items ∙ ap (λ xs. c.extend_from_slice.new.self.items ++ xs) c.as_bytes.ensures.value) c.in_ok-push_sum.ensures c.in_ok-push_sum-2.ensures c.in_ok-push_sum-3.ensures c.in_ok-push_sum-4.ensures c.in_ok-push_sum-5.ensures c.in_ok-push.ensures.items
    ∙ ap₂ (λ commands ok. c.args.into.now.items ++ summary_line c.args.word.now (record s { commands = commands; successes = ok })) c.from.ensures c.from-2.ensures
