use Rattle.std.proofs.Common.{◌++◌, ◌∙◌, List, ℕ, ap}
use Rattle.fdp_output.specs.HistoryText.{entry_lines}
use Rattle.fdp_reader.proofs.Comparing.{entry-found, entry-lost}
use Rattle.fdp_reader.proofs.next.compared.Goals as goal

pub returns-then-begins : goal.returns-then-begins
returns-then-begins c =
    let r = c.requires.read in
    entry-found r.given c.args.config.now c.args.text.now (c.args.position, c.args.entry) c.as_slice-lines.result.now c.requires.valid.ranges.block r.gives r.read
    (c.as_slice-lines.ensures.value ∙ c.in_ok-push_entry.ensures ∙ ap (λ (t : List ℕ). t ++ entry_lines c.args.config.now.block c.args.position c.args.entry) c.new-printed.ensures.items) c.if-begins.ensures

pub returns : goal.returns
returns c =
    let r = c.requires.read in
    entry-lost r.given c.args.config.now c.args.text.now (c.args.position, c.args.entry) c.as_slice-lines.result.now c.same_lines-len.result c.requires.valid.ranges.block r.gives r.read
    (c.as_slice-lines.ensures.value ∙ c.in_ok-push_entry.ensures ∙ ap (λ (t : List ℕ). t ++ entry_lines c.args.config.now.block c.args.position c.args.entry) c.new-printed.ensures.items) c.if-begins.ensures c.same_lines-len.ensures
