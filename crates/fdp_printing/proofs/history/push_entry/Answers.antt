use Rattle.std.proofs.Common.{decimal}
use Rattle.fdp_output.specs.HistoryText.{entry_data, entry_words}
use Rattle.fdp_trace.proofs.Printed.{when_ok}
use Rattle.fdp_printing.proofs.Lists.{entry_pushed}
use Rattle.fdp_printing.proofs.history.push_entry.Goals as goal

pub returns : goal.returns
returns c =
    when_ok _ _ c.push_entry_data.result (λ added. entry_pushed c.args.into.now.items c.push_decimal.new.into.items c.push_words.new.into.items c.push.new.self.items c.push_entry_data.new.into.items
    (decimal c.args.position) (entry_data c.args.block c.args.entry.now) (entry_words c.args.entry.now)
    c.in_ok-push_decimal.ensures.ok c.in_ok-push_words.ensures c.in_ok-push.ensures.items added) c.push_entry_data.ensures
