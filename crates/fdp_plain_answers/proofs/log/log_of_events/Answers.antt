use Rattle.std.proofs.Common.{◌≡◌, ◌%◌, ◌==◌, true, false, rules, tests}
use Rattle.fdp_plain_answers.proofs.log.log_of_events.Goals as goal

pub returns-then-lsp-eq1 : goal.returns-then-lsp-eq1
returns-then-lsp-eq1 c =
    let odd : (c.args.lsp % 2 == 1) ≡ true = search (rules, tests) in
    rw odd (rw c.events.ensures at c.latest_log.ensures)

pub returns-else-lsp-eq1 : goal.returns-else-lsp-eq1
returns-else-lsp-eq1 c =
    let even : (c.args.lsp % 2 == 1) ≡ false = search (rules, tests) in
    rw even (rw c.events-else-lsp-eq1.ensures at c.latest_log-else-lsp-eq1.ensures)
