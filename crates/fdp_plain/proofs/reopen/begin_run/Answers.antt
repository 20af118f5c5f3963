use Rattle.std.proofs.Common.{ap}
use Rattle.fdp_rules.specs.Change.{changed_by}
use Rattle.fdp_rules.specs.PlainState.{PlainState}
use Rattle.fdp_plain.proofs.reopen.begin_run.Goals as goal

pub returns-clause-forgets : goal.returns-clause-forgets
unfolding changed_by
returns-clause-forgets c =
    let state = c.begin_again.ensures.state in
    record {
      references = ap (λ (s : PlainState). s.references) state;
      going = ap (λ (s : PlainState). s.going) state;
      lost = ap (λ (s : PlainState). s.is_lost) state;
      worn = ap (λ (s : PlainState). s.is_worn) state;
      media = c.clear.ensures.items;
    }
