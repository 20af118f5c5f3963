use Rattle.std.proofs.Common.{◌∙◌, not, rules, tests}
use Rattle.std.specs.Prelude.{if◌then◌else◌}
use Rattle.std.proofs.lemmas.Iterator.{YieldsList-from_slice}
use Rattle.std.proofs.lemmas.Iterator.Consumers.{nth_from_yields_List, YieldsList-from_filter}
use Rattle.fdp_base.specs.declared.event.Event.{Event}
use Rattle.fdp_rules.specs.Events.{is_host_event}
use Rattle.fdp_plain_answers.proofs.telling.event_of_class.Goals as goal

pub returns : goal.returns
returns c =
    c.copied.ensures
    ∙ nth_from_yields_List c.nth.result c.nth.new.self c.args.before c.nth.ensures.ran (YieldsList-from_filter _ (λ (e : Event). if c.args.host then is_host_event e else not (is_host_event e)) (YieldsList-from_slice c.args.events.now cc) c.filter.ensures.closure (λ x r q k. search (rules, tests)))
