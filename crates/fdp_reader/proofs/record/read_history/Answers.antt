use Rattle.std.proofs.Common.{◌-◌, length, refl, subst}
use Rattle.fdp_reader.specs.Entries.{Comes}
use Rattle.fdp_reader.proofs.Outcomes.{stop-outcome, whole-outcome}
use Rattle.fdp_reader.proofs.record.read_history.Goals as goal

pub returns-in-Ok-Whole : goal.returns-in-Ok-Whole
returns-in-Ok-Whole c =
    let came = subst (Comes c.args.config.now c.args.rest.now) c.in-Ok-Whole.field-0-is c.in-Ok-Whole.ensures in
    whole-outcome c.args.config.now c.args.text.now c.args.place c.args.rest.now c.args.traces
    (record { traces = c.args.traces; output = length c.args.text.now - length c.args.rest.now; entries = c.in-Ok-Whole.entries }) c.requires.valid.ranges.block c.requires.walks c.requires.closing came refl refl

pub returns-in-Ok-Stop : goal.returns-in-Ok-Stop
returns-in-Ok-Stop c =
    let came = subst (Comes c.args.config.now c.args.rest.now) c.in-Ok-Stop.field-0-is c.in-Ok-Stop.ensures in
    stop-outcome c.args.config.now c.args.text.now c.args.place c.args.rest.now c.args.traces c.in-Ok-Stop.len c.line_at.result c.requires.walks c.requires.closing came.0 came.1 c.line_at.ensures
