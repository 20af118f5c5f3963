use Rattle.std.proofs.Common.{refl, subst, map, length, ◌≤◌, List}
use Rattle.std.specs.List.{AllZip}
use Rattle.fdp_finding.specs.CommandLine.{as_names}
use Rattle.fdp_finding.specs.Wanted.{ReadsCommands, TracesLack, commands_of}
use Rattle.fdp_finding.proofs.Texts.{Name, spelling, texts_found, traces_lacking}
use Rattle.fdp_finding.proofs.reading.find_texts.Goals as goal

pub returns-in-Ok-clause-answer : goal.returns-in-Ok-clause-answer
returns-in-Ok-clause-answer g c =
    let names = c.args.names in
    let config = c.in_ok-config.config in
    let old = g.B.Bench.state c.args.bench.now in
    let mid = g.B.Bench.state c.find_config.new.bench in
    let few = subst (λ (ns : List Name). length ns ≤ config.queues) c.deref.ensures.value c.in-Ok.ensures.queued.0 in
    let all = subst (λ (ns : List Name). AllZip (ReadsCommands c.args.texts config.block mid) (map spelling ns) (commands_of c.in-Ok.traces.items)) c.deref.ensures.value c.in-Ok.ensures.answer in (
      refl,
      texts_found c.args.texts old mid names.traces.items names.config.now names.image.now config (commands_of c.in-Ok.traces.items)
          c.in_ok-config.ensures.texts c.in_ok-config.ensures.answer c.in_ok-config.ensures.valid few all,
    )

pub returns-clause-answer : goal.returns-clause-answer
returns-clause-answer g c =
    let mid = g.B.Bench.state c.find_config.new.bench in
    let new = g.B.Bench.state c.find_traces.new.bench in
    let lacks = subst (λ (ns : List Name). TracesLack c.args.texts c.in_ok-config.config mid new (map spelling ns) c.in-Err.fault) c.deref.ensures.value c.in-Err.ensures.answer in
    traces_lacking c.args.texts (g.B.Bench.state c.args.bench.now) mid new (as_names c.args.names) c.in_ok-config.config c.in-Err.fault
    c.in_ok-config.ensures.texts c.in_ok-config.ensures.counts c.in_ok-config.ensures.answer lacks
