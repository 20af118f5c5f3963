use Rattle.std.proofs.Common.{[], ◌∙◌, ap, sym}
use Rattle.fdp_binary.specs.Reading.{Stream}
use Rattle.fdp_finding.proofs.Formed.{servable_stream}
use Rattle.fdp_finding.proofs.traces.read_stream.Goals as goal

pub returns-in-Ok-finish-clause-servable : goal.returns-in-Ok-finish-clause-servable
returns-in-Ok-finish-clause-servable c = λ d is.
    let fed = c.in-Ok.ensures [] c.new-reader.ensures.read in
    servable_stream d c.feed.new.self.block c.args.bytes.now c.in-Ok-finish.commands.items (c.in-Ok-finish.ensures c.args.bytes.now fed.2)
    (is ∙ sym (fed.0 ∙ ap (λ (s : Stream). s.block) c.new-reader.ensures.empty))
