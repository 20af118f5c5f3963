use Rattle.std.proofs.Common.{[], ◌∙◌, arith}
use Rattle.fdp_finding.proofs.Parts.{Part, part_failed}
use Rattle.fdp_finding.proofs.line.write_parts.Goals as goal

-- what the loop reads past the end
abbrev none : Part
none = record { ref_ptr = (0, 0); now = [] }

pub returns-in-Err : goal.returns-in-Err
returns-in-Err g c = record {
  tells = c.in-Err.ensures.told ∙ c.loop-part.invariant.tells;
  faults = omega (arith, c.in-Err.ensures.faults, c.loop-part.invariant.faults);
  counts = tt;
  ends = part_failed (g.K.Sink.state c.args.sink.now) (g.K.Sink.state c.loop-part.sink) (g.K.Sink.state c.write_all.new.sink) c.args.parts.now c.loop-part.part-index none c.as_bytes.result.now
      c.loop-part.invariant c.loop-part-test.true c.as_bytes.ensures.value c.in-Err.ensures.ends;
}
