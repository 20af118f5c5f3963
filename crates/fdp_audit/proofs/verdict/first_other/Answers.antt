use Rattle.fdp_reader.proofs.Fronts.{line-number}
use Rattle.fdp_audit.proofs.verdict.first_other.Goals as goal

pub returns : goal.returns
returns c =
    let s = c.same_lines.ensures in
    record {
      differ = c.requires;
      count = c.same_lines.result;
      same = s;
      number_is = line-number c.args.text.now s.same.lines s.rest c.same_lines.result c.line_at.result s.same.whole s.same.right_is s.counted c.line_at.ensures;
    }
