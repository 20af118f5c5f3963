use Rattle.std.proofs.Common.{◌≡◌, ◌++◌, ◌-◌}
use Rattle.fdp_prints.specs.Reader.{lines_in}
use Rattle.fdp_reader.specs.Forms.{form_of}
use Rattle.fdp_reader.proofs.data.push_lines.Given as goal

abbrev pub invariant-loop : goal.invariant-loop
invariant-loop l = l.into.items ++ lines_in (form_of l.form) l.size (l.lines - l.counter) l.left l.rest ≡ l.fn.into.items ++ lines_in (form_of l.form) l.size l.lines l.fn.left l.text
