use Rattle.std.proofs.Common.{◌≡◌, ◌++◌, take}
use Rattle.fdp_base.specs.Text.{hex_bytes}
use Rattle.fdp_trace.specs.Printer.{Extends}
use Rattle.fdp_trace.proofs.hex.push_hex_bytes.Given as goal

abbrev pub invariant-loop-b : goal.invariant-loop-b
invariant-loop-b l = (l.text.items ≡ l.fn.text.items ++ hex_bytes (take l.b-index l.bytes)) × Extends l.fn.text.items l.text.items
