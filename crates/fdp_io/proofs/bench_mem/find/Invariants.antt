use Rattle.std.proofs.Common.{◌≡◌, drop}
use Rattle.fdp_io.specs.Texts.{text_named}
use Rattle.fdp_io.proofs.bench_mem.find.Given as goal

abbrev pub invariant-loop-text : goal.invariant-loop-text
invariant-loop-text l = text_named l.name (drop l.text-index l.texts) ≡ text_named l.name l.texts
