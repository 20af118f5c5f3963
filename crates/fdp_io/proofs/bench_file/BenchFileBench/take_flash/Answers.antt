use Rattle.std.proofs.Common.{refl}
use Rattle.fdp_io.proofs.OutNames.{not_out, taken_back}
use Rattle.fdp_io.proofs.bench_file.BenchFileBench.take_flash.Goals as goal

pub returns-in-Refused-NoMemory-clause-answer : goal.returns-in-Refused-NoMemory-clause-answer
returns-in-Refused-NoMemory-clause-answer g c = (
  record {
    images = refl;
    out = taken_back c.args.self.now.out c.add_name.new.names c.remove_name.new.names c.args.name.now c.in-Ok-true.field-0 c.in-Ok-true.field-0-test c.in-Ok-true.ensures c.remove_name.ensures;
  },
  refl,
)

pub returns-in_default-clause-answer : goal.returns-in_default-clause-answer
returns-in_default-clause-answer g c =
    not_out c.args.self.now c.fail-in_default.new.self c.add_name.new.names c.remove_name.new.names c.args.self.now.files c.args.name.now c.in-Ok-true.field-0 c.in-Ok-true.field-0-test c.in-Ok-true.ensures c.remove_name.ensures
    c.fail-in_default.ensures.fault
