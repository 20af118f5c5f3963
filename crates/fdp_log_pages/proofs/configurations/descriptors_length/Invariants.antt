use Rattle.std.proofs.Common.{◌≡◌, ◌*◌, ◌≤◌, length}
use Rattle.std.specs.Prelude.{flat_map, take}
use Rattle.fdp_rules.specs.LogPages.{descriptor}
use Rattle.fdp_log_pages.proofs.configurations.descriptors_length.Given as goal

abbrev pub invariant-loop-classes : goal.invariant-loop-classes
invariant-loop-classes l = record {
  value : l.bytes ≡ length (flat_map (descriptor l.config) (take l.classes-index l.config.fdp));
  bound : l.bytes ≤ 128 * l.classes-index;
}
