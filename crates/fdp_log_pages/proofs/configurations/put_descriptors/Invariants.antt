use Rattle.std.proofs.Common.{◌≡◌, ◌+◌, ◌*◌, ◌≤◌, length}
use Rattle.std.specs.Prelude.{flat_map, take}
use Rattle.fdp_rules.specs.LogPages.{descriptor}
use Rattle.fdp_pieces.specs.Parts.{PutsPiece}
use Rattle.fdp_log_pages.proofs.configurations.put_descriptors.Given as goal

abbrev pub invariant-loop-classes : goal.invariant-loop-classes
invariant-loop-classes l = record {
  puts : PutsPiece l.offset 16 (flat_map (descriptor l.config) (take l.classes-index l.config.fdp)) l.initial.into l.into;
  place : l.at ≡ 16 + length (flat_map (descriptor l.config) (take l.classes-index l.config.fdp));
  bound : l.at ≤ 16 + 128 * l.classes-index;
}
