use Rattle.std.proofs.Common.{◌≡◌, ◌≤◌, ◌*◌, ◌^◌, sum_by, take}
use Rattle.fdp_config.proofs.room.blocks_of.Given as goal

abbrev pub invariant-loop-namespace : goal.invariant-loop-namespace
invariant-loop-namespace l = record {
  sum : l.blocks ≡ sum_by (λ n. n.blocks) (take l.namespace-index l.namespaces);
  bound : l.blocks ≤ 2 ^ 64 * l.namespace-index;
}
