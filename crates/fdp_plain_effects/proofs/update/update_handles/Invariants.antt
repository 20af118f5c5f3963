use Rattle.std.proofs.Common.{◌≡◌, take, length}
use Rattle.std.specs.Prelude.{fold}
use Rattle.fdp_rules.specs.Effect.{updated_by}
use Rattle.fdp_tables.specs.State.{plain_of, reference_at}
use Rattle.fdp_plain_effects.proofs.update.update_handles.Given as goal

abbrev pub invariant-loop-pid : goal.invariant-loop-pid
invariant-loop-pid l = record {
  rest : l.kept ≡ record l.fn.kept { references = l.kept.references };
  rows : length l.kept.references.items ≡ length l.fn.kept.references.items;
  updated : reference_at l.kept ≡ fold (updated_by l.fn.kept.config (plain_of l.fn.kept) l.nsid) (reference_at l.fn.kept) (take l.pid-index l.pids);
}
