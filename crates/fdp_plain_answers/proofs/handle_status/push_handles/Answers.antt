use Rattle.std.proofs.Common.{ℕ, List, arith}
use Rattle.std.specs.Prelude.{flat_map}
use Rattle.fdp_rules.specs.LogPages.{status_descriptor}
use Rattle.fdp_base.specs.Numbers.{numbers_below}
use Rattle.fdp_tables.specs.State.{plain_of}
use Rattle.fdp_tables.specs.declared.state.Kept.{Kept}
use Rattle.fdp_plain_answers.proofs.Appending.{appending_places_end, appending_places_next}
use Rattle.fdp_plain_answers.proofs.handle_status.push_handles.Goals as goal

-- the descriptors of a placement handle
abbrev descriptors : Kept → (ℕ × ℕ) → List ℕ
descriptors k x = flat_map (status_descriptor k.config (plain_of k) x.0 x.1) (numbers_below k.config.groups)

pub loop-handle-preserved : goal.loop-handle-preserved
loop-handle-preserved c =
    appending_places_next (descriptors c.args.kept.now) c.args.handles.now c.loop-handle.handle c.args.bytes.now.items c.loop-handle.bytes.items _ _ (omega arith) c.in_ok-push_groups.ensures c.loop-handle.invariant

pub returns : goal.returns
returns c =
    appending_places_end (descriptors c.args.kept.now) c.args.handles.now c.loop-handle.handle c.args.bytes.now.items c.loop-handle.bytes.items (omega arith) c.loop-handle.invariant
