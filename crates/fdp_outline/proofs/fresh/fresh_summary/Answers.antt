use Rattle.std.proofs.Common.{List, Option, arith, refl, subst, sym}
use Rattle.fdp_base.specs.declared.config.NamespaceConfig.{NamespaceConfig}
use Rattle.fdp_image.specs.Reads.{fresh_reading}
use Rattle.fdp_rules.specs.History.{fresh}
use Rattle.fdp_snapshot.specs.declared.space.Space.{Space}
use Rattle.fdp_outline.specs.Fresh.{ArePlaced}
use Rattle.fdp_outline.proofs.Making.{fresh-outline}
use Rattle.fdp_outline.proofs.fresh.fresh_summary.Goals as goal

pub returns-clause-outline : goal.returns-clause-outline
returns-clause-outline c =
    fresh-outline c.args.config.now c.in_ok-keys.keys c.from_vec.result c.in_ok-host_events.host_events c.in_ok-controller_events.controller_events c.in_ok-keys.ensures.same
    (subst (λ (rows : List (Option Space)). ArePlaced c.args.config.now.namespaces 16 rows) (sym c.from_vec.ensures) (subst (λ (xs : List NamespaceConfig). ArePlaced xs 16 c.in_ok-spaces.spaces.items) c.as_slice.ensures c.in_ok-spaces.ensures))
    (omega (arith, c.requires.ranges.namespaces)) c.in_ok-host_events.ensures c.in_ok-controller_events.ensures

pub returns-clause-totals : goal.returns-clause-totals
unfolding fresh_reading fresh
returns-clause-totals c = refl
