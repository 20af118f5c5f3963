use Rattle.std.proofs.Common.{map}
use Rattle.std.specs.Prelude.{nat_lt}
use Rattle.std.specs.Vec.{vec_items}
use Rattle.fdp_tables.specs.PageSites.{changed_by}
use Rattle.fdp_tables.proofs.Siting.{IsChanging}
use Rattle.fdp_tables.proofs.site_change.change_all.Given as goal

abbrev pub invariant-loop-ticket : goal.invariant-loop-ticket
invariant-loop-ticket l = IsChanging (map (changed_by l.change)) (λ ticket. nat_lt ticket l.ticket) (map vec_items l.fn.rows.items) (map vec_items l.rows.items)
