use Rattle.std.proofs.Common.{ℕ, List, Option, subst, sym, replicate}
use Rattle.fdp_map.specs.MapTable.{IsCounted}
use Rattle.fdp_map.specs.PageLists.{table_of}
use Rattle.fdp_map.proofs.Vacant.{counted_first}
use Rattle.fdp_map.proofs.map.Map.new.Goals as goal

pub invariant_of-result : goal.invariant_of-result
invariant_of-result c = subst (λ (lists : List (List (Option ℕ))). IsCounted (table_of c.args.geometry lists) (replicate 16 0)) (sym c.in_ok-lists.ensures) (counted_first c.args.geometry c.requires)
