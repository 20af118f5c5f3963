use Rattle.std.proofs.Common.{ℕ, Option, subst, sym}
use Rattle.std.specs.Prelude.{MatchOption}
use Rattle.fdp_units.specs.UnitTable.{HasNoFree, IsLowestFree, UnitTable}
use Rattle.fdp_units.proofs.Chosen.{free-told, free-within}
use Rattle.fdp_units.proofs.units.Units.lowest_free.Goals as goal

pub numbered-requires-clause-index : goal.numbered-requires-clause-index
numbered-requires-clause-index c =
    let t : UnitTable = record { unit_pages = c.self.inside.unit_pages; group_units = c.self.inside.group_units; groups = c.self.inside.groups.items } in
    free-within t c.args.self.now c.args.rg c.index.result.now c.self.view_is c.self.invariant c.requires c.index.ensures c.lowest_free.result c.lowest_free.ensures

pub returns : goal.returns
returns c =
    let t : UnitTable = record { unit_pages = c.self.inside.unit_pages; group_units = c.self.inside.group_units; groups = c.self.inside.groups.items } in
    subst (λ (o : Option ℕ). MatchOption o (HasNoFree c.args.self.now c.args.rg) (λ unit. IsLowestFree c.args.self.now c.args.rg unit)) (sym c.numbered.ensures)
    (free-told t c.args.self.now c.args.rg c.index.result.now c.self.view_is c.self.invariant c.requires c.index.ensures c.lowest_free.result c.lowest_free.ensures)
