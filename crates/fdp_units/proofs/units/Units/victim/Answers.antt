use Rattle.std.proofs.Common.{ℕ, Option, subst, sym}
use Rattle.std.specs.Prelude.{MatchOption}
use Rattle.fdp_units.specs.UnitTable.{HasNoVictim, IsVictim, UnitTable}
use Rattle.fdp_units.proofs.Chosen.{victim-told, victim-within}
use Rattle.fdp_units.proofs.units.Units.victim.Goals as goal

pub numbered-requires-clause-index : goal.numbered-requires-clause-index
numbered-requires-clause-index c =
    let t : UnitTable = record { unit_pages = c.self.inside.unit_pages; group_units = c.self.inside.group_units; groups = c.self.inside.groups.items } in
    victim-within t c.args.self.now c.args.rg c.index.result.now c.self.view_is c.self.invariant c.requires c.index.ensures c.victim.result c.victim.ensures

pub returns : goal.returns
returns c =
    let t : UnitTable = record { unit_pages = c.self.inside.unit_pages; group_units = c.self.inside.group_units; groups = c.self.inside.groups.items } in
    subst (λ (o : Option ℕ). MatchOption o (HasNoVictim c.args.self.now c.args.rg) (λ unit. IsVictim c.args.self.now c.args.rg unit)) (sym c.numbered.ensures)
    (victim-told t c.args.self.now c.args.rg c.index.result.now c.self.view_is c.self.invariant c.requires c.index.ensures c.victim.result c.victim.ensures)
