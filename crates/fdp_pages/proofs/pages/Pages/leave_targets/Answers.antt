use Rattle.std.proofs.Common.{◌≡◌, ◌∙◌, ap, subst, sym}
use Rattle.fdp_pages.specs.PageTables.{PageTables, passes_at}
use Rattle.fdp_pages.proofs.Moving.{passes-read}
use Rattle.fdp_pages.proofs.Untargeted.{untargeted-by}
use Rattle.fdp_passes.specs.GroupPasses.{GroupPasses, slot_of, target_at}
use Rattle.fdp_units.specs.declared.state.UnitState.{UnitState}
use Rattle.fdp_units.specs.DataUnits.{is_open}
use Rattle.fdp_units.specs.UnitTable.{IsGroup}
use Rattle.fdp_pages.proofs.pages.Pages.leave_targets.Goals as goal

pub close_targets-requires-clause-targets : goal.close_targets-requires-clause-targets
close_targets-requires-clause-targets c = λ lane unit target.
    let t : PageTables = record { handles = c.self.inside.handles; units = c.self.inside.units; owners = c.self.inside.owners; passes = c.self.inside.passes.items } in
    let there : IsGroup t.units c.args.rg = subst (λ (x : PageTables). IsGroup x.units c.args.rg) (sym c.self.view_is) c.requires.group in
    let same : c.index_mut-passes.result.now ≡ passes_at t c.args.rg = passes-read t c.args.rg c.index_mut-passes.result.now c.self.invariant there c.index_mut-passes.ensures.value in
    let own = (c.self.invariant.groups c.args.rg there).ready.targets.targets (slot_of lane) unit (ap (λ (p : GroupPasses). target_at p lane) (sym same) ∙ target) in
    (own.is_unit, ap (λ (s : UnitState). is_open s) own.stands)

pub invariant_of-self : goal.invariant_of-self
invariant_of-self c =
    let t : PageTables = record { handles = c.self.inside.handles; units = c.self.inside.units; owners = c.self.inside.owners; passes = c.self.inside.passes.items } in
    let there : IsGroup t.units c.args.rg = subst (λ (x : PageTables). IsGroup x.units c.args.rg) (sym c.self.view_is) c.requires.group in
    (untargeted-by c.args.self.now t c.args.rg c.index_mut-passes.result.now c.drop_targets.new.self c.classes.result.now c.close_targets.new.units c.self.view_is c.self.invariant c.requires.group c.requires.unowned
    (passes-read t c.args.rg c.index_mut-passes.result.now c.self.invariant there c.index_mut-passes.ensures.value) c.classes.ensures c.close_targets.ensures c.drop_targets.ensures).joined

pub returns : goal.returns
returns c =
    let t : PageTables = record { handles = c.self.inside.handles; units = c.self.inside.units; owners = c.self.inside.owners; passes = c.self.inside.passes.items } in
    let there : IsGroup t.units c.args.rg = subst (λ (x : PageTables). IsGroup x.units c.args.rg) (sym c.self.view_is) c.requires.group in
    (untargeted-by c.args.self.now t c.args.rg c.index_mut-passes.result.now c.drop_targets.new.self c.classes.result.now c.close_targets.new.units c.self.view_is c.self.invariant c.requires.group c.requires.unowned
    (passes-read t c.args.rg c.index_mut-passes.result.now c.self.invariant there c.index_mut-passes.ensures.value) c.classes.ensures c.close_targets.ensures c.drop_targets.ensures).leaves
