use Rattle.std.proofs.Common.{◌≡◌, sym, subst, List}
use Rattle.fdp_base.specs.declared.config.Class.{Class}
use Rattle.fdp_collector.specs.Ready.{IsReady, Relocation}
use Rattle.fdp_collector.specs.Step.{IsStep}
use Rattle.std.specs.Prelude.{slice_set}
use Rattle.fdp_pages.specs.PageTables.{PageTables, passes_at, relocation_at}
use Rattle.fdp_pages.proofs.Advanced.{advance-joined}
use Rattle.fdp_pages.proofs.Moving.{passes-read}
use Rattle.fdp_pages.proofs.Regrouped.{group-low, passes-here}
use Rattle.fdp_passes.specs.GroupPasses.{GroupPasses}
use Rattle.fdp_units.specs.UnitTable.{IsGroup}
use Rattle.fdp_pages.proofs.pages.Pages.advance.Goals as goal

pub advance-requires-clause-ready : goal.advance-requires-clause-ready
advance-requires-clause-ready g c =
    let t : PageTables = record { handles = c.self.inside.handles; units = c.self.inside.units; owners = c.self.inside.owners; passes = c.self.inside.passes.items } in
    let there : IsGroup t.units c.args.rg = subst (λ (x : PageTables). IsGroup x.units c.args.rg) (sym c.self.view_is) c.requires.group in
    let same : c.index_mut-passes.result.now ≡ passes_at t c.args.rg = passes-read t c.args.rg c.index_mut-passes.result.now c.self.invariant there c.index_mut-passes.ensures.value in
    subst (λ (p : GroupPasses). IsReady (record { passes = p; units = t.units }) t.owners c.classes.result.now c.args.rg) (sym same)
    (subst (λ (classes : List Class). IsReady (relocation_at t c.args.rg) t.owners classes c.args.rg) (sym c.classes.ensures) (c.self.invariant.groups c.args.rg there).ready)

pub invariant_of-self : goal.invariant_of-self
invariant_of-self g c =
    let t : PageTables = record { handles = c.self.inside.handles; units = c.self.inside.units; owners = c.self.inside.owners; passes = c.self.inside.passes.items } in
    let there : IsGroup t.units c.args.rg = subst (λ (x : PageTables). IsGroup x.units c.args.rg) (sym c.self.view_is) c.requires.group in
    let same : c.index_mut-passes.result.now ≡ passes_at t c.args.rg = passes-read t c.args.rg c.index_mut-passes.result.now c.self.invariant there c.index_mut-passes.ensures.value in
    let now : Relocation = record { passes = c.advance.new.passes; units = c.advance.new.units } in
    let step : IsStep t.owners t.handles.classes c.args.rg c.args.may_erase (relocation_at t c.args.rg) now (g.F.Flash.state c.args.flash.now) (g.F.Flash.state c.advance.new.flash) c.advance.result =
    subst (λ (p : GroupPasses). IsStep t.owners t.handles.classes c.args.rg c.args.may_erase (record { passes = p; units = t.units }) now (g.F.Flash.state c.args.flash.now) (g.F.Flash.state c.advance.new.flash) c.advance.result) same
    (subst (λ (classes : List Class). IsStep t.owners classes c.args.rg c.args.may_erase (record { passes = c.index_mut-passes.result.now; units = t.units }) now (g.F.Flash.state c.args.flash.now) (g.F.Flash.state c.advance.new.flash) c.advance.result) c.classes.ensures c.advance.ensures.step) in
    advance-joined t c.args.rg c.args.may_erase c.advance.new.passes c.advance.new.units (g.F.Flash.state c.args.flash.now) (g.F.Flash.state c.advance.new.flash) c.advance.result c.self.invariant there step
    (subst (λ (classes : List Class). IsReady now t.owners classes c.args.rg) c.classes.ensures c.advance.ensures.ready)

pub returns-clause-step : goal.returns-clause-step
returns-clause-step g c =
    let t : PageTables = record { handles = c.self.inside.handles; units = c.self.inside.units; owners = c.self.inside.owners; passes = c.self.inside.passes.items } in
    let there : IsGroup t.units c.args.rg = subst (λ (x : PageTables). IsGroup x.units c.args.rg) (sym c.self.view_is) c.requires.group in
    let same : c.index_mut-passes.result.now ≡ passes_at t c.args.rg = passes-read t c.args.rg c.index_mut-passes.result.now c.self.invariant there c.index_mut-passes.ensures.value in
    let now : Relocation = record { passes = c.advance.new.passes; units = c.advance.new.units } in
    let step : IsStep t.owners t.handles.classes c.args.rg c.args.may_erase (relocation_at t c.args.rg) now (g.F.Flash.state c.args.flash.now) (g.F.Flash.state c.advance.new.flash) c.advance.result =
    subst (λ (p : GroupPasses). IsStep t.owners t.handles.classes c.args.rg c.args.may_erase (record { passes = p; units = t.units }) now (g.F.Flash.state c.args.flash.now) (g.F.Flash.state c.advance.new.flash) c.advance.result) same
    (subst (λ (classes : List Class). IsStep t.owners classes c.args.rg c.args.may_erase (record { passes = c.index_mut-passes.result.now; units = t.units }) now (g.F.Flash.state c.args.flash.now) (g.F.Flash.state c.advance.new.flash) c.advance.result) c.classes.ensures c.advance.ensures.step) in
    let here = passes-here t c.args.rg c.advance.new.passes (group-low t c.args.rg c.self.invariant there) in
    let last : IsStep t.owners t.handles.classes c.args.rg c.args.may_erase (relocation_at t c.args.rg) (relocation_at (record t { units = c.advance.new.units; passes = slice_set t.passes c.args.rg c.advance.new.passes }) c.args.rg) (g.F.Flash.state c.args.flash.now) (g.F.Flash.state c.advance.new.flash) c.advance.result =
    subst (λ (p : GroupPasses). IsStep t.owners t.handles.classes c.args.rg c.args.may_erase (relocation_at t c.args.rg) (record { passes = p; units = c.advance.new.units }) (g.F.Flash.state c.args.flash.now) (g.F.Flash.state c.advance.new.flash) c.advance.result) (sym here) step in
    subst (λ (x : PageTables). IsStep x.owners x.handles.classes c.args.rg c.args.may_erase (relocation_at x c.args.rg) (relocation_at (record t { units = c.advance.new.units; passes = slice_set t.passes c.args.rg c.advance.new.passes }) c.args.rg) (g.F.Flash.state c.args.flash.now) (g.F.Flash.state c.advance.new.flash) c.advance.result) c.self.view_is last
