use Rattle.std.proofs.Common.{◌≡◌, ap, sym, ◌∙◌, subst}
use Rattle.std.specs.Prelude.{IsTrue, slice_set}
use Rattle.fdp_pages.specs.Joined.{AreJoined}
use Rattle.fdp_pages.specs.PageTables.{PageTables, is_under_way, passes_at}
use Rattle.fdp_pages.specs.Steps.{HasMoved, ended_move}
use Rattle.fdp_pages.proofs.Moving.{passes-read}
use Rattle.fdp_pages.proofs.Regrouped.{end-joined}
use Rattle.fdp_passes.specs.GroupPasses.{GroupPasses}
use Rattle.fdp_units.specs.UnitTable.{IsGroup}
use Rattle.fdp_pages.proofs.pages.Pages.end_move.Goals as goal

pub invariant_of-self : goal.invariant_of-self
invariant_of-self c =
    let t : PageTables = record { handles = c.self.inside.handles; units = c.self.inside.units; owners = c.self.inside.owners; passes = c.self.inside.passes.items } in
    let there : IsGroup t.units c.args.rg = subst (λ (x : PageTables). IsGroup x.units c.args.rg) (sym c.self.view_is) c.requires.group in
    let under : IsTrue (is_under_way t c.args.rg) = subst (λ (x : PageTables). IsTrue (is_under_way x c.args.rg)) (sym c.self.view_is) c.requires.pass in
    let moved : HasMoved t c.args.rg = subst (λ (x : PageTables). HasMoved x c.args.rg) (sym c.self.view_is) c.requires.moved in
    let same : c.index_mut-passes.result.now ≡ passes_at t c.args.rg = passes-read t c.args.rg c.index_mut-passes.result.now c.self.invariant there c.index_mut-passes.ensures.value in
    let now : c.moved.new.self ≡ ended_move (passes_at t c.args.rg) = c.moved.ensures ∙ ap ended_move same in
    subst (λ (p : GroupPasses). AreJoined (record t { passes = slice_set t.passes c.args.rg p })) (sym now) (end-joined t c.args.rg c.self.invariant there under moved)
