use Rattle.std.proofs.Common.{◌≡◌, ◌∙◌, ◌<◌, ap, arith, length, sym}
use Rattle.fdp_rules.specs.Change.{one_less}
use Rattle.fdp_rules.specs.Effect.{with_reference}
use Rattle.fdp_handles.specs.HandleTable.{HandleTable, reference_at}
use Rattle.fdp_handles.proofs.Rows.{reference_put, rows_put}
use Rattle.fdp_handles.proofs.handles.Handles.place.Goals as goal

pub invariant_of-self : goal.invariant_of-self
invariant_of-self c =
    let groups : c.self.inside.groups ≡ c.args.self.now.groups = ap (λ (x : HandleTable). x.groups) c.self.view_is in
    let there : c.place_of.result < length c.self.inside.rows.items = omega (arith, groups, c.requires.group, c.requires.handle, c.place_of.ensures, c.self.invariant.rows_are.count) in
    record { rows_are = rows_put c.self.inside.unit_pages c.self.inside.groups c.self.inside.rows.items c.place_of.result c.after_page.result there c.after_page.ensures.left c.self.invariant.rows_are; room = c.self.invariant.room }

pub returns-clause-references : goal.returns-clause-references
returns-clause-references c = λ configuration same.
    let t : HandleTable = c.args.self.now in
    let inside : HandleTable = record { unit_pages = c.self.inside.unit_pages; groups = c.self.inside.groups; classes = c.self.inside.classes.items; rows = c.self.inside.rows.items } in
    let groups : inside.groups ≡ t.groups = ap (λ (x : HandleTable). x.groups) c.self.view_is in
    let pages : configuration.unit_pages ≡ inside.unit_pages = same ∙ sym (ap (λ (x : HandleTable). x.unit_pages) c.self.view_is) in
    let less = c.after_page.ensures.value configuration pages ∙ ap (one_less configuration c.args.unit) c.reference-before.ensures.value in
    reference_put inside c.args.rg c.args.ruh c.place_of.result c.after_page.result (one_less configuration c.args.unit (reference_at t c.args.rg c.args.ruh)) (omega (arith, groups, c.requires.group)) c.requires.handle c.place_of.ensures c.self.invariant.rows_are less
    ∙ ap (λ (x : HandleTable). with_reference (reference_at x) c.args.rg c.args.ruh (one_less configuration c.args.unit (reference_at t c.args.rg c.args.ruh))) c.self.view_is
