use Rattle.std.proofs.Common.{◌≡◌, ◌∙◌, ◌<◌, ℕ, ap, subst, sym}
use Rattle.std.specs.Prelude.{◌&&◌, nat_lt}
use Rattle.fdp_base.specs.declared.config.DriveConfig.{DriveConfig}
use Rattle.fdp_book.specs.Book.{state_in}
use Rattle.fdp_handles.specs.HandleTable.{HandleTable, reference_at}
use Rattle.fdp_readings.specs.fdp_pages.PageTables.{PageTables}
use Rattle.fdp_rules.specs.PlainState.{Reference}
use Rattle.fdp_book.proofs.changes.updated.is_partly_written.Goals as goal

pub left-left-requires-clause-group : goal.left-left-requires-clause-group
left-left-requires-clause-group c =
    let same : c.handles.result.now ≡ c.args.book.now.pages.handles = c.handles.ensures ∙ ap (λ (x : PageTables). x.handles) c.pages.ensures in
    subst (λ (h : HandleTable). c.args.rg < h.groups) (sym same) (subst (λ (n : ℕ). c.args.rg < n) c.known.ensures.units.groups c.requires.group)

pub returns : goal.returns
returns c =
    let b = c.args.book.now in
    let same : c.handles.result.now ≡ b.pages.handles = c.handles.ensures ∙ ap (λ (x : PageTables). x.handles) c.pages.ensures in
    let left : c.left-left.result ≡ ((state_in b).references c.args.rg c.args.ruh).left =
    c.left-left.ensures.value ∙ ap (λ (h : HandleTable). (reference_at h c.args.rg c.args.ruh).left) same ∙ ap (λ (x : Reference). x.left) (sym (c.known.ensures.units.references c.args.rg c.args.ruh)) in
    c.is_partly.ensures
    ∙ ap (λ (n : ℕ). nat_lt 0 n && nat_lt n c.config.result.now.unit_pages) left
    ∙ ap (λ (x : DriveConfig). nat_lt 0 ((state_in b).references c.args.rg c.args.ruh).left && nat_lt ((state_in b).references c.args.rg c.args.ruh).left x.unit_pages) c.config.ensures.config
