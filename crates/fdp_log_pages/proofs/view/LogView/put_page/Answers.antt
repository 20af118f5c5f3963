use Rattle.std.proofs.Common.{◌≡◌, ℕ, List, length, ◌∙◌, ap, sym, subst}
use Rattle.fdp_base.specs.declared.entry.Totals.{Totals}
use Rattle.fdp_base.specs.Placement.{handle_count}
use Rattle.fdp_rules.specs.LogPages.{log_page, statistics_log}
use Rattle.fdp_snapshot.specs.declared.space.Space.{Space}
use Rattle.std.specs.Prelude.{Option}
use Rattle.fdp_pieces.specs.Parts.{PutsPiece}
use Rattle.fdp_log_pages.proofs.Telling.{page_statistics, page_usages, usages_told}
use Rattle.fdp_log_pages.specs.Told.{Told}
use Rattle.fdp_log_pages.specs.Usages.{usages_log}
use Rattle.fdp_log_pages.proofs.view.LogView.put_page.Goals as goal

pub returns-then-lid-code-2 : goal.returns-then-lid-code-2
returns-then-lid-code-2 c = λ p tells.
    let t = c.args.self.now in
    let sixteen : length t.summary.spaces ≡ 16 = sym (ap (λ (x : Told). length x.summary.spaces) c.self.view_is) ∙ c.self.invariant.places in
    let same : c.self.inside.summary.now.spaces ≡ t.summary.spaces = ap (λ (x : Told). x.summary.spaces) c.self.view_is in
    let page : usages_log c.handles.result c.as_slice.result.now ≡ log_page t.config p c.args.lid c.args.lsp =
    ap (λ (n : ℕ). usages_log n c.as_slice.result.now) c.handles.ensures
    ∙ ap (λ (places : List (Option Space)). usages_log (handle_count t.config t.summary.enabled t.summary.index) places) (c.as_slice.ensures ∙ same)
    ∙ usages_told t p sixteen tells
    ∙ sym (page_usages t.config p c.args.lid c.args.lsp (c.if-lid-code-2.true ∙ c.code-else-lid-code.ensures)) in
    subst (λ (bytes : List ℕ). PutsPiece c.args.offset 0 bytes c.args.into.now c.put_usages.new.into) page c.put_usages.ensures

pub returns-then-lid-code-3 : goal.returns-then-lid-code-3
returns-then-lid-code-3 c = λ p tells.
    let t = c.args.self.now in
    let page : c.statistics_log.result ≡ log_page t.config p c.args.lid c.args.lsp =
    c.statistics_log.ensures ∙ ap (λ (x : Told). statistics_log x.config x.totals) c.self.view_is
    ∙ ap (λ (totals : Totals). statistics_log t.config totals) tells.totals
    ∙ sym (page_statistics t.config p c.args.lid c.args.lsp (c.if-lid-code-3.true ∙ c.code-else-lid-code-2.ensures)) in
    subst (λ (bytes : List ℕ). PutsPiece c.args.offset 0 bytes c.args.into.now c.put_piece.new.into) page c.put_piece.ensures
