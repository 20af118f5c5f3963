use Rattle.std.proofs.Common.{◌≡◌, ◌<◌, ◌∙◌, Bool, ap, arith, length, subst, sym}
use Rattle.fdp_base.specs.Placement.{handle_count}
use Rattle.fdp_book.specs.Book.{BookSeen, point_in}
use Rattle.fdp_book.proofs.Outlining.{enabled-said, index-said}
use Rattle.fdp_book.proofs.book.lookups.BookDrive.handles_in_force.Goals as goal

pub handle_count-requires-clause-index : goal.handle_count-requires-clause-index
handle_count-requires-clause-index c =
    let now : BookSeen = c.args.self.now in
    let low : (point_in now).state.index < length now.config.fdp = subst (λ (b : BookSeen). (point_in b).state.index < length b.config.fdp) c.self.view_is c.self.invariant.held.orderly.state.index in
    let same : length c.self.inside.config.fdp ≡ length now.config.fdp = ap (λ (b : BookSeen). length b.config.fdp) c.self.view_is in
    omega (arith, low, same, index-said now.config (point_in now) c.summary-summary.result.now c.summary-summary.ensures.outline)

pub returns : goal.returns
returns c =
    let now : BookSeen = c.args.self.now in
    let outline = c.summary-summary.result.now in
    c.handle_count.ensures.value
    ∙ ap (λ (b : BookSeen). handle_count b.config outline.enabled outline.index) c.self.view_is
    ∙ ap (λ (b : Bool). handle_count now.config b outline.index) (sym (enabled-said now.config (point_in now) outline c.summary-summary.ensures.outline))
    ∙ ap (handle_count now.config (point_in now).state.enabled) (sym (index-said now.config (point_in now) outline c.summary-summary.ensures.outline))
