use Rattle.std.proofs.Common.{◌≡◌, ◌≢◌, ℕ, ◌+◌, ◌*◌, ◌%◌, List, length, ◌∙◌, ap, sym}
use Rattle.std.specs.Prelude.{◌==◌, if◌then◌else◌}
use Rattle.fdp_base.specs.declared.event.Event.{Event}
use Rattle.fdp_base.specs.Placement.{handle_count}
use Rattle.fdp_log_pages.proofs.Lengths.{events_log_length, usages_log_length}
use Rattle.fdp_log_pages.proofs.Telling.{events_told, page_events, page_usages, usages_told}
use Rattle.fdp_log_pages.specs.Told.{Told}
use Rattle.fdp_log_pages.proofs.view.LogView.page_length.Goals as goal

pub returns-then-lid-code-2 : goal.returns-then-lid-code-2
returns-then-lid-code-2 c = λ p tells.
    let t = c.args.self.now in
    let count : c.from-then-lid-code-2.result ≡ handle_count t.config t.summary.enabled t.summary.index = c.from-then-lid-code-2.ensures ∙ c.handles.ensures in
    let places : length t.summary.spaces ≡ 16 = sym (ap (λ (x : Told). length x.summary.spaces) c.self.view_is) ∙ c.self.invariant.places in
    ap (λ (n : ℕ). 8 + 8 * n) count
    ∙ sym (usages_log_length (handle_count t.config t.summary.enabled t.summary.index) t.summary.spaces)
    ∙ ap (λ (bytes : List ℕ). length bytes) (usages_told t p places tells ∙ sym (page_usages t.config p c.args.lid c.args.lsp (c.if-lid-code-2.true ∙ c.code-else-lid-code.ensures)))

pub returns-else-lid-code-3 : goal.returns-else-lid-code-3
returns-else-lid-code-3 c = λ p tells.
    let t = c.args.self.now in
    let no_20 : c.args.lid ≢ 0x20 = λ e. c.if-lid-code.false (e ∙ sym c.code.ensures) in
    let no_21 : c.args.lid ≢ 0x21 = λ e. c.if-lid-code-2.false (e ∙ sym c.code-else-lid-code.ensures) in
    let no_22 : c.args.lid ≢ 0x22 = λ e. c.if-lid-code-3.false (e ∙ sym c.code-else-lid-code-2.ensures) in
    let told : c.events.result.now ≡ (if c.args.lsp % 2 == 1 then p.host_events else p.controller_events) = c.events.ensures ∙ events_told t p c.args.lsp tells in
    ap (λ (n : ℕ). 64 + 64 * n) c.len.ensures.len
    ∙ ap (λ (es : List Event). 64 + 64 * length es) told
    ∙ sym (events_log_length (if c.args.lsp % 2 == 1 then p.host_events else p.controller_events))
    ∙ ap (λ (bytes : List ℕ). length bytes) (sym (page_events t.config p c.args.lid c.args.lsp no_20 no_21 no_22))
