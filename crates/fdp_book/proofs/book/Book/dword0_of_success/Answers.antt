use Rattle.std.proofs.Common.{◌∙◌, Bool, ℕ, Option, ◌+◌, ◌*◌, ap, sym}
use Rattle.std.specs.Prelude.{if◌then◌else◌, unwrap_or}
use Rattle.fdp_book.specs.Book.{BookSeen, point_in, state_in}
use Rattle.fdp_book.proofs.Outlining.{enabled-said, index-said}
use Rattle.fdp_rules.specs.Answer.{dword0_of}
use Rattle.fdp_book.proofs.book.Book.dword0_of_success.Goals as goal

pub returns-in-GetFdp : goal.returns-in-GetFdp
returns-in-GetFdp c =
    let now : BookSeen = c.args.self.now in
    let outline = c.summary.result.now in
    c.setting_dword.ensures
    ∙ ap (λ (b : Bool). (if b then 1 else 0) + 256 * outline.index) (sym (enabled-said now.config (point_in now) outline c.summary.ensures.outline))
    ∙ ap (λ (n : ℕ). (if (state_in now).enabled then 1 else 0) + 256 * n) (sym (index-said now.config (point_in now) outline c.summary.ensures.outline))
    ∙ sym (ap (dword0_of (state_in now)) c.in-GetFdp.is)

pub returns-in-Create : goal.returns-in-Create
returns-in-Create c = c.unwrap_or.ensures ∙ ap (λ (o : Option ℕ). unwrap_or o 0) c.lowest_free.ensures ∙ sym (ap (dword0_of (state_in c.args.self.now)) c.in-Create.is)
