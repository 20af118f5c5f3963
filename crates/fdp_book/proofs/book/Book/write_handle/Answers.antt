use Rattle.std.proofs.Common.{◌≡◌, ◌∙◌, ◌++◌, ℕ, List, ap, arith, length, sym}
use Rattle.std.specs.Int.{to_le_bytes, w16, w64}
use Rattle.fdp_book.specs.Book.{BookSeen, state_in}
use Rattle.fdp_book.proofs.Answering.{put-another, written-end}
use Rattle.fdp_handles.specs.HandleTable.{HandleTable, reference_at}
use Rattle.fdp_rules.specs.LogPages.{status_descriptor, zeros}
use Rattle.fdp_rules.specs.PlainState.{Reference}
use Rattle.fdp_rules.specs.Target.{pid_of}
use Rattle.fdp_book.proofs.book.Book.write_handle.Goals as goal

-- the bytes of a descriptor
abbrev descriptor : ℕ → ℕ → ℕ → List ℕ
descriptor pid ruh left = to_le_bytes w16 pid ++ to_le_bytes w16 ruh ++ zeros 4 ++ to_le_bytes w64 left ++ zeros 16

pub loop-rg-preserved : goal.loop-rg-preserved
loop-rg-preserved c =
    let rg = c.loop-rg.rg in
    let ruh = c.args.ruh in
    let same : c.self.inside.config.groups ≡ c.args.self.now.config.groups = ap (λ (b : BookSeen). b.config.groups) c.self.view_is in
    let pid : c.pid_of-pid.result ≡ pid_of c.args.self.now.config rg c.args.handle = c.pid_of-pid.ensures ∙ ap (λ (b : BookSeen). pid_of b.config rg c.args.handle) c.self.view_is in
    let left : c.from-left.result ≡ ((state_in c.args.self.now).references rg ruh).left =
    c.from-left.ensures ∙ c.left.ensures.value
    ∙ ap (λ (t : HandleTable). (reference_at t rg ruh).left) c.handles.ensures
    ∙ sym (ap (λ (x : Reference). x.left) (c.self.invariant.held.units_are.references rg ruh))
    ∙ ap (λ (b : BookSeen). ((state_in b).references rg ruh).left) c.self.view_is in
    let frame : c.status_frame.result ≡ status_descriptor c.args.self.now.config (state_in c.args.self.now) c.args.handle ruh rg =
    c.status_frame.ensures
    ∙ ap (λ (n : ℕ). descriptor n c.from.result c.from-left.result) pid
    ∙ ap (λ (n : ℕ). descriptor (pid_of c.args.self.now.config rg c.args.handle) n c.from-left.result) c.from.ensures
    ∙ ap (descriptor (pid_of c.args.self.now.config rg c.args.handle) ruh) left in
    let size : length c.status_frame.result ≡ 32 = ap (λ (xs : List ℕ). length xs) c.status_frame.ensures in
    put-another (status_descriptor c.args.self.now.config (state_in c.args.self.now) c.args.handle ruh) 32 c.args.self.now.config.groups rg c.args.into.now c.loop-rg.into c.put-end.new.into c.args.at c.loop-rg.end c.put-end.result c.status_frame.result
    (omega (arith, c.loop-rg-test.true, same)) frame (omega (arith, c.put-end.ensures.place, size)) c.put-end.ensures.size c.put-end.ensures.bytes c.loop-rg.invariant

pub returns-clause-bytes : goal.returns-clause-bytes
returns-clause-bytes c = λ bytes h.
    let same : c.self.inside.config.groups ≡ c.args.self.now.config.groups = ap (λ (b : BookSeen). b.config.groups) c.self.view_is in
    written-end (status_descriptor c.args.self.now.config (state_in c.args.self.now) c.args.handle c.args.ruh) c.args.self.now.config.groups c.loop-rg.rg bytes c.loop-rg.into c.loop-rg.end (omega (arith, c.loop-rg-test.false, same)) (c.loop-rg.invariant.bytes bytes h)
