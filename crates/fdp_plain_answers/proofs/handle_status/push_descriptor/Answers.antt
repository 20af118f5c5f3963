use Rattle.std.proofs.Common.{◌≡◌, ℕ, List, ◌++◌, ◌∙◌, ap}
use Rattle.std.specs.Int.{to_le_bytes, w16, w64}
use Rattle.fdp_rules.specs.LogPages.{zeros}
use Rattle.fdp_rules.specs.PlainState.{Reference}
use Rattle.fdp_rules.specs.Target.{pid_of}
use Rattle.fdp_tables.specs.State.{reference_at}
use Rattle.fdp_plain_answers.proofs.handle_status.push_descriptor.Goals as goal

-- the bytes of a descriptor
abbrev descriptor : ℕ → ℕ → ℕ → List ℕ
descriptor pid ruh left = to_le_bytes w16 pid ++ to_le_bytes w16 ruh ++ zeros 4 ++ to_le_bytes w64 left ++ zeros 16

pub returns : goal.returns
returns c =
    let k = c.args.kept.now in
    let start = c.args.bytes.now.items in
    let pid = pid_of k.config c.args.rg c.args.handle in
    let left : c.from-left.result ≡ (reference_at k c.args.rg c.args.ruh).left = c.from-left.ensures ∙ ap (λ (r : Reference). r.left) c.reference.ensures in
    let frame = c.status_frame.ensures ∙ ap (λ (n : ℕ). descriptor n c.args.ruh c.from-left.result) c.pid_of.ensures ∙ ap (descriptor pid c.args.ruh) left in
    c.in_ok-extend_from_slice.ensures.items ∙ ap (λ (x : List ℕ). start ++ x) frame
