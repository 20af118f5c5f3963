use Rattle.std.proofs.Common.{List, [], ◌∷◌, ◌++◌, ◌-◌, ℕ, ap, length, take, ◌∙◌}
use Rattle.fdp_binary.proofs.Laid.{when_ok}
use Rattle.fdp_reader.proofs.Giving.{made-unlike}
use Rattle.fdp_reader.proofs.carried.make_unlike.Goals as goal

pub returns : goal.returns
returns c =
    when_ok _ _ c.push_zeros.result
    (λ pushed count size. made-unlike c.args.block count c.args.bytes.now.items c.push.new.self.items c.push_zeros.new.into.items c.requires.sized size c.requires.some
    (c.in_ok-push.ensures.items ∙ ap (λ (t : List ℕ). t ++ 1 ∷ []) (c.truncate.ensures.items ∙ ap (λ (t : List ℕ). take (length t - c.args.block) c.args.bytes.now.items) c.as_slice-len.ensures.value)) pushed)
    c.push_zeros.ensures
