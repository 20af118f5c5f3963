use Rattle.std.proofs.Common.{◌∙◌, ℕ, ap, sym}
use Rattle.std.specs.Prelude.{◌==◌}
use Rattle.std.proofs.lemmas.Nat.Bits.{shr_and_one}
use Rattle.fdp_image.specs.Bits.{has_bit}
use Rattle.fdp_events.proofs.MaskBits.{kind_is}
use Rattle.fdp_events.proofs.masks.has_kind.Goals as goal

pub returns : goal.returns
returns c = ap (λ (n : ℕ). n == 1) (shr_and_one c.args.mask c.kind_bit.result) ∙ ap (has_bit c.args.mask) c.kind_bit.ensures.value ∙ sym (kind_is c.args.mask c.args.kind)
