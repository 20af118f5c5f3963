use Rattle.std.proofs.Common.{◌≡◌, ℕ, ◌+◌, ◌∙◌, ap, sym}
use Rattle.fdp_log_pages.proofs.Lengths.{configurations_log_length}
use Rattle.fdp_log_pages.proofs.configurations.configurations_length.Goals as goal

pub returns : goal.returns
returns c = ap (λ (n : ℕ). 16 + n) c.descriptors_length.ensures.value ∙ sym (configurations_log_length c.args.config.now)
