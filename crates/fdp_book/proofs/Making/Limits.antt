-- The limits of what a change names.
use Rattle.std.proofs.Common.{◌≡◌, ℕ, ◌≤◌, Bool, true, ap, ◌∙◌}
use Rattle.std.specs.Prelude.{◌&&◌, nat_le}
use Rattle.std.proofs.lemmas.Bool.{le-leb}
use Rattle.fdp_records.specs.Limits.{is_within}

pub within-most : (most n : ℕ) → 1 ≤ n → n ≤ most → is_within 1 most n ≡ true
within-most most n some few = ap (λ (b : Bool). b && nat_le n most) (le-leb 1 n some) ∙ le-leb n most few
