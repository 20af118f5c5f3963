use Rattle.std.proofs.Common.{arith, ap, sym, ◌∙◌, drop, take, ℕ}
use Rattle.std.proofs.lemmas.List.{length-drop}
use Rattle.fdp_layouts.specs.Frame.{number_at}
use Rattle.fdp_layouts.proofs.Bytes.{parts_of_bytes}
use Rattle.fdp_layouts.proofs.Filling.{IsBytes-drop}
use Rattle.fdp_layouts.proofs.number.read_bytes.Goals as goal

pub returns : goal.returns
unfolding number_at
returns g c =
    let bytes = c.args.bytes.now in
    let at = c.args.at in
    let parts = parts_of_bytes g.row.LEN (drop at bytes) (omega (arith, length-drop at bytes)) (IsBytes-drop at bytes (λ i. omega (arith, c.type_inv.bytes i))) in
    let copied = c.copy_from_slice.ensures.after in
    copied ∙ ap (λ (k : ℕ). take k (drop at bytes)) (omega arith) ∙ sym parts
