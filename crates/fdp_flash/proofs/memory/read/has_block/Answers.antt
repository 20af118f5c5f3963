use Rattle.std.proofs.Common.{◌≡◌, length, ap, sym, ◌∙◌}
use Rattle.std.proofs.lemmas.Bool.{eqb-true, eq-eqb}
use Rattle.fdp_flash.proofs.memory.read.has_block.Goals as goal

pub returns-in-Whole : goal.returns-in-Whole
returns-in-Whole c =
    let size : length c.as_slice.result.now ≡ length c.in-Whole.bytes = ap length c.as_slice.ensures in (
      λ e spare bytes is.
          let was = c.in-Whole.is in
          let same : c.in-Whole.bytes ≡ bytes = cc in
          rw same at (sym size ∙ eqb-true _ _ e),
      λ h. eq-eqb _ _ (size ∙ h c.in-Whole.spare c.in-Whole.bytes c.in-Whole.is),
    )
