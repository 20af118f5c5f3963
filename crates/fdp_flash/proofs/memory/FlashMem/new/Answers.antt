use Rattle.std.proofs.lemmas.Result.{IfOk-weaker}
use Rattle.fdp_flash.proofs.Lists.{slice_get-replicate}
use Rattle.fdp_flash.specs.declared.cell.Cell.TheVariants.{Blank}
use Rattle.fdp_base.specs.Geometry.{all_pages}
use Rattle.fdp_flash.proofs.memory.FlashMem.new.Goals as goal

pub returns-clause-blank : goal.returns-clause-blank
returns-clause-blank c =
    IfOk-weaker c.of_cells.result _ _ (λ flash begins. record {
      blank = λ k h. rw (begins.cells_are, c.in_ok-cells.ensures, c.all_pages.ensures.value) (slice_get-replicate (all_pages c.args.geometry) k Blank h);
    }) c.of_cells.ensures
