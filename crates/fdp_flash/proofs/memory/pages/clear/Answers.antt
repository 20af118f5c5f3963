use Rattle.std.proofs.Common.{◌≡◌, Some, slice_get, refl}
use Rattle.std.proofs.lemmas.Option.{slice_get_read}
use Rattle.fdp_flash.specs.declared.cell.Cell.TheVariants.{Blank, Torn, Whole}
use Rattle.fdp_flash.specs.Blocks.{unwritten}
use Rattle.fdp_flash.proofs.Blocks.{blocks_given, blocks_kept}
use Rattle.fdp_flash.proofs.memory.pages.clear.Goals as goal

pub returns-in-Whole-clause-blocks : goal.returns-in-Whole-clause-blocks
returns-in-Whole-clause-blocks c =
    let left : c.replace.new.dest ≡ unwritten c.args.torn = cc in
    let was : Whole c.in-Whole.spare c.in-Whole.bytes ≡ c.index-cells-page.result = cc in
    let there : slice_get c.args.cells.now c.args.page ≡ Some (Whole c.in-Whole.spare c.in-Whole.bytes) =
    rw was (slice_get_read _ _ _ _ refl c.requires.within c.index-cells-page.is) in
    λ size p. rw left (blocks_given size _ _ _ _ _ p c.requires.within (p.whole c.args.page c.in-Whole.spare c.in-Whole.bytes there))

pub returns-in-Blank-clause-blocks : goal.returns-in-Blank-clause-blocks
returns-in-Blank-clause-blocks c =
    let left : c.replace.new.dest ≡ unwritten c.args.torn = cc in
    let was : Blank ≡ c.index-cells-page.result = cc in
    let there : slice_get c.args.cells.now c.args.page ≡ Some Blank = rw was (slice_get_read _ _ _ _ refl c.requires.within c.index-cells-page.is) in
    λ size p. rw left (blocks_kept size _ _ _ _ p (p.blank c.args.page there))

pub returns-in-Torn-clause-blocks : goal.returns-in-Torn-clause-blocks
returns-in-Torn-clause-blocks c =
    let left : c.replace.new.dest ≡ unwritten c.args.torn = cc in
    let was : Torn ≡ c.index-cells-page.result = cc in
    let there : slice_get c.args.cells.now c.args.page ≡ Some Torn = rw was (slice_get_read _ _ _ _ refl c.requires.within c.index-cells-page.is) in
    λ size p. rw left (blocks_kept size _ _ _ _ p (p.torn c.args.page there))
