use Rattle.std.proofs.Common.{◌≡◌, length, sym, ap, ◌∙◌, rules}
use Rattle.fdp_flash.specs.declared.cell.Cell.TheVariants.{Blank, Torn, Whole}
use Rattle.fdp_flash.proofs.Reading.{stands_there, reads_other, reads_expected}
use Rattle.fdp_flash.proofs.memory.read.read_expected.Goals as goal

pub copy_from_slice-requires : goal.copy_from_slice-requires
copy_from_slice-requires c =
    sym (ap length c.as_slice.ensures ∙ c.requires.size c.in-Whole.kept_spare c.in-Whole.kept (stands_there _ _ _ _ c.requires.within c.index-cells-page.is c.in-Whole.is))

pub returns-in-Blank : goal.returns-in-Blank
returns-in-Blank c =
    reads_other _ _ _ _ _ (stands_there _ _ _ _ c.requires.within c.index-cells-page.is c.in-Blank.is) (λ found e. let f : Blank ≡ Whole c.args.spare.now found = e in cc)

pub returns-in-Torn : goal.returns-in-Torn
returns-in-Torn c =
    reads_other _ _ _ _ _ (stands_there _ _ _ _ c.requires.within c.index-cells-page.is c.in-Torn.is) (λ found e. let f : Torn ≡ Whole c.args.spare.now found = e in cc)

pub returns-else-not-is_same_spare : goal.returns-else-not-is_same_spare
returns-else-not-is_same_spare c =
    let same : c.in-Whole.kept_spare ≡ c.args.spare.now = search rules in
    let there = stands_there _ _ _ _ c.requires.within c.index-cells-page.is c.in-Whole.is in
    rw (c.copy_from_slice.ensures.after, c.as_slice.ensures) (reads_expected _ _ _ _ (rw same at there))
