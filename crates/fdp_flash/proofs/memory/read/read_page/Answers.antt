use Rattle.std.proofs.Common.{length, sym, ap, ◌∙◌}
use Rattle.fdp_flash.proofs.Reading.{stands_there, reads_blank, reads_torn, reads_whole}
use Rattle.fdp_flash.proofs.memory.read.read_page.Goals as goal

pub copy_from_slice-requires : goal.copy_from_slice-requires
copy_from_slice-requires c =
    sym (ap length c.as_slice.ensures ∙ c.requires.size c.in-Whole.kept_spare c.in-Whole.kept (stands_there _ _ _ _ c.requires.within c.index-cells-page.is c.in-Whole.is))

pub returns-in-Blank : goal.returns-in-Blank
returns-in-Blank c = reads_blank _ _ _ _ (stands_there _ _ _ _ c.requires.within c.index-cells-page.is c.in-Blank.is)

pub returns-in-Torn : goal.returns-in-Torn
returns-in-Torn c = reads_torn _ _ _ _ (stands_there _ _ _ _ c.requires.within c.index-cells-page.is c.in-Torn.is)

pub returns-in-Whole : goal.returns-in-Whole
returns-in-Whole c =
    rw (c.copy_from_slice.ensures.after, c.as_slice.ensures)
    (reads_whole _ _ _ _ (stands_there _ _ _ _ c.requires.within c.index-cells-page.is c.in-Whole.is))
