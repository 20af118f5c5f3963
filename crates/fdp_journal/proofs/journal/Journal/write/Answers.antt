use Rattle.std.proofs.Common.{arith}
use Rattle.fdp_records.specs.Borrowed.{change_of}
use Rattle.fdp_image.proofs.NextRecord.{told_one}
use Rattle.fdp_journal.proofs.Appending.{at_hand, order, writes}
use Rattle.fdp_journal.proofs.Limits.{record_room}
use Rattle.fdp_journal.proofs.journal.Journal.write.Goals as goal

pub encode-requires-clause-room : goal.encode-requires-clause-room
encode-requires-clause-room g c =
    omega (arith, record_room (change_of c.args.change) c.self.inside.geometry.block c.requires.limits c.self.invariant.geometry.block, c.as_mut_slice-page.ensures.len, c.self.invariant.page)

pub program-requires-clause-order : goal.program-requires-clause-order
program-requires-clause-order g c =
    order _ _ _ _ _ _
    (at_hand _ _ _ _ _ _ _ _ c.self.view_is (g.met.F.Flash.well_formed c.args.flash.now) c.requires.geometry c.self.invariant.area c.requires.cells c.requires.room c.next.ensures.value
    c.page_of_area-at.ensures.place c.page_of_area-at.ensures.spot c.next_spare-spare.ensures (told_one _ _ c.encode.ensures.told))

pub returns-clause-written : goal.returns-clause-written
returns-clause-written g c =
    writes _ _ _ _ _ _ _ _
    (at_hand _ _ _ _ _ _ _ _ c.self.view_is (g.met.F.Flash.well_formed c.args.flash.now) c.requires.geometry c.self.invariant.area c.requires.cells c.requires.room c.next.ensures.value
    c.page_of_area-at.ensures.place c.page_of_area-at.ensures.spot c.next_spare-spare.ensures (told_one _ _ c.encode.ensures.told))
    (g.met.F.Flash.well_formed c.program.new.self) c.program.ensures.call c.program.ensures.answer
