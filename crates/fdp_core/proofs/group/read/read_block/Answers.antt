use Rattle.fdp_core.proofs.Reading.{at-success, fetches-absent, fetches-there, whole-there}
use Rattle.fdp_core.proofs.group.read.read_block.Goals as goal

pub fetch-requires-clause-there : goal.fetch-requires-clause-there
fetch-requires-clause-there g c = whole-there (g.F.Flash.state c.args.flash.now) c.args.book.now _ c.in-Some.page c.requires.stored c.in-Some.ensures

pub returns-in-Some-clause-called : goal.returns-in-Some-clause-called
returns-in-Some-clause-called g c =
    at-success c.fetch.result _ _ c.fetch.ensures.called (fetches-there (g.F.Flash.state c.args.flash.now) (g.F.Flash.state c.fetch.new.flash) c.args.book.now c.args.nsid c.args.lba c.in-Some.page c.in-Some.ensures)

pub returns-in-None-clause-called : goal.returns-in-None-clause-called
returns-in-None-clause-called g c = fetches-absent (g.F.Flash.state c.args.flash.now) c.args.book.now c.args.nsid c.args.lba c.in-None.ensures
