use Rattle.std.proofs.Common.{◌≡◌, false, subst, true}
use Rattle.fdp_base.specs.Counts.{Rose}
use Rattle.std.specs.Prelude.{IsTrue}
use Rattle.fdp_core.specs.Seen.{LeavesOpened, ReadsAsEnd, Seen}
use Rattle.fdp_core.proofs.Apart.{sound-isolated, whole-reads}
use Rattle.fdp_relocation.proofs.fdp_durability.Durable.{durable-stands}
use Rattle.fdp_image.specs.Kept.{AreFirm, StandsForBeginning}
use Rattle.fdp_loading.specs.fdp_isolation.Begun.{OpenedApart}
use Rattle.fdp_loading.specs.fdp_isolation.Laned.{IsKnown}
use Rattle.fdp_loading.proofs.fdp_isolation.Leaving.{leaves-used}
use Rattle.fdp_loading.specs.JournalRoom.{HasSixteen}
use Rattle.fdp_loading.specs.fdp_survival.Books.{KeepsIsolated}
use Rattle.fdp_loading.specs.fdp_survival.Apart.{ReadsIsolated}
use Rattle.fdp_core.proofs.Sure.{kept-reads}
use Rattle.fdp_core.proofs.Roomy.{whole-roomy}
use Rattle.fdp_roominess.specs.Run.{StaysRoomy, WearsByFailure}
use Rattle.fdp_core.proofs.group.Group.entries.Goals as goal

pub returns-clause-apart : goal.returns-clause-apart
returns-clause-apart g c =
    let known : IsKnown c.self.inside.book = record { config = c.known.ensures.config; orderly = c.known.ensures.orderly; units = c.known.ensures.units; joined = c.known.ensures.joined; led = c.known.ensures.led; generation = c.known.ensures.generation } in
    subst (λ (s : Seen g.row.F.Denot). KeepsIsolated (g.F.Flash.state s.flash) s.book) c.self.view_is
    (sound-isolated c.self.inside.handed (g.F.Flash.state c.self.inside.flash) c.self.inside.book c.self.inside.block.items known c.self.invariant.sound)

pub returns-clause-reads : goal.returns-clause-reads
returns-clause-reads g c =
    let known : IsKnown c.self.inside.book = record { config = c.known.ensures.config; orderly = c.known.ensures.orderly; units = c.known.ensures.units; joined = c.known.ensures.joined; led = c.known.ensures.led; generation = c.known.ensures.generation } in
    subst (λ (s : Seen g.row.F.Denot). IsTrue (g.F.Flash.state s.flash).told → OpenedApart s.book.config s.book.found s.book.opened → ReadsIsolated s.book.config (g.F.Flash.state s.flash).cells) c.self.view_is
    (whole-reads c.self.inside.handed (g.F.Flash.state c.self.inside.flash) c.self.inside.book c.self.inside.keeper c.self.inside.block.items known c.self.invariant)

pub returns-clause-used : goal.returns-clause-used
returns-clause-used g c =
    let book = c.self.inside.book in
    let f = g.F.Flash.state c.self.inside.flash in
    subst (λ (s : Seen g.row.F.Denot). LeavesOpened (g.F.Flash.state s.flash) s.book) c.self.view_is
    (λ told opened. leaves-used book.opened book.entries book f.cells (c.self.invariant.sound.apart told opened).alone)

pub returns-clause-firm : goal.returns-clause-firm
returns-clause-firm g c = subst (λ (s : Seen g.row.F.Denot). AreFirm s.book.entries s.keeper.firm) c.self.view_is c.self.invariant.kept.safe.at.firm_is

pub returns-clause-stands : goal.returns-clause-stands
returns-clause-stands g c =
    let old = c.self.inside in
    let f = g.F.Flash.state old.flash in
    subst (λ (s : Seen g.row.F.Denot). IsTrue (g.F.Flash.state s.flash).told → StandsForBeginning s.book.config s.book.found s.book.entries s.keeper.firm (g.F.Flash.state s.flash).cells) c.self.view_is
    (λ told. durable-stands old.book.config old.book.found old.book.entries old.keeper.firm old.keeper.saver old.book.pages.units f.cells (c.self.invariant.kept.safe.at.durable told))

pub returns-clause-worn : goal.returns-clause-worn
returns-clause-worn g c = subst (λ (s : Seen g.row.F.Denot). WearsByFailure s.handed.faults (g.F.Flash.state s.flash).faults (g.F.Flash.state s.flash).told s.book) c.self.view_is c.self.invariant.sound.room.worn

pub returns-clause-roomy : goal.returns-clause-roomy
returns-clause-roomy g c =
    let known : IsKnown c.self.inside.book = record { config = c.known.ensures.config; orderly = c.known.ensures.orderly; units = c.known.ensures.units; joined = c.known.ensures.joined; led = c.known.ensures.led; generation = c.known.ensures.generation } in
    subst (λ (s : Seen g.row.F.Denot). IsTrue (g.F.Flash.state s.flash).told → StaysRoomy s.handed.faults (g.F.Flash.state s.flash).faults (g.F.Flash.state s.flash).told s.book (g.F.Flash.state s.flash).cells) c.self.view_is
    (whole-roomy c.self.inside.handed (g.F.Flash.state c.self.inside.flash) c.self.inside.book c.self.inside.keeper c.self.inside.block.items known c.self.invariant)

pub returns-clause-sure : goal.returns-clause-sure
returns-clause-sure g c =
    let old = c.self.inside in
    subst (λ (s : Seen g.row.F.Denot). IsTrue (g.F.Flash.state s.flash).told → s.keeper.saver.in_doubt ≡ false → ReadsAsEnd (g.F.Flash.state s.flash) s.book) c.self.view_is
    (λ told sure. kept-reads old.handed (g.F.Flash.state old.flash) old.book old.keeper c.self.invariant.kept told sure)

pub returns-clause-doubt : goal.returns-clause-doubt
returns-clause-doubt g c = subst (λ (s : Seen g.row.F.Denot). s.keeper.saver.in_doubt ≡ true → Rose s.handed.faults (g.F.Flash.state s.flash).faults) c.self.view_is c.self.invariant.kept.doubt

pub returns-clause-sixteen : goal.returns-clause-sixteen
returns-clause-sixteen g c = subst (λ (s : Seen g.row.F.Denot). HasSixteen s.book.config s.keeper.saver s.book.entries) c.self.view_is c.self.invariant.kept.sixteen
