use Rattle.std.proofs.Common.{◌≡◌, [], ◌∷◌, rules, sym, subst, refl}
use Rattle.fdp_checkpoint.specs.Writing.{with_pages}
use Rattle.fdp_flash.specs.declared.answer.Wrote.TheVariants.{Done, Failed}
use Rattle.fdp_image.specs.Checkpoint.{reading_of_state}
use Rattle.fdp_journal.specs.Journal.{doubted}
use Rattle.fdp_journal.specs.JournalState.{JournalState}
use Rattle.fdp_saving.specs.Said.{AreasSay, AreasSayOneOf}
use Rattle.fdp_saving.specs.Saver.{IsSaverIn, behind_checkpoint}
use Rattle.fdp_saving.proofs.Checkpointed.{checkpoint_made, checkpoint_stops, checkpointing, done_at, done_says, done_stands, failed_says, failed_stands}
use Rattle.fdp_saving.proofs.saver.Saver.checkpoint.Goals as goal

pub returns-in-Done-clause-stands : goal.returns-in-Done-clause-stands
returns-in-Done-clause-stands g c told =
    let s = c.args.self.now in
    let given = with_pages c.args.summary.now c.args.pages.now in
    let old = g.F.Flash.state c.args.flash.now in
    let new = g.F.Flash.state c.write.new.flash in
    let at = checkpointing s c.self.inside.journal given _ _ old new c.self.view_is c.area-area.ensures.value c.area-area.ensures.bound c.stamp.ensures c.requires.geometry c.requires.saver c.in-Done.ensures.held in
    let is : c.restart.new.self ≡ behind_checkpoint s c.args.summary.now = search rules in
    subst (IsSaverIn new.cells) (sym is) (done_stands s given _ _ old new at (done_at s given _ _ old new at (λ t. c.in-Done.ensures.done t refl)) told)

pub returns-in-Done-clause-stops : goal.returns-in-Done-clause-stops
returns-in-Done-clause-stops g c d own tried drive says =
    let s = c.args.self.now in
    let given = with_pages c.args.summary.now c.args.pages.now in
    let old = g.F.Flash.state c.args.flash.now in
    let new = g.F.Flash.state c.write.new.flash in
    let at = checkpointing s c.self.inside.journal given _ _ old new c.self.view_is c.area-area.ensures.value c.area-area.ensures.bound c.stamp.ensures c.requires.geometry c.requires.saver c.in-Done.ensures.held in
    checkpoint_stops d s own tried given _ _ old new at drive says

pub returns-in-Done-clause-said : goal.returns-in-Done-clause-said
returns-in-Done-clause-said g c d own tried drive told says =
    let s = c.args.self.now in
    let given = with_pages c.args.summary.now c.args.pages.now in
    let old = g.F.Flash.state c.args.flash.now in
    let new = g.F.Flash.state c.write.new.flash in
    let at = checkpointing s c.self.inside.journal given _ _ old new c.self.view_is c.area-area.ensures.value c.area-area.ensures.bound c.stamp.ensures c.requires.geometry c.requires.saver c.in-Done.ensures.held in
    let is : c.restart.new.self ≡ behind_checkpoint s c.args.summary.now = search rules in
    subst (λ (x : JournalState). AreasSay d x new.cells (reading_of_state given) (reading_of_state given)) (sym is)
    (done_says d s given _ _ old new at (done_at s given _ _ old new at (λ t. c.in-Done.ensures.done t refl)) drive told)

pub returns-in-Done-clause-calls : goal.returns-in-Done-clause-calls
returns-in-Done-clause-calls g c =
    let s = c.args.self.now in
    let given = with_pages c.args.summary.now c.args.pages.now in
    let old = g.F.Flash.state c.args.flash.now in
    let new = g.F.Flash.state c.write.new.flash in
    let at = checkpointing s c.self.inside.journal given _ _ old new c.self.view_is c.area-area.ensures.value c.area-area.ensures.bound c.stamp.ensures c.requires.geometry c.requires.saver c.in-Done.ensures.held in
    checkpoint_made s given _ _ old new Done at (g.met.F.Flash.well_formed c.args.flash.now) c.in-Done.ensures.calls c.in-Done.ensures.faultless c.in-Done.ensures.failed c.in-Done.ensures.programs

pub returns-in-Failed-clause-stands : goal.returns-in-Failed-clause-stands
returns-in-Failed-clause-stands g c told =
    let s = c.args.self.now in
    let given = with_pages c.args.summary.now c.args.pages.now in
    let old = g.F.Flash.state c.args.flash.now in
    let new = g.F.Flash.state c.write.new.flash in
    let at = checkpointing s c.self.inside.journal given _ _ old new c.self.view_is c.area-area.ensures.value c.area-area.ensures.bound c.stamp.ensures c.requires.geometry c.requires.saver c.in-Failed.ensures.held in
    let is : c.doubt.new.self ≡ doubted s = search rules in
    subst (IsSaverIn new.cells) (sym is) (failed_stands s given _ _ old new at told)

pub returns-in-Failed-clause-stops : goal.returns-in-Failed-clause-stops
returns-in-Failed-clause-stops g c d own tried drive says =
    let s = c.args.self.now in
    let given = with_pages c.args.summary.now c.args.pages.now in
    let old = g.F.Flash.state c.args.flash.now in
    let new = g.F.Flash.state c.write.new.flash in
    let at = checkpointing s c.self.inside.journal given _ _ old new c.self.view_is c.area-area.ensures.value c.area-area.ensures.bound c.stamp.ensures c.requires.geometry c.requires.saver c.in-Failed.ensures.held in
    checkpoint_stops d s own tried given _ _ old new at drive says

pub returns-in-Failed-clause-said : goal.returns-in-Failed-clause-said
returns-in-Failed-clause-said g c d own tried drive told says =
    let s = c.args.self.now in
    let given = with_pages c.args.summary.now c.args.pages.now in
    let old = g.F.Flash.state c.args.flash.now in
    let new = g.F.Flash.state c.write.new.flash in
    let at = checkpointing s c.self.inside.journal given _ _ old new c.self.view_is c.area-area.ensures.value c.area-area.ensures.bound c.stamp.ensures c.requires.geometry c.requires.saver c.in-Failed.ensures.held in
    let is : c.doubt.new.self ≡ doubted s = search rules in
    subst (λ (x : JournalState). AreasSayOneOf d x new.cells (own ∷ []) (tried ∷ reading_of_state given ∷ [])) (sym is)
    (failed_says d s own tried given _ _ old new at drive told says)

pub returns-in-Failed-clause-calls : goal.returns-in-Failed-clause-calls
returns-in-Failed-clause-calls g c =
    let s = c.args.self.now in
    let given = with_pages c.args.summary.now c.args.pages.now in
    let old = g.F.Flash.state c.args.flash.now in
    let new = g.F.Flash.state c.write.new.flash in
    let at = checkpointing s c.self.inside.journal given _ _ old new c.self.view_is c.area-area.ensures.value c.area-area.ensures.bound c.stamp.ensures c.requires.geometry c.requires.saver c.in-Failed.ensures.held in
    checkpoint_made s given _ _ old new Failed at (g.met.F.Flash.well_formed c.args.flash.now) c.in-Failed.ensures.calls c.in-Failed.ensures.faultless c.in-Failed.ensures.failed c.in-Failed.ensures.programs
