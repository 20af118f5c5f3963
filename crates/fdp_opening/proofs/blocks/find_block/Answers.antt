use Rattle.std.proofs.Common.{◌≡◌, ◌∙◌, ◌+◌, Option, ap, subst, sym}
use Rattle.std.specs.Prelude.{IfSome}
use Rattle.std.specs.Option.{option_and_then}
use Rattle.fdp_base.specs.declared.spare.DataSpare.{DataSpare}
use Rattle.fdp_base.specs.Spare.{data_spare}
use Rattle.fdp_image.specs.Checkpoint.{reading_of_state}
use Rattle.fdp_opening.specs.Found.{said_in}
use Rattle.fdp_opening.proofs.Owning.{before-after, can-keep, first-here, found-here, may-keep, not-blank, not-torn, not-unsaid}
use Rattle.fdp_records.specs.Spares.{said_by_data}
use Rattle.fdp_opening.proofs.blocks.find_block.Goals as goal

pub keep-requires-clause-tables : goal.keep-requires-clause-tables
keep-requires-clause-tables g c = can-keep c.args.config.now (reading_of_state c.args.state.now) (g.F.Flash.state c.args.flash.now) c.args.nsid c.args.lba c.args.number c.args.pages.now c.requires.config c.requires.apart c.requires.good c.requires.entry c.requires.tables

pub returns-then-keep-clause-found : goal.returns-then-keep-clause-found
returns-then-keep-clause-found g c =
    let r = reading_of_state c.args.state.now in
    let a = g.F.Flash.state c.args.flash.now in
    let said = sym c.decode_data_spare.ensures.value ∙ c.in-Some.is in
    before-after c.args.config.now r 1 c.args.nsid (c.args.lba + 1) a (g.F.Flash.state c.look_at_data.new.flash) c.keep.new.pages c.in-Whole.ensures.looks
    (found-here c.args.config.now r a c.args.nsid c.args.lba c.args.number c.in-Some.said c.args.pages.now c.keep.new.pages c.requires.apart c.requires.entry (c.keep.ensures.kept c.if-keep.true)
    (ap said_by_data (subst (λ (o : Option DataSpare). IfSome o (λ (x : DataSpare). data_spare x ≡ c.look_at_data.new.spare)) c.in-Some.is c.decode_data_spare.ensures.same) ∙ said)
    (λ told. ap (option_and_then said_in) (c.in-Whole.ensures.shown told) ∙ said) c.requires.tables)

pub returns-else-keep-clause-bad : goal.returns-else-keep-clause-bad
returns-else-keep-clause-bad g c page same told =
    let r = reading_of_state c.args.state.now in
    let a = g.F.Flash.state c.args.flash.now in
    let said = sym c.decode_data_spare.ensures.value ∙ c.in-Some.is in
    let is : c.args.number ≡ page = cc in
    first-here c.args.config.now r a c.args.nsid c.args.lba c.args.number page c.args.pages.now c.requires.entry c.requires.tables told
    (λ place. c.keep.ensures.refused c.if-keep.false (may-keep c.args.config.now r a c.args.nsid c.args.lba c.args.number c.args.pages.now c.requires.config c.requires.apart c.requires.entry c.requires.tables told place _ _ c.in-Some.said (c.in-Whole.ensures.shown told) said))
    is

pub returns-in-None-clause-bad : goal.returns-in-None-clause-bad
returns-in-None-clause-bad g c page same told =
    let r = reading_of_state c.args.state.now in
    let a = g.F.Flash.state c.args.flash.now in
    let none = sym c.decode_data_spare.ensures.value ∙ c.in-None.is in
    let is : c.args.number ≡ page = cc in
    first-here c.args.config.now r a c.args.nsid c.args.lba c.args.number page c.args.pages.now c.requires.entry c.requires.tables told
    (λ place. not-unsaid c.args.config.now r a c.args.nsid c.args.lba c.args.number c.args.pages.now c.requires.config c.requires.apart c.requires.entry c.requires.tables told place _ _ (c.in-Whole.ensures.shown told) none)
    is

pub returns-in-Blank-clause-bad : goal.returns-in-Blank-clause-bad
returns-in-Blank-clause-bad g c page same told =
    let r = reading_of_state c.args.state.now in
    let a = g.F.Flash.state c.args.flash.now in
    let is : c.args.number ≡ page = cc in
    first-here c.args.config.now r a c.args.nsid c.args.lba c.args.number page c.args.pages.now c.requires.entry c.requires.tables told
    (λ place. not-blank c.args.config.now r a c.args.nsid c.args.lba c.args.number c.args.pages.now c.requires.config c.requires.apart c.requires.entry c.requires.tables told place (c.in-Blank.ensures.shown told))
    is

pub returns-in-Torn-clause-bad : goal.returns-in-Torn-clause-bad
returns-in-Torn-clause-bad g c page same told =
    let r = reading_of_state c.args.state.now in
    let a = g.F.Flash.state c.args.flash.now in
    let is : c.args.number ≡ page = cc in
    first-here c.args.config.now r a c.args.nsid c.args.lba c.args.number page c.args.pages.now c.requires.entry c.requires.tables told
    (λ place. not-torn c.args.config.now r a c.args.nsid c.args.lba c.args.number c.args.pages.now c.requires.config c.requires.apart c.requires.entry c.requires.tables told place (c.in-Torn.ensures.shown told))
    is
