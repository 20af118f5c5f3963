use Rattle.std.proofs.Common.{◌+◌, ◌∙◌, IsTrue, length, subst, sym, refl, arith}
use Rattle.fdp_flash.specs.Planned.{calls_from}
use Rattle.fdp_flash.proofs.Failing.{failed_behind}
use Rattle.fdp_records.specs.declared.spare.SystemKind.TheVariants as kinds
use Rattle.fdp_records.proofs.SpareTold.{system_told}
use Rattle.fdp_checkpoint.proofs.Steps.{IsSealReady, block_some, pages_joined, pages_stop, program_calls, program_fails, program_faultless, program_uncounted, seal_done, seal_held, sealing_behind, unsealed_sealing}
use Rattle.fdp_checkpoint.proofs.sealing.seal.Goals as goal

pub returns-in-Done-clause-held : goal.returns-in-Done-clause-held
returns-in-Done-clause-held g c s whole =
    let x = c.args.target.now in
    let old = g.F.Flash.state c.args.flash.now in
    let now = g.F.Flash.state c.keep.new.flash in
    let run = c.in-Done.ensures.held.run in
    let h : IsSealReady x c.args.count s c.args.kept.now old now = record {
      at = record { geometry = c.requires.geometry ∙ sym run.geometry; area = c.requires.area; inside = c.requires.inside; well_formed = g.met.F.Flash.well_formed c.keep.new.flash };
      some = block_some x.geometry c.requires.valid;
      stamp = c.requires.stamp;
      first = system_told (record { kind = kinds.Checkpoint; number = 0; stamp = x.stamp }) (record { number = omega arith; epoch = c.requires.epoch });
      checkpoint = λ told. whole (subst IsTrue run.told told);
      behind = λ told. c.in-Done.ensures.done (subst IsTrue run.told told) refl;
      none = λ told. (c.in-Done.ensures.held.cells (subst IsTrue run.told told)).none;
    } in
    sealing_behind x.geometry x.area x.stamp.epoch s c.args.kept.now _ _ _ c.in-Done.ensures.held (seal_held x c.args.count s c.args.kept.now old now _ _ h c.program_seal.ensures)

pub returns-in-Done-clause-done : goal.returns-in-Done-clause-done
returns-in-Done-clause-done g c s told whole is =
    let x = c.args.target.now in
    let old = g.F.Flash.state c.args.flash.now in
    let now = g.F.Flash.state c.keep.new.flash in
    let run = c.in-Done.ensures.held.run in
    let h : IsSealReady x c.args.count s c.args.kept.now old now = record {
      at = record { geometry = c.requires.geometry ∙ sym run.geometry; area = c.requires.area; inside = c.requires.inside; well_formed = g.met.F.Flash.well_formed c.keep.new.flash };
      some = block_some x.geometry c.requires.valid;
      stamp = c.requires.stamp;
      first = system_told (record { kind = kinds.Checkpoint; number = 0; stamp = x.stamp }) (record { number = omega arith; epoch = c.requires.epoch });
      checkpoint = λ there. whole;
      behind = λ there. c.in-Done.ensures.done told refl;
      none = λ there. (c.in-Done.ensures.held.cells told).none;
    } in
    seal_done x c.args.count s c.args.kept.now old now _ _ h c.program_seal.ensures (subst IsTrue (sym run.told) told) is

pub returns-in-Done-clause-faultless : goal.returns-in-Done-clause-faultless
returns-in-Done-clause-faultless g c is =
    let n = c.args.count + length c.args.kept.now in
    program_faultless c.args.target.now kinds.Seal n n _ _ _ _ c.program_seal.ensures is ∙ c.in-Done.ensures.faultless refl

pub returns-in-Done-clause-programs : goal.returns-in-Done-clause-programs
returns-in-Done-clause-programs g c =
    let n = c.args.count + length c.args.kept.now in
    program_uncounted c.args.target.now kinds.Seal n n _ _ _ _ (c.requires.geometry ∙ sym c.in-Done.ensures.held.run.geometry) c.program_seal.ensures ∙ c.in-Done.ensures.programs

pub returns-in-Done-clause-calls : goal.returns-in-Done-clause-calls
unfolding calls_from
returns-in-Done-clause-calls g c =
    let x = c.args.target.now in
    let n = c.args.count + length c.args.kept.now in
    pages_joined x.geometry x.area c.args.count (length c.args.kept.now) 1 _ _ _ _ (c.program_seal.ensures.answer.ended.listed_before) c.in-Done.ensures.calls
    (program_calls x kinds.Seal n n _ _ _ _ (g.met.F.Flash.well_formed c.keep.new.flash) c.program_seal.ensures)

pub returns-in-Done-clause-failed : goal.returns-in-Done-clause-failed
returns-in-Done-clause-failed g c is =
    let n = c.args.count + length c.args.kept.now in
    failed_behind _ _ _ _ _ c.in-Done.ensures.held.run (program_fails c.args.target.now kinds.Seal n n _ _ _ _ (g.met.F.Flash.well_formed c.program_seal.new.flash) c.program_seal.ensures is)

pub returns-in-Failed-clause-held : goal.returns-in-Failed-clause-held
returns-in-Failed-clause-held g c s whole = unsealed_sealing c.args.target.now.geometry c.args.target.now.area c.args.target.now.stamp.epoch s c.args.kept.now _ _ c.in-Failed.ensures.held

pub returns-in-Failed-clause-calls : goal.returns-in-Failed-clause-calls
returns-in-Failed-clause-calls g c = pages_stop c.args.target.now.geometry c.args.target.now.area c.args.count (length c.args.kept.now) 1 _ _ c.in-Failed.ensures.calls
