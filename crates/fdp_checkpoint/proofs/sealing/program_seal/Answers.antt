use Rattle.std.proofs.Common.{List, ℕ, subst}
use Rattle.fdp_records.specs.declared.spare.SystemKind.TheVariants as kinds
use Rattle.fdp_checkpoint.specs.Target.{ProgramsIn}
use Rattle.fdp_checkpoint.proofs.Steps.{zeros_taken}
use Rattle.fdp_checkpoint.proofs.sealing.program_seal.Goals as goal

pub returns : goal.returns
returns g c =
    let x = c.args.target.now in
    subst (λ (bs : List ℕ). ProgramsIn x kinds.Seal c.args.number c.args.number bs (g.F.Flash.state c.args.flash.now) (g.F.Flash.state c.program_page.new.flash) c.program_page.result) (zeros_taken x.geometry c.requires.valid) c.program_page.ensures
