use Rattle.std.proofs.Common.{◌≡◌, ◌+◌, ◌-◌, ◌*◌, ℕ, drop, subst, take, arith}
use Rattle.fdp_records.specs.declared.spare.SystemKind.TheVariants as kinds
use Rattle.fdp_checkpoint.specs.Target.{ProgramsIn}
use Rattle.fdp_checkpoint.proofs.slicing.program_frozen.Goals as goal

pub returns : goal.returns
returns g c =
    let x = c.args.target.now in
    let start = c.args.number * x.geometry.block in
    let size : start + x.geometry.block - start ≡ x.geometry.block = omega arith in
    subst (λ (n : ℕ). ProgramsIn x kinds.Checkpoint c.args.number c.args.number (take n (drop start c.args.frozen.now)) (g.F.Flash.state c.args.flash.now) (g.F.Flash.state c.program_page.new.flash) c.program_page.result) size c.program_page.ensures
