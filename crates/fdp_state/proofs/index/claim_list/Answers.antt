use Rattle.std.proofs.Common.{◌∙◌, ℕ, None, Option, ap, arith, sym}
use Rattle.std.specs.Option.{option_and_then}
use Rattle.std.proofs.lemmas.Option.{slice_get-get_or, slice_get_past}
use Rattle.fdp_state.proofs.Owning.{before-all, before-claimed, none-before-itself}
use Rattle.fdp_state.proofs.index.claim_list.Goals as goal

pub loop-lba-preserved : goal.loop-lba-preserved
loop-lba-preserved c pages rows start =
    before-claimed pages c.claim.new.owners.items c.args.nsid c.loop-lba.lba _
    (sym (ap (option_and_then (λ (x : Option ℕ). x)) (slice_get-get_or c.args.list.now c.loop-lba.lba None c.loop-lba-test.true)) ∙ rows c.loop-lba.lba)
    (c.claim.ensures _ (c.loop-lba.invariant pages rows start) (none-before-itself pages c.args.nsid c.loop-lba.lba))

pub returns : goal.returns
returns c pages rows start = before-all pages c.loop-lba.owners.items c.args.nsid c.loop-lba.lba
    (λ l high. sym (rows l) ∙ ap (option_and_then (λ (x : Option ℕ). x)) (slice_get_past c.args.list.now l (omega (arith, high, c.loop-lba-test.false)))) (c.loop-lba.invariant pages rows start)
