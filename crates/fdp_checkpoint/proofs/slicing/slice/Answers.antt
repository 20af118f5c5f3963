use Rattle.std.proofs.Common.{◌≡◌, ◌+◌, ◌-◌, ◌∙◌, IsTrue, ℕ, subst, sym, refl, arith}
use Rattle.fdp_flash.specs.Planned.{Makes, calls_from}
use Rattle.fdp_flash.proofs.Held.{holds_at_start}
use Rattle.fdp_flash.proofs.Planned.{none_made}
use Rattle.fdp_checkpoint.specs.Slices.{IsPartDone, slice_call}
use Rattle.fdp_checkpoint.proofs.Sliced.{call_more, call_stops, sliced_none, slices_joined}
use Rattle.fdp_checkpoint.proofs.slicing.slice.Goals as goal

pub loop-number-init : goal.loop-number-init
unfolding calls_from
loop-number-init g c =
    let s = g.F.Flash.state c.args.flash.now in
    let x = c.args.target.now in
    let none : c.args.first - c.args.first ≡ 0 = omega arith in
    record {
      held = holds_at_start _ s (λ told. sliced_none x.geometry x.area s.cells);
      done = c.requires.begun;
      faultless = refl;
      programs = refl;
      made = subst (λ (n : ℕ). Makes s s (calls_from (slice_call x.geometry x.area) c.args.first n)) (sym none) (none_made s (g.met.F.Flash.well_formed c.args.flash.now));
    }

pub loop-number-preserved : goal.loop-number-preserved
loop-number-preserved g c =
    let inv = c.loop-number.invariant in
    let x = c.args.target.now in
    record {
      held = slices_joined x.geometry x.area _ _ _ inv.held c.make_call.ensures.held;
      done = λ told. c.make_call.ensures.done (subst IsTrue (sym inv.held.run.told) told) c.in-Done.is;
      faultless = c.make_call.ensures.faultless c.in-Done.is ∙ inv.faultless;
      programs = c.make_call.ensures.programs ∙ inv.programs;
      made = call_more (slice_call x.geometry x.area) c.args.first c.loop-number.number _ _ _ (omega arith) c.make_call.ensures.held.run.listed_before inv.made c.in-Done.ensures.calls;
    }

pub returns-in-Failed-clause-held : goal.returns-in-Failed-clause-held
returns-in-Failed-clause-held g c = slices_joined c.args.target.now.geometry c.args.target.now.area _ _ _ c.loop-number.invariant.held c.in-Failed.ensures.held

pub returns-in-Failed-clause-calls : goal.returns-in-Failed-clause-calls
returns-in-Failed-clause-calls g c =
    let x = c.args.target.now in
    call_stops (slice_call x.geometry x.area) c.args.first c.loop-number.number c.args.count _ _ _ (omega arith) (omega (arith, c.loop-number-test.true)) c.in-Failed.ensures.held.run.listed_before c.loop-number.invariant.made c.in-Failed.ensures.calls

pub returns-clause-done : goal.returns-clause-done
returns-clause-done g c told is =
    let x = c.args.target.now in
    let end : c.loop-number.number ≡ c.args.first + c.args.count = omega (arith, c.loop-number-test.false, c.loop-number.auto.number-end (omega arith)) in
    subst (λ (n : ℕ). IsPartDone x c.args.frozen.now n (g.F.Flash.state c.loop-number.flash).cells) end (c.loop-number.invariant.done told)

pub returns-clause-calls : goal.returns-clause-calls
returns-clause-calls g c =
    let s = g.F.Flash.state c.args.flash.now in
    let x = c.args.target.now in
    let end : c.loop-number.number - c.args.first ≡ c.args.count = omega (arith, c.loop-number-test.false, c.loop-number.auto.number-end (omega arith)) in
    subst (λ (n : ℕ). Makes s (g.F.Flash.state c.loop-number.flash) (calls_from (slice_call x.geometry x.area) c.args.first n)) end c.loop-number.invariant.made
