use Rattle.std.proofs.Common.{◌≡◌, ◌+◌, ◌*◌, ◌∙◌, [], IsTrue, ℕ, ap, subst, sym, refl, arith}
use Rattle.fdp_flash.specs.Planned.{MakesPlanned, calls_from}
use Rattle.fdp_flash.proofs.Failing.{failed_behind}
use Rattle.fdp_snapshot.specs.Checkpoint.{checkpoint_of}
use Rattle.fdp_checkpoint.specs.Writing.{HasCheckpoint, page_call, with_pages}
use Rattle.fdp_checkpoint.proofs.Steps.{content_fits, fixed_size_is, pages_joined, pages_stop, sealing_behind, unsealed_sealing, written_plain}
use Rattle.fdp_checkpoint.proofs.writing.put_content.Goals as goal

pub fill-requires-clause-fits : goal.fill-requires-clause-fits
fill-requires-clause-fits g c = content_fits c.args.target.now.geometry c.args.count (with_pages c.args.summary.now c.args.pages.now) c.requires.valid c.requires.count

pub fill-requires-clause-long : goal.fill-requires-clause-long
fill-requires-clause-long g c = fixed_size_is c.args.fixed.now (with_pages c.args.summary.now c.args.pages.now) c.requires.state c.requires.fits c.requires.fixed

pub seal-requires-clause-geometry : goal.seal-requires-clause-geometry
seal-requires-clause-geometry g c = c.requires.geometry ∙ sym c.in-Done.ensures.held.run.geometry

pub seal-requires-clause-none : goal.seal-requires-clause-none
seal-requires-clause-none g c told = (c.in-Done.ensures.held.cells (subst IsTrue c.in-Done.ensures.held.run.told told)).none

pub seal-requires-clause-blank : goal.seal-requires-clause-blank
seal-requires-clause-blank g c told = (c.in-Done.ensures.done (subst IsTrue c.in-Done.ensures.held.run.told told) refl).blank

pub returns-in-Done-clause-held : goal.returns-in-Done-clause-held
returns-in-Done-clause-held g c =
    let x = c.args.target.now in
    let s = with_pages c.args.summary.now c.args.pages.now in
    sealing_behind x.geometry x.area x.stamp.epoch s [] _ _ _ c.in-Done.ensures.held
    (c.seal.ensures.held s
    (λ told.
    let there : IsTrue (g.F.Flash.state c.args.flash.now).told = subst IsTrue c.in-Done.ensures.held.run.told told in
    record {
      bytes = checkpoint_of 1 (c.args.count * x.geometry.block) s;
      frozen = record { state = c.requires.state; fits = c.requires.fits; is = ap (λ (n : ℕ). checkpoint_of 1 (n * x.geometry.block) s) c.requires.count };
      count_is = c.requires.count;
      pages = c.in-Done.ensures.done there refl;
    }))

pub returns-in-Done-clause-done : goal.returns-in-Done-clause-done
returns-in-Done-clause-done g c told is =
    let x = c.args.target.now in
    let s = with_pages c.args.summary.now c.args.pages.now in
    let stands : HasCheckpoint x c.args.count s (g.F.Flash.state c.fill.new.flash).cells = record {
      bytes = checkpoint_of 1 (c.args.count * x.geometry.block) s;
      frozen = record { state = c.requires.state; fits = c.requires.fits; is = ap (λ (n : ℕ). checkpoint_of 1 (n * x.geometry.block) s) c.requires.count };
      count_is = c.requires.count;
      pages = c.in-Done.ensures.done told refl;
    } in
    written_plain x.geometry x.area x.stamp.epoch s _ (c.seal.ensures.done s (subst IsTrue (sym c.in-Done.ensures.held.run.told) told) stands is)

pub returns-in-Done-clause-faultless : goal.returns-in-Done-clause-faultless
returns-in-Done-clause-faultless g c is = c.seal.ensures.faultless is ∙ c.in-Done.ensures.faultless refl

pub returns-in-Done-clause-failed : goal.returns-in-Done-clause-failed
returns-in-Done-clause-failed g c is = failed_behind _ _ _ _ _ c.in-Done.ensures.held.run (c.seal.ensures.failed is)

pub returns-in-Done-clause-calls : goal.returns-in-Done-clause-calls
returns-in-Done-clause-calls g c =
    let x = c.args.target.now in
    let on : c.args.count ≡ 0 + c.args.count = omega arith in
    pages_joined x.geometry x.area 0 c.args.count 1 (g.F.Flash.state c.args.flash.now) (g.F.Flash.state c.fill.new.flash) (g.F.Flash.state c.seal.new.flash) c.seal.result (c.seal.ensures.held (with_pages c.args.summary.now c.args.pages.now)
    (λ told.
    let there : IsTrue (g.F.Flash.state c.args.flash.now).told = subst IsTrue c.in-Done.ensures.held.run.told told in
    record {
      bytes = checkpoint_of 1 (c.args.count * x.geometry.block) (with_pages c.args.summary.now c.args.pages.now);
      frozen = record { state = c.requires.state; fits = c.requires.fits; is = ap (λ (n : ℕ). checkpoint_of 1 (n * x.geometry.block) (with_pages c.args.summary.now c.args.pages.now)) c.requires.count };
      count_is = c.requires.count;
      pages = c.in-Done.ensures.done there refl;
    })).run.listed_before c.in-Done.ensures.calls
    (subst (λ (n : ℕ). MakesPlanned (g.F.Flash.state c.fill.new.flash) (g.F.Flash.state c.seal.new.flash) (calls_from (page_call x.geometry x.area) n 1) c.seal.result) on c.seal.ensures.calls)

pub returns-in-Failed-clause-held : goal.returns-in-Failed-clause-held
returns-in-Failed-clause-held g c = unsealed_sealing _ _ _ _ [] _ _ c.in-Failed.ensures.held

pub returns-in-Failed-clause-failed : goal.returns-in-Failed-clause-failed
returns-in-Failed-clause-failed g c is = c.in-Failed.ensures.failed refl

pub returns-in-Failed-clause-calls : goal.returns-in-Failed-clause-calls
returns-in-Failed-clause-calls g c = pages_stop c.args.target.now.geometry c.args.target.now.area 0 c.args.count 1 (g.F.Flash.state c.args.flash.now) (g.F.Flash.state c.fill.new.flash) c.in-Failed.ensures.calls
