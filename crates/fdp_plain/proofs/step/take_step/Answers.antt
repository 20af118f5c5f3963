use Rattle.std.proofs.Common.{◌≡◌, ◌∙◌, ◌++◌, ◌∷◌, [], ap}
use Rattle.fdp_base.specs.declared.entry.Entry.{Entry}
use Rattle.fdp_plain.specs.Run.{Run}
use Rattle.fdp_plain.specs.Telling.{run_of}
use Rattle.fdp_plain.proofs.Fitting.{copy_group_there}
use Rattle.fdp_plain.proofs.Reserving.{on_err}
use Rattle.fdp_plain.proofs.Same.{same_follows, same_history, same_run}
use Rattle.fdp_plain.proofs.Sound.{history_sound}
use Rattle.fdp_plain.proofs.step.take_step.Goals as goal

pub kept_events-requires-clause-sound : goal.kept_events-requires-clause-sound
kept_events-requires-clause-sound c = history_sound c.args.kept.now c.requires.history

pub reserve-requires : goal.reserve-requires
reserve-requires c = copy_group_there c.args.kept.now c.args.entry.now (history_sound c.args.kept.now c.requires.history) c.requires.follows

pub returns-in_err-reserve-clause-history : goal.returns-in_err-reserve-clause-history
returns-in_err-reserve-clause-history c = same_history c.args.kept.now c.reserve.new.kept c.reserve.ensures.same c.requires.history

pub prepare-requires-clause-sound : goal.prepare-requires-clause-sound
prepare-requires-clause-sound c = history_sound c.reserve.new.kept (same_history c.args.kept.now c.reserve.new.kept c.reserve.ensures.same c.requires.history)

pub prepare-requires-clause-follows : goal.prepare-requires-clause-follows
prepare-requires-clause-follows c = same_follows c.args.kept.now c.reserve.new.kept c.reserve.ensures.same c.args.entry.now c.requires.follows

pub returns-in_err-prepared-clause-history : goal.returns-in_err-prepared-clause-history
returns-in_err-prepared-clause-history c = same_history c.args.kept.now c.reserve.new.kept c.reserve.ensures.same c.requires.history

pub commit-requires-clause-history : goal.commit-requires-clause-history
commit-requires-clause-history c = same_history c.args.kept.now c.reserve.new.kept c.reserve.ensures.same c.requires.history

pub commit-requires-clause-follows : goal.commit-requires-clause-follows
commit-requires-clause-follows c =
    rw c.in_ok-prepared.ensures.entry (same_follows c.args.kept.now c.reserve.new.kept c.reserve.ensures.same c.args.entry.now c.requires.follows)

pub returns-clause-taken : goal.returns-clause-taken
returns-clause-taken c =
    let k = c.args.kept.now in
    let same : run_of c.reserve.new.kept ≡ run_of k = same_run k c.reserve.new.kept c.reserve.ensures.same in
    c.commit.ensures.run
    ∙ ap (λ (r : Run). let longer : Run = record r { entries = r.entries ++ c.in_ok-prepared.prepared.entry ∷ [] } in longer) same
    ∙ ap (λ (e : Entry). let longer : Run = record (run_of k) { entries = (run_of k).entries ++ e ∷ [] } in longer) c.in_ok-prepared.ensures.entry

pub returns-in_err-reserve-clause-failed : goal.returns-in_err-reserve-clause-failed
returns-in_err-reserve-clause-failed c = on_err c.from_residual-in_err-reserve.result (same_run c.args.kept.now c.reserve.new.kept c.reserve.ensures.same)

pub returns-in_err-prepared-clause-failed : goal.returns-in_err-prepared-clause-failed
returns-in_err-prepared-clause-failed c = on_err c.from_residual-in_err-prepared.result (same_run c.args.kept.now c.reserve.new.kept c.reserve.ensures.same)
