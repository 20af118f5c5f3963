use Rattle.std.proofs.Common.{◌≡◌, None, length, ap, subst, ◌∙◌}
use Rattle.std.proofs.lemmas.List.{length-replicate}
use Rattle.fdp_plain.specs.Longer.{IsTraced}
use Rattle.fdp_plain.specs.Prepared.{pages_of}
use Rattle.fdp_plain.proofs.Fitting.{counts_there, places_there, same_places}
use Rattle.fdp_plain.proofs.Sound.{history_sound}
use Rattle.fdp_plain.proofs.Taking.{run_is, taken}
use Rattle.fdp_plain.proofs.commit.commit.Goals as goal

pub change-requires-clause-sound : goal.change-requires-clause-sound
change-requires-clause-sound c = history_sound c.args.kept.now c.requires.history

pub trace-requires-clause-places : goal.trace-requires-clause-places
trace-requires-clause-places c =
    same_places c.args.kept.now c.change.new.kept c.args.prepared.entry c.change.ensures.rest
    (places_there c.args.kept.now c.args.prepared.entry (history_sound c.args.kept.now c.requires.history) c.requires.follows c.requires.spare.copy)

pub lengthen-requires-clause-count : goal.lengthen-requires-clause-count
lengthen-requires-clause-count c =
    counts_there c.args.kept.now c.change.new.kept c.trace.new.kept (history_sound c.args.kept.now c.requires.history) c.change.ensures.rest c.trace.ensures.traced.rest

pub returns-clause-history : goal.returns-clause-history
returns-clause-history c =
    let count : length c.args.prepared.pages.items ≡ pages_of c.args.prepared.entry = ap length c.requires.prepared.pages ∙ length-replicate (pages_of c.args.prepared.entry) None in
    taken c.args.kept.now c.change.new.kept c.trace.new.kept c.lengthen.new.kept c.args.prepared.entry c.args.events.now
    c.requires.history c.requires.follows c.change.ensures.state c.change.ensures.rest c.change.ensures.rows (subst (IsTraced c.change.new.kept c.trace.new.kept c.args.prepared.entry) count c.trace.ensures.traced) c.trace.ensures.found c.lengthen.ensures c.requires.events

pub returns-clause-run : goal.returns-clause-run
returns-clause-run c =
    let count : length c.args.prepared.pages.items ≡ pages_of c.args.prepared.entry = ap length c.requires.prepared.pages ∙ length-replicate (pages_of c.args.prepared.entry) None in
    run_is c.args.kept.now c.change.new.kept c.trace.new.kept c.lengthen.new.kept c.args.prepared.entry c.args.events.now
    c.requires.history c.requires.follows c.change.ensures.state c.change.ensures.rest c.change.ensures.rows (subst (IsTraced c.change.new.kept c.trace.new.kept c.args.prepared.entry) count c.trace.ensures.traced) c.trace.ensures.found c.lengthen.ensures c.requires.events
