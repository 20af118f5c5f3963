use Rattle.std.proofs.Common.{◌∙◌, ap, sym}
use Rattle.fdp_image.specs.ChangeEvents.{closed_event}
use Rattle.fdp_snapshot.specs.declared.state.Summary.{Summary}
use Rattle.fdp_outline.specs.Handles.{handles_at}
use Rattle.fdp_outline.proofs.Telling.{closed-end, closed-more, handles-stay}
use Rattle.fdp_outline.proofs.outline.Outline.+make_closed.Goals as goal

pub returns-in-Some : goal.returns-in-Some
returns-in-Some t c x at same =
    let first = c.make_closed_at.ensures x at same in
    closed-more c.args.config.now x c.args.nsid c.args.closed c.args.place c.in-Some.pid.now c.in-Some.rest.now c.args.pids.now c.args.self.now c.make_closed_at.new.self c.make_closed.new.self c.in-Some.ensures.cases.0
    first
    (c.make_closed.ensures x at
    (same
    ∙ sym (handles-stay c.args.self.now (closed_event c.args.config.now x c.args.nsid c.args.closed (c.args.place, c.in-Some.pid.now)) c.args.nsid)
    ∙ sym (ap (λ (s : Summary). handles_at s c.args.nsid) first)))

pub returns-in_default : goal.returns-in_default
returns-in_default t c x at same = closed-end c.args.config.now x c.args.nsid c.args.closed c.args.place c.args.pids.now c.args.self.now c.known.ensures.summary c.in_default.ensures.cases
