use Rattle.std.proofs.Common.{◌≡◌, ◌<◌, ◌∙◌, ap, sym, subst, Some, refl}
use Rattle.std.specs.Prelude.{IsFalse}
use Rattle.fdp_base.specs.declared.entry.Reply.{Reply}
use Rattle.fdp_base.specs.declared.status.TheConstants.Status as statuses
use Rattle.fdp_base.specs.CommandKinds.{IsWellFormed}
use Rattle.fdp_relocation.specs.fdp_book.Book.{point_in, state_in}
use Rattle.fdp_relocation.specs.fdp_book.Stages.{IsFree}
use Rattle.fdp_core.specs.Answers.{EndsAtOnce}
use Rattle.fdp_core.specs.Seen.{Seen}
use Rattle.fdp_core.specs.Sound.{IsWhole}
use Rattle.fdp_core.specs.Stops.{OutlastsStops}
use Rattle.fdp_core.proofs.Begins.{AnswersCommand, answered-stands, completed, owners, IsRefusal, begins-refused, sound-refused}
use Rattle.fdp_core.proofs.Ends.{no-read}
use Rattle.fdp_core.proofs.Refusals.{uncompleted}
use Rattle.fdp_image.specs.Kept.{is_completed}
use Rattle.fdp_rules.specs.Change.{is_status}
use Rattle.fdp_rules.specs.Refusal.{refusal_of}
use Rattle.fdp_rules.specs.Step.{IsQueue}
use Rattle.fdp_core.proofs.group.Group.refuse.Given.{Over}
use Rattle.fdp_core.proofs.group.Group.refuse.Goals as goal
use Rattle.fdp_rules.proofs.Refusing.{refused-fails}

-- the answer
answers : (g : Over) (c : goal.After-known-2 g) → AnswersCommand g.F.Flash.state c.self.inside.flash c.self.inside.flash c.self.inside.handed c.self.inside.book c.complete-done.new.self c.self.inside.keeper c.self.inside.block.items c.args.self.now c.args.queue c.args.number c.args.command c.end-replies.result.1.history c.moment-moment.result c.complete-done.result
answers g c = record {
  view_is = c.self.view_is;
  order = record { known = record { config = c.known.ensures.config; orderly = c.known.ensures.orderly; units = c.known.ensures.units; joined = c.known.ensures.joined; led = c.known.ensures.led; generation = c.known.ensures.generation }; standing = c.known.ensures.standing; listed = c.known.ensures.listed };
  then_known = record { config = c.known-2.ensures.config; orderly = c.known-2.ensures.orderly; units = c.known-2.ensures.units; joined = c.known-2.ensures.joined; led = c.known-2.ensures.led; generation = c.known-2.ensures.generation };
  whole = c.self.invariant;
  read = no-read (g.F.Flash.state c.self.inside.flash);
  now = c.begin.new.self;
  now_is = c.begin.ensures;
  ends = c.complete-done.ensures.step;
  owners = c.complete-done.ensures.pages;
}

refusal : (g : Over) (c : goal.After-known-2 g) → IsRefusal c.self.inside.book c.args.queue c.args.number c.args.command c.args.status c.end-replies.result.1.history
refusal g c = record {
  queue_is = subst (λ (s : Seen g.row.F.Denot). IsQueue s.book.config c.args.queue) (sym c.self.view_is) c.requires.queue;
  formed = subst (λ (s : Seen g.row.F.Denot). IsWellFormed s.book.config c.args.command) (sym c.self.view_is) c.requires.formed;
  free = subst (λ (s : Seen g.row.F.Denot). IsFree (state_in s.book) c.args.queue c.args.number) (sym c.self.view_is) c.requires.free;
  refused = subst (λ (s : Seen g.row.F.Denot). refusal_of s.book.config (point_in s.book) c.args.command ≡ Some c.args.status) (sym c.self.view_is) c.requires.refused;
  reply_is = c.end-replies.ensures.reply.history_is;
}

-- no change is completed
unsuccessful : (g : Over) (c : goal.After-known-2 g) → IsFalse (is_completed c.args.command c.end-replies.result.1.history)
unsuccessful g c =
    let is = refusal g c in
    uncompleted c.args.command c.end-replies.result.1.history (ap (λ (r : Reply). is_status r.status statuses.SUCCESS) is.reply_is ∙ refused-fails c.self.inside.book.config (point_in c.self.inside.book) c.args.command c.args.status is.refused)

stands : (g : Over) (c : goal.After-known-2 g) → IsWhole c.self.inside.handed (g.F.Flash.state c.self.inside.flash) c.complete-done.new.self c.self.inside.keeper c.self.inside.block.items × OutlastsStops g.F.Flash.state c.args.self.now (record { book = c.complete-done.new.self; keeper = c.self.inside.keeper; handed = c.self.inside.handed; flash = c.self.inside.flash })
stands g c =
    answered-stands (answers g c) (ap (λ (r : Reply). r.applied) (refusal g c).reply_is) (unsuccessful g c)
    (sound-refused c.self.inside.handed (g.F.Flash.state c.self.inside.flash) c.self.inside.book c.complete-done.new.self c.self.inside.block.items c.args.queue c.args.number c.args.command c.args.status c.end-replies.result.1.history c.moment-moment.result c.complete-done.result
    c.self.invariant.sound (answers g c).order.known c.known-2.ensures.led (refusal g c) (completed (answers g c)) (owners (answers g c)))

pub invariant_of-self : goal.invariant_of-self
invariant_of-self g c = (stands g c).0

pub returns-clause-step : goal.returns-clause-step
returns-clause-step g c =
    let old = c.self.inside in
    let new : Seen g.row.F.Denot = record { book = c.complete-done.new.self; keeper = old.keeper; handed = old.handed; flash = old.flash } in
    subst (λ (s : Seen g.row.F.Denot). 0 < s.book.spare → EndsAtOnce g.F.Flash.state s new c.args.queue c.args.number c.args.command c.complete-done.result) c.self.view_is
    (λ spare. begins-refused g.F.Flash.state (record { book = old.book; keeper = old.keeper; handed = old.handed; flash = old.flash }) new c.args.queue c.args.number c.args.command c.args.status c.end-replies.result.1.history c.moment-moment.result c.complete-done.result
    spare refl refl (refusal g c) (completed (answers g c)) c.moment-moment.ensures)
    c.requires.spare

pub returns-clause-stops : goal.returns-clause-stops
returns-clause-stops g c = (stands g c).1
