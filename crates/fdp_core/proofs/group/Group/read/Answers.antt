use Rattle.std.proofs.Common.{◌≡◌, ◌<◌, ◌∙◌, ap, sym, subst, None, false, refl}
use Rattle.std.specs.Prelude.{IsFalse}
use Rattle.fdp_base.specs.declared.command.Command.{Command}
use Rattle.fdp_core.specs.Sound.{IsWhole}
use Rattle.fdp_core.specs.Stops.{OutlastsStops}
use Rattle.fdp_image.specs.Kept.{is_completed}
use Rattle.fdp_relocation.specs.fdp_book.Book.{point_in}
use Rattle.fdp_relocation.proofs.fdp_book.Histories.Follows.{accepted-few}
use Rattle.fdp_core.specs.Answers.{EndsAtOnce}
use Rattle.fdp_core.specs.Seen.{Seen}
use Rattle.fdp_core.proofs.Begins.{AnswersCommand, answered-stands, completed, owners, IsRead, read-completes, read-unapplied, sound-read}
use Rattle.fdp_rules.specs.Refusal.{refusal_of}
use Rattle.fdp_core.proofs.group.Group.read.Given.{Over}
use Rattle.fdp_core.proofs.group.Group.read.Goals as goal

pub read_replies-replies-requires-clause-few : goal.read_replies-replies-requires-clause-few
read_replies-replies-requires-clause-few g c =
    let b = c.self.inside.book in
    let accepted = subst (λ (s : Seen g.row.F.Denot). refusal_of s.book.config (point_in s.book) c.args.command ≡ None) (sym c.self.view_is) c.requires.accepted in
    accepted-few b.config (point_in b) c.args.read.nsid c.args.read.slba c.args.read.count (ap (refusal_of b.config (point_in b)) (sym c.requires.command) ∙ accepted)

-- the answer
answers : (g : Over) (c : goal.After-known-2 g) → AnswersCommand g.F.Flash.state c.self.inside.flash c.read_replies-replies.new.flash c.self.inside.handed c.self.inside.book c.complete-done.new.self c.self.inside.keeper c.self.inside.block.items c.args.self.now c.args.queue c.args.number c.args.command c.read_replies-replies.result.history c.moment-moment.result c.complete-done.result
answers g c = record {
  view_is = c.self.view_is;
  order = record { known = record { config = c.known.ensures.config; orderly = c.known.ensures.orderly; units = c.known.ensures.units; joined = c.known.ensures.joined; led = c.known.ensures.led; generation = c.known.ensures.generation }; standing = c.known.ensures.standing; listed = c.known.ensures.listed };
  then_known = record { config = c.known-2.ensures.config; orderly = c.known-2.ensures.orderly; units = c.known-2.ensures.units; joined = c.known-2.ensures.joined; led = c.known-2.ensures.led; generation = c.known-2.ensures.generation };
  whole = c.self.invariant;
  read = c.read_replies-replies.ensures.read;
  now = c.begin.new.self;
  now_is = c.begin.ensures;
  ends = c.complete-done.ensures.step;
  owners = c.complete-done.ensures.pages;
}

-- it is a read
is-read : (g : Over) (c : goal.After-known-2 g) → IsRead c.self.inside.book c.args.queue c.args.command c.args.read
is-read g c =
    subst (λ (s : Seen g.row.F.Denot). IsRead s.book c.args.queue c.args.command c.args.read) (sym c.self.view_is)
    (record { command_is = c.requires.command; queue_is = c.requires.queue; formed = c.requires.formed; accepted = c.requires.accepted })

-- no change is completed
unapplied : (g : Over) (c : goal.After-known-2 g) → c.read_replies-replies.result.history.applied ≡ false
unapplied g c = read-unapplied (g.F.Flash.state c.self.inside.flash) c.self.inside.book c.args.read c.read_replies-replies.result c.read_replies-replies.ensures.failed c.read_replies-replies.ensures.told

uncompleted : (g : Over) (c : goal.After-known-2 g) → IsFalse (is_completed c.args.command c.read_replies-replies.result.history)
uncompleted g c = subst (λ (x : Command). IsFalse (is_completed x c.read_replies-replies.result.history)) (sym c.requires.command) refl

stands : (g : Over) (c : goal.After-known-2 g) → IsWhole c.self.inside.handed (g.F.Flash.state c.read_replies-replies.new.flash) c.complete-done.new.self c.self.inside.keeper c.self.inside.block.items × OutlastsStops g.F.Flash.state c.args.self.now (record { book = c.complete-done.new.self; keeper = c.self.inside.keeper; handed = c.self.inside.handed; flash = c.read_replies-replies.new.flash })
stands g c =
    answered-stands (answers g c) (unapplied g c) (uncompleted g c)
    (sound-read c.self.inside.handed (g.F.Flash.state c.self.inside.flash) (g.F.Flash.state c.read_replies-replies.new.flash) c.self.inside.book c.complete-done.new.self c.self.inside.block.items c.args.queue c.args.number c.args.command c.args.read c.read_replies-replies.result c.moment-moment.result c.complete-done.result
    c.self.invariant.sound (answers g c).order.known c.known-2.ensures.led (g.met.F.Flash.well_formed c.read_replies-replies.new.flash) (is-read g c) c.read_replies-replies.ensures c.moment-moment.ensures (completed (answers g c)) (owners (answers g c)))

pub invariant_of-self : goal.invariant_of-self
invariant_of-self g c = (stands g c).0

pub returns-clause-step : goal.returns-clause-step
returns-clause-step g c =
    let old = c.self.inside in
    let new : Seen g.row.F.Denot = record { book = c.complete-done.new.self; keeper = old.keeper; handed = old.handed; flash = c.read_replies-replies.new.flash } in
    subst (λ (s : Seen g.row.F.Denot). 0 < s.book.spare → EndsAtOnce g.F.Flash.state s new c.args.queue c.args.number c.args.command c.complete-done.result) c.self.view_is
    (λ spare. read-completes g.F.Flash.state (record { book = old.book; keeper = old.keeper; handed = old.handed; flash = old.flash }) new c.args.queue c.args.number c.args.command c.args.read c.read_replies-replies.result c.moment-moment.result c.complete-done.result
    spare refl (g.met.F.Flash.well_formed c.read_replies-replies.new.flash) (is-read g c) c.read_replies-replies.ensures c.moment-moment.ensures (completed (answers g c)))
    c.requires.spare

pub returns-clause-stops : goal.returns-clause-stops
returns-clause-stops g c = (stands g c).1
