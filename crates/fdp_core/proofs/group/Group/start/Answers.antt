use Rattle.std.proofs.Common.{◌≡◌, ◌<◌, ◌∙◌, ap, subst, None, refl, arith, length}
use Rattle.fdp_core.specs.Sound.{IsKept}
use Rattle.fdp_core.specs.Stops.{OutlastsStops}
use Rattle.fdp_core.proofs.Isolating.{leaves-nothing}
use Rattle.fdp_core.proofs.Kept.{kept-begun}
use Rattle.fdp_core.proofs.Wholes.{entry-stops, order-begun, started-kept, survives-uncalled}
use Rattle.fdp_loading.specs.fdp_survival.Books.{IsInOrder}
use Rattle.fdp_base.specs.declared.command.Command.{Command}
use Rattle.fdp_relocation.specs.fdp_book.Book.{BookSeen, point_in}
use Rattle.fdp_relocation.specs.fdp_book.FirstSteps.{IsAdmitted}
use Rattle.fdp_relocation.specs.fdp_book.Steps as book
use Rattle.fdp_commands.specs.declared.admission.Admission.{Admission}
use Rattle.fdp_core.specs.Answers.{Starts}
use Rattle.fdp_core.specs.Seen.{Seen}
use Rattle.fdp_core.proofs.Begins.{begins-started, sound-started}
use Rattle.fdp_core.proofs.Sound.{begun}
use Rattle.fdp_relocation.specs.fdp_pages.Steps.{ChangesOwners}
use Rattle.fdp_rules.specs.Refusal.{refusal_of}
use Rattle.fdp_core.proofs.group.Group.start.Given.{Over}
use Rattle.fdp_core.proofs.Apart.{safe-now}
use Rattle.fdp_core.proofs.group.Group.start.Goals as goal
use Rattle.fdp_core.proofs.Roomy.{leaves-uncalled}

-- a write that is admitted is accepted
accepted-of : (b : BookSeen) (command : Command) (a : Admission) → IsAdmitted b command a → refusal_of b.config (point_in b) command ≡ None
accepted-of b command a is = ap (refusal_of b.config (point_in b)) is.command_is ∙ is.admits.accepted

started : (g : Over) (c : goal.After-known-in-Write g) → book.Starts (begun c.self.inside.book) c.start-ticket.new.self c.args.queue c.args.number c.args.command c.start-ticket.result
started g c = subst (λ (b : BookSeen). book.Starts b c.start-ticket.new.self c.args.queue c.args.number c.args.command c.start-ticket.result) c.begin.ensures c.start-ticket.ensures.step

owners-started : (g : Over) (c : goal.After-known-in-Write g) → ChangesOwners c.self.inside.book.pages c.start-ticket.new.self.pages
owners-started g c = subst (λ (b : BookSeen). ChangesOwners b.pages c.start-ticket.new.self.pages) c.begin.ensures c.start-ticket.ensures.pages

order-started : (g : Over) (c : goal.After-known-in-Write g) → IsInOrder c.self.inside.book
order-started g c = record { known = record { config = c.known.ensures.config; orderly = c.known.ensures.orderly; units = c.known.ensures.units; joined = c.known.ensures.joined; led = c.known.ensures.led; generation = c.known.ensures.generation }; standing = c.known.ensures.standing; listed = c.known.ensures.listed }

kept-started : (g : Over) (c : goal.After-known-in-Write g) → IsKept c.self.inside.handed (g.F.Flash.state c.self.inside.flash) c.start-ticket.new.self c.self.inside.keeper
kept-started g c =
    let old = c.self.inside in
    let f = g.F.Flash.state old.flash in
    started-kept old.handed f (begun old.book) c.start-ticket.new.self c.args.queue c.args.number c.args.command c.start-ticket.result old.keeper
    (order-begun old.book (order-started g c)) (kept-begun old.handed f old.book old.keeper c.self.invariant.kept) (started g c) (owners-started g c)

pub invariant_of-self : goal.invariant_of-self
invariant_of-self g c =
    let old = c.self.inside in
    record {
      sound = sound-started old.handed (g.F.Flash.state old.flash) old.book c.start-ticket.new.self old.block.items c.args.queue c.args.number c.args.command c.start-ticket.result
          c.self.invariant.sound (order-started g c).known c.known-in-Write.ensures.led (started g c) (owners-started g c);
      kept = kept-started g c;
    }

pub returns-in-Write-clause-step : goal.returns-in-Write-clause-step
returns-in-Write-clause-step g c =
    let old = c.self.inside in
    let new : Seen g.row.F.Denot = record { book = c.start-ticket.new.self; keeper = old.keeper; handed = old.handed; flash = old.flash } in
    subst (λ (s : Seen g.row.F.Denot). 0 < s.book.spare → Starts g.F.Flash.state s new c.args.queue c.args.number c.args.command c.start-ticket.result) c.self.view_is
    (λ spare. begins-started g.F.Flash.state (record { book = old.book; keeper = old.keeper; handed = old.handed; flash = old.flash }) new c.args.queue c.args.number c.args.command c.start-ticket.result
    spare refl refl (accepted-of old.book c.args.command c.in-Write.admission c.in-Write.ensures) (started g c))
    c.requires.spare

pub returns-in-Write-clause-stops : goal.returns-in-Write-clause-stops
returns-in-Write-clause-stops g c =
    let old = c.self.inside in
    let new : Seen g.row.F.Denot = record { book = c.start-ticket.new.self; keeper = old.keeper; handed = old.handed; flash = old.flash } in
    subst (λ (s : Seen g.row.F.Denot). OutlastsStops g.F.Flash.state s new) c.self.view_is
    (entry-stops g.F.Flash.state (record { book = old.book; keeper = old.keeper; handed = old.handed; flash = old.flash }) new _ (started g c).step refl
    (survives-uncalled old.book old.keeper.firm (length old.book.entries) (g.F.Flash.state old.flash)) c.self.invariant.kept.safe
    (safe-now old.handed (g.F.Flash.state old.flash) c.start-ticket.new.self old.keeper old.block.items
    (record { config = c.known-in-Write.ensures.config; orderly = c.known-in-Write.ensures.orderly; units = c.known-in-Write.ensures.units; joined = c.known-in-Write.ensures.joined; led = c.known-in-Write.ensures.led; generation = c.known-in-Write.ensures.generation })
    (invariant_of-self g c)) (omega arith) (leaves-uncalled old.handed (g.F.Flash.state old.flash) old.book) (leaves-nothing old.book new.book (g.F.Flash.state old.flash)))
