use Rattle.std.proofs.Common.{ℕ, [], false, refl, sym, subst, arith, length}
use Rattle.fdp_relocation.specs.fdp_book.Book.{state_in}
use Rattle.fdp_relocation.specs.fdp_book.Steps.{Completes}
use Rattle.fdp_relocation.specs.fdp_book.Tickets.{IsTicketOf}
use Rattle.fdp_core.specs.Ending.{Ends, MayEnd}
use Rattle.fdp_core.specs.Seen.{Seen}
use Rattle.fdp_core.specs.Sound.{IsKept}
use Rattle.fdp_core.specs.Stops.{Outlasts, UsesNoMore}
use Rattle.fdp_core.proofs.Isolating.{data-none, part-data}
use Rattle.fdp_loading.proofs.fdp_isolation.Answered.{answered-generation, answered-owned, answered-quiet}
use Rattle.fdp_loading.proofs.fdp_isolation.Later.{isolated-later, setting-later}
use Rattle.fdp_core.proofs.Ends.{no-read, sound-ended}
use Rattle.fdp_core.proofs.Grown.{host}
use Rattle.fdp_core.proofs.Refusals.{uncompleted}
use Rattle.fdp_core.proofs.Wholes.{answered-kept, outlasts-entry, survives-uncalled}
use Rattle.fdp_rules.specs.Answer.{bare}
use Rattle.fdp_rules.specs.PlainState.{Going}
use Rattle.fdp_loading.specs.fdp_survival.Books.{IsInOrder}
use Rattle.fdp_core.proofs.group.Group.end.Given.{Over}
use Rattle.fdp_core.proofs.Apart.{safe-now}
use Rattle.fdp_core.proofs.group.Group.end.Goals as goal
use Rattle.fdp_core.proofs.Roomy.{leaves-uncalled}

-- the write is that of the ticket
here : (g : Over) (c : goal.After-known-2 g) → IsTicketOf (state_in c.self.inside.book) c.args.ticket c.requires.going.going
here g c = subst (λ (s : Seen g.row.F.Denot). IsTicketOf (state_in s.book) c.args.ticket c.requires.going.going) (sym c.self.view_is) c.requires.going.ticket_is

-- it ended at the moment of the flash
completed : (g : Over) (c : goal.After-known-2 g) (going : Going) → IsTicketOf (state_in c.self.inside.book) c.args.ticket going → Completes c.self.inside.book c.end-done.new.self [] c.args.ticket.queue going.number going.command (bare c.args.status false) (g.F.Flash.state c.self.inside.flash).moment c.end-done.result
completed g c going is = subst (λ (m : ℕ). Completes c.self.inside.book c.end-done.new.self [] c.args.ticket.queue going.number going.command (bare c.args.status false) m c.end-done.result) c.moment-moment.ensures (c.end-done.ensures.step going is)

order : (g : Over) (c : goal.After-known-2 g) → IsInOrder c.self.inside.book
order g c = record { known = record { config = c.known.ensures.config; orderly = c.known.ensures.orderly; units = c.known.ensures.units; joined = c.known.ensures.joined; led = c.known.ensures.led; generation = c.known.ensures.generation }; standing = c.known.ensures.standing; listed = c.known.ensures.listed }

kept : (g : Over) (c : goal.After-known-2 g) → IsKept c.self.inside.handed (g.F.Flash.state c.self.inside.flash) c.end-done.new.self c.self.inside.keeper
kept g c =
    let old = c.self.inside in
    let k = c.requires.going in
    answered-kept old.handed (g.F.Flash.state old.flash) (g.F.Flash.state old.flash) old.book c.end-done.new.self c.args.ticket.queue k.going.number k.going.command (bare c.args.status false) (g.F.Flash.state old.flash).moment c.end-done.result old.keeper
    (order g c) c.self.invariant.kept (no-read (g.F.Flash.state old.flash)) (completed g c k.going (here g c)) refl (uncompleted k.going.command (bare c.args.status false) c.requires.failed) c.end-done.ensures.pages

pub invariant_of-self : goal.invariant_of-self
invariant_of-self g c =
    let f = g.F.Flash.state c.self.inside.flash in
    let b = c.self.inside.book in
    let k = c.requires.going in
    let may = subst (λ (s : Seen g.row.F.Denot). MayEnd g.F.Flash.state s k.going c.args.status) (sym c.self.view_is) (c.requires.may k.going k.ticket_is) in
    record {
      sound = sound-ended c.self.inside.handed f b c.end-done.new.self c.self.inside.block.items c.args.ticket k.going (bare c.args.status false) c.end-done.result c.self.invariant.sound (order g c).known c.known-2.ensures.led (here g c) may.legal may.fault refl
          (completed g c k.going (here g c)) c.end-done.ensures.pages;
      kept = kept g c;
    }

pub returns-clause-step : goal.returns-clause-step
returns-clause-step g c going is =
    let old : Seen g.row.F.Denot = record { book = c.self.inside.book; keeper = c.self.inside.keeper; handed = c.self.inside.handed; flash = c.self.inside.flash } in
    let new : Seen g.row.F.Denot = record { book = c.end-done.new.self; keeper = c.self.inside.keeper; handed = c.self.inside.handed; flash = c.self.inside.flash } in
    subst (λ (s : Seen g.row.F.Denot). IsTicketOf (state_in s.book) c.args.ticket going → Ends g.F.Flash.state s new c.args.ticket going c.args.status c.end-done.result) c.self.view_is
    (λ here. record {
      completes = completed g c going here;
      pages = c.end-done.ensures.pages;
      handed_is = refl;
      uncalled = refl;
    })
    is

pub returns-clause-stops : goal.returns-clause-stops
returns-clause-stops g c =
    let inside = c.self.inside in
    let k = c.requires.going in
    let old : Seen g.row.F.Denot = record { book = inside.book; keeper = inside.keeper; handed = inside.handed; flash = inside.flash } in
    let new : Seen g.row.F.Denot = record { book = c.end-done.new.self; keeper = inside.keeper; handed = inside.handed; flash = inside.flash } in
    subst (λ (s : Seen g.row.F.Denot). Outlasts g.F.Flash.state s new) c.self.view_is
    (outlasts-entry g.F.Flash.state old new (host c.args.ticket.queue k.going.number k.going.command (bare c.args.status false) (g.F.Flash.state inside.flash).moment) (completed g c k.going (here g c)).step
    (uncompleted k.going.command (bare c.args.status false) c.requires.failed) (survives-uncalled inside.book inside.keeper.firm (length inside.book.entries) (g.F.Flash.state inside.flash)) (omega arith) refl (leaves-uncalled inside.handed (g.F.Flash.state inside.flash) inside.book)
    (part-data inside.book new.book (g.F.Flash.state inside.flash) (g.F.Flash.state inside.flash) (completed g c k.going (here g c)).step.config_is
    (setting-later inside.book new.book _ (completed g c k.going (here g c)).step
    (answered-generation inside.book new.book c.args.ticket.queue k.going.number k.going.command (bare c.args.status false) (g.F.Flash.state inside.flash).moment c.end-done.result (g.F.Flash.state inside.flash).cells (order g c).known c.known-2.ensures.led (completed g c k.going (here g c)) refl))
    (data-none inside.book.config (g.F.Flash.state inside.flash))))

-- no unit comes into use by it
pub returns-clause-uses : goal.returns-clause-uses
returns-clause-uses g c =
    let inside = c.self.inside in
    let k = c.requires.going in
    subst (λ (s : Seen g.row.F.Denot). UsesNoMore s.book c.end-done.new.self (g.F.Flash.state s.flash)) c.self.view_is
    (λ told opened cells.
    let ends = completed g c k.going (here g c) in
    let f = g.F.Flash.state inside.flash in
    let apart = c.self.invariant.sound.apart told opened in
    isolated-later inside.book c.end-done.new.self _ (order g c).known
    (record { config = c.known-2.ensures.config; orderly = c.known-2.ensures.orderly; units = c.known-2.ensures.units; joined = c.known-2.ensures.joined; led = c.known-2.ensures.led; generation = c.known-2.ensures.generation })
    apart.laned.placed
    (answered-quiet inside.book c.end-done.new.self c.args.ticket.queue k.going.number k.going.command (bare c.args.status false) f.moment c.end-done.result f.cells (order g c).known c.known-2.ensures.led ends refl apart.laned.placed)
    (λ unit. refl)
    (answered-owned inside.book c.end-done.new.self c.args.ticket.queue k.going.number k.going.command (bare c.args.status false) f.moment c.end-done.result f.cells (order g c).known c.known-2.ensures.led ends refl) cells)

pub returns-clause-safe : goal.returns-clause-safe
returns-clause-safe g c =
    let inside = c.self.inside in
    safe-now inside.handed (g.F.Flash.state inside.flash) c.end-done.new.self inside.keeper inside.block.items
    (record { config = c.known-2.ensures.config; orderly = c.known-2.ensures.orderly; units = c.known-2.ensures.units; joined = c.known-2.ensures.joined; led = c.known-2.ensures.led; generation = c.known-2.ensures.generation })
    (invariant_of-self g c)
