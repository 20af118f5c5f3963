use Rattle.std.proofs.Common.{◌<◌, false, sym, subst}
use Rattle.fdp_relocation.specs.fdp_book.Book.{BookSeen, state_in}
use Rattle.fdp_relocation.specs.fdp_book.Tickets.{IsTicketOf}
use Rattle.fdp_core.specs.Answers.{EndsAlone}
use Rattle.fdp_core.specs.Ending.{Ends, MayEnd}
use Rattle.fdp_core.specs.Seen.{Seen}
use Rattle.fdp_core.specs.Sound.{IsWhole}
use Rattle.fdp_core.proofs.Ends.{ends-alone}
use Rattle.fdp_core.proofs.Sound.{begun}
use Rattle.fdp_core.proofs.Wholes.{outlasts-begun, whole-begun}
use Rattle.fdp_rules.specs.Answer.{bare}
use Rattle.fdp_core.proofs.group.Group.end_alone.Goals as goal

pub returns-clause-step : goal.returns-clause-step
returns-clause-step g c going is =
    let inside = c.self.inside in
    let old : Seen g.row.F.Denot = record { book = inside.book; keeper = inside.keeper; handed = inside.handed; flash = inside.flash } in
    subst (λ (s : Seen g.row.F.Denot). IsTicketOf (state_in s.book) c.args.ticket going → 0 < s.book.spare → EndsAlone g.F.Flash.state s c.end.new.self c.args.ticket going (bare c.args.status false) c.end.result) c.self.view_is
    (λ here spare.
    let ends = subst (λ (b : BookSeen). IsTicketOf (state_in b) c.args.ticket going → Ends g.F.Flash.state (record { book = b; keeper = inside.keeper; handed = inside.handed; flash = inside.flash }) c.end.new.self c.args.ticket going c.args.status c.end.result) c.begin.ensures (c.end.ensures.step going) here in
    ends-alone g.F.Flash.state old c.end.new.self c.args.ticket going (bare c.args.status false) c.end.result spare c.requires.fine ends.completes ends.handed_is ends.uncalled)
    is c.requires.spare

pub returns-clause-stops : goal.returns-clause-stops
returns-clause-stops g c = outlasts-begun c.self.view_is c.begin.ensures c.self.invariant.kept.safe.at.firm_is c.end.ensures.safe c.end.ensures.stops

pub invariant_of-self : goal.invariant_of-self
invariant_of-self g c =
    let inside = c.self.inside in
    let f = g.F.Flash.state inside.flash in
    subst (λ (b : BookSeen). IsWhole inside.handed f b inside.keeper inside.block.items) (sym c.begin.ensures) (whole-begun inside.handed f inside.book inside.keeper inside.block.items c.self.invariant)

pub end-requires-clause-may : goal.end-requires-clause-may
end-requires-clause-may g c going =
    let inside = c.self.inside in
    subst (λ (b : BookSeen). IsTicketOf (state_in b) c.args.ticket going → MayEnd g.F.Flash.state (record { book = b; keeper = inside.keeper; handed = inside.handed; flash = inside.flash }) going c.args.status) (sym c.begin.ensures)
    (subst (λ (s : Seen g.row.F.Denot). IsTicketOf (state_in s.book) c.args.ticket going → MayEnd g.F.Flash.state (record { book = begun s.book; keeper = s.keeper; handed = s.handed; flash = s.flash }) going c.args.status) (sym c.self.view_is)
    (λ here. let may = c.requires.may going here in record { legal = may.legal; fault = may.fault }))
