use Rattle.std.proofs.Common.{◌≡◌, ◌∙◌, ◌<◌, ap, arith, length, List, sym, subst}
use Rattle.fdp_base.specs.declared.config.Class.{Class}
use Rattle.fdp_base.specs.CommandKinds.{blocks_written}
use Rattle.fdp_book.specs.declared.flight.Flight.{Flight}
use Rattle.fdp_book.specs.Book.{state_in}
use Rattle.fdp_book.specs.Held.{going_of}
use Rattle.fdp_book.specs.Tickets.{WantsUnit}
use Rattle.fdp_book.proofs.Placing.Nexts.{next-at, one-going}
use Rattle.fdp_rules.specs.PlainState.{Going, Reference}
use Rattle.fdp_units.specs.UnitTable.{Cut}
use Rattle.fdp_book.proofs.book.Book.next_page.Goals as goal

pub next_spot-requires-clause-group : goal.next_spot-requires-clause-group
next_spot-requires-clause-group c = let groups = ap (λ (x : Cut). x.groups) c.known.ensures.units.cut in omega (arith, c.flight-flight.ensures.orderly.group, groups)

pub next_spot-requires-clause-handle : goal.next_spot-requires-clause-handle
next_spot-requires-clause-handle c =
    let there = sym c.is_there.ensures ∙ c.if-not-is_there.false in
    let classes = ap (λ (xs : List Class). length xs) c.known.ensures.units.classes in
    omega (arith, c.flight-flight.ensures.orderly.in_force there, classes)

pub returns-in-Some : goal.returns-in-Some
returns-in-Some c g is =
    let b = c.args.self.now in
    let f : Flight = c.flight-flight.result.now in
    next-at b c.args.ticket.now f g c.requires.going c.in-Some.spot c.len.result c.next_spare.result c.encode.result c.known.ensures.units c.known.ensures.joined c.flight-flight.ensures is c.requires.ticket_is c.requires.asked (sym c.is_there.ensures ∙ c.if-not-is_there.false) c.in-Some.ensures c.len.ensures.value c.next_spare.ensures c.encode.ensures

pub returns-in-None : goal.returns-in-None
returns-in-None c g is =
    let b = c.args.self.now in
    let f : Flight = c.flight-flight.result.now in
    let same : going_of f ≡ g = one-going (state_in b) c.args.ticket.now (going_of f) g c.flight-flight.ensures.going is in
    let other : c.requires.going ≡ going_of f = one-going (state_in b) c.args.ticket.now c.requires.going (going_of f) c.requires.ticket_is c.flight-flight.ensures.going in
    subst (λ (k : Going). WantsUnit b k) same (record {
      there = sym c.is_there.ensures ∙ c.if-not-is_there.false;
      asked = subst (λ (k : Going). k.placed < blocks_written k.command) other c.requires.asked;
      none = ap (λ (x : Reference). x.unit) (c.known.ensures.units.references f.rg f.ruh) ∙ c.in-None.ensures.none;
      few = c.in-None.ensures.few;
    })
