-- What a queue may go on with, and what its step comes to.
use Rattle.std.proofs.Common.{◌≡◌, ℕ, ◌<◌, List, Option, Some, inl, inr, ap, length, slice_set, sym, subst, ◌∙◌}
use Rattle.std.specs.Prelude.{option_map}
use Rattle.std.specs.Option.{option_flatten}
use Rattle.fdp_rules.specs.PlainState.{Going}
use Rattle.fdp_flash.specs.FlashState.{FlashState}
use Rattle.fdp_flash.proofs.Lists.{slice_get-set_same}
use Rattle.fdp_core.specs.declared.answer.Placed.{Placed}
use Rattle.fdp_core.specs.declared.answer.Placed.TheVariants as placed
use Rattle.fdp_core.specs.fdp_book.declared.stage.Stage.{Stage}
use Rattle.fdp_core.specs.fdp_book.declared.stage.Stage.TheVariants as stages
use Rattle.fdp_core.specs.fdp_book.declared.ticket.Done.{Done}
use Rattle.fdp_core.specs.fdp_book.declared.ticket.Ticket.{Ticket}
use Rattle.fdp_core.specs.Answers.{MakesRoom, Places, PlacesPage}
use Rattle.fdp_core.specs.fdp_book.Book.{state_in}
use Rattle.fdp_core.specs.Seen.{Seen}
use Rattle.fdp_core.specs.fdp_book.Tickets.{IsTicketOf}
use Rattle.fdp_core_tests.specs.declared.noted.Noted.{Noted}
use Rattle.fdp_core_tests.specs.Played.{CameToPlace, MayGoOn, Played, ended, ticket_in}

ticket-same : (x y : Ticket) → Some x ≡ Some y → x ≡ y
ticket-same x y e = cc

-- a queue has one ticket
pub ticket-one : {F : Type 0} (p : Played F) (queue : ℕ) (x y : Stage) (t u : Ticket) → MayGoOn p queue x t → MayGoOn p queue y u → t ≡ u
ticket-one p queue x y t u h k = ticket-same t u (sym h.known ∙ k.known)

-- the ticket of a write that was noted in its queue
pub noted-ticket : (noted : List (Option Noted)) (queue place number position : ℕ) (x : Noted) (ticket : Ticket) → queue < length noted → place ≡ queue → ticket ≡ record { queue = queue; number = number; position = position } → x ≡ record { number = ticket.number; position = ticket.position }
    → ticket_in (slice_set noted place (Some x)) queue ≡ Some ticket
noted-ticket noted queue place number position x ticket low here is noted_is =
    ap (λ (k : ℕ). ticket_in (slice_set noted k (Some x)) queue) here
    ∙ ap (λ (o : Option (Option Noted)). option_map (λ (y : Noted). record { queue = queue; number = y.number; position = y.position }) (option_flatten o)) (slice_get-set_same noted queue (Some x) low)
    ∙ ap (λ (y : Noted). Some (record { queue = queue; number = y.number; position = y.position })) noted_is
    ∙ ap (λ (t : Ticket). Some (record { queue = queue; number = t.number; position = t.position })) is
    ∙ ap Some (sym is)

-- what placing a page came to
pub came-to_place : {F : Type 0} (state : F → FlashState) (old new : Seen F) (ticket : Ticket) (g : Going) (p : Placed) → Places state old new ticket g p → CameToPlace state old new ticket g (ended p)
came-to_place state old new ticket g (placed.More next) (inl h) = inl (subst (PlacesPage state old new ticket g) h.0.next_is h.0)
came-to_place state old new ticket g (placed.More next) (inr h) = inr (subst (MakesRoom state old new ticket g) h.next_is h)
came-to_place state old new ticket g (placed.Ready next) h = inl (subst (PlacesPage state old new ticket g) h.0.next_is h.0)
came-to_place state old new ticket g (placed.Ended done) h = h

-- what placing a page came to, by the ticket with which the queue may go on
pub placed-at : {F : Type 0} (state : F → FlashState) (p : Played F) (group new : Seen F) (queue : ℕ) (t u : Ticket) (g : Going) (came : Placed) (result : Option Done) → group ≡ p.group →
    MayGoOn p queue stages.Waiting t → MayGoOn p queue stages.Waiting u → IsTicketOf (state_in p.group.book) u g →
    ((x : Going) → IsTicketOf (state_in group.book) t x → Places state group new t x came) → result ≡ ended came → CameToPlace state p.group new u g result
placed-at {F} state p group new queue t u g came result same h k is step result_is =
    let one : t ≡ u = ticket-one p queue stages.Waiting stages.Waiting t u h k in
    let here : IsTicketOf (state_in group.book) t g = subst (λ (s : Seen F). IsTicketOf (state_in s.book) t g) (sym same) (subst (λ (x : Ticket). IsTicketOf (state_in p.group.book) x g) (sym one) is) in
    let there : CameToPlace state group new t g result = subst (CameToPlace state group new t g) (sym result_is) (came-to_place state group new t g came (step g here)) in
    subst (λ (s : Seen F). CameToPlace state s new u g result) same (subst (λ (x : Ticket). CameToPlace state group new x g result) one there)
