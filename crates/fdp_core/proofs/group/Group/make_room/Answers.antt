use Rattle.std.proofs.Common.{◌≡◌, ◌⊎◌, ◌+◌, ◌<◌, ◌≤◌, ℕ, arith, refl, sym, subst, inl, inr}
use Rattle.fdp_base.specs.declared.status.TheConstants.Status as statuses
use Rattle.fdp_relocation.specs.fdp_book.Book.{BookSeen, state_in}
use Rattle.fdp_relocation.specs.fdp_book.Tickets.{IsTicketOf, WantsUnit}
use Rattle.fdp_core.specs.declared.group.pass.PassEnd.{PassEnd}
use Rattle.fdp_core.specs.declared.group.pass.PassEnd.TheVariants as ends
use Rattle.fdp_core.specs.Answers.{EndsInPlacing, MakesRoom, PlacesPage}
use Rattle.fdp_core.specs.Ending.{MayEnd}
use Rattle.fdp_core.specs.Passes.{EndsPass, MayBeginPass}
use Rattle.fdp_core.specs.Seen.{Seen}
use Rattle.fdp_core.specs.Sound.{IsWhole}
use Rattle.fdp_core.proofs.Outlasting.{outlasts-before}
use Rattle.fdp_core.proofs.Wholes.{outlasts-begun, whole-begun}
use Rattle.fdp_core.proofs.Rooms.{begun_seen, crowded-may, ends-crowded, ends-in-pass, ends-starved, failed-may, makes-room, starved-may}
use Rattle.fdp_core.proofs.Sound.{begun}
use Rattle.fdp_base.specs.CommandKinds.{blocks_written}
use Rattle.fdp_relocation.proofs.fdp_book.Placing.Nexts.{one-going}
use Rattle.fdp_flash.specs.FlashState.{FlashState}
use Rattle.fdp_loading.proofs.fdp_ledger.Alike.{ledger-alike}
use Rattle.fdp_relocation.proofs.Keeping.{keeps-ticket}
use Rattle.fdp_rules.specs.PlainState.{Going}
use Rattle.fdp_relocation.specs.fdp_trails.Crowded.{IsCrowded}
use Rattle.fdp_units.specs.DataUnits.{is_free}
use Rattle.fdp_units.specs.UnitTable.{HasNoVictim, count_in}
use Rattle.fdp_core.proofs.group.Group.make_room.Goals as goal

crowded-by : (b : BookSeen) (going : Going) (rg : ℕ) → rg ≡ going.rg → WantsUnit b going → (HasNoVictim b.pages.units rg → count_in b.pages.units rg is_free ≤ 2 → IsCrowded b.pages.units b.config (state_in b) rg) → HasNoVictim b.pages.units going.rg → IsCrowded b.pages.units b.config (state_in b) going.rg
crowded-by b going rg same wants law none =
    let few = wants.few in
    subst (λ (k : ℕ). HasNoVictim b.pages.units k → count_in b.pages.units k is_free ≤ 2 → IsCrowded b.pages.units b.config (state_in b) k) same law none (omega (arith, few))

may-begin : (b now : BookSeen) (going : Going) (rg : ℕ) → now ≡ begun b → rg ≡ going.rg → rg < b.config.groups → WantsUnit b going → MayBeginPass now rg
may-begin b now going rg is same low wants = subst (λ (x : BookSeen). MayBeginPass x rg) (sym is) (record {
  group = low;
  room = refl;
  may_move = refl;
  short = subst (λ (k : ℕ). count_in b.pages.units k is_free < 3) (sym same) wants.few;
})

-- how a pass ended, from the group before the step
from-begin : {F : Type 0} (state : F → FlashState) (old new : Seen F) (now : BookSeen) (going : Going) (rg : ℕ) (x : PassEnd) → now ≡ begun old.book → rg ≡ going.rg → EndsPass state (record { book = now; keeper = old.keeper; handed = old.handed; flash = old.flash }) new rg x → EndsPass state (begun_seen old) new going.rg x
from-begin {F} state old new now going rg x is same h =
    subst (λ (k : ℕ). EndsPass state (begun_seen old) new k x) same (subst (λ (b : BookSeen). EndsPass state (record { book = b; keeper = old.keeper; handed = old.handed; flash = old.flash }) new rg x) is h)

pub crowded-requires : goal.crowded-requires
crowded-requires g c =
    let k = c.requires.ticket in
    let is = subst (λ (s : Seen g.row.F.Denot). IsTicketOf (state_in s.book) c.args.ticket k.going) (sym c.self.view_is) k.ticket_is in
    subst (λ (rg : ℕ). rg < c.self.inside.book.config.groups) (sym (c.group-rg.ensures k.going is)) (c.known.ensures.orderly.state.writes c.args.ticket.queue k.going is.going_is).group

pub invariant_of-self : goal.invariant_of-self
invariant_of-self g c =
    let inside = c.self.inside in
    let f = g.F.Flash.state inside.flash in
    subst (λ (b : BookSeen). IsWhole inside.handed f b inside.keeper inside.block.items) (sym c.begin.ensures) (whole-begun inside.handed f inside.book inside.keeper inside.block.items c.self.invariant)

pub make_pass-requires : goal.make_pass-requires
make_pass-requires g c =
    let k = c.requires.ticket in
    let is = subst (λ (s : Seen g.row.F.Denot). IsTicketOf (state_in s.book) c.args.ticket k.going) (sym c.self.view_is) k.ticket_is in
    let wants = subst (λ (s : Seen g.row.F.Denot). WantsUnit s.book k.going) (sym c.self.view_is) (c.requires.wants k.going k.ticket_is) in
    let low = subst (λ (rg : ℕ). rg < c.self.inside.book.config.groups) (sym (c.group-rg.ensures k.going is)) (c.known.ensures.orderly.state.writes c.args.ticket.queue k.going is.going_is).group in
    record { may = may-begin c.self.inside.book c.begin.new.self k.going c.group-rg.result c.begin.ensures (c.group-rg.ensures k.going is) low wants }

pub end-requires-clause-may : goal.end-requires-clause-may
end-requires-clause-may g c going on =
    let inside = c.self.inside in
    let k = c.requires.ticket in
    let old : Seen g.row.F.Denot = record { book = inside.book; keeper = inside.keeper; handed = inside.handed; flash = inside.flash } in
    let is = subst (λ (s : Seen g.row.F.Denot). IsTicketOf (state_in s.book) c.args.ticket k.going) (sym c.self.view_is) k.ticket_is in
    let wants = subst (λ (s : Seen g.row.F.Denot). WantsUnit s.book k.going) (sym c.self.view_is) (c.requires.wants k.going k.ticket_is) in
    let h = from-begin g.F.Flash.state old c.make_pass.new.self c.begin.new.self k.going c.group-rg.result ends.Nothing c.begin.ensures (c.group-rg.ensures k.going is) c.in-Nothing.ensures.step in
    let own = crowded-may g.F.Flash.state old c.make_pass.new.self c.args.ticket k.going wants c.known.ensures.orderly is (crowded-by inside.book k.going c.group-rg.result (c.group-rg.ensures k.going is) wants c.crowded.ensures h.none.gains) h in
    subst (λ (x : Going). MayEnd g.F.Flash.state c.make_pass.new.self x statuses.CAPACITY_EXCEEDED) (one-going (state_in c.make_pass.new.self.book) c.args.ticket k.going going (keeps-ticket (state_in inside.book) (state_in c.make_pass.new.self.book) c.args.ticket k.going h.relocates.kept is) on) own

pub end-requires-in-Starved-clause-may : goal.end-requires-in-Starved-clause-may
end-requires-in-Starved-clause-may g c going on =
    let inside = c.self.inside in
    let k = c.requires.ticket in
    let old : Seen g.row.F.Denot = record { book = inside.book; keeper = inside.keeper; handed = inside.handed; flash = inside.flash } in
    let is = subst (λ (s : Seen g.row.F.Denot). IsTicketOf (state_in s.book) c.args.ticket k.going) (sym c.self.view_is) k.ticket_is in
    let wants = subst (λ (s : Seen g.row.F.Denot). WantsUnit s.book k.going) (sym c.self.view_is) (c.requires.wants k.going k.ticket_is) in
    let h = from-begin g.F.Flash.state old c.make_pass.new.self c.begin.new.self k.going c.group-rg.result ends.Starved c.begin.ensures (c.group-rg.ensures k.going is) c.in-Starved.ensures.step in
    let own = starved-may g.F.Flash.state old c.make_pass.new.self c.args.ticket k.going wants c.known.ensures.orderly is h in
    subst (λ (x : Going). MayEnd g.F.Flash.state c.make_pass.new.self x statuses.CAPACITY_EXCEEDED) (one-going (state_in c.make_pass.new.self.book) c.args.ticket k.going going (keeps-ticket (state_in inside.book) (state_in c.make_pass.new.self.book) c.args.ticket k.going h.relocates.kept is) on) own

pub end-requires-in-Fault-clause-may : goal.end-requires-in-Fault-clause-may
end-requires-in-Fault-clause-may g c going on =
    let inside = c.self.inside in
    let k = c.requires.ticket in
    let old : Seen g.row.F.Denot = record { book = inside.book; keeper = inside.keeper; handed = inside.handed; flash = inside.flash } in
    let is = subst (λ (s : Seen g.row.F.Denot). IsTicketOf (state_in s.book) c.args.ticket k.going) (sym c.self.view_is) k.ticket_is in
    let wants = subst (λ (s : Seen g.row.F.Denot). WantsUnit s.book k.going) (sym c.self.view_is) (c.requires.wants k.going k.ticket_is) in
    let h = from-begin g.F.Flash.state old c.make_pass.new.self c.begin.new.self k.going c.group-rg.result ends.Fault c.begin.ensures (c.group-rg.ensures k.going is) c.in-Fault.ensures.step in
    let own = failed-may g.F.Flash.state old c.make_pass.new.self c.args.ticket k.going wants (g.met.F.Flash.well_formed c.make_pass.new.self.flash) (ledger-alike inside.handed inside.book (begun inside.book) (g.F.Flash.state inside.flash) refl refl refl refl refl c.self.invariant.sound.ledger) h in
    subst (λ (x : Going). MayEnd g.F.Flash.state c.make_pass.new.self x statuses.WRITE_FAULT) (one-going (state_in c.make_pass.new.self.book) c.args.ticket k.going going (keeps-ticket (state_in inside.book) (state_in c.make_pass.new.self.book) c.args.ticket k.going h.relocates.kept is) on) own

pub end-requires-in-Starved-clause-room : goal.end-requires-in-Starved-clause-room
end-requires-in-Starved-clause-room g c = c.in-Starved.ensures.step.room

pub end-requires-in-Fault-clause-room : goal.end-requires-in-Fault-clause-room
end-requires-in-Fault-clause-room g c = c.in-Fault.ensures.step.room

pub returns-in-Made-clause-step : goal.returns-in-Made-clause-step
returns-in-Made-clause-step g c going is =
    let inside = c.self.inside in
    let old : Seen g.row.F.Denot = record { book = inside.book; keeper = inside.keeper; handed = inside.handed; flash = inside.flash } in
    subst (λ (s : Seen g.row.F.Denot). IsTicketOf (state_in s.book) c.args.ticket going → WantsUnit s.book going → 0 < s.book.spare → (PlacesPage g.F.Flash.state s c.make_pass.new.self c.args.ticket going c.args.ticket × (going.placed + 1 < blocks_written going.command)) ⊎ MakesRoom g.F.Flash.state s c.make_pass.new.self c.args.ticket going c.args.ticket) c.self.view_is
    (λ here wants spare.
    let h = from-begin g.F.Flash.state old c.make_pass.new.self c.begin.new.self going c.group-rg.result ends.Made c.begin.ensures (c.group-rg.ensures going here) c.in-Made.ensures.step in
    inr (makes-room g.F.Flash.state old c.make_pass.new.self c.args.ticket going spare wants here h))
    is (c.requires.wants going is) c.requires.spare

pub returns-in-Nothing-clause-step : goal.returns-in-Nothing-clause-step
returns-in-Nothing-clause-step g c going is =
    let inside = c.self.inside in
    let old : Seen g.row.F.Denot = record { book = inside.book; keeper = inside.keeper; handed = inside.handed; flash = inside.flash } in
    subst (λ (s : Seen g.row.F.Denot). IsTicketOf (state_in s.book) c.args.ticket going → WantsUnit s.book going → 0 < s.book.spare → EndsInPlacing g.F.Flash.state s c.end.new.self c.args.ticket going c.end.result) c.self.view_is
    (λ here wants spare.
    let h = from-begin g.F.Flash.state old c.make_pass.new.self c.begin.new.self going c.group-rg.result ends.Nothing c.begin.ensures (c.group-rg.ensures going here) c.in-Nothing.ensures.step in
    inr (inl (ends-crowded g.F.Flash.state old c.make_pass.new.self c.end.new.self c.args.ticket going c.end.result spare wants c.known.ensures.orderly here (crowded-by inside.book going c.group-rg.result (c.group-rg.ensures going here) wants c.crowded.ensures h.none.gains) h (c.end.ensures.step going (keeps-ticket (state_in inside.book) (state_in c.make_pass.new.self.book) c.args.ticket going h.relocates.kept here)))))
    is (c.requires.wants going is) c.requires.spare

pub returns-in-Starved-clause-step : goal.returns-in-Starved-clause-step
returns-in-Starved-clause-step g c going is =
    let inside = c.self.inside in
    let old : Seen g.row.F.Denot = record { book = inside.book; keeper = inside.keeper; handed = inside.handed; flash = inside.flash } in
    subst (λ (s : Seen g.row.F.Denot). IsTicketOf (state_in s.book) c.args.ticket going → WantsUnit s.book going → 0 < s.book.spare → EndsInPlacing g.F.Flash.state s c.end-in-Starved.new.self c.args.ticket going c.end-in-Starved.result) c.self.view_is
    (λ here wants spare.
    let h = from-begin g.F.Flash.state old c.make_pass.new.self c.begin.new.self going c.group-rg.result ends.Starved c.begin.ensures (c.group-rg.ensures going here) c.in-Starved.ensures.step in
    inr (inr (inl (ends-starved g.F.Flash.state old c.make_pass.new.self c.end-in-Starved.new.self c.args.ticket going c.end-in-Starved.result spare wants c.known.ensures.orderly here h (c.end-in-Starved.ensures.step going (keeps-ticket (state_in inside.book) (state_in c.make_pass.new.self.book) c.args.ticket going h.relocates.kept here))))))
    is (c.requires.wants going is) c.requires.spare

pub returns-in-Fault-clause-step : goal.returns-in-Fault-clause-step
returns-in-Fault-clause-step g c going is =
    let inside = c.self.inside in
    let old : Seen g.row.F.Denot = record { book = inside.book; keeper = inside.keeper; handed = inside.handed; flash = inside.flash } in
    subst (λ (s : Seen g.row.F.Denot). IsTicketOf (state_in s.book) c.args.ticket going → WantsUnit s.book going → 0 < s.book.spare → EndsInPlacing g.F.Flash.state s c.end-in-Fault.new.self c.args.ticket going c.end-in-Fault.result) c.self.view_is
    (λ here wants spare.
    let h = from-begin g.F.Flash.state old c.make_pass.new.self c.begin.new.self going c.group-rg.result ends.Fault c.begin.ensures (c.group-rg.ensures going here) c.in-Fault.ensures.step in
    inr (inr (inr (inl (ends-in-pass g.F.Flash.state old c.make_pass.new.self c.end-in-Fault.new.self c.args.ticket going c.end-in-Fault.result spare wants (g.met.F.Flash.well_formed c.make_pass.new.self.flash) h (c.end-in-Fault.ensures.step going (keeps-ticket (state_in inside.book) (state_in c.make_pass.new.self.book) c.args.ticket going h.relocates.kept here)))))))
    is (c.requires.wants going is) c.requires.spare

pub returns-in-Made-clause-stops : goal.returns-in-Made-clause-stops
returns-in-Made-clause-stops g c = outlasts-begun c.self.view_is c.begin.ensures c.self.invariant.kept.safe.at.firm_is c.in-Made.ensures.safe c.in-Made.ensures.stops

pub returns-in-Nothing-clause-stops : goal.returns-in-Nothing-clause-stops
returns-in-Nothing-clause-stops g c =
    outlasts-begun c.self.view_is c.begin.ensures c.self.invariant.kept.safe.at.firm_is c.end.ensures.safe
    (outlasts-before g.F.Flash.state _ c.make_pass.new.self c.end.new.self c.in-Nothing.ensures.stops c.end.ensures.stops c.in-Nothing.ensures.safe c.end.ensures.uses)

pub returns-in-Starved-clause-stops : goal.returns-in-Starved-clause-stops
returns-in-Starved-clause-stops g c =
    outlasts-begun c.self.view_is c.begin.ensures c.self.invariant.kept.safe.at.firm_is c.end-in-Starved.ensures.safe
    (outlasts-before g.F.Flash.state _ c.make_pass.new.self c.end-in-Starved.new.self c.in-Starved.ensures.stops c.end-in-Starved.ensures.stops c.in-Starved.ensures.safe c.end-in-Starved.ensures.uses)

pub returns-in-Fault-clause-stops : goal.returns-in-Fault-clause-stops
returns-in-Fault-clause-stops g c =
    outlasts-begun c.self.view_is c.begin.ensures c.self.invariant.kept.safe.at.firm_is c.end-in-Fault.ensures.safe
    (outlasts-before g.F.Flash.state _ c.make_pass.new.self c.end-in-Fault.new.self c.in-Fault.ensures.stops c.end-in-Fault.ensures.stops c.in-Fault.ensures.safe c.end-in-Fault.ensures.uses)
