use Rattle.std.proofs.Common.{sym, subst}
use Rattle.fdp_core.specs.Seen.{Seen}
use Rattle.fdp_core.proofs.Saves.{SavesTicket, ticket-saved}
use Rattle.fdp_relocation.specs.fdp_keeper.Keeper.{CanSave}
use Rattle.fdp_relocation.specs.fdp_saving.declared.saved.Saved.TheVariants as savings
use Rattle.fdp_core.proofs.group.Group.save_write.Given.{Over}
use Rattle.fdp_core.proofs.group.Group.save_write.Goals as goal

pub save_write-saved-requires-clause-can : goal.save_write-saved-requires-clause-can
save_write-saved-requires-clause-can g c = subst (λ (s : Seen g.row.F.Denot). CanSave s.book s.keeper (g.F.Flash.state s.flash)) (sym c.self.view_is) c.can_save.ensures.can

-- ---- it was saved

saved-Done : (g : Over) (c : goal.After-known g) → SavesTicket g.F.Flash.state c.self.inside.flash c.save_write-saved.new.flash c.self.inside.handed c.self.inside.book c.commit-done.new.self c.self.inside.keeper c.save_write-saved.new.self c.self.inside.block.items c.args.self.now c.args.ticket savings.Done c.commit-done.result
saved-Done g c = record {
  view_is = c.self.view_is;
  order = c.can_save.ensures.order;
  then_order = record { known = record { config = c.known.ensures.config; orderly = c.known.ensures.orderly; units = c.known.ensures.units; joined = c.known.ensures.joined; led = c.known.ensures.led; generation = c.known.ensures.generation }; standing = c.known.ensures.standing; listed = c.known.ensures.listed };
  whole = c.self.invariant;
  may = c.requires.may;
  keeps = c.in-Done.ensures;
  now = c.begin.new.self;
  now_is = c.begin.ensures;
  moment = c.moment-moment.result;
  moment_is = c.moment-moment.ensures;
  ends = c.commit-done.ensures.step;
  pages = c.commit-done.ensures.pages;
}

pub invariant_of-self : goal.invariant_of-self
invariant_of-self g c = (ticket-saved savings.Done (saved-Done g c) c.requires.ticket.going c.requires.ticket.ticket_is).0

pub returns-in-Done-clause-step : goal.returns-in-Done-clause-step
returns-in-Done-clause-step g c going is = (ticket-saved savings.Done (saved-Done g c) going is).2 c.requires.spare

pub returns-in-Done-clause-stops : goal.returns-in-Done-clause-stops
returns-in-Done-clause-stops g c = (ticket-saved savings.Done (saved-Done g c) c.requires.ticket.going c.requires.ticket.ticket_is).1

-- ---- the program of its record failed

saved-Doubtful : (g : Over) (c : goal.After-known-in-Doubtful g) → SavesTicket g.F.Flash.state c.self.inside.flash c.save_write-saved.new.flash c.self.inside.handed c.self.inside.book c.commit-done-in-Doubtful.new.self c.self.inside.keeper c.save_write-saved.new.self c.self.inside.block.items c.args.self.now c.args.ticket (savings.Doubtful c.in-Doubtful.moment) c.commit-done-in-Doubtful.result
saved-Doubtful g c = record {
  view_is = c.self.view_is;
  order = c.can_save.ensures.order;
  then_order = record { known = record { config = c.known-in-Doubtful.ensures.config; orderly = c.known-in-Doubtful.ensures.orderly; units = c.known-in-Doubtful.ensures.units; joined = c.known-in-Doubtful.ensures.joined; led = c.known-in-Doubtful.ensures.led; generation = c.known-in-Doubtful.ensures.generation }; standing = c.known-in-Doubtful.ensures.standing; listed = c.known-in-Doubtful.ensures.listed };
  whole = c.self.invariant;
  may = c.requires.may;
  keeps = c.in-Doubtful.ensures;
  now = c.begin.new.self;
  now_is = c.begin.ensures;
  moment = c.moment-moment.result;
  moment_is = c.moment-moment.ensures;
  ends = c.commit-done-in-Doubtful.ensures.step;
  pages = c.commit-done-in-Doubtful.ensures.pages;
}

pub invariant_of-self-in-Doubtful : goal.invariant_of-self-in-Doubtful
invariant_of-self-in-Doubtful g c = (ticket-saved (savings.Doubtful c.in-Doubtful.moment) (saved-Doubtful g c) c.requires.ticket.going c.requires.ticket.ticket_is).0

pub returns-in-Doubtful-clause-step : goal.returns-in-Doubtful-clause-step
returns-in-Doubtful-clause-step g c going is = (ticket-saved (savings.Doubtful c.in-Doubtful.moment) (saved-Doubtful g c) going is).2 c.requires.spare

pub returns-in-Doubtful-clause-stops : goal.returns-in-Doubtful-clause-stops
returns-in-Doubtful-clause-stops g c = (ticket-saved (savings.Doubtful c.in-Doubtful.moment) (saved-Doubtful g c) c.requires.ticket.going c.requires.ticket.ticket_is).1

-- ---- it was not saved, and is not made

saved-Unsaved : (g : Over) (c : goal.After-known-in-Unsaved g) → SavesTicket g.F.Flash.state c.self.inside.flash c.save_write-saved.new.flash c.self.inside.handed c.self.inside.book c.end-done.new.self c.self.inside.keeper c.save_write-saved.new.self c.self.inside.block.items c.args.self.now c.args.ticket (savings.Unsaved c.in-Unsaved.moment) c.end-done.result
saved-Unsaved g c = record {
  view_is = c.self.view_is;
  order = c.can_save.ensures.order;
  then_order = record { known = record { config = c.known-in-Unsaved.ensures.config; orderly = c.known-in-Unsaved.ensures.orderly; units = c.known-in-Unsaved.ensures.units; joined = c.known-in-Unsaved.ensures.joined; led = c.known-in-Unsaved.ensures.led; generation = c.known-in-Unsaved.ensures.generation }; standing = c.known-in-Unsaved.ensures.standing; listed = c.known-in-Unsaved.ensures.listed };
  whole = c.self.invariant;
  may = c.requires.may;
  keeps = c.in-Unsaved.ensures;
  now = c.begin.new.self;
  now_is = c.begin.ensures;
  moment = c.moment-moment.result;
  moment_is = c.moment-moment.ensures;
  ends = c.end-done.ensures.step;
  pages = c.end-done.ensures.pages;
}

pub invariant_of-self-in-Unsaved : goal.invariant_of-self-in-Unsaved
invariant_of-self-in-Unsaved g c = (ticket-saved (savings.Unsaved c.in-Unsaved.moment) (saved-Unsaved g c) c.requires.ticket.going c.requires.ticket.ticket_is).0

pub returns-in-Unsaved-clause-step : goal.returns-in-Unsaved-clause-step
returns-in-Unsaved-clause-step g c going is = (ticket-saved (savings.Unsaved c.in-Unsaved.moment) (saved-Unsaved g c) going is).2 c.requires.spare

pub returns-in-Unsaved-clause-stops : goal.returns-in-Unsaved-clause-stops
returns-in-Unsaved-clause-stops g c = (ticket-saved (savings.Unsaved c.in-Unsaved.moment) (saved-Unsaved g c) c.requires.ticket.going c.requires.ticket.ticket_is).1
