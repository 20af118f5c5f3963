use Rattle.std.proofs.Common.{[], sym, subst}
use Rattle.fdp_base.specs.declared.entry.Reply.{Reply}
use Rattle.fdp_relocation.specs.fdp_book.Steps as book
use Rattle.fdp_core.specs.Seen.{Seen}
use Rattle.fdp_core.proofs.Commanded.{SavesCommand, command-saved}
use Rattle.fdp_relocation.specs.fdp_keeper.Keeper.{CanSave}
use Rattle.fdp_relocation.specs.fdp_saving.declared.saved.Saved.TheVariants as savings
use Rattle.fdp_core.proofs.group.Group.change.Given.{Over}
use Rattle.fdp_core.proofs.group.Group.change.Goals as goal

pub save_command-saved-requires-clause-can : goal.save_command-saved-requires-clause-can
save_command-saved-requires-clause-can g c = subst (λ (s : Seen g.row.F.Denot). CanSave s.book s.keeper (g.F.Flash.state s.flash)) (sym c.self.view_is) c.can_save.ensures.can

-- ---- it was saved

saved-Done : (g : Over) (c : goal.After-known g) → SavesCommand g.F.Flash.state c.self.inside.flash c.save_command-saved.new.flash c.self.inside.handed c.self.inside.book c.apply-done.new.self c.self.inside.keeper c.save_command-saved.new.self c.self.inside.block.items c.args.self.now c.args.queue c.args.number c.args.command savings.Done c.apply-done.result
saved-Done g c = record {
  view_is = c.self.view_is;
  order = c.can_save.ensures.order;
  then_order = record { known = record { config = c.known.ensures.config; orderly = c.known.ensures.orderly; units = c.known.ensures.units; joined = c.known.ensures.joined; led = c.known.ensures.led; generation = c.known.ensures.generation }; standing = c.known.ensures.standing; listed = c.known.ensures.listed };
  whole = c.self.invariant;
  may = c.requires.may;
  keeps = c.in-Done.ensures c.args.queue c.args.number;
  now = c.begin.new.self;
  now_is = c.begin.ensures;
  moment = c.moment-moment.result;
  moment_is = c.moment-moment.ensures;
  ends = c.apply-done.ensures.step;
  pages = c.apply-done.ensures.pages;
}

pub invariant_of-self : goal.invariant_of-self
invariant_of-self g c = (command-saved savings.Done (saved-Done g c)).0

pub returns-in-Done-clause-step : goal.returns-in-Done-clause-step
returns-in-Done-clause-step g c = (command-saved savings.Done (saved-Done g c)).2 c.requires.spare

pub returns-in-Done-clause-stops : goal.returns-in-Done-clause-stops
returns-in-Done-clause-stops g c = (command-saved savings.Done (saved-Done g c)).1

-- ---- the program of its record failed

saved-Doubtful : (g : Over) (c : goal.After-known-in-Doubtful g) → SavesCommand g.F.Flash.state c.self.inside.flash c.save_command-saved.new.flash c.self.inside.handed c.self.inside.book c.apply-done-in-Doubtful.new.self c.self.inside.keeper c.save_command-saved.new.self c.self.inside.block.items c.args.self.now c.args.queue c.args.number c.args.command (savings.Doubtful c.in-Doubtful.moment) c.apply-done-in-Doubtful.result
saved-Doubtful g c = record {
  view_is = c.self.view_is;
  order = c.can_save.ensures.order;
  then_order = record { known = record { config = c.known-in-Doubtful.ensures.config; orderly = c.known-in-Doubtful.ensures.orderly; units = c.known-in-Doubtful.ensures.units; joined = c.known-in-Doubtful.ensures.joined; led = c.known-in-Doubtful.ensures.led; generation = c.known-in-Doubtful.ensures.generation }; standing = c.known-in-Doubtful.ensures.standing; listed = c.known-in-Doubtful.ensures.listed };
  whole = c.self.invariant;
  may = c.requires.may;
  keeps = c.in-Doubtful.ensures c.args.queue c.args.number;
  now = c.begin.new.self;
  now_is = c.begin.ensures;
  moment = c.moment-moment.result;
  moment_is = c.moment-moment.ensures;
  ends = c.apply-done-in-Doubtful.ensures.step;
  pages = c.apply-done-in-Doubtful.ensures.pages;
}

pub invariant_of-self-in-Doubtful : goal.invariant_of-self-in-Doubtful
invariant_of-self-in-Doubtful g c = (command-saved (savings.Doubtful c.in-Doubtful.moment) (saved-Doubtful g c)).0

pub returns-in-Doubtful-clause-step : goal.returns-in-Doubtful-clause-step
returns-in-Doubtful-clause-step g c = (command-saved (savings.Doubtful c.in-Doubtful.moment) (saved-Doubtful g c)).2 c.requires.spare

pub returns-in-Doubtful-clause-stops : goal.returns-in-Doubtful-clause-stops
returns-in-Doubtful-clause-stops g c = (command-saved (savings.Doubtful c.in-Doubtful.moment) (saved-Doubtful g c)).1

-- ---- it was not saved, and is not made

saved-Unsaved : (g : Over) (c : goal.After-known-in-Unsaved g) → SavesCommand g.F.Flash.state c.self.inside.flash c.save_command-saved.new.flash c.self.inside.handed c.self.inside.book c.complete-done.new.self c.self.inside.keeper c.save_command-saved.new.self c.self.inside.block.items c.args.self.now c.args.queue c.args.number c.args.command (savings.Unsaved c.in-Unsaved.moment) c.complete-done.result
saved-Unsaved g c = record {
  view_is = c.self.view_is;
  order = c.can_save.ensures.order;
  then_order = record { known = record { config = c.known-in-Unsaved.ensures.config; orderly = c.known-in-Unsaved.ensures.orderly; units = c.known-in-Unsaved.ensures.units; joined = c.known-in-Unsaved.ensures.joined; led = c.known-in-Unsaved.ensures.led; generation = c.known-in-Unsaved.ensures.generation }; standing = c.known-in-Unsaved.ensures.standing; listed = c.known-in-Unsaved.ensures.listed };
  whole = c.self.invariant;
  may = c.requires.may;
  keeps = c.in-Unsaved.ensures c.args.queue c.args.number;
  now = c.begin.new.self;
  now_is = c.begin.ensures;
  moment = c.moment-moment.result;
  moment_is = c.moment-moment.ensures;
  ends = subst (λ (r : Reply). book.Completes c.begin.new.self c.complete-done.new.self [] c.args.queue c.args.number c.args.command r c.moment-moment.result c.complete-done.result) c.end-replies.ensures.reply.history_is c.complete-done.ensures.step;
  pages = c.complete-done.ensures.pages;
}

pub invariant_of-self-in-Unsaved : goal.invariant_of-self-in-Unsaved
invariant_of-self-in-Unsaved g c = (command-saved (savings.Unsaved c.in-Unsaved.moment) (saved-Unsaved g c)).0

pub returns-in-Unsaved-clause-step : goal.returns-in-Unsaved-clause-step
returns-in-Unsaved-clause-step g c = (command-saved (savings.Unsaved c.in-Unsaved.moment) (saved-Unsaved g c)).2 c.requires.spare

pub returns-in-Unsaved-clause-stops : goal.returns-in-Unsaved-clause-stops
returns-in-Unsaved-clause-stops g c = (command-saved (savings.Unsaved c.in-Unsaved.moment) (saved-Unsaved g c)).1
