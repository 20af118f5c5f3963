use Rattle.std.proofs.Common.{◌<◌, sym, subst}
use Rattle.fdp_relocation.specs.fdp_book.Book.{BookSeen}
use Rattle.fdp_core.specs.Answers.{FailsToSave, SavesAll}
use Rattle.fdp_core.specs.Seen.{Seen}
use Rattle.fdp_core.specs.Sound.{IsWhole}
use Rattle.fdp_core.specs.Stops.{OutlastsStops}
use Rattle.fdp_core.proofs.Checkpoints.{fails-to-save, saves-all, unwritten-stops, unwritten-whole, written-stops, written-whole}
use Rattle.fdp_relocation.specs.fdp_keeper.Keeper.{CanSave}
use Rattle.fdp_loading.specs.fdp_survival.Books.{IsInOrder}
use Rattle.fdp_core.proofs.group.Group.checkpoint.Goals as goal

pub checkpoint-requires : goal.checkpoint-requires
checkpoint-requires g c = subst (λ (s : Seen g.row.F.Denot). CanSave s.book s.keeper (g.F.Flash.state s.flash)) (sym c.self.view_is) c.can_save.ensures.can

pub invariant_of-self : goal.invariant_of-self
invariant_of-self g c =
    subst (λ (b : BookSeen). IsWhole c.self.inside.handed (g.F.Flash.state c.checkpoint.new.flash) b c.checkpoint.new.self c.self.inside.block.items) (sym c.begin.ensures)
    (written-whole g.F.Flash.state c.self.inside.flash c.checkpoint.new.flash c.self.inside.handed c.self.inside.book c.self.inside.keeper c.checkpoint.new.self c.self.inside.block.items (subst (λ (s : Seen g.row.F.Denot). IsInOrder s.book) (sym c.self.view_is) c.can_save.ensures.order) c.self.invariant c.in-Done.ensures)

pub returns-in-Done-clause-step : goal.returns-in-Done-clause-step
returns-in-Done-clause-step g c =
    let new : BookSeen → Seen g.row.F.Denot = λ b. record { book = b; keeper = c.checkpoint.new.self; handed = c.self.inside.handed; flash = c.checkpoint.new.flash } in
    subst (λ (s : Seen g.row.F.Denot). 0 < s.book.spare → SavesAll g.F.Flash.state s (new c.begin.new.self)) c.self.view_is
    (subst (λ (b : BookSeen). 0 < c.self.inside.book.spare → SavesAll g.F.Flash.state (record { book = c.self.inside.book; keeper = c.self.inside.keeper; handed = c.self.inside.handed; flash = c.self.inside.flash }) (new b)) (sym c.begin.ensures)
    (saves-all g.F.Flash.state c.self.inside.flash c.checkpoint.new.flash c.self.inside.handed c.self.inside.book c.self.inside.keeper c.checkpoint.new.self c.self.inside.block.items (subst (λ (s : Seen g.row.F.Denot). IsInOrder s.book) (sym c.self.view_is) c.can_save.ensures.order) c.self.invariant c.in-Done.ensures))
    c.requires.spare

pub returns-in-Done-clause-stops : goal.returns-in-Done-clause-stops
returns-in-Done-clause-stops g c =
    let new : BookSeen → Seen g.row.F.Denot = λ b. record { book = b; keeper = c.checkpoint.new.self; handed = c.self.inside.handed; flash = c.checkpoint.new.flash } in
    subst (λ (s : Seen g.row.F.Denot). OutlastsStops g.F.Flash.state s (new c.begin.new.self)) c.self.view_is
    (subst (λ (b : BookSeen). OutlastsStops g.F.Flash.state (record { book = c.self.inside.book; keeper = c.self.inside.keeper; handed = c.self.inside.handed; flash = c.self.inside.flash }) (new b)) (sym c.begin.ensures)
    (written-stops g.F.Flash.state c.self.inside.flash c.checkpoint.new.flash c.self.inside.handed c.self.inside.book c.self.inside.keeper c.checkpoint.new.self c.self.inside.block.items (subst (λ (s : Seen g.row.F.Denot). IsInOrder s.book) (sym c.self.view_is) c.can_save.ensures.order) c.self.invariant c.in-Done.ensures))

pub invariant_of-self-in-Failed : goal.invariant_of-self-in-Failed
invariant_of-self-in-Failed g c = unwritten-whole g.F.Flash.state c.self.inside.flash c.checkpoint.new.flash c.self.inside.handed c.self.inside.book c.self.inside.keeper c.checkpoint.new.self c.self.inside.block.items (subst (λ (s : Seen g.row.F.Denot). IsInOrder s.book) (sym c.self.view_is) c.can_save.ensures.order) c.self.invariant c.in-Failed.ensures

pub returns-in-Failed-clause-step : goal.returns-in-Failed-clause-step
returns-in-Failed-clause-step g c =
    subst (λ (s : Seen g.row.F.Denot). FailsToSave g.F.Flash.state s (record { book = c.self.inside.book; keeper = c.checkpoint.new.self; handed = c.self.inside.handed; flash = c.checkpoint.new.flash })) c.self.view_is
    (fails-to-save g.F.Flash.state c.self.inside.flash c.checkpoint.new.flash c.self.inside.handed c.self.inside.book c.self.inside.keeper c.checkpoint.new.self c.self.inside.block.items (subst (λ (s : Seen g.row.F.Denot). IsInOrder s.book) (sym c.self.view_is) c.can_save.ensures.order) c.self.invariant c.in-Failed.ensures)

pub returns-in-Failed-clause-stops : goal.returns-in-Failed-clause-stops
returns-in-Failed-clause-stops g c =
    subst (λ (s : Seen g.row.F.Denot). OutlastsStops g.F.Flash.state s (record { book = c.self.inside.book; keeper = c.checkpoint.new.self; handed = c.self.inside.handed; flash = c.checkpoint.new.flash })) c.self.view_is
    (unwritten-stops g.F.Flash.state c.self.inside.flash c.checkpoint.new.flash c.self.inside.handed c.self.inside.book c.self.inside.keeper c.checkpoint.new.self c.self.inside.block.items (subst (λ (s : Seen g.row.F.Denot). IsInOrder s.book) (sym c.self.view_is) c.can_save.ensures.order) c.self.invariant c.in-Failed.ensures)
