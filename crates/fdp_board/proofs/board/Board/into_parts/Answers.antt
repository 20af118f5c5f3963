use Rattle.std.proofs.Common.{subst}
use Rattle.fdp_board.specs.Board.{AreCharged, BoardSeen, EmptiedAreTold, IsRoomySince, IsSafeSince, IsUnfailing, StepsAreTold}
use Rattle.fdp_board.proofs.board.Board.into_parts.Goals as goal

pub returns-clause-safe : goal.returns-clause-safe
returns-clause-safe g c =
    subst (λ (b : BoardSeen g.row.F.Denot). IsSafeSince b.group.handed.moment (g.F.Flash.state b.group.flash) b.group.book) c.self.view_is c.self.invariant.safe

pub returns-clause-roomy : goal.returns-clause-roomy
returns-clause-roomy g c =
    subst (λ (b : BoardSeen g.row.F.Denot). IsRoomySince b.group.handed (g.F.Flash.state b.group.flash) b.group.book) c.self.view_is c.self.invariant.roomy

pub returns-clause-charged : goal.returns-clause-charged
returns-clause-charged g c =
    subst (λ (b : BoardSeen g.row.F.Denot). AreCharged b.group.handed.moment (g.F.Flash.state b.group.flash) b.group.book.entries) c.self.view_is c.self.invariant.charged

pub returns-clause-unfailing : goal.returns-clause-unfailing
returns-clause-unfailing g c =
    subst (λ (b : BoardSeen g.row.F.Denot). IsUnfailing b.group.handed (g.F.Flash.state b.group.flash)) c.self.view_is c.self.invariant.unfailing

pub returns-clause-steps : goal.returns-clause-steps
returns-clause-steps g c = subst (λ (b : BoardSeen g.row.F.Denot). StepsAreTold b.group.book) c.self.view_is c.self.invariant.steps

pub returns-clause-emptied : goal.returns-clause-emptied
returns-clause-emptied g c = subst (λ (b : BoardSeen g.row.F.Denot). EmptiedAreTold (g.F.Flash.state b.group.flash) b.group.book) c.self.view_is c.self.invariant.emptied
