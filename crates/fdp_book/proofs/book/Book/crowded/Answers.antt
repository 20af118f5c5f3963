use Rattle.std.proofs.Common.{◌≤◌, ◌<◌, subst, sym}
use Rattle.fdp_book.specs.Book.{BookSeen, point_in, state_in, written_in}
use Rattle.fdp_book.specs.Held.{book_of}
use Rattle.fdp_book.proofs.Crowding.{crowded}
use Rattle.fdp_readings.specs.fdp_trails.Crowded.{IsCrowded}
use Rattle.fdp_units.specs.DataUnits.{is_free}
use Rattle.fdp_units.specs.UnitTable.{HasNoVictim, count_in}
use Rattle.fdp_book.proofs.book.Book.crowded.Goals as goal

pub returns : goal.returns
returns c =
    let old = c.self.inside in
    let b : BookSeen = book_of old.config old.origin old.log old.tables in
    let held = c.self.invariant.held in
    subst (λ (x : BookSeen). HasNoVictim x.pages.units c.args.rg → count_in x.pages.units c.args.rg is_free ≤ 2 → IsCrowded x.pages.units x.config (state_in x) c.args.rg) c.self.view_is
    (crowded old.config (point_in b) (written_in b) old.tables.map old.tables.flights.items old.tables.pages c.args.rg held.orderly.state held.standing held.units_are c.joined.ensures held.pages_are
    (subst (λ (x : BookSeen). c.args.rg < x.config.groups) (sym c.self.view_is) c.requires))
