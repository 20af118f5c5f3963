use Rattle.std.proofs.Common.{◌<◌, ◌∙◌, ap, refl, subst, sym, List, arith}
use Rattle.fdp_base.specs.declared.entry.Entry.{Entry}
use Rattle.fdp_base.specs.Placement.{geometry_of}
use Rattle.fdp_book.specs.declared.tables.Tables.{Tables}
use Rattle.fdp_book.specs.Book.{BookSeen, written_in, first_in}
use Rattle.fdp_book.specs.Held.{IsHeld, book_of}
use Rattle.fdp_book.specs.Logged.{Logged}
use Rattle.fdp_book.specs.Relocating.{Relocates, told_by}
use Rattle.fdp_book.proofs.Held.Relocated.{held-step}
use Rattle.fdp_book.proofs.Relocating.Cells.{step-holds}
use Rattle.fdp_book.proofs.Relocating.Steps.{step-follows}
use Rattle.fdp_readings.specs.fdp_collector.Leaving.{StepMayLeave}
use Rattle.fdp_flash.specs.Runs.{Runs}
use Rattle.fdp_readings.specs.fdp_locations.Stored.{HoldsWritten}
use Rattle.fdp_readings.specs.fdp_locations.Written.{written_by}
use Rattle.fdp_readings.proofs.fdp_locations.Owned.{stored-before}
use Rattle.fdp_readings.proofs.fdp_locations.Others.{is-group}
use Rattle.fdp_rules.specs.History.{point_of}
use Rattle.fdp_book.proofs.Numbers.{numbers-told, small-totals}
use Rattle.fdp_book.proofs.book.Book.relocate.Goals as goal
use Rattle.fdp_readings.specs.fdp_locations.Held.{pages_held}

pub advance-step-requires-clause-stored : goal.advance-step-requires-clause-stored
advance-step-requires-clause-stored g c = λ told.
    let old = c.self.inside in
    let b : BookSeen = book_of old.config old.origin old.log old.tables in
    let held : IsHeld old.config old.origin.found (pages_held old.config old.origin.cells) old.log.entries old.tables = c.self.invariant.held in
    let flash = g.F.Flash.state c.args.flash.now in
    stored-before old.config (point_of old.config old.origin.found old.log.entries) (written_in b) held.pages_are.at old.tables.pages flash.geometry flash.cells held.pages_are.led
    (subst (λ (x : BookSeen). HoldsWritten flash.geometry flash.cells (written_in x) x.pages.units) (sym c.self.view_is) (c.requires.stored told))

pub tell-requires-clause-small : goal.tell-requires-clause-small
tell-requires-clause-small g c =
    let old = c.self.inside in
    small-totals old.config old.origin old.log old.tables c.position.result c.self.invariant c.position.ensures.position c.position.ensures.small c.position.ensures.few

pub invariant_of-self : goal.invariant_of-self
invariant_of-self g c =
    let old = c.self.inside in
    let b : BookSeen = book_of old.config old.origin old.log old.tables in
    let held : IsHeld old.config old.origin.found (pages_held old.config old.origin.cells) old.log.entries old.tables = c.self.invariant.held in
    let now : Tables = record old.tables { outline = c.tell.new.outline; pages = c.advance-step.new.self } in
    let low = subst (λ (x : BookSeen). c.args.rg < x.config.groups) (sym c.self.view_is) c.requires.group in
    record {
      held = subst (λ (es : List Entry). IsHeld old.config old.origin.found (pages_held old.config old.origin.cells) es now) (sym c.tell.ensures.entries_are)
          (held-step old.config old.origin.found (pages_held old.config old.origin.cells) old.log.entries old.tables now c.args.rg held c.joined.ensures low refl c.advance-step.ensures.rest
          (is-group old.config _ old.tables.pages c.args.rg held.units_are low) (g.F.Flash.state c.args.flash.now) (g.F.Flash.state c.advance-step.new.flash)
          c.args.may_erase c.advance-step.result
          c.tell.ensures.counts
          c.advance-step.ensures.step);
      before_is = ap (λ (x : Logged). x.before) c.tell.ensures.log_is ∙ c.self.invariant.before_is;
      names_are = ap (λ (x : Logged). x.names) c.tell.ensures.log_is ∙ c.self.invariant.names_are;
      numbers = numbers-told (told_by c.args.rg c.advance-step.result) old.tables.outline now.outline old.log c.tell.new.log c.tell.ensures.counts (ap (λ (x : Logged). x.spent) c.tell.ensures.log_is) (omega (arith, c.tell.ensures.room_is)) c.self.invariant.numbers;
    }

pub returns-clause-step : goal.returns-clause-step
returns-clause-step g c =
    let old = c.self.inside in
    let b : BookSeen = book_of old.config old.origin old.log old.tables in
    let now : Tables = record old.tables { outline = c.tell.new.outline; pages = c.advance-step.new.self } in
    let new : BookSeen = book_of old.config old.origin c.tell.new.log now in
    let held : IsHeld old.config old.origin.found (pages_held old.config old.origin.cells) old.log.entries old.tables = c.self.invariant.held in
    let low = subst (λ (x : BookSeen). c.args.rg < x.config.groups) (sym c.self.view_is) c.requires.group in
    subst (λ (x : BookSeen). Relocates x new (g.F.Flash.state c.args.flash.now) (g.F.Flash.state c.advance-step.new.flash) c.args.rg c.args.may_erase c.advance-step.result) c.self.view_is
    (record {
      is = c.advance-step.ensures.step;
      rest = c.advance-step.ensures.rest;
      longer = record {
        config_is = refl;
        found_is = refl;
        opened_is = refl;
        entries_are = c.tell.ensures.entries_are;
        spare_is = ap (λ (x : Logged). x.spare) c.tell.ensures.log_is;
        spent_is = ap (λ (x : Logged). x.spent) c.tell.ensures.log_is;
        room_is = c.tell.ensures.room_is;
      };
      move_is = ap (λ (x : Logged). x.may_move) c.tell.ensures.log_is;
      follows = step-follows b (first_in b) old.tables c.advance-step.new.self c.args.rg held c.joined.ensures low (g.F.Flash.state c.args.flash.now) (g.F.Flash.state c.advance-step.new.flash) c.args.may_erase c.advance-step.result c.advance-step.ensures.step;
    })

pub returns-clause-run : goal.returns-clause-run
returns-clause-run g c =
    let flash = g.F.Flash.state c.args.flash.now in
    subst (λ (x : BookSeen). Runs flash (g.F.Flash.state c.advance-step.new.flash) (λ m image. StepMayLeave c.args.may_erase flash.geometry x.pages.units x.pages.owners flash.cells image)) c.self.view_is c.advance-step.ensures.run

pub returns-clause-stored : goal.returns-clause-stored
returns-clause-stored g c = λ told.
    let old = c.self.inside in
    let b : BookSeen = book_of old.config old.origin old.log old.tables in
    let held : IsHeld old.config old.origin.found (pages_held old.config old.origin.cells) old.log.entries old.tables = c.self.invariant.held in
    let flash = g.F.Flash.state c.args.flash.now in
    let after = g.F.Flash.state c.advance-step.new.flash in
    let low = subst (λ (x : BookSeen). c.args.rg < x.config.groups) (sym c.self.view_is) c.requires.group in
    subst (λ (es : List Entry). HoldsWritten flash.geometry after.cells (written_by old.config old.origin.found (pages_held old.config old.origin.cells) es) c.advance-step.new.self.units) (sym c.tell.ensures.entries_are)
    (step-holds old.config old.origin.found (pages_held old.config old.origin.cells) old.log.entries old.tables c.advance-step.new.self c.args.rg held c.joined.ensures low flash after
    (c.requires.geometry ∙ ap (λ (x : BookSeen). geometry_of x.config) (sym c.self.view_is)) told
    (subst (λ (x : BookSeen). HoldsWritten flash.geometry flash.cells (written_in x) x.pages.units) (sym c.self.view_is) (c.requires.stored told))
    (c.advance-step.ensures.stored told).blank
    c.args.may_erase c.advance-step.result c.advance-step.ensures.step)
