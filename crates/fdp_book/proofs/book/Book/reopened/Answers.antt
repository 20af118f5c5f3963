use Rattle.std.proofs.Common.{◌≡◌, ◌^◌, ◌<◌, [], ◌∷◌, ap, arith, false, refl, subst, sym}
use Rattle.fdp_base.specs.declared.config.DriveConfig.{DriveConfig}
use Rattle.fdp_base.specs.declared.entry.Entry.TheVariants as entries
use Rattle.fdp_book.specs.Held.{IsBook}
use Rattle.fdp_book.specs.Logged.{Logged}
use Rattle.fdp_book.specs.Reopened.{cells_found, opening_found}
use Rattle.fdp_book.proofs.Held.Reopened.{book-as, early-found, narrow-found, tables-found, valid-found}
use Rattle.fdp_found.specs.Opened.{AreOpened}
use Rattle.fdp_image.specs.Checkpoint.{reading_of_state}
use Rattle.fdp_origin.specs.Opening.{Opening}
use Rattle.fdp_readings.specs.fdp_pages.PageTables.{PageTables}
use Rattle.fdp_book.proofs.book.Book.reopened.Goals as goal

pub reopened-requires : goal.reopened-requires
reopened-requires g c = early-found c.args.config.now (g.F.Flash.state c.args.flash.now) c.args.state c.args.pages c.requires.config c.joined.ensures c.requires.found

pub invariant_of-result : goal.invariant_of-result
unfolding reading_of_state
invariant_of-result g c =
    let config : DriveConfig = c.args.config.now in
    let opening : Opening = opening_found config (g.F.Flash.state c.args.flash.now) c.args.state c.args.pages in
    let log : Logged = record { entries = entries.Reopened ∷ []; before = c.args.state.summary.totals.position; spare = 0; spent = 0; room = 0; may_move = false; names = config.unit_pages } in
    let generation : c.in_ok-tables.tables.outline.generation ≡ c.args.state.summary.generation = c.in_ok-tables.ensures.generation in
    let narrow : c.args.state.summary.generation < 2 ^ 31 = narrow-found config (g.F.Flash.state c.args.flash.now) c.args.state c.args.pages c.requires.config c.joined.ensures c.requires.found in
    let book : IsBook config opening log c.in_ok-tables.tables = record { held = c.in_ok-tables.ensures.held; before_is = refl; names_are = refl; numbers = record { few = omega (arith, generation, narrow); fewer = λ low. omega (arith, generation, narrow) } } in
    book-as config c.in_ok-copied.field-0 opening _ log _ c.in_ok-tables.tables c.in_ok-copied.ensures c.in_ok-origin.ensures c.in_ok-log.ensures book

pub returns-clause-book : goal.returns-clause-book
returns-clause-book g c =
    let config : DriveConfig = c.args.config.now in
    let log = c.in_ok-log.ensures in
    let origin = c.in_ok-origin.ensures in
    record {
      config_is = c.in_ok-copied.ensures;
      found_is = ap (λ (o : Opening). o.found) origin;
      opened_is = ap (λ (o : Opening). o.cells) origin;
      entries_are = ap (λ (l : Logged). l.entries) log;
      spare_is = ap (λ (l : Logged). l.spare) log;
      spent_is = ap (λ (l : Logged). l.spent) log;
      room_is = ap (λ (l : Logged). l.room) log;
      may_not_move = ap (λ (l : Logged). l.may_move) log;
      pages_are = subst (λ (t : PageTables). AreOpened config (cells_found config (g.F.Flash.state c.args.flash.now) c.args.pages) (reading_of_state c.args.state) t) (sym c.in_ok-tables.ensures.pages)
          (tables-found config (g.F.Flash.state c.args.flash.now) c.args.state c.args.pages c.requires.config c.joined.ensures c.requires.found);
    }

pub returns-clause-valid : goal.returns-clause-valid
returns-clause-valid g c = valid-found c.args.config.now (g.F.Flash.state c.args.flash.now) c.args.state c.args.pages c.requires.config c.joined.ensures c.requires.found
