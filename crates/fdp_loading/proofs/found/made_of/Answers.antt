use Rattle.std.proofs.Common.{sym, subst}
use Rattle.fdp_keeper.specs.fdp_book.Reopened.{IsReopened, WasFound, cells_found}
use Rattle.fdp_image.specs.Checkpoint.{reading_of_state}
use Rattle.fdp_image.specs.Valid.{IsValid}
use Rattle.fdp_keeper.specs.fdp_pages.PageTables.{PageTables}
use Rattle.fdp_loading.proofs.found.made_of.Goals as goal

pub returns : goal.returns
returns g c =
    let cfg = c.args.config.now in
    let flash = g.F.Flash.state c.args.flash.now in
    let r = reading_of_state c.args.state in
    let b = c.in_ok-book.book in
    record {
      was = subst (WasFound cfg flash c.args.state) (sym c.in_ok-book.ensures.pages) c.requires.found;
      book = subst (λ (t : PageTables). IsReopened cfg (cells_found cfg flash t) r b) (sym c.in_ok-book.ensures.pages) c.in_ok-book.ensures.book;
      valid = subst (λ (t : PageTables). IsValid cfg (cells_found cfg flash t) r) (sym c.in_ok-book.ensures.pages) c.in_ok-book.ensures.valid;
      order = record {
        known = record {
          config = c.known.ensures.config;
          orderly = c.known.ensures.orderly;
          units = c.known.ensures.units;
          joined = c.known.ensures.joined;
          led = c.known.ensures.led;
          generation = c.known.ensures.generation;
        };
        standing = c.known.ensures.standing;
        listed = c.known.ensures.listed;
      };
      saver_is = c.in_ok-keeper.ensures.saver;
      firm_is = c.in_ok-keeper.ensures.firm;
    }
