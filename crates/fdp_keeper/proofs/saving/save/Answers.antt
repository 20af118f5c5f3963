use Rattle.std.proofs.Common.{◌≡◌, ◌∙◌, ◌∷◌, [], IsTrue, List, ap, subst, sym}
use Rattle.fdp_book.specs.Book.{point_in}
use Rattle.fdp_durability.specs.fdp_readings.Drawn.{drawn}
use Rattle.fdp_keeper.proofs.Given.{IsGiven, drawn-pages, given, room-for-record}
use Rattle.fdp_base.specs.declared.entry.Totals.{Totals}
use Rattle.fdp_durability.specs.Durable.{SaysDrawn}
use Rattle.fdp_durability.specs.fdp_checkpoint.Writing.{with_pages}
use Rattle.fdp_durability.proofs.Said.{base-fits}
use Rattle.fdp_records.specs.Borrowed.{change_of}
use Rattle.fdp_records.specs.declared.change.Change.{Change}
use Rattle.fdp_rules.proofs.Pushes.{point_of-push}
use Rattle.fdp_image.proofs.Fitting.{fit_one}
use Rattle.fdp_image.specs.Fits.{all_fit, fits}
use Rattle.fdp_image.specs.Reading.{Reading}
use Rattle.fdp_flash.specs.Runs.{Holds}
use Rattle.fdp_durability.specs.fdp_saving.Said.{ReadsAsOneOf}
use Rattle.fdp_durability.specs.fdp_saving.Saver.{needs_checkpoint}
use Rattle.fdp_durability.specs.fdp_saving.Saving.{IsOfDrive, SayAfterSaving, base_of, within_saved}
use Rattle.fdp_book.specs.Changes.{totals_behind}
use Rattle.fdp_rules.specs.History.{point_of}
use Rattle.fdp_rules.specs.Next.{totals_with}
use Rattle.fdp_keeper.proofs.saving.save.Goals as goal

pub save-requires-clause-state : goal.save-requires-clause-state
save-requires-clause-state g c =
    let b = c.args.book.now in
    let s = c.summary.result.now in
    let lists = c.page_lists.result.now in
    let pages = drawn-pages b.config (point_in b) lists c.known.ensures.config c.page_lists.ensures.rows c.page_lists.ensures.sizes c.page_lists.ensures.blocks c.page_lists.ensures.places in
    let g_ : IsGiven b.config (point_in b) s lists = given b.config (point_in b) s lists c.known.ensures.config c.known.ensures.orderly c.known.ensures.listed c.summary.ensures.outline c.summary.ensures.writable pages in
    g_.state

pub save-requires-clause-room : goal.save-requires-clause-room
save-requires-clause-room g c =
    let b = c.args.book.now in
    let s = c.summary.result.now in
    let lists = c.page_lists.result.now in
    let pages = drawn-pages b.config (point_in b) lists c.known.ensures.config c.page_lists.ensures.rows c.page_lists.ensures.sizes c.page_lists.ensures.blocks c.page_lists.ensures.places in
    let g_ : IsGiven b.config (point_in b) s lists = given b.config (point_in b) s lists c.known.ensures.config c.known.ensures.orderly c.known.ensures.listed c.summary.ensures.outline c.summary.ensures.writable pages in
    room-for-record b.config c.args.saver.now.geometry s c.requires.given.of_drive g_.room

pub returns-clause-saves : goal.returns-clause-saves
unfolding point_of
returns-clause-saves g c e moved is =
    let b = c.args.book.now in
    let s = c.summary.result.now in
    let lists = c.page_lists.result.now in
    let pages = drawn-pages b.config (point_in b) lists c.known.ensures.config c.page_lists.ensures.rows c.page_lists.ensures.sizes c.page_lists.ensures.blocks c.page_lists.ensures.places in
    let g_ : IsGiven b.config (point_in b) s lists = given b.config (point_in b) s lists c.known.ensures.config c.known.ensures.orderly c.known.ensures.listed c.summary.ensures.outline c.summary.ensures.writable pages in
    let is_of : IsOfDrive b.config c.args.saver.now (with_pages s lists) = record { geometry = sym c.requires.given.of_drive; saved = g_.saved } in
    let same : c.totals_behind-totals.result ≡ totals_with (point_in b).totals e =
    c.totals_behind-totals.ensures ∙ ap (λ (t : Totals). totals_behind t (change_of c.args.change)) c.totals.ensures.totals ∙ is.totals in
    let told : Change × Totals = (change_of c.args.change, totals_with (point_in b).totals e) in
    let same_told : (change_of c.args.change, c.totals_behind-totals.result) ∷ [] ≡ told ∷ [] = ap (λ (t : Totals). (change_of c.args.change, t) ∷ []) same in
    let fits-then : (own : Reading) → SaysDrawn b.config (point_in b) c.args.saver.now own → IsTrue (all_fit fits b.config (base_of (needs_checkpoint c.args.saver.now) own (with_pages s lists)) ((change_of c.args.change, c.totals_behind-totals.result) ∷ [])) =
    λ own sure. subst (λ (xs : List (Change × Totals)). IsTrue (all_fit fits b.config (base_of (needs_checkpoint c.args.saver.now) own (with_pages s lists)) xs)) (sym same_told)
    (base-fits b.config (point_in b) c.args.saver.now own (with_pages s lists) told [] g_.drive sure (fit_one fits b.config (drawn b.config (point_in b)) told is.fits)) in
    record {
      given = with_pages s lists;
      first = told;
      rest = [];
      drive = g_.drive;
      is_of = is_of;
      saves = is.saves ∙ ap (drawn b.config) (sym (point_of-push b.config b.found b.entries e));
      saver_is = c.save.ensures.saver;
      stands = c.save.ensures.stands;
      stops = λ own tried say sure. subst (λ (xs : List (Change × Totals)). Holds (ReadsAsOneOf b.config (g.F.Flash.state c.args.flash.now).cells (within_saved b.config (needs_checkpoint c.args.saver.now) own tried (with_pages s lists) xs c.save.result)) (g.F.Flash.state c.args.flash.now) (g.F.Flash.state c.save.new.flash)) same_told (c.save.ensures.stops b.config own tried is_of say (λ told. fits-then own (sure told)));
      said = λ own tried told say sure. subst (λ (xs : List (Change × Totals)). SayAfterSaving b.config c.save.new.self (g.F.Flash.state c.save.new.flash).cells own tried (with_pages s lists) (base_of (needs_checkpoint c.args.saver.now) own (with_pages s lists)) xs c.save.result) same_told (c.save.ensures.said b.config own tried is_of told say (fits-then own sure));
      calls = c.save.ensures.calls;
      ends = c.save.ensures.ends;
    }
