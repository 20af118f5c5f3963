use Rattle.std.proofs.Common.{sym}
use Rattle.fdp_book.specs.Book.{point_in}
use Rattle.fdp_keeper.proofs.Given.{IsGiven, drawn-pages, given, room-for-seal}
use Rattle.fdp_durability.specs.fdp_checkpoint.Writing.{with_pages}
use Rattle.fdp_durability.specs.fdp_saving.Saving.{IsOfDrive}
use Rattle.fdp_keeper.proofs.saving.settle.Goals as goal

pub settle-requires-clause-state : goal.settle-requires-clause-state
settle-requires-clause-state g c =
    let b = c.args.book.now in
    let s = c.summary.result.now in
    let lists = c.page_lists.result.now in
    let pages = drawn-pages b.config (point_in b) lists c.known.ensures.config c.page_lists.ensures.rows c.page_lists.ensures.sizes c.page_lists.ensures.blocks c.page_lists.ensures.places in
    let g_ : IsGiven b.config (point_in b) s lists = given b.config (point_in b) s lists c.known.ensures.config c.known.ensures.orderly c.known.ensures.listed c.summary.ensures.outline c.summary.ensures.writable pages in
    g_.state

pub settle-requires-clause-room : goal.settle-requires-clause-room
settle-requires-clause-room g c =
    let b = c.args.book.now in
    let s = c.summary.result.now in
    let lists = c.page_lists.result.now in
    let pages = drawn-pages b.config (point_in b) lists c.known.ensures.config c.page_lists.ensures.rows c.page_lists.ensures.sizes c.page_lists.ensures.blocks c.page_lists.ensures.places in
    let g_ : IsGiven b.config (point_in b) s lists = given b.config (point_in b) s lists c.known.ensures.config c.known.ensures.orderly c.known.ensures.listed c.summary.ensures.outline c.summary.ensures.writable pages in
    room-for-seal b.config c.args.saver.now.geometry s c.requires.of_drive g_.room

pub returns-clause-saves : goal.returns-clause-saves
returns-clause-saves g c =
    let b = c.args.book.now in
    let s = c.summary.result.now in
    let lists = c.page_lists.result.now in
    let pages = drawn-pages b.config (point_in b) lists c.known.ensures.config c.page_lists.ensures.rows c.page_lists.ensures.sizes c.page_lists.ensures.blocks c.page_lists.ensures.places in
    let g_ : IsGiven b.config (point_in b) s lists = given b.config (point_in b) s lists c.known.ensures.config c.known.ensures.orderly c.known.ensures.listed c.summary.ensures.outline c.summary.ensures.writable pages in
    let is_of : IsOfDrive b.config c.args.saver.now (with_pages s lists) = record { geometry = sym c.requires.of_drive; saved = g_.saved } in
    record {
      given = with_pages s lists;
      drive = g_.drive;
      is_of = is_of;
      sure = c.settle.ensures.sure;
      saver_is = c.settle.ensures.saver;
      stands = c.settle.ensures.stands;
      stops = λ own tried say. c.settle.ensures.stops b.config own tried is_of say;
      said = λ own tried told say. c.settle.ensures.said b.config own tried is_of told say;
      calls = c.settle.ensures.calls;
      ends = c.settle.ensures.ends;
    }
