use Rattle.std.proofs.Common.{◌∙◌, ◌+◌, ◌<◌, ℕ, None, ap, length, refl, replicate, subst, sym}
use Rattle.fdp_outline.specs.Outline.{IsWritable}
use Rattle.fdp_snapshot.specs.declared.state.Summary.{Summary}
use Rattle.fdp_book.specs.Saving.{AreSmall}
use Rattle.fdp_book.proofs.Histories.Finding.{index-found, writable-found}
use Rattle.fdp_book.proofs.Held.Reopened.{few-read, generation-opened, held-found, outline-opened}
use Rattle.fdp_book.proofs.book.reopened.found_tables.Goals as goal

pub found_outline-requires-clause-writable : goal.found_outline-requires-clause-writable
found_outline-requires-clause-writable g c = subst IsWritable (sym c.take_map-summary.ensures.summary) (writable-found c.args.config.now c.args.state c.requires.found.goes_on.state)

pub found_outline-requires-clause-index : goal.found_outline-requires-clause-index
found_outline-requires-clause-index g c = subst (λ (y : Summary). y.index < length c.args.config.now.fdp) (sym c.take_map-summary.ensures.summary) (index-found c.args.config.now c.args.state c.requires.found.goes_on.state)

pub found_outline-requires-clause-small : goal.found_outline-requires-clause-small
found_outline-requires-clause-small g c =
    subst (λ (y : Summary). AreSmall y.totals) (sym c.take_map-summary.ensures.summary)
    (few-read c.args.config.now (g.F.Flash.state c.args.flash.now) c.args.state c.args.pages c.requires.config c.joined.ensures c.requires.found)

pub returns-clause-held : goal.returns-clause-held
returns-clause-held g c =
    let took = c.take_map-summary.ensures in
    let config = c.args.config.now in
    let flash = g.F.Flash.state c.args.flash.now in
    let outline = outline-opened config flash c.args.state c.args.pages c.requires.config c.joined.ensures c.requires.found _ c.found_outline.result took.summary c.found_outline.ensures in
    held-found config flash c.args.state c.args.pages c.requires.config c.joined.ensures c.requires.found _ (g.met.F.Flash.well_formed c.args.flash.now) refl outline
    (record {
      map = took.map;
      sizes = took.sizes;
      places = took.places;
      flights = c.in_ok-no_flights.ensures ∙ ap (λ (n : ℕ). replicate (n + 1) None) c.from.ensures;
    })

pub returns-clause-generation : goal.returns-clause-generation
returns-clause-generation g c =
    let config = c.args.config.now in
    let flash = g.F.Flash.state c.args.flash.now in
    generation-opened config flash c.args.state c.args.pages c.requires.config c.joined.ensures c.requires.found c.found_outline.result
    (outline-opened config flash c.args.state c.args.pages c.requires.config c.joined.ensures c.requires.found _ c.found_outline.result c.take_map-summary.ensures.summary c.found_outline.ensures)
