use Rattle.std.proofs.Common.{◌<◌, ◌∙◌, ap, length, subst, sym}
use Rattle.fdp_records.specs.Borrowed.{change_of}
use Rattle.fdp_image.specs.Applied.{applied}
use Rattle.fdp_image.specs.Checkpoint.{reading_of_state}
use Rattle.fdp_image.specs.Fits.{names_what_is}
use Rattle.fdp_outline.specs.Outline.{IsOutlineOf, said_by}
use Rattle.fdp_state.specs.declared.parts.Parts.{Parts}
use Rattle.fdp_state.specs.Parts.{reading_of}
use Rattle.fdp_state.proofs.Making.{made-outline, whole_loaded, whole_reading}
use Rattle.fdp_outline.proofs.Naming.{names-said}
use Rattle.fdp_state.proofs.apply.make_whole.Goals as goal

-- the outline before the change is that of what was said
pub apply-requires-clause-index : goal.apply-requires-clause-index
unfolding reading_of_state
apply-requires-clause-index c = subst (λ (p : Parts). p.outline.index < length c.args.config.now.fdp) (sym c.in_ok-put_pages.ensures.made.rest) c.requires.loaded.good.index

pub apply-requires-clause-fit : goal.apply-requires-clause-fit
apply-requires-clause-fit c =
    ap (λ (p : Parts). names_what_is c.args.config.now (said_by p.outline) (change_of c.borrowed-change.result)) c.in_ok-put_pages.ensures.made.rest
    ∙ names-said c.args.config.now (reading_of c.args.parts.now) c.args.parts.now.outline _ c.requires.loaded.outline
    ∙ ap (names_what_is c.args.config.now (reading_of c.args.parts.now)) c.borrowed-change.ensures
    ∙ c.requires.fit

pub returns-clause-applied : goal.returns-clause-applied
returns-clause-applied c =
    let r = reading_of c.args.parts.now in
    let outline : IsOutlineOf c.args.config.now (applied c.args.config.now r (c.args.change.now, c.args.totals)) c.apply.new.self =
    made-outline c.args.config.now r c.args.parts.now.outline c.put_pages.new.parts.outline c.apply.new.self _ c.args.change.now c.args.totals _ _ (ap (λ (p : Parts). p.outline) c.in_ok-put_pages.ensures.made.rest) c.borrowed-change.ensures c.as_slice.ensures.value c.requires.loaded.outline c.in_ok-moved.ensures (c.apply.ensures.outline r) in
    whole_reading c.args.config.now c.args.parts.now c.put_pages.new.parts c.apply.new.self c.args.change.now c.args.totals c.in_ok-put_pages.ensures.made outline c.apply.ensures.totals

pub returns-clause-loaded : goal.returns-clause-loaded
returns-clause-loaded c =
    let r = reading_of c.args.parts.now in
    let outline : IsOutlineOf c.args.config.now (applied c.args.config.now r (c.args.change.now, c.args.totals)) c.apply.new.self =
    made-outline c.args.config.now r c.args.parts.now.outline c.put_pages.new.parts.outline c.apply.new.self _ c.args.change.now c.args.totals _ _ (ap (λ (p : Parts). p.outline) c.in_ok-put_pages.ensures.made.rest) c.borrowed-change.ensures c.as_slice.ensures.value c.requires.loaded.outline c.in_ok-moved.ensures (c.apply.ensures.outline r) in
    whole_loaded c.args.config.now c.args.parts.now c.put_pages.new.parts c.apply.new.self c.args.change.now c.args.totals c.in_ok-put_pages.ensures.made outline c.apply.ensures.totals c.requires.loaded c.requires.born c.requires.fit
