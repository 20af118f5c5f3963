use Rattle.std.proofs.Common.{◌∙◌, ap, arith, length}
use Rattle.fdp_image.specs.Checkpoint.{page_in_lists}
use Rattle.fdp_state.proofs.Editing.{id_above, id_none, id_zero}
use Rattle.fdp_state.proofs.Loadable.{loadable}
use Rattle.fdp_state.proofs.Owning.{before-first, before-last}
use Rattle.fdp_state.proofs.index.owners_of.Goals as goal

pub list_at-requires : goal.list_at-requires
list_at-requires c = ap length c.as_slice.ensures ∙ (loadable c.args.state.now c.requires.state.writable).lists

pub loop-nsid-init : goal.loop-nsid-init
loop-nsid-init c = before-first (page_in_lists c.args.state.now.pages) _ (λ l. id_none 0 id_zero c.args.state.now.pages l) c.in_ok-owners.ensures

pub loop-nsid-preserved : goal.loop-nsid-preserved
loop-nsid-preserved c =
    c.claim_list.ensures (page_in_lists c.args.state.now.pages) (λ l. c.list_at.ensures.rows l ∙ ap (λ lists. page_in_lists lists c.loop-nsid.nsid l) c.as_slice.ensures) c.loop-nsid.invariant

pub returns : goal.returns
returns c =
    before-last (page_in_lists c.args.state.now.pages) c.loop-nsid.owners.items c.loop-nsid.nsid
    (λ n l high. id_none n (id_above n (omega (arith, high))) c.args.state.now.pages l) c.loop-nsid.invariant
