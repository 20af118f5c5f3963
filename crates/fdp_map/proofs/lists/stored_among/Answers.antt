use Rattle.std.proofs.Common.{◌≡◌, ◌∙◌, ◌+◌, List, Option, ap, arith, sym}
use Rattle.std.specs.Prelude.{option_map}
use Rattle.fdp_map.specs.Counting.{as_number}
use Rattle.fdp_map.specs.declared.mapped.Mapped.{Mapped}
use Rattle.fdp_map.specs.MapTable.{block_in, is_mapped_in}
use Rattle.fdp_map.specs.PageLists.{placed_on, places_of}
use Rattle.fdp_map.proofs.Listing.{block_listed}
use Rattle.fdp_map.proofs.Stored.{byte_is, counting_first, counting_next, holds_in}
use Rattle.fdp_map.proofs.lists.stored_among.Goals as goal

pub loop-i-init : goal.loop-i-init
loop-i-init c = counting_first (places_of c.args.geometry c.args.list.now) c.args.rg c.args.slba

pub loop-i-preserved : goal.loop-i-preserved
loop-i-preserved c =
    let places : List (Option Mapped) = places_of c.args.geometry c.args.list.now in
    let block : option_map (placed_on c.args.geometry) c.page_in.result ≡ block_in places (c.args.slba + c.loop-i.i) = ap (option_map (placed_on c.args.geometry)) c.page_in.ensures ∙ sym (block_listed c.args.geometry c.args.list.now (c.args.slba + c.loop-i.i)) in
    let one : c.from-stored.result ≡ as_number (holds_in places c.args.rg (c.args.slba + c.loop-i.i)) = c.from-stored.ensures ∙ byte_is c.is_in.result ∙ ap as_number c.is_in.ensures ∙ ap (λ (x : Option Mapped). as_number (is_mapped_in c.args.rg x)) block in
    counting_next places c.args.rg c.args.slba c.loop-i.i c.loop-i.stored (c.loop-i.stored + c.from-stored.result) (omega (arith, one)) c.loop-i.invariant
