use Rattle.std.proofs.Common.{◌≡◌, ◌+◌, ℕ, ap, arith, subst}
use Rattle.fdp_readings.specs.fdp_locations.Taken.{taken_first}
use Rattle.fdp_owners.specs.Owned.{AreOwners}
use Rattle.fdp_owners.specs.OwnerTable.{owner_at}
use Rattle.fdp_pointers.specs.Pointers.{renamed}
use Rattle.std.proofs.lemmas.Option.{slice_get-get_or}
use Rattle.fdp_map.specs.MapTable.{size_in}
use Rattle.fdp_book.proofs.Committing.PutPages.{page-kept, put-cut, put-first, put-may, put-next}
use Rattle.fdp_book.proofs.book.commit.put_pages.Goals as goal

pub loop-index-init : goal.loop-index-init
loop-index-init c = put-first c.args.map.now c.args.pages.now c.args.nsid c.args.slba c.args.map.now.geometry c.args.spots.now c.joined.ensures

pub put_page-requires-clause-lba : goal.put_page-requires-clause-lba
put_page-requires-clause-lba c =
    let size : size_in c.loop-index.map c.args.nsid ≡ size_in c.args.map.now c.args.nsid = ap (λ (f : ℕ → ℕ). f c.args.nsid) c.loop-index.invariant.sizes in
    omega (arith, size, c.requires.range, c.loop-index-test.true)

pub put_page-requires-clause-old : goal.put_page-requires-clause-old
put_page-requires-clause-old c = (put-may c.args.map.now c.loop-index.map c.args.pages.now c.loop-index.pages c.args.nsid c.args.slba c.args.map.now.geometry c.args.spots.now c.loop-index.index _ (slice_get-get_or c.args.spots.now c.loop-index.index _ c.loop-index-test.true) c.requires.pages c.loop-index.invariant).old

pub put_page-requires-clause-new : goal.put_page-requires-clause-new
put_page-requires-clause-new c = (put-may c.args.map.now c.loop-index.map c.args.pages.now c.loop-index.pages c.args.nsid c.args.slba c.args.map.now.geometry c.args.spots.now c.loop-index.index _ (slice_get-get_or c.args.spots.now c.loop-index.index _ c.loop-index-test.true) c.requires.pages c.loop-index.invariant).new

pub put_page-requires-clause-place : goal.put_page-requires-clause-place
put_page-requires-clause-place c = page-kept c.args.map.now c.loop-index.map _ c.loop-index.invariant.geometry_is (c.requires.places c.loop-index.index _ (slice_get-get_or c.args.spots.now c.loop-index.index _ c.loop-index-test.true))

pub loop-index-preserved : goal.loop-index-preserved
loop-index-preserved c =
    put-next c.args.map.now c.loop-index.map c.put_page.new.map c.args.pages.now c.loop-index.pages c.put_page.new.pages c.args.nsid c.args.slba c.args.map.now.geometry c.args.spots.now c.loop-index.index _ (slice_get-get_or c.args.spots.now c.loop-index.index _ c.loop-index-test.true)
    (put-cut c.args.map.now c.loop-index.map _ c.args.nsid (c.args.slba + c.loop-index.index) _ c.loop-index.invariant.geometry_is c.put_page.ensures.blocks) c.put_page.ensures.sizes c.put_page.ensures.geometry c.put_page.ensures.owners c.put_page.ensures.pages c.loop-index.invariant

pub returns-clause-owners : goal.returns-clause-owners
returns-clause-owners c at queue may =
    subst (λ (n : ℕ). AreOwners (owner_at c.loop-index.pages.owners) (renamed (taken_first queue c.args.nsid c.args.slba n) at)) (omega (arith, c.loop-index.auto.index-end, c.loop-index-test.false)) (c.loop-index.invariant.owners at queue may)
