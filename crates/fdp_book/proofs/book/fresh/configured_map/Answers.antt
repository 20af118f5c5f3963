use Rattle.std.proofs.Common.{◌≡◌, ◌+◌, ◌≤◌, ◌∙◌, ◌<◌, List, arith, ap, get_or, length, subst, sym, take}
use Rattle.std.proofs.lemmas.List.{take_all}
use Rattle.fdp_base.specs.declared.config.NamespaceConfig.{NamespaceConfig}
use Rattle.fdp_base.specs.Placement.{geometry_of}
use Rattle.fdp_book.specs.Configured.{namespaces_from, size_of_some}
use Rattle.fdp_book.proofs.Histories.Configuring.{blocks-few, roomy-next, unlisted}
use Rattle.fdp_book.proofs.book.fresh.configured_map.Goals as goal

pub loop-place-init : goal.loop-place-init
loop-place-init c = record {
  geometry = c.in_ok-map.ensures.geometry ∙ c.geometry.ensures.value;
  sizes = c.in_ok-map.ensures.sizes;
  most = λ nsid. omega (arith, c.in_ok-map.ensures.sizes nsid);
  absent = c.in_ok-map.ensures.blocks;
}

pub add-requires-clause-size : goal.add-requires-clause-size
add-requires-clause-size c =
    let made = c.args.config.now.namespaces in
    let place = c.loop-place.place in
    let namespace = c.index-namespaces-place.result in
    let below : place < length made = omega (arith, c.loop-place-test.true, ap length c.as_slice-namespaces.ensures) in
    subst (λ (xs : List NamespaceConfig). (get_or xs place namespace).blocks ≤ 262144) (sym c.as_slice-namespaces.ensures) (blocks-few c.args.config.now c.requires place namespace below)

pub add-requires-clause-absent : goal.add-requires-clause-absent
add-requires-clause-absent c =
    let place = c.loop-place.place in
    c.loop-place.invariant.sizes (place + 1) ∙ ap size_of_some (unlisted c.args.config.now.namespaces 1 place (place + 1) (omega arith))

pub loop-place-preserved : goal.loop-place-preserved
loop-place-preserved c =
    let made = c.args.config.now.namespaces in
    let place = c.loop-place.place in
    let namespace = c.index-namespaces-place.result in
    let below : place < length made = omega (arith, c.loop-place-test.true, ap length c.as_slice-namespaces.ensures) in
    let is : (get_or c.as_slice-namespaces.result.now place namespace).blocks ≡ (get_or made place namespace).blocks = ap (λ (xs : List NamespaceConfig). (get_or xs place namespace).blocks) c.as_slice-namespaces.ensures in
    roomy-next (geometry_of c.args.config.now) made place c.loop-place.map c.add.new.self _ namespace below is (subst (λ (xs : List NamespaceConfig). (get_or xs place namespace).blocks ≤ 262144) (sym c.as_slice-namespaces.ensures) (blocks-few c.args.config.now c.requires place namespace below)) c.in_ok-add.ensures.sizes c.in_ok-add.ensures.blocks c.add.ensures.geometry c.loop-place.invariant

pub returns : goal.returns
returns c =
    let made = c.args.config.now.namespaces in
    let all : take c.loop-place.place made ≡ made = take_all c.loop-place.place made (omega (arith, c.loop-place-test.false, ap length c.as_slice-namespaces.ensures)) in
    record {
      geometry = c.loop-place.invariant.geometry;
      sizes = λ nsid. c.loop-place.invariant.sizes nsid ∙ ap (λ (xs : List NamespaceConfig). size_of_some (namespaces_from 1 xs nsid)) all;
      most = c.loop-place.invariant.most;
      absent = c.loop-place.invariant.absent;
    }
