use Rattle.std.proofs.Common.{◌≡◌, ◌∙◌, ◌+◌, ◌<◌, List, [], Option, Some, ap, arith, length, set, subst, take}
use Rattle.std.proofs.Math.ListN.{length-set}
use Rattle.std.proofs.lemmas.List.{take_all}
use Rattle.std.specs.Prelude.{option_map, true, unwrap_or}
use Rattle.fdp_base.specs.declared.config.NamespaceConfig.{NamespaceConfig}
use Rattle.fdp_tables.specs.declared.state.Space.{Space}
use Rattle.fdp_tables.specs.Spaces.{IsMade, block_in}
use Rattle.fdp_tables.specs.State.{namespace_of, row}
use Rattle.fdp_tables.proofs.First.{from_on, laying_next}
use Rattle.fdp_tables.proofs.Spaces.{row_absent}
use Rattle.fdp_tables.proofs.fresh.first_spaces.Goals as goal

pub loop-place-init : goal.loop-place-init
loop-place-init c = record {
  count = ap length c.in_ok-spaces.ensures;
  namespaces = λ nsid.
      ap (λ (rows : List (Option Space)). option_map namespace_of (row rows nsid)) c.in_ok-spaces.ensures
      ∙ ap (λ (o : Option Space). option_map namespace_of o) (row_absent {X = Space} 17 nsid);
  empty = λ nsid lba.
      ap (λ (rows : List (Option Space)). block_in (row rows nsid) lba) c.in_ok-spaces.ensures
      ∙ ap (λ (o : Option Space). block_in o lba) (row_absent {X = Space} 17 nsid);
}

pub loop-place-preserved : goal.loop-place-preserved
loop-place-preserved c =
    let rows = c.loop-place.spaces.items in
    let place = c.loop-place.place in
    let namespace = c.index-namespaces-place.result in
    let space = c.in_ok-first_space.field-0 in
    let below : place < length c.args.namespaces.now = omega arith in
    let there : place + 1 < length rows = omega (arith, c.loop-place.invariant.count, c.requires) in
    let as_made = subst (λ (n : NamespaceConfig). IsMade space n.blocks true (unwrap_or n.handles []) 0) c.index-namespaces-place.is c.in_ok-first_space.ensures in
    let count : length (set rows (place + 1) (Some space)) ≡ 17 = rw length-set c.loop-place.invariant.count in
    laying_next c.args.namespaces.now place rows space namespace below there as_made count c.loop-place.invariant

pub returns : goal.returns
returns c =
    let all : take c.loop-place.place c.args.namespaces.now ≡ c.args.namespaces.now = take_all c.loop-place.place c.args.namespaces.now c.loop-place-test.false in
    record {
      count = c.loop-place.invariant.count;
      namespaces = λ nsid. c.loop-place.invariant.namespaces nsid ∙ ap (λ (xs : List NamespaceConfig). from_on 1 xs nsid) all;
      empty = c.loop-place.invariant.empty;
    }
