use Rattle.std.proofs.Common.{◌<◌, arith, sym, length}
use Rattle.std.specs.Vec.{vec_capacity, vec_items, vec_len}
use Rattle.std.proofs.lemmas.List.{length-set}
use Rattle.std.proofs.lemmas.Result.{on_ok_weaker}
use Rattle.fdp_plain.proofs.Reserving.{room_put, same_rows}
use Rattle.fdp_plain.proofs.reserve.reserve_in.Goals as goal

pub returns-clause-copies : goal.returns-clause-copies
returns-clause-copies c = same_rows vec_items c.args.kept.now.copies.items c.group_of-group.result c.index_mut.result.now c.reserve.new.self c.index_mut.ensures.value c.reserve.ensures.items

pub returns-clause-spare : goal.returns-clause-spare
returns-clause-spare c =
    let group = c.group_of-group.result in
    let rows = c.args.kept.now.copies.items in
    let there : group < length rows = rw c.group_of-group.ensures c.requires.group in
    on_ok_weaker c.reserve.result (λ spare. record {
      group = record { units = c.requires.units; group = rw (length-set rows group c.reserve.new.self) c.requires.group };
      room = room_put (λ copies. vec_len copies < vec_capacity copies) rows group _ c.reserve.new.self (sym c.group_of-group.ensures) there (omega (arith, spare));
    }) c.reserve.ensures.ok
