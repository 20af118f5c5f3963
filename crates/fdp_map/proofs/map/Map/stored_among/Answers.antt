use Rattle.std.proofs.Common.{◌≡◌, ◌∙◌, ◌<◌, List, Option, ap, arith, ⊎_elim}
use Rattle.std.proofs.lemmas.Bool.{cases_eq}
use Rattle.fdp_base.specs.Geometry.{IsWithin}
use Rattle.fdp_map.specs.declared.mapped.Mapped.{Mapped}
use Rattle.fdp_map.specs.MapTable.{MapTable, row, size_in, stored_from, stored_in_row}
use Rattle.fdp_map.specs.PageLists.{places_of, table_of}
use Rattle.fdp_map.proofs.Counted.{identifier}
use Rattle.fdp_map.proofs.Stored.{none_counted, stored_rest, stored_rest_none}
use Rattle.fdp_map.proofs.map.Map.stored_among.Goals as goal

pub returns-clause-value : goal.returns-clause-value
returns-clause-value c =
    c.stored_among.ensures
    ∙ ap (λ (m : MapTable). stored_in_row (places_of m.geometry c.list.result.now) c.args.rg c.args.slba c.args.count) c.self.view_is
    ∙ ap (λ (places : List (Option Mapped)). stored_in_row places c.args.rg c.args.slba c.args.count) c.list.ensures

pub returns-clause-rest : goal.returns-clause-rest
returns-clause-rest c = λ s h.
    let now : MapTable = c.args.self.now in
    let m : MapTable = table_of c.self.inside.geometry c.self.inside.lists.items in
    let value : c.stored_among.result ≡ stored_from now c.args.rg c.args.nsid c.args.slba c.args.count =
    c.stored_among.ensures
    ∙ ap (λ (x : MapTable). stored_in_row (places_of x.geometry c.list.result.now) c.args.rg c.args.slba c.args.count) c.self.view_is
    ∙ ap (λ (places : List (Option Mapped)). stored_in_row places c.args.rg c.args.slba c.args.count) c.list.ensures in
    ⊎_elim
    (λ (none : c.args.count ≡ 0).
    omega (arith, value, none_counted (row now c.args.nsid) c.args.rg c.args.slba c.args.count none, stored_rest_none now c.args.rg c.args.nsid c.args.slba c.args.count s none h))
    (λ some.
    let size : size_in m c.args.nsid ≡ size_in now c.args.nsid = ap (λ (x : MapTable). size_in x c.args.nsid) c.self.view_is in
    let within : c.args.slba < size_in m c.args.nsid = omega (arith, c.requires.range, some, size) in
    let id : IsWithin 1 16 c.args.nsid = identifier m c.self.inside.counts c.self.invariant c.args.nsid c.args.slba within in
    omega (arith, value, stored_rest now c.args.rg c.args.nsid c.args.slba c.args.count s id.0 id.1 c.requires.range h))
    (cases_eq c.args.count 0)
