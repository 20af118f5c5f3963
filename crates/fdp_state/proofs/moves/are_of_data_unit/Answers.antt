use Rattle.std.proofs.Common.{◌≡◌, ◌∙◌, ◌+◌, ◌*◌, ℕ, Bool, true, ap, arith, sym}
use Rattle.std.specs.Prelude.{◌&&◌, nat_lt}
use Rattle.std.specs.List.{list_all}
use Rattle.std.proofs.lemmas.Bool.{lt-ltb}
use Rattle.fdp_base.specs.Geometry.{data_units}
use Rattle.fdp_base.specs.Placement.{geometry_of}
use Rattle.fdp_image.specs.Changed.{page_numbers}
use Rattle.fdp_state.proofs.moves.are_of_data_unit.Goals as goal

pub returns : goal.returns
returns c =
    let end : ℕ = (c.args.x.now.unit + 1) * c.args.config.now.unit_pages in
    let low : nat_lt c.args.x.now.unit (data_units (geometry_of c.args.config.now)) ≡ true =
    lt-ltb c.args.x.now.unit (data_units (geometry_of c.args.config.now)) (omega (arith, c.if-x-data_units.false, c.data_units.ensures ∙ ap data_units c.geometry.ensures.value)) in
    c.are_below.ensures
    ∙ ap (list_all (λ (number : ℕ). nat_lt number end)) (c.as_slice.ensures.value ∙ c.in_ok-numbers.ensures)
    ∙ sym (ap (λ (b : Bool). b && list_all (λ (number : ℕ). nat_lt number end) (page_numbers c.args.config.now c.args.x.now)) low)
