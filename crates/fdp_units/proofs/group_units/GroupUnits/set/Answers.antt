use Rattle.std.proofs.Common.{◌≡◌, ◌<◌, ◌∙◌, ℕ, List, Option, ap, arith, get_or, length, set, subst, sym}
use Rattle.std.proofs.lemmas.List.{get_or_default}
use Rattle.fdp_units.specs.declared.data_unit.DataUnit.{DataUnit}
use Rattle.fdp_units.specs.declared.tally.Tally.{Tally}
use Rattle.fdp_units.specs.DataUnits.{IsSound, no_unit}
use Rattle.fdp_units.specs.GroupTable.{GroupTable, Replaces, tally_of_unit}
use Rattle.fdp_units.proofs.Groups.{kept-set, whole-bound}
use Rattle.fdp_units.proofs.group_units.GroupUnits.set.Goals as goal

pub replaced-self-inside-requires-clause-whole : goal.replaced-self-inside-requires-clause-whole
replaced-self-inside-requires-clause-whole c = whole-bound c.self.inside.unit_pages c.self.inside.units.items c.self.inside.tally c.self.invariant.some c.self.invariant.size c.self.invariant.sound c.self.invariant.counted

pub invariant_of-self : goal.invariant_of-self
invariant_of-self c =
    let pages : ℕ = c.self.inside.unit_pages in
    let units : List DataUnit = c.self.inside.units.items in
    let there : c.args.index < length units = omega (arith, c.requires.index, ap (λ (g : GroupTable). length g.units) c.self.view_is) in
    let sound : IsSound pages c.args.unit = subst (λ (n : ℕ). IsSound n c.args.unit) (sym (ap (λ (g : GroupTable). g.unit_pages) c.self.view_is)) c.requires.sound in
    let before : c.tally.result ≡ tally_of_unit pages (get_or units c.args.index no_unit) = c.tally.ensures ∙ ap (tally_of_unit pages) (c.index-before.ensures ∙ get_or_default units c.args.index c.index-before.result.now no_unit there) in
    let replaces : Replaces c.self.inside.tally (tally_of_unit pages (get_or units c.args.index no_unit)) (tally_of_unit pages c.args.unit) c.replaced-self-inside.result =
    subst (λ (t : Tally). Replaces c.self.inside.tally t (tally_of_unit pages c.args.unit) c.replaced-self-inside.result) before (subst (λ (t : Tally). Replaces c.self.inside.tally c.tally.result t c.replaced-self-inside.result) c.tally-2.ensures c.replaced-self-inside.ensures) in
    kept-set pages units c.self.inside.victims c.self.inside.free c.set.new.self c.set-2.new.self c.self.inside.tally c.replaced-self-inside.result c.args.index c.args.unit c.self.invariant there sound
    (c.set.ensures ∙ ap (λ (key : Option ℕ). set c.self.inside.victims c.args.index key) c.victim_key.ensures)
    (c.set-2.ensures ∙ ap (λ (key : Option ℕ). set c.self.inside.free c.args.index key) c.free_key.ensures)
    replaces
