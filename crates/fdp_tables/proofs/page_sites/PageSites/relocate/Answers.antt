use Rattle.std.proofs.Common.{◌≡◌, ℕ, Some, map, subst, sym}
use Rattle.std.specs.Prelude.{IsTrue, option_map}
use Rattle.std.specs.Vec.{vec_items}
use Rattle.fdp_base.specs.declared.entry.Spot.{Spot}
use Rattle.fdp_rules.specs.Sites.{moved_by}
use Rattle.fdp_tables.specs.Copies.{copy_of}
use Rattle.fdp_tables.specs.Index.{Lists, is_listed}
use Rattle.fdp_tables.specs.PageSites.{AreListed, site_in}
use Rattle.fdp_tables.proofs.Siting.{move_changes, moved_listed, others_still}
use Rattle.fdp_tables.proofs.page_sites.PageSites.relocate.Goals as goal

pub change_rows-requires-clause-once : goal.change_rows-requires-clause-once
change_rows-requires-clause-once c = (move_changes c.unit_of-unit.result c.args.pass.now c.in-Some.ensures.leaving).once

pub change_rows-requires-clause-others : goal.change_rows-requires-clause-others
change_rows-requires-clause-others c =
    let unit = c.unit_of-unit.result in
    let all : (value : ℕ) → Lists c.self.inside.tickets unit value → IsTrue (is_listed value c.as_slice-in-Some-2.result.now) = λ value there.
    subst (λ xs. IsTrue (is_listed value xs)) (sym c.as_slice-in-Some-2.ensures.value) (c.in-Some.ensures.all value there) in
    others_still (option_map (moved_by (map copy_of c.args.pass.now))) unit (map vec_items c.self.inside.rows.items) c.self.inside.tickets c.as_slice-in-Some-2.result.now
    (move_changes unit c.args.pass.now c.in-Some.ensures.leaving) c.self.invariant all

pub invariant_of-self : goal.invariant_of-self
invariant_of-self c =
    let unit = c.unit_of-unit.result in
    let pass = c.args.pass.now in
    let list = c.in-Some.tickets.items in
    let new = c.list_moved.new.index in
    let Moves = λ (xs : _) (rows : _). (ticket i : ℕ) (spot : Spot) → IsTrue (is_listed ticket xs) → site_in (map vec_items rows) ticket i ≡ Some spot → spot.unit ≡ unit → Lists new (moved_by (map copy_of pass) spot).unit ticket in
    let moved = subst (λ xs. Moves xs c.self.inside.rows.items) c.as_slice-in-Some.ensures.value (subst (λ rows. Moves c.as_slice-in-Some.result.now rows) c.as_slice.ensures.value c.list_moved.ensures.listed) in
    subst (λ xs. AreListed xs new) (sym c.change_rows.ensures)
    (moved_listed unit pass (map vec_items c.self.inside.rows.items) c.self.inside.tickets c.moving.new.tickets new list c.in-Some.ensures.leaving c.self.invariant c.in-Some.ensures.all c.moving.ensures.others c.list_moved.ensures.kept moved)
