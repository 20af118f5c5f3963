use Rattle.std.proofs.Common.{◌≢◌, ℕ, map, subst, sym}
use Rattle.std.specs.Prelude.{IsTrue}
use Rattle.std.specs.Vec.{vec_items}
use Rattle.fdp_tables.specs.declared.site_change.SiteChange.TheVariants as changes
use Rattle.fdp_tables.specs.Index.{Lists, is_listed}
use Rattle.fdp_tables.specs.PageSites.{AreListed, changed_by}
use Rattle.fdp_tables.proofs.Siting.{erase_changes, erased_listed, others_still}
use Rattle.fdp_tables.proofs.page_sites.PageSites.erase.Goals as goal

pub change_rows-requires-clause-others : goal.change_rows-requires-clause-others
change_rows-requires-clause-others c =
    let old = c.self.inside.tickets in
    let all : (value : ℕ) → Lists old c.args.unit value → IsTrue (is_listed value c.as_slice.result.now) = λ value there.
    subst (λ xs. IsTrue (is_listed value xs)) (sym c.as_slice.ensures.value) (c.in-Some.ensures.all value (subst (λ u. Lists old u value) (sym c.from.ensures) there)) in
    others_still (changed_by (changes.Erased c.args.unit)) c.args.unit (map vec_items c.self.inside.rows.items) old c.as_slice.result.now (erase_changes c.args.unit) c.self.invariant all

pub invariant_of-self : goal.invariant_of-self
invariant_of-self c =
    let old = c.self.inside.tickets in
    let new = c.take.new.self in
    subst (λ xs. AreListed xs new) (sym c.change_rows.ensures)
    (erased_listed c.args.unit (map vec_items c.self.inside.rows.items) old new c.self.invariant (subst (λ u. (k value : ℕ) → k ≢ u → Lists old k value → Lists new k value) c.from.ensures c.take.ensures.others))

pub invariant_of-self-in-None : goal.invariant_of-self-in-None
invariant_of-self-in-None c =
    let old = c.self.inside.tickets in
    let new = c.take.new.self in
    subst (λ xs. AreListed xs new) (sym c.change_all.ensures)
    (erased_listed c.args.unit (map vec_items c.self.inside.rows.items) old new c.self.invariant (subst (λ u. (k value : ℕ) → k ≢ u → Lists old k value → Lists new k value) c.from.ensures c.take.ensures.others))
