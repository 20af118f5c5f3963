use Rattle.std.proofs.Common.{◌≡◌, ℕ, Some, false, refl, subst, sym, true}
use Rattle.std.specs.Prelude.{IsTrue}
use Rattle.fdp_tables.specs.Index.{Lists, is_listed}
use Rattle.fdp_tables.specs.State.{row}
use Rattle.fdp_tables.proofs.Naming.{at_row, if_some}
use Rattle.fdp_tables.proofs.blocks.Blocks.places_at.Goals as goal

pub returns-then-at : goal.returns-then-at
returns-then-at c =
    let s = c.self.inside in
    if_some _ _ c.get.result (λ list (listed : (v : ℕ) → Lists s.found c.args.at.number v → IsTrue (is_listed v list.now)) place b there same.
    listed place (at_row s.written s.found s.places c.args.at s.found true c.if-at.true refl c.self.invariant.1 place b (subst (λ places. row places place ≡ Some b) (sym c.self.view_is) there) same)) c.get.ensures

pub returns-else-at : goal.returns-else-at
returns-else-at c =
    let s = c.self.inside in
    if_some _ _ c.get-else-at.result (λ list (listed : (v : ℕ) → Lists s.written c.args.at.number v → IsTrue (is_listed v list.now)) place b there same.
    listed place (at_row s.written s.found s.places c.args.at s.written false c.if-at.false refl c.self.invariant.1 place b (subst (λ places. row places place ≡ Some b) (sym c.self.view_is) there) same)) c.get-else-at.ensures
