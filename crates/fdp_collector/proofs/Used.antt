-- The target of a lane after a page of it was used.
use Rattle.std.proofs.Common.{◌≡◌, ℕ, ◌*◌, ◌<◌, Option, Some, None, sym, subst}
use Rattle.std.specs.Prelude.{IfSome}
use Rattle.fdp_passes.specs.declared.lane.Lane.{Lane}
use Rattle.fdp_passes.specs.GroupPasses.{GroupPasses, target_at}
use Rattle.fdp_passes.specs.Targets.{UsesPage}
use Rattle.fdp_passes.proofs.Opened.{used-target}
use Rattle.fdp_units.specs.UnitTable.{Cut, IsUnit, UnitTable}

-- it is a unit that is there
pub target-there : (p now : GroupPasses) (t new : UnitTable) (lane : Lane) (unit : ℕ) → target_at p lane ≡ Some unit → IsUnit t unit → UsesPage p now t new lane unit → IfSome (target_at now lane) (λ (u : ℕ). IsUnit new u)
target-there p now t new lane unit is there h = cases (target_at now lane) (used-target p now t new lane unit is h) where
  cases : (o : Option ℕ) → IfSome o (λ (u : ℕ). u ≡ unit) → IfSome o (λ (u : ℕ). IsUnit new u)
  cases None e = _
  cases (Some u) e = subst (λ (k : ℕ). IsUnit new k) (sym e) (subst (λ (cut : Cut). unit < cut.groups * cut.group_units) (sym h.page.cut) there)
