-- How much of a history a plain drive takes.
use Rattle.std.specs.Prelude.{◌≡◌, ℕ, ◌≤◌, true, List, length, take, Some, slice_get}
use Rattle.fdp_base.specs.declared.config.DriveConfig.{DriveConfig}
use Rattle.fdp_base.specs.declared.entry.Entry.{Entry}
use Rattle.fdp_rules.specs.History.{fresh}
use Rattle.fdp_rules.specs.Legal.{IsLegal}
use Rattle.fdp_rules.specs.Step.{IsStep}

-- so many entries, from the first on, are a legal history, and the one behind them is no step
pub record IsTaken (c : DriveConfig) (es : List Entry) (count : ℕ) : Type 0 where
  pub few : count ≤ length es
  pub legal : IsLegal true c (fresh c) (take count es)
  pub most : (e : Entry) → slice_get es count ≡ Some e → IsStep true c (fresh c) (take count es) e → ⊥
