-- Why an entry is not taken.
use Rattle.std.specs.Prelude.{◌≡◌, ℕ, ◌+◌, true}
use Rattle.fdp_base.specs.declared.entry.Entry.{Entry}
use Rattle.fdp_rules.specs.PlainState.{PlainState}
use Rattle.fdp_rules.specs.Step.{IsStep}
use Rattle.fdp_plain_judge.specs.declared.rule.Rule.{Rule}
use Rattle.fdp_plain_judge.specs.Rules.{FallsUnder, number_of}
use Rattle.fdp_plain.specs.declared.refused.Refused.{Refused}
use Rattle.fdp_plain.specs.declared.refused.Refused.TheVariants as refusals
use Rattle.fdp_plain.specs.Run.{Run, found_of, next_position, state_in}

-- the number of the rule under which an entry falls where this state stands
pub record IsRuleNumber (s : PlainState) (e : Entry) (why : ℕ) : Type 0 where
  pub rule : Rule
  pub falls : FallsUnder s e rule
  pub number : why ≡ number_of rule

-- an entry is no step after those of a run; its position and the number of its rule
pub record IsNoStep (r : Run) (e : Entry) (at why : ℕ) : Type 0 where
  pub no_step : IsStep true r.config (found_of r) r.entries e → ⊥
  pub position : at ≡ next_position r
  pub rule : IsRuleNumber (state_in r) e why

-- why an entry was not taken after those of a run: it is no step, or there was no memory
abbrev pub IsCause : Run → Entry → Refused → Type 0
IsCause r e (refusals.Illegal at why) = IsNoStep r e at why
IsCause r e refusals.NoMemory = Unit {0}

-- the position of an entry and the number of its rule, where this state stands
abbrev pub IsIllegalIn : PlainState → Entry → Refused → Type 0
IsIllegalIn s e (refusals.Illegal at why) = (at ≡ s.position + 1) × IsRuleNumber s e why
IsIllegalIn s e refusals.NoMemory = ⊥
