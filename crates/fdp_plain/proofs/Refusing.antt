-- Whether an entry is a step is whether it may follow what the tables say.
use Rattle.std.proofs.Common.{◌≡◌, ℕ, ◌+◌, ◌∙◌, length, true, sym, ap, subst}
use Rattle.fdp_base.specs.declared.entry.Entry.{Entry}
use Rattle.fdp_rules.specs.History.{point_of, totals_of}
use Rattle.fdp_rules.specs.PlainState.{PlainState}
use Rattle.fdp_rules.specs.Point.{Point}
use Rattle.fdp_rules.specs.Step.{Follows, IsStep}
use Rattle.fdp_tables.specs.declared.state.Kept.{Kept}
use Rattle.fdp_tables.specs.State.{plain_of, point_kept}
use Rattle.fdp_plain.specs.declared.refused.Refused.{Refused}
use Rattle.fdp_plain.specs.declared.refused.Refused.TheVariants as refusals
use Rattle.fdp_plain.specs.Refusing.{IsCause, IsIllegalIn, IsRuleNumber}
use Rattle.fdp_plain.specs.Run.{found_of, state_in}
use Rattle.fdp_plain.specs.Telling.{TellsHistory, run_of}

module _ (k : Kept) (h : TellsHistory k) (e : Entry) where
  pub step_of : Follows true k.config (point_kept k) e → IsStep true k.config (found_of (run_of k)) (run_of k).entries e
  step_of f = subst (λ (p : Point). Follows true k.config p e) h.point f

  state_is : plain_of k ≡ state_in (run_of k)
  state_is = ap (λ (p : Point). p.state) h.point

  position_is : (plain_of k).position ≡ (found_of (run_of k)).totals.position + length (run_of k).entries
  unfolding point_of totals_of
  position_is = ap (λ (p : Point). p.totals.position) h.point

  -- one that may not follow is refused with its cause
  pub cause_of : (r : Refused) → (Follows true k.config (point_kept k) e → ⊥) → IsIllegalIn (plain_of k) e r → IsCause (run_of k) e r
  cause_of (refusals.Illegal at why) not illegal = record {
    no_step = λ step. not (subst (λ (p : Point). Follows true k.config p e) (sym h.point) step);
    position = illegal.0 ∙ ap (λ (n : ℕ). n + 1) position_is;
    rule = subst (λ (s : PlainState). IsRuleNumber s e why) state_is illegal.1;
  }
  cause_of refusals.NoMemory not illegal = absurd illegal
