use Rattle.std.proofs.Common.{List, ℕ, inr, length, map, subst, sym, ◌∙◌, ap}
use Rattle.std.proofs.lemmas.List.{length-map}
use Rattle.std.specs.Global.{Vec}
use Rattle.std.specs.Prelude.{Err}
use Rattle.std.specs.Vec.{vec_items}
use Rattle.fdp_audit.specs.Audit.{GivesYes, IsAuditCause, IsAudited}
use Rattle.fdp_finding.specs.declared.fault.Fault.{Fault}
use Rattle.fdp_cli.specs.Refusing.{Refuses}
use Rattle.fdp_cli.specs.Verdict.{of_audit}
use Rattle.fdp_cli.proofs.verdict.judge.Goals as goal

pub returns-in-Err-clause-audits : goal.returns-in-Err-clause-audits
returns-in-Err-clause-audits g c =
    let config = c.args.found.now.config in
    let texts = c.as_slice-texts.ensures.value in
    let all = c.args.found.now.texts.items in
    inr (record {
      fault = c.in-Err.fault;
      cause = subst (λ (ts : List (Vec ℕ)). IsAuditCause config (map vec_items ts) c.in-Err.fault) texts c.in-Err.ensures.cause;
      none = subst (λ (ts : List (Vec ℕ)). (count : ℕ) → IsAudited config (map vec_items ts) count → GivesYes count (Err c.in-Err.fault)) texts c.in-Err.ensures.only;
      refused =
          subst (λ (fault : Fault). Refuses (g.K.Sink.state c.args.sink.now) (g.K.Sink.state c.refuse.new.sink) fault c.refuse.result)
          (c.of_audit.ensures ∙ ap (λ (n : ℕ). of_audit n c.in-Err.fault) (ap length texts ∙ sym (length-map all vec_items))) c.refuse.ensures.refuses;
    })
