use Rattle.std.proofs.Common.{◌≡◌, ◌+◌, ◌-◌, ◌∙◌, ℕ, List, ◌∷◌, ap, arith, drop, false, inl, length, refl, subst, sym, true}
use Rattle.fdp_base.specs.declared.entry.Entry.{Entry}
use Rattle.fdp_base.specs.declared.entry.Entry.TheVariants.{Reopened}
use Rattle.fdp_audit.specs.Audit.{IsNoOpening, first_position}
use Rattle.fdp_audit.proofs.Following.{slice-first}
use Rattle.fdp_audit.proofs.next.kept_before.Goals as goal

false-true : false ≡ true → ⊥
false-true e = cc

pub returns-clause-kept : goal.returns-clause-kept
returns-clause-kept c =
    let run = c.args.plain.now in
    let x = c.in-Some.field-0.now in
    let kept = x.0 - (c.next_position-next.result - length c.entries.result.now) in
    let size : length c.entries.result.now ≡ length run.entries = ap (λ (es : List Entry). length es) c.entries.ensures.entries in
    let opening : x.1 ≡ Reopened = c.is_opening.ensures.0 c.if-not-is_opening.false in
    let at : x.0 ≡ first_position run + kept = omega (arith, c.next_position-next.ensures, size, c.if-position-first.false) in
    record {
      low = omega (arith, c.next_position-next.ensures, size, c.if-position-first.false, c.if-next-position.false);
      more = drop 1 c.args.entries.now;
      entries_are =
          slice-first c.args.entries.now (x.0, x.1) (sym c.in-Some.ensures.value)
          ∙ ap (λ (n : ℕ). (n, x.1) ∷ drop 1 c.args.entries.now) at
          ∙ ap (λ (e : Entry). (first_position run + kept, e) ∷ drop 1 c.args.entries.now) opening;
    }

pub returns-then-not-is_opening-clause-fault : goal.returns-then-not-is_opening-clause-fault
returns-then-not-is_opening-clause-fault c =
    let run = c.args.plain.now in
    let x = c.in-Some.field-0.now in
    subst (λ (xs : List (ℕ × Entry)). IsNoOpening (first_position run) run.entries xs x.0 c.number-then-not-is_opening.result) (sym (slice-first c.args.entries.now (x.0, x.1) (sym c.in-Some.ensures.value)))
    (inl (λ is. false-true (sym c.if-not-is_opening.true ∙ c.is_opening.ensures.1 is), refl, c.number-then-not-is_opening.ensures))
