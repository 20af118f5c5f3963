use Rattle.std.proofs.Common.{arith, drop, false, get_or, subst, sym, take, ◌≡◌, ◌∙◌, ◌++◌, ◌∷◌, ◌+◌, ap}
use Rattle.std.specs.Prelude.{IsFalse}
use Rattle.std.proofs.lemmas.List.{take_all, take_more}
use Rattle.std.proofs.lemmas.List.Elements.{All-push}
use Rattle.fdp_base.specs.declared.entry.Entry.{Entry}
use Rattle.fdp_audit.specs.Audit.{HaveNoCompletedChange, is_completed_change}
use Rattle.fdp_audit.proofs.Following.{taken-size}
use Rattle.fdp_audit.proofs.Judging.{list-cut}
use Rattle.fdp_audit.proofs.next.first_completed.Goals as goal

pub returns-then-is_completed_change-clause-some : goal.returns-then-is_completed_change-clause-some
returns-then-is_completed_change-clause-some c =
    let l = c.loop-entry in
    let k = l.entry-index in
    record {
      before = take k c.args.entries.now;
      completed = c.entry-item.result;
      after = drop (k + 1) c.args.entries.now;
      es_are = list-cut c.args.entries.now k c.entry-item.result c.loop-entry-test.true ∙ (λ i. take k c.args.entries.now ++ sym c.entry-item.is i ∷ drop (k + 1) c.args.entries.now);
      none = l.invariant.none;
      is_completed = sym c.is_completed_change.ensures ∙ c.if-is_completed_change.true;
      place_is = l.invariant.place ∙ sym (taken-size k c.args.entries.now (omega (arith, c.loop-entry-test.true)));
    }

pub loop-entry-preserved : goal.loop-entry-preserved
loop-entry-preserved c =
    let l = c.loop-entry in
    let k = l.entry-index in
    let xs = c.args.entries.now in
    let item = c.entry-item.result in
    let not : is_completed_change item ≡ false = sym c.is_completed_change.ensures ∙ c.if-is_completed_change.false in
    record {
      place = ap (λ n. n + 1) l.invariant.place;
      none =
          subst HaveNoCompletedChange (sym (take_more xs k item c.loop-entry-test.true))
          (All-push (λ e. IsFalse (is_completed_change e)) (take k xs) (get_or xs k item) l.invariant.none (subst (λ (e : Entry). is_completed_change e ≡ false) c.entry-item.is not));
    }

pub returns-clause-none : goal.returns-clause-none
returns-clause-none c none = subst HaveNoCompletedChange (take_all c.loop-entry.entry-index c.args.entries.now c.loop-entry-test.false) c.loop-entry.invariant.none
