use Rattle.std.proofs.Common.{◌∙◌, arith, sym}
use Rattle.fdp_outline.proofs.Free.{free-alike, is_free, seeking_end, seeking_first, seeking_found, seeking_next}
use Rattle.fdp_outline.proofs.outline.Outline.lowest_free.Goals as goal

pub loop-nsid-init : goal.loop-nsid-init
loop-nsid-init c = seeking_first (is_free c.args.self.now)

pub loop-nsid-preserved : goal.loop-nsid-preserved
loop-nsid-preserved c = seeking_next (is_free c.args.self.now) c.loop-nsid.nsid (omega arith) (sym c.is_free.ensures ∙ c.if-is_free.false) c.loop-nsid.invariant

pub returns-then-is_free-clause-value : goal.returns-then-is_free-clause-value
returns-then-is_free-clause-value c = λ s all.
    sym (free-alike c.args.self.now s all ∙ seeking_found (is_free c.args.self.now) c.loop-nsid.nsid (omega arith) (sym c.is_free.ensures ∙ c.if-is_free.true) c.loop-nsid.invariant)

pub returns-clause-value : goal.returns-clause-value
returns-clause-value c = λ s all.
    sym (free-alike c.args.self.now s all ∙ seeking_end (is_free c.args.self.now) c.loop-nsid.nsid (omega arith) c.loop-nsid.invariant)
