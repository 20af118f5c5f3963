use Rattle.std.proofs.Common.{take, true, subst, sym}
use Rattle.fdp_base.specs.declared.entry.Entry.{Entry}
use Rattle.fdp_rules.specs.Step.{IsStep}
use Rattle.fdp_plain.specs.Run.{Run, found_of}
use Rattle.fdp_plain.proofs.LegalRuns.{step-at}
use Rattle.fdp_plain.proofs.again.take_all.Goals as goal

pub take_legal-requires : goal.take_legal-requires
take_legal-requires c =
    let old = c.args.drive.now in
    let n = c.loop-entry.entry-index in
    let item = c.entry-item.result in
    let step : IsStep true old.config (found_of old) (take n c.args.entries.now) item =
    subst (λ (e : Entry). IsStep true old.config (found_of old) (take n c.args.entries.now) e) (sym c.entry-item.is) (step-at old.config (found_of old) c.args.entries.now n item c.loop-entry-test.true c.requires.legal) in
    subst (λ (r : Run). IsStep true r.config (found_of r) r.entries item) (sym c.loop-entry.invariant) step
