use Rattle.std.proofs.Common.{◌∙◌, ap, arith, sym}
use Rattle.std.specs.Prelude.{find}
use Rattle.fdp_rules.specs.Refusal.{is_absent}
use Rattle.fdp_tables.specs.State.{plain_of}
use Rattle.fdp_commands.proofs.Summing.{namespace_ids_are}
use Rattle.fdp_tables.proofs.Counting.{seeking_in_end, seeking_in_found, seeking_in_next}
use Rattle.fdp_tables.proofs.state.Kept.lowest_free.Goals as goal

pub returns-then-is_absent : goal.returns-then-is_absent
returns-then-is_absent c =
    let test = is_absent (plain_of c.args.self.now) in
    sym (ap (find test) namespace_ids_are ∙ seeking_in_found test _ c.loop-nsid.nsid-index (omega arith) (sym c.is_absent.ensures ∙ c.if-is_absent.true) c.loop-nsid.invariant)

pub loop-nsid-preserved : goal.loop-nsid-preserved
loop-nsid-preserved c =
    let test = is_absent (plain_of c.args.self.now) in
    seeking_in_next test _ c.loop-nsid.nsid-index (omega arith) (sym c.is_absent.ensures ∙ c.if-is_absent.false) c.loop-nsid.invariant

pub returns : goal.returns
returns c =
    let test = is_absent (plain_of c.args.self.now) in
    sym (ap (find test) namespace_ids_are ∙ seeking_in_end test _ c.loop-nsid.nsid-index (omega arith) c.loop-nsid.invariant)
