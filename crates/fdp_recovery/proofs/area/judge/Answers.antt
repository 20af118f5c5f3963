use Rattle.std.proofs.Common.{Some, sym}
use Rattle.fdp_recovery.proofs.Judged.{judged_bad, judged_ready, judged_sound, key_differs, page_within}
use Rattle.fdp_recovery.proofs.area.judge.Goals as goal

pub returns-in-Some-clause-told : goal.returns-in-Some-clause-told
returns-in-Some-clause-told c z h = key_differs c.args.config.now c.args.geometry.now z c.args.state (Some c.in-Some.key) h c.in-Some.ensures

pub number_in-requires-clause-page : goal.number_in-requires-clause-page
number_in-requires-clause-page c =
    page_within c.args.geometry.now c.args.current.now c.args.state.summary c.in-Some-bad_field.at c.requires.valid c.requires.inside c.requires.holds c.in-Some-bad_field.ensures.bound

pub returns-in-Some-bad_field-clause-told : goal.returns-in-Some-bad_field-clause-told
returns-in-Some-bad_field-clause-told c z h =
    judged_bad c.args.config.now c.args.geometry.now c.args.current.now.area z c.args.state c.in-Some-bad_field.at c.number_in.result h (sym c.in-None.ensures) (sym c.in-Some-bad_field.ensures.value) c.number_in.ensures

pub returns-in-None-bad_field-clause-told : goal.returns-in-None-bad_field-clause-told
returns-in-None-bad_field-clause-told c z h = judged_sound c.args.config.now c.args.geometry.now z c.args.state h (sym c.in-None.ensures) (sym c.in-None-bad_field.ensures.value)

pub returns-in-None-bad_field-clause-ready : goal.returns-in-None-bad_field-clause-ready
returns-in-None-bad_field-clause-ready c = judged_ready c.args.config.now c.args.geometry.now c.args.state c.requires.state (sym c.in-None.ensures) (sym c.in-None-bad_field.ensures.value)
