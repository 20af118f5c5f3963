use Rattle.std.proofs.Common.{◌≡◌, List, ◌∷◌, [], ap, refl, subst, sym, ◌∙◌}
use Rattle.fdp_base.specs.declared.event.Event.{Event}
use Rattle.fdp_snapshot.specs.declared.state.Summary.{Summary}
use Rattle.fdp_outline.specs.Events.{with_events}
use Rattle.fdp_outline.specs.Outline.{IsWritable}
use Rattle.fdp_outline.proofs.Keeping.{controller-more, host-more, plain-one, writable-more}
use Rattle.fdp_outline.proofs.keep.push.Goals as goal

pub returns-then-is_host-clause-events : goal.returns-then-is_host-clause-events
returns-then-is_host-clause-events c =
    let s = c.args.summary.now in
    ap (λ (xs : List Event). record s { host_events = xs }) c.push.ensures
    ∙ host-more s c.requires.writable.summary c.args.event c.requires.reported (sym (c.is_host.ensures c.args.event refl) ∙ c.if-is_host.true)

pub returns-then-is_host-clause-writable : goal.returns-then-is_host-clause-writable
returns-then-is_host-clause-writable c =
    let s = c.args.summary.now in
    let is : record s { host_events = c.push.new.self } ≡ with_events s (c.args.event ∷ []) =
    ap (λ (xs : List Event). record s { host_events = xs }) c.push.ensures
    ∙ host-more s c.requires.writable.summary c.args.event c.requires.reported (sym (c.is_host.ensures c.args.event refl) ∙ c.if-is_host.true) in
    subst (λ (x : Summary). IsWritable x) (sym is) (writable-more s (c.args.event ∷ []) c.requires.writable (plain-one c.args.event c.requires.plain))

pub returns-clause-events : goal.returns-clause-events
returns-clause-events c =
    let s = c.args.summary.now in
    ap (λ (xs : List Event). record s { controller_events = xs }) c.push-2.ensures
    ∙ controller-more s c.requires.writable.summary c.args.event c.requires.reported (sym (c.is_host.ensures c.args.event refl) ∙ c.if-is_host.false)

pub returns-clause-writable : goal.returns-clause-writable
returns-clause-writable c =
    let s = c.args.summary.now in
    let is : record s { controller_events = c.push-2.new.self } ≡ with_events s (c.args.event ∷ []) =
    ap (λ (xs : List Event). record s { controller_events = xs }) c.push-2.ensures
    ∙ controller-more s c.requires.writable.summary c.args.event c.requires.reported (sym (c.is_host.ensures c.args.event refl) ∙ c.if-is_host.false) in
    subst (λ (x : Summary). IsWritable x) (sym is) (writable-more s (c.args.event ∷ []) c.requires.writable (plain-one c.args.event c.requires.plain))
