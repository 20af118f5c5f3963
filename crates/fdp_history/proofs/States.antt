-- What each entry that may follow leaves of an orderly state.
use Rattle.std.proofs.Common.{◌≢◌, ℕ, Bool, true, false, Some, None, refl, ◌∙◌, ap, ne_eqb}
use Rattle.fdp_base.specs.declared.config.DriveConfig.{DriveConfig}
use Rattle.fdp_base.specs.declared.entry.Entry.{Entry}
use Rattle.fdp_base.specs.declared.entry.Entry.TheVariants as entries
use Rattle.fdp_rules.specs.Change.{after, changed_by}
use Rattle.fdp_base.specs.Config.{IsValidConfig}
use Rattle.fdp_base.specs.Numbers.{with_at}
use Rattle.fdp_rules.specs.PlainState.{PlainState}
use Rattle.fdp_rules.specs.Point.{Point}
use Rattle.fdp_rules.specs.Step.{Follows, IsUnreferenced}
use Rattle.fdp_history.specs.OrderlyState.{IsOrderlyState}
use Rattle.fdp_history.proofs.Changed.{unit-kept}
use Rattle.fdp_history.proofs.Effects.{applicable, effect-orderly, host-orderly}
use Rattle.fdp_history.proofs.Parts.{going-fewer, later, lost-changed, orderly-later, worn-changed}
use Rattle.fdp_history.proofs.Placing.{placed-orderly}
use Rattle.fdp_history.proofs.References.{none-orderly, own-references, references-changed, shut-orderly}
use Rattle.fdp_history.proofs.Starting.{started-orderly}

-- a unit that no handle references is lost
lost-orderly : (c : DriveConfig) (s : PlainState) (unit : ℕ) → IsUnreferenced s unit → IsOrderlyState c s → IsOrderlyState c (record (later s) { is_lost = with_at s.is_lost unit true })
lost-orderly c s unit free h =
    let now = orderly-later c s h in
    lost-changed c (later s) (with_at s.is_lost unit true)
    (λ rg ruh u e.
    let ne : u ≢ unit = λ same. free rg ruh (e ∙ ap (λ (n : ℕ). Some n) same) in
    rw (ne_eqb u unit ne) (unit-kept c s h rg ruh u e))
    now

-- no write goes, no handle has a unit, and each unit is in use
reopened-orderly : (c : DriveConfig) (s : PlainState) → IsValidConfig c → IsOrderlyState c s → IsOrderlyState c (after c s entries.Reopened)
unfolding after changed_by
reopened-orderly c s valid h =
    let first = references-changed c (later s) _ (none-orderly c (later s) valid) (orderly-later c s h) in
    let second = going-fewer c _ (λ queue. None) (λ queue g e. absurd cc) first in
    let third = lost-changed c _ (λ unit. false) (λ rg ruh unit e. refl) second in
    worn-changed c _ (λ rg. false) third

pub state-next : (told : Bool) (c : DriveConfig) (p : Point) (e : Entry) → IsValidConfig c → Follows told c p e → IsOrderlyState c p.state → IsOrderlyState c (after c p.state e)
unfolding Follows after changed_by
state-next told c p (entries.Host host) valid step h =
    host-orderly c p.state host.queue host.number host.command host.reply host.moment (λ applied. effect-orderly c p host.queue host.number host.command valid (applicable told c p host.queue host.number host.command host.reply host.moment applied step) h) h
state-next told c p (entries.Started s) valid step h = started-orderly c p s.queue s.number s.command s.rg s.ruh s.pid_valid valid step h
state-next told c p (entries.Placed placed) valid step h = placed-orderly c p placed.ticket placed.index placed.unit placed.page valid step h
state-next told c p (entries.Copied copied) valid step h = orderly-later c p.state h
state-next told c p (entries.Moved m) valid step h = orderly-later c p.state h
state-next told c p (entries.Erased e) valid step h = worn-changed c (later p.state) _ (orderly-later c p.state h)
state-next told c p (entries.Retired r) valid step h = lost-orderly c p.state r.unit step.unreferenced h
state-next told c p (entries.Aside a) valid step h = lost-orderly c p.state a.unit step.unreferenced h
state-next told c p (entries.Shut s) valid step h =
    let now = orderly-later c p.state h in
    references-changed c (later p.state) _ (shut-orderly c (later p.state) p.state.references s.rg s.ruh valid (own-references c (later p.state) now)) now
state-next told c p (entries.Worn w) valid step h = worn-changed c (later p.state) _ (orderly-later c p.state h)
state-next told c p entries.Reopened valid step h = reopened-orderly c p.state valid h
