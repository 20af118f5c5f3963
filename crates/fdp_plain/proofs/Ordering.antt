-- What stands after a legal history that began in order is in order.
use Rattle.std.proofs.Common.{◌≡◌, ℕ, ◌<◌, Bool, true, false, cond, List, [], refl, sym, arith, subst}
use Rattle.std.specs.Prelude.{◌==◌, ◌&&◌, slice_index}
use Rattle.std.specs.List.{list_any}
use Rattle.std.proofs.lemmas.Bool.{eqb-true, false≢true}
use Rattle.fdp_base.specs.declared.command.Command.{Command}
use Rattle.fdp_base.specs.declared.config.DriveConfig.{DriveConfig}
use Rattle.fdp_base.specs.declared.entry.Entry.{Entry}
use Rattle.fdp_base.specs.declared.entry.Entry.TheVariants as entries
use Rattle.fdp_base.specs.Config.{IsValidConfig}
use Rattle.fdp_base.specs.EventCodes.{kind_code}
use Rattle.fdp_rules.specs.Change.{after, changed_by}
use Rattle.fdp_rules.specs.Effect.{effect_of, reporting}
use Rattle.fdp_rules.specs.History.{Found, first_state, fresh, point_of, state_of}
use Rattle.fdp_rules.specs.Legal.{IsLegal}
use Rattle.fdp_rules.specs.Next.{next}
use Rattle.fdp_rules.specs.PlainState.{PlainState}
use Rattle.fdp_rules.specs.Point.{Point}
use Rattle.fdp_rules.specs.Room.{handles_of}
use Rattle.fdp_rules.specs.Step.{Follows}
use Rattle.fdp_rules.proofs.Effects.{by-effect}
use Rattle.fdp_history.specs.OrderlyState.{IsOrderlyState}
use Rattle.fdp_history.proofs.Bounds.{handle-below, handles-in_force}
use Rattle.fdp_history.proofs.Fresh.{orderly-fresh, standing-fresh, summed-fresh}
use Rattle.fdp_history.proofs.Histories.{holds-legal}
use Rattle.fdp_history.proofs.Points.{orderly-next}
use Rattle.fdp_history.proofs.Standing.{standing-next}
use Rattle.fdp_history.proofs.Sums.{summed-next}
use Rattle.fdp_plain.specs.Found.{BeginsInOrder, HasFewReports, StandsInOrder}

-- ---- kinds of event that are kept

few_reporting : (s : PlainState) (handle : ℕ) (enable : Bool) (types : List ℕ) → handle < 16 → HasFewReports s → HasFewReports (reporting s handle enable types)
few_reporting s handle enable types below few ruh kind kept =
    let any : Bool = list_any (λ code. code == kind_code kind) types in
    let P : Bool → Type 0 = λ b. (ruh == handle) ≡ b → cond (b && any) enable (s.reports ruh kind) ≡ true → ruh < 16 in
    (elim (ruh == handle) as P [ true ↦ λ same _. omega (arith, eqb-true ruh handle same, below) | false ↦ λ _ old. few ruh kind old ]) refl kept

few_effect : (c : DriveConfig) (s : PlainState) (queue : ℕ) (command : Command) → IsValidConfig c → IsOrderlyState c s → HasFewReports s → HasFewReports (effect_of c s queue command)
unfolding effect_of
few_effect c s queue command valid orderly few =
    let P : Command → Type 0 = λ x. HasFewReports (effect_of c s queue x) in
    let low : (nsid i : ℕ) → slice_index (handles_of s nsid) i < 16 = λ nsid i. omega (arith, handle-below c s valid orderly nsid i, (handles-in_force c s valid orderly).1) in
    by-effect P
    (record {
      write = λ w. few;
      zero = λ z. few;
      dealloc = λ d. few;
      delete = λ d. few;
      update = λ u. few;
      set_fdp = λ x ruh kind kept. absurd (false≢true kept);
      set_events = λ x. few_reporting s (slice_index (handles_of s x.nsid) x.handle) x.enable x.types (low x.nsid x.handle) few;
      create = λ x. few;
      nothing = λ x none. subst HasFewReports (sym (none.state c s queue)) few;
    })
    command

few_if : (c : DriveConfig) (s : PlainState) (queue : ℕ) (command : Command) (made : Bool) → IsValidConfig c → IsOrderlyState c s → HasFewReports s → HasFewReports (cond made (effect_of c s queue command) s)
few_if c s queue command true valid orderly few = few_effect c s queue command valid orderly few
few_if c s queue command false valid orderly few = few

few_next : (c : DriveConfig) (p : Point) (e : Entry) → IsValidConfig c → IsOrderlyState c p.state → HasFewReports p.state → HasFewReports (next c p e).state
unfolding next after changed_by
few_next c p (entries.Host h) valid orderly few = few_if c p.state h.queue h.command h.reply.applied valid orderly few
few_next c p (entries.Started x) valid orderly few = few
few_next c p (entries.Placed x) valid orderly few = few
few_next c p (entries.Copied x) valid orderly few = few
few_next c p (entries.Moved x) valid orderly few = few
few_next c p (entries.Erased x) valid orderly few = few
few_next c p (entries.Retired x) valid orderly few = few
few_next c p (entries.Aside x) valid orderly few = few
few_next c p (entries.Shut x) valid orderly few = few
few_next c p (entries.Worn x) valid orderly few = few
few_next c p entries.Reopened valid orderly few = few

few_fresh : (c : DriveConfig) → HasFewReports (point_of c (fresh c) []).state
unfolding point_of state_of first_state fresh
few_fresh c ruh kind kept = absurd (false≢true kept)

-- ---- all that stands

pub in_order_fresh : (c : DriveConfig) → IsValidConfig c → BeginsInOrder c (fresh c)
in_order_fresh c valid = record { orderly = orderly-fresh c valid; standing = standing-fresh c; summed = summed-fresh c; reports = few_fresh c }

in_order_next : (c : DriveConfig) (p : Point) (e : Entry) → IsValidConfig c → StandsInOrder c p → Follows true c p e → StandsInOrder c (next c p e)
in_order_next c p e valid h step = record {
  orderly = orderly-next true c p e valid h.orderly step;
  standing = standing-next true c p e h.orderly h.standing step;
  summed = summed-next true c p e valid h.orderly h.summed step;
  reports = few_next c p e valid h.orderly.state h.reports;
}

pub in_order_legal : (c : DriveConfig) (f : Found) (es : List Entry) → IsValidConfig c → BeginsInOrder c f → IsLegal true c f es → StandsInOrder c (point_of c f es)
in_order_legal c f es valid begin legal = holds-legal (StandsInOrder c) true c f (λ p e h step. in_order_next c p e valid h step) begin es legal
