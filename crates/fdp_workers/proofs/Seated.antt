-- The queue of the write with a ticket, and what entries of others leave of it, whatever the history is.
use Rattle.std.proofs.Common.{◌≡◌, ◌≢◌, ℕ, zero, suc, ◌+◌, ◌-◌, ◌<◌, ◌≤◌, Bool, true, false, cond, List, [], ◌∷◌, ◌++◌, length, Option, Some, None, refl, sym, ◌∙◌, ap, subst, arith, append_assoc, length-append, ne_eqb, ⊎_elim}
use Rattle.std.specs.Prelude.{if◌then◌else◌, option_map, slice_get}
use mathlib.Core.List.{append-nil}
use Rattle.std.specs.Option.{option_map_or}
use Rattle.fdp_base.specs.declared.command.Command.{Command}
use Rattle.fdp_base.specs.declared.config.DriveConfig.{DriveConfig}
use Rattle.fdp_base.specs.declared.entry.Entry.{Entry}
use Rattle.fdp_base.specs.declared.entry.Entry.TheVariants as entries
use Rattle.fdp_base.specs.CommandKinds.{is_write}
use Rattle.fdp_base.proofs.Entries.{by-entry}
use Rattle.fdp_base.specs.Numbers.{with_at}
use Rattle.fdp_rules.specs.Change.{after, changed_by, holds_ticket, one_more_placed, started}
use Rattle.fdp_rules.specs.History.{Found, first_state, state_of}
use Rattle.fdp_rules.specs.PlainState.{Going, PlainState}
use Rattle.fdp_rules.specs.Queue.{starting_queue}
use Rattle.fdp_rules.specs.Seats.{queue_of_ticket, seat_of_entry}
use Rattle.fdp_rules.proofs.Pushes.{state_of-push}
use Rattle.fdp_history.proofs.Effects.{fewer-going}
use Rattle.fdp_history.proofs.Others.{others-before, others-going}
use Rattle.fdp_history.proofs.Placing.{holder, read-placed}
use Rattle.fdp_history.proofs.Starting.{read-started}

-- ---- entries by their place

earlier-entry : (es : List Entry) (e : Entry) (i : ℕ) → i < length es → slice_get (es ++ e ∷ []) i ≡ slice_get es i
earlier-entry [] e i below = absurd (omega (arith, below))
earlier-entry (x ∷ xs) e zero below = refl
earlier-entry (x ∷ xs) e (suc i) below = earlier-entry xs e i (omega (arith, below))

last-entry : (es : List Entry) (e : Entry) → slice_get (es ++ e ∷ []) (length es) ≡ Some e
last-entry [] e = refl
last-entry (x ∷ xs) e = last-entry xs e

-- ---- tickets

-- the positions are those of these entries; the entry with the ticket of a going write is one of them, and let it go in its queue
record IsSeated (f : Found) (es : List Entry) (s : PlainState) : Type 0 where
  pub position : s.position ≡ f.totals.position + length es
  pub early : (queue : ℕ) (g : Going) → s.going queue ≡ Some g → g.ticket ≤ f.totals.position + length es
  pub late : (queue : ℕ) (g : Going) → s.going queue ≡ Some g → f.totals.position + 1 ≤ g.ticket
  pub seat : (queue : ℕ) (g : Going) → s.going queue ≡ Some g → queue_of_ticket f es g.ticket ≡ queue

-- an earlier ticket is of the same queue when there is an entry more
same-seat : (f : Found) (es : List Entry) (e : Entry) (ticket : ℕ) → f.totals.position + 1 ≤ ticket → ticket ≤ f.totals.position + length es → queue_of_ticket f (es ++ e ∷ []) ticket ≡ queue_of_ticket f es ticket
same-seat f es e ticket low high = ap (λ (o : Option Entry). option_map_or starting_queue o 0) (earlier-entry es e (ticket - (f.totals.position + 1)) (omega (arith, low, high)))

-- each write that is going was going before with the same ticket
kept-seated : (c : DriveConfig) (f : Found) (es : List Entry) (e : Entry) (s : PlainState) → ((queue : ℕ) (g : Going) → (changed_by c s e).going queue ≡ Some g → (x : Going) × (s.going queue ≡ Some x) × (x.ticket ≡ g.ticket)) → IsSeated f es s → IsSeated f (es ++ e ∷ []) (after c s e)
unfolding after
kept-seated c f es e s from h = record {
  position = omega (arith, h.position, length-append es (e ∷ []));
  early = λ queue g some. let x = from queue g some in omega (arith, h.early queue x.0 x.1, x.2, length-append es (e ∷ []));
  late = λ queue g some. let x = from queue g some in omega (arith, h.late queue x.0 x.1, x.2);
  seat = λ queue g some.
      let x = from queue g some in
      ap (queue_of_ticket f (es ++ e ∷ [])) (sym x.2) ∙ same-seat f es e x.0.ticket (h.late queue x.0 x.1) (h.early queue x.0 x.1) ∙ h.seat queue x.0 x.1;
}

-- or was let go by the entry
started-seated : (c : DriveConfig) (f : Found) (es : List Entry) (queue number : ℕ) (command : Command) (rg ruh : ℕ) (pid_valid : Bool) (s : PlainState) → IsSeated f es s → IsSeated f (es ++ entries.Started (record { queue = queue; number = number; command = command; rg = rg; ruh = ruh; pid_valid = pid_valid }) ∷ []) (after c s (entries.Started (record { queue = queue; number = number; command = command; rg = rg; ruh = ruh; pid_valid = pid_valid })))
unfolding after changed_by
started-seated c f es queue number command rg ruh pid_valid s h =
    let e : Entry = entries.Started (record { queue = queue; number = number; command = command; rg = rg; ruh = ruh; pid_valid = pid_valid }) in
    let new : Going = started c s number command rg ruh pid_valid in
    let longer : length (es ++ e ∷ []) ≡ length es + 1 = length-append es (e ∷ []) in
    let ticket : new.ticket ≡ f.totals.position + length es + 1 = omega (arith, h.position) in
    let place : new.ticket - (f.totals.position + 1) ≡ length es = omega (arith, ticket) in
    let seated : queue_of_ticket f (es ++ e ∷ []) new.ticket ≡ queue =
    ap (λ (i : ℕ). option_map_or starting_queue (slice_get (es ++ e ∷ []) i) 0) place ∙ ap (λ (o : Option Entry). option_map_or starting_queue o 0) (last-entry es e) in
    record {
      position = omega (arith, h.position, longer);
      early = λ i g some. ⊎_elim (λ here. let same : new.ticket ≡ g.ticket = ap (λ (x : Going). x.ticket) here.1 in omega (arith, same, ticket, longer)) (λ there. omega (arith, h.early i g there, longer)) (read-started s queue i new g some);
      late = λ i g some. ⊎_elim (λ here. let same : new.ticket ≡ g.ticket = ap (λ (x : Going). x.ticket) here.1 in omega (arith, same, ticket)) (λ there. h.late i g there) (read-started s queue i new g some);
      seat = λ i g some. ⊎_elim
          (λ here. ap (λ (x : Going). queue_of_ticket f (es ++ e ∷ []) x.ticket) (sym here.1) ∙ seated ∙ sym here.0)
          (λ there. same-seat f es e g.ticket (h.late i g there) (h.early i g there) ∙ h.seat i g there)
          (read-started s queue i new g some);
    }

seated-next : (c : DriveConfig) (f : Found) (es : List Entry) (e : Entry) (s : PlainState) → IsSeated f es s → IsSeated f (es ++ e ∷ []) (after c s e)
unfolding changed_by
seated-next c f es e s h =
    let P : Entry → Type 0 = λ x. IsSeated f (es ++ x ∷ []) (after c s x) in
    by-entry P
    (λ host. kept-seated c f es (entries.Host host) s (λ i g some. (g, fewer-going s host.queue (is_write host.command) i g some, refl)) h)
    (λ started. started-seated c f es started.queue started.number started.command started.rg started.ruh started.pid_valid s h)
    (λ p. kept-seated c f es (entries.Placed p) s
    (λ i g some.
    let r = read-placed s p.ticket i g some in
    let same : r.0.ticket ≡ g.ticket = ⊎_elim (λ more. sym (ap (λ (x : Going). x.ticket) more.1)) (λ is. sym (ap (λ (x : Going). x.ticket) is)) r.2 in
    (r.0, r.1, same))
    h)
    (λ x other. kept-seated c f es x s (λ i g some. (g, others-before c s x other i g some, refl)) h)
    e

seated-first : (c : DriveConfig) (f : Found) → IsSeated f [] (state_of c f [])
unfolding state_of first_state
seated-first c f = record { position = omega arith; early = λ queue g some. absurd cc; late = λ queue g some. absurd cc; seat = λ queue g some. absurd cc }

seated-after : (c : DriveConfig) (f : Found) (before es : List Entry) → IsSeated f before (state_of c f before) → IsSeated f (before ++ es) (state_of c f (before ++ es))
seated-after c f before [] h = subst (λ (xs : List Entry). IsSeated f xs (state_of c f xs)) (sym (append-nil before)) h
seated-after c f before (e ∷ es) h =
    let one : IsSeated f (before ++ e ∷ []) (state_of c f (before ++ e ∷ [])) = subst (IsSeated f (before ++ e ∷ [])) (sym (state_of-push c f before e)) (seated-next c f before e (state_of c f before) h) in
    subst (λ (xs : List Entry). IsSeated f xs (state_of c f xs)) (append_assoc before (e ∷ []) es) (seated-after c f (before ++ e ∷ []) es one)

-- ---- entries of others

-- a table keeps its value at another place
other-place : (table : ℕ → Option Going) (place : ℕ) (value : Option Going) (i : ℕ) → place ≢ i → with_at table place value i ≡ table i
other-place table place value i ne = let other : i ≢ place = λ same. ne (sym same) in rw (ne_eqb i place other) refl

other-completed : (s : PlainState) (queue i : ℕ) (write : Bool) → queue ≢ i → (if write then with_at s.going queue None else s.going) i ≡ s.going i
other-completed s queue i true ne = other-place s.going queue None i ne
other-completed s queue i false ne = refl

other-placed : (f : Found) (es : List Entry) (s : PlainState) (ticket i : ℕ) → IsSeated f es s → queue_of_ticket f es ticket ≢ i → (if holds_ticket s ticket i then option_map one_more_placed (s.going i) else s.going i) ≡ s.going i
other-placed f es s ticket i h ne =
    let P : Bool → Type 0 = λ b. holds_ticket s ticket i ≡ b → cond b (option_map one_more_placed (s.going i)) (s.going i) ≡ s.going i in
    elim (holds_ticket s ticket i) as P [
      | true ↦ λ t. let g = holder s ticket i t in absurd (ne (ap (queue_of_ticket f es) (sym g.2) ∙ h.seat i g.0 g.1))
      | false ↦ λ _. refl
    ] refl

first-idle : (c : DriveConfig) (f : Found) (es : List Entry) (i : ℕ) → es ≡ [] → (state_of c f es).going i ≡ None
unfolding state_of first_state
first-idle c f [] i e = refl
first-idle c f (x ∷ xs) i e = absurd cc

-- nothing is going before a drive was opened, nor when it was
opened-idle : (c : DriveConfig) (s : PlainState) (i : ℕ) → s.going i ≡ None → (after c s entries.Reopened).going i ≡ s.going i
unfolding after changed_by
opened-idle c s i none = sym none

others-keep-going : (c : DriveConfig) (f : Found) (es : List Entry) (e : Entry) (i : ℕ) → (e ≡ entries.Reopened → es ≡ []) → seat_of_entry f es e ≢ i → (after c (state_of c f es) e).going i ≡ (state_of c f es).going i
unfolding after changed_by
others-keep-going c f es e i first ne =
    let s : PlainState = state_of c f es in
    let P : Entry → Type 0 = λ x. (x ≡ entries.Reopened → es ≡ []) → seat_of_entry f es x ≢ i → (after c s x).going i ≡ s.going i in
    by-entry P
    (λ h next other. other-completed s h.queue i (is_write h.command) other)
    (λ started next other. other-place s.going started.queue _ i other)
    (λ p next other. other-placed f es s p.ticket i (seated-after c f [] es (seated-first c f)) other)
    (λ x is next other. ⊎_elim
    (λ same. ap (λ (going : ℕ → Option Going). going i) same)
    (λ opened. subst (λ (y : Entry). (after c s y).going i ≡ s.going i) (sym opened) (opened-idle c s i (first-idle c f es i (next opened))))
    (others-going c s x is))
    e first ne

-- an entry that carries another number leaves the write of a queue as it is
pub others-keep : (c : DriveConfig) (f : Found) (es : List Entry) (e : Entry) (queue : ℕ) → (e ≡ entries.Reopened → es ≡ []) → seat_of_entry f es e ≢ queue → (state_of c f (es ++ e ∷ [])).going queue ≡ (state_of c f es).going queue
others-keep c f es e queue first ne = ap (λ (s : PlainState). s.going queue) (state_of-push c f es e) ∙ others-keep-going c f es e queue first ne

-- the position of the last entry of a history
pub position-is : (c : DriveConfig) (f : Found) (es : List Entry) → (state_of c f es).position ≡ f.totals.position + length es
position-is c f es = let seated = seated-after c f [] es (seated-first c f) in seated.position

-- the ticket of a going write is that of its queue
pub ticket-queue : (c : DriveConfig) (f : Found) (es : List Entry) (queue : ℕ) (g : Going) → (state_of c f es).going queue ≡ Some g → queue_of_ticket f es g.ticket ≡ queue
ticket-queue c f es queue g is = let seated = seated-after c f [] es (seated-first c f) in seated.seat queue g is
