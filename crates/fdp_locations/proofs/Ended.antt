-- What the beginning and the end of a write leave of owners and pointers.
use Rattle.std.proofs.Common.{◌≡◌, ◌≢◌, ℕ, ◌≤◌, ◌<◌, Bool, true, false, List, Option, Some, None, refl, sym, ◌∙◌, ap, subst, arith, ⊎_elim, eq-eqb, ne_eqb}
use Rattle.std.specs.Prelude.{Contains, IsFalse, IsTrue, not, if◌then◌else◌, option_and_then, is_some}
use Rattle.std.specs.List.{list_any}
use Rattle.std.proofs.lemmas.Bool.{cases_eq}
use Rattle.fdp_base.specs.declared.command.Command.{Command}
use Rattle.fdp_base.specs.declared.command.Command.TheVariants as commands
use Rattle.fdp_base.specs.declared.command.Write.{Write}
use Rattle.fdp_base.specs.declared.config.DriveConfig.{DriveConfig}
use Rattle.fdp_base.specs.declared.entry.Copied.{Copied}
use Rattle.fdp_base.specs.declared.entry.Entry.{Entry}
use Rattle.fdp_base.specs.declared.entry.Entry.TheVariants as entries
use Rattle.fdp_base.specs.declared.entry.Reply.{Reply}
use Rattle.fdp_base.specs.declared.entry.Spot.{Spot}
use Rattle.fdp_base.specs.CommandKinds.{is_write}
use Rattle.fdp_base.specs.Numbers.{with_at}
use Rattle.fdp_history.specs.OrderlyState.{IsOrderlyState}
use Rattle.fdp_locations.specs.Located.{AreLed, next_in}
use Rattle.fdp_locations.specs.Written.{Written}
use Rattle.fdp_locations.proofs.Kept.{WasNamed, holds-same, kept_by, led-still, owners-kept}
use Rattle.fdp_owners.specs.declared.owner.Owner.{Owner}
use Rattle.fdp_owners.specs.Owned.{AreOwners, page_of}
use Rattle.fdp_owners.specs.OwnerTable.{owner_at, pointer_of}
use Rattle.fdp_pages.specs.PageTables.{PageTables, copies_at, passes_at}
use Rattle.fdp_pages.specs.Steps.{without}
use Rattle.fdp_pointers.specs.Contents.{ended_by}
use Rattle.fdp_pointers.specs.Facts.{Page}
use Rattle.fdp_pointers.specs.Pointers.{Behind, Pointer, Pointer.of_block, Pointer.of_flight, is_of_another, only, renamed, taken_by}
use Rattle.fdp_rules.specs.Change.{after, changed_by}
use Rattle.fdp_rules.specs.Next.{next}
use Rattle.fdp_rules.specs.PlainState.{Going, PlainState}
use Rattle.fdp_rules.specs.Point.{Point}
use Rattle.fdp_rules.specs.Sites.{is_spot}
use Rattle.fdp_rules.specs.Step.{Follows}
use Rattle.fdp_trails.specs.Followed.{IsPassOf}
use Rattle.fdp_base.proofs.Writes.{by-write}
use Rattle.fdp_pointers.proofs.Names.{keeps-all-or-some}

never : {X : Type 0} {x : X} → None ≡ Some x → ⊥
never e = cc

-- ---- the pages of a write are released

-- the pages of the write that is going in a queue are these
pub record AreItsPages (at : Behind Page) (queue : ℕ) (spots : List Spot) : Type 0 where
  pub each : (index : ℕ) (y : Page) → at (of_flight queue index) ≡ Some y → IsTrue (list_any (is_spot y.spot) spots)
  pub none : (p : Pointer) (y : Page) → IsTrue (is_of_another queue p) → at p ≡ Some y → IsFalse (list_any (is_spot y.spot) spots)

-- an owner is one of the write's pages, or of another pointer
release-at : (at : Behind Page) (queue : ℕ) (spots : List Spot) (spot : Spot) (x : Owner) (p : Pointer) → AreItsPages at queue spots → pointer_of x ≡ p → at p ≡ Some (page_of spot x) → (if list_any (is_spot spot) spots then None else Some x) ≡ (if is_of_another queue p then Some x else None)
release-at at queue spots spot x (of_block n l) h is led = ap (λ (b : Bool). if b then None else Some x) (h.none (of_block n l) (page_of spot x) refl led)
release-at at queue spots spot x (of_flight q i) h is led =
    ⊎_elim
    (λ (e : q ≡ queue).
    let here : at (of_flight queue i) ≡ Some (page_of spot x) = ap (λ (k : ℕ). at (of_flight k i)) (sym e) ∙ led in
    ap (λ (b : Bool). if b then None else Some x) (h.each i (page_of spot x) here) ∙ sym (ap (λ (b : Bool). if not b then Some x else None) (eq-eqb q queue e)))
    (λ (ne : q ≢ queue).
    let other : is_of_another queue (of_flight q i) ≡ true = ap not (ne_eqb q queue ne) in
    ap (λ (b : Bool). if b then None else Some x) (h.none (of_flight q i) (page_of spot x) other led) ∙ sym (ap (λ (b : Bool). if b then Some x else None) other))
    (cases_eq q queue)

nothing : {X : Type 0} (b : Bool) (o : Option X) → o ≡ None → o ≡ (if b then None else o)
nothing true o e = e
nothing false o e = refl

-- without these pages the owners are those of the other pointers
released : (owners : Spot → Option Owner) (at : Behind Page) (queue : ℕ) (spots : List Spot) → AreOwners owners at → AreItsPages at queue spots → (spot : Spot) → kept_by (is_of_another queue) owners spot ≡ without owners spots spot
released owners at queue spots h its spot =
    (elim (owners spot) as (λ (o : Option Owner). owners spot ≡ o → option_and_then (λ (x : Owner). if is_of_another queue (pointer_of x) then Some x else None) o ≡ (if list_any (is_spot spot) spots then None else o)) [
      | None ↦ λ e. nothing (list_any (is_spot spot) spots) None refl
      | Some x ↦ λ e. sym (release-at at queue spots spot x (pointer_of x) its refl (h.led spot x e))
    ]) refl

pub owners-released : (owners now : Spot → Option Owner) (at : Behind Page) (queue : ℕ) (spots : List Spot) → AreOwners owners at → AreItsPages at queue spots → now ≡ without owners spots → AreOwners now (renamed (only (is_of_another queue)) at)
owners-released owners now at queue spots h its is =
    subst (λ (o : Spot → Option Owner). AreOwners o (renamed (only (is_of_another queue)) at)) (sym is)
    (subst (λ (o : Spot → Option Owner). AreOwners o (renamed (only (is_of_another queue)) at)) (λ d spot. released owners at queue spots h its spot d) (owners-kept (is_of_another queue) owners at h))

-- ---- no write is going in a queue any more, or one without a page

another-flight : (queue q i : ℕ) (at : Behind Page) (y : Page) → renamed (only (is_of_another queue)) at (of_flight q i) ≡ Some y → (q ≢ queue) × (at (of_flight q i) ≡ Some y)
another-flight queue q i at y e =
    ⊎_elim
    (λ (same : q ≡ queue). absurd (never (sym (ap (λ (b : Bool). option_and_then at (if not b then Some (of_flight q i) else None)) (eq-eqb q queue same)) ∙ e)))
    (λ (ne : q ≢ queue). (ne, sym (ap (λ (b : Bool). option_and_then at (if not b then Some (of_flight q i) else None)) (ne_eqb q queue ne)) ∙ e))
    (cases_eq q queue)

-- the writes of other queues are going as before
was-named : (s now : PlainState) (queue : ℕ) (x : Option Going) (at : Behind Page) → now.going ≡ with_at s.going queue x → WasNamed s now at (renamed (only (is_of_another queue)) at)
was-named s now queue x at same q i g y going there =
    let was = another-flight queue q i at y there in
    let before : s.going q ≡ Some g = sym (ap (λ (b : Bool). if b then x else s.going q) (ne_eqb q queue was.0)) ∙ sym (ap (λ (f : ℕ → Option Going). f q) same) ∙ going in
    (g, before, refl, was.1)

started-going : (c : DriveConfig) (p : Point) (queue number : ℕ) (command : Command) (rg ruh : ℕ) (pid_valid : Bool) → (x : Option Going) × ((next c p (entries.Started (record { queue = queue; number = number; command = command; rg = rg; ruh = ruh; pid_valid = pid_valid }))).state.going ≡ with_at p.state.going queue x)
unfolding next after changed_by
started-going c p queue number command rg ruh pid_valid = (_, refl)

-- a write is let go: one that was going in its queue is forgotten
pub led-started : (told : Bool) (c : DriveConfig) (p : Point) (queue number : ℕ) (command : Command) (rg ruh : ℕ) (pid_valid : Bool) (written : Spot → Option Written) (at : Behind Page) (t now : PageTables) →
    IsOrderlyState c p.state → Follows told c p (entries.Started (record { queue = queue; number = number; command = command; rg = rg; ruh = ruh; pid_valid = pid_valid })) →
    AreOwners (owner_at now.owners) (renamed (only (is_of_another queue)) at) → ((unit : ℕ) → next_in t.units unit ≤ next_in now.units unit) →
    ((k : ℕ) → k < c.groups → IsPassOf (renamed (only (is_of_another queue)) at) (next c p (entries.Started (record { queue = queue; number = number; command = command; rg = rg; ruh = ruh; pid_valid = pid_valid }))).trail k (passes_at now k)) →
    ((k : ℕ) (x : Copied) → Contains (copies_at now k) x → Contains (copies_at t k) x) →
    AreLed c p written at t →
    AreLed c (next c p (entries.Started (record { queue = queue; number = number; command = command; rg = rg; ruh = ruh; pid_valid = pid_valid }))) written (renamed (only (is_of_another queue)) at) now
led-started told c p queue number command rg ruh pid_valid written at t now orderly follows owned up passes fewer h =
    let e : Entry = entries.Started (record { queue = queue; number = number; command = command; rg = rg; ruh = ruh; pid_valid = pid_valid }) in
    let going = started-going c p queue number command rg ruh pid_valid in
    led-still told c p e written written at t now orderly follows refl (holds-same written (renamed (only (is_of_another queue)) at)) owned
    (was-named p.state (next c p e).state queue going.0 at going.1) up passes (λ k group x among. h.copies k group x (fewer k x among)) h

-- ---- a command ends whose change is not made

abbrev pub host : ℕ → ℕ → Command → Reply → ℕ → Entry
host queue number command reply moment = entries.Host (record { queue = queue; number = number; command = command; reply = reply; moment = moment })

host-going : (c : DriveConfig) (p : Point) (queue number : ℕ) (command : Command) (reply : Reply) (moment : ℕ) → (next c p (host queue number command reply moment)).state.going ≡ (if is_write command then with_at p.state.going queue None else p.state.going)
unfolding next after changed_by
host-going c p queue number command reply moment = refl

-- what it does to the pointers: after a write none leads to a page of its queue
pub ends-as : (s : PlainState) (queue : ℕ) (made : Bool) (command : Command) → made ≡ false → ended_by s queue made command ≡ (if is_write command then only (is_of_another queue) else Some)
ends-as s queue made command unmade =
    subst (λ (b : Bool). ended_by s queue b command ≡ (if is_write command then only (is_of_another queue) else Some)) (sym unmade) (each command)
  where
    each : (k : Command) → ended_by s queue false k ≡ (if is_write k then only (is_of_another queue) else Some)
    each =
        by-write (λ k. ended_by s queue false k ≡ (if is_write k then only (is_of_another queue) else Some))
        (λ w. refl)
        (λ k other. ⊎_elim (λ all. all false) (λ some. some.ends false) (keeps-all-or-some s queue k other) ∙ sym (ap (λ (o : Option Write). if is_some o then only (is_of_another queue) else Some) other))

-- a write: none is going in its queue after it
pub led-ended : (told : Bool) (c : DriveConfig) (p : Point) (queue number : ℕ) (command : Command) (reply : Reply) (moment : ℕ) (written : Spot → Option Written) (at : Behind Page) (t now : PageTables) →
    IsOrderlyState c p.state → Follows told c p (host queue number command reply moment) → IsTrue (is_write command) → reply.applied ≡ false →
    AreOwners (owner_at now.owners) (renamed (only (is_of_another queue)) at) → ((unit : ℕ) → next_in t.units unit ≤ next_in now.units unit) →
    ((k : ℕ) → k < c.groups → IsPassOf (renamed (only (is_of_another queue)) at) (next c p (host queue number command reply moment)).trail k (passes_at now k)) →
    ((k : ℕ) (x : Copied) → Contains (copies_at now k) x → Contains (copies_at t k) x) →
    AreLed c p written at t → AreLed c (next c p (host queue number command reply moment)) written (renamed (only (is_of_another queue)) at) now
led-ended told c p queue number command reply moment written at t now orderly follows write unmade owned up passes fewer h =
    let e : Entry = host queue number command reply moment in
    let r : Pointer → Option Pointer = only (is_of_another queue) in
    let is : ended_by p.state queue reply.applied command ≡ r = ends-as p.state queue reply.applied command unmade ∙ ap (λ (b : Bool). if b then r else Some) write in
    let going : (next c p e).state.going ≡ with_at p.state.going queue None = host-going c p queue number command reply moment ∙ ap (λ (b : Bool). if b then with_at p.state.going queue None else p.state.going) write in
    let to : (X : (Pointer → Option Pointer) → Type 0) → X r → X (ended_by p.state queue reply.applied command) = λ X x. subst X (sym is) x in
    subst (λ (k : Pointer → Option Pointer). AreLed c (next c p e) written (renamed k at) now) is
    (led-still told c p e written written at t now orderly follows refl (holds-same written (renamed (ended_by p.state queue reply.applied command) at))
    (to (λ k. AreOwners (owner_at now.owners) (renamed k at)) owned)
    (to (λ k. WasNamed p.state (next c p e).state at (renamed k at)) (was-named p.state (next c p e).state queue None at going))
    up
    (λ k group. to (λ f. IsPassOf (renamed f at) (next c p e).trail k (passes_at now k)) (passes k group))
    (λ k group x among. h.copies k group x (fewer k x among)) h)

-- another command: all stays
pub led-answered : (told : Bool) (c : DriveConfig) (p : Point) (queue number : ℕ) (command : Command) (reply : Reply) (moment : ℕ) (written : Spot → Option Written) (at : Behind Page) (t : PageTables) →
    IsOrderlyState c p.state → Follows told c p (host queue number command reply moment) → IsFalse (is_write command) → reply.applied ≡ false →
    ((k : ℕ) → k < c.groups → IsPassOf at (next c p (host queue number command reply moment)).trail k (passes_at t k)) →
    AreLed c p written at t → AreLed c (next c p (host queue number command reply moment)) written at t
led-answered told c p queue number command reply moment written at t orderly follows other unmade passes h =
    let e : Entry = host queue number command reply moment in
    let is : ended_by p.state queue reply.applied command ≡ Some = ends-as p.state queue reply.applied command unmade ∙ ap (λ (b : Bool). if b then only (is_of_another queue) else Some) other in
    let going : (next c p e).state.going ≡ p.state.going = host-going c p queue number command reply moment ∙ ap (λ (b : Bool). if b then with_at p.state.going queue None else p.state.going) other in
    let to : (X : (Pointer → Option Pointer) → Type 0) → X Some → X (ended_by p.state queue reply.applied command) = λ X x. subst X (sym is) x in
    subst (λ (k : Pointer → Option Pointer). AreLed c (next c p e) written (renamed k at) t) is
    (led-still told c p e written written at t t orderly follows refl (holds-same written (renamed (ended_by p.state queue reply.applied command) at))
    (to (λ k. AreOwners (owner_at t.owners) (renamed k at)) h.owned)
    (to (λ k. WasNamed p.state (next c p e).state at (renamed k at)) (λ q i g y is_going there. (g, sym (ap (λ (f : ℕ → Option Going). f q) going) ∙ is_going, refl, there)))
    (λ unit. omega arith)
    (λ k group. to (λ f. IsPassOf (renamed f at) (next c p e).trail k (passes_at t k)) (passes k group))
    h.copies h)

-- ---- a write succeeds

taken-flight : (queue nsid slba count q i : ℕ) (at : Behind Page) (y : Page) → renamed (taken_by queue nsid slba count) at (of_flight q i) ≡ Some y → (q ≢ queue) × (at (of_flight q i) ≡ Some y)
taken-flight queue nsid slba count q i at y e =
    ⊎_elim
    (λ (same : q ≡ queue). absurd (never (sym (ap (λ (b : Bool). option_and_then at (if b then None else Some (of_flight q i))) (eq-eqb q queue same)) ∙ e)))
    (λ (ne : q ≢ queue). (ne, sym (ap (λ (b : Bool). option_and_then at (if b then None else Some (of_flight q i))) (ne_eqb q queue ne)) ∙ e))
    (cases_eq q queue)

taken-named : (s now : PlainState) (queue nsid slba count : ℕ) (at : Behind Page) → now.going ≡ with_at s.going queue None → WasNamed s now at (renamed (taken_by queue nsid slba count) at)
taken-named s now queue nsid slba count at same q i g y going there =
    let was = taken-flight queue nsid slba count q i at y there in
    let before : s.going q ≡ Some g = sym (ap (λ (b : Bool). if b then None else s.going q) (ne_eqb q queue was.0)) ∙ sym (ap (λ (f : ℕ → Option Going). f q) same) ∙ going in
    (g, before, refl, was.1)

success-going : (c : DriveConfig) (p : Point) (queue number : ℕ) (w : Write) (reply : Reply) (moment : ℕ) → (next c p (host queue number (commands.Write w) reply moment)).state.going ≡ with_at p.state.going queue None
unfolding next after changed_by
success-going c p queue number w reply moment = refl

pub led-committed : (told : Bool) (c : DriveConfig) (p : Point) (queue number : ℕ) (w : Write) (reply : Reply) (moment : ℕ) (written : Spot → Option Written) (at : Behind Page) (t now : PageTables) →
    IsOrderlyState c p.state → Follows told c p (host queue number (commands.Write w) reply moment) → reply.applied ≡ true →
    AreOwners (owner_at now.owners) (renamed (taken_by queue w.nsid w.slba w.count) at) → ((unit : ℕ) → next_in t.units unit ≤ next_in now.units unit) →
    ((k : ℕ) → k < c.groups → IsPassOf (renamed (taken_by queue w.nsid w.slba w.count) at) (next c p (host queue number (commands.Write w) reply moment)).trail k (passes_at now k)) →
    ((k : ℕ) (x : Copied) → Contains (copies_at now k) x → Contains (copies_at t k) x) →
    AreLed c p written at t → AreLed c (next c p (host queue number (commands.Write w) reply moment)) written (renamed (taken_by queue w.nsid w.slba w.count) at) now
led-committed told c p queue number w reply moment written at t now orderly follows made owned up passes fewer h =
    let e : Entry = host queue number (commands.Write w) reply moment in
    let r : Pointer → Option Pointer = taken_by queue w.nsid w.slba w.count in
    let is : ended_by p.state queue reply.applied (commands.Write w) ≡ r = ap (λ (b : Bool). if b then r else only (is_of_another queue)) made in
    let to : (X : (Pointer → Option Pointer) → Type 0) → X r → X (ended_by p.state queue reply.applied (commands.Write w)) = λ X x. subst X (sym is) x in
    subst (λ (k : Pointer → Option Pointer). AreLed c (next c p e) written (renamed k at) now) is
    (led-still told c p e written written at t now orderly follows refl (holds-same written (renamed (ended_by p.state queue reply.applied (commands.Write w)) at))
    (to (λ k. AreOwners (owner_at now.owners) (renamed k at)) owned)
    (to (λ k. WasNamed p.state (next c p e).state at (renamed k at)) (taken-named p.state (next c p e).state queue w.nsid w.slba w.count at (success-going c p queue number w reply moment)))
    up
    (λ k group. to (λ f. IsPassOf (renamed f at) (next c p e).trail k (passes_at now k)) (passes k group))
    (λ k group x among. h.copies k group x (fewer k x among)) h)
