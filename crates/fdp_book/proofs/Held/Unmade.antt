-- Where the pointers lead behind the end of a command whose change is not made, whatever it answers.
use Rattle.std.proofs.Common.{◌≡◌, ◌≢◌, ℕ, ◌≤◌, ◌<◌, Bool, true, false, ◌&&◌, ◌∷◌, Option, Some, None, refl, sym, ◌∙◌, ap, subst, arith, ⊎_elim, eq-eqb, ne_eqb}
use Rattle.std.specs.Prelude.{Contains, IsFalse, if◌then◌else◌, not, option_and_then}
use Rattle.std.proofs.lemmas.Bool.{cases_eq}
use Rattle.fdp_base.specs.declared.command.Command.{Command}
use Rattle.fdp_base.specs.declared.config.DriveConfig.{DriveConfig}
use Rattle.fdp_base.specs.declared.entry.Copied.{Copied}
use Rattle.fdp_base.specs.declared.entry.Reply.{Reply}
use Rattle.fdp_base.specs.declared.entry.Spot.{Spot}
use Rattle.fdp_base.specs.CommandKinds.{is_setting}
use Rattle.fdp_base.specs.Numbers.{with_at}
use Rattle.fdp_history.specs.OrderlyState.{IsOrderlyState}
use Rattle.fdp_readings.specs.fdp_locations.Located.{AreHandled, AreLed, AreNamed, next_in}
use Rattle.fdp_readings.specs.fdp_locations.Written.{IsWritten, Written}
use Rattle.fdp_readings.proofs.fdp_locations.Handled.{handled-renamed}
use Rattle.fdp_readings.proofs.fdp_locations.Grouped.{generation-next, units-renamed, units-same}
use Rattle.fdp_readings.proofs.fdp_locations.Ended.{host}
use Rattle.fdp_owners.specs.Owned.{AreOwners}
use Rattle.fdp_owners.specs.OwnerTable.{owner_at}
use Rattle.fdp_readings.specs.fdp_pages.PageTables.{PageTables, copies_at, passes_at}
use Rattle.fdp_pointers.specs.Contents.{PageContent, content_at, ended_by}
use Rattle.fdp_pointers.specs.Facts.{Carries, FollowsSites, IsTableOf, Page}
use Rattle.fdp_pointers.specs.Pointers.{Behind, Pointer, Pointer.of_flight, is_of_another, only, renamed}
use Rattle.fdp_pointers.proofs.Carrying.{carries-renamed}
use Rattle.fdp_pointers.proofs.Changes.{content-ended, everywhere}
use Rattle.fdp_pointers.proofs.Copies.{copies-renamed}
use Rattle.fdp_pointers.proofs.Names.{entry-injective}
use Rattle.fdp_pointers.proofs.Renaming.{apart-renamed, below-renamed, follows-renamed}
use Rattle.fdp_pointers.proofs.Tables.{table-raised}
use Rattle.fdp_rules.specs.Change.{after, changed_by, is_media_error}
use Rattle.fdp_rules.specs.Next.{next}
use Rattle.fdp_rules.specs.PlainState.{Going, PlainState}
use Rattle.fdp_rules.specs.Point.{Point}
use Rattle.fdp_rules.specs.Sites.{traced_by}
use Rattle.fdp_readings.specs.fdp_trails.Followed.{IsPassOf}

-- ---- what stands behind the pointers

contents-unmade : (c : DriveConfig) (p : Point) (queue number : ℕ) (command : Command) (reply : Reply) (moment : ℕ) → IsOrderlyState c p.state → IsFalse reply.applied →
    content_at c (next c p (host queue number command reply moment)).state ≡ renamed (ended_by p.state queue reply.applied command) (content_at c p.state)
unfolding next after changed_by
contents-unmade c p queue number command reply moment orderly unmade =
    everywhere _ _ (content-ended c p.state queue command reply.applied (if is_media_error reply.status then moment ∷ p.state.media else p.state.media) orderly (λ made. absurd (let no : true ≡ false = sym made ∙ unmade in cc)))

table-unmade : (c : DriveConfig) (p : Point) (queue number : ℕ) (command : Command) (reply : Reply) (moment : ℕ) (pages : ℕ → ℕ) (at : Behind Page) → IsOrderlyState c p.state → IsFalse reply.applied → IsTableOf c p pages at →
    IsTableOf c (next c p (host queue number command reply moment)) pages (renamed (ended_by p.state queue reply.applied command) at)
unfolding next traced_by
table-unmade c p queue number command reply moment pages at orderly unmade h =
    let r : Pointer → Option Pointer = ended_by p.state queue reply.applied command in
    record {
      follows = subst (λ (k : Behind PageContent). FollowsSites k p.trail.site (renamed r at)) (sym (contents-unmade c p queue number command reply moment orderly unmade)) (follows-renamed r (content_at c p.state) p.trail.site at h.follows);
      apart = apart-renamed r at (entry-injective p.state (host queue number command reply moment)) h.apart;
      below = below-renamed r pages at h.below;
      copies = λ rg. copies-renamed pages at r (p.trail.copies rg) (h.copies rg);
    }

-- ---- what the spares of pages of going writes name

never : {X : Type 0} {x : X} → None ≡ Some x → ⊥
never e = cc

-- no write is going in a queue any more
pub named-ended : (s now : PlainState) (queue : ℕ) (at : Behind Page) → now.going ≡ with_at s.going queue None → AreNamed s at → AreNamed now (renamed (only (is_of_another queue)) at)
named-ended s now queue at same h q index g w y going write there =
    ⊎_elim
    (λ (e : q ≡ queue). absurd (never (sym (ap (λ (b : Bool). option_and_then at (if not b then Some (of_flight q index) else None)) (eq-eqb q queue e)) ∙ there)))
    (λ (ne : q ≢ queue).
    h q index g w y
    (sym (ap (λ (b : Bool). if b then None else s.going q) (ne_eqb q queue ne)) ∙ sym (ap (λ (f : ℕ → Option Going). f q) same) ∙ going)
    write
    (sym (ap (λ (b : Bool). option_and_then at (if not b then Some (of_flight q index) else None)) (ne_eqb q queue ne)) ∙ there))
    (cases_eq q queue)

-- the same writes are going
pub named-same : (s now : PlainState) (at : Behind Page) → now.going ≡ s.going → AreNamed s at → AreNamed now at
named-same s now at same h q index g w y going = h q index g w y (sym (ap (λ (f : ℕ → Option Going). f q) same) ∙ going)

-- ---- the pages

unset : (b : Bool) → (b && false) ≡ false
unset true = refl
unset false = refl

pub led-unmade : (c : DriveConfig) (p : Point) (queue number : ℕ) (command : Command) (reply : Reply) (moment : ℕ) (written : Spot → Option Written) (r : Pointer → Option Pointer) (at : Behind Page) (t now : PageTables) →
    IsOrderlyState c p.state → IsFalse reply.applied → ended_by p.state queue reply.applied command ≡ r →
    AreOwners (owner_at now.owners) (renamed r at) → AreNamed (next c p (host queue number command reply moment)).state (renamed r at) → ((unit : ℕ) → next_in t.units unit ≤ next_in now.units unit) →
    ((rg : ℕ) → rg < c.groups → IsPassOf (renamed r at) (next c p (host queue number command reply moment)).trail rg (passes_at now rg)) →
    ((rg : ℕ) (x : Copied) → Contains (copies_at now rg) x → Contains (copies_at t rg) x) →
    AreLed c p written at t → AreLed c (next c p (host queue number command reply moment)) written (renamed r at) now
led-unmade c p queue number command reply moment written r at t now orderly unmade is owned named up passes fewer h =
    let q : Point = next c p (host queue number command reply moment) in
    record {
      table = table-raised c q (next_in t.units) (next_in now.units) (renamed r at) up
          (subst (λ (k : Pointer → Option Pointer). IsTableOf c q (next_in t.units) (renamed k at)) is (table-unmade c p queue number command reply moment (next_in t.units) at orderly unmade h.table));
      owned = owned;
      named = named;
      handled = subst (λ (k : Pointer → Option Pointer). AreHandled q.state (renamed k at)) is (handled-renamed c p (host queue number command reply moment) at h.handled);
      units = units-renamed c q.state.generation r at (units-same c p.state.generation q.state.generation at (generation-next c p (host queue number command reply moment) (ap (λ (b : Bool). is_setting command && b) unmade ∙ unset (is_setting command))) h.units);
      holds = subst (λ (k : Behind PageContent). Carries (IsWritten written) k (renamed r at)) (ap (λ (k : Pointer → Option Pointer). renamed k (content_at c p.state)) (sym is) ∙ sym (contents-unmade c p queue number command reply moment orderly unmade))
          (carries-renamed (IsWritten written) r (content_at c p.state) at h.holds);
      below = λ spot x e. let low : spot.page < next_in t.units spot.unit = h.below spot x e in omega (arith, low, up spot.unit);
      passes = passes;
      copies = λ rg group x among. h.copies rg group x (fewer rg x among);
    }
