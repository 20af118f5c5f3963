-- What stays of owners and pointers where some pointers lose their pages.
use Rattle.std.proofs.Common.{◌≡◌, ℕ, ◌≤◌, ◌<◌, Bool, true, false, Option, Some, None, refl, sym, ◌∙◌, ap, subst, arith}
use Rattle.std.specs.Prelude.{IsFalse, IsTrue, if◌then◌else◌, is_some, option_and_then}
use Rattle.fdp_base.specs.declared.config.DriveConfig.{DriveConfig}
use Rattle.fdp_base.specs.declared.entry.Entry.{Entry}
use Rattle.fdp_base.specs.declared.entry.Spot.{Spot}
use Rattle.fdp_base.specs.CommandKinds.{write_of}
use Rattle.fdp_base.proofs.Entries.{by-entry}
use Rattle.fdp_history.specs.OrderlyState.{IsOrderlyState}
use Rattle.fdp_locations.specs.Located.{AreAlike, AreLed, AreNamed, next_in}
use Rattle.fdp_locations.specs.Written.{IsWritten, Written}
use Rattle.fdp_locations.proofs.Handled.{handled-renamed}
use Rattle.fdp_locations.proofs.Grouped.{units-next, units-renamed}
use Rattle.fdp_owners.specs.declared.owner.Owner.{Owner}
use Rattle.fdp_owners.specs.Owned.{AreOwners}
use Rattle.fdp_owners.specs.OwnerTable.{owner_at, pointer_of}
use Rattle.fdp_pages.specs.PageTables.{PageTables, copies_at, passes_at}
use Rattle.fdp_pointers.specs.Contents.{PageContent, content_at, leaves_pages, renamed_by, tells_placed}
use Rattle.fdp_pointers.specs.Facts.{Carries, Page}
use Rattle.fdp_pointers.specs.Pointers.{Behind, Pointer, Pointer.of_flight, only, renamed}
use Rattle.fdp_pointers.proofs.Carrying.{carries-kept, carries-renamed}
use Rattle.fdp_pointers.proofs.Steps.{contents-renamed}
use Rattle.fdp_pointers.proofs.Tables.{table-raised, table-renamed}
use Rattle.fdp_rules.specs.Next.{next}
use Rattle.fdp_rules.specs.PlainState.{Going, PlainState}
use Rattle.fdp_rules.specs.Point.{Point}
use Rattle.fdp_rules.specs.Step.{Follows}
use Rattle.fdp_trails.specs.Followed.{IsPassOf}

never : {X : Type 0} {x : X} → None ≡ Some x → ⊥
never e = cc

-- ---- some pages lose their owner

-- the owners whose pointer passes a test
abbrev pub kept_by : (Pointer → Bool) → (Spot → Option Owner) → Spot → Option Owner
kept_by test owners spot = option_and_then (λ (x : Owner). if test (pointer_of x) then Some x else None) (owners spot)

only-there : (test : Pointer → Bool) (at : Behind Page) (p : Pointer) (y : Page) (b : Bool) → test p ≡ b → option_and_then at (if b then Some p else None) ≡ Some y → (test p ≡ true) × (at p ≡ Some y)
only-there test at p y true is e = (is, e)
only-there test at p y false is e = absurd (never e)

kept-there : (test : Pointer → Bool) (x o : Owner) (b : Bool) → test (pointer_of x) ≡ b → (if b then Some x else None) ≡ Some o → (x ≡ o) × (test (pointer_of x) ≡ true)
kept-there test x o true is e = (cc, is)
kept-there test x o false is e = absurd (never e)

kept-led : (test : Pointer → Bool) (o : Owner) (y : Option Owner) → option_and_then (λ (x : Owner). if test (pointer_of x) then Some x else None) y ≡ Some o → (y ≡ Some o) × (test (pointer_of o) ≡ true)
kept-led test o None e = absurd (never e)
kept-led test o (Some x) e =
    let was = kept-there test x o (test (pointer_of x)) refl e in
    (ap Some was.0, ap (λ (z : Owner). test (pointer_of z)) (sym was.0) ∙ was.1)

pub owners-kept : (test : Pointer → Bool) (owners : Spot → Option Owner) (at : Behind Page) → AreOwners owners at → AreOwners (kept_by test owners) (renamed (only test) at)
owners-kept test owners at h = record {
  owned = λ p y e.
      let was = only-there test at p y (test p) refl e in
      let o = h.owned p y was.1 in
      record {
        owner = o.owner;
        is_owner = ap (option_and_then (λ (x : Owner). if test (pointer_of x) then Some x else None)) o.is_owner ∙ ap (λ (b : Bool). if b then Some o.owner else None) (ap test o.points ∙ was.0);
        points = o.points;
        spare = o.spare;
      };
  led = λ spot x e.
      let was = kept-led test x (owners spot) e in
      ap (λ (b : Bool). option_and_then at (if b then Some (pointer_of x) else None)) was.1 ∙ h.led spot x was.0;
}

-- ---- what the spares of pages of going writes name

-- a page of a going write was one before, of the same command
abbrev pub WasNamed : PlainState → PlainState → Behind Page → Behind Page → Type 0
WasNamed s now at new = (queue index : ℕ) (g : Going) (y : Page) → now.going queue ≡ Some g → new (of_flight queue index) ≡ Some y → (h : Going) × (s.going queue ≡ Some h) × (h.command ≡ g.command) × (at (of_flight queue index) ≡ Some y)

pub named-kept : (s now : PlainState) (at new : Behind Page) → WasNamed s now at new → AreNamed s at → AreNamed now new
named-kept s now at new was h queue index g w y going write there =
    let o = was queue index g y going there in
    h queue index o.0 w y o.1 (ap write_of o.2 ∙ write) o.3

-- ---- an entry by which no page is placed, copied, moved or erased

-- what pages hold is what they held, and each page that is pointed to holds what it held
pub record HoldsStill (written new : Spot → Option Written) (at : Behind Page) : Type 0 where
  pub before : (spot : Spot) (x : Written) → new spot ≡ Some x → written spot ≡ Some x
  pub pointed : (p : Pointer) (y : Page) → at p ≡ Some y → new y.spot ≡ written y.spot

pub holds-same : (written : Spot → Option Written) (at : Behind Page) → HoldsStill written written at
holds-same written at = record { before = λ spot x e. e; pointed = λ p y e. refl }

places-none : (e : Entry) → IsTrue (leaves_pages e) → IsFalse (tells_placed e)
places-none e leaves =
    let P : Entry → Type 0 = λ x. IsTrue (leaves_pages x) → IsFalse (tells_placed x) in
    by-entry P (λ h still. refl) (λ s still. refl) (λ p still. absurd cc) (λ x other still. ap is_some other.placed) e leaves

pub led-still : (told : Bool) (c : DriveConfig) (p : Point) (e : Entry) (written new : Spot → Option Written) (at : Behind Page) (t now : PageTables) →
    IsOrderlyState c p.state → Follows told c p e → IsTrue (leaves_pages e) → HoldsStill written new (renamed (renamed_by p.state e) at) →
    AreOwners (owner_at now.owners) (renamed (renamed_by p.state e) at) → WasNamed p.state (next c p e).state at (renamed (renamed_by p.state e) at) →
    ((unit : ℕ) → next_in t.units unit ≤ next_in now.units unit) →
    ((rg : ℕ) → rg < c.groups → IsPassOf (renamed (renamed_by p.state e) at) (next c p e).trail rg (passes_at now rg)) →
    ((rg : ℕ) → rg < c.groups → AreAlike new (copies_at now rg)) →
    AreLed c p written at t → AreLed c (next c p e) new (renamed (renamed_by p.state e) at) now
led-still told c p e written new at t now orderly follows leaves holds owned named up passes copies h =
    let a : Behind Page = renamed (renamed_by p.state e) at in
    record {
      table = table-raised c (next c p e) (next_in t.units) (next_in now.units) a up (table-renamed told c p e (next_in t.units) at orderly follows leaves h.table);
      owned = owned;
      named = named-kept p.state (next c p e).state at a named h.named;
      handled = handled-renamed c p e at h.handled;
      units = units-renamed c (next c p e).state.generation (renamed_by p.state e) at (units-next told c p e (next_in t.units) at orderly follows h.table h.units);
      holds = subst (λ (k : Behind PageContent). Carries (IsWritten new) k a) (sym (contents-renamed told c p e orderly follows (places-none e leaves)))
          (carries-kept (IsWritten written) (IsWritten new) (renamed (renamed_by p.state e) (content_at c p.state)) a
          (λ q y x there content says. holds.pointed q y there ∙ says)
          (carries-renamed (IsWritten written) (renamed_by p.state e) (content_at c p.state) at h.holds));
      below = λ spot x is. let low : spot.page < next_in t.units spot.unit = h.below spot x (holds.before spot x is) in omega (arith, low, up spot.unit);
      passes = passes;
      copies = copies;
    }
