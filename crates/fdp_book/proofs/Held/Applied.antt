-- The tables after a command other than a write whose change is made, by what it leaves of each.
use Rattle.std.proofs.Common.{◌≡◌, ℕ, ◌≤◌, Bool, true, false, List, [], ◌∷◌, ◌++◌, Option, Some, None, refl, sym, ◌∙◌, ap, subst, inl, ⊎_elim}
use Rattle.std.specs.Prelude.{IsFalse, IsTrue, if◌then◌else◌, is_some, option_and_then}
use Rattle.std.specs.Option.{option_map_or}
use Rattle.std.proofs.lemmas.Bool.{false≢true}
use Rattle.fdp_base.specs.declared.command.Command.{Command}
use Rattle.fdp_base.specs.declared.command.Write.{Write}
use Rattle.fdp_base.specs.declared.config.DriveConfig.{DriveConfig}
use Rattle.fdp_base.specs.declared.entry.Copied.{Copied}
use Rattle.fdp_base.specs.declared.entry.Entry.{Entry}
use Rattle.fdp_base.specs.declared.entry.Spot.{Spot}
use Rattle.fdp_base.specs.declared.status.TheConstants.Status as statuses
use Rattle.fdp_base.specs.CommandKinds.{IsWellFormed, blocks_written, is_saved, is_write, write_of}
use Rattle.fdp_base.specs.Numbers.{with_at}
use Rattle.fdp_book.specs.declared.tables.Tables.{Tables}
use Rattle.fdp_book.specs.Commanded.{applied_reply}
use Rattle.fdp_book.specs.Held.{IsHeld, lead_in}
use Rattle.fdp_book.specs.Outlined.{IsOutlineBehind}
use Rattle.fdp_book.proofs.Held.Next.{AreTablesOf, held-next}
use Rattle.fdp_book.proofs.Histories.Commanded.{applied-succeeds, success-follows}
use Rattle.fdp_readings.specs.fdp_locations.Located.{AreAlike, LeadsTo, next_in}
use Rattle.fdp_readings.specs.fdp_locations.Written.{Written, written_by}
use Rattle.fdp_readings.proofs.fdp_locations.Ended.{host}
use Rattle.fdp_readings.proofs.fdp_locations.Kept.{holds-same, led-still}
use Rattle.fdp_owners.specs.Owned.{AreOwners}
use Rattle.fdp_owners.specs.OwnerTable.{owner_at}
use Rattle.fdp_readings.specs.fdp_pages.PageTables.{passes_at}
use Rattle.fdp_passes.specs.GroupPasses.{Pass}
use Rattle.fdp_pointers.specs.Contents.{ended_by}
use Rattle.fdp_pointers.specs.Facts.{Page}
use Rattle.fdp_pointers.specs.Pointers.{Behind, Pointer, renamed}
use Rattle.fdp_rules.specs.Change.{after, changed_by}
use Rattle.fdp_rules.specs.History.{Found, point_of}
use Rattle.fdp_rules.specs.Next.{next}
use Rattle.fdp_rules.specs.PlainState.{Going, PlainState}
use Rattle.fdp_rules.specs.Point.{Point}
use Rattle.fdp_rules.specs.Refusal.{refusal_of}
use Rattle.fdp_rules.specs.Step.{Follows, IsQueue}
use Rattle.fdp_readings.proofs.fdp_trails.Grouping.{all-renamed}
use Rattle.fdp_pointers.proofs.Names.{keeps-all-or-some}
use Rattle.fdp_base.proofs.Writes.{by-write}

never : {X : Type 0} {x : X} → None ≡ Some x → ⊥
never e = cc

-- ---- the entry may follow

-- the entry of a command whose change is made and saved
abbrev pub applied_entry : ℕ → ℕ → Command → PlainState → ℕ → Entry
applied_entry queue number command s moment = host queue number command (applied_reply s command statuses.SUCCESS) moment

pub applied-follows : (told : Bool) (c : DriveConfig) (p : Point) (queue number : ℕ) (command : Command) (moment : ℕ) → IsQueue c queue → IsWellFormed c command → refusal_of c p command ≡ None → IsTrue (is_saved command) → IsFalse (is_write command) → Follows told c p (applied_entry queue number command p.state moment)
applied-follows told c p queue number command moment queue_is formed accepted saved other = success-follows told c p queue number command (applied_reply p.state command statuses.SUCCESS) moment queue_is formed accepted other (applied-succeeds told c p command saved)

-- ---- what it leaves

-- the same writes are going
pub applied-going : (c : DriveConfig) (p : Point) (queue number : ℕ) (command : Command) (moment : ℕ) → IsFalse (is_write command) → (next c p (applied_entry queue number command p.state moment)).state.going ≡ p.state.going
unfolding next after changed_by
applied-going c p queue number command moment other = ap (λ (b : Bool). if b then with_at p.state.going queue None else p.state.going) other

-- no block is written
pub unwritten : (command : Command) → IsFalse (is_write command) → blocks_written command ≡ 0
unwritten command other = by (write_of command) other
  where
    by : (o : Option Write) → is_some o ≡ false → option_map_or (λ (w : Write). w.count) o 0 ≡ 0
    by None e = refl
    by (Some w) e = absurd (false≢true (sym e))

only-was : (b : Bool) (p : Pointer) (at : Behind Page) (y : Page) → option_and_then at (if b then Some p else None) ≡ Some y → at p ≡ Some y
only-was true p at y e = e
only-was false p at y e = absurd (never e)

-- a pointer leads where it led, or nowhere
pub still-led : (s : PlainState) (queue : ℕ) (command : Command) (at : Behind Page) (p : Pointer) (y : Page) → IsFalse (is_write command) → renamed (ended_by s queue true command) at p ≡ Some y → at p ≡ Some y
still-led s queue command at p y other e =
    by-write (λ x. IsFalse (is_write x) → renamed (ended_by s queue true x) at p ≡ Some y → at p ≡ Some y)
    (λ w unwritten led. absurd (false≢true (sym unwritten)))
    (λ x none unwritten led.
    ⊎_elim
    (λ all. ap (λ (r : Pointer → Option Pointer). renamed r at p) (sym (all true)) ∙ led)
    (λ some. only-was (some.keeps p) p at y (ap (λ (r : Pointer → Option Pointer). renamed r at p) (sym (some.ends true)) ∙ led))
    (keeps-all-or-some s queue x none))
    command other e

-- ---- the tables

-- The pages after such a command, and where the pointers lead by the tables
pub record AreApplied (s n : PlainState) (queue : ℕ) (command : Command) (at : Behind Page) (t now : Tables) : Type 0 where
  pub owned : AreOwners (owner_at now.pages.owners) (renamed (ended_by s queue true command) at)
  pub up : (unit : ℕ) → next_in t.pages.units unit ≤ next_in now.pages.units unit
  pub passes : (rg : ℕ) → (passes_at now.pages rg).pass ≡ (passes_at t.pages rg).pass
  pub leads : LeadsTo (lead_in n now.map now.flights.items) (renamed (ended_by s queue true command) at)

pub held-applied : (c : DriveConfig) (found : Found) (first : Spot → Option Written) (es : List Entry) (t now : Tables) (queue number : ℕ) (command : Command) (moment : ℕ) →
    (h : IsHeld c found first es t) → Follows true c (point_of c found es) (applied_entry queue number command (point_of c found es).state moment) → IsFalse (is_write command) →
    AreTablesOf c (next c (point_of c found es) (applied_entry queue number command (point_of c found es).state moment)).state now →
    IsOutlineBehind c found es (applied_entry queue number command (point_of c found es).state moment) now.outline →
    AreApplied (point_of c found es).state (next c (point_of c found es) (applied_entry queue number command (point_of c found es).state moment)).state queue command h.pages_are.at t now →
    IsHeld c found first (es ++ applied_entry queue number command (point_of c found es).state moment ∷ []) now
held-applied c found first es t now queue number command moment h follows other tables outline applied =
    let p : Point = point_of c found es in
    let e : Entry = applied_entry queue number command p.state moment in
    let q : Point = next c p e in
    let at : Behind Page = h.pages_are.at in
    let r : Pointer → Option Pointer = ended_by p.state queue true command in
    let written : Spot → Option Written = written_by c found first es in
    let going : q.state.going ≡ p.state.going = applied-going c p queue number command moment other in
    held-next true c found first es e t now h follows tables outline
    (record {
      at = renamed r at;
      led = led-still true c p e written written at t.pages now.pages h.orderly.state follows refl
          (holds-same written (renamed r at))
          applied.owned
          (λ k index g y is_going there. (g, sym (ap (λ (f : ℕ → Option Going). f k) going) ∙ is_going, refl, still-led p.state queue command at _ y other there))
          applied.up
          (all-renamed c p e at c.groups (passes_at t.pages) (passes_at now.pages) refl (λ rg low. inl (applied.passes rg)) (λ rg low ends. absurd cc) h.pages_are.led.passes)
          (λ rg low. subst (λ (copies : List Copied). AreAlike written copies) (sym (ap (λ (o : Option Pass). option_map_or (λ (x : Pass). x.copies) o []) (applied.passes rg))) (h.pages_are.led.copies rg low))
          h.pages_are.led;
      leads = applied.leads;
    })
