-- What a placement setting leaves of the tables.
use Rattle.std.proofs.Common.{◌≡◌, ℕ, Bool, true, List, [], ◌∷◌, ◌++◌, Option, None, refl, sym, ◌∙◌, ap, subst}
use Rattle.std.specs.Prelude.{option_map}
use Rattle.std.specs.Option.{option_map_or}
use Rattle.fdp_base.specs.declared.command.Command.TheVariants as commands
use Rattle.fdp_base.specs.declared.command.SetFdp.{SetFdp}
use Rattle.fdp_base.specs.declared.config.Class.{Class}
use Rattle.fdp_base.specs.declared.config.DriveConfig.{DriveConfig}
use Rattle.fdp_base.specs.declared.entry.Entry.{Entry}
use Rattle.fdp_base.specs.declared.entry.Spot.{Spot}
use Rattle.fdp_base.specs.declared.status.Status.{Status}
use Rattle.fdp_base.specs.declared.status.TheConstants.Status as statuses
use Rattle.fdp_base.specs.CommandKinds.{IsWellFormed}
use Rattle.fdp_base.specs.Placement.{classes_of}
use Rattle.fdp_book.specs.declared.tables.Tables.{Tables}
use Rattle.fdp_book.specs.Held.{IsHeld, going_of}
use Rattle.fdp_book.specs.Outlined.{IsOutlineBehind}
use Rattle.fdp_book.specs.Updating.{CanSet, SetsTables}
use Rattle.fdp_book.proofs.Held.Left.{pages-left}
use Rattle.fdp_book.proofs.Held.Next.{held-next}
use Rattle.fdp_book.proofs.Histories.Commanded.{success-follows}
use Rattle.fdp_book.proofs.Kept.{on_target-alike, there-alike}
use Rattle.fdp_history.proofs.Checks.{accepted-feature}
use Rattle.fdp_history.proofs.Spaces.{none-there}
use Rattle.fdp_readings.specs.fdp_locations.Written.{Written, written_by}
use Rattle.fdp_readings.proofs.fdp_locations.Ended.{host}
use Rattle.fdp_readings.proofs.fdp_locations.Owned.{unowned-none}
use Rattle.fdp_readings.proofs.fdp_locations.Set.{units-set}
use Rattle.fdp_readings.specs.fdp_pages.Steps.{SetsClasses}
use Rattle.fdp_rules.specs.Answer.{bare}
use Rattle.fdp_rules.specs.Change.{after, changed_by}
use Rattle.fdp_rules.specs.Effect.{effect_of, no_reference}
use Rattle.fdp_rules.specs.History.{Found, point_of}
use Rattle.fdp_rules.specs.Next.{next}
use Rattle.fdp_rules.specs.PlainState.{Block, Going, Namespace, PlainState}
use Rattle.fdp_rules.specs.Point.{Point}
use Rattle.fdp_rules.specs.Refusal.{refusal_of}
use Rattle.fdp_rules.specs.Step.{Follows, IsQueue}
use Rattle.fdp_snapshot.specs.declared.state.Summary.{Summary}

-- ---- a command that is not refused

-- there is no namespace then, and so no page has an owner
pub may-set : (c : DriveConfig) (found : Found) (first : Spot → Option Written) (es : List Entry) (t : Tables) (x : SetFdp) → IsHeld c found first es t → refusal_of c (point_of c found es) (commands.SetFdp x) ≡ None → CanSet c t x.index
may-set c found first es t x h accepted =
    let p : Point = point_of c found es in
    let checked = accepted-feature c p x.group x.enable x.index accepted in
    record {
      config = h.config;
      index = checked.0;
      unowned = unowned-none c p (written_by c found first es) h.pages_are.at t.pages h.orderly.state (none-there c p.state h.orderly.state checked.1) h.pages_are.led;
    }

-- ---- the entry

abbrev pub set_entry : ℕ → ℕ → SetFdp → Status → ℕ → Entry
set_entry queue number x status moment = host queue number (commands.SetFdp x) (bare status true) moment

set-follows : (told : Bool) (c : DriveConfig) (p : Point) (queue number : ℕ) (x : SetFdp) (moment : ℕ) → IsQueue c queue → IsWellFormed c (commands.SetFdp x) → refusal_of c p (commands.SetFdp x) ≡ None → Follows told c p (set_entry queue number x statuses.SUCCESS moment)
set-follows told c p queue number x moment queue_is formed accepted =
    success-follows told c p queue number (commands.SetFdp x) (bare statuses.SUCCESS true) moment queue_is formed accepted refl (record { status = refl; dword0 = refl; size = refl; bytes_are = λ tells. refl; applied = refl })

-- what a state keeps when a placement setting comes into force
record IsSet (c : DriveConfig) (s n : PlainState) (x : SetFdp) : Type 0 where
  enabled : n.enabled ≡ x.enable
  index : n.index ≡ x.index
  namespaces : n.namespaces ≡ s.namespaces
  blocks : n.blocks ≡ s.blocks
  going : n.going ≡ s.going
  is_lost : n.is_lost ≡ s.is_lost
  is_worn : n.is_worn ≡ s.is_worn
  references : (rg ruh : ℕ) → n.references rg ruh ≡ no_reference c

set-is : (c : DriveConfig) (p : Point) (queue number : ℕ) (x : SetFdp) (moment : ℕ) → IsSet c p.state (next c p (set_entry queue number x statuses.SUCCESS moment)).state x
unfolding next after changed_by effect_of
set-is c p queue number x moment = record {
  enabled = refl;
  index = refl;
  namespaces = refl;
  blocks = refl;
  going = refl;
  is_lost = refl;
  is_worn = refl;
  references = λ rg ruh. refl;
}

-- the tables stand for the history with that command
pub held-set : (c : DriveConfig) (found : Found) (first : Spot → Option Written) (es : List Entry) (t now : Tables) (queue number : ℕ) (x : SetFdp) (moment : ℕ) (outline : Summary) →
    IsHeld c found first es t → IsQueue c queue → IsWellFormed c (commands.SetFdp x) → refusal_of c (point_of c found es) (commands.SetFdp x) ≡ None → SetsTables c x.enable x.index t now → IsOutlineBehind c found es (set_entry queue number x statuses.SUCCESS moment) outline →
    IsHeld c found first (es ++ set_entry queue number x statuses.SUCCESS moment ∷ []) (record now { outline = outline })
held-set c found first es t now queue number x moment outline h queue_is formed accepted sets behind =
    let e : Entry = set_entry queue number x statuses.SUCCESS moment in
    let p : Point = point_of c found es in
    let q : Point = next c p e in
    let is : IsSet c p.state q.state x = set-is c p queue number x moment in
    let follows : Follows true c p e = set-follows true c p queue number x moment queue_is formed accepted in
    let classes : SetsClasses t.pages now.pages (classes_of c q.state.enabled q.state.index) =
    subst (λ (xs : List Class). SetsClasses t.pages now.pages xs) (sym (ap (λ (b : Bool). classes_of c b q.state.index) is.enabled ∙ ap (classes_of c x.enable) is.index)) sets.pages in
    subst (λ (y : Tables). IsHeld c found first (es ++ e ∷ []) (record y { outline = outline })) (sym sets.rest)
    (held-next true c found first es e t (record t { outline = outline; pages = now.pages }) h follows
    (record {
      map_is = record {
        geometry = h.map_is.geometry;
        sizes = λ nsid. ap (λ (f : ℕ → Option Namespace). option_map_or (λ y. y.size) (f nsid) 0) is.namespaces ∙ h.map_is.sizes nsid;
        most = h.map_is.most;
        groups = λ nsid lba. ap (λ (f : ℕ → ℕ → Option Block). option_map (λ (b : Block). b.rg) (f nsid lba)) is.blocks ∙ h.map_is.groups nsid lba;
      };
      flights_are = record {
        rows = h.flights_are.rows;
        going = λ k. ap (λ (f : ℕ → Option Going). f k) is.going ∙ h.flights_are.going k;
        target = λ k f there still. on_target-alike c p.state q.state (going_of f) is.namespaces (h.flights_are.target k f there (sym (there-alike p.state q.state (going_of f) is.namespaces) ∙ still));
      };
      units_are = units-set c p.state q.state t.pages now.pages is.is_lost is.is_worn is.references classes h.units_are;
    })
    behind
    (pages-left true c p queue number (commands.SetFdp x) (bare statuses.SUCCESS true) moment (written_by c found first es) t.map t.flights.items t.pages now.pages h.orderly follows refl is.going is.namespaces sets.pages.leaves h.pages_are))
