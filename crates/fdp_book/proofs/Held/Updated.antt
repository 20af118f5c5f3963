-- What an update of handles leaves of the tables.
use Rattle.std.proofs.Common.{◌≡◌, ℕ, ◌<◌, Bool, true, List, [], ◌∷◌, ◌++◌, length, Option, Some, None, refl, sym, ◌∙◌, ap, subst, arith}
use Rattle.std.specs.Prelude.{Contains, fold}
use Rattle.std.specs.Option.{option_map_or}
use Rattle.std.proofs.lemmas.List.Elements.{All-contains}
use Rattle.fdp_base.specs.declared.command.Command.TheVariants as commands
use Rattle.fdp_base.specs.declared.command.HandleUpdate.{HandleUpdate}
use Rattle.fdp_base.specs.declared.config.Class.{Class}
use Rattle.fdp_base.specs.declared.config.DriveConfig.{DriveConfig}
use Rattle.fdp_base.specs.declared.entry.Entry.{Entry}
use Rattle.fdp_base.specs.declared.entry.Spot.{Spot}
use Rattle.fdp_base.specs.declared.status.Status.{Status}
use Rattle.fdp_base.specs.declared.status.TheConstants.Status as statuses
use Rattle.fdp_base.specs.CommandKinds.{IsWellFormed}
use Rattle.fdp_book.specs.declared.tables.Tables.{Tables}
use Rattle.fdp_book.specs.Held.{IsHeld}
use Rattle.fdp_book.specs.Outlined.{IsOutlineBehind}
use Rattle.fdp_book.specs.Updating.{CanUpdate, Updates}
use Rattle.fdp_book.proofs.Held.Left.{pages-left}
use Rattle.fdp_book.proofs.Held.Next.{held-next}
use Rattle.fdp_book.proofs.Histories.Commanded.{success-follows}
use Rattle.fdp_book.proofs.Kept.{IsAlike, flights-alike, map-alike}
use Rattle.fdp_book.proofs.Outlining.{handles-said}
use Rattle.fdp_handles.specs.HandleTable.{reference_at}
use Rattle.fdp_readings.specs.fdp_locations.Written.{Written, written_by}
use Rattle.fdp_readings.proofs.fdp_locations.Ended.{host}
use Rattle.fdp_readings.proofs.fdp_locations.Left.{left-alike}
use Rattle.fdp_readings.proofs.fdp_locations.Units.{units-rows}
use Rattle.fdp_rules.specs.Answer.{bare}
use Rattle.fdp_rules.specs.Change.{after, changed_by}
use Rattle.fdp_rules.specs.Effect.{References, effect_of, updated_by}
use Rattle.fdp_rules.specs.History.{Found, point_of}
use Rattle.fdp_rules.specs.Next.{next}
use Rattle.fdp_rules.specs.PlainState.{Namespace, PlainState}
use Rattle.fdp_rules.specs.Point.{Point}
use Rattle.fdp_rules.specs.Refusal.{refusal_of}
use Rattle.fdp_rules.specs.Room.{handles_in_force}
use Rattle.fdp_rules.specs.Step.{Follows, IsQueue}
use Rattle.fdp_snapshot.specs.declared.state.Summary.{Summary}
use Rattle.fdp_units.specs.UnitTable.{Cut}

-- ---- a command that is not refused

-- the pages have what the identifiers of a namespace may name
pub may-update : (c : DriveConfig) (found : Found) (first : Spot → Option Written) (es : List Entry) (t : Tables) (nsid : ℕ) → IsHeld c found first es t → CanUpdate c t nsid
may-update c found first es t nsid h = record {
  config = h.config;
  groups = sym (ap (λ (x : Cut). x.groups) h.units_are.cut);
  handles = λ ruh has.
      let low : ruh < handles_in_force c s = listed (s.namespaces nsid) refl ruh (subst (λ (xs : List ℕ). Contains xs ruh) (sym (handles-said c (point_of c found es) t.outline h.outline_is nsid)) has) in
      let classes : handles_in_force c s ≡ length t.pages.handles.classes = ap (λ (xs : List Class). length xs) h.units_are.classes in
      omega (arith, low, classes);
} where
  s : PlainState
  s = (point_of c found es).state

  listed : (o : Option Namespace) → s.namespaces nsid ≡ o → (ruh : ℕ) → Contains (option_map_or (λ (x : Namespace). x.handles) o []) ruh → ruh < handles_in_force c s
  listed None e ruh has = absurd (omega (arith, has.1))
  listed (Some x) e ruh has = All-contains (λ k. k < handles_in_force c s) x.handles ruh (h.orderly.state.namespaces nsid x e).handles has

-- ---- the entry

abbrev pub update_entry : ℕ → ℕ → HandleUpdate → Status → ℕ → Entry
update_entry queue number u status moment = host queue number (commands.Update u) (bare status true) moment

update-follows : (told : Bool) (c : DriveConfig) (p : Point) (queue number : ℕ) (u : HandleUpdate) (moment : ℕ) → IsQueue c queue → IsWellFormed c (commands.Update u) → refusal_of c p (commands.Update u) ≡ None → Follows told c p (update_entry queue number u statuses.SUCCESS moment)
update-follows told c p queue number u moment queue_is formed accepted =
    success-follows told c p queue number (commands.Update u) (bare statuses.SUCCESS true) moment queue_is formed accepted refl (record { status = refl; dword0 = refl; size = refl; bytes_are = λ tells. refl; applied = refl })

-- what a state keeps when handles are updated
record IsUpdated (c : DriveConfig) (s n : PlainState) (u : HandleUpdate) : Type 0 where
  alike : IsAlike s n
  blocks : n.blocks ≡ s.blocks
  going : n.going ≡ s.going
  is_lost : n.is_lost ≡ s.is_lost
  is_worn : n.is_worn ≡ s.is_worn
  references : n.references ≡ fold (updated_by c s u.nsid) s.references u.pids

updated-is : (c : DriveConfig) (p : Point) (queue number : ℕ) (u : HandleUpdate) (moment : ℕ) → IsUpdated c p.state (next c p (update_entry queue number u statuses.SUCCESS moment)).state u
unfolding next after changed_by effect_of
updated-is c p queue number u moment = record {
  alike = record { enabled = refl; index = refl; generation = refl; namespaces = refl };
  blocks = refl;
  going = refl;
  is_lost = refl;
  is_worn = refl;
  references = refl;
}

-- the tables stand for the history with that command
pub held-updated : (c : DriveConfig) (found : Found) (first : Spot → Option Written) (es : List Entry) (t now : Tables) (queue number : ℕ) (u : HandleUpdate) (moment : ℕ) (outline : Summary) →
    IsHeld c found first es t → IsQueue c queue → IsWellFormed c (commands.Update u) → refusal_of c (point_of c found es) (commands.Update u) ≡ None → Updates c t now u.nsid u.pids → IsOutlineBehind c found es (update_entry queue number u statuses.SUCCESS moment) outline →
    IsHeld c found first (es ++ update_entry queue number u statuses.SUCCESS moment ∷ []) (record now { outline = outline })
held-updated c found first es t now queue number u moment outline h queue_is formed accepted updates behind =
    let e : Entry = update_entry queue number u statuses.SUCCESS moment in
    let p : Point = point_of c found es in
    let q : Point = next c p e in
    let is : IsUpdated c p.state q.state u = updated-is c p queue number u moment in
    let follows : Follows true c p e = update-follows true c p queue number u moment queue_is formed accepted in
    let before : p.state.references ≡ reference_at t.pages.handles = λ d rg ruh. h.units_are.references rg ruh d in
    let references : q.state.references ≡ reference_at now.pages.handles =
    is.references
    ∙ ap (λ (refs : References). fold (updated_by c p.state u.nsid) refs u.pids) before
    ∙ sym (updates.references p.state (handles-said c p t.outline h.outline_is u.nsid) h.units_are.unit_pages) in
    subst (λ (x : Tables). IsHeld c found first (es ++ e ∷ []) (record x { outline = outline })) (sym updates.rest)
    (held-next true c found first es e t (record t { outline = outline; pages = now.pages }) h follows
    (record {
      map_is = map-alike c p.state q.state t.map is.alike is.blocks h.map_is;
      flights_are = flights-alike c p.state q.state t.flights.items is.alike is.going h.flights_are;
      units_are = units-rows c p.state q.state t.pages now.pages is.alike.enabled is.alike.index is.is_lost is.is_worn references updates.handles (left-alike t.pages now.pages updates.leaves) h.units_are;
    })
    behind
    (pages-left true c p queue number (commands.Update u) (bare statuses.SUCCESS true) moment (written_by c found first es) t.map t.flights.items t.pages now.pages h.orderly follows refl is.going is.alike.namespaces updates.leaves h.pages_are))
