-- What changes make of what a point draws: that of the entries that they save.
use Rattle.std.proofs.Common.{◌≡◌, ℕ, ◌+◌, ◌-◌, ◌≤◌, ◌<◌, Bool, true, false, List, [], ◌∷◌, ◌++◌, length, Option, Some, None, refl, sym, ◌∙◌, ap, subst, arith}
use Rattle.std.specs.Prelude.{◌==◌, ◌&&◌, IsTrue, filter, if◌then◌else◌, map, nat_le, nat_lt, not, option_and_then, option_map, slice_get, slice_index, unwrap_or}
use Rattle.std.proofs.lemmas.Bool.{and_parts, leb-true, ltb-true}
use Rattle.std.proofs.lemmas.List.{length-map}
use Rattle.std.proofs.lemmas.Option.{slice_get-map}
use Rattle.fdp_base.specs.declared.command.Command.{Command}
use Rattle.fdp_base.specs.declared.command.Command.TheVariants as commands
use Rattle.fdp_base.specs.declared.command.Write.{Write}
use Rattle.fdp_base.specs.declared.config.DriveConfig.{DriveConfig}
use Rattle.fdp_base.specs.declared.entry.Entry.TheVariants as entries
use Rattle.fdp_base.specs.declared.entry.Reply.{Reply}
use Rattle.fdp_base.specs.declared.entry.Spot.{Spot}
use Rattle.fdp_base.specs.declared.entry.Totals.{Totals}
use Rattle.fdp_base.specs.declared.event.Event.{Event}
use Rattle.fdp_base.specs.declared.event.EventKind.TheVariants as kinds
use Rattle.fdp_base.specs.CommandKinds.{blocks_written, pid_of, write_of}
use Rattle.fdp_base.specs.Numbers.{is_among}
use Rattle.fdp_base.specs.Placement.{geometry_of}
use Rattle.fdp_flash.specs.Layout.{page_number}
use Rattle.fdp_flash.proofs.Lists.{slice_get_there}
use Rattle.fdp_history.specs.Orderly.{IsOrderly}
use Rattle.fdp_history.specs.Standing.{IsStanding}
use Rattle.fdp_image.specs.Applied.{applied}
use Rattle.fdp_image.specs.ChangeEvents.{events_of_change, invalid_event, kept_of_change}
use Rattle.fdp_image.specs.Outline.{outline_before, state_with}
use Rattle.fdp_image.specs.Reading.{Reading, blocks_on, group_of_page}
use Rattle.fdp_readings.specs.Changes.{AreItsPages, change_of_write}
use Rattle.fdp_readings.specs.Drawn.{drawn, page_of_block}
use Rattle.fdp_readings.proofs.Drawing.{unit-of}
use Rattle.fdp_records.specs.declared.change.Change.{Change}
use Rattle.fdp_records.specs.declared.change.Change.TheVariants as changes
use Rattle.fdp_rules.specs.Change.{after, changed_by}
use Rattle.fdp_rules.specs.Effect.{block_of_write, effect_of}
use Rattle.fdp_rules.specs.Events.{events_of_entry, handle_event, invalid_identifier, is_host_event, kept_of_entry, latest, write_events}
use Rattle.fdp_rules.specs.Next.{next, totals_with}
use Rattle.fdp_rules.specs.PlainState.{Block, Going, PlainState}
use Rattle.fdp_rules.specs.Point.{Point}
use Rattle.fdp_rules.specs.Room.{handles_of}
use Rattle.fdp_rules.specs.Sites.{group_of, traced_by}
use Rattle.fdp_rules.specs.Step.{MaySucceed, goes_to}
use Rattle.fdp_rules.specs.Target.{Target, default_target, group_of_pid, handle_of_pid, target_of}

-- ---- totals

pub forgets : (c : DriveConfig) (r : Reading) (totals : Totals) (x : Change × Totals) → applied c (record r { totals = totals }) x ≡ applied c r x
unfolding applied kept_of_change events_of_change state_with blocks_on
forgets c r totals x = each x.0 x.1 where
  each : (change : Change) (t : Totals) → applied c (record r { totals = totals }) (change, t) ≡ applied c r (change, t)
  each (changes.Write nsid slba pid pid_invalid pages) t = refl
  each (changes.Clear nsid ranges) t = refl
  each (changes.Update nsid closed pids) t = refl
  each (changes.Create nsid size given handles) t = refl
  each (changes.Delete nsid) t = refl
  each (changes.SetFdp enabled index generation) t = refl
  each (changes.SetEvents ruh on mask) t = refl
  each (changes.Moved victim first second handles) t = refl
  each (changes.Shut rg ruh) t = refl

-- ---- a handle without a unit

-- the position of the entry, as a change tells it and as the history does
pub position-is : (c : DriveConfig) (p : Point) → IsOrderly c p → p.totals.position + 1 - 1 ≡ p.state.position
position-is c p orderly = omega (arith, orderly.positions)

pub shut-drawn : (c : DriveConfig) (p : Point) (rg ruh : ℕ) → IsOrderly c p
    → applied c (drawn c p) (changes.Shut rg ruh, totals_with p.totals (entries.Shut (record { rg = rg; ruh = ruh }))) ≡ drawn c (next c p (entries.Shut (record { rg = rg; ruh = ruh })))
unfolding applied kept_of_change events_of_change state_with next after changed_by traced_by kept_of_entry events_of_entry
shut-drawn c p rg ruh orderly =
    let position = position-is c p orderly in
    λ i. record {
      totals = totals_with p.totals (entries.Shut (record { rg = rg; ruh = ruh }));
      enabled = p.state.enabled;
      index = p.state.index;
      generation = p.state.generation;
      reports = p.state.reports;
      namespaces = p.state.namespaces;
      pages = page_of_block c p;
      host_events = latest (p.host_events ++ filter is_host_event (kept (position i)));
      controller_events = latest (p.controller_events ++ filter (λ e. not (is_host_event e)) (kept (position i)));
    }
  where
    kept : ℕ → List Event
    kept n = filter (λ (x : Event). p.state.reports x.ruh x.kind) (handle_event (record p.state { position = n }) kinds.ImplicitlyModified rg ruh ∷ [])

-- ---- a write

-- the handle where a write goes without a valid identifier
first-handle : (c : DriveConfig) (s : PlainState) (rg nsid : ℕ) (pid : Option ℕ) (t : Target) → target_of c s rg nsid pid ≡ t → t.valid ≡ false → t.ruh ≡ slice_index (handles_of s nsid) 0
first-handle c s rg nsid None t is invalid =
    let never : true ≡ false = ap (λ (x : Target). x.valid) is ∙ invalid in
    absurd cc
first-handle c s rg nsid (Some pid) t is invalid = named (nat_lt (group_of_pid c pid) c.groups) (slice_get (handles_of s nsid) (handle_of_pid c pid)) is where
  named : (b : Bool) (o : Option ℕ) → unwrap_or (if b then option_map (λ ruh. record { rg = group_of_pid c pid; ruh = ruh; valid = true }) o else None) (default_target s nsid rg false) ≡ t → t.ruh ≡ slice_index (handles_of s nsid) 0
  named false o e = ap (λ (x : Target). x.ruh) (sym e)
  named true None e = ap (λ (x : Target). x.ruh) (sym e)
  named true (Some ruh) e =
      let never : true ≡ false = ap (λ (x : Target). x.valid) e ∙ invalid in
      absurd cc

module _ (c : DriveConfig) (p : Point) (queue : ℕ) (w : Write) (g : Going) (spots : List Spot) (orderly : IsOrderly c p) (standing : IsStanding c p) (going : p.state.going queue ≡ Some g) (command : g.command ≡ commands.Write w) (may : MaySucceed c p g) (its : AreItsPages p g spots) where
  long : length (map (page_number (geometry_of c)) spots) ≡ w.count
  long = length-map spots (page_number (geometry_of c)) ∙ its.size ∙ ap blocks_written command

  write-page : (n lba : ℕ) → (if n == w.nsid && is_among w.slba (length (map (page_number (geometry_of c)) spots)) lba then slice_get (map (page_number (geometry_of c)) spots) (lba - w.slba) else page_of_block c p n lba)
      ≡ option_map (page_number (geometry_of c)) (option_and_then (λ (b : Block). p.trail.site b.page) (if n == w.nsid && is_among w.slba w.count lba then option_map (block_of_write c w.slba w.payload lba) (p.state.going queue) else p.state.blocks n lba))
  write-page n lba =
      let number : Spot → ℕ = page_number (geometry_of c) in
      ap (λ (k : ℕ). if n == w.nsid && is_among w.slba k lba then slice_get (map number spots) (lba - w.slba) else page_of_block c p n lba) long
      ∙ (elim (n == w.nsid && is_among w.slba w.count lba) as (λ b. (n == w.nsid && is_among w.slba w.count lba) ≡ b → (if b then slice_get (map number spots) (lba - w.slba) else page_of_block c p n lba)
      ≡ option_map number (option_and_then (λ (x : Block). p.trail.site x.page) (if b then option_map (block_of_write c w.slba w.payload lba) (p.state.going queue) else p.state.blocks n lba))) [
        | true ↦ λ inside.
            let parts = and_parts (n == w.nsid) (is_among w.slba w.count lba) inside in
            let among = and_parts (nat_le w.slba lba) (nat_lt lba (w.slba + w.count)) parts.1 in
            let low : w.slba ≤ lba = leb-true w.slba lba among.0 in
            let high : lba < w.slba + w.count = ltb-true lba (w.slba + w.count) among.1 in
            let size : length spots ≡ w.count = its.size ∙ ap blocks_written command in
            let there = slice_get_there spots (lba - w.slba) (omega (arith, low, high, size)) in
            slice_get-map number spots (lba - w.slba) ∙ ap (option_map number) there.1
            ∙ sym (ap (λ (o : Option Going). option_map number (option_and_then (λ (x : Block). p.trail.site x.page) (option_map (block_of_write c w.slba w.payload lba) o))) going
            ∙ ap (option_map number) (its.sites (lba - w.slba) there.0 there.1))
        | false ↦ λ outside. refl
      ]) refl

  -- the group where its first page stands
  first-group : (xs : List Spot) → xs ≡ spots → group_of_page c (slice_index (map (page_number (geometry_of c)) xs) 0) ≡ g.rg
  first-group [] is =
      let size : length spots ≡ blocks_written g.command = its.size in
      let some = (orderly.state.writes queue g going).count.0 in
      let none : length spots ≡ 0 = ap length (sym is) in
      absurd (omega (arith, size, some, none))
  first-group (x ∷ xs) is =
      let first : slice_get spots 0 ≡ Some x = ap (λ (ys : List Spot). slice_get ys 0) (sym is) in
      let site = its.sites 0 x first in
      ap (group_of c) (unit-of c x (orderly.sites g.ticket 0 x site).page.1) ∙ standing.writes queue 0 g x going site

  target : target_of c p.state g.roomiest w.nsid (pid_of w) ≡ record { rg = g.rg; ruh = g.ruh; valid = g.pid_valid }
  target =
      let is : Some (goes_to c p.state g.roomiest w) ≡ Some (record { rg = g.rg; ruh = g.ruh; valid = g.pid_valid }) = ap (λ (k : Command). option_map (goes_to c p.state g.roomiest) (write_of k)) (sym command) ∙ may.target in
      cc

  invalid-same : g.pid_valid ≡ false → invalid_event c (outline_before c (drawn c p) (p.totals.position + 1)) w.nsid w.dspec (map (page_number (geometry_of c)) spots) ≡ invalid_identifier p.state w.nsid w.dspec g
  unfolding state_with
  invalid-same invalid =
      let position = position-is c p orderly in
      let group = first-group spots refl in
      let handle = first-handle c p.state g.roomiest w.nsid (pid_of w) (record { rg = g.rg; ruh = g.ruh; valid = g.pid_valid }) target invalid in
      λ i. record (invalid_identifier p.state w.nsid w.dspec g) { position = position i + 1; rg = group i; ruh = sym handle i }

  events-same : (if not g.pid_valid then invalid_event c (outline_before c (drawn c p) (p.totals.position + 1)) w.nsid w.dspec (map (page_number (geometry_of c)) spots) ∷ [] else []) ≡ write_events p.state w.nsid w.dspec (p.state.going queue)
  events-same =
      (elim g.pid_valid as (λ b. g.pid_valid ≡ b → (if not b then invalid_event c (outline_before c (drawn c p) (p.totals.position + 1)) w.nsid w.dspec (map (page_number (geometry_of c)) spots) ∷ [] else []) ≡ (if b then [] else invalid_identifier p.state w.nsid w.dspec g ∷ [])) [
        | true ↦ λ e. refl
        | false ↦ λ e. ap (λ (x : Event). x ∷ []) (invalid-same e)
      ]) refl
      ∙ sym (ap (write_events p.state w.nsid w.dspec) going)

  write-made : (number : ℕ) (reply : Reply) (moment : ℕ)
      → applied c (drawn c p) (change_of_write c w g spots, totals_with p.totals (entries.Host (record { queue = queue; number = number; command = commands.Write w; reply = record reply { applied = true }; moment = moment })))
      ≡ drawn c (next c p (entries.Host (record { queue = queue; number = number; command = commands.Write w; reply = record reply { applied = true }; moment = moment })))
  unfolding applied kept_of_change events_of_change next after changed_by effect_of traced_by kept_of_entry events_of_entry
  write-made number reply moment =
      λ i. record {
        totals = totals_with p.totals (entries.Host (record { queue = queue; number = number; command = commands.Write w; reply = record reply { applied = true }; moment = moment }));
        enabled = p.state.enabled;
        index = p.state.index;
        generation = p.state.generation;
        reports = p.state.reports;
        namespaces = p.state.namespaces;
        pages = λ n lba. write-page n lba i;
        host_events = latest (p.host_events ++ filter is_host_event (filter (λ (x : Event). p.state.reports x.ruh x.kind) (events-same i)));
        controller_events = latest (p.controller_events ++ filter (λ e. not (is_host_event e)) (filter (λ (x : Event). p.state.reports x.ruh x.kind) (events-same i)));
      }

pub write-drawn : (c : DriveConfig) (p : Point) (queue number : ℕ) (w : Write) (reply : Reply) (moment : ℕ) (g : Going) (spots : List Spot) → IsOrderly c p → IsStanding c p → p.state.going queue ≡ Some g → g.command ≡ commands.Write w → MaySucceed c p g → AreItsPages p g spots → IsTrue reply.applied
    → applied c (drawn c p) (change_of_write c w g spots, totals_with p.totals (entries.Host (record { queue = queue; number = number; command = commands.Write w; reply = reply; moment = moment })))
    ≡ drawn c (next c p (entries.Host (record { queue = queue; number = number; command = commands.Write w; reply = reply; moment = moment })))
write-drawn c p queue number w reply moment g spots orderly standing going command may its made =
    subst (λ (b : Bool). applied c (drawn c p) (change_of_write c w g spots, totals_with p.totals (entries.Host (record { queue = queue; number = number; command = commands.Write w; reply = record reply { applied = b }; moment = moment })))
    ≡ drawn c (next c p (entries.Host (record { queue = queue; number = number; command = commands.Write w; reply = record reply { applied = b }; moment = moment }))))
    (sym made)
    (write-made c p queue w g spots orderly standing going command may its number reply moment)
