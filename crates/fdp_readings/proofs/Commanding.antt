-- What the changes of commands other than writes make of what a point draws.
use Rattle.std.proofs.Common.{◌≡◌, ℕ, ◌+◌, ◌-◌, Bool, true, false, List, [], ◌∷◌, ◌++◌, length, Option, Some, None, refl, sym, ◌∙◌, ap, subst}
use Rattle.std.specs.Prelude.{◌==◌, ◌&&◌, ◌||◌, IsTrue, filter, flat_map, if◌then◌else◌, nat_lt, not, option_and_then, option_map, slice_index, unwrap_or}
use Rattle.std.specs.List.{enumerate_from, list_any}
use Rattle.std.specs.Option.{option_map_or}
use Rattle.fdp_base.specs.declared.command.Command.{Command}
use Rattle.fdp_base.specs.declared.command.Command.TheVariants as commands
use Rattle.fdp_base.specs.declared.command.Create.{Create}
use Rattle.fdp_base.specs.declared.command.Dealloc.{Dealloc}
use Rattle.fdp_base.specs.declared.command.Delete.{Delete}
use Rattle.fdp_base.specs.declared.command.SetEvents.{SetEvents}
use Rattle.fdp_base.specs.declared.command.SetFdp.{SetFdp}
use Rattle.fdp_base.specs.declared.command.HandleUpdate.{HandleUpdate}
use Rattle.fdp_base.specs.declared.command.Zero.{Zero}
use Rattle.fdp_base.specs.declared.config.DriveConfig.{DriveConfig}
use Rattle.fdp_base.specs.declared.entry.Reply.{Reply}
use Rattle.fdp_base.specs.declared.event.Event.{Event}
use Rattle.fdp_base.specs.declared.event.EventKind.{EventKind}
use Rattle.fdp_base.specs.EventCodes.{kind_code}
use Rattle.fdp_base.specs.Numbers.{is_among, with_at}
use Rattle.fdp_base.specs.Placement.{geometry_of}
use Rattle.fdp_flash.specs.Layout.{page_number}
use Rattle.fdp_history.specs.Orderly.{IsOrderly}
use Rattle.fdp_image.specs.Applied.{applied}
use Rattle.fdp_image.specs.CheckpointRows.{has_kind}
use Rattle.fdp_image.specs.ChangeEvents.{closed_event, events_of_change, kept_of_change}
use Rattle.fdp_image.specs.Outline.{state_with}
use Rattle.fdp_readings.specs.Changes.{Saves, TellsClosed, completed}
use Rattle.fdp_readings.specs.Drawn.{drawn, page_of_block}
use Rattle.fdp_readings.proofs.Saving.{position-is}
use Rattle.fdp_records.specs.declared.change.Change.{Change}
use Rattle.fdp_records.specs.declared.change.Change.TheVariants as changes
use Rattle.fdp_rules.specs.Change.{after, changed_by}
use Rattle.fdp_rules.specs.Effect.{References, chosen_handles, created, effect_of, is_in_ranges, is_partly_written, lowest_free, updated_by}
use Rattle.fdp_rules.specs.Events.{closing_event, events_of_entry, is_host_event, kept_of_entry, latest, not_fully_written, update_events}
use Rattle.fdp_rules.specs.Next.{next, totals_with}
use Rattle.fdp_rules.specs.PlainState.{Block, PlainState}
use Rattle.fdp_rules.specs.Point.{Point}
use Rattle.fdp_rules.specs.Room.{handles_of}
use Rattle.fdp_rules.specs.Sites.{traced_by}
use Rattle.fdp_rules.specs.Target.{Target, named_by}

-- a reply by which the change is made
abbrev made : Reply → Reply
made reply = record reply { applied = true }

-- it is enough to look at such replies
by-made : (c : DriveConfig) (p : Point) (change : Change) (queue number : ℕ) (command : Command) (reply : Reply) (moment : ℕ) → IsTrue reply.applied → Saves c p change (completed queue number command (made reply) moment) → Saves c p change (completed queue number command reply moment)
by-made c p change queue number command reply moment is h = subst (λ (b : Bool). Saves c p change (completed queue number command (record reply { applied = b }) moment)) (sym is) h

-- ---- blocks that become absent

-- where a block is absent its page is too
absent-page : (c : DriveConfig) (p : Point) (b : Bool) (nsid lba : ℕ) → (if b then None else page_of_block c p nsid lba) ≡ option_map (page_number (geometry_of c)) (option_and_then (λ (x : Block). p.trail.site x.page) (if b then None else p.state.blocks nsid lba))
absent-page c p true nsid lba = refl
absent-page c p false nsid lba = refl

one-range : (nsid n slba count lba : ℕ) → (n == nsid && is_in_ranges (record { slba = slba; length = count } ∷ []) lba) ≡ (n == nsid && is_among slba count lba)
one-range nsid n slba count lba = ap (λ (b : Bool). n == nsid && b) (alone (is_among slba count lba)) where
  alone : (b : Bool) → (b || false) ≡ b
  alone true = refl
  alone false = refl

zero-made : (c : DriveConfig) (p : Point) (queue number : ℕ) (x : Zero) (reply : Reply) (moment : ℕ) → Saves c p (changes.Clear x.nsid (record { slba = x.slba; length = x.count } ∷ [])) (completed queue number (commands.Zero x) (made reply) moment)
unfolding applied kept_of_change events_of_change next after changed_by effect_of traced_by kept_of_entry events_of_entry
zero-made c p queue number x reply moment =
    let page : (n lba : ℕ) → (if n == x.nsid && is_in_ranges (record { slba = x.slba; length = x.count } ∷ []) lba then None else page_of_block c p n lba)
    ≡ option_map (page_number (geometry_of c)) (option_and_then (λ (b : Block). p.trail.site b.page) (if n == x.nsid && is_among x.slba x.count lba then None else p.state.blocks n lba)) =
    λ n lba. ap (λ (b : Bool). if b then None else page_of_block c p n lba) (one-range x.nsid n x.slba x.count lba) ∙ absent-page c p (n == x.nsid && is_among x.slba x.count lba) n lba in
    λ i. record (applied c (drawn c p) (changes.Clear x.nsid [], totals_with p.totals (completed queue number (commands.Zero x) (made reply) moment))) { pages = λ n lba. page n lba i }

dealloc-made : (c : DriveConfig) (p : Point) (queue number nsid : ℕ) (x : Dealloc) (reply : Reply) (moment : ℕ) → Saves c p (changes.Clear x.nsid x.ranges) (completed queue number (commands.Dealloc (record x { deallocate = true })) (made reply) moment)
unfolding applied kept_of_change events_of_change next after changed_by effect_of traced_by kept_of_entry events_of_entry
dealloc-made c p queue number nsid x reply moment =
    λ i. record (applied c (drawn c p) (changes.Clear x.nsid [], totals_with p.totals (completed queue number (commands.Dealloc x) (made reply) moment))) { pages = λ n lba. absent-page c p (n == x.nsid && is_in_ranges x.ranges lba) n lba i }

delete-made : (c : DriveConfig) (p : Point) (queue number : ℕ) (x : Delete) (reply : Reply) (moment : ℕ) → Saves c p (changes.Delete x.nsid) (completed queue number (commands.Delete x) (made reply) moment)
unfolding applied kept_of_change events_of_change next after changed_by effect_of traced_by kept_of_entry events_of_entry
delete-made c p queue number x reply moment =
    λ i. record (applied c (drawn c p) (changes.Delete x.nsid, totals_with p.totals (completed queue number (commands.Delete x) (made reply) moment))) { pages = λ n lba. page n lba i }
  where
    page : (n lba : ℕ) → (if n == x.nsid then None else page_of_block c p n lba) ≡ option_map (page_number (geometry_of c)) (option_and_then (λ (b : Block). p.trail.site b.page) (if n == x.nsid && true then None else p.state.blocks n lba))
    page n lba = ap (λ (b : Bool). if b then None else page_of_block c p n lba) (both (n == x.nsid)) ∙ absent-page c p (n == x.nsid && true) n lba where
      both : (b : Bool) → b ≡ (b && true)
      both true = refl
      both false = refl

-- ---- namespaces and placement

create-made : (c : DriveConfig) (p : Point) (queue number : ℕ) (x : Create) (reply : Reply) (moment : ℕ) → IsOrderly c p
    → Saves c p (changes.Create (unwrap_or (lowest_free p.state) 0) x.size (x.given && nat_lt 0 (length x.list)) (chosen_handles x.list)) (completed queue number (commands.Create x) (made reply) moment)
unfolding applied kept_of_change events_of_change next after changed_by effect_of traced_by kept_of_entry events_of_entry
create-made c p queue number x reply moment orderly =
    λ i. record (applied c (drawn c p) (changes.Clear 0 [], totals_with p.totals (completed queue number (commands.Create x) (made reply) moment))) {
      pages = page_of_block c p;
      namespaces = with_at p.state.namespaces (unwrap_or (lowest_free p.state) 0) (Some (created (record p.state { position = orderly.positions i }) x.size x.given x.list));
    }

placement-made : (c : DriveConfig) (p : Point) (queue number : ℕ) (x : SetFdp) (reply : Reply) (moment : ℕ) → Saves c p (changes.SetFdp x.enable x.index (p.state.generation + 1)) (completed queue number (commands.SetFdp x) (made reply) moment)
unfolding applied kept_of_change events_of_change next after changed_by effect_of traced_by kept_of_entry events_of_entry
placement-made c p queue number x reply moment = refl

kinds-made : (c : DriveConfig) (p : Point) (queue number : ℕ) (x : SetEvents) (reply : Reply) (moment mask : ℕ) → ((kind : EventKind) → has_kind mask kind ≡ list_any (λ code. code == kind_code kind) x.types)
    → Saves c p (changes.SetEvents (slice_index (handles_of p.state x.nsid) x.handle) x.enable mask) (completed queue number (commands.SetEvents x) (made reply) moment)
unfolding applied kept_of_change events_of_change next after changed_by effect_of traced_by kept_of_entry events_of_entry
kinds-made c p queue number x reply moment mask tells =
    λ i. record (applied c (drawn c p) (changes.Clear 0 [], totals_with p.totals (completed queue number (commands.SetEvents x) (made reply) moment))) {
      pages = page_of_block c p;
      reports = λ ruh kind. if ruh == slice_index (handles_of p.state x.nsid) x.handle && tells kind i then x.enable else p.state.reports ruh kind;
    }

-- ---- an update of handles

closed-one : (c : DriveConfig) (s : PlainState) (nsid pid : ℕ) (references : References) (o : Option Target)
    → (if option_map_or (λ (t : Target). is_partly_written c (references t.rg t.ruh)) o false then option_map_or (λ t. not_fully_written s nsid pid t ∷ []) o [] else []) ≡ closing_event c s nsid references pid o
closed-one c s nsid pid references None = refl
closed-one c s nsid pid references (Some t) = refl

closed-all : (c : DriveConfig) (s : PlainState) (nsid closed first : ℕ) (references : References) (pids : List ℕ) → TellsClosed c s nsid closed first references pids
    → flat_map (closed_event c s nsid closed) (enumerate_from first pids) ≡ update_events c s nsid references pids
unfolding TellsClosed
closed-all c s nsid closed first references [] tells = refl
closed-all c s nsid closed first references (pid ∷ pids) tells =
    let here : closed_event c s nsid closed (first, pid) ≡ closing_event c s nsid references pid (named_by c s nsid pid) =
    ap (λ (b : Bool). if b then option_map_or (λ t. not_fully_written s nsid pid t ∷ []) (named_by c s nsid pid) [] else []) tells.0 ∙ closed-one c s nsid pid references (named_by c s nsid pid) in
    let rest = closed-all c s nsid closed (first + 1) (updated_by c s nsid references pid) pids tells.1 in
    λ i. here i ++ rest i

update-made : (c : DriveConfig) (p : Point) (queue number : ℕ) (x : HandleUpdate) (reply : Reply) (moment closed : ℕ) → IsOrderly c p → TellsClosed c p.state x.nsid closed 0 p.state.references x.pids
    → Saves c p (changes.Update x.nsid closed x.pids) (completed queue number (commands.Update x) (made reply) moment)
unfolding applied kept_of_change events_of_change state_with next after changed_by effect_of traced_by kept_of_entry events_of_entry
update-made c p queue number x reply moment closed orderly tells =
    let position : p.totals.position + 1 - 1 ≡ p.state.position = position-is c p orderly in
    let events : flat_map (closed_event c (record p.state { position = p.totals.position + 1 - 1 }) x.nsid closed) (enumerate_from 0 x.pids) ≡ update_events c p.state x.nsid p.state.references x.pids =
    (λ i. flat_map (closed_event c (record p.state { position = position i }) x.nsid closed) (enumerate_from 0 x.pids)) ∙ closed-all c p.state x.nsid closed 0 p.state.references x.pids tells in
    λ i. record (applied c (drawn c p) (changes.Clear 0 [], totals_with p.totals (completed queue number (commands.Update x) (made reply) moment))) {
      pages = page_of_block c p;
      host_events = latest (p.host_events ++ filter is_host_event (filter (λ (e : Event). p.state.reports e.ruh e.kind) (events i)));
      controller_events = latest (p.controller_events ++ filter (λ e. not (is_host_event e)) (filter (λ (e : Event). p.state.reports e.ruh e.kind) (events i)));
    }

pub update-saved : (c : DriveConfig) (p : Point) (queue number : ℕ) (x : HandleUpdate) (reply : Reply) (moment closed : ℕ) → IsOrderly c p → IsTrue reply.applied → TellsClosed c p.state x.nsid closed 0 p.state.references x.pids
    → Saves c p (changes.Update x.nsid closed x.pids) (completed queue number (commands.Update x) reply moment)
update-saved c p queue number x reply moment closed orderly is tells = by-made c p _ queue number (commands.Update x) reply moment is (update-made c p queue number x reply moment closed orderly tells)

-- ---- each command

pub zero-saved : (c : DriveConfig) (p : Point) (queue number : ℕ) (x : Zero) (reply : Reply) (moment : ℕ) → IsTrue reply.applied → Saves c p (changes.Clear x.nsid (record { slba = x.slba; length = x.count } ∷ [])) (completed queue number (commands.Zero x) reply moment)
zero-saved c p queue number x reply moment is = by-made c p _ queue number (commands.Zero x) reply moment is (zero-made c p queue number x reply moment)

pub dealloc-saved : (c : DriveConfig) (p : Point) (queue number : ℕ) (x : Dealloc) (reply : Reply) (moment : ℕ) → IsTrue reply.applied → IsTrue x.deallocate → Saves c p (changes.Clear x.nsid x.ranges) (completed queue number (commands.Dealloc x) reply moment)
dealloc-saved c p queue number x reply moment is clears =
    by-made c p _ queue number (commands.Dealloc x) reply moment is
    (subst (λ (b : Bool). Saves c p (changes.Clear x.nsid x.ranges) (completed queue number (commands.Dealloc (record x { deallocate = b })) (made reply) moment)) (sym clears) (dealloc-made c p queue number x.nsid x reply moment))

pub create-saved : (c : DriveConfig) (p : Point) (queue number : ℕ) (x : Create) (reply : Reply) (moment : ℕ) → IsOrderly c p → IsTrue reply.applied
    → Saves c p (changes.Create (unwrap_or (lowest_free p.state) 0) x.size (x.given && nat_lt 0 (length x.list)) (chosen_handles x.list)) (completed queue number (commands.Create x) reply moment)
create-saved c p queue number x reply moment orderly is = by-made c p _ queue number (commands.Create x) reply moment is (create-made c p queue number x reply moment orderly)

pub delete-saved : (c : DriveConfig) (p : Point) (queue number : ℕ) (x : Delete) (reply : Reply) (moment : ℕ) → IsTrue reply.applied → Saves c p (changes.Delete x.nsid) (completed queue number (commands.Delete x) reply moment)
delete-saved c p queue number x reply moment is = by-made c p _ queue number (commands.Delete x) reply moment is (delete-made c p queue number x reply moment)

pub placement-saved : (c : DriveConfig) (p : Point) (queue number : ℕ) (x : SetFdp) (reply : Reply) (moment : ℕ) → IsTrue reply.applied → Saves c p (changes.SetFdp x.enable x.index (p.state.generation + 1)) (completed queue number (commands.SetFdp x) reply moment)
placement-saved c p queue number x reply moment is = by-made c p _ queue number (commands.SetFdp x) reply moment is (placement-made c p queue number x reply moment)

pub kinds-saved : (c : DriveConfig) (p : Point) (queue number : ℕ) (x : SetEvents) (reply : Reply) (moment mask : ℕ) → IsTrue reply.applied → ((kind : EventKind) → has_kind mask kind ≡ list_any (λ code. code == kind_code kind) x.types)
    → Saves c p (changes.SetEvents (slice_index (handles_of p.state x.nsid) x.handle) x.enable mask) (completed queue number (commands.SetEvents x) reply moment)
kinds-saved c p queue number x reply moment mask is tells = by-made c p _ queue number (commands.SetEvents x) reply moment is (kinds-made c p queue number x reply moment mask tells)
