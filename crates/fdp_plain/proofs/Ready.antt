-- What the change of an entry stands on follows from that the entry may follow.
use Rattle.std.proofs.Common.{◌≡◌, ℕ, ◌+◌, ◌<◌, ◌≤◌, ◌^◌, Bool, true, false, List, length, Option, Some, None, refl, sym, ap, subst, arith}
use Rattle.std.specs.Prelude.{◌==◌, is_none, is_some, find, option_and_then, option_map, slice_get}
use Rattle.std.specs.List.{list_all}
use Rattle.std.specs.Option.{IfSome, IsSomeAnd, option_flatten, option_map_or}
use Rattle.std.proofs.lemmas.Bool.{leb-false, or_parts}
use Rattle.std.proofs.lemmas.Option.{slice_get_within}
use Rattle.fdp_base.specs.declared.command.Command.{Command}
use Rattle.fdp_base.specs.declared.command.Command.TheVariants as commands
use Rattle.fdp_base.specs.declared.config.DriveConfig.{DriveConfig}
use Rattle.fdp_base.specs.declared.entry.Entry.{Entry}
use Rattle.fdp_base.specs.declared.entry.Entry.TheVariants as entries
use Rattle.fdp_base.specs.declared.entry.Reply.{Reply}
use Rattle.fdp_rules.specs.Change.{going_with, holds_ticket, started}
use Rattle.fdp_base.specs.CommandKinds.{nsid_of, write_of}
use Rattle.fdp_rules.specs.Effect.{created, lowest_free}
use Rattle.fdp_base.specs.Numbers.{numbers_from}
use Rattle.fdp_rules.specs.PlainState.{Going, Namespace, PlainState}
use Rattle.fdp_rules.specs.Refusal.{checks_of, is_absent, is_present, refusal_of}
use Rattle.fdp_rules.specs.Room.{handles_of, namespace_ids, size_of}
use Rattle.fdp_rules.specs.Sites.{is_there}
use Rattle.fdp_rules.specs.Step.{Follows, IsHost}
use Rattle.fdp_tables.specs.declared.state.Kept.{Kept}
use Rattle.fdp_tables.specs.declared.state.KeptBlock.{KeptBlock}
use Rattle.fdp_tables.specs.declared.state.KeptGoing.{KeptGoing}
use Rattle.fdp_tables.specs.declared.state.Space.{Space}
use Rattle.fdp_plain_effects.specs.Going.{IsHandlePlace}
use Rattle.fdp_plain_effects.specs.Making.{AreBlocksOf, IsCreated, IsSpaceOf}
use Rattle.fdp_plain_effects.specs.Ready.{HasSpace, IsAsAsked, IsChangeReady, IsHostReady, IsPlaceReady, IsReady}
use Rattle.fdp_tables.specs.Sound.{IsSound}
use Rattle.fdp_tables.specs.State.{going_of, namespace_of, plain_of, point_kept, row}
use Rattle.fdp_plain_answers.proofs.Accepted.{none_holds}
use Rattle.fdp_tables.proofs.Beginning.{few_handles}
use Rattle.fdp_history.proofs.Effects.{applicable}
use Rattle.fdp_history.proofs.Tables.{find-absent, find-within}
use Rattle.fdp_plain.proofs.Fitting.{group_there}
use Rattle.fdp_base.specs.declared.command.Write.{Write}

-- ---- rows that are there

-- a row that is not empty
present_below : {X : Type 0} (xs : List (Option X)) (i : ℕ) → is_some (row xs i) ≡ true → i < length xs
present_below {X} xs i there =
    let P : Option (Option X) → Type 0 = λ o. slice_get xs i ≡ o → is_some (option_flatten o) ≡ true → i < length xs in
    (elim (slice_get xs i) as P [ None ↦ λ _ no. absurd cc | Some x ↦ λ e _. slice_get_within xs i x e ]) refl there

birth_present : (o : Option Space) (birth : ℕ) → option_map_or (λ (x : Namespace). x.birth == birth) (option_map namespace_of o) false ≡ true → is_some o ≡ true
birth_present None birth e = absurd cc
birth_present (Some x) birth e = refl

named_present : (o : Option Space) → is_none (option_map namespace_of o) ≡ false → is_some o ≡ true
named_present None e = absurd cc
named_present (Some x) e = refl

-- the namespace of a write that is there
there_below : (k : Kept) (g : Going) (nsid : ℕ) → nsid_of g.command ≡ nsid → is_there (plain_of k) g ≡ true → nsid < length k.spaces.items
there_below k g nsid named there =
    subst (λ (n : ℕ). n < length k.spaces.items) named (present_below k.spaces.items (nsid_of g.command) (birth_present (row k.spaces.items (nsid_of g.command)) g.birth there))

-- a namespace that is not absent
named_below : (k : Kept) (nsid : ℕ) → is_absent (plain_of k) nsid ≡ false → nsid < length k.spaces.items
named_below k nsid e = present_below k.spaces.items nsid (named_present (row k.spaces.items nsid) e)

-- ---- the change of a command

made_space : (k : Kept) (size : ℕ) (given : Bool) (list : List ℕ) (space : Option Space) → IsSomeAnd space (IsCreated k size given list) → (x : Space) × (space ≡ Some x) × IsCreated k size given list x
made_space k size given list None made = absurd made
made_space k size given list (Some x) made = (x, refl, made)

-- an identifier that is free
free_there : (k : Kept) (nsid : ℕ) → IsSound k → lowest_free (plain_of k) ≡ Some nsid → nsid < length k.spaces.items
unfolding namespace_ids
free_there k nsid h e = omega (arith, (find-within (is_absent (plain_of k)) 1 16 nsid e).1, h.spaces)

space_ready : (k : Kept) (size : ℕ) (given : Bool) (list : List ℕ) (space : Option Space) → IsSound k → list_all (is_present (plain_of k)) namespace_ids ≡ false → IsSomeAnd space (IsCreated k size given list) → HasSpace k space × IsAsAsked k size given list space
unfolding namespace_ids
space_ready k size given list space h some made =
    let free = find-absent (plain_of k).namespaces 1 16 some in
    let x = made_space k size given list space made in (
      record {
        nsid = free.0;
        nsid_is = free.1;
        place = free_there k free.0 h free.1;
        made = x.0;
        made_is = x.1;
        empty = x.2.empty;
      },
      subst (λ (o : Option Space). IfSome o (λ y. namespace_of y ≡ created (plain_of k) size given list)) (sym x.1) x.2.namespace,
    )

module _ (k : Kept) (queue number : ℕ) (reply : Reply) (moment : ℕ) (blocks : List (Option KeptBlock)) (space : Option Space) (h : IsSound k) (few : length k.entries.items + 1 < 2 ^ 64) (applied : reply.applied ≡ true) where
  -- the change of a command can be made
  pub effect_ready : (command : Command) → IsHost true k.config (point_kept k) queue number command reply moment → AreBlocksOf k queue command blocks → IsSpaceOf k command space → IsReady k queue command blocks space
  unfolding refusal_of checks_of
  effect_ready (commands.Write x) host blocks_made space_made =
      let may = applicable true k.config (point_kept k) queue number (commands.Write x) reply moment applied host in
      let w = h.writes queue may.0 may.1.going in
      record {
        there = there_below k may.0 x.nsid (ap nsid_of may.1.same_command) may.2.there;
        fits = subst (λ (x : Command). IfSome (write_of x) (λ (w : Write). w.slba + w.count ≤ size_of (plain_of k) w.nsid)) may.1.same_command (w.range may.2.there);
        going = may.0;
        going_is = may.1.going;
        made = blocks_made may.0 may.1.going;
      }
  effect_ready (commands.Read x) host blocks_made space_made = tt
  effect_ready (commands.Zero x) host blocks_made space_made = tt
  effect_ready (commands.Dealloc x) host blocks_made space_made = tt
  effect_ready (commands.Flush x) host blocks_made space_made = tt
  effect_ready (commands.Delete x) host blocks_made space_made =
      let may = applicable true k.config (point_kept k) queue number (commands.Delete x) reply moment applied host in
      named_below k x.nsid (none_holds (checks_of k.config (point_kept k) (commands.Delete x)) may).0
  effect_ready (commands.Status x) host blocks_made space_made = tt
  effect_ready (commands.Update x) host blocks_made space_made = tt
  effect_ready (commands.Log x) host blocks_made space_made = tt
  effect_ready (commands.SetFdp x) host blocks_made space_made = omega (arith, h.generation, few)
  effect_ready (commands.GetFdp x) host blocks_made space_made = tt
  effect_ready (commands.SetEvents x) host blocks_made space_made =
      let may = applicable true k.config (point_kept k) queue number (commands.SetEvents x) reply moment applied host in
      let listed = (or_parts _ _ (none_holds (checks_of k.config (point_kept k) (commands.SetEvents x)) may).1.1.0).0 in
      record {
        listed = leb-false (length (handles_of (plain_of k) x.nsid)) x.handle listed;
        row = omega (arith, h.known x.nsid x.handle, h.reports);
      }
  effect_ready (commands.Create x) host blocks_made space_made =
      let may = applicable true k.config (point_kept k) queue number (commands.Create x) reply moment applied host in
      space_ready k x.size x.given x.list space h (none_holds (checks_of k.config (point_kept k) (commands.Create x)) may).1.1.0 space_made
  effect_ready (commands.Other x) host blocks_made space_made = tt

-- ---- a page that is placed

each_some : {X : Type 0} (P : X → Type 0) (o : Option X) → ((x : X) → o ≡ Some x → P x) → IfSome o P
each_some P None f = tt
each_some P (Some x) f = f x refl

-- the going write with a ticket is going in a queue
queue_with : (c : DriveConfig) (s : PlainState) (ticket : ℕ) (g : Going) → going_with c s ticket ≡ Some g → (queue : ℕ) × (s.going queue ≡ Some g)
queue_with c s ticket g e =
    let P : Option ℕ → Type 0 = λ o. option_and_then s.going o ≡ Some g → (queue : ℕ) × (s.going queue ≡ Some g) in
    (elim (find (holds_ticket s ticket) (numbers_from 1 c.queues)) as P [ None ↦ λ none. absurd cc | Some queue ↦ λ some. (queue, some) ]) e

place_ready : (k : Kept) (ticket : ℕ) → IsSound k → IsPlaceReady k ticket
place_ready k ticket h = record {
  place = each_some (IsHandlePlace k) (going_with k.config (plain_of k) ticket) (λ g e.
      let at = queue_with k.config (plain_of k) ticket g e in
      let w = h.writes at.0 g at.1 in
      (w.handle, omega (arith, w.handle, w.group, h.references)));
  room = λ queue.
      each_some (λ (g : KeptGoing). g.ticket ≡ ticket → g.placed + 1 < 2 ^ 32) (row k.going.items queue) (λ g e same.
      let w = h.writes queue (going_of g) (ap (option_map going_of) e) in
      omega (arith, w.placed, w.blocks));
}

-- ---- an entry

-- what is made for an entry: for a command the rows of its change, for a write that is let go that write
abbrev pub IsMadeFor : Kept → Entry → List (Option KeptBlock) → Option Space → Option KeptGoing → Type 0
IsMadeFor k (entries.Host h) blocks space going = IsHostReady k h.queue h.command h.reply blocks space
IsMadeFor k (entries.Started s) blocks space going = IsSomeAnd going (λ g. going_of g ≡ started k.config (plain_of k) s.number s.command s.rg s.ruh s.pid_valid)
IsMadeFor k (entries.Placed p) blocks space going = Unit {0}
IsMadeFor k (entries.Copied c) blocks space going = Unit {0}
IsMadeFor k (entries.Moved m) blocks space going = Unit {0}
IsMadeFor k (entries.Erased e) blocks space going = Unit {0}
IsMadeFor k (entries.Retired r) blocks space going = Unit {0}
IsMadeFor k (entries.Aside a) blocks space going = Unit {0}
IsMadeFor k (entries.Shut s) blocks space going = Unit {0}
IsMadeFor k (entries.Worn w) blocks space going = Unit {0}
IsMadeFor k entries.Reopened blocks space going = Unit {0}

module _ (k : Kept) (blocks : List (Option KeptBlock)) (space : Option Space) (going : Option KeptGoing) (h : IsSound k) where
  pub change_ready : (e : Entry) → Follows true k.config (point_kept k) e → IsMadeFor k e blocks space going → IsChangeReady k e blocks space going
  unfolding Follows
  change_ready (entries.Host x) f made = made
  change_ready (entries.Started x) f made = (omega (arith, f.queue_is.1, h.going), made)
  change_ready (entries.Placed x) f made = place_ready k x.ticket h
  change_ready (entries.Copied x) f made = tt
  change_ready (entries.Moved x) f made = tt
  change_ready (entries.Erased x) f made =
      let group = group_there k h x.unit f.data_unit in
      (group.units, omega (arith, group.group, h.copies, h.worn))
  change_ready (entries.Retired x) f made = rw h.lost f.data_unit
  change_ready (entries.Aside x) f made = rw h.lost f.data_unit
  change_ready (entries.Shut x) f made =
      let below : x.ruh < 16 = omega (arith, f.handle, few_handles k.config h.config k.enabled k.index) in
      (below, omega (arith, f.group, below, h.references))
  change_ready (entries.Worn x) f made = rw h.worn f
  change_ready entries.Reopened f made = tt

-- a command that may be completed
pub host_of : (k : Kept) (queue number : ℕ) (command : Command) (reply : Reply) (moment : ℕ) → Follows true k.config (point_kept k) (entries.Host (record { queue = queue; number = number; command = command; reply = reply; moment = moment })) → IsHost true k.config (point_kept k) queue number command reply moment
unfolding Follows
host_of k queue number command reply moment f = f
