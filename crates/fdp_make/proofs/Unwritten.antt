-- A block that its queue had not written: nothing of the load changed it.
use Rattle.std.proofs.Common.{◌≡◌, ℕ, ◌+◌, ◌-◌, ◌<◌, ◌≤◌, Bool, true, false, cond, ◌&&◌, List, [], ◌∷◌, length, Option, Some, None, refl, sym, ◌∙◌, ap, subst, arith}
use Rattle.std.specs.Prelude.{◌==◌, IfSome, fold, nat_le, nat_lt, option_and_then, unwrap_or}
use Rattle.std.specs.List.{AllByRecursion}
use Rattle.std.specs.Option.{option_map_or, option_or}
use Rattle.std.proofs.lemmas.Bool.{and_parts, eq-eqb, leb-true, ltb-true}
use Rattle.fdp_base.specs.declared.command.Command.{Command}
use Rattle.fdp_base.specs.declared.command.Write.{Write}
use Rattle.fdp_base.specs.declared.config.DriveConfig.{DriveConfig}
use Rattle.fdp_base.specs.declared.entry.Entry.{Entry}
use Rattle.fdp_base.specs.declared.entry.Host.{Host}
use Rattle.fdp_base.specs.declared.payload.Payload.TheVariants.{Pattern}
use Rattle.fdp_base.specs.CommandKinds.{write_of}
use Rattle.fdp_base.specs.EntryKinds.{host_of}
use Rattle.fdp_base.specs.Geometry.{IsBlockSize}
use Rattle.fdp_base.specs.Numbers.{is_among}
use Rattle.fdp_base.specs.Pattern.{payload_block}
use Rattle.fdp_base.proofs.Entries.{by-host}
use Rattle.fdp_history.proofs.Payloads.{length-payload}
use Rattle.fdp_rules.specs.LastWrite.{last_left, left_by, left_by_entry}
use Rattle.fdp_make.specs.Load.{address, command_at, number_at}
use Rattle.fdp_make.specs.Summary.{covers, last_write, write_in}
use Rattle.fdp_make.proofs.Loads.{AreOfLoad, IsOfLoad, IsWithinOwn, address-within, by-made}

-- ---- no write of a queue to a block

or-none : {X : Type 0} (a b : Option X) → option_or a b ≡ None → (a ≡ None) × (b ≡ None)
or-none None b h = (refl, h)
or-none (Some x) b h = absurd cc

none-made : (queue nsid lba : ℕ) (old : Option Write) (es : List Entry) → fold (λ (o : Option Write) (e : Entry). option_or (write_in queue nsid lba e) o) old es ≡ None
    → (old ≡ None) × AllByRecursion (λ e. write_in queue nsid lba e ≡ None) es
none-made queue nsid lba old [] h = (h, tt)
none-made queue nsid lba old (e ∷ es) h =
    let rest = none-made queue nsid lba (option_or (write_in queue nsid lba e) old) es h in
    let both = or-none (write_in queue nsid lba e) old rest.0 in
    (both.1, (both.0, rest.1))

none-written : (queue nsid lba : ℕ) (es : List Entry) → last_write queue nsid lba es ≡ None → AllByRecursion (λ e. write_in queue nsid lba e ≡ None) es
unfolding last_write
none-written queue nsid lba es h = (none-made queue nsid lba None es h).1

-- ---- what the entries of a load leave there

none-at : (x : List ℕ) (b : Bool) → (b ≡ true → ⊥) → cond b (Some x) None ≡ None
none-at x true h = absurd (h refl)
none-at x false h = refl

module _ (c : DriveConfig) (trace lba : ℕ) (own : IsWithinOwn trace lba 1) where
  host-leaves : (queue k at : ℕ) (applied : Bool) → IsWithinOwn queue at 8 → 1 ≤ queue → 1 ≤ trace → (command : Command) → command ≡ command_at queue k at
      → cond (applied && (queue == trace && option_map_or (covers 1 lba) (write_of command) false)) (write_of command) None ≡ None → cond applied (left_by c 1 lba command) None ≡ None
  host-leaves queue k at false there low here command is none = refl
  host-leaves queue k at true there low here command is none =
      let P : Command → Type 0 = λ x. cond (queue == trace && option_map_or (covers 1 lba) (write_of x) false) (write_of x) None ≡ None → left_by c 1 lba x ≡ None in
      subst P (sym is)
      (by-made P queue k at (λ h. refl)
      (λ h. none-at _ (is_among at 8 lba)
      (λ among.
      let parts = and_parts (nat_le at lba) (nat_lt lba (at + 8)) among in
      let from : at ≤ lba = leb-true at lba parts.0 in
      let to : lba < at + 8 = ltb-true lba (at + 8) parts.1 in
      let same : queue ≡ trace = omega (arith, from, to, there.low, there.high, own.low, own.high, low, here) in
      let own_queue : (queue == trace) ≡ true = eq-eqb queue trace same in
      absurd cc)))
      none

  entry-leaves : 1 ≤ trace → (e : Entry) → IfSome (host_of e) IsOfLoad → write_in trace 1 lba e ≡ None → left_by_entry c 1 lba e ≡ None
  entry-leaves here e load none =
      let P : Entry → Type 0 = λ x. IfSome (host_of x) IsOfLoad → write_in trace 1 lba x ≡ None → left_by_entry c 1 lba x ≡ None in
      by-host P
      (λ h of left. host-leaves h.queue of.1.0 (address h.queue (number_at h.queue (of.1.0 + 1))) h.reply.applied (address-within h.queue (number_at h.queue (of.1.0 + 1))) of.0.0 here h.command of.1.1 left)
      (λ x no of left. ap (λ (o : Option Host). option_and_then (λ (h : Host). cond h.reply.applied (left_by c 1 lba h.command) None) o) no)
      e load none

  leave-alone : 1 ≤ trace → (es : List Entry) (bytes : List ℕ) → AreOfLoad es → AllByRecursion (λ e. write_in trace 1 lba e ≡ None) es → last_left c 1 lba bytes es ≡ bytes
  leave-alone here [] bytes load none = refl
  leave-alone here (e ∷ es) bytes load none =
      ap (λ (o : Option (List ℕ)). last_left c 1 lba (unwrap_or o bytes) es) (entry-leaves here e load.0 none.0) ∙ leave-alone here es bytes load.1 none.1

  -- what its queue had not written stays as it was
  pub stays : 1 ≤ trace → (es : List Entry) (bytes : List ℕ) → AreOfLoad es → last_write trace 1 lba es ≡ None → last_left c 1 lba bytes es ≡ bytes
  stays here es bytes load none = leave-alone here es bytes load (none-written trace 1 lba es none)

-- ---- how many bytes a block has

module _ (c : DriveConfig) (size : IsBlockSize c.block) (n lba : ℕ) where
  some-length : (s i : ℕ) (b : Bool) → IfSome (cond b (Some (payload_block c.block (Pattern s) i)) None) (λ (xs : List ℕ). length xs ≡ c.block)
  some-length s i true = length-payload c (i + 1) i (Pattern s) size tt (omega arith)
  some-length s i false = tt

  host-length : (queue k at : ℕ) (applied : Bool) (command : Command) → command ≡ command_at queue k at → IfSome (cond applied (left_by c n lba command) None) (λ (xs : List ℕ). length xs ≡ c.block)
  host-length queue k at false command is = tt
  host-length queue k at true command is =
      let P : Command → Type 0 = λ x. IfSome (left_by c n lba x) (λ (xs : List ℕ). length xs ≡ c.block) in
      subst P (sym is) (by-made P queue k at tt (some-length _ (lba - at) (n == 1 && is_among at 8 lba)))

  entry-length : (e : Entry) → IfSome (host_of e) IsOfLoad → IfSome (left_by_entry c n lba e) (λ (xs : List ℕ). length xs ≡ c.block)
  entry-length e load =
      let P : Entry → Type 0 = λ x. IfSome (host_of x) IsOfLoad → IfSome (left_by_entry c n lba x) (λ (xs : List ℕ). length xs ≡ c.block) in
      by-host P
      (λ h of. host-length h.queue of.1.0 (address h.queue (number_at h.queue (of.1.0 + 1))) h.reply.applied h.command of.1.1)
      (λ x no of. subst (λ (o : Option Host). IfSome (option_and_then (λ (h : Host). cond h.reply.applied (left_by c n lba h.command) None) o) (λ (xs : List ℕ). length xs ≡ c.block)) (sym no) tt)
      e load

  one-length : (o : Option (List ℕ)) (bytes : List ℕ) → IfSome o (λ (xs : List ℕ). length xs ≡ c.block) → length bytes ≡ c.block → length (unwrap_or o bytes) ≡ c.block
  one-length None bytes h old = old
  one-length (Some xs) bytes h old = h

  -- what a load leaves in a block has the bytes of a block
  pub left-length : (es : List Entry) (bytes : List ℕ) → AreOfLoad es → length bytes ≡ c.block → length (last_left c n lba bytes es) ≡ c.block
  left-length [] bytes load old = old
  left-length (e ∷ es) bytes load old = left-length es (unwrap_or (left_by_entry c n lba e) bytes) load.1 (one-length (left_by_entry c n lba e) bytes (entry-length e load.0) old)
