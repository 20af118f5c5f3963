-- What each entry leaves of the handles that the spares of pages name.
use Rattle.std.proofs.Common.{◌≡◌, ℕ, ◌-◌, Bool, true, false, Option, Some, None, refl, sym, ◌∙◌, ap, subst, ⊎_elim}
use Rattle.std.specs.Prelude.{◌==◌, ◌&&◌, if◌then◌else◌, not, option_map}
use Rattle.std.specs.Option.{option_map_or}
use Rattle.fdp_base.specs.declared.command.Command.{Command}
use Rattle.fdp_base.specs.declared.command.Command.TheVariants as commands
use Rattle.fdp_base.specs.declared.config.DriveConfig.{DriveConfig}
use Rattle.fdp_base.specs.declared.entry.Entry.{Entry}
use Rattle.fdp_base.specs.declared.entry.Entry.TheVariants as entries
use Rattle.fdp_base.specs.declared.entry.Spot.{Spot}
use Rattle.fdp_base.specs.declared.payload.Payload.{Payload}
use Rattle.fdp_base.specs.CommandKinds.{is_write, nsid_of}
use Rattle.fdp_base.specs.Numbers.{is_among, with_at}
use Rattle.fdp_locations.specs.Located.{AreHandled, handle_at}
use Rattle.fdp_pointers.specs.Contents.{ended_by, renamed_by}
use Rattle.fdp_pointers.specs.Facts.{Page, put_at}
use Rattle.fdp_pointers.specs.Pointers.{Behind, Pointer, Pointer.of_block, Pointer.of_flight, moved, pointed, renamed}
use Rattle.fdp_pointers.proofs.Renaming.{behind-renamed, moved-from, pointed-cases}
use Rattle.fdp_rules.specs.Change.{after, changed_by, holds_ticket, one_more_placed}
use Rattle.fdp_rules.specs.Effect.{block_of_write, effect_of, is_in_ranges}
use Rattle.fdp_rules.specs.Next.{next}
use Rattle.fdp_rules.specs.PlainState.{Block, Going, PlainState}
use Rattle.fdp_rules.specs.Point.{Point}

-- behind a pointer that gets what stood behind another one stands the same handle
abbrev Kept : PlainState → PlainState → (Pointer → Option Pointer) → Pointer → Type 0
Kept s now r p = (q : Pointer) (ruh : ℕ) → r p ≡ Some q → handle_at now p ≡ Some ruh → handle_at s q ≡ Some ruh

-- ---- what one pointer keeps

same-kept : (s : PlainState) (p q : Pointer) (ruh : ℕ) → Some p ≡ Some q → handle_at s p ≡ Some ruh → handle_at s q ≡ Some ruh
same-kept s p q ruh e is = let same : p ≡ q = cc in subst (λ (x : Pointer). handle_at s x ≡ Some ruh) same is

-- a block that becomes absent is not among those that are kept
absent-kept : (s : PlainState) (n lba : ℕ) (b : Bool) (q : Pointer) (ruh : ℕ) → (if not b then Some (of_block n lba) else None) ≡ Some q → option_map (λ (x : Block). x.ruh) (if b then None else s.blocks n lba) ≡ Some ruh → handle_at s q ≡ Some ruh
absent-kept s n lba true q ruh e is = absurd cc
absent-kept s n lba false q ruh e is = same-kept s (of_block n lba) q ruh e is

-- a pointer that is kept where a test passes keeps its own
tested-kept : (s : PlainState) (p q : Pointer) (b : Bool) (ruh : ℕ) → (if b then Some p else None) ≡ Some q → handle_at s p ≡ Some ruh → handle_at s q ≡ Some ruh
tested-kept s p q true ruh e is = same-kept s p q ruh e is
tested-kept s p q false ruh e is = absurd cc

-- a page of the write of another queue
other-kept : (s : PlainState) (queue q i : ℕ) (x : Option Going) (b : Bool) (to : Pointer) (ruh : ℕ) → (if not b then Some (of_flight q i) else None) ≡ Some to → option_map (λ (g : Going). g.ruh) (if b then x else s.going q) ≡ Some ruh → handle_at s to ≡ Some ruh
other-kept s queue q i x true to ruh e is = absurd cc
other-kept s queue q i x false to ruh e is = same-kept s (of_flight q i) to ruh e is

-- a block that a write puts has the handle of the write
block-handle : (c : DriveConfig) (slba lba : ℕ) (payload : Payload) (o : Option Going) → option_map (λ (b : Block). b.ruh) (option_map (block_of_write c slba payload lba) o) ≡ option_map (λ (g : Going). g.ruh) o
block-handle c slba lba payload None = refl
block-handle c slba lba payload (Some g) = refl

put-kept : (c : DriveConfig) (s : PlainState) (queue slba n lba : ℕ) (payload : Payload) (b : Bool) (q : Pointer) (ruh : ℕ) → (if b then Some (of_flight queue (lba - slba)) else Some (of_block n lba)) ≡ Some q
    → option_map (λ (x : Block). x.ruh) (if b then option_map (block_of_write c slba payload lba) (s.going queue) else s.blocks n lba) ≡ Some ruh → handle_at s q ≡ Some ruh
put-kept c s queue slba n lba payload true q ruh e is = same-kept s (of_flight queue (lba - slba)) q ruh e (sym (block-handle c slba lba payload (s.going queue)) ∙ is)
put-kept c s queue slba n lba payload false q ruh e is = same-kept s (of_block n lba) q ruh e is

gone-kept : (s : PlainState) (q i : ℕ) (b : Bool) (to : Pointer) (ruh : ℕ) → (if b then None else Some (of_flight q i)) ≡ Some to → option_map (λ (g : Going). g.ruh) (if b then None else s.going q) ≡ Some ruh → handle_at s to ≡ Some ruh
gone-kept s q i true to ruh e is = absurd cc
gone-kept s q i false to ruh e is = same-kept s (of_flight q i) to ruh e is

-- ---- the end of a command

abbrev host : ℕ → Command → Bool → PlainState → DriveConfig → PlainState
host queue command made s c = record (if made then effect_of c s queue command else s) { going = if is_write command then with_at s.going queue None else s.going }

host-kept : (c : DriveConfig) (s : PlainState) (queue : ℕ) (command : Command) (made : Bool) (p : Pointer) → Kept s (host queue command made s c) (ended_by s queue made command) p
unfolding effect_of
host-kept c s queue (commands.Write w) true (of_block n lba) q ruh e is = put-kept c s queue w.slba n lba w.payload (n == w.nsid && is_among w.slba w.count lba) q ruh e is
host-kept c s queue (commands.Write w) true (of_flight k i) q ruh e is = gone-kept s k i (k == queue) q ruh e is
host-kept c s queue (commands.Write w) false (of_block n lba) q ruh e is = same-kept s (of_block n lba) q ruh e is
host-kept c s queue (commands.Write w) false (of_flight k i) q ruh e is = other-kept s queue k i None (k == queue) q ruh e is
host-kept c s queue (commands.Read r) true p q ruh e is = same-kept s p q ruh e is
host-kept c s queue (commands.Read r) false p q ruh e is = same-kept s p q ruh e is
host-kept c s queue (commands.Zero z) true (of_block n lba) q ruh e is = absent-kept s n lba (n == z.nsid && is_among z.slba z.count lba) q ruh e is
host-kept c s queue (commands.Zero z) true (of_flight k i) q ruh e is = same-kept s (of_flight k i) q ruh e is
host-kept c s queue (commands.Zero z) false p q ruh e is = same-kept s p q ruh e is
host-kept c s queue (commands.Dealloc d) true (of_block n lba) q ruh e is = absent-kept s n lba (n == d.nsid && (d.deallocate && is_in_ranges d.ranges lba)) q ruh e is
host-kept c s queue (commands.Dealloc d) true (of_flight k i) q ruh e is = same-kept s (of_flight k i) q ruh e is
host-kept c s queue (commands.Dealloc d) false p q ruh e is = same-kept s p q ruh e is
host-kept c s queue (commands.Flush f) true p q ruh e is = same-kept s p q ruh e is
host-kept c s queue (commands.Flush f) false p q ruh e is = same-kept s p q ruh e is
host-kept c s queue (commands.Delete d) true (of_block n lba) q ruh e is = deleted-kept (n == d.nsid) e is where
  deleted-kept : (b : Bool) → (if not b then Some (of_block n lba) else None) ≡ Some q → option_map (λ (x : Block). x.ruh) (if b && true then None else s.blocks n lba) ≡ Some ruh → handle_at s q ≡ Some ruh
  deleted-kept true e is = absurd cc
  deleted-kept false e is = same-kept s (of_block n lba) q ruh e is
host-kept c s queue (commands.Delete d) true (of_flight k i) q ruh e is = tested-kept s (of_flight k i) q (not (option_map_or (λ (g : Going). nsid_of g.command == d.nsid) (s.going k) false)) ruh e is
host-kept c s queue (commands.Delete d) false p q ruh e is = same-kept s p q ruh e is
host-kept c s queue (commands.Status x) true p q ruh e is = same-kept s p q ruh e is
host-kept c s queue (commands.Status x) false p q ruh e is = same-kept s p q ruh e is
host-kept c s queue (commands.Update u) true (of_block n lba) q ruh e is = same-kept s (of_block n lba) q ruh e is
host-kept c s queue (commands.Update u) true (of_flight k i) q ruh e is = same-kept s (of_flight k i) q ruh e is
host-kept c s queue (commands.Update u) false p q ruh e is = same-kept s p q ruh e is
host-kept c s queue (commands.Log l) true p q ruh e is = same-kept s p q ruh e is
host-kept c s queue (commands.Log l) false p q ruh e is = same-kept s p q ruh e is
host-kept c s queue (commands.SetFdp x) true (of_block n lba) q ruh e is = same-kept s (of_block n lba) q ruh e is
host-kept c s queue (commands.SetFdp x) true (of_flight k i) q ruh e is = same-kept s (of_flight k i) q ruh e is
host-kept c s queue (commands.SetFdp x) false p q ruh e is = same-kept s p q ruh e is
host-kept c s queue (commands.GetFdp g) true p q ruh e is = same-kept s p q ruh e is
host-kept c s queue (commands.GetFdp g) false p q ruh e is = same-kept s p q ruh e is
host-kept c s queue (commands.SetEvents x) true (of_block n lba) q ruh e is = same-kept s (of_block n lba) q ruh e is
host-kept c s queue (commands.SetEvents x) true (of_flight k i) q ruh e is = same-kept s (of_flight k i) q ruh e is
host-kept c s queue (commands.SetEvents x) false p q ruh e is = same-kept s p q ruh e is
host-kept c s queue (commands.Create x) true (of_block n lba) q ruh e is = same-kept s (of_block n lba) q ruh e is
host-kept c s queue (commands.Create x) true (of_flight k i) q ruh e is = same-kept s (of_flight k i) q ruh e is
host-kept c s queue (commands.Create x) false p q ruh e is = same-kept s p q ruh e is
host-kept c s queue (commands.Other o) true p q ruh e is = same-kept s p q ruh e is
host-kept c s queue (commands.Other o) false p q ruh e is = same-kept s p q ruh e is

host-handle : (c : DriveConfig) (s : PlainState) (queue number : ℕ) (command : Command) (made : Bool) (p : Pointer) (now : PlainState) → now.blocks ≡ (host queue command made s c).blocks → now.going ≡ (host queue command made s c).going → handle_at now p ≡ handle_at (host queue command made s c) p
host-handle c s queue number command made (of_block n lba) now blocks going = ap (λ (f : ℕ → ℕ → Option Block). option_map (λ (b : Block). b.ruh) (f n lba)) blocks
host-handle c s queue number command made (of_flight k i) now blocks going = ap (λ (f : ℕ → Option Going). option_map (λ (g : Going). g.ruh) (f k)) going

-- ---- each kind of entry

placed-handle : (s : PlainState) (ticket queue : ℕ) (b : Bool) (o : Option Going) → option_map (λ (g : Going). g.ruh) (if b then option_map one_more_placed o else o) ≡ option_map (λ (g : Going). g.ruh) o
placed-handle s ticket queue true None = refl
placed-handle s ticket queue true (Some g) = refl
placed-handle s ticket queue false o = refl

handles-follow : (c : DriveConfig) (s : PlainState) (e : Entry) (p : Pointer) → Kept s (after c s e) (renamed_by s e) p
unfolding after changed_by
handles-follow c s (entries.Host h) (of_block n lba) q ruh e is = host-kept c s h.queue h.command h.reply.applied (of_block n lba) q ruh e is
handles-follow c s (entries.Host h) (of_flight k i) q ruh e is = host-kept c s h.queue h.command h.reply.applied (of_flight k i) q ruh e is
handles-follow c s (entries.Started x) (of_block n lba) q ruh e is = same-kept s (of_block n lba) q ruh e is
handles-follow c s (entries.Started x) (of_flight k i) q ruh e is = other-kept s x.queue k i _ (k == x.queue) q ruh e is
handles-follow c s (entries.Placed x) (of_block n lba) q ruh e is = same-kept s (of_block n lba) q ruh e is
handles-follow c s (entries.Placed x) (of_flight k i) q ruh e is = same-kept s (of_flight k i) q ruh e (sym (placed-handle s x.ticket k (holds_ticket s x.ticket k) (s.going k)) ∙ is)
handles-follow c s (entries.Copied x) (of_block n lba) q ruh e is = same-kept s (of_block n lba) q ruh e is
handles-follow c s (entries.Copied x) (of_flight k i) q ruh e is = same-kept s (of_flight k i) q ruh e is
handles-follow c s (entries.Moved x) (of_block n lba) q ruh e is = same-kept s (of_block n lba) q ruh e is
handles-follow c s (entries.Moved x) (of_flight k i) q ruh e is = same-kept s (of_flight k i) q ruh e is
handles-follow c s (entries.Erased x) (of_block n lba) q ruh e is = same-kept s (of_block n lba) q ruh e is
handles-follow c s (entries.Erased x) (of_flight k i) q ruh e is = same-kept s (of_flight k i) q ruh e is
handles-follow c s (entries.Retired x) (of_block n lba) q ruh e is = same-kept s (of_block n lba) q ruh e is
handles-follow c s (entries.Retired x) (of_flight k i) q ruh e is = same-kept s (of_flight k i) q ruh e is
handles-follow c s (entries.Aside x) (of_block n lba) q ruh e is = same-kept s (of_block n lba) q ruh e is
handles-follow c s (entries.Aside x) (of_flight k i) q ruh e is = same-kept s (of_flight k i) q ruh e is
handles-follow c s (entries.Shut x) (of_block n lba) q ruh e is = same-kept s (of_block n lba) q ruh e is
handles-follow c s (entries.Shut x) (of_flight k i) q ruh e is = same-kept s (of_flight k i) q ruh e is
handles-follow c s (entries.Worn x) (of_block n lba) q ruh e is = same-kept s (of_block n lba) q ruh e is
handles-follow c s (entries.Worn x) (of_flight k i) q ruh e is = same-kept s (of_flight k i) q ruh e is
handles-follow c s entries.Reopened (of_block n lba) q ruh e is = same-kept s (of_block n lba) q ruh e is
handles-follow c s entries.Reopened (of_flight k i) q ruh e is = absurd cc

handles-next : (c : DriveConfig) (p : Point) (e : Entry) (q : Pointer) → Kept p.state (next c p e).state (renamed_by p.state e) q
unfolding next
handles-next c p e q = handles-follow c p.state e q

-- pointers that an entry renames lead to pages that name their handles still
pub handled-renamed : (c : DriveConfig) (p : Point) (e : Entry) (at : Behind Page) → AreHandled p.state at → AreHandled (next c p e).state (renamed (renamed_by p.state e) at)
handled-renamed c p e at h q y ruh there is =
    let was = behind-renamed (renamed_by p.state e) at q y there in
    h was.0 y ruh was.2 (handles-next c p e q was.0 ruh was.1 is)

-- pages that are put elsewhere name their handles still
pub handled-moved : (s : PlainState) (f : Spot → Spot) (at : Behind Page) → AreHandled s at → AreHandled s (moved (put_at f) at)
handled-moved s f at h q y ruh there is =
    let was = moved-from f (at q) y there in
    ap (λ (z : Page). z.spare.ruh) was.2 ∙ h q was.0 ruh was.1 is

-- one page more, which names the handle of its write
pub handled-pointed : (s : PlainState) (at : Behind Page) (queue index : ℕ) (y : Page) → handle_at s (of_flight queue index) ≡ Some y.spare.ruh → AreHandled s at → AreHandled s (pointed at queue index y)
handled-pointed s at queue index y own h q z ruh there is =
    ⊎_elim
    (λ (here : (q ≡ of_flight queue index) × (pointed at queue index y q ≡ Some y)).
    let page : Some y ≡ Some z = sym here.1 ∙ there in
    let one : y ≡ z = cc in
    let handle : Some y.spare.ruh ≡ Some ruh = sym own ∙ ap (handle_at s) (sym here.0) ∙ is in
    let same : y.spare.ruh ≡ ruh = cc in
    ap (λ (x : Page). x.spare.ruh) (sym one) ∙ same)
    (λ (other : pointed at queue index y q ≡ at q). h q z ruh (sym other ∙ there) is)
    (pointed-cases at queue index y q)
