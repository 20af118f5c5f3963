-- What each entry does to the contents behind the pointers.
use Rattle.std.proofs.Common.{◌≡◌, ◌≢◌, ℕ, ◌+◌, ◌-◌, ◌≤◌, ◌<◌, Bool, true, false, List, Option, Some, None, refl, sym, ◌∙◌, ap, arith, ⊎_elim, eq-eqb, ne_eqb}
use Rattle.std.specs.Prelude.{◌==◌, ◌&&◌, if◌then◌else◌, not, IsTrue, nat_le, nat_lt, option_and_then, option_map, unwrap_or, is_none}
use Rattle.std.specs.Option.{option_map_or}
use Rattle.std.proofs.lemmas.Bool.{and_parts, cases_eq, leb-true, ltb-true}
use Rattle.std.proofs.lemmas.Bool.Decides.{nat_tests}
use Rattle.fdp_base.specs.declared.command.Command.{Command}
use Rattle.fdp_base.specs.declared.command.Command.TheVariants as commands
use Rattle.fdp_base.specs.declared.command.Range.{Range}
use Rattle.fdp_base.specs.declared.config.DriveConfig.{DriveConfig}
use Rattle.fdp_base.specs.declared.entry.Entry.TheVariants as entries
use Rattle.fdp_base.specs.declared.payload.Payload.{Payload}
use Rattle.fdp_rules.specs.Change.{after, changed_by, holds_ticket, one_more_placed, placed_going, started}
use Rattle.fdp_base.specs.CommandKinds.{blocks_written, is_write, nsid_of}
use Rattle.fdp_rules.specs.Effect.{block_of_write, created, effect_of, is_in_ranges, lowest_free}
use Rattle.fdp_base.specs.Numbers.{is_among, with_at}
use Rattle.fdp_rules.specs.PlainState.{Going, Namespace, PlainState}
use Rattle.fdp_rules.specs.Refusal.{is_absent}
use Rattle.fdp_rules.specs.Room.{namespace_ids}
use Rattle.fdp_rules.specs.Sites.{is_there}
use Rattle.fdp_history.specs.OrderlyState.{IsOrderlyState}
use Rattle.fdp_history.proofs.Tables.{find-within}
use Rattle.fdp_pointers.specs.Contents.{bytes_of_write, content_at, content_of_block, ended_by, page_of_write, placed_page}
use Rattle.fdp_pointers.specs.Pointers.{Behind, Pointer, Pointer.of_block, Pointer.of_flight, is_elsewhere, is_of_another, is_outside, only, pointed, renamed, taken_by}
use Rattle.fdp_pointers.proofs.Names.{only-at}

-- tables that agree everywhere
pub everywhere : {X : Type 0} (f g : Behind X) → ((p : Pointer) → f p ≡ g p) → f ≡ g
everywhere f g h = λ i p. h p i

-- ---- a page is placed

own-content : (c : DriveConfig) (s : PlainState) (g : Going) (i : ℕ) → is_there s g ≡ true → placed_page c s i (one_more_placed g) ≡ (if i == g.placed then Some (page_of_write c g g.placed) else placed_page c s i g)
own-content c s g i there =
    ⊎_elim
    (λ (e : i ≡ g.placed). rw (there, e, eq-eqb g.placed g.placed refl) (grind (arith, nat_tests)))
    (λ (ne : i ≢ g.placed). rw (there, ne_eqb i g.placed ne) (grind (arith, nat_tests, ne)))
    (cases_eq i g.placed)

pub holds-here : (s : PlainState) (ticket queue : ℕ) (g : Going) → s.going queue ≡ Some g → g.ticket ≡ ticket → holds_ticket s ticket queue ≡ true
holds-here s ticket queue g e same = ap (λ (o : Option Going). option_map_or (λ (x : Going). x.ticket == ticket) o false) e ∙ eq-eqb g.ticket ticket same

pub holds-none : (s : PlainState) (ticket queue : ℕ) → ((g : Going) → s.going queue ≡ Some g → g.ticket ≢ ticket) → holds_ticket s ticket queue ≡ false
holds-none s ticket queue other =
    (elim (s.going queue) as (λ o. s.going queue ≡ o → option_map_or (λ (x : Going). x.ticket == ticket) o false ≡ false) [ None ↦ (λ e. refl) | Some g ↦ (λ e. ne_eqb g.ticket ticket (other g e)) ]) refl

placed-flight : (c : DriveConfig) (s : PlainState) (queue q i : ℕ) (g : Going) → IsOrderlyState c s → s.going queue ≡ Some g → is_there s g ≡ true
    → option_and_then (placed_page c s i) (placed_going s g.ticket q) ≡ pointed (content_at c s) queue g.placed (page_of_write c g g.placed) (of_flight q i)
placed-flight c s queue q i g orderly going there =
    ⊎_elim
    (λ (e : q ≡ queue).
    let here : s.going q ≡ Some g = ap s.going e ∙ going in
    rw (holds-here s g.ticket q g here refl, here, eq-eqb q queue e) (own-content c s g i there))
    (λ (ne : q ≢ queue).
    rw (holds-none s g.ticket q (λ x is same. ne (orderly.tickets q queue x g is going same)), ne_eqb q queue ne) refl)
    (cases_eq q queue)

-- a page was placed: one page more of its write
pub content-placed : (c : DriveConfig) (s : PlainState) (unit page queue : ℕ) (g : Going) → IsOrderlyState c s → s.going queue ≡ Some g → is_there s g ≡ true
    → content_at c (after c s (entries.Placed (record { ticket = g.ticket; index = g.placed; unit = unit; page = page }))) ≡ pointed (content_at c s) queue g.placed (page_of_write c g g.placed)
unfolding after changed_by
content-placed c s unit page queue g orderly going there = everywhere _ _ at where
  at : (p : Pointer) → content_at c (after c s (entries.Placed (record { ticket = g.ticket; index = g.placed; unit = unit; page = page }))) p ≡ pointed (content_at c s) queue g.placed (page_of_write c g g.placed) p
  at (of_block nsid lba) = refl
  at (of_flight q i) = placed-flight c s queue q i g orderly going there

-- ---- a write is let go, or ends without its change

none-placed : (c : DriveConfig) (s : PlainState) (i : ℕ) (g : Going) → g.placed ≡ 0 → placed_page c s i g ≡ None
none-placed c s i g none = elim (is_there s g) as (λ b. (if b && nat_lt i g.placed then Some (page_of_write c g i) else None) ≡ None) [ true ↦ rw none (grind (arith, nat_tests)) | false ↦ refl ]

-- the write in a queue gives way to what has no page yet
replaced-flight : (c : DriveConfig) (s : PlainState) (queue q i : ℕ) (o : Option Going) → option_and_then (placed_page c s i) o ≡ None → option_and_then (placed_page c s i) (with_at s.going queue o q) ≡ renamed (only (is_of_another queue)) (content_at c s) (of_flight q i)
replaced-flight c s queue q i o none =
    (elim (q == queue) as (λ b. option_and_then (placed_page c s i) (if b then o else s.going q) ≡ (if not b then content_at c s (of_flight q i) else None)) [ true ↦ none | false ↦ refl ])
    ∙ sym (only-at (content_at c s) (of_flight q i) (not (q == queue)))

pub content-started : (c : DriveConfig) (s : PlainState) (queue number : ℕ) (command : Command) (rg ruh : ℕ) (pid_valid : Bool)
    → content_at c (after c s (entries.Started (record { queue = queue; number = number; command = command; rg = rg; ruh = ruh; pid_valid = pid_valid }))) ≡ renamed (only (is_of_another queue)) (content_at c s)
unfolding after changed_by
content-started c s queue number command rg ruh pid_valid = everywhere _ _ at where
  at : (p : Pointer) → content_at c (after c s (entries.Started (record { queue = queue; number = number; command = command; rg = rg; ruh = ruh; pid_valid = pid_valid }))) p ≡ renamed (only (is_of_another queue)) (content_at c s) p
  at (of_block nsid lba) = refl
  at (of_flight q i) = replaced-flight c s queue q i (Some (started c s number command rg ruh pid_valid)) (none-placed c s i (started c s number command rg ruh pid_valid) refl)

-- ---- a command ends

-- a block of a going write, all of whose pages are placed, is what its page holds
written-block : (c : DriveConfig) (s : PlainState) (g : Going) (nsid slba count dtype dspec lba : ℕ) (payload : Payload) → g.command ≡ commands.Write (record { nsid = nsid; slba = slba; count = count; dtype = dtype; dspec = dspec; payload = payload }) → is_there s g ≡ true → lba - slba < g.placed
    → Some (content_of_block (block_of_write c slba payload lba g)) ≡ placed_page c s (lba - slba) g
written-block c s g nsid slba count dtype dspec lba payload command there low =
    let passes : nat_lt (lba - slba) g.placed ≡ true = grind (arith, nat_tests, low) in
    let bytes : bytes_of_write c g.command (lba - slba) ≡ bytes_of_write c (commands.Write (record { nsid = nsid; slba = slba; count = count; dtype = dtype; dspec = dspec; payload = payload })) (lba - slba) = ap (λ (x : Command). bytes_of_write c x (lba - slba)) command in
    rw (there, passes, bytes) refl

taken-block : (c : DriveConfig) (s : PlainState) (queue nsid slba count dtype dspec n lba : ℕ) (payload : Payload) (g : Going) → s.going queue ≡ Some g → g.command ≡ commands.Write (record { nsid = nsid; slba = slba; count = count; dtype = dtype; dspec = dspec; payload = payload }) → is_there s g ≡ true → g.placed ≡ count
    → option_map content_of_block (if n == nsid && is_among slba count lba then option_map (block_of_write c slba payload lba) (s.going queue) else s.blocks n lba) ≡ renamed (taken_by queue nsid slba count) (content_at c s) (of_block n lba)
taken-block c s queue nsid slba count dtype dspec n lba payload g going command there whole =
    (elim (n == nsid && is_among slba count lba) as (λ b. (n == nsid && is_among slba count lba) ≡ b → option_map content_of_block (if b then option_map (block_of_write c slba payload lba) (s.going queue) else s.blocks n lba)
    ≡ option_and_then (content_at c s) (if b then Some (of_flight queue (lba - slba)) else Some (of_block n lba))) [
      | true ↦ λ inside.
          let parts = and_parts (n == nsid) (is_among slba count lba) inside in
          let among = and_parts (nat_le slba lba) (nat_lt lba (slba + count)) parts.1 in
          let low : slba ≤ lba = leb-true slba lba among.0 in
          let high : lba < slba + count = ltb-true lba (slba + count) among.1 in
          rw going (written-block c s g nsid slba count dtype dspec lba payload command there (omega (arith, low, high, whole)))
      | false ↦ λ outside. refl
    ]) refl

taken-flight : (c : DriveConfig) (s : PlainState) (queue nsid slba count q i : ℕ) → option_and_then (placed_page c s i) (with_at s.going queue None q) ≡ renamed (taken_by queue nsid slba count) (content_at c s) (of_flight q i)
taken-flight c s queue nsid slba count q i =
    elim (q == queue) as (λ b. option_and_then (placed_page c s i) (if b then None else s.going q) ≡ option_and_then (content_at c s) (if b then None else Some (of_flight q i))) [ true ↦ refl | false ↦ refl ]

-- blocks that become absent
absent-block : (c : DriveConfig) (s : PlainState) (nsid : ℕ) (test : ℕ → Bool) (n lba : ℕ) → option_map content_of_block (if n == nsid && test lba then None else s.blocks n lba) ≡ renamed (only (is_outside nsid test)) (content_at c s) (of_block n lba)
absent-block c s nsid test n lba =
    (elim (n == nsid && test lba) as (λ b. option_map content_of_block (if b then None else s.blocks n lba) ≡ (if not b then content_at c s (of_block n lba) else None)) [ true ↦ refl | false ↦ refl ])
    ∙ sym (only-at (content_at c s) (of_block n lba) (not (n == nsid && test lba)))

deleted-block : (c : DriveConfig) (s : PlainState) (nsid n lba : ℕ) → option_map content_of_block (if n == nsid && true then None else s.blocks n lba) ≡ renamed (only (is_elsewhere s nsid)) (content_at c s) (of_block n lba)
deleted-block c s nsid n lba =
    (elim (n == nsid) as (λ b. option_map content_of_block (if b && true then None else s.blocks n lba) ≡ (if not b then content_at c s (of_block n lba) else None)) [ true ↦ refl | false ↦ refl ])
    ∙ sym (only-at (content_at c s) (of_block n lba) (not (n == nsid)))

-- the state without a namespace
abbrev deleted : PlainState → ℕ → PlainState
deleted s nsid = record s { namespaces = with_at s.namespaces nsid None }

deleted-write : (c : DriveConfig) (s : PlainState) (nsid i : ℕ) (g : Going) → placed_page c (deleted s nsid) i g ≡ (if not (nsid_of g.command == nsid) then placed_page c s i g else None)
deleted-write c s nsid i g =
    elim (nsid_of g.command == nsid) as (λ b. (if option_map_or (λ (x : Namespace). x.birth == g.birth) (if b then None else s.namespaces (nsid_of g.command)) false && nat_lt i g.placed then Some (page_of_write c g i) else None) ≡ (if not b then placed_page c s i g else None)) [ true ↦ refl | false ↦ refl ]

deleted-flight : (c : DriveConfig) (s : PlainState) (nsid q i : ℕ) → option_and_then (placed_page c (deleted s nsid) i) (s.going q) ≡ renamed (only (is_elsewhere s nsid)) (content_at c s) (of_flight q i)
deleted-flight c s nsid q i =
    (elim (s.going q) as (λ o. option_and_then (placed_page c (deleted s nsid) i) o ≡ (if not (option_map_or (λ (g : Going). nsid_of g.command == nsid) o false) then option_and_then (placed_page c s i) o else None)) [ None ↦ refl | Some g ↦ deleted-write c s nsid i g ])
    ∙ sym (only-at (content_at c s) (of_flight q i) (not (option_map_or (λ (g : Going). nsid_of g.command == nsid) (s.going q) false)))

-- a namespace that is created gets an identifier that none has
free-identifier : (c : DriveConfig) (s : PlainState) → IsOrderlyState c s → s.namespaces (unwrap_or (lowest_free s) 0) ≡ None
unfolding namespace_ids
free-identifier c s orderly =
    (elim (lowest_free s) as (λ o. lowest_free s ≡ o → s.namespaces (unwrap_or o 0) ≡ None) [ None ↦ λ _. none-zero (s.namespaces 0) refl | Some nsid ↦ λ e. absent nsid e ]) refl where
      none-zero : (o : Option Namespace) → s.namespaces 0 ≡ o → o ≡ None
      none-zero None e = refl
      none-zero (Some n) e = let low : 1 ≤ 0 = (orderly.namespaces 0 n e).identifier.0 in absurd (omega (arith, low))

      is-none : (o : Option Namespace) → is_none o ≡ true → o ≡ None
      is-none None e = refl
      is-none (Some n) e = absurd cc

      absent : (nsid : ℕ) → lowest_free s ≡ Some nsid → s.namespaces nsid ≡ None
      absent nsid e = is-none (s.namespaces nsid) (find-within (is_absent s) 1 16 nsid e).2

-- the state with a namespace
abbrev with_namespace : PlainState → ℕ → Namespace → PlainState
with_namespace s nsid n = record s { namespaces = with_at s.namespaces nsid (Some n) }

created-write : (c : DriveConfig) (s : PlainState) (nsid i : ℕ) (n : Namespace) (g : Going) → s.namespaces nsid ≡ None → n.birth ≡ s.position + 1 → g.birth ≤ s.position → placed_page c (with_namespace s nsid n) i g ≡ placed_page c s i g
created-write c s nsid i n g none birth older =
    ⊎_elim
    (λ (e : nsid_of g.command ≡ nsid).
    let gone : is_there s g ≡ false = ap (option_map_or' g) (ap s.namespaces e ∙ none) in
    let later : n.birth ≢ g.birth = λ same. omega (arith, birth, older, same) in
    let still : is_there (with_namespace s nsid n) g ≡ false = rw (eq-eqb (nsid_of g.command) nsid e) (ne_eqb n.birth g.birth later) in
    rw (gone, still) refl)
    (λ (ne : nsid_of g.command ≢ nsid).
    let still : is_there (with_namespace s nsid n) g ≡ is_there s g = rw (ne_eqb (nsid_of g.command) nsid ne) refl in
    rw still refl)
    (cases_eq (nsid_of g.command) nsid) where
      option_map_or' : Going → Option Namespace → Bool
      option_map_or' g o = option_map_or (λ x. x.birth == g.birth) o false

created-flight : (c : DriveConfig) (s : PlainState) (nsid q i : ℕ) (n : Namespace) → IsOrderlyState c s → s.namespaces nsid ≡ None → n.birth ≡ s.position + 1 → option_and_then (placed_page c (with_namespace s nsid n) i) (s.going q) ≡ content_at c s (of_flight q i)
created-flight c s nsid q i n orderly none birth =
    (elim (s.going q) as (λ o. s.going q ≡ o → option_and_then (placed_page c (with_namespace s nsid n) i) o ≡ option_and_then (placed_page c s i) o) [ None ↦ λ _. refl | Some g ↦ λ e. created-write c s nsid i n g none birth (orderly.writes q g e).birth ]) refl

-- the state after a command of a queue, with its change made or not
abbrev pub ended : DriveConfig → PlainState → ℕ → Command → Bool → List ℕ → PlainState
ended c s queue command made media = record (if made then effect_of c s queue command else s) {
  going = if is_write command then with_at s.going queue None else s.going;
  media = media;
  position = s.position + 1;
}

-- a write that has all its pages placed and whose namespace is there
pub record IsWhole (s : PlainState) (queue : ℕ) (command : Command) (count : ℕ) : Type 0 where
  pub g : Going
  pub going : s.going queue ≡ Some g
  pub same : g.command ≡ command
  pub there : is_there s g ≡ true
  pub placed : g.placed ≡ count

written-at : (c : DriveConfig) (s : PlainState) (queue nsid slba count dtype dspec : ℕ) (payload : Payload) (media : List ℕ) → IsWhole s queue (commands.Write (record { nsid = nsid; slba = slba; count = count; dtype = dtype; dspec = dspec; payload = payload })) count
    → (p : Pointer) → content_at c (ended c s queue (commands.Write (record { nsid = nsid; slba = slba; count = count; dtype = dtype; dspec = dspec; payload = payload })) true media) p ≡ renamed (taken_by queue nsid slba count) (content_at c s) p
unfolding effect_of
written-at c s queue nsid slba count dtype dspec payload media w (of_block n lba) = taken-block c s queue nsid slba count dtype dspec n lba payload w.g w.going w.same w.there w.placed
written-at c s queue nsid slba count dtype dspec payload media w (of_flight q i) = taken-flight c s queue nsid slba count q i

let-go-at : (c : DriveConfig) (s : PlainState) (queue nsid slba count dtype dspec : ℕ) (payload : Payload) (media : List ℕ)
    → (p : Pointer) → content_at c (ended c s queue (commands.Write (record { nsid = nsid; slba = slba; count = count; dtype = dtype; dspec = dspec; payload = payload })) false media) p ≡ renamed (only (is_of_another queue)) (content_at c s) p
let-go-at c s queue nsid slba count dtype dspec payload media (of_block n lba) = refl
let-go-at c s queue nsid slba count dtype dspec payload media (of_flight q i) = replaced-flight c s queue q i None refl

zero-at : (c : DriveConfig) (s : PlainState) (queue nsid slba count : ℕ) (media : List ℕ) (p : Pointer) → content_at c (ended c s queue (commands.Zero (record { nsid = nsid; slba = slba; count = count })) true media) p ≡ renamed (only (is_outside nsid (is_among slba count))) (content_at c s) p
unfolding effect_of
zero-at c s queue nsid slba count media (of_block n lba) = absent-block c s nsid (is_among slba count) n lba
zero-at c s queue nsid slba count media (of_flight q i) = refl

dealloc-at : (c : DriveConfig) (s : PlainState) (queue nsid : ℕ) (deallocate : Bool) (ranges : List Range) (media : List ℕ) (p : Pointer)
    → content_at c (ended c s queue (commands.Dealloc (record { nsid = nsid; deallocate = deallocate; ranges = ranges })) true media) p ≡ renamed (only (is_outside nsid (λ lba. deallocate && is_in_ranges ranges lba))) (content_at c s) p
unfolding effect_of
dealloc-at c s queue nsid deallocate ranges media (of_block n lba) = absent-block c s nsid (λ k. deallocate && is_in_ranges ranges k) n lba
dealloc-at c s queue nsid deallocate ranges media (of_flight q i) = refl

delete-at : (c : DriveConfig) (s : PlainState) (queue nsid : ℕ) (media : List ℕ) (p : Pointer) → content_at c (ended c s queue (commands.Delete (record { nsid = nsid })) true media) p ≡ renamed (only (is_elsewhere s nsid)) (content_at c s) p
unfolding effect_of
delete-at c s queue nsid media (of_block n lba) = deleted-block c s nsid n lba
delete-at c s queue nsid media (of_flight q i) = deleted-flight c s nsid q i

create-at : (c : DriveConfig) (s : PlainState) (queue size : ℕ) (given : Bool) (list media : List ℕ) → IsOrderlyState c s → (p : Pointer) → content_at c (ended c s queue (commands.Create (record { size = size; given = given; list = list })) true media) p ≡ content_at c s p
unfolding effect_of
create-at c s queue size given list media orderly (of_block n lba) = refl
create-at c s queue size given list media orderly (of_flight q i) = created-flight c s (unwrap_or (lowest_free s) 0) q i (created s size given list) orderly (free-identifier c s orderly) refl

-- what a write is when its change is made
abbrev pub IsMade : PlainState → ℕ → Bool → Command → Type 0
IsMade s queue made command = IsTrue made → IsTrue (is_write command) → IsWhole s queue command (blocks_written command)

pub content-ended : (c : DriveConfig) (s : PlainState) (queue : ℕ) (command : Command) (made : Bool) (media : List ℕ) → IsOrderlyState c s → IsMade s queue made command → (p : Pointer)
    → content_at c (ended c s queue command made media) p ≡ renamed (ended_by s queue made command) (content_at c s) p
unfolding effect_of
content-ended c s queue (commands.Write w) true media h m p = written-at c s queue w.nsid w.slba w.count w.dtype w.dspec w.payload media (m refl refl) p
content-ended c s queue (commands.Write w) false media h m p = let-go-at c s queue w.nsid w.slba w.count w.dtype w.dspec w.payload media p
content-ended c s queue (commands.Read r) true media h m p = refl
content-ended c s queue (commands.Read r) false media h m p = refl
content-ended c s queue (commands.Zero z) true media h m p = zero-at c s queue z.nsid z.slba z.count media p
content-ended c s queue (commands.Zero z) false media h m p = refl
content-ended c s queue (commands.Dealloc d) true media h m p = dealloc-at c s queue d.nsid d.deallocate d.ranges media p
content-ended c s queue (commands.Dealloc d) false media h m p = refl
content-ended c s queue (commands.Flush f) true media h m p = refl
content-ended c s queue (commands.Flush f) false media h m p = refl
content-ended c s queue (commands.Delete d) true media h m p = delete-at c s queue d.nsid media p
content-ended c s queue (commands.Delete d) false media h m p = refl
content-ended c s queue (commands.Status status) true media h m p = refl
content-ended c s queue (commands.Status status) false media h m p = refl
content-ended c s queue (commands.Update u) true media h m p = refl
content-ended c s queue (commands.Update u) false media h m p = refl
content-ended c s queue (commands.Log l) true media h m p = refl
content-ended c s queue (commands.Log l) false media h m p = refl
content-ended c s queue (commands.SetFdp set) true media h m p = refl
content-ended c s queue (commands.SetFdp set) false media h m p = refl
content-ended c s queue (commands.GetFdp g) true media h m p = refl
content-ended c s queue (commands.GetFdp g) false media h m p = refl
content-ended c s queue (commands.SetEvents set) true media h m p = refl
content-ended c s queue (commands.SetEvents set) false media h m p = refl
content-ended c s queue (commands.Create create) true media h m p = create-at c s queue create.size create.given create.list media h p
content-ended c s queue (commands.Create create) false media h m p = refl
content-ended c s queue (commands.Other o) true media h m p = refl
content-ended c s queue (commands.Other o) false media h m p = refl
