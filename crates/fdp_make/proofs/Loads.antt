-- The commands of the generated load in a history.
use Rattle.std.proofs.Common.{◌≡◌, ℕ, zero, suc, ◌+◌, ◌-◌, ◌*◌, ◌%◌, ◌<◌, ◌≤◌, Bool, true, false, cond, List, [], ◌∷◌, ◌++◌, map, Option, Some, None, refl, sym, subst, arith, ⊎_elim}
use Rattle.std.specs.Prelude.{◌==◌, IfSome, nat_eq}
use Rattle.std.specs.List.{AllByRecursion, cons_option, enumerate_from}
use Rattle.std.specs.Prelude.{⊤}
use Rattle.std.proofs.lemmas.Bool.{cases_lt, eq-eqb}
use Rattle.fdp_base.specs.declared.command.Command.{Command}
use Rattle.fdp_base.specs.declared.config.DriveConfig.{DriveConfig}
use Rattle.fdp_base.specs.declared.entry.Entry.{Entry}
use Rattle.fdp_base.specs.declared.entry.Host.{Host}
use Rattle.fdp_base.specs.EntryKinds.{host_of}
use Rattle.fdp_base.specs.Geometry.{IsWithin}
use Rattle.fdp_base.specs.Numbers.{numbers_from}
use Rattle.fdp_base.proofs.Entries.{by-host}
use Rattle.fdp_rules.specs.History.{Found}
use Rattle.fdp_rules.specs.Legal.{IsLegal, IsLegalAfter}
use Rattle.fdp_rules.specs.Queue.{completed, completed_by}
use Rattle.fdp_rules.specs.Step.{Follows, IsStep}
use Rattle.fdp_make.specs.Load.{address, command_at, make_command, make_trace, read_at, write_at}
use Rattle.fdp_make.specs.Served.{ServesLoad}

-- ---- lists

module _ {X : Type 0} where
  pub all-front : (P : X → Type 0) (xs ys : List X) → AllByRecursion P (xs ++ ys) → AllByRecursion P xs
  all-front P [] ys h = tt
  all-front P (x ∷ xs) ys h = (h.0, all-front P xs ys h.1)

  pub all-push : (P : X → Type 0) (xs : List X) (x : X) → AllByRecursion P xs → P x → AllByRecursion P (xs ++ x ∷ [])
  all-push P [] x h p = (p, tt)
  all-push P (y ∷ ys) x h p = (h.0, all-push P ys x h.1 p)

  pub all-both : (P Q R : X → Type 0) → ((x : X) → P x → Q x → R x) → (xs : List X) → AllByRecursion P xs → AllByRecursion Q xs → AllByRecursion R xs
  all-both P Q R both [] p q = tt
  all-both P Q R both (x ∷ xs) p q = (both x p.0 q.0, all-both P Q R both xs p.1 q.1)

  all-later : (A : Type 0) (P : X → Type 0) (xs : List X) → (A → AllByRecursion P xs) → AllByRecursion (λ x. A → P x) xs
  all-later A P [] h = tt
  all-later A P (x ∷ xs) h = (λ a. (h a).0, all-later A P xs (λ a. (h a).1))

  all-each : (Q : ℕ → X → Type 0) (xs : List X) → ((q : ℕ) → AllByRecursion (Q q) xs) → AllByRecursion (λ x. (q : ℕ) → Q q x) xs
  all-each Q [] h = tt
  all-each Q (x ∷ xs) h = (λ q. (h q).0, all-each Q xs (λ q. (h q).1))

-- ---- the commands of a trace

-- one of the commands of a trace
abbrev pub IsMade : ℕ → ℕ × Command → Type 0
IsMade trace x = (k : ℕ) × (x.1 ≡ make_command trace k)

made-numbered : (trace j i n : ℕ) → AllByRecursion (IsMade trace) (enumerate_from j (map (make_command trace) (numbers_from i n)))
unfolding numbers_from
made-numbered trace j i zero = tt
made-numbered trace j i (suc n) = ((i, refl), made-numbered trace (j + 1) (i + 1) n)

-- what a queue completed, entry by entry
by-entries : (queue : ℕ) (P : ℕ × Command → Type 0) (es : List Entry) → AllByRecursion P (completed queue es) → AllByRecursion (λ e. IfSome (completed_by queue e) P) es
by-entries queue P [] h = tt
by-entries queue P (e ∷ es) h = let parts = split (completed_by queue e) h in (parts.0, by-entries queue P es parts.1) where
  split : (o : Option (ℕ × Command)) → AllByRecursion P (cons_option o (completed queue es)) → IfSome o P × AllByRecursion P (completed queue es)
  split None all = (tt, all)
  split (Some x) all = (all.0, all.1)

-- a completion of the load: of one of its queues, a command of the trace of that queue
abbrev pub IsOfLoad : Host → Type 0
IsOfLoad h = IsWithin 1 4 h.queue × ((k : ℕ) × (h.command ≡ make_command h.queue k))

abbrev pub AreOfLoad : List Entry → Type 0
AreOfLoad es = AllByRecursion (λ e. IfSome (host_of e) IsOfLoad) es

-- a queue that completed something is one of the load, and the command one of its trace
abbrev IsServed : ℕ → ℕ × Command → Type 0
IsServed queue x = (queue ≤ 4) × IsMade queue x

served : (number queue : ℕ) (es : List Entry) → ServesLoad number es → 1 ≤ queue → AllByRecursion (λ e. IfSome (completed_by queue e) (IsServed queue)) es
unfolding make_trace
served number queue es h low =
    by-entries queue (IsServed queue) es
    (⊎_elim
    (λ (late : 4 < queue). subst (AllByRecursion (IsServed queue)) (sym (h.others queue late).completes) tt)
    (λ (early : queue ≤ 4).
    let order = h.orders queue (low, early) in
    let all : AllByRecursion (IsMade queue) (completed queue es) =
    all-front (IsMade queue) (completed queue es) order.0 (subst (AllByRecursion (IsMade queue)) order.1 (made-numbered queue 0 0 number)) in
    all-both (IsMade queue) (λ x. ⊤) (IsServed queue) (λ x made _. (early, made)) (completed queue es) all (trivial (completed queue es)))
    (cases_lt 4 queue)) where
      trivial : (xs : List (ℕ × Command)) → AllByRecursion (λ x. ⊤) xs
      trivial [] = tt
      trivial (x ∷ xs) = (tt, trivial xs)

-- a completion is of a queue of the drive
numbered-queues : (told : Bool) (c : DriveConfig) (f : Found) (before es : List Entry) → IsLegalAfter told c f before es → AllByRecursion (λ e. IfSome (host_of e) (λ (h : Host). 1 ≤ h.queue)) es
unfolding IsLegalAfter Follows
numbered-queues told c f before [] legal = tt
numbered-queues told c f before (e ∷ es) legal =
    let P : Entry → Type 0 = λ x. IsStep told c f before x → IfSome (host_of x) (λ (h : Host). 1 ≤ h.queue) in
    (by-host P (λ h step. step.queue_is.0) (λ x none step. subst (λ (o : Option Host). IfSome o (λ (h : Host). 1 ≤ h.queue)) (sym none) tt) e legal.0, numbered-queues told c f (before ++ e ∷ []) es legal.1)

pub of-load : (told : Bool) (c : DriveConfig) (f : Found) (number : ℕ) (es : List Entry) → IsLegal told c f es → ServesLoad number es → AreOfLoad es
of-load told c f number es legal h =
    let Q : ℕ → Entry → Type 0 = λ q e. 1 ≤ q → IfSome (completed_by q e) (IsServed q) in
    let queues : AllByRecursion (λ e. (q : ℕ) → Q q e) es = all-each Q es (λ q. all-later (1 ≤ q) (λ e. IfSome (completed_by q e) (IsServed q)) es (λ low. served number q es h low)) in
    all-both (λ e. IfSome (host_of e) (λ (x : Host). 1 ≤ x.queue)) (λ e. (q : ℕ) → Q q e) (λ e. IfSome (host_of e) IsOfLoad)
    (λ e low each.
    let P : Entry → Type 0 = λ x. IfSome (host_of x) (λ (y : Host). 1 ≤ y.queue) → ((q : ℕ) → Q q x) → IfSome (host_of x) IsOfLoad in
    by-host P
    (λ y one all.
    let is : nat_eq y.queue y.queue ≡ true = eq-eqb y.queue y.queue refl in
    let here : IsServed y.queue (y.number, y.command) = subst (λ (b : Bool). IfSome (cond b (Some (y.number, y.command)) None) (IsServed y.queue)) is (all y.queue one) in
    ((one, here.0), here.1))
    (λ x none one all. subst (λ (o : Option Host). IfSome o IsOfLoad) (sym none) tt)
    e low each)
    es (numbered-queues told c f [] es legal) queues

-- ---- where they go

-- a command of a trace reads or writes within the trace's own blocks
pub record IsWithinOwn (trace lba count : ℕ) : Type 0 where
  pub low : 3072 * (trace - 1) ≤ lba
  pub high : lba + count ≤ 3072 * (trace - 1) + 3072

pub address-within : (trace x : ℕ) → IsWithinOwn trace (address trace x) 8
address-within trace x = record { low = omega arith; high = omega arith }

-- it is a read or a write
pub by-made : (P : Command → Type 0) (trace k lba : ℕ) → P (read_at lba) → P (write_at trace k lba) → P (command_at trace k lba)
by-made P trace k lba read write = elim (k % 4 == 3) as (λ b. P (cond b (read_at lba) (write_at trace k lba))) [ true ↦ read | false ↦ write ]
