-- The renamings of pointers: each is injective.
use Rattle.std.proofs.Common.{◌≡◌, ◌≢◌, ℕ, ◌-◌, ◌+◌, ◌≤◌, Bool, true, false, cond, Option, Some, None, refl, sym, ◌∙◌, ap, arith, ◌⊎◌, ⊎_elim, inl, inr, eq-eqb, ne_eqb, subst}
use Rattle.std.specs.Prelude.{◌==◌, ◌&&◌, if◌then◌else◌, nat_le, nat_lt, option_and_then}
use Rattle.std.proofs.lemmas.Bool.{and_parts, cases_eq, eqb-true, leb-true}
use Rattle.fdp_base.specs.declared.command.Command.{Command}
use Rattle.fdp_base.specs.declared.command.Command.TheVariants as commands
use Rattle.fdp_base.specs.declared.entry.Entry.{Entry}
use Rattle.fdp_base.specs.declared.entry.Entry.TheVariants as entries
use Rattle.fdp_base.specs.Numbers.{is_among}
use Rattle.fdp_rules.specs.PlainState.{PlainState}
use Rattle.fdp_pointers.specs.Contents.{ended_by, renamed_by}
use Rattle.fdp_pointers.specs.Pointers.{Behind, IsInjective, Pointer, Pointer.of_block, Pointer.of_flight, only, taken_by, is_elsewhere, is_outside}
use Rattle.fdp_base.proofs.Writes.{by-write}
use Rattle.fdp_base.specs.CommandKinds.{write_of}
use Rattle.fdp_rules.specs.Effect.{is_in_ranges}

-- what is behind the pointers that pass a test
pub only-at : {X : Type 0} (m : Behind X) (p : Pointer) (b : Bool) → option_and_then m (if b then Some p else None) ≡ (if b then m p else None)
only-at m p true = refl
only-at m p false = refl

kept-is : (p x : Pointer) (b : Bool) → (if b then Some p else None) ≡ Some x → p ≡ x
kept-is p x true e = cc
kept-is p x false e = absurd cc

pub some-injective : IsInjective Some
some-injective p q x e f = cc

pub only-injective : (test : Pointer → Bool) → IsInjective (only test)
only-injective test p q x e f = kept-is p x (test p) e ∙ sym (kept-is q x (test q) f)

kept-flight : (queue q i : ℕ) (x : Pointer) → (if q == queue then None else Some (of_flight q i)) ≡ Some x → (of_flight q i ≡ x) × (q ≢ queue)
kept-flight queue q i x e =
    ⊎_elim
    (λ (same : q ≡ queue). let none : None ≡ Some x = sym (ap (λ (b : Bool). cond b None (Some (of_flight q i))) (eq-eqb q queue same)) ∙ e in absurd cc)
    (λ (ne : q ≢ queue). let some : Some (of_flight q i) ≡ Some x = sym (ap (λ (b : Bool). cond b None (Some (of_flight q i))) (ne_eqb q queue ne)) ∙ e in (cc, ne))
    (cases_eq q queue)

-- a block got a page of the write, or kept its own
taken-cases : (queue nsid slba count n lba : ℕ) (x : Pointer) → (if n == nsid && is_among slba count lba then Some (of_flight queue (lba - slba)) else Some (of_block n lba)) ≡ Some x
    → ((of_flight queue (lba - slba) ≡ x) × (n ≡ nsid) × (slba ≤ lba)) ⊎ (of_block n lba ≡ x)
taken-cases queue nsid slba count n lba x e =
    (elim (n == nsid && is_among slba count lba) as (λ b. (n == nsid && is_among slba count lba) ≡ b → (if b then Some (of_flight queue (lba - slba)) else Some (of_block n lba)) ≡ Some x → ((of_flight queue (lba - slba) ≡ x) × (n ≡ nsid) × (slba ≤ lba)) ⊎ (of_block n lba ≡ x)) [
      | true ↦ λ is f.
          let parts = and_parts (n == nsid) (is_among slba count lba) is in
          let among = and_parts (nat_le slba lba) (nat_lt lba (slba + count)) parts.1 in
          inl (cc, eqb-true n nsid parts.0, leb-true slba lba among.0)
      | false ↦ λ is f. inr cc
    ]) refl e

-- the index of a page of a flight
same-index : (q i j : ℕ) → of_flight q i ≡ of_flight q j → i ≡ j
same-index q i j e = cc

pub taken-injective : (queue nsid slba count : ℕ) → IsInjective (taken_by queue nsid slba count)
taken-injective queue nsid slba count (of_block n l) (of_block m k) x e f =
    ⊎_elim
    (λ one. ⊎_elim
    (λ two.
    let same : l - slba ≡ k - slba = same-index queue (l - slba) (k - slba) (one.0 ∙ sym two.0) in
    let at : l ≡ k = omega (arith, same, one.2, two.2) in
    let space : n ≡ m = one.1 ∙ sym two.1 in
    cc)
    (λ two. let no : of_flight queue (l - slba) ≡ of_block m k = one.0 ∙ sym two in absurd cc)
    (taken-cases queue nsid slba count m k x f))
    (λ one. ⊎_elim
    (λ two. let no : of_flight queue (k - slba) ≡ of_block n l = two.0 ∙ sym one in absurd cc)
    (λ two. one ∙ sym two)
    (taken-cases queue nsid slba count m k x f))
    (taken-cases queue nsid slba count n l x e)
taken-injective queue nsid slba count (of_block n l) (of_flight q i) x e f =
    let k = kept-flight queue q i x f in
    ⊎_elim
    (λ one. let both : of_flight queue (l - slba) ≡ of_flight q i = one.0 ∙ sym k.0 in let same : q ≡ queue = cc in absurd (k.1 same))
    (λ one. let no : of_block n l ≡ of_flight q i = one ∙ sym k.0 in absurd cc)
    (taken-cases queue nsid slba count n l x e)
taken-injective queue nsid slba count (of_flight q i) (of_block n l) x e f =
    let k = kept-flight queue q i x e in
    ⊎_elim
    (λ one. let both : of_flight queue (l - slba) ≡ of_flight q i = one.0 ∙ sym k.0 in let same : q ≡ queue = cc in absurd (k.1 same))
    (λ one. let no : of_block n l ≡ of_flight q i = one ∙ sym k.0 in absurd cc)
    (taken-cases queue nsid slba count n l x f)
taken-injective queue nsid slba count (of_flight q i) (of_flight r j) x e f = (kept-flight queue q i x e).0 ∙ sym (kept-flight queue r j x f).0

either-injective : (b : Bool) (r t : Pointer → Option Pointer) → IsInjective r → IsInjective t → IsInjective (if b then r else t)
either-injective true r t h k = h
either-injective false r t h k = k

-- a command that ends renames no two pointers to one
-- a command other than a write that keeps the pointers that pass a test, once its change is made
pub record KeepsSome (s : PlainState) (queue : ℕ) (command : Command) : Type 0 where
  pub keeps : Pointer → Bool
  pub ends : (made : Bool) → ended_by s queue made command ≡ (if made then only keeps else Some)

-- a command other than a write leaves the pointers, or keeps some of them
pub keeps-all-or-some : (s : PlainState) (queue : ℕ) (command : Command) → write_of command ≡ None → ((made : Bool) → ended_by s queue made command ≡ Some) ⊎ KeepsSome s queue command
keeps-all-or-some s queue (commands.Write w) other = absurd cc
keeps-all-or-some s queue (commands.Zero z) other = inr (record { keeps = is_outside z.nsid (is_among z.slba z.count); ends = λ made. refl })
keeps-all-or-some s queue (commands.Dealloc d) other = inr (record { keeps = is_outside d.nsid (λ lba. d.deallocate && is_in_ranges d.ranges lba); ends = λ made. refl })
keeps-all-or-some s queue (commands.Delete d) other = inr (record { keeps = is_elsewhere s d.nsid; ends = λ made. refl })
keeps-all-or-some s queue (commands.Read r) other = inl (λ made. refl)
keeps-all-or-some s queue (commands.Flush f) other = inl (λ made. refl)
keeps-all-or-some s queue (commands.Status status) other = inl (λ made. refl)
keeps-all-or-some s queue (commands.Update u) other = inl (λ made. refl)
keeps-all-or-some s queue (commands.Log l) other = inl (λ made. refl)
keeps-all-or-some s queue (commands.SetFdp set) other = inl (λ made. refl)
keeps-all-or-some s queue (commands.GetFdp g) other = inl (λ made. refl)
keeps-all-or-some s queue (commands.SetEvents set) other = inl (λ made. refl)
keeps-all-or-some s queue (commands.Create create) other = inl (λ made. refl)
keeps-all-or-some s queue (commands.Other o) other = inl (λ made. refl)

ended-injective : (s : PlainState) (queue : ℕ) (made : Bool) (command : Command) → IsInjective (ended_by s queue made command)
ended-injective s queue made command =
    by-write (λ x. IsInjective (ended_by s queue made x))
    (λ w. either-injective made _ _ (taken-injective queue w.nsid w.slba w.count) (only-injective _))
    (λ x other.
    ⊎_elim
    (λ all. subst IsInjective (sym (all made)) some-injective)
    (λ some. subst IsInjective (sym (some.ends made)) (either-injective made _ _ (only-injective some.keeps) some-injective))
    (keeps-all-or-some s queue x other))
    command

-- no entry renames two pointers to one
pub entry-injective : (s : PlainState) (e : Entry) → IsInjective (renamed_by s e)
entry-injective s (entries.Host h) = ended-injective s h.queue h.reply.applied h.command
entry-injective s (entries.Started started) = only-injective _
entry-injective s (entries.Placed p) = some-injective
entry-injective s (entries.Copied c) = some-injective
entry-injective s (entries.Moved m) = some-injective
entry-injective s (entries.Erased e) = some-injective
entry-injective s (entries.Retired r) = some-injective
entry-injective s (entries.Aside a) = some-injective
entry-injective s (entries.Shut shut) = some-injective
entry-injective s (entries.Worn w) = some-injective
entry-injective s entries.Reopened = only-injective _
