-- A reply has as many bytes as its command and its status say, and its status a type of one digit.
use Rattle.std.proofs.Common.{◌≡◌, ℕ, zero, suc, ◌+◌, ◌*◌, ◌<◌, Bool, true, false, cond, nat_lt, List, [], ◌∷◌, ◌++◌, length, drop, Option, None, Some, refl, sym, ap, subst, ◌∙◌, arith, inl, inr}
use Rattle.std.proofs.Math.Nat.{add_comm, suc-mul}
use Rattle.std.specs.Prelude.{MatchBool, flat_map}
use Rattle.std.specs.Option.{option_map_or}
use Rattle.std.proofs.lemmas.Bool.Decides.{nat_tests}
use Rattle.std.proofs.lemmas.List.{length-append, length-replicate, length-take}
use Rattle.fdp_base.specs.declared.command.Command.{Command}
use Rattle.fdp_base.specs.declared.command.Command.TheVariants as commands
use Rattle.fdp_base.specs.declared.config.DriveConfig.{DriveConfig}
use Rattle.fdp_base.specs.declared.entry.Reply.{Reply}
use Rattle.fdp_base.specs.declared.status.Status.{Status}
use Rattle.fdp_base.specs.declared.status.TheConstants.Status as statuses
use Rattle.fdp_base.specs.CommandKinds.{is_write}
use Rattle.fdp_base.specs.Numbers.{numbers_from}
use Rattle.fdp_history.specs.Orderly.{IsOrderly}
use Rattle.fdp_prints.specs.Told.{data_size, is_success, reply_size}
use Rattle.fdp_rules.specs.Answer.{IsSuccess, bare, data_of, read_block}
use Rattle.fdp_rules.specs.LogPages.{handle_status, log_page, transfer_of, zeros}
use Rattle.fdp_rules.specs.PlainState.{Block, Going}
use Rattle.fdp_rules.specs.Point.{Point}
use Rattle.fdp_rules.specs.Refusal.{Check, checks_of, first_that_holds, refusal_of}
use Rattle.fdp_rules.specs.Step.{IsEnd, IsHost, IsMediaError, IsPlainReply, IsRefused, IsWriteFault, IsWriteReply}
use Rattle.fdp_rules.proofs.Refusing.{refused-fails}

pub record IsFit (c : DriveConfig) (command : Command) (reply : Reply) : Type 0 where
  pub sct : reply.status.sct < 16
  pub size : length reply.bytes ≡ reply_size c command reply.status

-- ---- refusals

small : Status → Bool
small status = nat_lt status.sct 16

AreSmall : List Check → Type 0
AreSmall [] = Unit {0}
AreSmall (x ∷ xs) = (small x.status ≡ true) × AreSmall xs

first-small : (xs : List Check) (status : Status) → AreSmall xs → first_that_holds xs ≡ Some status → small status ≡ true
unfolding AreSmall
first-small [] status all e = absurd cc
first-small (x ∷ xs) status all e =
    let P : Bool → Type 0 = λ b. cond b (Some x.status) (first_that_holds xs) ≡ Some status → small status ≡ true in
    (elim x.holds as P [
      | true ↦ λ here. let same : x.status ≡ status = cc in ap small (sym same) ∙ all.0
      | false ↦ λ later. first-small xs status all.1 later
    ]) e

all-small : (c : DriveConfig) (p : Point) (command : Command) → AreSmall (checks_of c p command)
unfolding checks_of small AreSmall
all-small c p (commands.Write w) = (refl, (refl, (refl, (refl, tt))))
all-small c p (commands.Read r) = (refl, (refl, (refl, tt)))
all-small c p (commands.Zero z) = (refl, (refl, (refl, tt)))
all-small c p (commands.Dealloc d) = (refl, (refl, (refl, tt)))
all-small c p (commands.Flush f) = (refl, tt)
all-small c p (commands.Delete d) = (refl, tt)
all-small c p (commands.Status s) = (refl, (refl, (refl, tt)))
all-small c p (commands.Update u) = (refl, (refl, (refl, (refl, tt))))
all-small c p (commands.Log l) = (refl, (refl, (refl, (refl, tt))))
all-small c p (commands.SetFdp s) = (refl, (refl, tt))
all-small c p (commands.GetFdp g) = (refl, tt)
all-small c p (commands.SetEvents s) = (refl, (refl, (refl, tt)))
all-small c p (commands.Create create) = (refl, (refl, (refl, (refl, tt))))
all-small c p (commands.Other o) = (refl, (refl, tt))

small-is : (status : Status) → small status ≡ true → status.sct < 16
unfolding small
small-is status e = grind (arith, nat_tests)

-- an answer without data that is no success
fit-bare : (c : DriveConfig) (command : Command) (status : Status) (applied : Bool) → status.sct < 16 → is_success status ≡ false → IsFit c command (bare status applied)
fit-bare c command status applied low fails = record { sct = low; size = rw fails refl }

fit-refused : (c : DriveConfig) (p : Point) (command : Command) (reply : Reply) → IsRefused c p command reply → IsFit c command reply
unfolding refusal_of
fit-refused c p command reply r =
    subst (IsFit c command) (sym r.2) (fit-bare c command r.0 false (small-is r.0 (first-small (checks_of c p command) r.0 (all-small c p command) r.1)) (refused-fails c p command r.0 r.1))

fit-fault : (c : DriveConfig) (command : Command) (reply : Reply) → IsWriteFault reply → IsFit c command reply
fit-fault c command reply (inl lost) = subst (IsFit c command) (sym lost) (fit-bare c command statuses.WRITE_FAULT false (omega arith) refl)
fit-fault c command reply (inr made) = subst (IsFit c command) (sym made) (fit-bare c command statuses.WRITE_FAULT true (omega arith) refl)

-- ---- data

length-zeros : (n : ℕ) → length (zeros n) ≡ n
length-zeros n = length-replicate n 0

length-transfer : (offset dwords : ℕ) (bytes : List ℕ) → length (transfer_of offset dwords bytes) ≡ 4 * dwords
length-transfer offset dwords bytes =
    omega (arith, length-take (4 * dwords) (drop offset bytes ++ zeros (4 * dwords)), length-append (drop offset bytes) (zeros (4 * dwords)), length-zeros (4 * dwords))

length-block : (c : DriveConfig) (p : Point) (nsid lba : ℕ) → IsOrderly c p → length (read_block c p.state nsid lba) ≡ c.block
length-block c p nsid lba h = by (p.state.blocks nsid lba) refl where
  by : (o : Option Block) → p.state.blocks nsid lba ≡ o → length (option_map_or (λ (b : Block). b.bytes) o (zeros c.block)) ≡ c.block
  by None none = length-zeros c.block
  by (Some b) some = (h.state.blocks nsid lba b some).bytes

zero-times : (n : ℕ) → 0 * n ≡ 0
zero-times n = omega arith

more-times : (k n : ℕ) → suc k * n ≡ n + k * n
more-times k n = suc-mul k n ∙ add_comm (k * n) n

length-blocks : (c : DriveConfig) (p : Point) (nsid slba count : ℕ) → IsOrderly c p → length (flat_map (read_block c p.state nsid) (numbers_from slba count)) ≡ count * c.block
unfolding numbers_from
length-blocks c p nsid slba zero h = sym (zero-times c.block)
length-blocks c p nsid slba (suc count) h =
    length-append (read_block c p.state nsid slba) (flat_map (read_block c p.state nsid) (numbers_from (slba + 1) count))
    ∙ ap (λ (n : ℕ). n + length (flat_map (read_block c p.state nsid) (numbers_from (slba + 1) count))) (length-block c p nsid slba h)
    ∙ ap (λ (n : ℕ). c.block + n) (length-blocks c p nsid (slba + 1) count h) ∙ sym (more-times count c.block)

length-data : (c : DriveConfig) (p : Point) (command : Command) → IsOrderly c p → length (data_of c p command) ≡ data_size c command
length-data c p (commands.Write w) h = refl
length-data c p (commands.Read r) h = length-blocks c p r.nsid r.slba r.count h
length-data c p (commands.Zero z) h = refl
length-data c p (commands.Dealloc d) h = refl
length-data c p (commands.Flush f) h = refl
length-data c p (commands.Delete d) h = refl
length-data c p (commands.Status s) h = length-transfer 0 s.dwords (handle_status c p.state s.nsid)
length-data c p (commands.Update u) h = refl
length-data c p (commands.Log l) h = length-transfer l.offset l.dwords (log_page c p l.lid l.lsp)
length-data c p (commands.SetFdp s) h = refl
length-data c p (commands.GetFdp g) h = refl
length-data c p (commands.SetEvents s) h = refl
length-data c p (commands.Create create) h = refl
length-data c p (commands.Other o) h = refl

fit-success : (told : Bool) (c : DriveConfig) (p : Point) (command : Command) (reply : Reply) → IsOrderly c p → IsSuccess told c p command reply → IsFit c command reply
fit-success told c p command reply h s =
    let sct : reply.status.sct ≡ 0 = ap (λ (x : Status). x.sct) s.status in
    record {
      sct = omega (arith, sct);
      size = s.size ∙ length-data c p command h ∙ ap (λ (x : Status). reply_size c command x) (sym s.status);
    }

-- ---- each answer

fit-end : (told : Bool) (c : DriveConfig) (p : Point) (command : Command) (g : Going) (reply : Reply) (moment : ℕ) → IsOrderly c p → g.command ≡ command → IsEnd told c p g reply moment → IsFit c command reply
fit-end told c p command g reply moment h same (inl gone) = subst (IsFit c command) (sym gone.1) (fit-bare c command statuses.INVALID_NAMESPACE false (omega arith) refl)
fit-end told c p command g reply moment h same (inr (inl full)) = subst (IsFit c command) (sym full.2) (fit-bare c command statuses.CAPACITY_EXCEEDED false (omega arith) refl)
fit-end told c p command g reply moment h same (inr (inr (inl done))) = subst (λ (x : Command). IsFit c x reply) same (fit-success told c p g.command reply h done.1)
fit-end told c p command g reply moment h same (inr (inr (inr (inl failed)))) = fit-fault c command reply failed.2
fit-end told c p command g reply moment h same (inr (inr (inr (inr early)))) = subst (IsFit c command) (sym early.3) (fit-bare c command statuses.WRITE_FAULT false (omega arith) refl)

fit-write : (told : Bool) (c : DriveConfig) (p : Point) (queue number : ℕ) (command : Command) (reply : Reply) (moment : ℕ) → IsOrderly c p → IsWriteReply told c p queue number command reply moment → IsFit c command reply
fit-write told c p queue number command reply moment h (inl ends) = fit-end told c p command ends.0 reply moment h ends.1.same_command ends.2
fit-write told c p queue number command reply moment h (inr refused) = fit-refused c p command reply refused.1

fit-media : (c : DriveConfig) (command : Command) (reply : Reply) → IsMediaError command reply → IsFit c command reply
fit-media c command reply (inl read) = subst (IsFit c command) (sym read.1) (fit-bare c command statuses.UNRECOVERED_READ_ERROR false (omega arith) refl)
fit-media c command reply (inr saved) = fit-fault c command reply saved.1

fit-plain : (told : Bool) (c : DriveConfig) (p : Point) (command : Command) (reply : Reply) (moment : ℕ) → IsOrderly c p → IsPlainReply told c p command reply moment → IsFit c command reply
fit-plain told c p command reply moment h (inl refused) = fit-refused c p command reply refused
fit-plain told c p command reply moment h (inr (inl done)) = fit-success told c p command reply h done.1
fit-plain told c p command reply moment h (inr (inr failed)) = fit-media c command reply failed.2

pub fit-host : (told : Bool) (c : DriveConfig) (p : Point) (queue number : ℕ) (command : Command) (reply : Reply) (moment : ℕ) → IsOrderly c p → IsHost told c p queue number command reply moment → IsFit c command reply
fit-host told c p queue number command reply moment h s = by (is_write command) s.replied where
  by : (b : Bool) → MatchBool b (IsWriteReply told c p queue number command reply moment) (IsPlainReply told c p command reply moment) → IsFit c command reply
  by true r = fit-write told c p queue number command reply moment h r
  by false r = fit-plain told c p command reply moment h r
