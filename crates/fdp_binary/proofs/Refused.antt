-- What has a frame is carried.
use Rattle.std.proofs.Common.{◌≡◌, ℕ, ◌+◌, ◌*◌, Bool, true, false, List, length, refl, sym, ap, subst, ◌∙◌, arith}
use Rattle.std.specs.Prelude.{if◌then◌else◌}
use Rattle.fdp_base.specs.declared.command.Command.{Command}
use Rattle.fdp_base.specs.declared.command.Command.TheVariants as commands
use Rattle.fdp_base.specs.declared.command.Other.{Other}
use Rattle.fdp_base.specs.declared.payload.Payload.{Payload}
use Rattle.fdp_base.specs.declared.payload.Payload.TheVariants as payloads
use Rattle.fdp_base.specs.Geometry.{IsWithin}
use Rattle.fdp_layouts.specs.declared.submission.Fuse.{Fuse}
use Rattle.fdp_layouts.specs.declared.submission.Fuse.TheVariants as fuses
use Rattle.fdp_layouts.specs.declared.submission.Psdt.{Psdt}
use Rattle.fdp_layouts.specs.declared.submission.Psdt.TheVariants as psdts
use Rattle.fdp_layouts.specs.declared.submission.Sqe.{Sqe}
use Rattle.fdp_queues.specs.Entry.{flags_of}
use Rattle.fdp_binary.specs.declared.asked.Asked.{Asked}
use Rattle.fdp_binary.specs.declared.asked.Asked.TheVariants as kinds
use Rattle.fdp_binary.specs.Front.{flags_byte}
use Rattle.fdp_binary.specs.Fields.{bits, blocks_in, feature_in, has_feature, other_in, select_in}
use Rattle.fdp_binary.specs.Asked.{Asks}
use Rattle.fdp_binary.specs.Saying.{IsPayload, Says}
use Rattle.fdp_binary.specs.Frames.{IsFrame}
use Rattle.fdp_binary.specs.Carrying.{IsCarried, IsCarriedPayload, SaysOther, entry_made}

-- ---- a command that is not served

flags-again : (fuse : Fuse) (psdt : Psdt) → flags_byte (flags_of (flags_byte (record { fuse = fuse; psdt = psdt }))) ≡ flags_byte (record { fuse = fuse; psdt = psdt })
flags-again fuses.Normal psdts.Prp = refl
flags-again fuses.Normal psdts.SglMetadataBuffer = refl
flags-again fuses.Normal psdts.SglMetadataSegment = refl
flags-again fuses.Normal psdts.Reserved = refl
flags-again fuses.First psdts.Prp = refl
flags-again fuses.First psdts.SglMetadataBuffer = refl
flags-again fuses.First psdts.SglMetadataSegment = refl
flags-again fuses.First psdts.Reserved = refl
flags-again fuses.Second psdts.Prp = refl
flags-again fuses.Second psdts.SglMetadataBuffer = refl
flags-again fuses.Second psdts.SglMetadataSegment = refl
flags-again fuses.Second psdts.Reserved = refl
flags-again fuses.Reserved psdts.Prp = refl
flags-again fuses.Reserved psdts.SglMetadataBuffer = refl
flags-again fuses.Reserved psdts.SglMetadataSegment = refl
flags-again fuses.Reserved psdts.Reserved = refl

-- the feature that is kept, with no other bits
kept : Bool → ℕ → ℕ
kept has word = if has then bits word 0 8 else 0

feature-again : (has : Bool) (word : ℕ) → kept has (kept has word) ≡ kept has word
unfolding kept
feature-again true word = omega arith
feature-again false word = refl

low-again : (word : ℕ) → bits (bits word 0 8) 0 8 ≡ bits word 0 8
low-again word = omega arith

select-again : (word : ℕ) → bits (bits word 0 8) 0 4 ≡ bits word 0 4
select-again word = omega arith

abbrev other_of : Bool → Sqe → Other
other_of admin e = other_in admin e

-- the entry that is made of what an entry says
abbrev entry-again : Bool → Sqe → Sqe
entry-again admin e = entry_made (commands.Other (other_in admin e))

same-flags : (e : Sqe) (admin : Bool) → flags_byte (entry-again admin e).flags ≡ flags_byte e.flags
same-flags e admin = flags-again e.flags.fuse e.flags.psdt

has-at : (admin : Bool) (opcode code : ℕ) → admin ≡ true → opcode ≡ code → has_feature true code ≡ true → has_feature admin opcode ≡ true
has-at admin opcode code ea eo h = (λ i. has_feature (ea i) (eo i)) ∙ h

kept-has : (has : Bool) (word : ℕ) → has ≡ true → (if has then bits word 0 8 else 0) ≡ bits word 0 8
kept-has has word h = ap (λ (b : Bool). if b then bits word 0 8 else 0) h

same-feature : (admin : Bool) (e : Sqe) (code : ℕ) → admin ≡ true → e.opcode ≡ code → has_feature true code ≡ true → feature_in (entry-again admin e) ≡ feature_in e
same-feature admin e code ea eo h = ap (λ (w : ℕ). bits w 0 8) (kept-has (has_feature admin e.opcode) e.cdw10 (has-at admin e.opcode code ea eo h)) ∙ low-again e.cdw10

same-select : (admin : Bool) (e : Sqe) (code : ℕ) → admin ≡ true → e.opcode ≡ code → has_feature true code ≡ true → select_in (entry-again admin e) ≡ select_in e
same-select admin e code ea eo h = ap (λ (w : ℕ). bits w 0 4) (kept-has (has_feature admin e.opcode) e.cdw10 (has-at admin e.opcode code ea eo h)) ∙ select-again e.cdw10

asks-again : (admin : Bool) (e : Sqe) (kind : Asked) → Asks admin (entry-again admin e) kind → Asks admin e kind
asks-again admin e kinds.Write h = (h.0, sym (same-flags e admin) ∙ h.1, h.2)
asks-again admin e kinds.Read h = (h.0, sym (same-flags e admin) ∙ h.1, h.2)
asks-again admin e kinds.Zero h = (h.0, sym (same-flags e admin) ∙ h.1, h.2)
asks-again admin e kinds.Dealloc h = (h.0, sym (same-flags e admin) ∙ h.1, h.2)
asks-again admin e kinds.Flush h = (h.0, sym (same-flags e admin) ∙ h.1, h.2)
asks-again admin e kinds.Status h = (h.0, sym (same-flags e admin) ∙ h.1, h.2)
asks-again admin e kinds.Update h = (h.0, sym (same-flags e admin) ∙ h.1, h.2)
asks-again admin e kinds.Log h = (h.0, sym (same-flags e admin) ∙ h.1, h.2)
asks-again admin e kinds.SetFdp h = ((h.0.0, sym (same-flags e admin) ∙ h.0.1, h.0.2), sym (same-feature admin e _ h.0.0 h.0.2 refl) ∙ h.1)
asks-again admin e kinds.GetFdp h = ((h.0.0, sym (same-flags e admin) ∙ h.0.1, h.0.2), sym (same-feature admin e _ h.0.0 h.0.2 refl) ∙ h.1)
asks-again admin e kinds.SetEvents h = ((h.0.0, sym (same-flags e admin) ∙ h.0.1, h.0.2), sym (same-feature admin e _ h.0.0 h.0.2 refl) ∙ h.1)
asks-again admin e kinds.Create h = ((h.0.0, sym (same-flags e admin) ∙ h.0.1, h.0.2), sym (same-select admin e _ h.0.0 h.0.2 refl) ∙ h.1)
asks-again admin e kinds.Delete h = ((h.0.0, sym (same-flags e admin) ∙ h.0.1, h.0.2), sym (same-select admin e _ h.0.0 h.0.2 refl) ∙ h.1)

other-again : (admin : Bool) (e : Sqe) → other_in admin e ≡ other_in admin (entry-again admin e)
unfolding kept
other-again admin e =
    let f : flags_byte e.flags ≡ flags_byte (entry-again admin e).flags = sym (same-flags e admin) in
    let x : kept (has_feature admin e.opcode) e.cdw10 ≡ kept (has_feature admin e.opcode) (kept (has_feature admin e.opcode) e.cdw10) = sym (feature-again (has_feature admin e.opcode) e.cdw10) in
    λ i. record { admin = admin; opcode = e.opcode; flags = f i; feature = x i }

other-carried : (admin : Bool) (e : Sqe) → ((kind : Asked) → Asks admin e kind → ⊥) → SaysOther (other_in admin e) (entry-again admin e)
other-carried admin e none = ((λ kind h. none kind (asks-again admin e kind h)), other-again admin e)

-- ---- the others

payload-carried : (block count : ℕ) (body : List ℕ) (payload : Payload) → length body ≡ count * block → IsPayload block count body payload → IsCarriedPayload block count payload
payload-carried block count body (payloads.Pattern seed) size is = tt
payload-carried block count body (payloads.Bytes bytes) size is = (ap (λ (t : List ℕ). length t) is.0 ∙ size, λ seed small e. is.1 seed small (sym is.0 ∙ e))

within-blocks : (n word : ℕ) → n ≡ bits word 0 16 + 1 → IsWithin 1 65536 n
within-blocks n word e = (omega (arith, e), omega (arith, e))

within-ranges : (n word : ℕ) → n ≡ bits word 0 8 + 1 → IsWithin 1 256 n
within-ranges n word e = (omega (arith, e), omega (arith, e))

within-pids : (n word : ℕ) → n ≡ bits word 16 16 + 1 → IsWithin 1 65536 n
within-pids n word e = (omega (arith, e), omega (arith, e))

pub said-carried : (block : ℕ) (admin : Bool) (e : Sqe) (body : List ℕ) (c : Command) → Says block admin e body c → IsCarried block c
said-carried block admin e body (commands.Write w) s =
    let n : w.count ≡ blocks_in e = ap (λ x. x.count) s.1 in
    let t : w.dtype ≡ bits e.cdw12 20 4 = ap (λ x. x.dtype) s.1 in
    (within-blocks w.count e.cdw12 n, omega (arith, t), subst (λ (k : ℕ). IsCarriedPayload block k w.payload) (sym n) (payload-carried block (blocks_in e) body w.payload s.2 s.3))
said-carried block admin e body (commands.Read r) s = within-blocks r.count e.cdw12 (ap (λ x. x.count) s.1)
said-carried block admin e body (commands.Zero z) s = within-blocks z.count e.cdw12 (ap (λ x. x.count) s.1)
said-carried block admin e body (commands.Dealloc d) s = within-ranges (length d.ranges) e.cdw10 s.2
said-carried block admin e body (commands.Flush f) s = tt
said-carried block admin e body (commands.Delete d) s = tt
said-carried block admin e body (commands.Status t) s = let n = ap (λ x. x.dwords) s.1 in omega (arith, n)
said-carried block admin e body (commands.Update u) s = within-pids (length u.pids) e.cdw10 s.2
said-carried block admin e body (commands.Log l) s =
    let n = ap (λ x. x.dwords) s.1 in
    let p : l.lsp ≡ bits e.cdw10 8 7 = ap (λ x. x.lsp) s.1 in
    (omega (arith, n), omega (arith, p))
said-carried block admin e body (commands.SetFdp t) s = tt
said-carried block admin e body (commands.GetFdp g) s = tt
said-carried block admin e body (commands.SetEvents t) s = omega (arith, s.2)
said-carried block admin e body (commands.Create c) s = absurd s
said-carried block admin e body (commands.Other o) s =
    let same : admin ≡ o.admin = sym (ap (λ x. x.admin) s.1) in
    subst (λ (x : Other). SaysOther x (entry_made (commands.Other x))) (sym s.1) (other-carried admin e s.0)

pub no-frame : (block : ℕ) (c : Command) (frame : List ℕ) → (IsCarried block c → ⊥) → IsFrame block frame c → ⊥
no-frame block c frame none f = none (said-carried block f.front.admin f.front.entry f.body c f.says)
