-- What a frame says is one command: its kind, its length, its values.
use Rattle.std.proofs.Common.{◌≡◌, ℕ, ◌*◌, ◌≤◌, Bool, List, [], length, take, Option, Some, None, refl, sym, ap, subst, ◌∙◌, arith}
use Rattle.std.specs.Int.{from_le_bytes, w16, w32}
use Rattle.std.proofs.lemmas.Nat.{from_le_bytes-to_le_bytes_2}
use Rattle.fdp_base.specs.declared.command.Command.{Command}
use Rattle.fdp_base.specs.declared.command.Command.TheVariants as commands
use Rattle.fdp_base.specs.declared.command.Range.{Range}
use Rattle.fdp_base.specs.declared.payload.Payload.{Payload}
use Rattle.fdp_base.specs.declared.payload.Payload.TheVariants as payloads
use Rattle.fdp_base.specs.CommandKinds.{blocks_read}
use Rattle.fdp_base.specs.Geometry.{IsBlockSize}
use Rattle.fdp_layouts.specs.declared.submission.Sqe.{Sqe}
use Rattle.fdp_queues.specs.Data.{with_attributes}
use Rattle.fdp_binary.specs.declared.asked.Asked.{Asked}
use Rattle.fdp_binary.specs.declared.asked.Asked.TheVariants as kinds
use Rattle.fdp_binary.specs.Asked.{IsAsked, data_in, reads_in}
use Rattle.fdp_binary.specs.Fields.{blocks_in, dealloc_in, delete_in, flush_in, get_fdp_in, log_in, other_in, read_in, set_events_in, set_fdp_in, status_in, update_in, write_in, zero_in}
use Rattle.fdp_binary.specs.Saying.{AreLaid, IsPayload, IsPid, IsRange, Says}
use Rattle.fdp_binary.proofs.Asking.{one_asked}
use Rattle.fdp_binary.proofs.Blocks.{seed-first}
use Rattle.fdp_binary.proofs.Fronts.{one_range}
use Rattle.fdp_binary.proofs.Laid.{laid-length, one_laid}
use Rattle.fdp_binary.proofs.Made.{pid-size, range-size}

-- the kind of a command, as its entry asks for it
unfoldable pub kind_of : Command → Option Asked
kind_of (commands.Write w) = Some kinds.Write
kind_of (commands.Read r) = Some kinds.Read
kind_of (commands.Zero z) = Some kinds.Zero
kind_of (commands.Dealloc d) = Some kinds.Dealloc
kind_of (commands.Flush f) = Some kinds.Flush
kind_of (commands.Delete d) = Some kinds.Delete
kind_of (commands.Status s) = Some kinds.Status
kind_of (commands.Update u) = Some kinds.Update
kind_of (commands.Log l) = Some kinds.Log
kind_of (commands.SetFdp s) = Some kinds.SetFdp
kind_of (commands.GetFdp g) = Some kinds.GetFdp
kind_of (commands.SetEvents s) = Some kinds.SetEvents
kind_of (commands.Create c) = Some kinds.Create
kind_of (commands.Other o) = None

pub record IsKind (block : ℕ) (admin : Bool) (e : Sqe) (body : List ℕ) (c : Command) : Type 0 where
  pub asks : IsAsked admin e (kind_of c)
  pub kept : kind_of c ≡ Some kinds.Create → ⊥
  pub sized : length body ≡ data_in block (kind_of c) e
  pub reads : blocks_read c ≡ reads_in (kind_of c) e

no-data : (body : List ℕ) → body ≡ [] → length body ≡ 0
no-data body e = ap (λ (t : List ℕ). length t) e

pub said-kind : (block : ℕ) (admin : Bool) (e : Sqe) (body : List ℕ) (c : Command) → Says block admin e body c → IsKind block admin e body c
unfolding kind_of
said-kind block admin e body (commands.Write w) s = record { asks = s.0; kept = λ h. cc; sized = s.2; reads = refl }
said-kind block admin e body (commands.Read r) s = record { asks = s.0; kept = λ h. cc; sized = no-data body s.2; reads = ap (λ x. x.count) s.1 }
said-kind block admin e body (commands.Zero z) s = record { asks = s.0; kept = λ h. cc; sized = no-data body s.2; reads = refl }
said-kind block admin e body (commands.Dealloc d) s = record { asks = s.0; kept = λ h. cc; sized = laid-length IsRange 16 range-size body d.ranges s.3 ∙ ap (λ (n : ℕ). 16 * n) s.2; reads = refl }
said-kind block admin e body (commands.Flush f) s = record { asks = s.0; kept = λ h. cc; sized = no-data body s.2; reads = refl }
said-kind block admin e body (commands.Delete d) s = record { asks = s.0; kept = λ h. cc; sized = no-data body s.2; reads = refl }
said-kind block admin e body (commands.Status t) s = record { asks = s.0; kept = λ h. cc; sized = no-data body s.2; reads = refl }
said-kind block admin e body (commands.Update u) s = record { asks = s.0; kept = λ h. cc; sized = laid-length IsPid 2 pid-size body u.pids s.3 ∙ ap (λ (n : ℕ). 2 * n) s.2; reads = refl }
said-kind block admin e body (commands.Log l) s = record { asks = s.0; kept = λ h. cc; sized = no-data body s.2; reads = refl }
said-kind block admin e body (commands.SetFdp t) s = record { asks = s.0; kept = λ h. cc; sized = no-data body s.2; reads = refl }
said-kind block admin e body (commands.GetFdp g) s = record { asks = s.0; kept = λ h. cc; sized = no-data body s.2; reads = refl }
said-kind block admin e body (commands.SetEvents t) s = record { asks = s.0; kept = λ h. cc; sized = ap (λ (x : List ℕ). length x) s.3 ∙ s.2; reads = refl }
said-kind block admin e body (commands.Create c) s = absurd s
said-kind block admin e body (commands.Other o) s = record { asks = s.0; kept = λ h. cc; sized = no-data body s.2; reads = refl }

-- ---- one command

-- what an entry leaves to its data
record Extra : Type 0 where
  payload : Payload
  ranges : List Range
  pids : List ℕ

none : Extra
none = record { payload = payloads.Pattern 0; ranges = []; pids = [] }

extra_of : Command → Extra
extra_of (commands.Write w) = record { payload = w.payload; ranges = []; pids = [] }
extra_of (commands.Read r) = none
extra_of (commands.Zero z) = none
extra_of (commands.Dealloc d) = record { payload = payloads.Pattern 0; ranges = d.ranges; pids = [] }
extra_of (commands.Flush f) = none
extra_of (commands.Delete d) = none
extra_of (commands.Status s) = none
extra_of (commands.Update u) = record { payload = payloads.Pattern 0; ranges = []; pids = u.pids }
extra_of (commands.Log l) = none
extra_of (commands.SetFdp s) = none
extra_of (commands.GetFdp g) = none
extra_of (commands.SetEvents s) = none
extra_of (commands.Create c) = none
extra_of (commands.Other o) = none

-- the command of an entry of this kind
meant : Option Asked → Bool → Sqe → List ℕ → Extra → Command
meant None admin e body x = commands.Other (other_in admin e)
meant (Some kinds.Write) admin e body x = commands.Write (write_in e x.payload)
meant (Some kinds.Read) admin e body x = commands.Read (read_in e)
meant (Some kinds.Zero) admin e body x = commands.Zero (zero_in e)
meant (Some kinds.Dealloc) admin e body x = commands.Dealloc (dealloc_in e x.ranges)
meant (Some kinds.Flush) admin e body x = commands.Flush (flush_in e)
meant (Some kinds.Status) admin e body x = commands.Status (status_in e)
meant (Some kinds.Update) admin e body x = commands.Update (update_in e x.pids)
meant (Some kinds.Log) admin e body x = commands.Log (log_in e)
meant (Some kinds.SetFdp) admin e body x = commands.SetFdp (set_fdp_in e)
meant (Some kinds.GetFdp) admin e body x = commands.GetFdp (get_fdp_in e)
meant (Some kinds.SetEvents) admin e body x = commands.SetEvents (set_events_in e body)
meant (Some kinds.Create) admin e body x = commands.Flush (flush_in e)
meant (Some kinds.Delete) admin e body x = commands.Delete (delete_in e)

said-meant : (block : ℕ) (admin : Bool) (e : Sqe) (body : List ℕ) (c : Command) → Says block admin e body c → c ≡ meant (kind_of c) admin e body (extra_of c)
unfolding kind_of extra_of meant none
said-meant block admin e body (commands.Write w) s = ap commands.Write s.1
said-meant block admin e body (commands.Read r) s = ap commands.Read s.1
said-meant block admin e body (commands.Zero z) s = ap commands.Zero s.1
said-meant block admin e body (commands.Dealloc d) s = ap commands.Dealloc s.1
said-meant block admin e body (commands.Flush f) s = ap commands.Flush s.1
said-meant block admin e body (commands.Delete d) s = ap commands.Delete s.1
said-meant block admin e body (commands.Status t) s = ap commands.Status s.1
said-meant block admin e body (commands.Update u) s = ap commands.Update s.1
said-meant block admin e body (commands.Log l) s = ap commands.Log s.1
said-meant block admin e body (commands.SetFdp t) s = ap commands.SetFdp s.1
said-meant block admin e body (commands.GetFdp g) s = ap commands.GetFdp s.1
said-meant block admin e body (commands.SetEvents t) s = ap commands.SetEvents (s.1 ∙ ap (set_events_in e) (sym s.3))
said-meant block admin e body (commands.Create c) s = absurd s
said-meant block admin e body (commands.Other o) s = ap commands.Other s.1

-- the data say what is left to them
IsExtra : ℕ → Sqe → List ℕ → Option Asked → Extra → Type 0
IsExtra block e body None x = x ≡ none
IsExtra block e body (Some kinds.Write) x = IsPayload block (blocks_in e) body x.payload × (x.ranges ≡ []) × (x.pids ≡ [])
IsExtra block e body (Some kinds.Read) x = x ≡ none
IsExtra block e body (Some kinds.Zero) x = x ≡ none
IsExtra block e body (Some kinds.Dealloc) x = AreLaid IsRange body x.ranges × (x.payload ≡ payloads.Pattern 0) × (x.pids ≡ [])
IsExtra block e body (Some kinds.Flush) x = x ≡ none
IsExtra block e body (Some kinds.Status) x = x ≡ none
IsExtra block e body (Some kinds.Update) x = AreLaid IsPid body x.pids × (x.payload ≡ payloads.Pattern 0) × (x.ranges ≡ [])
IsExtra block e body (Some kinds.Log) x = x ≡ none
IsExtra block e body (Some kinds.SetFdp) x = x ≡ none
IsExtra block e body (Some kinds.GetFdp) x = x ≡ none
IsExtra block e body (Some kinds.SetEvents) x = x ≡ none
IsExtra block e body (Some kinds.Create) x = x ≡ none
IsExtra block e body (Some kinds.Delete) x = x ≡ none

said-extra : (block : ℕ) (admin : Bool) (e : Sqe) (body : List ℕ) (c : Command) → Says block admin e body c → IsExtra block e body (kind_of c) (extra_of c)
unfolding kind_of extra_of IsExtra
said-extra block admin e body (commands.Write w) s = (s.3, refl, refl)
said-extra block admin e body (commands.Read r) s = refl
said-extra block admin e body (commands.Zero z) s = refl
said-extra block admin e body (commands.Dealloc d) s = (s.3, refl, refl)
said-extra block admin e body (commands.Flush f) s = refl
said-extra block admin e body (commands.Delete d) s = refl
said-extra block admin e body (commands.Status t) s = refl
said-extra block admin e body (commands.Update u) s = (s.3, refl, refl)
said-extra block admin e body (commands.Log l) s = refl
said-extra block admin e body (commands.SetFdp t) s = refl
said-extra block admin e body (commands.GetFdp g) s = refl
said-extra block admin e body (commands.SetEvents t) s = refl
said-extra block admin e body (commands.Create c) s = absurd s
said-extra block admin e body (commands.Other o) s = refl

one_payload : (block count : ℕ) (body : List ℕ) (p q : Payload) → IsBlockSize block → 1 ≤ count → IsPayload block count body p → IsPayload block count body q → p ≡ q
one_payload block count body (payloads.Pattern s) (payloads.Pattern t) is some hp hq =
    ap payloads.Pattern
    (sym (seed-first block count s is some hp.0) ∙ ap (λ (x : List ℕ). from_le_bytes w32 (take 4 x)) (sym hp.1 ∙ hq.1) ∙ seed-first block count t is some hq.0)
one_payload block count body (payloads.Pattern s) (payloads.Bytes b) is some hp hq = absurd (hq.1 s hp.0 hp.1)
one_payload block count body (payloads.Bytes b) (payloads.Pattern t) is some hp hq = absurd (hp.1 t hq.0 hq.1)
one_payload block count body (payloads.Bytes a) (payloads.Bytes b) is some hp hq = ap payloads.Bytes (hp.0 ∙ sym hq.0)

same-range : (p : List ℕ) (r s : Range) → IsRange p r → IsRange p s → r ≡ s
same-range p r s hr hs =
    let same = one_range (with_attributes hr.0 r) (with_attributes hs.0 s) hr.1 hs.1 (sym hr.2 ∙ hs.2) in
    let l = ap (λ x. x.length) same in
    let a = ap (λ x. x.slba) same in
    λ i. record { slba = a i; length = l i }

same-pid : (p : List ℕ) (m n : ℕ) → IsPid p m → IsPid p n → m ≡ n
same-pid p m n hm hn = sym (from_le_bytes-to_le_bytes_2 m hm.0) ∙ ap (from_le_bytes w16) (sym hm.1 ∙ hn.1) ∙ from_le_bytes-to_le_bytes_2 n hn.0

one_extra : (block : ℕ) (e : Sqe) (body : List ℕ) (kind : Option Asked) (x y : Extra) → IsBlockSize block → IsExtra block e body kind x → IsExtra block e body kind y → x ≡ y
unfolding IsExtra
one_extra block e body None x y is hx hy = hx ∙ sym hy
one_extra block e body (Some kinds.Write) x y is hx hy =
    let p = one_payload block (blocks_in e) body x.payload y.payload is (omega arith) hx.0 hy.0 in
    let r = hx.1 ∙ sym hy.1 in
    let d = hx.2 ∙ sym hy.2 in
    λ i. record { payload = p i; ranges = r i; pids = d i }
one_extra block e body (Some kinds.Read) x y is hx hy = hx ∙ sym hy
one_extra block e body (Some kinds.Zero) x y is hx hy = hx ∙ sym hy
one_extra block e body (Some kinds.Dealloc) x y is hx hy =
    let r = one_laid IsRange 16 (omega arith) range-size same-range body x.ranges y.ranges hx.0 hy.0 in
    let p = hx.1 ∙ sym hy.1 in
    let d = hx.2 ∙ sym hy.2 in
    λ i. record { payload = p i; ranges = r i; pids = d i }
one_extra block e body (Some kinds.Flush) x y is hx hy = hx ∙ sym hy
one_extra block e body (Some kinds.Status) x y is hx hy = hx ∙ sym hy
one_extra block e body (Some kinds.Update) x y is hx hy =
    let d = one_laid IsPid 2 (omega arith) pid-size same-pid body x.pids y.pids hx.0 hy.0 in
    let p = hx.1 ∙ sym hy.1 in
    let r = hx.2 ∙ sym hy.2 in
    λ i. record { payload = p i; ranges = r i; pids = d i }
one_extra block e body (Some kinds.Log) x y is hx hy = hx ∙ sym hy
one_extra block e body (Some kinds.SetFdp) x y is hx hy = hx ∙ sym hy
one_extra block e body (Some kinds.GetFdp) x y is hx hy = hx ∙ sym hy
one_extra block e body (Some kinds.SetEvents) x y is hx hy = hx ∙ sym hy
one_extra block e body (Some kinds.Create) x y is hx hy = hx ∙ sym hy
one_extra block e body (Some kinds.Delete) x y is hx hy = hx ∙ sym hy

-- an entry with its data says one command
pub one_said : (block : ℕ) (admin : Bool) (e : Sqe) (body : List ℕ) (c d : Command) → IsBlockSize block → Says block admin e body c → Says block admin e body d → c ≡ d
one_said block admin e body c d is sc sd =
    let k : kind_of c ≡ kind_of d = one_asked admin e (kind_of c) (kind_of d) (said-kind block admin e body c sc).asks (said-kind block admin e body d sd).asks in
    let xc = subst (λ (j : Option Asked). IsExtra block e body j (extra_of c)) k (said-extra block admin e body c sc) in
    let x : extra_of c ≡ extra_of d = one_extra block e body (kind_of d) (extra_of c) (extra_of d) is xc (said-extra block admin e body d sd) in
    said-meant block admin e body c sc ∙ (λ i. meant (k i) admin e body (x i)) ∙ sym (said-meant block admin e body d sd)
