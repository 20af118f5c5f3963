-- The entry that is made of a command says it.
use Rattle.std.proofs.Common.{◌≡◌, ℕ, ◌+◌, ◌-◌, ◌*◌, ◌/◌, ◌%◌, ◌^◌, ◌<◌, ◌≤◌, Bool, true, false, List, [], ◌∷◌, ◌++◌, length, refl, sym, ap, subst, ◌∙◌, arith, append_assoc}
use Rattle.std.specs.Prelude.{flat_map}
use Rattle.std.specs.Int.{to_le_bytes, w16}
use Rattle.std.proofs.lemmas.List.{length-append}
use Rattle.fdp_base.specs.declared.command.Command.{Command}
use Rattle.fdp_base.specs.declared.command.Command.TheVariants as commands
use Rattle.fdp_base.specs.declared.command.Dealloc.{Dealloc}
use Rattle.fdp_base.specs.declared.command.GetFdp.{GetFdp}
use Rattle.fdp_base.specs.declared.command.GetLog.{GetLog}
use Rattle.fdp_base.specs.declared.command.HandleStatus.{HandleStatus}
use Rattle.fdp_base.specs.declared.command.HandleUpdate.{HandleUpdate}
use Rattle.fdp_base.specs.declared.command.Range.{Range}
use Rattle.fdp_base.specs.declared.command.Read.{Read}
use Rattle.fdp_base.specs.declared.command.SetEvents.{SetEvents}
use Rattle.fdp_base.specs.declared.command.SetFdp.{SetFdp}
use Rattle.fdp_base.specs.declared.command.Write.{Write}
use Rattle.fdp_base.specs.declared.command.Zero.{Zero}
use Rattle.fdp_base.specs.declared.payload.Payload.{Payload}
use Rattle.fdp_base.specs.declared.payload.Payload.TheVariants as payloads
use Rattle.fdp_base.specs.EventCodes.{bit}
use Rattle.fdp_base.specs.Geometry.{IsBlockSize, IsWithin}
use Rattle.fdp_layouts.specs.Frame.{Fits}
use Rattle.fdp_layouts.specs.Range.{dsm_range, dsm_range_numbers}
use Rattle.fdp_layouts.specs.Submission.{sqe, sqe_numbers}
use Rattle.fdp_queues.specs.declared.work.Work.{Work}
use Rattle.fdp_queues.specs.Entry.{entry_bytes, high, low, nlb, numd, zero_based}
use Rattle.fdp_queues.specs.Data.{data_of, payload_data, range_bytes, with_attributes}
use Rattle.fdp_binary.specs.declared.front.Front.{Front}
use Rattle.fdp_binary.specs.Front.{front_bytes, head}
use Rattle.fdp_binary.specs.Fields.{bits, blocks_in, dealloc_in, dwords_of, get_fdp_in, is_set, joined, log_in, read_in, set_events_in, set_fdp_in, status_in, update_in, write_in, zero_in}
use Rattle.fdp_binary.specs.Saying.{AreLaid, IsPayload, IsPid, IsRange, Says}
use Rattle.fdp_binary.specs.Frames.{IsFrame}
use Rattle.fdp_binary.specs.Carrying.{AreTypedPids, AreTypedRanges, IsCarried, IsCarriedPayload, IsTyped, IsTypedPayload, admin_made, entry_made}
use Rattle.fdp_binary.proofs.Blocks.{block-from, pattern-size}
use Rattle.fdp_queues.proofs.Data.{length-range}
use Rattle.fdp_binary.proofs.Laid.{laid-length, laid-out}

-- ---- fields

address-made : (n : ℕ) → n ≡ joined (low n) (high n)
address-made n = omega arith

count-made : (n other : ℕ) → IsWithin 1 65536 n → n ≡ bits (nlb n + 2 ^ 20 * (other % 16)) 0 16 + 1
count-made n other in_range = omega (arith, in_range.0, in_range.1)

count-alone : (n : ℕ) → IsWithin 1 65536 n → n ≡ bits (nlb n) 0 16 + 1
count-alone n in_range = omega (arith, in_range.0, in_range.1)

dtype-made : (n dtype : ℕ) → dtype < 16 → dtype ≡ bits (nlb n + 2 ^ 20 * (dtype % 16)) 20 4
dtype-made n dtype small = omega (arith, small)

upper-made : (n : ℕ) → n < 2 ^ 16 → n ≡ bits (2 ^ 16 * n) 16 16
upper-made n small = omega (arith, small)

ranges-made : (n : ℕ) → IsWithin 1 256 n → n ≡ bits (zero_based 256 n) 0 8 + 1
ranges-made n in_range = omega (arith, in_range.0, in_range.1)

deallocate-made : (b : Bool) → b ≡ is_set (2 ^ 2 * bit b) 2
deallocate-made true = refl
deallocate-made false = refl

byte-made : (n : ℕ) → n < 2 ^ 8 → n ≡ bits n 0 8
byte-made n small = omega (arith, small)

half-made : (n : ℕ) → n < 2 ^ 16 → n ≡ bits n 0 16
half-made n small = omega (arith, small)

numd-made : (n : ℕ) → 1 ≤ n → n < 2 ^ 32 → numd n ≡ n - 1
numd-made n some small = omega (arith, some, small)

dwords-made : (n : ℕ) → 1 ≤ n → n < 2 ^ 32 → n ≡ dwords_of (numd n)
dwords-made n some small = let e = numd-made n some small in omega (arith, e, some, small)

operation-made : (mo n : ℕ) → mo < 2 ^ 8 → mo ≡ bits (mo + 2 ^ 16 * zero_based 65536 n) 0 8
operation-made mo n small = omega (arith, small)

pids-made : (mo n : ℕ) → mo < 2 ^ 8 → IsWithin 1 65536 n → n ≡ bits (mo + 2 ^ 16 * zero_based 65536 n) 16 16 + 1
pids-made mo n small in_range = omega (arith, small, in_range.0, in_range.1)

handle-made : (handle n : ℕ) → handle < 2 ^ 16 → handle ≡ bits (handle + 2 ^ 16 * (n % 256)) 0 16
handle-made handle n small = omega (arith, small)

types-made : (handle n : ℕ) → handle < 2 ^ 16 → n ≤ 255 → n ≡ bits (handle + 2 ^ 16 * (n % 256)) 16 8
types-made handle n small few = omega (arith, small, few)

enable-made : (b : Bool) (index : ℕ) → b ≡ is_set (bit b + 2 ^ 8 * index) 0
enable-made true index = let e : bits (1 + 2 ^ 8 * index) 0 1 ≡ 1 = omega arith in rw e refl
enable-made false index = let e : bits (0 + 2 ^ 8 * index) 0 1 ≡ 0 = omega arith in rw e refl

set-made : (b : Bool) → b ≡ is_set (bit b) 0
set-made true = refl
set-made false = refl

bit-small : (b : Bool) → bit b ≤ 1
bit-small true = omega arith
bit-small false = omega arith

index-made : (b : Bool) (index : ℕ) → index < 2 ^ 8 → index ≡ bits (bit b + 2 ^ 8 * index) 8 8
index-made b index small = omega (arith, bit-small b, small)

-- CDW10 and CDW11 of a log page
page-made : (lid lsp n : ℕ) → lid < 2 ^ 8 → lid ≡ bits (lid + 2 ^ 8 * (lsp % 128) + 2 ^ 16 * (n % 65536)) 0 8
page-made lid lsp n small = omega (arith, small)

parameter-made : (lid lsp n : ℕ) → lid < 2 ^ 8 → lsp < 2 ^ 7 → lsp ≡ bits (lid + 2 ^ 8 * (lsp % 128) + 2 ^ 16 * (n % 65536)) 8 7
parameter-made lid lsp n small short = omega (arith, small, short)

group-made : (n group : ℕ) → n < 2 ^ 32 → group < 2 ^ 16 → group ≡ bits (n / 65536 + 2 ^ 16 * group) 16 16
group-made n group small short = omega (arith, small, short)

halves-made : (lid lsp n group : ℕ) → lid < 2 ^ 8 → n < 2 ^ 32 → n ≡ bits (lid + 2 ^ 8 * (lsp % 128) + 2 ^ 16 * (n % 65536)) 16 16 + 2 ^ 16 * bits (n / 65536 + 2 ^ 16 * group) 0 16
halves-made lid lsp n group small short =
    let l : bits (lid + 2 ^ 8 * (lsp % 128) + 2 ^ 16 * (n % 65536)) 16 16 ≡ n % 65536 = omega (arith, small) in
    let h : bits (n / 65536 + 2 ^ 16 * group) 0 16 ≡ n / 65536 = omega (arith, short) in
    omega (arith, l, h)

-- ---- commands

read-made : (r : Read) → IsWithin 1 65536 r.count → r ≡ read_in (entry_made (commands.Read r))
read-made r fits = let s = address-made r.slba in let n = count-alone r.count fits in λ i. record { nsid = r.nsid; slba = s i; count = n i }

zero-made : (z : Zero) → IsWithin 1 65536 z.count → z ≡ zero_in (entry_made (commands.Zero z))
zero-made z fits = let s = address-made z.slba in let n = count-alone z.count fits in λ i. record { nsid = z.nsid; slba = s i; count = n i }

write-made : (w : Write) → IsWithin 1 65536 w.count → w.dtype < 16 → w.dspec < 2 ^ 16 → w ≡ write_in (entry_made (commands.Write w)) w.payload
write-made w fits directive short =
    let s = address-made w.slba in
    let n = count-made w.count w.dtype fits in
    let t = dtype-made w.count w.dtype directive in
    let d = upper-made w.dspec short in
    λ i. record { nsid = w.nsid; slba = s i; count = n i; dtype = t i; dspec = d i; payload = w.payload }

dealloc-made : (d : Dealloc) → d ≡ dealloc_in (entry_made (commands.Dealloc d)) d.ranges
dealloc-made d = let b = deallocate-made d.deallocate in λ i. record { nsid = d.nsid; deallocate = b i; ranges = d.ranges }

status-made : (s : HandleStatus) → 1 ≤ s.dwords → s.mo < 2 ^ 8 → s.dwords < 2 ^ 32 → s ≡ status_in (entry_made (commands.Status s))
status-made s some small short = let m = byte-made s.mo small in let n = dwords-made s.dwords some short in λ i. record { nsid = s.nsid; mo = m i; dwords = n i }

update-made : (u : HandleUpdate) → u.mo < 2 ^ 8 → u ≡ update_in (entry_made (commands.Update u)) u.pids
update-made u small = let m = operation-made u.mo (length u.pids) small in λ i. record { nsid = u.nsid; mo = m i; pids = u.pids }

numd-short : (n : ℕ) → numd n < 2 ^ 32
numd-short n = omega arith

log-made : (l : GetLog) → 1 ≤ l.dwords → l.lsp < 2 ^ 7 → l.lid < 2 ^ 8 → l.group < 2 ^ 16 → l.dwords < 2 ^ 32 → l ≡ log_in (entry_made (commands.Log l))
log-made l some parameter small group short =
    let n = numd l.dwords in
    let p = page-made l.lid l.lsp n small in
    let q = parameter-made l.lid l.lsp n small parameter in
    let g = group-made n l.group (numd-short l.dwords) group in
    let o = address-made l.offset in
    let d = dwords-made l.dwords some short ∙ ap dwords_of (halves-made l.lid l.lsp n l.group small (numd-short l.dwords)) in
    λ i. record { lid = p i; lsp = q i; group = g i; offset = o i; dwords = d i }

set-fdp-made : (s : SetFdp) → s.group < 2 ^ 16 → s.index < 2 ^ 8 → s ≡ set_fdp_in (entry_made (commands.SetFdp s))
set-fdp-made s group small =
    let g = half-made s.group group in
    let b = enable-made s.enable s.index in
    let x = index-made s.enable s.index small in
    λ i. record { group = g i; enable = b i; index = x i }

get-fdp-made : (g : GetFdp) → g.group < 2 ^ 16 → g ≡ get_fdp_in (entry_made (commands.GetFdp g))
get-fdp-made g group = let h = half-made g.group group in λ i. record { group = h i }

set-events-made : (s : SetEvents) → s.handle < 2 ^ 16 → s ≡ set_events_in (entry_made (commands.SetEvents s)) s.types
set-events-made s small =
    let h = handle-made s.handle (length s.types) small in
    let b = set-made s.enable in
    λ i. record { nsid = s.nsid; handle = h i; enable = b i; types = s.types }

-- ---- data

payload-said : (block count : ℕ) (payload : Payload) → IsTypedPayload payload → IsCarriedPayload block count payload → IsPayload block count (payload_data block count payload) payload
payload-said block count (payloads.Pattern seed) typed carried = (typed, refl)
payload-said block count (payloads.Bytes bytes) typed carried = (refl, carried.1)

pub payload-size : (block count : ℕ) (payload : Payload) → IsBlockSize block → IsCarriedPayload block count payload → length (payload_data block count payload) ≡ count * block
payload-size block count (payloads.Pattern seed) is carried = pattern-size block count seed is
payload-size block count (payloads.Bytes bytes) is carried = carried.0

is-range : (r : Range) → Fits dsm_range (dsm_range_numbers (with_attributes 0 r)) → IsRange (range_bytes (with_attributes 0 r)) r
is-range r fits = (0, fits, refl)

is-pid : (pid : ℕ) → pid < 2 ^ 16 → IsPid (to_le_bytes w16 pid) pid
is-pid pid small = (small, refl)

pub ranges-laid : (ranges : List Range) → AreTypedRanges ranges → AreLaid IsRange (flat_map (λ range. range_bytes (with_attributes 0 range)) ranges) ranges
ranges-laid ranges fit = laid-out IsRange (λ (r : Range). Fits dsm_range (dsm_range_numbers (with_attributes 0 r))) (λ (r : Range). range_bytes (with_attributes 0 r)) is-range ranges fit.each

pub pids-laid : (pids : List ℕ) → AreTypedPids pids → AreLaid IsPid (flat_map (to_le_bytes w16) pids) pids
pids-laid pids fit = laid-out IsPid (λ (p : ℕ). p < 2 ^ 16) (to_le_bytes w16) is-pid pids fit.each

pub range-size : (p : List ℕ) (r : Range) → IsRange p r → length p ≡ 16
range-size p r is = ap (λ (t : List ℕ). length t) is.2 ∙ length-range (with_attributes is.0 r)

pub pid-size : (p : List ℕ) (n : ℕ) → IsPid p n → length p ≡ 2
pid-size p n is = ap (λ (t : List ℕ). length t) is.1

-- ---- a frame

pub says-made : (block : ℕ) (c : Command) → IsBlockSize block → IsCarried block c → IsTyped c → Says block (admin_made c) (entry_made c) (data_of block c) c
says-made block (commands.Write w) is carried typed =
    let e = entry_made (commands.Write w) in
    let n : w.count ≡ blocks_in e = count-made w.count w.dtype carried.0 in (
      (refl, refl, refl),
      write-made w carried.0 carried.1 typed.1,
      payload-size block w.count w.payload is carried.2 ∙ ap (λ (k : ℕ). k * block) n,
      subst (λ (k : ℕ). IsPayload block k (payload_data block w.count w.payload) w.payload) n (payload-said block w.count w.payload typed.0 carried.2),
    )
says-made block (commands.Read r) is carried typed = ((refl, refl, refl), read-made r carried, refl)
says-made block (commands.Zero z) is carried typed = ((refl, refl, refl), zero-made z carried, refl)
says-made block (commands.Dealloc d) is carried typed = ((refl, refl, refl), dealloc-made d, ranges-made (length d.ranges) carried, ranges-laid d.ranges typed)
says-made block (commands.Flush f) is carried typed = ((refl, refl, refl), refl, refl)
says-made block (commands.Delete d) is carried typed = (((refl, refl, refl), refl), refl, refl)
says-made block (commands.Status s) is carried typed = ((refl, refl, refl), status-made s carried typed.0 typed.1, refl)
says-made block (commands.Update u) is carried typed = ((refl, refl, refl), update-made u typed.0, pids-made u.mo (length u.pids) typed.0 carried, pids-laid u.pids typed.1)
says-made block (commands.Log l) is carried typed = ((refl, refl, refl), log-made l carried.0 carried.1 typed.0 typed.1 typed.2, refl)
says-made block (commands.SetFdp s) is carried typed = (((refl, refl, refl), refl), set-fdp-made s typed.0 typed.1, refl)
says-made block (commands.GetFdp g) is carried typed = (((refl, refl, refl), refl), get-fdp-made g typed, refl)
says-made block (commands.SetEvents s) is carried typed = (((refl, refl, refl), refl), set-events-made s typed, types-made s.handle (length s.types) typed carried, refl)
says-made block (commands.Create c) is carried typed = absurd carried
says-made block (commands.Other o) is carried typed = (carried.0, carried.1, refl)

write-short : (block count : ℕ) → IsBlockSize block → count ≤ 65536 → count * block < 2 ^ 32
write-short block count is few = block-from (λ (b : ℕ). count * b < 2 ^ 32) block is (omega (arith, few)) (omega (arith, few))

pub short-made : (block : ℕ) (c : Command) → IsBlockSize block → IsCarried block c → IsTyped c → length (data_of block c) < 2 ^ 32
short-made block (commands.Write w) is carried typed = subst (λ (k : ℕ). k < 2 ^ 32) (sym (payload-size block w.count w.payload is carried.2)) (write-short block w.count is carried.0.1)
short-made block (commands.Read r) is carried typed = omega arith
short-made block (commands.Zero z) is carried typed = omega arith
short-made block (commands.Dealloc d) is carried typed = omega (arith, laid-length IsRange 16 range-size _ d.ranges (ranges-laid d.ranges typed), carried.1)
short-made block (commands.Flush f) is carried typed = omega arith
short-made block (commands.Delete d) is carried typed = omega arith
short-made block (commands.Status s) is carried typed = omega arith
short-made block (commands.Update u) is carried typed = omega (arith, laid-length IsPid 2 pid-size _ u.pids (pids-laid u.pids typed.1), carried.1)
short-made block (commands.Log l) is carried typed = omega arith
short-made block (commands.SetFdp s) is carried typed = omega arith
short-made block (commands.GetFdp g) is carried typed = omega arith
short-made block (commands.SetEvents s) is carried typed = omega (arith, carried)
short-made block (commands.Create c) is carried typed = omega arith
short-made block (commands.Other o) is carried typed = omega arith

pub frame-made : (block : ℕ) (c : Command) (old new : List ℕ) → IsBlockSize block → IsCarried block c → IsTyped c → Fits sqe (sqe_numbers (entry_made c))
    → new ≡ old ++ head (admin_made c) (length (data_of block c)) ++ entry_bytes (entry_made c) ++ data_of block c → (frame : List ℕ) × (new ≡ old ++ frame) × IsFrame block frame c
frame-made block c old new is carried typed fits e =
    let f : Front = record { admin = admin_made c; len = length (data_of block c); entry = entry_made c } in
    let h = head f.admin f.len in
    let b = entry_bytes f.entry in
    let d = data_of block c in (
      front_bytes f ++ d,
      e ∙ ap (λ (t : List ℕ). t ++ d) (append_assoc old h b) ∙ append_assoc old (h ++ b) d,
      record {
        front = f;
        body = d;
        sound = record { short = short-made block c is carried typed; fits = fits };
        sized = refl;
        whole = refl;
        says = says-made block c is carried typed;
      },
    )

-- head and entry, and then the data
pub framed : (block : ℕ) (c d : Command) (work : Work) (old mid new : List ℕ) (len : ℕ) → c ≡ d → mid ≡ old ++ head work.admin len ++ entry_bytes work.sqe → len ≡ length (data_of block d) → new ≡ mid ++ data_of block d
    → new ≡ old ++ head work.admin (length (data_of block c)) ++ entry_bytes work.sqe ++ data_of block c
framed block c d work old mid new len same front size is =
    let body = data_of block d in
    is
    ∙ ap (λ (t : List ℕ). t ++ body) (front ∙ ap (λ (n : ℕ). old ++ head work.admin n ++ entry_bytes work.sqe) size)
    ∙ ap (λ (x : Command). old ++ head work.admin (length (data_of block x)) ++ entry_bytes work.sqe ++ data_of block x) (sym same)

pub ranges-bytes : (rs : List Range) → length (flat_map (λ range. range_bytes (with_attributes 0 range)) rs) ≡ 16 * length rs
ranges-bytes [] = refl
ranges-bytes (r ∷ rs) = omega (arith, length-append (range_bytes (with_attributes 0 r)) (flat_map (λ range. range_bytes (with_attributes 0 range)) rs), length-range (with_attributes 0 r), ranges-bytes rs)

pub pids-bytes : (ps : List ℕ) → length (flat_map (to_le_bytes w16) ps) ≡ 2 * length ps
pids-bytes [] = refl
pids-bytes (p ∷ ps) = let two : length (to_le_bytes w16 p) ≡ 2 = refl in omega (arith, length-append (to_le_bytes w16 p) (flat_map (to_le_bytes w16) ps), two, pids-bytes ps)
