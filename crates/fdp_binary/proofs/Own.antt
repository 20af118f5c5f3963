-- Of what a frame says, the entry that is made of it with its own data are a frame too: and that entry depends on the frame's entry alone.
use Rattle.std.proofs.Common.{◌≡◌, ℕ, ◌+◌, ◌*◌, ◌/◌, ◌%◌, ◌^◌, ◌<◌, Bool, true, false, List, [], ◌∷◌, length, Option, Some, None, refl, sym, ap, subst, ◌∙◌, arith}
use Rattle.std.specs.Prelude.{if◌then◌else◌}
use Rattle.std.specs.List.{All, AllZip}
use Rattle.std.proofs.lemmas.List.Elements.{All-cons, All-nil}
use Rattle.fdp_base.specs.declared.codes.IoOpcode.TheVariants as ios
use Rattle.fdp_base.specs.declared.command.Command.{Command}
use Rattle.fdp_base.specs.declared.command.Command.TheVariants as commands
use Rattle.fdp_base.specs.declared.command.Range.{Range}
use Rattle.fdp_base.specs.declared.codes.AdminOpcode.TheVariants as admins
use Rattle.fdp_base.specs.declared.codes.Feature.TheVariants as features
use Rattle.fdp_base.specs.declared.payload.Payload.{Payload}
use Rattle.fdp_base.specs.declared.payload.Payload.TheVariants as payloads
use Rattle.fdp_base.specs.Codes.{feature_code}
use Rattle.fdp_base.specs.EventCodes.{bit}
use Rattle.fdp_base.specs.Geometry.{IsBlockSize}
use Rattle.fdp_layouts.specs.declared.submission.Fuse.{Fuse}
use Rattle.fdp_layouts.specs.declared.submission.Fuse.TheVariants as fuses
use Rattle.fdp_layouts.specs.declared.submission.Psdt.{Psdt}
use Rattle.fdp_layouts.specs.declared.submission.Psdt.TheVariants as psdts
use Rattle.fdp_layouts.specs.declared.submission.Sqe.{Sqe}
use Rattle.fdp_layouts.specs.Frame.{Fits}
use Rattle.fdp_layouts.specs.Range.{dsm_range, dsm_range_numbers}
use Rattle.fdp_layouts.specs.Submission.{fuse_code, psdt_code, sqe, sqe_numbers}
use Rattle.fdp_queues.specs.declared.entry.Words.{Words}
use Rattle.fdp_queues.specs.declared.work.Work.{Work}
use Rattle.fdp_queues.specs.Data.{data_of, with_attributes}
use Rattle.fdp_queues.specs.Entry.{admin, deallocate_field, enable_field, entry_of, feature_field, fuse_of, handle_field, high, identifiers_field, io, low, nlb, numd, operation_field, psdt_of, ranges_field, types_field, words_of, work_of}
use Rattle.fdp_binary.specs.declared.asked.Asked.{Asked}
use Rattle.fdp_binary.specs.declared.asked.Asked.TheVariants as kinds
use Rattle.fdp_binary.specs.Carrying.{AreTypedPids, AreTypedRanges, IsTyped, IsTypedPayload, admin_made, entry_made}
use Rattle.fdp_binary.specs.Fields.{bits, blocks_in, delete_in, dwords_of, flush_in, get_fdp_in, is_set, joined, log_in, other_in, pids_in, ranges_in, read_in, set_fdp_in, status_in, types_in, write_in, zero_in}
use Rattle.fdp_binary.specs.Frames.{IsFrame}
use Rattle.fdp_binary.specs.Saying.{IsPayload, IsPid, IsRange, Says}
use Rattle.fdp_binary.proofs.Asking.{one_asked}
use Rattle.fdp_binary.proofs.Made.{says-made}
use Rattle.fdp_binary.proofs.Refused.{said-carried}
use Rattle.fdp_binary.proofs.Said.{kind_of, said-kind}

-- ---- the numbers of a command are within their types

payload-typed : (block count : ℕ) (body : List ℕ) (payload : Payload) → IsPayload block count body payload → IsTypedPayload payload
payload-typed block count body (payloads.Pattern seed) is = is.0
payload-typed block count body (payloads.Bytes bytes) is = tt

ranges-typed : (pieces : List (List ℕ)) (ranges : List Range) → AllZip IsRange pieces ranges → All (λ range. Fits dsm_range (dsm_range_numbers (with_attributes 0 range))) ranges
ranges-typed [] [] each = All-nil (λ range. Fits dsm_range (dsm_range_numbers (with_attributes 0 range)))
ranges-typed [] (r ∷ rs) each = absurd each
ranges-typed (p ∷ ps) [] each = absurd each
ranges-typed (p ∷ ps) (r ∷ rs) each =
    All-cons (λ range. Fits dsm_range (dsm_range_numbers (with_attributes 0 range))) r rs ((omega arith, refl, tt), each.0.1.1) (ranges-typed ps rs each.1)

pids-typed : (pieces : List (List ℕ)) (pids : List ℕ) → AllZip IsPid pieces pids → All (λ pid. pid < 2 ^ 16) pids
pids-typed [] [] each = All-nil (λ pid. pid < 2 ^ 16)
pids-typed [] (n ∷ ns) each = absurd each
pids-typed (p ∷ ps) [] each = absurd each
pids-typed (p ∷ ps) (n ∷ ns) each = All-cons (λ pid. pid < 2 ^ 16) n ns each.0.0 (pids-typed ps ns each.1)

byte-short : (n word from : ℕ) → n ≡ bits word from 8 → n < 2 ^ 8
byte-short n word from e = omega (arith, e)

half-short : (n word from : ℕ) → n ≡ bits word from 16 → n < 2 ^ 16
half-short n word from e = omega (arith, e)

dwords-short : (n numd : ℕ) → n ≡ dwords_of numd → n < 2 ^ 32
dwords-short n numd e = omega (arith, e)

said-typed : (block : ℕ) (admin : Bool) (e : Sqe) (body : List ℕ) (c : Command) → Says block admin e body c → IsTyped c
said-typed block admin e body (commands.Write w) s = (payload-typed block (blocks_in e) body w.payload s.3, half-short w.dspec e.cdw13 16 (ap (λ x. x.dspec) s.1))
said-typed block admin e body (commands.Read r) s = tt
said-typed block admin e body (commands.Zero z) s = tt
said-typed block admin e body (commands.Dealloc d) s = record { each = ranges-typed s.3.pieces d.ranges s.3.each }
said-typed block admin e body (commands.Flush f) s = tt
said-typed block admin e body (commands.Delete d) s = tt
said-typed block admin e body (commands.Status t) s = (byte-short t.mo e.cdw10 0 (ap (λ x. x.mo) s.1), dwords-short t.dwords e.cdw11 (ap (λ x. x.dwords) s.1))
said-typed block admin e body (commands.Update u) s = (byte-short u.mo e.cdw10 0 (ap (λ x. x.mo) s.1), record { each = pids-typed s.3.pieces u.pids s.3.each })
said-typed block admin e body (commands.Log l) s =
    (byte-short l.lid e.cdw10 0 (ap (λ x. x.lid) s.1), half-short l.group e.cdw11 16 (ap (λ x. x.group) s.1), dwords-short l.dwords (bits e.cdw10 16 16 + 2 ^ 16 * bits e.cdw11 0 16) (ap (λ x. x.dwords) s.1))
said-typed block admin e body (commands.SetFdp t) s = (half-short t.group e.cdw11 0 (ap (λ x. x.group) s.1), byte-short t.index e.cdw12 8 (ap (λ x. x.index) s.1))
said-typed block admin e body (commands.GetFdp g) s = half-short g.group e.cdw11 0 (ap (λ x. x.group) s.1)
said-typed block admin e body (commands.SetEvents t) s = half-short t.handle e.cdw11 0 (ap (λ x. x.handle) s.1)
said-typed block admin e body (commands.Create c) s = tt
said-typed block admin e body (commands.Other o) s = tt

-- ---- its entry fits

-- the words of an entry, or of a command, are within their fields
record HasShort (opcode nsid cdw10 cdw11 cdw12 cdw13 : ℕ) : Type 0 where
  opcode-is : opcode < 2 ^ 8
  nsid-is : nsid < 2 ^ 32
  cdw10-is : cdw10 < 2 ^ 32
  cdw11-is : cdw11 < 2 ^ 32
  cdw12-is : cdw12 < 2 ^ 32
  cdw13-is : cdw13 < 2 ^ 32

abbrev IsShort : Words → Type 0
IsShort w = HasShort w.opcode w.nsid w.cdw10 w.cdw11 w.cdw12 w.cdw13

abbrev IsShortEntry : Sqe → Type 0
IsShortEntry e = HasShort e.opcode e.nsid e.cdw10 e.cdw11 e.cdw12 e.cdw13

entry-short : (e : Sqe) → Fits sqe (sqe_numbers e) → IsShortEntry e
entry-short e f = record {
  opcode-is = f.0.0;
  nsid-is = f.1.1.1.0.0;
  cdw10-is = f.1.1.1.1.1.1.1.1.0.0;
  cdw11-is = f.1.1.1.1.1.1.1.1.1.0.0;
  cdw12-is = f.1.1.1.1.1.1.1.1.1.1.0.0;
  cdw13-is = f.1.1.1.1.1.1.1.1.1.1.1.0.0;
}

fuse-short : (fuse : Fuse) → fuse_code fuse < 2 ^ 2
fuse-short fuses.Normal = omega arith
fuse-short fuses.First = omega arith
fuse-short fuses.Second = omega arith
fuse-short fuses.Reserved = omega arith

psdt-short : (psdt : Psdt) → psdt_code psdt < 2 ^ 2
psdt-short psdts.Prp = omega arith
psdt-short psdts.SglMetadataBuffer = omega arith
psdt-short psdts.SglMetadataSegment = omega arith
psdt-short psdts.Reserved = omega arith

words-fit : (w : Words) → IsShort w → Fits sqe (sqe_numbers (entry_of w 0))
words-fit w s =
    let z : 0 < 2 ^ 8 = omega arith in
    let f = fuse-short (fuse_of (w.flags % 4)) in
    let p = psdt-short (psdt_of (w.flags / 64)) in (
      (s.opcode-is, refl, tt),
      (
        (f, refl, (omega arith, refl, (p, refl, tt))),
        (
          (omega arith, refl, tt),
          (
            (s.nsid-is, refl, tt),
            (
              (omega arith, refl, tt),
              (
                (omega arith, refl, tt),
                (
                  (omega arith, refl, tt),
                  (
                    (z, refl, (z, refl, (z, refl, (z, refl, (z, refl, (z, refl, (z, refl, (z, refl, (z, refl, (z, refl, (z, refl, (z, refl, (z, refl, (z, refl, (z, refl, (z, refl, tt)))))))))))))))),
                    (
                      (s.cdw10-is, refl, tt),
                      (
                        (s.cdw11-is, refl, tt),
                        (
                          (s.cdw12-is, refl, tt),
                          (
                            (s.cdw13-is, refl, tt),
                            (
                              (omega arith, refl, tt),
                              ((omega arith, refl, tt), tt),
                            ),
                          ),
                        ),
                      ),
                    ),
                  ),
                ),
              ),
            ),
          ),
        ),
      ),
    )

same-short : (n m : ℕ) → n ≡ m → m < 2 ^ 32 → n < 2 ^ 32
same-short n m e lt = omega (arith, e, lt)

low-short : (n : ℕ) → low n < 2 ^ 32
low-short n = omega arith

high-short : (n a b : ℕ) → n ≡ joined a b → a < 2 ^ 32 → b < 2 ^ 32 → high n < 2 ^ 32
high-short n a b e ha hb = omega (arith, e, ha, hb)

count-short : (n other : ℕ) → nlb n + 2 ^ 20 * (other % 16) < 2 ^ 32
count-short n other = omega arith

alone-short : (n : ℕ) → nlb n < 2 ^ 32
alone-short n = omega arith

upper-short : (n : ℕ) → n < 2 ^ 16 → 2 ^ 16 * n < 2 ^ 32
upper-short n lt = omega (arith, lt)

bit-short : (b : Bool) → bit b < 2
bit-short true = omega arith
bit-short false = omega arith

deallocate-short : (b : Bool) → deallocate_field b < 2 ^ 32
deallocate-short b = omega (arith, bit-short b)

ranges-short : (n : ℕ) → ranges_field n < 2 ^ 32
ranges-short n = omega arith

identifiers-short : (mo n : ℕ) → mo < 2 ^ 8 → operation_field mo + identifiers_field n < 2 ^ 32
identifiers-short mo n lt = omega (arith, lt)

numd-short : (n : ℕ) → numd n < 2 ^ 32
numd-short n = omega arith

page-short : (lid lsp n : ℕ) → lid < 2 ^ 8 → lid + 2 ^ 8 * (lsp % 128) + 2 ^ 16 * (n % 65536) < 2 ^ 32
page-short lid lsp n lt = omega (arith, lt)

group-short : (n group : ℕ) → n < 2 ^ 32 → group < 2 ^ 16 → n / 65536 + 2 ^ 16 * group < 2 ^ 32
group-short n group hn hg = omega (arith, hn, hg)

index-short : (b : Bool) (index : ℕ) → index < 2 ^ 8 → enable_field b + 2 ^ 8 * index < 2 ^ 32
index-short b index lt = omega (arith, bit-short b, lt)

enable-short : (b : Bool) → enable_field b < 2 ^ 32
enable-short b = omega (arith, bit-short b)

handle-short : (handle n : ℕ) → handle < 2 ^ 16 → handle_field handle + types_field n < 2 ^ 32
handle-short handle n lt = omega (arith, lt)

few-short : (n : ℕ) → n < 2 ^ 16 → n < 2 ^ 32
few-short n lt = omega (arith, lt)

byte-few : (n : ℕ) → n < 2 ^ 8 → n < 2 ^ 32
byte-few n lt = omega (arith, lt)

feature-short : (has : Bool) (word : ℕ) → (if has then bits word 0 8 else 0) < 2 ^ 32
feature-short true word = omega arith
feature-short false word = omega arith

io-short : (opcode nsid cdw10 cdw11 cdw12 cdw13 : ℕ) → opcode < 2 ^ 8 → nsid < 2 ^ 32 → cdw10 < 2 ^ 32 → cdw11 < 2 ^ 32 → cdw12 < 2 ^ 32 → cdw13 < 2 ^ 32 → HasShort opcode nsid cdw10 cdw11 cdw12 cdw13
io-short opcode nsid cdw10 cdw11 cdw12 cdw13 o n a b c d = record { opcode-is = o; nsid-is = n; cdw10-is = a; cdw11-is = b; cdw12-is = c; cdw13-is = d }

none-short : 0 < 2 ^ 32
none-short = omega arith

said-short : (block : ℕ) (admin : Bool) (e : Sqe) (body : List ℕ) (c : Command) → Says block admin e body c → IsShortEntry e → IsTyped c → IsShort (words_of c)
said-short block admin e body (commands.Write w) s h t =
    io-short _ _ _ _ _ _ (omega arith) (same-short w.nsid e.nsid (ap (λ x. x.nsid) s.1) h.nsid-is) (low-short w.slba) (high-short w.slba e.cdw10 e.cdw11 (ap (λ x. x.slba) s.1) h.cdw10-is h.cdw11-is) (count-short w.count w.dtype) (upper-short w.dspec t.1)
said-short block admin e body (commands.Read r) s h t =
    io-short _ _ _ _ _ _ (omega arith) (same-short r.nsid e.nsid (ap (λ x. x.nsid) s.1) h.nsid-is) (low-short r.slba) (high-short r.slba e.cdw10 e.cdw11 (ap (λ x. x.slba) s.1) h.cdw10-is h.cdw11-is) (alone-short r.count) none-short
said-short block admin e body (commands.Zero z) s h t =
    io-short _ _ _ _ _ _ (omega arith) (same-short z.nsid e.nsid (ap (λ x. x.nsid) s.1) h.nsid-is) (low-short z.slba) (high-short z.slba e.cdw10 e.cdw11 (ap (λ x. x.slba) s.1) h.cdw10-is h.cdw11-is) (alone-short z.count) none-short
said-short block admin e body (commands.Dealloc d) s h t =
    io-short _ _ _ _ _ _ (omega arith) (same-short d.nsid e.nsid (ap (λ x. x.nsid) s.1) h.nsid-is) (ranges-short (length d.ranges)) (deallocate-short d.deallocate) none-short none-short
said-short block admin e body (commands.Flush f) s h t = io-short _ _ _ _ _ _ (omega arith) (same-short f.nsid e.nsid (ap (λ x. x.nsid) s.1) h.nsid-is) none-short none-short none-short none-short
said-short block admin e body (commands.Delete d) s h t = io-short _ _ _ _ _ _ (omega arith) (same-short d.nsid e.nsid (ap (λ x. x.nsid) s.1) h.nsid-is) (omega arith) none-short none-short none-short
said-short block admin e body (commands.Status x) s h t =
    io-short _ _ _ _ _ _ (omega arith) (same-short x.nsid e.nsid (ap (λ x. x.nsid) s.1) h.nsid-is) (byte-few x.mo t.0) (numd-short x.dwords) none-short none-short
said-short block admin e body (commands.Update u) s h t =
    io-short _ _ _ _ _ _ (omega arith) (same-short u.nsid e.nsid (ap (λ x. x.nsid) s.1) h.nsid-is) (identifiers-short u.mo (length u.pids) t.0) none-short none-short none-short
said-short block admin e body (commands.Log l) s h t =
    io-short _ _ _ _ _ _ (omega arith) none-short (page-short l.lid l.lsp (numd l.dwords) t.0) (group-short (numd l.dwords) l.group (numd-short l.dwords) t.1) (low-short l.offset) (high-short l.offset e.cdw12 e.cdw13 (ap (λ x. x.offset) s.1) h.cdw12-is h.cdw13-is)
said-short block admin e body (commands.SetFdp x) s h t = io-short _ _ _ _ _ _ (omega arith) none-short (omega arith) (few-short x.group t.0) (index-short x.enable x.index t.1) none-short
said-short block admin e body (commands.GetFdp g) s h t = io-short _ _ _ _ _ _ (omega arith) none-short (omega arith) (few-short g.group t) none-short none-short
said-short block admin e body (commands.SetEvents x) s h t =
    io-short _ _ _ _ _ _ (omega arith) (same-short x.nsid e.nsid (ap (λ x. x.nsid) s.1) h.nsid-is) (omega arith) (handle-short x.handle (length x.types) t) (enable-short x.enable) none-short
said-short block admin e body (commands.Create c) s h t = absurd s
said-short block admin e body (commands.Other o) s h t =
    let opcode : o.opcode ≡ e.opcode = ap (λ x. x.opcode) s.1 in
    let feature = ap (λ x. x.feature) s.1 in
    io-short _ _ _ _ _ _ (omega (arith, opcode, h.opcode-is)) none-short (same-short o.feature _ feature (feature-short _ e.cdw10)) none-short none-short none-short

-- ---- its own frame

-- the entry that is made of a command, which fits, says it with its own data
pub record IsOwn (block : ℕ) (c : Command) : Type 0 where
  pub fits : Fits sqe (sqe_numbers (entry_made c))
  pub says : Says block (admin_made c) (entry_made c) (data_of block c) c

pub said-own : (block : ℕ) (admin : Bool) (e : Sqe) (body : List ℕ) (c : Command) → IsBlockSize block → Fits sqe (sqe_numbers e) → Says block admin e body c → IsOwn block c
said-own block admin e body c is fits says =
    let typed = said-typed block admin e body c says in
    record {
      fits = words-fit (words_of c) (said-short block admin e body c says (entry-short e fits) typed);
      says = says-made block c is (said-carried block admin e body c says) typed;
    }

pub frame-own : (block : ℕ) (frame : List ℕ) (c : Command) → IsBlockSize block → IsFrame block frame c → IsOwn block c
frame-own block frame c is f = said-own block f.front.admin f.front.entry f.body c is f.sound.fits f.says

-- ---- one entry

dealloc_work : Sqe → ℕ → Work
dealloc_work e n = record { admin = false; sqe = entry_of (io ios.DatasetManagement e.nsid (ranges_field n) (deallocate_field (is_set e.cdw11 2)) 0 0) 0 }

update_work : Sqe → ℕ → Work
update_work e n = record { admin = false; sqe = entry_of (io ios.IoManagementSend e.nsid (operation_field (bits e.cdw10 0 8) + identifiers_field n) 0 0 0) 0 }

events_work : Sqe → ℕ → Work
events_work e n = record {
  admin = true;
  sqe = entry_of (admin admins.SetFeatures e.nsid (feature_field (feature_code features.PlacementEvents)) (handle_field (bits e.cdw11 0 16) + types_field n) (enable_field (is_set e.cdw12 0)) 0) 0;
}

-- the entry that is made of what an entry of this kind says, whatever its data
made : Option Asked → Bool → Sqe → Work
made None admin e = work_of (commands.Other (other_in admin e)) 0
made (Some kinds.Write) admin e = work_of (commands.Write (write_in e (payloads.Pattern 0))) 0
made (Some kinds.Read) admin e = work_of (commands.Read (read_in e)) 0
made (Some kinds.Zero) admin e = work_of (commands.Zero (zero_in e)) 0
made (Some kinds.Dealloc) admin e = dealloc_work e (ranges_in e)
made (Some kinds.Flush) admin e = work_of (commands.Flush (flush_in e)) 0
made (Some kinds.Status) admin e = work_of (commands.Status (status_in e)) 0
made (Some kinds.Update) admin e = update_work e (pids_in e)
made (Some kinds.Log) admin e = work_of (commands.Log (log_in e)) 0
made (Some kinds.SetFdp) admin e = work_of (commands.SetFdp (set_fdp_in e)) 0
made (Some kinds.GetFdp) admin e = work_of (commands.GetFdp (get_fdp_in e)) 0
made (Some kinds.SetEvents) admin e = events_work e (types_in e)
made (Some kinds.Create) admin e = work_of (commands.Flush (flush_in e)) 0
made (Some kinds.Delete) admin e = work_of (commands.Delete (delete_in e)) 0

said-work : (block : ℕ) (admin : Bool) (e : Sqe) (body : List ℕ) (c : Command) → Says block admin e body c → work_of c 0 ≡ made (kind_of c) admin e
unfolding kind_of made dealloc_work update_work events_work
said-work block admin e body (commands.Write w) s = ap (λ x. work_of (commands.Write x) 0) s.1
said-work block admin e body (commands.Read r) s = ap (λ x. work_of (commands.Read x) 0) s.1
said-work block admin e body (commands.Zero z) s = ap (λ x. work_of (commands.Zero x) 0) s.1
said-work block admin e body (commands.Dealloc d) s = ap (λ x. work_of (commands.Dealloc x) 0) s.1 ∙ ap (dealloc_work e) s.2
said-work block admin e body (commands.Flush f) s = ap (λ x. work_of (commands.Flush x) 0) s.1
said-work block admin e body (commands.Delete d) s = ap (λ x. work_of (commands.Delete x) 0) s.1
said-work block admin e body (commands.Status t) s = ap (λ x. work_of (commands.Status x) 0) s.1
said-work block admin e body (commands.Update u) s = ap (λ x. work_of (commands.Update x) 0) s.1 ∙ ap (update_work e) s.2
said-work block admin e body (commands.Log l) s = ap (λ x. work_of (commands.Log x) 0) s.1
said-work block admin e body (commands.SetFdp t) s = ap (λ x. work_of (commands.SetFdp x) 0) s.1
said-work block admin e body (commands.GetFdp g) s = ap (λ x. work_of (commands.GetFdp x) 0) s.1
said-work block admin e body (commands.SetEvents t) s = ap (λ x. work_of (commands.SetEvents x) 0) s.1 ∙ ap (events_work e) s.2
said-work block admin e body (commands.Create c) s = absurd s
said-work block admin e body (commands.Other o) s = ap (λ x. work_of (commands.Other x) 0) s.1

-- what one entry says is of one kind
pub one_kind_said : (block : ℕ) (admin : Bool) (e : Sqe) (body other : List ℕ) (c d : Command) → Says block admin e body c → Says block admin e other d → kind_of c ≡ kind_of d
one_kind_said block admin e body other c d sc sd = one_asked admin e (kind_of c) (kind_of d) (said-kind block admin e body c sc).asks (said-kind block admin e other d sd).asks

-- and the entry that is made of it is one, whatever the data
pub one_work : (block : ℕ) (admin : Bool) (e : Sqe) (body other : List ℕ) (c d : Command) → Says block admin e body c → Says block admin e other d → work_of c 0 ≡ work_of d 0
one_work block admin e body other c d sc sd =
    said-work block admin e body c sc ∙ ap (λ (k : Option Asked). made k admin e) (one_kind_said block admin e body other c d sc sd) ∙ sym (said-work block admin e other d sd)
