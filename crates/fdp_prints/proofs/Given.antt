-- Commands that a line or a frame gives are read back from what is printed of them; of two frames with one print the commands are one.
use Rattle.std.proofs.Common.{◌≡◌, inl, inr, ℕ, zero, suc, ◌+◌, ◌*◌, ◌/◌, ◌%◌, ◌^◌, ◌<◌, Bool, true, false, List, [], ◌∷◌, ◌++◌, length, take, drop, replicate, Option, Some, Result, Ok, Err, refl, sym, ap, subst, ◌∙◌, arith, cond}
use Rattle.std.specs.Prelude.{codes, decimal, flat_map}
use Rattle.std.specs.Int.{byte_at, bytes_low_first, to_le_bytes, w16, w32}
use Rattle.std.specs.List.{AllByRecursion}
use Rattle.fdp_base.specs.declared.command.Command.{Command}
use Rattle.fdp_base.specs.declared.command.Command.TheVariants as commands
use Rattle.fdp_base.specs.declared.payload.Payload.{Payload}
use Rattle.fdp_base.specs.declared.payload.Payload.TheVariants as payloads
use Rattle.fdp_base.specs.EventCodes.{bit}
use Rattle.fdp_base.specs.Geometry.{IsBlockSize}
use Rattle.fdp_base.specs.Numbers.{numbers_below}
use Rattle.fdp_base.specs.Pattern.{pattern_block, repeated}
use Rattle.fdp_base.specs.Text.{hex_bytes}
use Rattle.fdp_layouts.specs.declared.submission.Sqe.{Sqe}
use Rattle.fdp_layouts.specs.Frame.{Field, Fits, filled, frame_of, packed, placed, size}
use Rattle.fdp_layouts.specs.Range.{dsm_range, dsm_range_numbers}
use Rattle.fdp_layouts.specs.Submission.{sqe, sqe_numbers}
use Rattle.fdp_queues.specs.declared.work.Work.{Work}
use Rattle.fdp_queues.specs.Data.{data_of, payload_data, pids_data, ranges_data, range_bytes, with_attributes}
use Rattle.fdp_queues.specs.Entry.{entry_bytes, work_of}
use Rattle.fdp_queues.proofs.Data.{length-entry}
use Rattle.fdp_binary.specs.Carrying.{admin_made, entry_made}
use Rattle.fdp_binary.specs.Fields.{blocks_in, pids_in, ranges_in, types_in}
use Rattle.fdp_binary.specs.Front.{front_bytes}
use Rattle.fdp_binary.specs.Saying.{IsPayload, Says}
use Rattle.fdp_binary.proofs.Fronts.{one_entry}
use Rattle.fdp_binary.proofs.Own.{IsOwn, frame-own, one_kind_said}
use Rattle.fdp_binary.proofs.Said.{kind_of, one_said, said-kind}
use Rattle.fdp_output.specs.CommandData.{own_lines, own_text}
use Rattle.fdp_output.specs.CommandText.{command_words, is_spelled, line_words, work_words}
use Rattle.fdp_output.specs.Output.{block_lines}
use Rattle.fdp_trace.specs.declared.fault.FaultKind.{FaultKind}
use Rattle.fdp_trace.specs.Reader.Commands.{command_of}
use Rattle.fdp_trace.proofs.Meaning.{spells_is}
use Rattle.fdp_prints.specs.Told.{AreBytes, IsFramed, IsGiven, IsSpelled}
use Rattle.fdp_prints.specs.Reader.{Words, begins_entry, block_in, bytes_in, command_in, data_read, flag, lines_in, taken}
use Rattle.fdp_prints.proofs.Data.{drop-bytes, log-back, read-back, show-bytes, take-bytes}
use Rattle.fdp_prints.proofs.Digits.{bytes-back, length-hex_bytes}
use Rattle.fdp_prints.proofs.Fields.{flag-back}
use Rattle.fdp_prints.proofs.Sizes.{bytes-append}
use Rattle.fdp_prints.proofs.Visible.{IsShown, tag}
use Rattle.fdp_prints.proofs.Words.{show-bit, show-command}

-- ---- bytes

bytes-behind : (x y : List ℕ) → AreBytes (x ++ y) → AreBytes y
bytes-behind [] y h = h
bytes-behind (b ∷ bs) y h = bytes-behind bs y h.1

byte-small : (i n : ℕ) → byte_at i n < 256
byte-small zero n = omega arith
byte-small (suc i) n = omega arith

low-bytes : (k i n : ℕ) → AreBytes (bytes_low_first i k n)
low-bytes zero i n = tt
low-bytes (suc k) i n = (byte-small i n, low-bytes k (suc i) n)

zero-bytes : (n : ℕ) → AreBytes (replicate n 0)
zero-bytes zero = tt
zero-bytes (suc n) = (omega arith, zero-bytes n)

placed-bytes : (at : ℕ) (bs xs : List ℕ) → AreBytes bs → AreBytes xs → AreBytes (placed at bs xs)
unfolding placed
placed-bytes at bs xs hb hx = bytes-append (take at xs ++ bs) (drop (at + length bs) xs) (bytes-append (take at xs) bs (take-bytes at xs hx) hb) (drop-bytes (at + length bs) xs hx)

filled-bytes : (fields : List Field) (vss : List (List ℕ)) (frame : List ℕ) → AreBytes frame → AreBytes (filled fields vss frame)
filled-bytes [] vss frame h = h
filled-bytes (f ∷ fs) [] frame h = h
filled-bytes (f ∷ fs) (vs ∷ vss) frame h =
    let bs = bytes_low_first 0 (size f) (packed f.parts vs) in
    filled-bytes fs vss (placed f.at bs frame) (placed-bytes f.at bs frame (low-bytes (size f) 0 (packed f.parts vs)) h)

pub frame-bytes : (len : ℕ) (fields : List Field) (vss : List (List ℕ)) → AreBytes (frame_of len fields vss)
frame-bytes len fields vss = filled-bytes fields vss (replicate len 0) (zero-bytes len)

repeated-bytes : (n : ℕ) (xs : List ℕ) → AreBytes xs → AreBytes (repeated n xs)
unfolding repeated
repeated-bytes zero xs h = tt
repeated-bytes (suc n) xs h = bytes-append (repeated n xs) xs (repeated-bytes n xs h) h

flat-bytes : {A : Type 0} (f : A → List ℕ) → ((a : A) → AreBytes (f a)) → (xs : List A) → AreBytes (flat_map f xs)
flat-bytes f each [] = tt
flat-bytes f each (x ∷ xs) = bytes-append (f x) (flat_map f xs) (each x) (flat-bytes f each xs)

half-bytes : (n : ℕ) → AreBytes (to_le_bytes w16 n)
half-bytes n = (omega arith, (omega arith, tt))

word-bytes : (n : ℕ) → AreBytes (to_le_bytes w32 n)
word-bytes n = (omega arith, (omega arith, (omega arith, (omega arith, tt))))

-- ---- the data of a frame of bytes are bytes

payload-bytes : (block n count : ℕ) (body : List ℕ) (payload : Payload) → IsPayload block n body payload → AreBytes body → AreBytes (payload_data block count payload)
payload-bytes block n count body (payloads.Pattern seed) is h = flat-bytes (pattern_block block seed) (λ i. repeated-bytes (block / 4) (to_le_bytes w32 ((seed + i) % 2 ^ 32)) (word-bytes ((seed + i) % 2 ^ 32))) (numbers_below count)
payload-bytes block n count body (payloads.Bytes bytes) is h = subst AreBytes (sym is.0) h

pub data-bytes : (block : ℕ) (admin : Bool) (e : Sqe) (body : List ℕ) (c : Command) → Says block admin e body c → AreBytes body → AreBytes (data_of block c)
data-bytes block admin e body (commands.Write w) s h = payload-bytes block (blocks_in e) w.count body w.payload s.3 h
data-bytes block admin e body (commands.Read r) s h = tt
data-bytes block admin e body (commands.Zero z) s h = tt
data-bytes block admin e body (commands.Dealloc d) s h = flat-bytes (λ range. range_bytes (with_attributes 0 range)) (λ range. frame-bytes 16 dsm_range (dsm_range_numbers (with_attributes 0 range))) d.ranges
data-bytes block admin e body (commands.Flush f) s h = tt
data-bytes block admin e body (commands.Delete d) s h = tt
data-bytes block admin e body (commands.Status t) s h = tt
data-bytes block admin e body (commands.Update u) s h = flat-bytes (to_le_bytes w16) half-bytes u.pids
data-bytes block admin e body (commands.Log l) s h = tt
data-bytes block admin e body (commands.SetFdp t) s h = tt
data-bytes block admin e body (commands.GetFdp g) s h = tt
data-bytes block admin e body (commands.SetEvents t) s h = subst AreBytes s.3 h
data-bytes block admin e body (commands.Create x) s h = tt
data-bytes block admin e body (commands.Other o) s h = tt

-- the entry that is made of a command, and its data in bytes, are a frame of it
pub record IsWhole (block : ℕ) (c : Command) : Type 0 where
  pub own : IsOwn block c
  pub bytes : AreBytes (data_of block c)

pub frame-whole : (block : ℕ) (c : Command) → IsBlockSize block → IsFramed block c → IsWhole block c
frame-whole block c is f =
    let body = bytes-behind (front_bytes f.says.front) f.says.body (subst AreBytes f.says.whole f.bytes) in
    record {
      own = frame-own block f.frame c is f.says;
      bytes = data-bytes block f.says.front.admin f.says.front.entry f.says.body c f.says.says body;
    }

-- ---- the data are read back from their lines

write-back : (block n count : ℕ) (x r : List ℕ) → IsBlockSize block → count ≡ n → length x ≡ n * block → AreBytes x → lines_in block_in block n (n * block) (block_lines count x ++ r) ≡ x
write-back block n count x r is same size h =
    ap (λ (k : ℕ). lines_in block_in block n (n * block) (block_lines k x ++ r)) same ∙ read-back block n x r is size h

pub data-back : (block : ℕ) (c : Command) (r : List ℕ) → IsBlockSize block → IsWhole block c → data_read block (kind_of c) (entry_made c) (own_lines block c ++ r) ≡ data_of block c
unfolding kind_of
data-back block (commands.Write w) r is h =
    write-back block (blocks_in (entry_made (commands.Write w))) w.count (payload_data block w.count w.payload) r is (ap (λ x. x.count) h.own.says.1) h.own.says.2 h.bytes
data-back block (commands.Read x) r is h = refl
data-back block (commands.Zero z) r is h = refl
data-back block (commands.Dealloc d) r is h =
    log-back (16 * ranges_in (entry_made (commands.Dealloc d))) (ranges_data d.ranges) r (said-kind block false (entry_made (commands.Dealloc d)) (ranges_data d.ranges) (commands.Dealloc d) h.own.says).sized h.bytes
data-back block (commands.Flush f) r is h = refl
data-back block (commands.Delete d) r is h = refl
data-back block (commands.Status s) r is h = refl
data-back block (commands.Update u) r is h =
    log-back (2 * pids_in (entry_made (commands.Update u))) (pids_data u.pids) r (said-kind block false (entry_made (commands.Update u)) (pids_data u.pids) (commands.Update u) h.own.says).sized h.bytes
data-back block (commands.Log l) r is h = refl
data-back block (commands.SetFdp s) r is h = refl
data-back block (commands.GetFdp g) r is h = refl
data-back block (commands.SetEvents s) r is h = log-back (types_in (entry_made (commands.SetEvents s))) s.types r h.own.says.2 h.bytes
data-back block (commands.Create c) r is h = absurd h.own.says
data-back block (commands.Other o) r is h = refl

-- ---- the words of an entry tell it

head_of : Words → List ℕ
head_of [] = []
head_of (w ∷ ws) = w

flag_by : Result (Bool × Words) FaultKind → Bool
flag_by (Ok x) = x.0
flag_by (Err kind) = false

same-bit : (a b : Bool) → decimal (bit a) ≡ decimal (bit b) → a ≡ b
unfolding flag_by
same-bit a b e = ap flag_by (sym (flag-back a []) ∙ ap (λ (w : List ℕ). flag (w ∷ [])) e ∙ flag-back b [])

pub entry-digits : (e : Sqe) → bytes_in 64 (hex_bytes (entry_bytes e)) ≡ entry_bytes e
entry-digits e = ap (λ (n : ℕ). bytes_in n (hex_bytes (entry_bytes e))) (sym (length-entry e)) ∙ bytes-back (entry_bytes e) (frame-bytes 64 sqe (sqe_numbers e))

pub work-one : (v w : Work) → Fits sqe (sqe_numbers v.sqe) → Fits sqe (sqe_numbers w.sqe) → work_words v ≡ work_words w → v ≡ w
unfolding head_of
work-one v w fv fw e =
    let a : v.admin ≡ w.admin = same-bit v.admin w.admin (ap (λ (ws : Words). head_of (drop 1 ws)) e) in
    let digits : hex_bytes (entry_bytes v.sqe) ≡ hex_bytes (entry_bytes w.sqe) = ap (λ (ws : Words). head_of (drop 2 ws)) e in
    let bytes : entry_bytes v.sqe ≡ entry_bytes w.sqe = sym (entry-digits v.sqe) ∙ ap (bytes_in 64) digits ∙ entry-digits w.sqe in
    let q : v.sqe ≡ w.sqe = one_entry v.sqe w.sqe fv fw bytes in
    λ i. record { admin = a i; sqe = q i }

-- ---- entry and data tell the command

pub same-said : (block : ℕ) (a b : Command) → IsWhole block a → work_of a 0 ≡ work_of b 0 → Says block (admin_made b) (entry_made b) (data_of block a) a
same-said block a b ha same = subst (λ (w : Work). Says block w.admin w.sqe (data_of block a) a) same ha.own.says

pub given-one : (block : ℕ) (a b : Command) → IsBlockSize block → IsWhole block a → IsWhole block b → work_of a 0 ≡ work_of b 0 → data_of block a ≡ data_of block b → a ≡ b
given-one block a b is ha hb work body =
    one_said block (admin_made b) (entry_made b) (data_of block b) a b is (subst (λ (t : List ℕ). Says block (admin_made b) (entry_made b) t a) body (same-said block a b ha work)) hb.own.says

pub whole-one : (block : ℕ) (a b : Command) (r s : List ℕ) → IsBlockSize block → IsWhole block a → IsWhole block b → work_words (work_of a 0) ≡ work_words (work_of b 0) → own_lines block a ++ r ≡ own_lines block b ++ s → a ≡ b
whole-one block a b r s is ha hb words lines =
    let work = work-one (work_of a 0) (work_of b 0) ha.own.fits hb.own.fits words in
    let kind = one_kind_said block (admin_made b) (entry_made b) (data_of block a) (data_of block b) a b (same-said block a b ha work) hb.own.says in
    let entry : entry_made a ≡ entry_made b = ap (λ (w : Work). w.sqe) work in
    let body : data_of block a ≡ data_of block b =
    sym (data-back block a r is ha) ∙ (λ i. data_read block (kind i) (entry i) (lines i)) ∙ data-back block b s is hb in
    given-one block a b is ha hb work body

pub frame-one : (block : ℕ) (a b : Command) → IsBlockSize block → IsFramed block a → IsFramed block b → work_words (work_of a 0) ≡ work_words (work_of b 0) → own_lines block a ≡ own_lines block b → a ≡ b
frame-one block a b is fa fb words lines = whole-one block a b [] [] is (frame-whole block a is fa) (frame-whole block b is fb) words (ap (λ (t : List ℕ). t ++ []) lines)

-- ---- the words of a command

abbrev made_words : Command → Words
made_words command = work_words (work_of command 0)

pub spelled-words : (command : Command) → IsSpelled command → command_words command ≡ line_words command
spelled-words command h = ap (λ b. cond b (line_words command) (made_words command)) h.line

pub framed-words : (block : ℕ) (command : Command) → IsFramed block command → command_words command ≡ work_words (work_of command 0)
framed-words block command h = ap (λ b. cond b (line_words command) (made_words command)) h.line

-- a command that a line spells carries no data
pub no-data : (block : ℕ) (command : Command) → IsSpelled command → own_text block command ≡ []
no-data block command h = ap (λ b. cond b [] (own_lines block command)) h.line

pub own-data : (block : ℕ) (command : Command) → IsFramed block command → own_text block command ≡ own_lines block command
own-data block command h = ap (λ b. cond b [] (own_lines block command)) h.line

pub show-work : (work : Work) → AllByRecursion IsShown (work_words work)
show-work work =
    (tag (codes "entry") (omega arith) refl, (show-bit work.admin, (record { some = omega (arith, length-hex_bytes (entry_bytes work.sqe), length-entry work.sqe); shows = show-bytes (entry_bytes work.sqe) }, tt)))

pub show-given : (block : ℕ) (command : Command) → IsGiven block command → AllByRecursion IsShown (command_words command)
show-given block command (inl spelled) = subst (AllByRecursion IsShown) (sym (spelled-words command spelled)) (show-command command spelled)
show-given block command (inr framed) = subst (AllByRecursion IsShown) (sym (framed-words block command framed)) (show-work (work_of command 0))

-- no line of a trace begins as an entry
no-entry : (command : Command) → is_spelled command ≡ true → begins_entry (line_words command) ≡ false
no-entry (commands.Write w) e = refl
no-entry (commands.Read r) e = refl
no-entry (commands.Zero z) e = refl
no-entry (commands.Dealloc d) e = refl
no-entry (commands.Flush f) e = refl
no-entry (commands.Delete d) e = refl
no-entry (commands.Status s) e = refl
no-entry (commands.Update u) e = refl
no-entry (commands.Log l) e = refl
no-entry (commands.SetFdp s) e = refl
no-entry (commands.GetFdp g) e = refl
no-entry (commands.SetEvents s) e = refl
no-entry (commands.Create c) e = refl
no-entry (commands.Other o) e = absurd cc

-- a command is given where no line spells it
abbrev pub IsGivenFor : Option Command → Command → Type 0
IsGivenFor given command = is_spelled command ≡ false → given ≡ Some command

spelled-back : (given : Option Command) (command : Command) → IsSpelled command → command_in given (command_words command) ≡ Ok command
unfolding command_in
spelled-back given command h =
    ap (command_in given) (spelled-words command h) ∙ ap (λ b. cond b (taken given) (command_of (line_words command))) (no-entry command h.line) ∙ spells_is (line_words command) command h.says

pub command-back : (block : ℕ) (given : Option Command) (command : Command) → IsGiven block command → IsGivenFor given command → command_in given (command_words command) ≡ Ok command
unfolding command_in
command-back block given command (inl spelled) for' = spelled-back given command spelled
command-back block given command (inr framed) for' = ap (command_in given) (framed-words block command framed) ∙ ap taken (for' framed.line)

ok-is : (a b : Command) → ◌≡◌ {A = Result Command FaultKind} (Ok a) (Ok b) → a ≡ b
ok-is a b e = cc

-- what is printed of a command, with its data, tells it
pub words-one : (block : ℕ) (a b : Command) (r s : List ℕ) → IsBlockSize block → IsGiven block a → IsGiven block b → command_words a ≡ command_words b → own_text block a ++ r ≡ own_text block b ++ s → a ≡ b
words-one block a b r s is (inl sa) hb words lines =
    ok-is a b (sym (spelled-back (Some b) a sa) ∙ ap (command_in (Some b)) words ∙ command-back block (Some b) b hb (λ line. refl))
words-one block a b r s is (inr fa) (inl sb) words lines =
    ok-is a b (sym (command-back block (Some a) a (inr fa) (λ line. refl)) ∙ ap (command_in (Some a)) words ∙ spelled-back (Some a) b sb)
words-one block a b r s is (inr fa) (inr fb) words lines =
    whole-one block a b r s is (frame-whole block a is fa) (frame-whole block b is fb)
    (sym (framed-words block a fa) ∙ words ∙ framed-words block b fb)
    (ap (λ (t : List ℕ). t ++ r) (sym (own-data block a fa)) ∙ lines ∙ ap (λ (t : List ℕ). t ++ s) (own-data block b fb))
