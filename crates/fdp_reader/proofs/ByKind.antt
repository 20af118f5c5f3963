-- What the kind of an entry tells of the command that it says: its lines of data, and whether a line spells it.
use Rattle.std.proofs.Common.{◌≡◌, ℕ, zero, suc, ◌+◌, ◌*◌, ◌^◌, ◌<◌, ◌≤◌, Bool, true, false, ◌&&◌, List, [], ◌∷◌, ◌++◌, length, take, Option, Some, None, refl, sym, ap, subst, ◌∙◌, arith}
use Rattle.std.specs.Prelude.{flat_map, ◌==◌}
use Rattle.std.specs.Int.{to_le_bytes, w16}
use Rattle.std.specs.List.{AllZip}
use Rattle.std.proofs.lemmas.List.{length-append, length-take}
use Rattle.fdp_base.specs.declared.command.Command.{Command}
use Rattle.fdp_base.specs.declared.command.Command.TheVariants as commands
use Rattle.fdp_base.specs.declared.command.Range.{Range}
use Rattle.fdp_base.specs.declared.config.DriveConfig.{DriveConfig}
use Rattle.fdp_base.specs.declared.payload.Payload.{Payload}
use Rattle.fdp_base.specs.declared.payload.Payload.TheVariants as payloads
use Rattle.fdp_base.specs.declared.codes.SendOperation.TheVariants as sends
use Rattle.fdp_base.specs.Codes.{send_code}
use Rattle.fdp_base.specs.Geometry.{IsBlockSize}
use Rattle.fdp_layouts.specs.declared.submission.Sqe.{Sqe}
use Rattle.fdp_queues.specs.Data.{data_of, payload_data, pattern, pids_data, range_bytes, ranges_data, with_attributes}
use Rattle.fdp_queues.proofs.Data.{length-range}
use Rattle.fdp_binary.specs.declared.asked.Asked.{Asked}
use Rattle.fdp_binary.specs.declared.asked.Asked.TheVariants as asks
use Rattle.fdp_binary.specs.Asked.{data_in}
use Rattle.fdp_binary.specs.Fields.{bits, blocks_in, get_fdp_in, is_set, log_in, pids_in, ranges_in, read_in, set_fdp_in, status_in, types_in, zero_in}
use Rattle.fdp_binary.specs.Saying.{AreLaid, IsPayload, IsPid, IsRange, Says}
use Rattle.fdp_binary.proofs.Blocks.{block-from}
use Rattle.fdp_binary.proofs.Fronts.{one_range}
use Rattle.fdp_binary.proofs.Laid.{same-front}
use Rattle.fdp_binary.proofs.Made.{range-size}
use Rattle.fdp_binary.proofs.Own.{one_kind_said}
use Rattle.fdp_binary.proofs.Said.{kind_of}
use Rattle.fdp_output.specs.CommandData.{own_lines}
use Rattle.fdp_output.specs.CommandText.{is_amount, is_count, is_directive, is_pattern, is_spelled}
use Rattle.fdp_output.specs.Output.{block_lines, data_lines, data_text}
use Rattle.fdp_prints.specs.Told.{AreBytes, data_size}
use Rattle.fdp_prints.specs.Reader.{data_read}
use Rattle.fdp_prints.proofs.Sizes.{blocks-sized, rows-sized}
use Rattle.fdp_reader.proofs.Agree.{Agree, agree-none, take-behind}

-- ---- lines

unfoldable pub lines_by : Option Asked → ℕ → List ℕ → List ℕ
lines_by None count bytes = []
lines_by (Some asks.Write) count bytes = block_lines count bytes
lines_by (Some asks.Read) count bytes = []
lines_by (Some asks.Zero) count bytes = []
lines_by (Some asks.Dealloc) count bytes = data_lines bytes
lines_by (Some asks.Flush) count bytes = []
lines_by (Some asks.Status) count bytes = []
lines_by (Some asks.Update) count bytes = data_lines bytes
lines_by (Some asks.Log) count bytes = []
lines_by (Some asks.SetFdp) count bytes = []
lines_by (Some asks.GetFdp) count bytes = []
lines_by (Some asks.SetEvents) count bytes = data_lines bytes
lines_by (Some asks.Create) count bytes = []
lines_by (Some asks.Delete) count bytes = []

pub own-by : (block : ℕ) (admin : Bool) (e : Sqe) (body : List ℕ) (c : Command) → Says block admin e body c → own_lines block c ≡ lines_by (kind_of c) (blocks_in e) (data_of block c)
unfolding kind_of lines_by
own-by block admin e body (commands.Write w) s = ap (λ (n : ℕ). block_lines n (payload_data block w.count w.payload)) (ap (λ x. x.count) s.1)
own-by block admin e body (commands.Read r) s = refl
own-by block admin e body (commands.Zero z) s = refl
own-by block admin e body (commands.Dealloc d) s = refl
own-by block admin e body (commands.Flush f) s = refl
own-by block admin e body (commands.Delete d) s = refl
own-by block admin e body (commands.Status t) s = refl
own-by block admin e body (commands.Update u) s = refl
own-by block admin e body (commands.Log l) s = refl
own-by block admin e body (commands.SetFdp t) s = refl
own-by block admin e body (commands.GetFdp g) s = refl
own-by block admin e body (commands.SetEvents t) s = refl
own-by block admin e body (commands.Create c) s = absurd s
own-by block admin e body (commands.Other o) s = refl

-- a command that carries data answers none; another one carries none
pub record IsBare (c : Command) : Type 0 where
  pub lines : (block : ℕ) → own_lines block c ≡ []
  pub read : (block : ℕ) (e : Sqe) (text : List ℕ) → data_read block (kind_of c) e text ≡ []
  pub none : (block : ℕ) → data_of block c ≡ []

unfoldable pub carries : Option Asked → Bool
carries None = false
carries (Some asks.Write) = true
carries (Some asks.Read) = false
carries (Some asks.Zero) = false
carries (Some asks.Dealloc) = true
carries (Some asks.Flush) = false
carries (Some asks.Status) = false
carries (Some asks.Update) = true
carries (Some asks.Log) = false
carries (Some asks.SetFdp) = false
carries (Some asks.GetFdp) = false
carries (Some asks.SetEvents) = true
carries (Some asks.Create) = false
carries (Some asks.Delete) = false

pub no-answer : (c : Command) (bytes : List ℕ) → carries (kind_of c) ≡ true → data_text c bytes ≡ []
unfolding kind_of carries
no-answer (commands.Write w) bytes e = refl
no-answer (commands.Read r) bytes e = absurd cc
no-answer (commands.Zero z) bytes e = absurd cc
no-answer (commands.Dealloc d) bytes e = refl
no-answer (commands.Flush f) bytes e = absurd cc
no-answer (commands.Delete d) bytes e = absurd cc
no-answer (commands.Status t) bytes e = absurd cc
no-answer (commands.Update u) bytes e = refl
no-answer (commands.Log l) bytes e = absurd cc
no-answer (commands.SetFdp t) bytes e = absurd cc
no-answer (commands.GetFdp g) bytes e = absurd cc
no-answer (commands.SetEvents t) bytes e = refl
no-answer (commands.Create c) bytes e = absurd cc
no-answer (commands.Other o) bytes e = absurd cc

-- and it asks for no bytes
pub no-size : (config : DriveConfig) (c : Command) → carries (kind_of c) ≡ true → data_size config c ≡ 0
unfolding kind_of carries
no-size config (commands.Write x) e = refl
no-size config (commands.Read x) e = absurd cc
no-size config (commands.Zero x) e = absurd cc
no-size config (commands.Dealloc x) e = refl
no-size config (commands.Flush x) e = absurd cc
no-size config (commands.Delete x) e = absurd cc
no-size config (commands.Status x) e = absurd cc
no-size config (commands.Update x) e = refl
no-size config (commands.Log x) e = absurd cc
no-size config (commands.SetFdp x) e = absurd cc
no-size config (commands.GetFdp x) e = absurd cc
no-size config (commands.SetEvents x) e = refl
no-size config (commands.Create x) e = absurd cc
no-size config (commands.Other x) e = absurd cc

bare : (c : Command) → ((block : ℕ) → own_lines block c ≡ []) → ((block : ℕ) (e : Sqe) (text : List ℕ) → data_read block (kind_of c) e text ≡ []) → ((block : ℕ) → data_of block c ≡ []) → IsBare c
bare c l r d = record { lines = l; read = r; none = d }

pub bare-by : (c : Command) → carries (kind_of c) ≡ false → IsBare c
unfolding kind_of carries
bare-by (commands.Write w) e = absurd cc
bare-by (commands.Read r) e = bare (commands.Read r) (λ block. refl) (λ block e text. refl) (λ block. refl)
bare-by (commands.Zero z) e = bare (commands.Zero z) (λ block. refl) (λ block e text. refl) (λ block. refl)
bare-by (commands.Dealloc d) e = absurd cc
bare-by (commands.Flush f) e = bare (commands.Flush f) (λ block. refl) (λ block e text. refl) (λ block. refl)
bare-by (commands.Delete d) e = bare (commands.Delete d) (λ block. refl) (λ block e text. refl) (λ block. refl)
bare-by (commands.Status t) e = bare (commands.Status t) (λ block. refl) (λ block e text. refl) (λ block. refl)
bare-by (commands.Update u) e = absurd cc
bare-by (commands.Log l) e = bare (commands.Log l) (λ block. refl) (λ block e text. refl) (λ block. refl)
bare-by (commands.SetFdp t) e = bare (commands.SetFdp t) (λ block. refl) (λ block e text. refl) (λ block. refl)
bare-by (commands.GetFdp g) e = bare (commands.GetFdp g) (λ block. refl) (λ block e text. refl) (λ block. refl)
bare-by (commands.SetEvents t) e = absurd cc
bare-by (commands.Create c) e = bare (commands.Create c) (λ block. refl) (λ block e text. refl) (λ block. refl)
bare-by (commands.Other o) e = bare (commands.Other o) (λ block. refl) (λ block e text. refl) (λ block. refl)

-- ---- data

one-payload : (block n m : ℕ) (x y : List ℕ) (payload : Payload) → IsPayload block n x payload → IsPayload block n y payload → x ≡ y
one-payload block n m x y (payloads.Pattern seed) hx hy = hx.1 ∙ sym hy.1
one-payload block n m x y (payloads.Bytes bytes) hx hy = sym hx.0 ∙ hy.0

laid-pids : (pieces : List (List ℕ)) (pids : List ℕ) → AllZip IsPid pieces pids → flat_map (λ (p : List ℕ). p) pieces ≡ pids_data pids
laid-pids [] [] each = refl
laid-pids [] (n ∷ ns) each = absurd each
laid-pids (p ∷ ps) [] each = absurd each
laid-pids (p ∷ ps) (n ∷ ns) each = ap (λ (t : List ℕ). t ++ flat_map (λ (q : List ℕ). q) ps) each.0.1 ∙ ap (λ (t : List ℕ). to_le_bytes w16 n ++ t) (laid-pids ps ns each.1)

-- data with which an entry says one command are one; but for what a range ignores
pub one-data : (block : ℕ) (admin : Bool) (e : Sqe) (x y : List ℕ) (c : Command) → (kind_of c ≡ Some asks.Dealloc → ⊥) → Says block admin e x c → Says block admin e y c → x ≡ y
unfolding kind_of
one-data block admin e x y (commands.Write w) other hx hy = one-payload block (blocks_in e) 0 x y w.payload hx.3 hy.3
one-data block admin e x y (commands.Read r) other hx hy = hx.2 ∙ sym hy.2
one-data block admin e x y (commands.Zero z) other hx hy = hx.2 ∙ sym hy.2
one-data block admin e x y (commands.Dealloc d) other hx hy = absurd (other refl)
one-data block admin e x y (commands.Flush f) other hx hy = hx.2 ∙ sym hy.2
one-data block admin e x y (commands.Delete d) other hx hy = hx.2 ∙ sym hy.2
one-data block admin e x y (commands.Status t) other hx hy = hx.2 ∙ sym hy.2
one-data block admin e x y (commands.Update u) other hx hy = hx.3.whole ∙ laid-pids hx.3.pieces u.pids hx.3.each ∙ sym (laid-pids hy.3.pieces u.pids hy.3.each) ∙ sym hy.3.whole
one-data block admin e x y (commands.Log l) other hx hy = hx.2 ∙ sym hy.2
one-data block admin e x y (commands.SetFdp t) other hx hy = hx.2 ∙ sym hy.2
one-data block admin e x y (commands.GetFdp g) other hx hy = hx.2 ∙ sym hy.2
one-data block admin e x y (commands.SetEvents t) other hx hy = hx.3 ∙ sym hy.3
one-data block admin e x y (commands.Create c) other hx hy = absurd hx
one-data block admin e x y (commands.Other o) other hx hy = hx.2 ∙ sym hy.2

-- ---- ranges

same-range : (p : List ℕ) (r s : Range) → IsRange p r → IsRange p s → r ≡ s
same-range p r s hr hs =
    let same = one_range (with_attributes hr.0 r) (with_attributes hs.0 s) hr.1 hs.1 (sym hr.2 ∙ hs.2) in
    let l = ap (λ x. x.length) same in
    let a = ap (λ x. x.slba) same in
    λ i. record { slba = a i; length = l i }

abbrev whole : List (List ℕ) → List ℕ
whole pieces = flat_map (λ (p : List ℕ). p) pieces

abbrev plain : Range → List ℕ
plain r = range_bytes (with_attributes 0 r)

sixteen : (p a : List ℕ) (m : ℕ) → length p ≡ 16 → take (16 * suc m) (p ++ a) ≡ p ++ take (16 * m) a
sixteen p a m size = let all : 16 * suc m ≡ length p + 16 * m = omega (arith, size) in ap (λ (k : ℕ). take k (p ++ a)) all ∙ take-behind p a (16 * m)

no-nil : (p a : List ℕ) (m : ℕ) → length p ≡ 16 → take (16 * suc m) (p ++ a) ≡ take (16 * suc m) [] → ⊥
no-nil p a m size e = omega (arith, ap (λ (t : List ℕ). length t) (sym (sixteen p a m size) ∙ e), length-append p (take (16 * m) a), length-take {A = ℕ} (16 * suc m) [], size)

ranges-by : (m : ℕ) (ps : List (List ℕ)) (gs : List Range) (qs : List (List ℕ)) (rs : List Range) → AllZip IsRange ps gs → AllZip IsRange qs rs → Agree (16 * m) (whole ps) (whole qs) → Agree (16 * m) (ranges_data gs) (ranges_data rs)
ranges-by zero ps gs qs rs hp hq agree = agree-none 16 (ranges_data gs) (ranges_data rs)
ranges-by (suc m) [] [] [] [] hp hq agree = refl
ranges-by (suc m) [] [] (q ∷ qs) (r ∷ rs) hp hq agree = absurd (no-nil q (whole qs) m (range-size q r hq.0) (sym agree))
ranges-by (suc m) (p ∷ ps) (g ∷ gs) [] [] hp hq agree = absurd (no-nil p (whole ps) m (range-size p g hp.0) agree)
ranges-by (suc m) (p ∷ ps) (g ∷ gs) (q ∷ qs) (r ∷ rs) hp hq agree =
    let sp = range-size p g hp.0 in
    let sq = range-size q r hq.0 in
    let cut = same-front p q (take (16 * m) (whole ps)) (take (16 * m) (whole qs)) (sp ∙ sym sq) (sym (sixteen p (whole ps) m sp) ∙ agree ∙ sixteen q (whole qs) m sq) in
    let one : g ≡ r = same-range q g r (subst (λ (t : List ℕ). IsRange t g) cut.0 hp.0) hq.0 in
    let rest = ranges-by m ps gs qs rs hp.1 hq.1 cut.1 in
    sixteen (plain g) (ranges_data gs) m (length-range (with_attributes 0 g)) ∙ ap (λ (x : Range). plain x ++ take (16 * m) (ranges_data gs)) one ∙ ap (λ (t : List ℕ). plain r ++ t) rest
    ∙ sym (sixteen (plain r) (ranges_data rs) m (length-range (with_attributes 0 r)))
ranges-by (suc m) [] (g ∷ gs) qs rs hp hq agree = absurd hp
ranges-by (suc m) (p ∷ ps) [] qs rs hp hq agree = absurd hp
ranges-by (suc m) [] [] [] (r ∷ rs) hp hq agree = absurd hq
ranges-by (suc m) [] [] (q ∷ qs) [] hp hq agree = absurd hq
ranges-by (suc m) (p ∷ ps) (g ∷ gs) [] (r ∷ rs) hp hq agree = absurd hq
ranges-by (suc m) (p ∷ ps) (g ∷ gs) (q ∷ qs) [] hp hq agree = absurd hq

-- the ranges of a command whose entry asks for a deallocation
record HasRanges (block : ℕ) (body : List ℕ) (c : Command) : Type 0 where
  ranges : List Range
  laid : AreLaid IsRange body ranges
  are : data_of block c ≡ ranges_data ranges

has-ranges : (block : ℕ) (admin : Bool) (e : Sqe) (body : List ℕ) (c : Command) → kind_of c ≡ Some asks.Dealloc → Says block admin e body c → HasRanges block body c
unfolding kind_of
has-ranges block admin e body (commands.Dealloc d) kind s = record { ranges = d.ranges; laid = s.3; are = refl }
has-ranges block admin e body (commands.Write w) kind s = absurd cc
has-ranges block admin e body (commands.Read r) kind s = absurd cc
has-ranges block admin e body (commands.Zero z) kind s = absurd cc
has-ranges block admin e body (commands.Flush f) kind s = absurd cc
has-ranges block admin e body (commands.Delete d) kind s = absurd cc
has-ranges block admin e body (commands.Status t) kind s = absurd cc
has-ranges block admin e body (commands.Update u) kind s = absurd cc
has-ranges block admin e body (commands.Log l) kind s = absurd cc
has-ranges block admin e body (commands.SetFdp t) kind s = absurd cc
has-ranges block admin e body (commands.GetFdp g) kind s = absurd cc
has-ranges block admin e body (commands.SetEvents t) kind s = absurd cc
has-ranges block admin e body (commands.Create c) kind s = absurd cc
has-ranges block admin e body (commands.Other o) kind s = absurd cc

-- the ranges of commands agree so far as data agree that say them
pub ranges-agree : (block : ℕ) (admin : Bool) (e f : Sqe) (x y : List ℕ) (m : ℕ) (c d : Command) → kind_of c ≡ Some asks.Dealloc → kind_of d ≡ Some asks.Dealloc → Says block admin e x c → Says block admin f y d → Agree (16 * m) x y
    → Agree (16 * m) (data_of block c) (data_of block d)
ranges-agree block admin e f x y m c d hc hd sx sy agree =
    let a = has-ranges block admin e x c hc sx in
    let b = has-ranges block admin f y d hd sy in
    ap (take (16 * m)) a.are
    ∙ ranges-by m a.laid.pieces a.ranges b.laid.pieces b.ranges a.laid.each b.laid.each (sym (ap (take (16 * m)) a.laid.whole) ∙ agree ∙ ap (take (16 * m)) b.laid.whole)
    ∙ sym (ap (take (16 * m)) b.are)

-- ---- sizes

pub read-bytes : (block : ℕ) (asked : Option Asked) (e : Sqe) (text : List ℕ) → IsBlockSize block → AreBytes (data_read block asked e text)
read-bytes block None e text is = tt
read-bytes block (Some asks.Write) e text is = (blocks-sized block (blocks_in e) text is).bytes_are
read-bytes block (Some asks.Read) e text is = tt
read-bytes block (Some asks.Zero) e text is = tt
read-bytes block (Some asks.Dealloc) e text is = (rows-sized (16 * ranges_in e) text).bytes_are
read-bytes block (Some asks.Flush) e text is = tt
read-bytes block (Some asks.Status) e text is = tt
read-bytes block (Some asks.Update) e text is = (rows-sized (2 * pids_in e) text).bytes_are
read-bytes block (Some asks.Log) e text is = tt
read-bytes block (Some asks.SetFdp) e text is = tt
read-bytes block (Some asks.GetFdp) e text is = tt
read-bytes block (Some asks.SetEvents) e text is = (rows-sized (types_in e) text).bytes_are
read-bytes block (Some asks.Create) e text is = tt
read-bytes block (Some asks.Delete) e text is = tt

pub read-size : (block : ℕ) (asked : Option Asked) (e : Sqe) (text : List ℕ) → IsBlockSize block → length (data_read block asked e text) ≡ data_in block asked e
read-size block None e text is = refl
read-size block (Some asks.Write) e text is = (blocks-sized block (blocks_in e) text is).count
read-size block (Some asks.Read) e text is = refl
read-size block (Some asks.Zero) e text is = refl
read-size block (Some asks.Dealloc) e text is = (rows-sized (16 * ranges_in e) text).count
read-size block (Some asks.Flush) e text is = refl
read-size block (Some asks.Status) e text is = refl
read-size block (Some asks.Update) e text is = (rows-sized (2 * pids_in e) text).count
read-size block (Some asks.Log) e text is = refl
read-size block (Some asks.SetFdp) e text is = refl
read-size block (Some asks.GetFdp) e text is = refl
read-size block (Some asks.SetEvents) e text is = (rows-sized (types_in e) text).count
read-size block (Some asks.Create) e text is = refl
read-size block (Some asks.Delete) e text is = refl

blocks-short : (block : ℕ) (e : Sqe) → IsBlockSize block → blocks_in e * block < 2 ^ 32
blocks-short block e is = let n : blocks_in e ≤ 65536 = omega arith in short (blocks_in e) n where
  short : (n : ℕ) → n ≤ 65536 → n * block < 2 ^ 32
  short n le = block-from (λ (b : ℕ). n * b < 2 ^ 32) block is (omega (arith, le)) (omega (arith, le))

pub data-short : (block : ℕ) (asked : Option Asked) (e : Sqe) → IsBlockSize block → data_in block asked e < 2 ^ 32
data-short block None e is = omega arith
data-short block (Some asks.Write) e is = blocks-short block e is
data-short block (Some asks.Read) e is = omega arith
data-short block (Some asks.Zero) e is = omega arith
data-short block (Some asks.Dealloc) e is = omega arith
data-short block (Some asks.Flush) e is = omega arith
data-short block (Some asks.Status) e is = omega arith
data-short block (Some asks.Update) e is = omega arith
data-short block (Some asks.Log) e is = omega arith
data-short block (Some asks.SetFdp) e is = omega arith
data-short block (Some asks.GetFdp) e is = omega arith
data-short block (Some asks.SetEvents) e is = omega arith
data-short block (Some asks.Create) e is = omega arith
data-short block (Some asks.Delete) e is = omega arith

-- ---- spelled or not

spelled_by : Option Asked → Sqe → Bool
spelled_by None e = false
spelled_by (Some asks.Write) e = false
spelled_by (Some asks.Read) e = is_spelled (commands.Read (read_in e))
spelled_by (Some asks.Zero) e = is_spelled (commands.Zero (zero_in e))
spelled_by (Some asks.Dealloc) e = is_set e.cdw11 2 && is_count 1 256 (ranges_in e)
spelled_by (Some asks.Flush) e = true
spelled_by (Some asks.Status) e = is_spelled (commands.Status (status_in e))
spelled_by (Some asks.Update) e = (bits e.cdw10 0 8 == send_code sends.HandleUpdate) && is_count 1 256 (pids_in e)
spelled_by (Some asks.Log) e = is_spelled (commands.Log (log_in e))
spelled_by (Some asks.SetFdp) e = is_spelled (commands.SetFdp (set_fdp_in e))
spelled_by (Some asks.GetFdp) e = is_spelled (commands.GetFdp (get_fdp_in e))
spelled_by (Some asks.SetEvents) e = is_count 1 6 (types_in e)
spelled_by (Some asks.Create) e = true
spelled_by (Some asks.Delete) e = true

-- whether a line spells what an entry says follows from the entry alone; but for a write
said-spelled : (block : ℕ) (admin : Bool) (e : Sqe) (body : List ℕ) (c : Command) → (kind_of c ≡ Some asks.Write → ⊥) → Says block admin e body c → is_spelled c ≡ spelled_by (kind_of c) e
unfolding kind_of spelled_by
said-spelled block admin e body (commands.Write w) other s = absurd (other refl)
said-spelled block admin e body (commands.Read r) other s = ap (λ x. is_spelled (commands.Read x)) s.1
said-spelled block admin e body (commands.Zero z) other s = ap (λ x. is_spelled (commands.Zero x)) s.1
said-spelled block admin e body (commands.Dealloc d) other s =
    ap (λ x. is_spelled (commands.Dealloc x)) s.1 ∙ ap (λ (n : ℕ). is_set e.cdw11 2 && is_count 1 256 n) s.2
said-spelled block admin e body (commands.Flush f) other s = refl
said-spelled block admin e body (commands.Delete d) other s = refl
said-spelled block admin e body (commands.Status t) other s = ap (λ x. is_spelled (commands.Status x)) s.1
said-spelled block admin e body (commands.Update u) other s =
    ap (λ x. is_spelled (commands.Update x)) s.1 ∙ ap (λ (n : ℕ). (bits e.cdw10 0 8 == send_code sends.HandleUpdate) && is_count 1 256 n) s.2
said-spelled block admin e body (commands.Log l) other s = ap (λ x. is_spelled (commands.Log x)) s.1
said-spelled block admin e body (commands.SetFdp t) other s = ap (λ x. is_spelled (commands.SetFdp x)) s.1
said-spelled block admin e body (commands.GetFdp g) other s = ap (λ x. is_spelled (commands.GetFdp x)) s.1
said-spelled block admin e body (commands.SetEvents t) other s = ap (λ (n : ℕ). is_count 1 6 n) s.2
said-spelled block admin e body (commands.Create c) other s = absurd s
said-spelled block admin e body (commands.Other o) other s = refl

pub one-spelled : (block : ℕ) (admin : Bool) (e : Sqe) (x y : List ℕ) (c d : Command) → (kind_of c ≡ Some asks.Write → ⊥) → Says block admin e x c → Says block admin e y d → is_spelled c ≡ is_spelled d
one-spelled block admin e x y c d other sc sd =
    let kind = one_kind_said block admin e x y c d sc sd in
    said-spelled block admin e x c other sc ∙ ap (λ (k : Option Asked). spelled_by k e) kind ∙ sym (said-spelled block admin e y d (λ write. other (kind ∙ write)) sd)

-- a write of data that are no pattern is spelled by no line
no-pattern : (b : Bool) (payload : Payload) (c : Bool) → ((seed : ℕ) → payload ≡ payloads.Pattern seed → ⊥) → ((b && is_pattern payload) && c) ≡ false
no-pattern true (payloads.Pattern seed) c none = absurd (none seed refl)
no-pattern false (payloads.Pattern seed) c none = absurd (none seed refl)
no-pattern true (payloads.Bytes bytes) c none = refl
no-pattern false (payloads.Bytes bytes) c none = refl

payload-none : (block n : ℕ) (body : List ℕ) (payload : Payload) → IsPayload block n body payload → ((seed : ℕ) → body ≡ pattern block n seed → ⊥) → (seed : ℕ) → payload ≡ payloads.Pattern seed → ⊥
payload-none block n body (payloads.Pattern other) is none seed e = none other is.1
payload-none block n body (payloads.Bytes bytes) is none seed e = cc

pub write-unspelled : (block : ℕ) (admin : Bool) (e : Sqe) (body : List ℕ) (c : Command) → kind_of c ≡ Some asks.Write → Says block admin e body c → ((seed : ℕ) → body ≡ pattern block (blocks_in e) seed → ⊥) → is_spelled c ≡ false
unfolding kind_of
write-unspelled block admin e body (commands.Write w) kind s none = no-pattern (is_amount w.count) w.payload (is_directive w.dtype w.dspec) (payload-none block (blocks_in e) body w.payload s.3 none)
write-unspelled block admin e body (commands.Read r) kind s none = absurd cc
write-unspelled block admin e body (commands.Zero z) kind s none = absurd cc
write-unspelled block admin e body (commands.Flush f) kind s none = absurd cc
write-unspelled block admin e body (commands.Delete d) kind s none = absurd cc
write-unspelled block admin e body (commands.Status t) kind s none = absurd cc
write-unspelled block admin e body (commands.Update u) kind s none = absurd cc
write-unspelled block admin e body (commands.Log l) kind s none = absurd cc
write-unspelled block admin e body (commands.SetFdp t) kind s none = absurd cc
write-unspelled block admin e body (commands.GetFdp g) kind s none = absurd cc
write-unspelled block admin e body (commands.SetEvents t) kind s none = absurd cc
write-unspelled block admin e body (commands.Create c) kind s none = absurd cc
write-unspelled block admin e body (commands.Other o) kind s none = absurd cc
write-unspelled block admin e body (commands.Dealloc x) kind s none = absurd cc
