-- What the steps that read a frame come to.
use Rattle.std.proofs.Common.{◌≡◌, inl, inr, ℕ, zero, suc, ◌+◌, ◌-◌, ◌*◌, ◌≤◌, Bool, true, false, List, [], ◌∷◌, ◌++◌, length, take, drop, replicate, Option, Some, None, Result, Ok, Err, refl, sym, ap, subst, ◌∙◌, arith, append_assoc}
use Rattle.std.specs.Prelude.{IfOk, bytes_eq, codes, if◌then◌else◌}
use Rattle.std.specs.List.{after_first}
use Rattle.fdp_base.specs.declared.command.Command.{Command}
use Rattle.fdp_base.specs.Geometry.{IsBlockSize}
use Rattle.fdp_layouts.specs.declared.submission.Sqe.{Sqe}
use Rattle.fdp_layouts.specs.Frame.{Fits}
use Rattle.fdp_layouts.specs.Submission.{sqe, sqe_numbers}
use Rattle.fdp_queues.specs.Data.{data_of}
use Rattle.fdp_queues.specs.Entry.{entry_bytes}
use Rattle.fdp_binary.specs.declared.asked.Asked.{Asked}
use Rattle.fdp_binary.specs.declared.asked.Asked.TheVariants as asks
use Rattle.fdp_binary.specs.Asked.{IsAsked, data_in}
use Rattle.fdp_binary.specs.Carrying.{admin_made, entry_made}
use Rattle.fdp_binary.specs.Fields.{blocks_in}
use Rattle.fdp_binary.specs.Front.{IsNoEntry}
use Rattle.fdp_binary.specs.Saying.{Says}
use Rattle.fdp_binary.proofs.Asking.{one_asked}
use Rattle.fdp_binary.proofs.Blocks.{block-from}
use Rattle.fdp_binary.proofs.Fronts.{one_entry}
use Rattle.fdp_binary.proofs.Own.{IsOwn, frame-own}
use Rattle.fdp_binary.proofs.Said.{kind_of, said-kind}
use Rattle.fdp_output.specs.CommandText.{is_spelled}
use Rattle.fdp_trace.specs.declared.fault.FaultKind.{FaultKind}
use Rattle.fdp_trace.specs.Reader.FrontOf.{is_line_feed}
use Rattle.fdp_prints.specs.Told.{IsFramed}
use Rattle.fdp_prints.specs.Reader.{Words, bytes_in, data_read, flag}
use Rattle.fdp_prints.proofs.Typed.{bind-ok, ok-one}
use Rattle.fdp_trace.specs.declared.fault.FaultKind.TheVariants as kinds
use Rattle.fdp_trace.specs.Reader.Reading.{◌>>=◌}
use Rattle.fdp_reader.specs.Framing.{GivenBy, GivenFrom, IsGivenBy, IsReadBy, digits_in, other_block, unlike, work_in, work_read}
use Rattle.fdp_reader.proofs.Frames.{unlike-none, unlike-sized}
use Rattle.fdp_reader.proofs.ByKind.{one-spelled, read-size, write-unspelled}

own-of : (block : ℕ) (k : Command) → IsBlockSize block → IsFramed block k → IsOwn block k
own-of block k is framed = frame-own block framed.frame k is framed.says

no-both : (b : Bool) → b ≡ true → b ≡ false → ⊥
no-both b yes' no' = cc

-- the bytes are no entry
pub none-entry : (block : ℕ) (admin : Bool) (bytes behind : List ℕ) → IsBlockSize block → IsNoEntry bytes → GivenBy block admin bytes behind None
none-entry block admin bytes behind is none k framed same-admin same = none (entry_made k) ((own-of block k is framed).fits, same)

-- the entry of a command that a frame says
module _ (block : ℕ) (admin : Bool) (bytes : List ℕ) (e : Sqe) (is : IsBlockSize block) (fits : Fits sqe (sqe_numbers e)) (whole : bytes ≡ entry_bytes e) (k : Command) (framed : IsFramed block k) (queue : admin ≡ admin_made k) (made : bytes ≡ entry_bytes (entry_made k)) where
  made-says : Says block admin e (data_of block k) k
  made-says =
      let own = own-of block k is framed in
      let entry : entry_made k ≡ e = one_entry (entry_made k) e own.fits fits (sym made ∙ whole) in
      subst (λ (x : Sqe). Says block admin x (data_of block k) k) entry (subst (λ (a : Bool). Says block a (entry_made k) (data_of block k) k) (sym queue) own.says)

-- a create has no frame
pub none-create : (block : ℕ) (admin : Bool) (bytes behind : List ℕ) (e : Sqe) → IsBlockSize block → Fits sqe (sqe_numbers e) → bytes ≡ entry_bytes e → IsAsked admin e (Some asks.Create) → GivenBy block admin bytes behind None
none-create block admin bytes behind e is fits whole create k framed queue made =
    let kind = said-kind block admin e (data_of block k) k (made-says block admin bytes e is fits whole k framed queue made) in
    kind.kept (one_asked admin e (kind_of k) (Some asks.Create) kind.asks create)

-- a line says what the entry says, whatever the data
pub none-spelled : (block : ℕ) (admin : Bool) (bytes behind body : List ℕ) (e : Sqe) (asked : Option Asked) (c : Command) → IsBlockSize block → Fits sqe (sqe_numbers e) → bytes ≡ entry_bytes e → IsAsked admin e asked → (asked ≡ Some asks.Write → ⊥)
    → Says block admin e body c → is_spelled c ≡ true → GivenBy block admin bytes behind None
none-spelled block admin bytes behind body e asked c is fits whole asks other says spelled k framed queue made =
    let kind : kind_of c ≡ asked = one_asked admin e (kind_of c) asked (said-kind block admin e body c says).asks asks in
    let same = one-spelled block admin e body (data_of block k) c k (λ write. other (sym kind ∙ write)) says (made-says block admin bytes e is fits whole k framed queue made) in
    no-both (is_spelled k) (sym same ∙ spelled) framed.line

pub given-plain : (block : ℕ) (admin : Bool) (bytes behind body : List ℕ) (e : Sqe) (asked : Option Asked) (c : Command) → Fits sqe (sqe_numbers e) → bytes ≡ entry_bytes e → IsAsked admin e asked → body ≡ data_read block asked e behind
    → Says block admin e body c → is_spelled c ≡ false → IsReadBy block admin bytes behind c
given-plain block admin bytes behind body e asked c fits whole asks read says line = record { entry = e; asked = asked; body = body; bytes-are = whole; fits = fits; asks = asks; tried = inl read; says = says; line = line }

pub given-other : (block : ℕ) (admin : Bool) (bytes behind read body : List ℕ) (e : Sqe) (asked : Option Asked) (c d : Command) → IsBlockSize block → Fits sqe (sqe_numbers e) → bytes ≡ entry_bytes e → IsAsked admin e asked → asked ≡ Some asks.Write → read ≡ data_read block asked e behind
    → Says block admin e read c → is_spelled c ≡ true → body ≡ unlike block (blocks_in e) read → Says block admin e body d → IsReadBy block admin bytes behind d
given-other block admin bytes behind read body e asked c d is fits whole kind-is write is-read says spelled other says' =
    let kind : kind_of d ≡ Some asks.Write = one_asked admin e (kind_of d) asked (said-kind block admin e body d says').asks kind-is ∙ write in
    let size : length read ≡ blocks_in e * block = ap (λ (t : List ℕ). length t) (is-read ∙ ap (λ (j : Option Asked). data_read block j e behind) write) ∙ read-size block (Some asks.Write) e behind is in
    let none = λ (seed : ℕ) (same : body ≡ _). unlike-none block (blocks_in e) read is size (omega arith) seed (sym other ∙ same) in
    record {
      entry = e;
      asked = asked;
      body = body;
      bytes-are = whole;
      fits = fits;
      asks = kind-is;
      tried = inr (write, other ∙ ap (unlike block (blocks_in e)) is-read, (c, subst (λ (t : List ℕ). Says block admin e t c) is-read says, spelled));
      says = says';
      line = write-unspelled block admin e body d kind says' none;
    }

-- the last block is another
pub made-unlike : (block count : ℕ) (old front new : List ℕ) → IsBlockSize block → length old ≡ count * block → block ≤ length old → front ≡ take (length old - block) old ++ 1 ∷ []
    → new ≡ front ++ replicate (block - 1) 0 → new ≡ unlike block count old
made-unlike block zero old front new is size some f n =
    let none : 0 * block ≡ 0 = omega arith in
    let big : 1 ≤ block = block-from (λ (b : ℕ). 1 ≤ b) block is (omega arith) (omega arith) in
    absurd (omega (arith, size, some, none, big))
made-unlike block (suc k) old front new is size some f n =
    let all : suc k * block ≡ block + k * block = omega arith in
    let low : length old - block ≡ k * block = omega (arith, size, all) in
    let one : suc k - 1 ≡ k = omega arith in
    n ∙ ap (λ (t : List ℕ). t ++ replicate (block - 1) 0) (f ∙ ap (λ (j : ℕ). take j old ++ 1 ∷ []) low)
    ∙ append_assoc (take (k * block) old) (1 ∷ []) (replicate (block - 1) 0)
    ∙ ap (λ (j : ℕ). take (j * block) old ++ other_block block) (sym one)

pub write-size : (block : ℕ) (e : Sqe) (asked : Option Asked) (behind read : List ℕ) → IsBlockSize block → asked ≡ Some asks.Write → read ≡ data_read block asked e behind → length read ≡ blocks_in e * block
write-size block e asked behind read is write is-read = ap (λ (t : List ℕ). length t) (is-read ∙ ap (λ (j : Option Asked). data_read block j e behind) write) ∙ read-size block (Some asks.Write) e behind is

-- other data have as many bytes
pub unlike-size : (block : ℕ) (e : Sqe) (asked : Option Asked) (behind read new : List ℕ) → IsBlockSize block → asked ≡ Some asks.Write → read ≡ data_read block asked e behind → new ≡ unlike block (blocks_in e) read → length new ≡ data_in block asked e
unlike-size block e asked behind read new is write is-read other =
    ap (λ (t : List ℕ). length t) other ∙ by (blocks_in e) (omega arith) (write-size block e asked behind read is write is-read) ∙ sym (ap (λ (j : Option Asked). data_in block j e) write) where
      by : (n : ℕ) → 1 ≤ n → length read ≡ n * block → length (unlike block n read) ≡ n * block
      by n some size = unlike-sized block n read is size some

-- ---- a text

pub given-ok : (block : ℕ) (text : List ℕ) (admin : Bool) (bytes behind : List ℕ) (given : Option Command) → work_read text ≡ Ok (admin, bytes) → behind ≡ after_first is_line_feed text → GivenBy block admin bytes behind given → IsGivenBy block text given
given-ok block text admin bytes behind given work rest h =
    subst (λ (r : Result (Bool × List ℕ) FaultKind). GivenFrom block (after_first is_line_feed text) r given) (sym work) (subst (λ (b : List ℕ). GivenBy block admin bytes b given) rest h)

pub given-err : (block : ℕ) (text : List ℕ) (kind : FaultKind) → work_read text ≡ Err kind → IsGivenBy block text None
given-err block text kind work = subst (λ (r : Result (Bool × List ℕ) FaultKind). GivenFrom block (after_first is_line_feed text) r None) (sym work) refl

pub if-ok : {T E : Type 0} (r : Result T E) (P Q : T → Type 0) → ((x : T) → P x → Q x) → IfOk r P → IfOk r Q
if-ok (Ok x) P Q f h = f x h
if-ok (Err e) P Q f h = tt

-- ---- the bytes of an entry

length-bytes : (n : ℕ) (digits : List ℕ) → length (bytes_in n digits) ≡ n
unfolding bytes_in
length-bytes zero digits = refl
length-bytes (suc n) digits = ap suc (length-bytes n (drop 2 digits))

digits-length : (admin : Bool) (ws : Words) (x : Bool × List ℕ) → digits_in admin ws ≡ Ok x → length x.1 ≡ 64
unfolding digits_in
digits-length admin [] x e = absurd cc
digits-length admin (word ∷ ws) x e = sym (ap (λ (y : Bool × List ℕ). length y.1) (ok-one (admin, bytes_in 64 word) x e)) ∙ length-bytes 64 word

pub work-length : (ws : Words) (x : Bool × List ℕ) → work_in ws ≡ Ok x → length x.1 ≡ 64
unfolding work_in
work-length [] x e = absurd cc
work-length (word ∷ ws) x e = by (bytes_eq word (codes "entry")) e where
  by : (b : Bool) → (if b then (flag ws >>= λ admin. digits_in admin.0 admin.1) else Err kinds.Word) ≡ Ok x → length x.1 ≡ 64
  by true e = let f = bind-ok (flag ws) (λ admin. digits_in admin.0 admin.1) x e in digits-length f.0.0 f.0.1 x f.2
  by false e = absurd cc
