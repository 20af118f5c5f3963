-- The command that a text says in a frame, beside one whose print the text begins with.
use Rattle.std.proofs.Common.{◌≡◌, inl, inr, ℕ, zero, suc, ◌+◌, ◌-◌, ◌*◌, ◌/◌, ◌%◌, ◌^◌, ◌<◌, ◌≤◌, Bool, true, false, List, [], ◌∷◌, ◌++◌, length, take, drop, replicate, Option, Some, None, Ok, refl, sym, ap, subst, ◌∙◌, arith, take-take}
use Rattle.std.specs.Int.{to_le_bytes, w32}
use Rattle.std.proofs.lemmas.Bool.{cases_lt}
use Rattle.std.proofs.lemmas.List.{drop_at, length-append, length-take-le, take_all, take-append-le}
use Rattle.fdp_base.specs.declared.command.Command.{Command}
use Rattle.fdp_base.specs.Geometry.{IsBlockSize}
use Rattle.fdp_base.specs.Pattern.{pattern_block, repeated}
use Rattle.fdp_base.specs.Text.{hex_bytes}
use Rattle.fdp_base.proofs.Repeating.{front_repeated}
use Rattle.fdp_layouts.specs.declared.submission.Sqe.{Sqe}
use Rattle.fdp_layouts.specs.Submission.{sqe, sqe_numbers}
use Rattle.fdp_queues.specs.declared.work.Work.{Work}
use Rattle.fdp_queues.specs.Data.{data_of, pattern}
use Rattle.fdp_queues.specs.Entry.{entry_bytes, work_of}
use Rattle.fdp_binary.specs.declared.asked.Asked.{Asked}
use Rattle.fdp_binary.specs.declared.asked.Asked.TheVariants as asks
use Rattle.fdp_binary.specs.declared.front.Front.{Front}
use Rattle.fdp_binary.specs.Asked.{IsAsked, data_in}
use Rattle.fdp_binary.specs.Carrying.{admin_made, entry_made}
use Rattle.fdp_binary.specs.Fields.{blocks_in, pids_in, ranges_in, types_in}
use Rattle.fdp_binary.specs.Front.{front_bytes, head}
use Rattle.fdp_binary.specs.Saying.{Says}
use Rattle.fdp_binary.proofs.Asking.{one_asked}
use Rattle.fdp_binary.proofs.Blocks.{block-from, pattern-block-at}
use Rattle.fdp_binary.proofs.Fronts.{one_entry}
use Rattle.fdp_binary.proofs.Own.{one_kind_said, one_work, said-own}
use Rattle.fdp_binary.proofs.Said.{kind_of, one_said, said-kind}
use Rattle.fdp_output.specs.CommandData.{own_lines}
use Rattle.fdp_output.specs.CommandText.{is_spelled, work_words}
use Rattle.fdp_output.specs.Output.{data_lines}
use Rattle.fdp_prints.specs.Told.{AreBytes, IsFramed}
use Rattle.fdp_prints.specs.Reader.{block_in, bytes_in, data_read, lines_in}
use Rattle.fdp_prints.proofs.Data.{take-bytes}
use Rattle.fdp_prints.proofs.Fields.{flag-back}
use Rattle.fdp_prints.proofs.Given.{IsWhole, data-back, entry-digits, frame-bytes}
use Rattle.fdp_prints.proofs.Sizes.{bytes-append}
use Rattle.fdp_reader.specs.Form.{AreLines, text_of}
use Rattle.fdp_reader.specs.Framing.{IsReadBy, IsTried, digits_in, other_block, unlike, work_in}
use Rattle.fdp_reader.proofs.Agree.{Agree, GoesOn, blocks-print, blocks-read, rows-print, rows-read}
use Rattle.fdp_reader.proofs.ByKind.{data-short, lines_by, one-data, own-by, ranges-agree, read-bytes, read-size}

-- ---- a block that no pattern has

front-word : (n : ℕ) (w : List ℕ) → length w ≡ 4 → 2 ≤ n → take 8 (repeated n w) ≡ w ++ w
unfolding repeated
front-word n w four some =
    let eight : 8 ≡ 2 * length w = omega (arith, four) in
    ap (λ (k : ℕ). take k (repeated n w)) eight ∙ front_repeated 2 n w some

first-of : List ℕ → ℕ
first-of [] = 0
first-of (b ∷ bs) = b

other-front : (block : ℕ) → 8 ≤ block → take 8 (other_block block) ≡ 1 ∷ 0 ∷ 0 ∷ 0 ∷ 0 ∷ 0 ∷ 0 ∷ 0 ∷ []
other-front block long = let n : block - 1 ≡ 7 + (block - 8) = omega (arith, long) in ap (λ (k : ℕ). take {A = ℕ} 8 (1 ∷ replicate k 0)) n ∙ seven (block - 8) where
  seven : (k : ℕ) → take {A = ℕ} 8 (1 ∷ replicate (7 + k) 0) ≡ 1 ∷ 0 ∷ 0 ∷ 0 ∷ 0 ∷ 0 ∷ 0 ∷ 0 ∷ []
  seven k = let n : 7 + k ≡ suc (suc (suc (suc (suc (suc (suc k)))))) = omega arith in ap (λ (j : ℕ). take {A = ℕ} 8 (1 ∷ replicate j 0)) n

no-block : (block seed i : ℕ) → IsBlockSize block → other_block block ≡ pattern_block block seed i → ⊥
unfolding first-of
no-block block seed i is e =
    let w = to_le_bytes w32 ((seed + i) % 2 ^ 32) in
    let long : 8 ≤ block = block-from (λ (b : ℕ). 8 ≤ b) block is (omega arith) (omega arith) in
    let fronts : 1 ∷ 0 ∷ 0 ∷ 0 ∷ 0 ∷ 0 ∷ 0 ∷ 0 ∷ [] ≡ w ++ w = sym (other-front block long) ∙ ap (take 8) e ∙ front-word (block / 4) w refl (omega (arith, long)) in
    let one : 1 ≡ first-of w = ap first-of fronts in
    let none : 0 ≡ first-of w = ap (λ (t : List ℕ). first-of (drop 4 t)) fronts in
    omega (arith, one, none)

last-behind : (block count : ℕ) (read : List ℕ) → length read ≡ count * block → 1 ≤ count → drop ((count - 1) * block) (unlike block count read) ≡ other_block block
last-behind block zero read size some = absurd (omega (arith, some))
last-behind block (suc n) read size some =
    let all : suc n * block ≡ block + n * block = omega arith in
    let m : suc n - 1 ≡ n = omega arith in
    let front : length (take (n * block) read) ≡ n * block = length-take-le (n * block) read (omega (arith, size, all)) in
    ap (λ (k : ℕ). drop (k * block) (take (k * block) read ++ other_block block)) m ∙ drop_at (take (n * block) read) (other_block block) (n * block) front

pub unlike-none : (block count : ℕ) (read : List ℕ) → IsBlockSize block → length read ≡ count * block → 1 ≤ count → (seed : ℕ) → unlike block count read ≡ pattern block count seed → ⊥
unlike-none block count read is size some seed e =
    let at = pattern-block-at block seed count (count - 1) is (omega (arith, some)) in
    let big : length (other_block block) ≡ block = length-other block (block-from (λ (b : ℕ). 1 ≤ b) block is (omega arith) (omega arith)) in
    let last : take block (drop ((count - 1) * block) (unlike block count read)) ≡ other_block block = ap (take block) (last-behind block count read size some) ∙ take_all block (other_block block) (omega (arith, big)) in
    no-block block seed (count - 1) is (sym last ∙ ap (λ (t : List ℕ). take block (drop ((count - 1) * block) t)) e ∙ at)
  where
    length-other : (block : ℕ) → 1 ≤ block → length (other_block block) ≡ block
    length-other block some = let n : block ≡ suc (block - 1) = omega (arith, some) in ap suc (zeros (block - 1)) ∙ sym n where
      zeros : (n : ℕ) → length {A = ℕ} (replicate n 0) ≡ n
      zeros zero = refl
      zeros (suc n) = ap suc (zeros n)

pub unlike-sized : (block count : ℕ) (read : List ℕ) → IsBlockSize block → length read ≡ count * block → 1 ≤ count → length (unlike block count read) ≡ count * block
unlike-sized block zero read is size some = absurd (omega (arith, some))
unlike-sized block (suc n) read is size some =
    let all : suc n * block ≡ block + n * block = omega arith in
    let one : suc n - 1 ≡ n = omega arith in
    let big : 1 ≤ block = block-from (λ (b : ℕ). 1 ≤ b) block is (omega arith) (omega arith) in
    let front : length (take (n * block) read) ≡ n * block = length-take-le (n * block) read (omega (arith, size, all)) in
    ap (λ (k : ℕ). length (take (k * block) read ++ other_block block)) one
    ∙ omega (arith, length-append (take (n * block) read) (other_block block), front, other-length (block - 1), big, all)
  where
    other-length : (k : ℕ) → length {A = ℕ} (1 ∷ replicate k 0) ≡ suc k
    other-length zero = refl
    other-length (suc k) = ap suc (other-length k)

-- before the last block they agree with what was read
unlike-agrees : (block count m : ℕ) (read : List ℕ) → length read ≡ count * block → m < count → Agree (block * m) (unlike block count read) read
unlike-agrees block zero m read size low = absurd (omega (arith, low))
unlike-agrees block (suc n) m read size low =
    let all : suc n * block ≡ block + n * block = omega arith in
    let one : suc n - 1 ≡ n = omega arith in
    let le : block * m ≤ n * block = short n m (omega (arith, low)) in
    let front : length (take (n * block) read) ≡ n * block = length-take-le (n * block) read (omega (arith, size, all)) in
    ap (λ (k : ℕ). take (block * m) (take (k * block) read ++ other_block block)) one
    ∙ take-append-le (block * m) (take (n * block) read) (other_block block) (omega (arith, le, front))
    ∙ take-take (block * m) (n * block) read le
  where
    short : (n m : ℕ) → m ≤ n → block * m ≤ n * block
    short n zero le = let none : block * 0 ≡ 0 = omega arith in omega (arith, none)
    short zero (suc m) le = absurd (omega (arith, le))
    short (suc n) (suc m) le =
        let a : block * suc m ≡ block + block * m = omega arith in
        let b : suc n * block ≡ block + n * block = omega arith in
        omega (arith, a, b, short n m (omega (arith, le)))

-- lists of one length that agree so far are one
agree-all : (block count m : ℕ) (x y : List ℕ) → length x ≡ count * block → length y ≡ count * block → count ≤ m → Agree (block * m) x y → x ≡ y
agree-all block count m x y lx ly le agree = sym (take_all (block * m) x (long x lx)) ∙ agree ∙ take_all (block * m) y (long y ly) where
  more : (n m : ℕ) → n ≤ m → n * block ≤ block * m
  more zero m le = let none : 0 * block ≡ 0 = omega arith in omega (arith, none)
  more (suc n) zero le = absurd (omega (arith, le))
  more (suc n) (suc m) le =
      let a : block * suc m ≡ block + block * m = omega arith in
      let b : suc n * block ≡ block + n * block = omega arith in
      omega (arith, a, b, more n m (omega (arith, le)))

  long : (z : List ℕ) → length z ≡ count * block → length z ≤ block * m
  long z lz = omega (arith, lz, more count m le)

-- ---- what is read of an entry is the command of a frame

zero-bytes : (n : ℕ) → AreBytes (replicate n 0)
zero-bytes zero = tt
zero-bytes (suc n) = (omega arith, zero-bytes n)

other-bytes : (block : ℕ) → AreBytes (other_block block)
other-bytes block = (omega arith, zero-bytes (block - 1))

tried-bytes : (block : ℕ) (admin : Bool) (asked : Option Asked) (e : Sqe) (read body : List ℕ) → AreBytes read → IsTried block admin asked e read body → AreBytes body
tried-bytes block admin asked e read body h (inl same) = subst AreBytes (sym same) h
tried-bytes block admin asked e read body h (inr other) =
    subst AreBytes (sym other.1) (bytes-append (take ((blocks_in e - 1) * block) read) (other_block block) (take-bytes ((blocks_in e - 1) * block) read h) (other-bytes block))

head-bytes : (admin : Bool) (len : ℕ) → AreBytes (head admin len)
head-bytes true len = (omega arith, (omega arith, (omega arith, (omega arith, (omega arith, (omega arith, (omega arith, (omega arith, zero-bytes 8))))))))
head-bytes false len = (omega arith, (omega arith, (omega arith, (omega arith, (omega arith, (omega arith, (omega arith, (omega arith, zero-bytes 8))))))))

pub read-framed : (block : ℕ) (admin : Bool) (bytes behind : List ℕ) (g : Command) → IsBlockSize block → IsReadBy block admin bytes behind g → IsFramed block g
read-framed block admin bytes behind g is by =
    let f : Front = record { admin = admin; len = length by.body; entry = by.entry } in
    let size = (said-kind block admin by.entry by.body g by.says).sized in
    let short = data-short block (kind_of g) by.entry is in
    record {
      line = by.line;
      frame = front_bytes f ++ by.body;
      bytes = bytes-append (front_bytes f) by.body (bytes-append (head admin (length by.body)) (entry_bytes by.entry) (head-bytes admin (length by.body)) (frame-bytes 64 sqe (sqe_numbers by.entry)))
          (tried-bytes block admin by.asked by.entry (data_read block by.asked by.entry behind) by.body (read-bytes block by.asked by.entry behind is) by.tried);
      says = record { front = f; body = by.body; sound = record { short = omega (arith, size, short); fits = by.fits }; sized = refl; whole = refl; says = by.says };
    }

-- ---- beside the command of a frame with this entry

module _ (block : ℕ) (is : IsBlockSize block) (k g : Command) (behind : List ℕ) (hk : IsWhole block k) (line : is_spelled k ≡ false) (by : IsReadBy block (admin_made k) (entry_bytes (entry_made k)) behind g) where
  abbrev E : Sqe
  E = entry_made k

  abbrev A : Bool
  A = admin_made k

  abbrev raw : List ℕ
  raw = data_read block (kind_of k) E behind

  entry-is : by.entry ≡ E
  entry-is = one_entry by.entry E by.fits hk.own.fits (sym by.bytes-are)

  says : Says block A E by.body g
  says = subst (λ (e : Sqe). Says block A e by.body g) entry-is by.says

  asked-is : by.asked ≡ kind_of k
  asked-is = one_asked A E by.asked (kind_of k) (subst (λ (e : Sqe). IsAsked A e by.asked) entry-is by.asks) (said-kind block A E (data_of block k) k hk.own.says).asks

  tried : IsTried block A (kind_of k) E raw by.body
  tried =
      subst (λ (j : Option Asked). IsTried block A j E (data_read block j E behind) by.body) asked-is
      (subst (λ (e : Sqe). IsTried block A by.asked e (data_read block by.asked e behind) by.body) entry-is by.tried)

  pub work-is : work_of g 0 ≡ work_of k 0
  work-is = one_work block A E by.body (data_of block k) g k says hk.own.says

  pub kind-is : kind_of g ≡ kind_of k
  kind-is = one_kind_said block A E by.body (data_of block k) g k says hk.own.says

  no-both : (b : Bool) → b ≡ true → b ≡ false → ⊥
  no-both b yes' no' = cc

  -- no line says the command, so the data that are read are not all of its data where those that are tried are others
  not-spelled : raw ≡ data_of block k → ((other : Command) × Says block A E raw other × (is_spelled other ≡ true)) → ⊥
  not-spelled same other =
      let one = one_said block A E (data_of block k) other.0 k is (subst (λ (t : List ℕ). Says block A E t other.0) same other.1) hk.own.says in
      no-both (is_spelled k) (ap is_spelled (sym one) ∙ other.2) line

  same-by : IsTried block A (kind_of k) E raw by.body → raw ≡ data_of block k → g ≡ k
  same-by (inl body) same = one_said block A E (data_of block k) g k is (subst (λ (t : List ℕ). Says block A E t g) (body ∙ same) says) hk.own.says
  same-by (inr other) same = absurd (not-spelled same other.2)

  pub same-data : raw ≡ data_of block k → g ≡ k
  same-data same = same-by tried same

  -- where all lines of its data stand there, it is that command
  pub same-text : (r : List ℕ) → behind ≡ own_lines block k ++ r → g ≡ k
  same-text r text = same-data (ap (data_read block (kind_of k) E) text ∙ data-back block k r is hk)

  -- its own data
  says-own : Says block A E (data_of block g) g
  says-own = subst (λ (w : Work). Says block w.admin w.sqe (data_of block g) g) work-is (said-own block A E by.body g is hk.own.fits says).says

  size-k : (j : Option Asked) → kind_of k ≡ j → length (data_of block k) ≡ data_in block j E
  size-k j kind = (said-kind block A E (data_of block k) k hk.own.says).sized ∙ ap (λ (j : Option Asked). data_in block j E) kind

  size-g : (j : Option Asked) → kind_of k ≡ j → length (data_of block g) ≡ data_in block j E
  size-g j kind = (said-kind block A E (data_of block g) g says-own).sized ∙ ap (λ (j : Option Asked). data_in block j E) (kind-is ∙ kind)

  raw-is : (j : Option Asked) → kind_of k ≡ j → raw ≡ data_read block j E behind
  raw-is j kind = ap (λ (j : Option Asked). data_read block j E behind) kind

  no-dealloc : (j : Option Asked) → kind_of k ≡ j → (j ≡ Some asks.Dealloc → ⊥) → by.body ≡ data_of block g
  no-dealloc j kind other = one-data block A E by.body (data_of block g) g (λ d. other (sym kind ∙ sym kind-is ∙ d)) says says-own

  -- of all kinds but a write the data are tried as they are read
  body-is : (j : Option Asked) → kind_of k ≡ j → (j ≡ Some asks.Write → ⊥) → by.body ≡ raw
  body-is j kind other = plain tried where
    plain : IsTried block A (kind_of k) E raw by.body → by.body ≡ raw
    plain (inl same) = same
    plain (inr x) = absurd (other (sym kind ∙ x.0))

  write-agrees : (lines : List (List ℕ)) → kind_of k ≡ Some asks.Write → Agree (block * length lines) raw (data_of block k) → IsTried block A (kind_of k) E raw by.body → Agree (block * length lines) (data_of block k) (data_of block g)
  write-agrees lines kind agree (inl same) = sym agree ∙ ap (take (block * length lines)) (sym same ∙ no-dealloc (Some asks.Write) kind (λ e. cc))
  write-agrees lines kind agree (inr other) =
      let n = blocks_in E in
      let size : length raw ≡ n * block = ap (λ (t : List ℕ). length t) (raw-is (Some asks.Write) kind) ∙ read-size block (Some asks.Write) E behind is in
      elim (cases_lt (length lines) n) [
        | inl low ↦ sym agree ∙ sym (unlike-agrees block n (length lines) raw size low) ∙ ap (take (block * length lines)) (sym other.1 ∙ no-dealloc (Some asks.Write) kind (λ e. cc))
        | inr high ↦ absurd (not-spelled (agree-all block n (length lines) raw (data_of block k) size (size-k (Some asks.Write) kind) high agree) other.2)
      ]

  rows-agree : (m : ℕ) (j : Option Asked) → kind_of k ≡ j → (j ≡ Some asks.Dealloc → ⊥) → (j ≡ Some asks.Write → ⊥) → Agree m raw (data_of block k) → Agree m (data_of block k) (data_of block g)
  rows-agree m j kind dealloc write agree = sym agree ∙ ap (take m) (sym (body-is j kind write) ∙ no-dealloc j kind dealloc)

  module _ (lines : List (List ℕ)) (more later : List ℕ) (hl : AreLines lines) (text : behind ≡ text_of lines ++ later) where
    read-rows : (size : ℕ) (j : Option Asked) → kind_of k ≡ j → data_read block j E behind ≡ lines_in bytes_in 32 size size behind → data_in block j E ≡ size → data_lines (data_of block k) ≡ text_of lines ++ more → Agree (32 * length lines) raw (data_of block k)
    read-rows size j kind form sized e =
        ap (take (32 * length lines)) (raw-is j kind ∙ form ∙ ap (lines_in bytes_in 32 size size) text)
        ∙ rows-read size (data_of block k) lines more later (size-k j kind ∙ sized) hk.bytes hl e

    rows-on : (j : Option Asked) → kind_of k ≡ j → Agree (32 * length lines) (data_of block k) (data_of block g) → data_lines (data_of block k) ≡ text_of lines ++ more → GoesOn (data_lines (data_of block g)) lines
    rows-on j kind agree e = rows-print (data_of block k) (data_of block g) lines more (size-k j kind ∙ sym (size-g j kind)) hl agree e

    by-kind : (j : Option Asked) → kind_of k ≡ j → lines_by j (blocks_in E) (data_of block k) ≡ text_of lines ++ more → GoesOn (lines_by j (blocks_in E) (data_of block g)) lines
    unfolding lines_by
    by-kind None kind e = (more, e)
    by-kind (Some asks.Write) kind e =
        let n = blocks_in E in
        let agree : Agree (block * length lines) raw (data_of block k) =
        ap (take (block * length lines)) (raw-is (Some asks.Write) kind ∙ ap (lines_in block_in block n (n * block)) text)
        ∙ blocks-read block n (data_of block k) lines more later is (size-k (Some asks.Write) kind) hk.bytes hl e in
        blocks-print block n (data_of block k) (data_of block g) lines more (size-k (Some asks.Write) kind) (size-g (Some asks.Write) kind) hl (write-agrees lines kind agree tried) e
    by-kind (Some asks.Read) kind e = (more, e)
    by-kind (Some asks.Zero) kind e = (more, e)
    by-kind (Some asks.Dealloc) kind e =
        let m = length lines in
        let all : 32 * m ≡ 16 * (2 * m) = omega arith in
        let agree = read-rows (16 * ranges_in E) (Some asks.Dealloc) kind refl refl e in
        let own : Agree (16 * (2 * m)) by.body (data_of block k) = ap (λ (t : List ℕ). take (16 * (2 * m)) t) (body-is (Some asks.Dealloc) kind (λ e. cc)) ∙ subst (λ (k' : ℕ). Agree k' raw (data_of block k)) all agree in
        let both = ranges-agree block A E E by.body (data_of block k) (2 * m) g k (kind-is ∙ kind) kind says hk.own.says own in
        rows-on (Some asks.Dealloc) kind (subst (λ (k' : ℕ). Agree k' (data_of block k) (data_of block g)) (sym all) (sym both)) e
    by-kind (Some asks.Flush) kind e = (more, e)
    by-kind (Some asks.Status) kind e = (more, e)
    by-kind (Some asks.Update) kind e =
        let agree = read-rows (2 * pids_in E) (Some asks.Update) kind refl refl e in
        rows-on (Some asks.Update) kind (rows-agree (32 * length lines) (Some asks.Update) kind (λ e. cc) (λ e. cc) agree) e
    by-kind (Some asks.Log) kind e = (more, e)
    by-kind (Some asks.SetFdp) kind e = (more, e)
    by-kind (Some asks.GetFdp) kind e = (more, e)
    by-kind (Some asks.SetEvents) kind e =
        let agree = read-rows (types_in E) (Some asks.SetEvents) kind refl refl e in
        rows-on (Some asks.SetEvents) kind (rows-agree (32 * length lines) (Some asks.SetEvents) kind (λ e. cc) (λ e. cc) agree) e
    by-kind (Some asks.Create) kind e = (more, e)
    by-kind (Some asks.Delete) kind e = (more, e)

    -- so far as lines of its data stand there, those of the command that is read are the same
    pub own-goes-on : own_lines block k ≡ text_of lines ++ more → GoesOn (own_lines block g) lines
    own-goes-on e =
        let n = blocks_in E in
        let on = by-kind (kind_of k) refl (sym (own-by block A E (data_of block k) k hk.own.says) ∙ e) in
        (on.0, own-by block A E by.body g says ∙ ap (λ (j : Option Asked). lines_by j n (data_of block g)) kind-is ∙ on.1)

-- ---- the words of an entry

pub work-back : (w : Work) → work_in (work_words w) ≡ Ok (w.admin, entry_bytes w.sqe)
unfolding work_in digits_in
work-back w =
    let f = flag-back w.admin (hex_bytes (entry_bytes w.sqe) ∷ []) in
    rw f (ap (λ (t : List ℕ). Ok (w.admin, t)) (entry-digits w.sqe))
