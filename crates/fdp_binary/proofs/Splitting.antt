-- What stands behind a stream, and that it is the longest.
use Rattle.std.proofs.Common.{◌≡◌, inl, inr, ℕ, ◌+◌, ◌≤◌, List, [], ◌∷◌, ◌++◌, length, take, Option, Some, refl, sym, ap, subst, ◌∙◌, arith, append_assoc}
use Rattle.std.specs.Prelude.{flat_map}
use Rattle.std.specs.List.{AllZip}
use Rattle.std.proofs.lemmas.List.{append-nil, length-append, length-take, take-append-le}
use Rattle.std.proofs.lemmas.List.Sums.{sum_by-append}
use Rattle.std.proofs.lemmas.Grind.{flat_map-append}
use Rattle.fdp_base.specs.declared.command.Command.{Command}
use Rattle.fdp_base.specs.CommandKinds.{blocks_read}
use Rattle.fdp_base.specs.Geometry.{IsBlockSize}
use Rattle.fdp_binary.specs.declared.asked.Asked.{Asked}
use Rattle.fdp_binary.specs.declared.asked.Asked.TheVariants as kinds
use Rattle.fdp_binary.specs.declared.fault.StreamFault.{StreamFault}
use Rattle.fdp_binary.specs.declared.fault.StreamFaultKind.{StreamFaultKind}
use Rattle.fdp_binary.specs.declared.fault.StreamFaultKind.TheVariants as faults
use Rattle.fdp_binary.specs.declared.front.Front.{Front}
use Rattle.fdp_binary.specs.Asked.{Asks, IsAsked, reads_in}
use Rattle.fdp_binary.specs.Front.{Begins, front_bytes}
use Rattle.fdp_binary.specs.Frames.{IsFrame}
use Rattle.fdp_binary.specs.Saying.{Says}
use Rattle.fdp_binary.specs.Streams.{AreFew, HasLength, HasRoom, IsBroken, IsFaultOf, IsShort, IsStream, Lacks, Opens, Splits}
use Rattle.fdp_binary.proofs.Asking.{one_asked}
use Rattle.fdp_binary.proofs.Fronts.{begins-front, begins-one, length-front, one_front}
use Rattle.fdp_binary.proofs.Laid.{AllZip-joined, same-front}
use Rattle.fdp_binary.proofs.Said.{kind_of, one_said, said-kind}

-- ---- few commands

few-front : (xs ys : List Command) → AreFew (xs ++ ys) → AreFew xs
few-front xs ys few = (omega (arith, length-append xs ys, few.0), omega (arith, sum_by-append blocks_read xs ys, few.1))

pub room-few : (cs : List Command) (c : Command) → HasRoom cs (blocks_read c) → AreFew (cs ++ c ∷ [])
room-few cs c room = (omega (arith, length-append cs (c ∷ []), room.0), omega (arith, sum_by-append blocks_read cs (c ∷ []), room.1))

few-room : (cs : List Command) (c : Command) → AreFew (cs ++ c ∷ []) → HasRoom cs (blocks_read c)
few-room cs c few = (omega (arith, length-append cs (c ∷ []), few.0), omega (arith, sum_by-append blocks_read cs (c ∷ []), few.1))

-- ---- a frame in front

-- what stands in front of bytes that begin with a frame
pub record IsInFront (block : ℕ) (bytes : List ℕ) (front : Front) (asked : Option Asked) (command : Command) : Type 0 where
  pub opens : Opens bytes front asked
  pub sized : HasLength block front asked
  pub reads : blocks_read command ≡ reads_in asked front.entry
  pub there : 80 + front.len ≤ length bytes

pub frame-length : (block : ℕ) (frame : List ℕ) (c : Command) (f : IsFrame block frame c) → length frame ≡ 80 + f.front.len
frame-length block frame c f = ap (λ (t : List ℕ). length t) f.whole ∙ length-append (front_bytes f.front) f.body ∙ (λ i. length-front f.front i + f.sized i)

pub in-front : (block : ℕ) (bytes frame more : List ℕ) (c : Command) → bytes ≡ frame ++ more → (f : IsFrame block frame c) → IsInFront block bytes f.front (kind_of c) c
in-front block bytes frame more c whole f =
    let k = said-kind block f.front.admin f.front.entry f.body c f.says in
    let cut : bytes ≡ front_bytes f.front ++ (f.body ++ more) = whole ∙ ap (λ (t : List ℕ). t ++ more) f.whole ∙ append_assoc (front_bytes f.front) f.body more in
    record {
      opens = record { begins = begins-front f.front bytes (f.body ++ more) f.sound cut; asks = k.asks; kept = k.kept };
      sized = sym f.sized ∙ k.sized;
      reads = k.reads;
      there = omega (arith, ap (λ (t : List ℕ). length t) whole, length-append frame more, frame-length block frame c f);
    }

-- bytes open in one way
opens-one : (bytes : List ℕ) (f g : Front) (a b : Option Asked) → Opens bytes f a → Opens bytes g b → (f ≡ g) × (a ≡ b)
opens-one bytes f g a b p q =
    let same : f ≡ g = begins-one f g bytes p.begins q.begins in
    (same, one_asked g.admin g.entry a b (subst (λ (h : Front). IsAsked h.admin h.entry a) same p.asks) q.asks)

-- ---- the longest

abbrev pub IsLongest : ℕ → List Command → List ℕ → Type 0
IsLongest block commands rest = (frame more : List ℕ) (command : Command) → rest ≡ frame ++ more → IsFrame block frame command → AreFew (commands ++ command ∷ []) → ⊥

pub longest-short : (block : ℕ) (cs : List Command) (rest : List ℕ) → IsShort block cs rest → IsLongest block cs rest
longest-short block cs rest (inl few) frame more c whole f room = let h = in-front block rest frame more c whole f in absurd (omega (arith, few, h.there))
longest-short block cs rest (inr (g, asked, opens, sized, fits, less)) frame more c whole f room =
    let h = in-front block rest frame more c whole f in
    let same = opens-one rest g f.front asked (kind_of c) opens h.opens in
    absurd (omega (arith, less, h.there, ap (λ (x : Front). x.len) same.0))

pub longest-lacks : (block : ℕ) (cs : List Command) (rest : List ℕ) (kind : StreamFaultKind) → Lacks block cs rest kind → IsLongest block cs rest
longest-lacks block cs rest faults.Head l frame more c whole f room = let h = in-front block rest frame more c whole f in l.1 f.front h.opens.begins
longest-lacks block cs rest faults.Create (g, begins, asks) frame more c whole f room =
    let h = in-front block rest frame more c whole f in
    let same : g ≡ f.front = begins-one g f.front rest begins h.opens.begins in
    let there : IsAsked f.front.admin f.front.entry (Some kinds.Create) = subst (λ (x : Front). Asks x.admin x.entry kinds.Create) same asks in
    h.opens.kept (one_asked f.front.admin f.front.entry (kind_of c) (Some kinds.Create) h.opens.asks there)
longest-lacks block cs rest faults.Length (g, asked, opens, wrong) frame more c whole f room =
    let h = in-front block rest frame more c whole f in
    let same = opens-one rest f.front g (kind_of c) asked h.opens opens in
    wrong (subst (λ (x : Front). HasLength block x asked) same.0 (subst (λ (k : Option Asked). HasLength block f.front k) same.1 h.sized))
longest-lacks block cs rest faults.Many (g, asked, opens, sized, full) frame more c whole f room =
    let h = in-front block rest frame more c whole f in
    let same = opens-one rest f.front g (kind_of c) asked h.opens opens in
    full (subst (HasRoom cs) (h.reads ∙ (λ i. reads_in (same.1 i) (same.0 i).entry)) (few-room cs c room))
longest-lacks block cs rest faults.Cut l frame more c whole f room = l

-- ---- a fault stays

-- a list whose front is so long is as long
at-least : (n : ℕ) (bytes : List ℕ) → length (take n bytes) ≡ n → n ≤ length bytes
at-least n bytes e = omega (arith, e, length-take n bytes)

begins-room : (f : Front) (bytes : List ℕ) → Begins f bytes → 80 ≤ length bytes
begins-room f bytes b = at-least 80 bytes (ap (λ (t : List ℕ). length t) b.is ∙ length-front f)

begins-more : (f : Front) (bytes more : List ℕ) → Begins f bytes → Begins f (bytes ++ more)
begins-more f bytes more b = record { sound = b.sound; is = take-append-le 80 bytes more (begins-room f bytes b) ∙ b.is }

begins-less : (f : Front) (bytes more : List ℕ) → 80 ≤ length bytes → Begins f (bytes ++ more) → Begins f bytes
begins-less f bytes more room b = record { sound = b.sound; is = sym (take-append-le 80 bytes more room) ∙ b.is }

opens-more : (f : Front) (asked : Option Asked) (bytes more : List ℕ) → Opens bytes f asked → Opens (bytes ++ more) f asked
opens-more f asked bytes more o = record { begins = begins-more f bytes more o.begins; asks = o.asks; kept = o.kept }

pub lacks-more : (block : ℕ) (cs : List Command) (rest more : List ℕ) (kind : StreamFaultKind) → Lacks block cs rest kind → Lacks block cs (rest ++ more) kind
lacks-more block cs rest more faults.Head l = (omega (arith, l.0, length-append rest more), λ f b. l.1 f (begins-less f rest more l.0 b))
lacks-more block cs rest more faults.Create (f, begins, asks) = (f, begins-more f rest more begins, asks)
lacks-more block cs rest more faults.Length (f, asked, opens, wrong) = (f, asked, opens-more f asked rest more opens, wrong)
lacks-more block cs rest more faults.Many (f, asked, opens, sized, full) = (f, asked, opens-more f asked rest more opens, sized, full)
lacks-more block cs rest more faults.Cut l = l

pub fault-more : (block : ℕ) (bytes more : List ℕ) (cs : List Command) (fault : StreamFault) → IsFaultOf block bytes cs fault → IsFaultOf block (bytes ++ more) cs fault
fault-more block bytes more cs fault is =
    let rest = is.rest ++ more in
    let lacks = lacks-more block cs is.rest more fault.kind is.lacks in
    record {
      rest = rest;
      splits = record {
        front = is.splits.front;
        whole = ap (λ (t : List ℕ). t ++ more) is.splits.whole ∙ append_assoc is.splits.front is.rest more;
        stream = is.splits.stream;
        longest = longest-lacks block cs rest fault.kind lacks;
      };
      place = omega (arith, is.place, length-append is.rest more, length-append bytes more);
      lacks = lacks;
    }

-- ---- streams

pub no-stream : (block : ℕ) → IsStream block [] []
no-stream block = record { frames = []; whole = refl; each = tt; few = (omega arith, omega arith) }

pub streams-joined : (block : ℕ) (xs ys : List ℕ) (cs ds : List Command) → IsStream block xs cs → IsStream block ys ds → AreFew (cs ++ ds) → IsStream block (xs ++ ys) (cs ++ ds)
streams-joined block xs ys cs ds a b few = record {
  frames = a.frames ++ b.frames;
  whole = (λ i. a.whole i ++ b.whole i) ∙ sym (flat_map-append (λ (f : List ℕ). f) a.frames b.frames);
  each = AllZip-joined (IsFrame block) a.frames cs b.frames ds a.each b.each;
  few = few;
}

pub one-frame-stream : (block : ℕ) (frame : List ℕ) (c : Command) → IsFrame block frame c → AreFew (c ∷ []) → IsStream block frame (c ∷ [])
one-frame-stream block frame c f few = record { frames = frame ∷ []; whole = sym (append-nil frame); each = (f, tt); few = few }

-- ---- one reading

one_frame : (block : ℕ) (x y a b : List ℕ) (c d : Command) → IsBlockSize block → IsFrame block x c → IsFrame block y d → x ++ a ≡ y ++ b → (c ≡ d) × (a ≡ b)
one_frame block x y a b c d is fx fy same =
    let cx : x ++ a ≡ front_bytes fx.front ++ (fx.body ++ a) = ap (λ (t : List ℕ). t ++ a) fx.whole ∙ append_assoc (front_bytes fx.front) fx.body a in
    let cy : y ++ b ≡ front_bytes fy.front ++ (fy.body ++ b) = ap (λ (t : List ℕ). t ++ b) fy.whole ∙ append_assoc (front_bytes fy.front) fy.body b in
    let cut = same-front (front_bytes fx.front) (front_bytes fy.front) (fx.body ++ a) (fy.body ++ b) (length-front fx.front ∙ sym (length-front fy.front)) (sym cx ∙ same ∙ cy) in
    let front : fx.front ≡ fy.front = one_front fx.front fy.front fx.sound fy.sound cut.0 in
    let body = same-front fx.body fy.body a b (fx.sized ∙ ap (λ (f : Front). f.len) front ∙ sym fy.sized) cut.1 in
    let says = subst (λ (t : List ℕ). Says block fy.front.admin fy.front.entry t c) body.0 (subst (λ (f : Front). Says block f.admin f.entry fx.body c) front fx.says) in
    (one_said block fy.front.admin fy.front.entry fy.body c d is says fy.says, body.1)

join : List (List ℕ) → List ℕ
join frames = flat_map (λ (f : List ℕ). f) frames

-- two readings behind the same commands
same-reading : (block : ℕ) → IsBlockSize block → (acc : List Command) (fs gs : List (List ℕ)) (cs ds : List Command) (r s : List ℕ) → join fs ++ r ≡ join gs ++ s → AllZip (IsFrame block) fs cs → AllZip (IsFrame block) gs ds
    → AreFew (acc ++ cs) → AreFew (acc ++ ds) → IsLongest block (acc ++ cs) r → IsLongest block (acc ++ ds) s → (cs ≡ ds) × (r ≡ s)
unfolding join
same-reading block is acc [] [] [] [] r s same hf hg fc fd lc ld = (refl, same)
same-reading block is acc [] (g ∷ gs) [] (d ∷ ds) r s same hf hg fc fd lc ld =
    let whole : r ≡ g ++ (join gs ++ s) = same ∙ append_assoc g (join gs) s in
    let few : AreFew (acc ++ d ∷ []) = few-front (acc ++ d ∷ []) ds (subst AreFew (sym (append_assoc acc (d ∷ []) ds)) fd) in
    absurd (lc g (join gs ++ s) d whole hg.0 (subst (λ (t : List Command). AreFew (t ++ d ∷ [])) (sym (append-nil acc)) few))
same-reading block is acc (f ∷ fs) [] (c ∷ cs) [] r s same hf hg fc fd lc ld =
    let whole : s ≡ f ++ (join fs ++ r) = sym same ∙ append_assoc f (join fs) r in
    let few : AreFew (acc ++ c ∷ []) = few-front (acc ++ c ∷ []) cs (subst AreFew (sym (append_assoc acc (c ∷ []) cs)) fc) in
    absurd (ld f (join fs ++ r) c whole hf.0 (subst (λ (t : List Command). AreFew (t ++ c ∷ [])) (sym (append-nil acc)) few))
same-reading block is acc (f ∷ fs) (g ∷ gs) (c ∷ cs) (d ∷ ds) r s same hf hg fc fd lc ld =
    let one = one_frame block f g (join fs ++ r) (join gs ++ s) c d is hf.0 hg.0 (sym (append_assoc f (join fs) r) ∙ same ∙ append_assoc g (join gs) s) in
    let to_c : acc ++ c ∷ cs ≡ (acc ++ c ∷ []) ++ cs = sym (append_assoc acc (c ∷ []) cs) in
    let to_d : acc ++ d ∷ ds ≡ (acc ++ c ∷ []) ++ ds = sym (append_assoc acc (d ∷ []) ds) ∙ ap (λ (x : Command). (acc ++ x ∷ []) ++ ds) (sym one.0) in
    let rest = same-reading block is (acc ++ c ∷ []) fs gs cs ds r s one.1 hf.1 hg.1 (subst AreFew to_c fc) (subst AreFew to_d fd)
    (subst (λ (t : List Command). IsLongest block t r) to_c lc) (subst (λ (t : List Command). IsLongest block t s) to_d ld) in
    ((λ i. one.0 i ∷ rest.0 i), rest.1)
same-reading block is acc [] gs (c ∷ cs) ds r s same hf hg fc fd lc ld = absurd hf
same-reading block is acc (f ∷ fs) gs [] ds r s same hf hg fc fd lc ld = absurd hf
same-reading block is acc [] [] [] (d ∷ ds) r s same hf hg fc fd lc ld = absurd hg
same-reading block is acc [] (g ∷ gs) [] [] r s same hf hg fc fd lc ld = absurd hg
same-reading block is acc (f ∷ fs) [] (c ∷ cs) (d ∷ ds) r s same hf hg fc fd lc ld = absurd hg
same-reading block is acc (f ∷ fs) (g ∷ gs) (c ∷ cs) [] r s same hf hg fc fd lc ld = absurd hg

pub one-splitting : (block : ℕ) (bytes : List ℕ) (cs ds : List Command) (r s : List ℕ) → IsBlockSize block → Splits block bytes cs r → Splits block bytes ds s → (cs ≡ ds) × (r ≡ s)
unfolding join
one-splitting block bytes cs ds r s is a b =
    let same = sym (ap (λ (t : List ℕ). t ++ r) a.stream.whole) ∙ sym a.whole ∙ b.whole ∙ ap (λ (t : List ℕ). t ++ s) b.stream.whole in
    same-reading block is [] a.stream.frames b.stream.frames cs ds r s same a.stream.each b.stream.each a.stream.few b.stream.few a.longest b.longest

-- ---- a stream alone

nothing-behind : (block : ℕ) (cs : List Command) → IsLongest block cs []
nothing-behind block cs frame more c whole f few = let h = in-front block [] frame more c whole f in absurd (omega (arith, h.there))

pub stream-splits : (block : ℕ) (bytes : List ℕ) (cs : List Command) → IsStream block bytes cs → Splits block bytes cs []
stream-splits block bytes cs stream = record { front = bytes; whole = sym (append-nil bytes); stream = stream; longest = nothing-behind block cs }

pub lacks-some : (block : ℕ) (cs : List Command) (rest : List ℕ) (kind : StreamFaultKind) → Lacks block cs rest kind → 80 ≤ length rest
lacks-some block cs rest faults.Head l = l.0
lacks-some block cs rest faults.Create (f, begins, asks) = begins-room f rest begins
lacks-some block cs rest faults.Length (f, asked, opens, wrong) = begins-room f rest opens.begins
lacks-some block cs rest faults.Many (f, asked, opens, sized, full) = begins-room f rest opens.begins
lacks-some block cs rest faults.Cut l = absurd l

pub one-command : (block : ℕ) (bytes : List ℕ) (c d : Command) → IsBlockSize block → IsFrame block bytes c → IsFrame block bytes d → c ≡ d
one-command block bytes c d is fc fd = (one_frame block bytes bytes [] [] c d is fc fd refl).0

pub not-broken : (block : ℕ) (bytes : List ℕ) (cs : List Command) (fault : StreamFault) → IsBlockSize block → IsStream block bytes cs → IsBroken block bytes fault → ⊥
not-broken block bytes cs fault is stream (ds, inl bad) =
    let same = one-splitting block bytes cs ds [] bad.rest is (stream-splits block bytes cs stream) bad.splits in
    let some = lacks-some block ds bad.rest fault.kind bad.lacks in
    omega (arith, some, ap (λ (t : List ℕ). length t) same.1)
not-broken block bytes cs fault is stream (ds, inr (kind, cut)) =
    let same = one-splitting block bytes cs ds [] cut.rest is (stream-splits block bytes cs stream) cut.splits in
    omega (arith, cut.some, ap (λ (t : List ℕ). length t) same.1)

-- ---- one fault

no-create : (rest : List ℕ) (f g : Front) (asked : Option Asked) → Opens rest f asked → Begins g rest → Asks g.admin g.entry kinds.Create → ⊥
no-create rest f g asked opens begins asks =
    let same : g ≡ f = begins-one g f rest begins opens.begins in
    let there : IsAsked f.admin f.entry (Some kinds.Create) = subst (λ (x : Front). Asks x.admin x.entry kinds.Create) same asks in
    opens.kept (one_asked f.admin f.entry asked (Some kinds.Create) opens.asks there)

same-length : (block : ℕ) (rest : List ℕ) (f g : Front) (asked other : Option Asked) → Opens rest f asked → Opens rest g other → HasLength block f asked → HasLength block g other
same-length block rest f g asked other p q sized =
    let same = opens-one rest f g asked other p q in
    subst (λ (x : Front). HasLength block x other) same.0 (subst (λ (k : Option Asked). HasLength block f k) same.1 sized)

-- nothing that stands behind a stream is both short and a frame with a fault
short-or-bad : (block : ℕ) (cs : List Command) (rest : List ℕ) (kind : StreamFaultKind) → IsShort block cs rest → Lacks block cs rest kind → ⊥
short-or-bad block cs rest kind (inl few) l = omega (arith, few, lacks-some block cs rest kind l)
short-or-bad block cs rest faults.Head (inr (f, asked, opens, sized, room, less)) l = l.1 f opens.begins
short-or-bad block cs rest faults.Create (inr (f, asked, opens, sized, room, less)) (g, begins, asks) = no-create rest f g asked opens begins asks
short-or-bad block cs rest faults.Length (inr (f, asked, opens, sized, room, less)) (g, other, opens-g, wrong) = wrong (same-length block rest f g asked other opens opens-g sized)
short-or-bad block cs rest faults.Many (inr (f, asked, opens, sized, room, less)) (g, other, opens-g, sized-g, full) =
    let same = opens-one rest f g asked other opens opens-g in
    full (subst (HasRoom cs) (λ i. reads_in (same.1 i) (same.0 i).entry) room)
short-or-bad block cs rest faults.Cut (inr h) l = l

one_kind_of_fault : (block : ℕ) (cs : List Command) (rest : List ℕ) (j k : StreamFaultKind) → Lacks block cs rest j → Lacks block cs rest k → j ≡ k
one_kind_of_fault block cs rest faults.Head faults.Head l m = refl
one_kind_of_fault block cs rest faults.Head faults.Create l (g, begins, asks) = absurd (l.1 g begins)
one_kind_of_fault block cs rest faults.Head faults.Length l (g, asked, opens, wrong) = absurd (l.1 g opens.begins)
one_kind_of_fault block cs rest faults.Head faults.Many l (g, asked, opens, sized, full) = absurd (l.1 g opens.begins)
one_kind_of_fault block cs rest faults.Head faults.Cut l m = absurd m
one_kind_of_fault block cs rest faults.Create faults.Head (g, begins, asks) m = absurd (m.1 g begins)
one_kind_of_fault block cs rest faults.Create faults.Create l m = refl
one_kind_of_fault block cs rest faults.Create faults.Length (g, begins, asks) (f, asked, opens, wrong) = absurd (no-create rest f g asked opens begins asks)
one_kind_of_fault block cs rest faults.Create faults.Many (g, begins, asks) (f, asked, opens, sized, full) = absurd (no-create rest f g asked opens begins asks)
one_kind_of_fault block cs rest faults.Create faults.Cut l m = absurd m
one_kind_of_fault block cs rest faults.Length faults.Head (g, asked, opens, wrong) m = absurd (m.1 g opens.begins)
one_kind_of_fault block cs rest faults.Length faults.Create (f, asked, opens, wrong) (g, begins, asks) = absurd (no-create rest f g asked opens begins asks)
one_kind_of_fault block cs rest faults.Length faults.Length l m = refl
one_kind_of_fault block cs rest faults.Length faults.Many (g, other, opens-g, wrong) (f, asked, opens, sized, full) = absurd (wrong (same-length block rest f g asked other opens opens-g sized))
one_kind_of_fault block cs rest faults.Length faults.Cut l m = absurd m
one_kind_of_fault block cs rest faults.Many faults.Head (g, asked, opens, sized, full) m = absurd (m.1 g opens.begins)
one_kind_of_fault block cs rest faults.Many faults.Create (f, asked, opens, sized, full) (g, begins, asks) = absurd (no-create rest f g asked opens begins asks)
one_kind_of_fault block cs rest faults.Many faults.Length (f, asked, opens, sized, full) (g, other, opens-g, wrong) = absurd (wrong (same-length block rest f g asked other opens opens-g sized))
one_kind_of_fault block cs rest faults.Many faults.Many l m = refl
one_kind_of_fault block cs rest faults.Many faults.Cut l m = absurd m
one_kind_of_fault block cs rest faults.Cut k l m = absurd l

same-place : (a b n : List ℕ) (x y : ℕ) → a ≡ b → x + length a ≡ length n → y + length b ≡ length n → x ≡ y
same-place a b n x y same px py = omega (arith, px, py, ap (λ (t : List ℕ). length t) same)

pub one-broken : (block : ℕ) (bytes : List ℕ) (f g : StreamFault) → IsBlockSize block → IsBroken block bytes f → IsBroken block bytes g → f ≡ g
one-broken block bytes f g is (cs, inl p) (ds, inl q) =
    let same = one-splitting block bytes cs ds p.rest q.rest is p.splits q.splits in
    let at = same-place p.rest q.rest bytes f.at g.at same.1 p.place q.place in
    let here = subst (λ (t : List ℕ). Lacks block ds t f.kind) same.1 (subst (λ (t : List Command). Lacks block t p.rest f.kind) same.0 p.lacks) in
    let kind = one_kind_of_fault block ds q.rest f.kind g.kind here q.lacks in
    λ i. record { at = at i; kind = kind i }
one-broken block bytes f g is (cs, inl p) (ds, inr (cut, q)) =
    let same = one-splitting block bytes cs ds p.rest q.rest is p.splits q.splits in
    let here = subst (λ (t : List ℕ). Lacks block ds t f.kind) same.1 (subst (λ (t : List Command). Lacks block t p.rest f.kind) same.0 p.lacks) in
    absurd (short-or-bad block ds q.rest f.kind q.short here)
one-broken block bytes f g is (cs, inr (cut, p)) (ds, inl q) =
    let same = one-splitting block bytes ds cs q.rest p.rest is q.splits p.splits in
    let here = subst (λ (t : List ℕ). Lacks block cs t g.kind) same.1 (subst (λ (t : List Command). Lacks block t q.rest g.kind) same.0 q.lacks) in
    absurd (short-or-bad block cs p.rest g.kind p.short here)
one-broken block bytes f g is (cs, inr (cut, p)) (ds, inr (other, q)) =
    let same = one-splitting block bytes cs ds p.rest q.rest is p.splits q.splits in
    let at = same-place p.rest q.rest bytes f.at g.at same.1 p.place q.place in
    let kind = cut ∙ sym other in
    λ i. record { at = at i; kind = kind i }
