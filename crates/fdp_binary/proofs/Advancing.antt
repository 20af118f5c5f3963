-- The reader goes on, frame by frame and piece by piece.
use Rattle.std.proofs.Common.{◌≡◌, inl, inr, ℕ, ◌+◌, ◌-◌, ◌<◌, ◌≤◌, List, [], ◌∷◌, ◌++◌, length, take, drop, Option, Some, None, refl, sym, ap, subst, ◌∙◌, arith, append_assoc}
use Rattle.std.specs.Prelude.{MatchOption}
use Rattle.std.specs.List.{sum_by}
use Rattle.std.proofs.Math.Seq.{take-add, take-length}
use Rattle.std.proofs.lemmas.List.{append-nil, length-append, length-drop, length-take-le, take-append-drop}
use Rattle.std.proofs.lemmas.List.Sums.{sum_by-append}
use Rattle.fdp_base.specs.declared.command.Command.{Command}
use Rattle.fdp_base.specs.CommandKinds.{blocks_read}
use Rattle.fdp_binary.specs.declared.asked.Asked.{Asked}
use Rattle.fdp_binary.specs.declared.fault.StreamFault.{StreamFault}
use Rattle.fdp_binary.specs.declared.fault.StreamFaultKind.{StreamFaultKind}
use Rattle.fdp_binary.specs.declared.fault.StreamFaultKind.TheVariants as faults
use Rattle.fdp_binary.specs.declared.frames.Reached.{Reached}
use Rattle.fdp_binary.specs.declared.next.Passed.{Passed}
use Rattle.fdp_binary.specs.Asked.{reads_in}
use Rattle.fdp_binary.specs.Saying.{Says}
use Rattle.fdp_binary.specs.Streams.{AreFew, HasRoom, IsBroken, IsFaultOf, IsShort, IsStream, Lacks, Splits}
use Rattle.fdp_binary.specs.Reader.{GoesOn, IsPassed, IsWhole, Reaches}
use Rattle.fdp_binary.specs.Reading.{HasRead, IsWaiting, Stream}
use Rattle.fdp_binary.proofs.Asking.{one_asked}
use Rattle.fdp_binary.proofs.Said.{kind_of, said-kind}
use Rattle.fdp_binary.proofs.Splitting.{IsLongest, fault-more, frame-length, longest-lacks, longest-short, no-stream, one-frame-stream, room-few, streams-joined}

-- ---- a frame

pub whole-next : (block : ℕ) (cs : List Command) (bytes : List ℕ) (p : Passed) (c : Command) → IsPassed block cs bytes p → 80 ≤ length bytes → p.front.len ≤ length bytes - 80
    → Says block p.front.admin p.front.entry (take (80 + p.front.len - 80) (drop 80 bytes)) c → IsWhole block cs bytes c p.front.len
whole-next block cs bytes p c passed there enough says =
    let len = p.front.len in
    let n : 80 + len - 80 ≡ len = omega arith in
    let body = take len (drop 80 bytes) in
    let said = subst (λ (k : ℕ). Says block p.front.admin p.front.entry (take k (drop 80 bytes)) c) n says in
    let k = said-kind block p.front.admin p.front.entry body c said in
    let same : p.asked ≡ kind_of c = one_asked p.front.admin p.front.entry p.asked (kind_of c) passed.opens.asks k.asks in
    record {
      there = omega (arith, there, enough);
      frame = record {
        front = p.front;
        body = body;
        sound = passed.opens.begins.sound;
        sized = length-take-le len (drop 80 bytes) (omega (arith, enough, length-drop 80 bytes));
        whole = take-add 80 len bytes ∙ ap (λ (t : List ℕ). t ++ body) passed.opens.begins.is;
        says = said;
      };
      room = subst (HasRoom cs) (ap (λ (a : Option Asked). reads_in a p.front.entry) same ∙ sym k.reads) passed.room;
    }

-- ---- frame by frame

pub goes-start : (block : ℕ) (cs : List Command) (bytes : List ℕ) → AreFew cs → GoesOn block cs cs bytes 0
goes-start block cs bytes few = record { added = []; grown = sym (append-nil cs); within = omega arith; stream = no-stream block; few = few; bounded = omega arith }

few-back : (xs ys : List Command) → AreFew (xs ++ ys) → AreFew ys
few-back xs ys few = (omega (arith, length-append xs ys, few.0), omega (arith, sum_by-append blocks_read xs ys, few.1))

pub goes-next : (block : ℕ) (old mid new : List Command) (bytes : List ℕ) (done len : ℕ) (c : Command) → GoesOn block old mid bytes done → IsWhole block mid (drop done bytes) c len → new ≡ mid ++ c ∷ [] → GoesOn block old new bytes (done + (80 + len))
goes-next block old mid new bytes done len c goes whole pushed =
    let frame = take (80 + len) (drop done bytes) in
    let there : 80 + len ≤ length (drop done bytes) = whole.there in
    let fits : AreFew (mid ++ c ∷ []) = room-few mid c whole.room in
    let more : AreFew (goes.added ++ c ∷ []) = few-back old (goes.added ++ c ∷ []) (subst AreFew (ap (λ (t : List Command). t ++ c ∷ []) goes.grown ∙ append_assoc old goes.added (c ∷ [])) fits) in
    let both = streams-joined block (take done bytes) frame goes.added (c ∷ []) goes.stream (one-frame-stream block frame c whole.frame (few-back goes.added (c ∷ []) more)) more in
    let size : 80 + len ≡ 80 + whole.frame.front.len = sym (length-take-le (80 + len) (drop done bytes) there) ∙ frame-length block frame c whole.frame in
    record {
      added = goes.added ++ c ∷ [];
      grown = pushed ∙ ap (λ (t : List Command). t ++ c ∷ []) goes.grown ∙ append_assoc old goes.added (c ∷ []);
      within = omega (arith, goes.within, there, length-drop done bytes);
      stream = subst (λ (t : List ℕ). IsStream block t (goes.added ++ c ∷ [])) (sym (take-add done (80 + len) bytes)) both;
      few = subst AreFew (sym pushed) fits;
      bounded = omega (arith, goes.bounded, size, whole.frame.sound.short, length-append goes.added (c ∷ []));
    }

pub sum-next : (cs new : List Command) (c : Command) (blocks : ℕ) → blocks ≡ sum_by blocks_read cs → new ≡ cs ++ c ∷ [] → blocks + blocks_read c ≡ sum_by blocks_read new
sum-next cs new c blocks counted pushed = omega (arith, counted, ap (sum_by blocks_read) pushed, sum_by-append blocks_read cs (c ∷ []))

-- ---- piece by piece

-- the bytes with a piece, cut behind the frames that it completes
splits-on : (block : ℕ) (bytes piece rest : List ℕ) (cs new : List Command) (done : ℕ) → Splits block bytes cs rest → GoesOn block cs new (rest ++ piece) done → IsLongest block new (drop done (rest ++ piece)) → Splits block (bytes ++ piece) new (drop done (rest ++ piece))
splits-on block bytes piece rest cs new done splits goes longest =
    let all = rest ++ piece in
    let cut : take done all ++ drop done all ≡ all = take-append-drop done all in
    record {
      front = splits.front ++ take done all;
      whole =
          ap (λ (t : List ℕ). t ++ piece) splits.whole
          ∙ append_assoc splits.front rest piece
          ∙ ap (λ (t : List ℕ). splits.front ++ t) (sym cut)
          ∙ sym (append_assoc splits.front (take done all) (drop done all));
      stream = subst (IsStream block (splits.front ++ take done all)) (sym goes.grown) (streams-joined block splits.front (take done all) cs goes.added splits.stream goes.stream (subst AreFew goes.grown goes.few));
      longest = longest;
    }

place-on : (bytes piece rest : List ℕ) (at done : ℕ) → at + length rest ≡ length bytes → done ≤ length (rest ++ piece) → at + done + length (drop done (rest ++ piece)) ≡ length (bytes ++ piece)
place-on bytes piece rest at done place within = omega (arith, place, within, length-drop done (rest ++ piece), length-append rest piece, length-append bytes piece)

pub waits-on : (s : Stream) (bytes piece : List ℕ) (new : List Command) (done : ℕ) → IsWaiting s bytes → GoesOn s.block s.commands new (s.rest ++ piece) done → IsShort s.block new (drop done (s.rest ++ piece))
    → IsWaiting (record s { commands = new; rest = drop done (s.rest ++ piece); at = s.at + done }) (bytes ++ piece)
waits-on s bytes piece new done w goes short = record {
  splits = splits-on s.block bytes piece s.rest s.commands new done w.splits goes (longest-short s.block new (drop done (s.rest ++ piece)) short);
  place = place-on bytes piece s.rest s.at done w.place goes.within;
  short = short;
}

pub breaks-on : (s : Stream) (bytes piece : List ℕ) (new : List Command) (done : ℕ) (kind : StreamFaultKind) → IsWaiting s bytes → GoesOn s.block s.commands new (s.rest ++ piece) done → Lacks s.block new (drop done (s.rest ++ piece)) kind
    → IsFaultOf s.block (bytes ++ piece) new (record { at = s.at + done; kind = kind })
breaks-on s bytes piece new done kind w goes lacks = record {
  rest = drop done (s.rest ++ piece);
  splits = splits-on s.block bytes piece s.rest s.commands new done w.splits goes (longest-lacks s.block new (drop done (s.rest ++ piece)) kind lacks);
  place = place-on bytes piece s.rest s.at done w.place goes.within;
  lacks = lacks;
}

-- ---- the end

pub ends-whole : (s : Stream) (bytes : List ℕ) → IsWaiting s bytes → s.rest ≡ [] → IsStream s.block bytes s.commands
ends-whole s bytes w none =
    let whole : bytes ≡ w.splits.front = w.splits.whole ∙ ap (λ (t : List ℕ). w.splits.front ++ t) none ∙ append-nil w.splits.front in
    subst (λ (t : List ℕ). IsStream s.block t s.commands) (sym whole) w.splits.stream

pub ends-cut : (s : Stream) (bytes : List ℕ) → IsWaiting s bytes → 0 < length s.rest → IsBroken s.block bytes (record { at = s.at; kind = faults.Cut })
ends-cut s bytes w some = (s.commands, inr (refl, record { rest = s.rest; splits = w.splits; place = w.place; some = some; short = w.short }))

pub ends-bad : (block : ℕ) (bytes : List ℕ) (cs : List Command) (fault : StreamFault) → IsFaultOf block bytes cs fault → IsBroken block bytes fault
ends-bad block bytes cs fault is = (cs, inl is)

-- ---- a piece

-- what was read of a fault goes on
stays : (s : Stream) (bytes piece : List ℕ) (was : Option StreamFault) (fault : StreamFault) → was ≡ Some fault → MatchOption was (IsWaiting s bytes) (IsFaultOf s.block bytes s.commands) → MatchOption was (IsWaiting s (bytes ++ piece)) (IsFaultOf s.block (bytes ++ piece) s.commands)
stays s bytes piece None fault is read = absurd cc
stays s bytes piece (Some f) fault is read = fault-more s.block bytes piece s.commands f read

pub read-stays : (s : Stream) (bytes piece : List ℕ) (fault : StreamFault) → s.fault ≡ Some fault → HasRead s bytes → HasRead s (bytes ++ piece)
read-stays s bytes piece fault is read = stays s bytes piece s.fault fault is read

waiting : (s : Stream) (bytes : List ℕ) (was : Option StreamFault) → was ≡ None → MatchOption was (IsWaiting s bytes) (IsFaultOf s.block bytes s.commands) → IsWaiting s bytes
waiting s bytes None is read = read
waiting s bytes (Some f) is read = absurd cc

pub read-waiting : (s : Stream) (bytes : List ℕ) → s.fault ≡ None → HasRead s bytes → IsWaiting s bytes
read-waiting s bytes is read = waiting s bytes s.fault is read

waits : (s : Stream) (bytes : List ℕ) (was : Option StreamFault) → was ≡ None → IsWaiting s bytes → MatchOption was (IsWaiting s bytes) (IsFaultOf s.block bytes s.commands)
waits s bytes None is w = w
waits s bytes (Some f) is w = absurd cc

pub waiting-read : (s : Stream) (bytes : List ℕ) → s.fault ≡ None → IsWaiting s bytes → HasRead s bytes
waiting-read s bytes is w = waits s bytes s.fault is w

behind-none : (short : Type 0) (bad : StreamFaultKind → Type 0) (kind : Option StreamFaultKind) → kind ≡ None → MatchOption kind short bad → short
behind-none short bad None is h = h
behind-none short bad (Some k) is h = absurd cc

behind-some : (short : Type 0) (bad : StreamFaultKind → Type 0) (kind : Option StreamFaultKind) (k : StreamFaultKind) → kind ≡ Some k → MatchOption kind short bad → bad k
behind-some short bad None k is h = absurd cc
behind-some short bad (Some j) k is h = let same : j ≡ k = cc in subst bad same h

pub fed-waits : (s : Stream) (bytes piece all left : List ℕ) (new : List Command) (reached : Reached) → all ≡ s.rest ++ piece → left ≡ drop reached.done all → reached.fault ≡ None → Reaches s.block s.commands new all reached → IsWaiting s bytes
    → IsWaiting (record s { commands = new; rest = left; at = s.at + reached.done }) (bytes ++ piece)
fed-waits s bytes piece all left new reached whole cut is reaches w =
    let r = subst (λ (t : List ℕ). Reaches s.block s.commands new t reached) whole reaches in
    let rest = drop reached.done (s.rest ++ piece) in
    let short = behind-none (IsShort s.block new rest) (Lacks s.block new rest) reached.fault is r.behind in
    let same : rest ≡ left = sym (cut ∙ ap (drop reached.done) whole) in
    subst (λ (t : List ℕ). IsWaiting (record s { commands = new; rest = t; at = s.at + reached.done }) (bytes ++ piece)) same (waits-on s bytes piece new reached.done w r.goes short)

pub fed-breaks : (s : Stream) (bytes piece all : List ℕ) (new : List Command) (reached : Reached) (kind : StreamFaultKind) → all ≡ s.rest ++ piece → reached.fault ≡ Some kind → Reaches s.block s.commands new all reached → IsWaiting s bytes
    → IsFaultOf s.block (bytes ++ piece) new (record { at = s.at + reached.done; kind = kind })
fed-breaks s bytes piece all new reached kind whole is reaches w =
    let r = subst (λ (t : List ℕ). Reaches s.block s.commands new t reached) whole reaches in
    let rest = drop reached.done (s.rest ++ piece) in
    breaks-on s bytes piece new reached.done kind w r.goes (behind-some (IsShort s.block new rest) (Lacks s.block new rest) reached.fault kind is r.behind)

-- the bytes from an offset on, as the code cuts them
pub rest-is : (bytes : List ℕ) (done : ℕ) → take (length bytes - done) (drop done bytes) ≡ drop done bytes
rest-is bytes done = ap (λ (n : ℕ). take n (drop done bytes)) (sym (length-drop done bytes)) ∙ take-length (drop done bytes)
