-- What the crews of a lock have done, read off the value that it gives back.
use Rattle.std.proofs.Common.{◌≡◌, ◌≢◌, ◌⊎◌, ℕ, zero, suc, ◌+◌, ◌-◌, ◌<◌, ◌≤◌, Bool, true, false, cond, get_or, List, [], ◌∷◌, ◌++◌, Option, Some, None, length, refl, sym, ◌∙◌, ap, subst, arith, inl, inr, nat_eq}
use mathlib.Core.List.{eq-nil_of_sublist-nil}
use Rattle.std.specs.Prelude.{All, map, slice_index_or, ◌==◌, ◌&&◌}
use Rattle.std.specs.Option.{option_map_or}
use Rattle.std.proofs.lemmas.Bool.{cases_lt}
use Rattle.std.proofs.lemmas.Bool.Decides.{nat_tests}
use Rattle.std.proofs.lemmas.List.{length-map}
use Rattle.std.proofs.lemmas.List.Elements.{All-append, All-cons, All-head, All-map, All-nil, All-tail}
use Rattle.fdp_base.specs.declared.command.Command.{Command}
use Rattle.fdp_base.specs.declared.entry.Entry.{Entry}
use Rattle.fdp_base.specs.declared.entry.Started.{Started}
use Rattle.fdp_base.specs.declared.recorded.Mark.{Mark}
use Rattle.fdp_base.specs.EntryKinds.{started_of}
use Rattle.fdp_base.specs.Numbers.{numbers_from}
use Rattle.fdp_base.specs.Records.{carrying, CarriesNone}
use Rattle.fdp_base.proofs.Records.{carrying-none, nil-prefix}
use Rattle.fdp_gauge.specs.declared.gauge.Gauge.{Gauge}
use Rattle.fdp_lock.specs.declared.lock.GroupLock.{GroupLock}
use Rattle.fdp_lock.specs.declared.seat.Seat.{Seat}
use Rattle.fdp_lock.specs.Seats.{GoesOn, number_of, made_of}
use Rattle.fdp_rules.specs.Queue.{IsSilent}
use Rattle.fdp_workers.specs.declared.ends.End.{End}
use Rattle.fdp_workers.specs.declared.ends.End.TheVariants as ends
use Rattle.fdp_workers.specs.declared.receipt.Receipt.{Receipt}
use Rattle.fdp_workers.specs.Hosting.{run_of}
use Rattle.fdp_workers.specs.Queues.{Has, Serves, ServesWhole, so_far}
use Rattle.fdp_workers.specs.Run.{IsHistory, Run}
use Rattle.fdp_workers.proofs.Serving.{idle-serves, nothing-yet}
use Rattle.fdp_workers.proofs.Turning.{expects-has}
use Rattle.fdp_crews.specs.declared.sweeper.Sweeper.{Sweeper}
use Rattle.fdp_crews.specs.declared.worker.Worker.{Worker}
use Rattle.fdp_crews.proofs.Lists.{all-both, found-at, number-in}
use Rattle.fdp_crews.specs.Crews.{HasServedFor, HasSwept, LeavesSome, trace_of}
use Rattle.fdp_crews.specs.Leaving.{IsSomeNotWhole}
use Rattle.fdp_crews.specs.Shifts.{EndsAs, HasLeft, HasTrace, IsShift}
use Rattle.fdp_base.specs.declared.limits.TheConstants.{MOST_STEPS}

-- ---- a queue of which the record has nothing

pub nothing-there : {I : Type 0} (run : Run) (entry : I → Entry) (mark : I → Mark) (queue : ℕ) (trace : List Command) (items : List I) → carrying mark queue items ≡ [] → IsHistory run entry mark items → Has run queue (so_far trace 0 []) (map entry items)
nothing-there run entry mark queue trace items none history =
    expects-has run entry mark queue (so_far trace 0 []) [] [] refl (nothing-yet run queue trace) items (nil-prefix items) none history

pub nothing-served : (run : Run) (queue : ℕ) (trace : List Command) (es : List Entry) → Has run queue (so_far trace 0 []) es → Serves run queue trace [] es
nothing-served run queue trace es h = idle-serves run queue trace 0 [] es h

pub nothing-silent : (run : Run) (queue : ℕ) (trace : List Command) (es : List Entry) → Has run queue (so_far trace 0 []) es → IsSilent queue es
nothing-silent run queue trace es h = record { completes = h.commands; starts = eq-nil_of_sublist-nil h.starts }

equal-or-not : (a b : ℕ) → (a ≡ b) ⊎ (a ≢ b)
equal-or-not a b =
    elim (cases_lt a b) [
      | inl below ↦ inr (λ same. absurd (omega (arith, below, same)))
      | inr above ↦ elim (cases_lt b a) [
        | inl less ↦ inr (λ same. absurd (omega (arith, less, same)))
        | inr more ↦ inl (omega (arith, above, more))
      ]
    ]

-- what a queue has then done of its trace
record HasDone (run : Run) (traces : List (List Command)) (es : List Entry) (queue : ℕ) (receipts : List Receipt) (end : End) : Type 0 where
  pub serves : Serves run queue (trace_of traces queue) receipts es
  pub whole : end ≡ ends.Whole → ServesWhole run queue (trace_of traces queue) es
  pub left : end ≢ ends.Whole → LeavesSome queue (trace_of traces queue) es

-- ---- ends that are not whole

turns-open : ends.Turns ≢ ends.Whole
turns-open same = absurd cc

memory-open : ends.NoMemory ≢ ends.Whole
memory-open same = absurd cc

-- ---- seats that came back

module _ {S O I : Type 0} {g : _} (origin : S → O) (entries : S → List I) (run : O → Run) (entry : I → Entry) (mark : I → Mark) (lock : GroupLock S O I) (gauge : Gauge) where
  -- the first seat, hosts and collectors of a lock that ended with this value
  pub record AreBack (traces : List (List Command)) (head : Seat S O I g) (ws : List (Worker S O I g)) (ss : List (Sweeper S O I g)) (value : S) : Type 0 where
    pub first : number_of head ≡ 0
    pub numbers : map (λ w. number_of w.seat) ws ≡ numbers_from 1 (length ws)
    pub sized : length ws ≡ length traces
    pub served : All (λ w. HasServedFor origin run entry mark lock gauge traces w) ws
    pub swept : All (λ w. HasSwept origin lock gauge w) ss
    pub by_hosts : All (λ w. GoesOn origin entries mark w.seat value) ws
    pub by_collectors : All (λ w. GoesOn origin entries mark w.seat value) ss
    pub no_others : (q : ℕ) → q ≢ 0 → All (λ s. number_of s ≢ q) (head ∷ map (λ w. w.seat) ws ++ map (λ w. w.seat) ss) → carrying mark q (entries value) ≡ []
    pub history : IsHistory (run_of origin run lock) entry mark (entries value)

  -- the host of a queue
  record IsHostOf (traces : List (List Command)) (ws : List (Worker S O I g)) (value : S) (queue : ℕ) : Type 0 where
    pub host : Worker S O I g
    pub served : HasServedFor origin run entry mark lock gauge traces host
    pub goes_on : GoesOn origin entries mark host.seat value
    pub number_is : number_of host.seat ≡ queue
    pub receipts_are : get_or (map (λ w. w.receipts.items) ws) (queue - 1) [] ≡ host.receipts.items
    pub end_is : get_or (map (λ w. w.end) ws) (queue - 1) ends.Whole ≡ host.end

  host-of : (traces : List (List Command)) (head : Seat S O I g) (ws : List (Worker S O I g)) (ss : List (Sweeper S O I g)) (value : S) → AreBack traces head ws ss value → (queue : ℕ) → HasTrace traces queue → IsHostOf traces ws value queue
  host-of traces head ws ss value b queue has =
      let P : Worker S O I g → Type 0 = λ w. HasServedFor origin run entry mark lock gauge traces w × GoesOn origin entries mark w.seat value in
      let all : All P ws = all-both (λ w. HasServedFor origin run entry mark lock gauge traces w) (λ w. GoesOn origin entries mark w.seat value) ws b.served b.by_hosts in
      let high : queue < 1 + length ws = omega (arith, has.most, b.sized) in
      let f = found-at (λ (w : Worker S O I g). number_of w.seat) (λ (w : Worker S O I g). (w.receipts.items, w.end)) ([], ends.Whole) P ws 1 queue b.numbers has.least high all in
      record {
        host = f.0;
        served = f.1.0;
        goes_on = f.1.1;
        number_is = f.2;
        receipts_are = sym (split-first ws (queue - 1)) ∙ ap (λ (x : List Receipt × End). x.0) f.3;
        end_is = sym (split-second ws (queue - 1)) ∙ ap (λ (x : List Receipt × End). x.1) f.3;
      }
    where
      split-first : (ws : List (Worker S O I g)) (i : ℕ) → (get_or {A = List Receipt × End} (map (λ (w : Worker S O I g). (w.receipts.items, w.end)) ws) i ([], ends.Whole)).0 ≡ get_or (map (λ w. w.receipts.items) ws) i []
      split-first [] i = refl
      split-first (w ∷ ws) zero = refl
      split-first (w ∷ ws) (suc i) = split-first ws i

      split-second : (ws : List (Worker S O I g)) (i : ℕ) → (get_or {A = List Receipt × End} (map (λ (w : Worker S O I g). (w.receipts.items, w.end)) ws) i ([], ends.Whole)).1 ≡ get_or (map (λ w. w.end) ws) i ends.Whole
      split-second [] i = refl
      split-second (w ∷ ws) zero = refl
      split-second (w ∷ ws) (suc i) = split-second ws i

  done-by : (traces : List (List Command)) (ws : List (Worker S O I g)) (value : S) (queue : ℕ) → queue ≢ 0 → IsHistory (run_of origin run lock) entry mark (entries value) → (h : IsHostOf traces ws value queue) → HasDone (run_of origin run lock) traces (map entry (entries value)) queue h.host.receipts.items h.host.end
  done-by traces ws value queue low history h =
      let own : carrying mark (number_of h.host.seat) (entries value) ≡ made_of h.host.seat = h.goes_on.made (λ zero. low (sym h.number_is ∙ zero)) in
      let es = map entry (entries value) in
      record {
        serves = subst (λ (q : ℕ). Serves (run_of origin run lock) q (trace_of traces q) h.host.receipts.items es) h.number_is (h.served.serves (entries value) h.goes_on.seen own history);
        whole = λ end. subst (λ (q : ℕ). ServesWhole (run_of origin run lock) q (trace_of traces q) es) h.number_is (h.served.whole end (entries value) h.goes_on.seen own history);
        left = λ end. subst (λ (q : ℕ). LeavesSome q (trace_of traces q) es) h.number_is (h.served.left end (entries value) h.goes_on.seen own history);
      }

  -- a number that no seat has, or whose seats made nothing, is carried by no entry
  carried-none : (q : ℕ) (items : List I) (ss : List (Seat S O I g)) → All (λ s. number_of s ≡ q → carrying mark q items ≡ []) ss → (All (λ s. number_of s ≢ q) ss → carrying mark q items ≡ []) → carrying mark q items ≡ []
  carried-none q items [] made none = none (All-nil (λ s. number_of s ≢ q))
  carried-none q items (s ∷ ss) made none =
      elim (equal-or-not (number_of s) q) [
        | inl same ↦ All-head (λ s. number_of s ≡ q → carrying mark q items ≡ []) s ss made same
        | inr other ↦ carried-none q items ss (All-tail (λ s. number_of s ≡ q → carrying mark q items ≡ []) s ss made) (λ all. none (All-cons (λ s. number_of s ≢ q) s ss other all))
      ]

  others-carry : (traces : List (List Command)) (head : Seat S O I g) (ws : List (Worker S O I g)) (ss : List (Sweeper S O I g)) (value : S) → AreBack traces head ws ss value → (q : ℕ) → length traces < q → carrying mark q (entries value) ≡ []
  others-carry traces head ws ss value b q high =
      let P : Seat S O I g → Type 0 = λ s. number_of s ≡ q → carrying mark q (entries value) ≡ [] in
      carried-none q (entries value) (head ∷ map (λ w. w.seat) ws ++ map (λ w. w.seat) ss)
      (All-cons P head (map (λ w. w.seat) ws ++ map (λ w. w.seat) ss) (λ same. absurd (omega (arith, same, b.first, high)))
      (All-append P (map (λ w. w.seat) ws) (map (λ w. w.seat) ss)
      (All-map P (λ w. w.seat) ws (λ k d low same. absurd (let p = number-in (λ (w : Worker S O I g). number_of w.seat) ws 1 b.numbers k d low in omega (arith, p.0, p.1, same, high, b.sized))))
      (All-map P (λ w. w.seat) ss (λ k d low same.
      let swept = b.swept k d low in
      let goes = b.by_collectors k d low in
      let not_zero : number_of (slice_index_or ss k d).seat ≢ 0 = λ zero. absurd (omega (arith, zero, same, high)) in
      subst (λ (n : ℕ). carrying mark n (entries value) ≡ []) same (goes.made not_zero ∙ swept.made)))))
      (b.no_others q (λ zero. absurd (omega (arith, zero, high))))

  end-at : (ws : List (Worker S O I g)) (i : ℕ) (d : End) → i < length (map (λ w. w.end) ws) → slice_index_or (map (λ w. w.end) ws) i d ≡ get_or (map (λ w. w.end) ws) i ends.Whole
  end-at [] i d low = absurd (omega (arith, low))
  end-at (w ∷ ws) zero d low = refl
  end-at (w ∷ ws) (suc i) d low = end-at ws i d (omega (arith, low))

  whole-at : (ws : List (Worker S O I g)) (i : ℕ) → All (λ w. w.end ≡ ends.Whole) ws → get_or (map (λ w. w.end) ws) i ends.Whole ≡ ends.Whole
  whole-at [] i all = refl
  whole-at (w ∷ ws) zero all = All-head (λ w. w.end ≡ ends.Whole) w ws all
  whole-at (w ∷ ws) (suc i) all = whole-at ws i (All-tail (λ w. w.end ≡ ends.Whole) w ws all)

  -- how it ended
  pub record Ended (ws : List (Worker S O I g)) (hosts end : End) (spent : ℕ) : Type 0 where
    pub whole : hosts ≡ ends.Whole → All (λ w. w.end ≡ ends.Whole) ws
    pub left : hosts ≢ ends.Whole → IsSomeNotWhole (map (λ w. w.end) ws)
    pub end_whole : end ≡ ends.Whole → hosts ≡ ends.Whole
    pub end_left : end ≢ ends.Whole → hosts ≢ ends.Whole
    pub end_spent : end ≡ ends.Turns → spent ≡ MOST_STEPS

  pub shift-made : (traces : List (List Command)) (head : Seat S O I g) (ws : List (Worker S O I g)) (ss : List (Sweeper S O I g)) (value : S) (hosts end : End) (spent : ℕ) → AreBack traces head ws ss value → Ended ws hosts end spent →
      IsShift (run_of origin run lock) traces (map (λ w. w.receipts.items) ws) (map entry (entries value)) spent end
  shift-made traces head ws ss value hosts end spent b e = record {
    orders = λ queue has. (done queue has).serves.order;
    starts = λ queue has. (done queue has).serves.starts;
    others = λ queue high.
        nothing-silent r queue [] es (nothing-there r entry mark queue [] (entries value) (others-carry traces head ws ss value b queue high) b.history);
    receipts_are = record {
      count = inl (length-map ws (λ w. w.receipts.items) ∙ b.sized);
      each = λ i low.
          let n : i < length traces = omega (arith, low, length-map ws (λ (w : Worker S O I g). w.receipts.items), b.sized) in
          let has : HasTrace traces (i + 1) = record { least = omega arith; most = omega (arith, n) } in
          let h = host-of traces head ws ss value b (i + 1) has in
          let place : i + 1 - 1 ≡ i = omega arith in
          ap (λ (k : ℕ). get_or (map (λ w. w.receipts.items) ws) k []) (sym place) ∙ h.receipts_are ∙ sym ((done (i + 1) has).serves.receipts_are);
    };
    ended = ended end refl;
  } where
    r : Run
    r = run_of origin run lock

    es : List Entry
    es = map entry (entries value)

    done : (queue : ℕ) → (has : HasTrace traces queue) → HasDone r traces es queue (host-of traces head ws ss value b queue has).host.receipts.items (host-of traces head ws ss value b queue has).host.end
    done queue has = done-by traces ws value queue (λ zero. absurd (omega (arith, zero, has.least))) b.history (host-of traces head ws ss value b queue has)

    has-left : end ≢ ends.Whole → HasLeft traces es
    has-left unfinished =
        let one = e.left (e.end_left unfinished) in
        let n : one.at < length traces = omega (arith, one.low, length-map ws (λ (w : Worker S O I g). w.end), b.sized) in
        let has : HasTrace traces (one.at + 1) = record { least = omega arith; most = omega (arith, n) } in
        let h = host-of traces head ws ss value b (one.at + 1) has in
        let place : one.at + 1 - 1 ≡ one.at = omega arith in
        let not : h.host.end ≢ ends.Whole = λ same. one.not_whole ends.Whole (end-at ws one.at ends.Whole one.low ∙ ap (λ (k : ℕ). get_or (map (λ w. w.end) ws) k ends.Whole) (sym place) ∙ h.end_is ∙ same) in
        record { queue = one.at + 1; is_queue = has; left = (done (one.at + 1) has).left not }

    ended : (x : End) → end ≡ x → EndsAs r traces (map (λ w. w.receipts.items) ws) es spent x
    ended ends.Whole is =
        ((λ queue has. (done queue has).whole (sym (host-of traces head ws ss value b queue has).end_is ∙ whole-at ws (queue - 1) (e.whole (e.end_whole is)))), length-map ws (λ w. w.receipts.items) ∙ b.sized)
    ended ends.Turns is = (has-left (λ whole. turns-open (sym is ∙ whole)), e.end_spent is)
    ended ends.NoMemory is = inl (has-left (λ whole. memory-open (sym is ∙ whole)))

-- ---- a session that did not begin

pub shift-rest : {I : Type 0} (run : Run) (entry : I → Entry) (mark : I → Mark) (traces : List (List Command)) (items : List I) (spent : ℕ) → CarriesNone mark items → IsHistory run entry mark items → IsShift run traces [] (map entry items) spent ends.NoMemory
shift-rest run entry mark traces items spent unmarked history = record {
  orders = λ queue has. (served queue (λ zero. absurd (omega (arith, zero, has.least)))).order;
  starts = λ queue has. (served queue (λ zero. absurd (omega (arith, zero, has.least)))).starts;
  others = λ queue high. let low : queue ≢ 0 = λ zero. absurd (omega (arith, zero, high)) in nothing-silent run queue (trace_of traces queue) (map entry items) (there queue low);
  receipts_are = record { count = inr refl; each = λ i low. absurd (omega (arith, low)) };
  ended = inr (record { no_receipts = refl; silent = λ queue low. nothing-silent run queue (trace_of traces queue) (map entry items) (there queue low) });
} where
  there : (queue : ℕ) → queue ≢ 0 → Has run queue (so_far (trace_of traces queue) 0 []) (map entry items)
  there queue low = nothing-there run entry mark queue (trace_of traces queue) items (carrying-none mark queue items unmarked low) history

  served : (queue : ℕ) → queue ≢ 0 → Serves run queue (trace_of traces queue) [] (map entry items)
  served queue low = nothing-served run queue (trace_of traces queue) (map entry items) (there queue low)
