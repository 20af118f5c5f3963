-- The seats of a lock that came back, and the end of the lock.
use Rattle.std.proofs.Common.{◌≡◌, ◌≢◌, ℕ, suc, ◌+◌, ◌<◌, List, [], ◌∷◌, ◌++◌, length, refl, sym, ◌∙◌, ap, arith}
use Rattle.std.specs.Prelude.{All, map, slice_index_or, sum_by}
use Rattle.std.proofs.lemmas.List.{length-map}
use Rattle.std.proofs.lemmas.List.Elements.{All-append, All-cons, All-map, All-tail}
use Rattle.std.proofs.lemmas.List.Sums.{sum_by-cons}
use Rattle.fdp_base.specs.declared.command.Command.{Command}
use Rattle.fdp_base.specs.declared.entry.Entry.{Entry}
use Rattle.fdp_base.specs.declared.recorded.Mark.{Mark}
use Rattle.fdp_base.specs.Numbers.{numbers_from}
use Rattle.fdp_base.specs.Records.{carrying}
use Rattle.fdp_gauge.specs.declared.gauge.Gauge.{Gauge}
use Rattle.fdp_gauge.specs.declared.gauge.Pass.{Pass}
use Rattle.fdp_gauge.specs.Passes.{IsPassOf}
use Rattle.fdp_lock.specs.declared.lock.GroupLock.{GroupLock}
use Rattle.fdp_lock.specs.declared.seat.Seat.{Seat}
use Rattle.fdp_lock.specs.Seats.{GoesOn, HoldsNoTurn, IsSeatOf, number_of, parts_of}
use Rattle.fdp_workers.specs.Hosting.{run_of}
use Rattle.fdp_workers.specs.Run.{IsHistory, Run}
use Rattle.fdp_crews.specs.declared.sweeper.Sweeper.{Sweeper}
use Rattle.fdp_crews.specs.declared.worker.Worker.{Worker}
use Rattle.fdp_crews.specs.Crews.{HasServedFor, HasSwept, HaveServed, IsFreeSeat}
use Rattle.fdp_crews.specs.Rooms.{IsHead}
use Rattle.fdp_crews.proofs.Lists.{all-behind, all-front, all-unmapped, sum-ones}
use Rattle.fdp_crews.proofs.Shifting.{AreBack}

-- the same numbers
pub same-numbers : {X : Type 0} (f : X → ℕ) (xs ys : List X) → length ys ≡ length xs → ((i : ℕ) (d : X) → i < length xs → f (slice_index_or ys i d) ≡ f (slice_index_or xs i d)) → map f ys ≡ map f xs
same-numbers f [] [] long same = refl
same-numbers f [] (y ∷ ys) long same = absurd (omega (arith, long))
same-numbers f (x ∷ xs) [] long same = absurd (omega (arith, long))
same-numbers f (x ∷ xs) (y ∷ ys) long same =
    ap (λ (n : ℕ). n ∷ map f ys) (same 0 x (omega arith)) ∙ ap (λ ns. f x ∷ ns) (same-numbers f xs ys (omega (arith, long)) (λ i d low. same (suc i) d (omega (arith, low))))

module _ {S O I : Type 0} {g : _} (origin : S → O) (entries : S → List I) (run : O → Run) (entry : I → Entry) (mark : I → Mark) (lock : GroupLock S O I) (gauge : Gauge) where
  -- all seats of the lock: the first one, those of the hosts and those of the collectors
  abbrev pub seats-of : Seat S O I g → List (Worker S O I g) → List (Sweeper S O I g) → List (Seat S O I g)
  seats-of head ws ss = head ∷ map (λ w. w.seat) ws ++ map (λ w. w.seat) ss

  free-seats : (traces : List (List Command)) (ws : List (Worker S O I g)) (ss : List (Sweeper S O I g)) → All (λ w. HasServedFor origin run entry mark lock gauge traces w) ws → All (λ w. HasSwept origin lock gauge w) ss →
      All (IsFreeSeat origin lock) (map (λ w. w.seat) ws ++ map (λ w. w.seat) ss)
  free-seats traces ws ss served swept =
      All-append (IsFreeSeat origin lock) (map (λ w. w.seat) ws) (map (λ w. w.seat) ss)
      (All-map (IsFreeSeat origin lock) (λ w. w.seat) ws (λ k d low. (served k d low).seat))
      (All-map (IsFreeSeat origin lock) (λ w. w.seat) ss (λ k d low. (swept k d low).seat))

  pub all-of-lock : (seen : List I) (given parts : ℕ) (traces : List (List Command)) (head : Seat S O I g) (ws : List (Worker S O I g)) (ss : List (Sweeper S O I g)) → IsHead origin lock seen given parts head → All (λ w. HasServedFor origin run entry mark lock gauge traces w) ws →
      All (λ w. HasSwept origin lock gauge w) ss → All (λ s. IsSeatOf origin lock s) (seats-of head ws ss)
  all-of-lock seen given parts traces head ws ss h served swept =
      let rest = map (λ w. w.seat) ws ++ map (λ w. w.seat) ss in
      All-cons (λ s. IsSeatOf origin lock s) head rest h.of_lock (λ k d low. (free-seats traces ws ss served swept k d low).of_lock)

  pub all-free : (seen : List I) (given parts : ℕ) (traces : List (List Command)) (head : Seat S O I g) (ws : List (Worker S O I g)) (ss : List (Sweeper S O I g)) → IsHead origin lock seen given parts head → All (λ w. HasServedFor origin run entry mark lock gauge traces w) ws →
      All (λ w. HasSwept origin lock gauge w) ss → All (λ s. HoldsNoTurn s) (seats-of head ws ss)
  all-free seen given parts traces head ws ss h served swept =
      let rest = map (λ w. w.seat) ws ++ map (λ w. w.seat) ss in
      All-cons (λ s. HoldsNoTurn s) head rest h.no_turn (λ k d low. (free-seats traces ws ss served swept k d low).no_turn)

  pub all-parts : (traces : List (List Command)) (head : Seat S O I g) (ws : List (Worker S O I g)) (ss : List (Sweeper S O I g)) → All (λ w. HasServedFor origin run entry mark lock gauge traces w) ws → All (λ w. HasSwept origin lock gauge w) ss →
      sum_by (λ s. parts_of s) (seats-of head ws ss) ≡ parts_of head + (length ws + length ss)
  all-parts traces head ws ss served swept =
      let hosts : List (Seat S O I g) = map (λ w. w.seat) ws in
      let collectors : List (Seat S O I g) = map (λ w. w.seat) ss in
      let free = free-seats traces ws ss served swept in
      let ones : sum_by (λ s. parts_of s) (hosts ++ collectors) ≡ length (hosts ++ collectors) = sum-ones (λ s. parts_of s) (hosts ++ collectors) (λ k d low. (free k d low).parts) in
      sum_by-cons (λ s. parts_of s) head (hosts ++ collectors) ∙ ap (λ (n : ℕ). parts_of head + n) (ones ∙ long ws ss)
    where
      long : (ws : List (Worker S O I g)) (ss : List (Sweeper S O I g)) → length (map (λ w. w.seat) ws ++ map (λ w. w.seat) ss) ≡ length ws + length ss
      long [] ss = omega (arith, length-map ss (λ (w : Sweeper S O I g). w.seat))
      long (w ∷ ws) ss = omega (arith, long ws ss)

  -- what stands once it ended with a value
  pub are-back : (seen : List I) (given parts : ℕ) (traces : List (List Command)) (head : Seat S O I g) (hired ws : List (Worker S O I g)) (ss : List (Sweeper S O I g)) (value : S) → IsHead origin lock seen given parts head → map (λ w. number_of w.seat) hired ≡ numbers_from 1 (length traces) → length hired ≡ length traces →
      HaveServed origin run entry mark lock gauge hired ws → All (λ w. HasServedFor origin run entry mark lock gauge traces w) ws → All (λ w. HasSwept origin lock gauge w) ss → All (λ s. GoesOn origin entries mark s value) (seats-of head ws ss) →
      ((q : ℕ) → q ≢ 0 → All (λ s. number_of s ≢ q) (seats-of head ws ss) → carrying mark q (entries value) ≡ []) → IsHistory (run_of origin run lock) entry mark (entries value) → AreBack origin entries run entry mark lock gauge traces head ws ss value
  are-back seen given parts traces head hired ws ss value h numbers long have served swept goes none history =
      let rest = All-tail (λ s. GoesOn origin entries mark s value) head (map (λ w. w.seat) ws ++ map (λ w. w.seat) ss) goes in
      let sized : length ws ≡ length traces = have.count ∙ long in
      record {
        first = h.number_is;
        numbers = same-numbers (λ (w : Worker S O I g). number_of w.seat) hired ws have.count have.numbers ∙ numbers ∙ ap (numbers_from 1) (sym sized);
        sized = sized;
        served = served;
        swept = swept;
        by_hosts = all-unmapped (λ s. GoesOn origin entries mark s value) (λ w. w.seat) ws (all-front (λ s. GoesOn origin entries mark s value) (map (λ w. w.seat) ws) (map (λ w. w.seat) ss) rest);
        by_collectors = all-unmapped (λ s. GoesOn origin entries mark s value) (λ w. w.seat) ss (all-behind (λ s. GoesOn origin entries mark s value) (map (λ w. w.seat) ws) (map (λ w. w.seat) ss) rest);
        no_others = none;
        history = history;
      }

  -- the passes that came back
  pub all-passes : (traces : List (List Command)) (pass : Pass) (ws : List (Worker S O I g)) (ss : List (Sweeper S O I g)) → IsPassOf gauge pass → All (λ w. HasServedFor origin run entry mark lock gauge traces w) ws → All (λ w. HasSwept origin lock gauge w) ss →
      All (λ p. IsPassOf gauge p) (pass ∷ map (λ w. w.pass) ws ++ map (λ w. w.pass) ss)
  all-passes traces pass ws ss is served swept =
      All-cons (λ p. IsPassOf gauge p) pass (map (λ w. w.pass) ws ++ map (λ w. w.pass) ss) is
      (All-append (λ p. IsPassOf gauge p) (map (λ w. w.pass) ws) (map (λ w. w.pass) ss)
      (All-map (λ p. IsPassOf gauge p) (λ w. w.pass) ws (λ k d low. (served k d low).pass))
      (All-map (λ p. IsPassOf gauge p) (λ w. w.pass) ss (λ k d low. (swept k d low).pass)))

-- pieces put one behind another
pub behind-one : {X : Type 0} (x : X) (none one two three ys zs : List X) → none ≡ [] → one ≡ none ++ x ∷ [] → two ≡ one ++ ys → three ≡ two ++ zs → three ≡ x ∷ ys ++ zs
behind-one x none one two three ys zs empty first second third =
    third ∙ ap (λ xs. xs ++ zs) (second ∙ ap (λ xs. xs ++ ys) (first ∙ ap (λ xs. xs ++ x ∷ []) empty))

-- the lists of receipts
pub mapped-items : {S O I : Type 0} {g : _} (ws : List (Worker S O I g)) → map (λ r. r.items) (map (λ w. w.receipts) ws) ≡ map (λ w. w.receipts.items) ws
mapped-items [] = refl
mapped-items (w ∷ ws) = ap (λ rs. w.receipts.items ∷ rs) (mapped-items ws)

-- these traces are some
pub some-traces : {X : Type 0} (P : List (List Command) → X → Type 0) (traces : List (List Command)) (xs : List X) → All (P traces) xs → (ts : List (List Command)) × All (P ts) xs
some-traces P traces xs all = (traces, all)
