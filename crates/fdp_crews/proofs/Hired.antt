-- Seats and passes that the first ones gave to hosts and collectors.
use Rattle.std.proofs.Common.{◌≡◌, ℕ, zero, suc, ◌+◌, ◌-◌, ◌<◌, ◌≤◌, get_or, List, [], ◌∷◌, ◌++◌, length, refl, sym, ◌∙◌, ap, subst, arith}
use Rattle.std.specs.Prelude.{map}
use Rattle.std.specs.List.{enumerate_from}
use Rattle.std.specs.Global.{Vec}
use Rattle.std.proofs.lemmas.List.FromFn.{get_or-enumerate_from, length-enumerate_from}
use Rattle.fdp_base.specs.declared.command.Command.{Command}
use Rattle.fdp_base.specs.Numbers.{numbers_from}
use Rattle.fdp_gauge.specs.declared.gauge.Gauge.{Gauge}
use Rattle.fdp_gauge.specs.Passes.{IsPassOf}
use Rattle.fdp_lock.specs.declared.lock.GroupLock.{GroupLock}
use Rattle.fdp_lock.specs.declared.seat.Seat.{Seat}
use Rattle.fdp_lock.specs.Seats.{IsNew, IsUnchanged, given_of, number_of, parts_of}
use Rattle.fdp_workers.specs.Hosting.{run_of}
use Rattle.fdp_workers.specs.Run.{Run}
use Rattle.fdp_crews.specs.declared.worker.Worker.{Worker}
use Rattle.fdp_crews.specs.Crews.{IsDueFor, IsFreshSeat, IsTrace, trace_of}
use Rattle.fdp_crews.specs.Rooms.{IsHead}

-- the next of a list that is gone over with its places
pub next-item : {X : Type 0} (xs : List X) (n at : ℕ) (x : X) → (n < length (enumerate_from 0 xs)) × ((at, x) ≡ get_or (enumerate_from 0 xs) n (at, x)) → (n < length xs) × (at ≡ n) × (x ≡ get_or xs n x)
next-item {X} xs n at x t =
    let low : n < length xs = omega (arith, t.0, length-enumerate_from 0 xs) in
    let both : (at, x) ≡ (0 + n, get_or xs n x) = t.1 ∙ get_or-enumerate_from 0 xs n (at, x) low in
    let place : 0 + n ≡ n = omega arith in
    (low, ap (λ (y : ℕ × X). y.0) both ∙ place, ap (λ (y : ℕ × X). y.1) both)

pub row-none : (first : ℕ) → numbers_from first 0 ≡ []
unfolding numbers_from
row-none first = refl

-- one number more in a row
pub row-more : (first n : ℕ) → numbers_from first (n + 1) ≡ numbers_from first n ++ (first + n) ∷ []
unfolding numbers_from
row-more first zero = let e : first ≡ first + 0 = omega arith in ap (λ (k : ℕ). k ∷ []) e
row-more first (suc n) =
    let e : first + 1 + n ≡ first + suc n = omega arith in
    let m : suc n + 1 ≡ suc (n + 1) = omega arith in
    ap (numbers_from first) m ∙ ap (λ (ys : List ℕ). first ∷ ys) (row-more (first + 1) n ∙ ap (λ (k : ℕ). numbers_from (first + 1) n ++ k ∷ []) e)

-- the items of the n-th of these lists
pub items-at : (ts : List (Vec Command)) (n : ℕ) (t : Vec Command) → n < length ts → t ≡ get_or ts n t → t.items ≡ get_or (map (λ t. t.items) ts) n []
items-at [] n t low is = absurd (omega (arith, low))
items-at (x ∷ ts) zero t low is = ap (λ (y : Vec Command). y.items) is
items-at (x ∷ ts) (suc n) t low is = items-at ts n t (omega (arith, low)) is

module _ {S O I : Type 0} {g : _} (origin : S → O) (lock : GroupLock S O I) where
  pub fresh-seat : (number : ℕ) (giver s : Seat S O I g) → IsNew origin lock number giver s → IsFreshSeat origin lock s
  fresh-seat number giver s new = record { of_lock = new.of_lock; no_turn = new.no_turn; turns = new.turns; parts = new.parts; made = new.made }

  -- the first seat once it gave a part more
  pub head-gave : (seen : List I) (given number parts : ℕ) (old s : Seat S O I g) → IsHead origin lock seen given parts old → IsUnchanged old s → given_of s ≡ number → IsHead origin lock seen number (parts_of s) s
  head-gave seen given number parts old s head same gave = record {
    of_lock = (same.lock ∙ head.of_lock.0, same.origin_is ∙ head.of_lock.1);
    no_turn = same.no_turn;
    number_is = same.number ∙ head.number_is;
    parts_are = refl;
    given_is = omega (arith, gave);
    seen_is = same.seen ∙ head.seen_is;
  }

  -- with room for higher numbers
  pub head-higher : (seen : List I) (low high parts : ℕ) (s : Seat S O I g) → low ≤ high → IsHead origin lock seen low parts s → IsHead origin lock seen high parts s
  head-higher seen low high parts s more head = record { of_lock = head.of_lock; no_turn = head.no_turn; number_is = head.number_is; parts_are = head.parts_are; given_is = omega (arith, more, head.given_is); seen_is = head.seen_is }

module _ {S O I : Type 0} {g : _} (origin : S → O) (run : O → Run) (lock : GroupLock S O I) (gauge : Gauge) where
  -- a host with its trace
  pub due-for : (ts : List (Vec Command)) (n : ℕ) (t : Vec Command) (giver : Seat S O I g) (w : Worker S O I g) → (n < length ts) × (t ≡ get_or ts n t) → length ts ≤ (run_of origin run lock).config.queues → IsNew origin lock (n + 1) giver w.seat → IsPassOf gauge w.pass →
      gauge.cell.table.shared.table_id ≡ (run_of origin run lock).gauge → IsTrace (run_of origin run lock).config t.items → w.trace.items ≡ t.items → w.receipts.items ≡ [] → IsDueFor origin run lock gauge (map (λ t. t.items) ts) w
  due-for ts n t giver w at few new pass shows trace is none =
      let number : number_of w.seat ≡ n + 1 = new.number_is in
      let place : n + 1 - 1 ≡ n = omega arith in
      record {
        due = record {
          seat = fresh-seat origin lock (n + 1) giver w.seat new;
          post = record { queue_is = (omega (arith, number), omega (arith, number, at.0, few)); gauge_is = shows; pass_is = pass };
          trace = subst (IsTrace (run_of origin run lock).config) (sym is) trace;
          none = none;
        };
        trace_is = is ∙ items-at ts n t at.0 at.1 ∙ ap (λ (k : ℕ). get_or (map (λ t. t.items) ts) k []) (sym place) ∙ ap (trace_of (map (λ t. t.items) ts)) (sym number);
      }
