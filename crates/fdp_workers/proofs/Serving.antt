-- The turns of one command, joined, and the commands of a trace.
use Rattle.std.proofs.Common.{◌≡◌, ℕ, zero, suc, ◌+◌, ◌<◌, ◌≤◌, false, get_or, take, length-take, List, [], ◌∷◌, ◌++◌, length, Option, None, Some, refl, sym, ◌∙◌, ap, subst, arith}
use Rattle.std.specs.Prelude.{◌==◌, MatchResult, Result, map, option_map}
use mathlib.Core.List.Sublist as sublists
use mathlib.Core.List.{Sublist, append-nil, sublist-append_left}
use Rattle.std.specs.List.{cons_option, enumerate_from}
use Rattle.std.proofs.lemmas.List.{take_all, take_more}
use Rattle.std.proofs.lemmas.List.FromFn.{get_or-enumerate_from, length-enumerate_from}
use Rattle.fdp_base.specs.declared.command.Command.{Command}
use Rattle.fdp_base.specs.declared.config.DriveConfig.{DriveConfig}
use Rattle.fdp_base.specs.declared.entry.Entry.{Entry}
use Rattle.fdp_base.specs.declared.recorded.Mark.{Mark}
use Rattle.fdp_base.specs.CommandKinds.{IsWellFormed}
use Rattle.fdp_core.specs.fdp_book.declared.ticket.Done.{Done}
use Rattle.fdp_core.specs.fdp_book.declared.ticket.Ticket.{Ticket}
use Rattle.fdp_gauge.specs.declared.gauge.Pass.{Pass}
use Rattle.fdp_history.proofs.Checks.{formed-write}
use Rattle.fdp_lock.specs.declared.lock.GroupLock.{GroupLock}
use Rattle.fdp_lock.specs.declared.seat.Seat.{Seat}
use Rattle.fdp_base.proofs.Records.{nil-prefix}
use Rattle.fdp_lock.specs.Seats.{turns_of, number_of, made_of, HoldsNoTurn, IsSeatOf}
use Rattle.fdp_rules.specs.PlainState.{Going}
use Rattle.fdp_rules.specs.Queue.{numbered, started_by}
use Rattle.fdp_workers.specs.declared.receipt.Receipt.{Receipt}
use Rattle.fdp_workers.specs.declared.stop.Stop.{Stop}
use Rattle.fdp_rules.specs.History.{first_state, state_of}
use Rattle.fdp_workers.specs.Hosting.{EndsAt, Expects, IsAt, IsIdleAt, ServesSome, StartsAt, StopsAt, WaitsAt, run_of}
use Rattle.fdp_workers.specs.Queues.{Has, NoOtherGoes, Progress, Serves, ServesWhole, ended, so_far}
use Rattle.fdp_workers.specs.Run.{Run}
use Rattle.fdp_workers.proofs.Turning.{expects-has}

module _ {S O I : Type 0} {g : _} (origin : S → O) (run : O → Run) (entry : I → Entry) (mark : I → Mark) (lock : GroupLock S O I) where
  -- it started a write, which then ended, or is left going
  pub goes-on : (p : Progress) (number : ℕ) (command : Command) (s0 s : Seat S O I g) (ticket : Ticket) (pass : Pass) (r : Result Done Stop) → (b : StartsAt origin run entry mark lock p number command s0 ticket) →
      MatchResult r (λ done. EndsAt origin run entry mark lock p b.going.number b.going.command s pass done) (λ stop. StopsAt origin run entry mark lock p b.going.number b.going.command s) →
      MatchResult r (λ done. EndsAt origin run entry mark lock p number command s pass done) (λ stop. StopsAt origin run entry mark lock p number command s)
  goes-on p number command s0 s ticket pass r b h =
      subst (λ (k : ℕ). MatchResult r (λ done. EndsAt origin run entry mark lock p k command s pass done) (λ stop. StopsAt origin run entry mark lock p k command s)) b.number_is
      (subst (λ (x : Command). MatchResult r (λ done. EndsAt origin run entry mark lock p b.going.number x s pass done) (λ stop. StopsAt origin run entry mark lock p b.going.number x s)) b.command_is h)

  -- the pages of a well formed write that was started are still to be placed
  pub starts-waits : (p : Progress) (c : DriveConfig) (number : ℕ) (command : Command) (s : Seat S O I g) (ticket : Ticket) → IsWellFormed c command → (b : StartsAt origin run entry mark lock p number command s ticket) →
      WaitsAt origin run entry mark lock p ticket b.going s
  starts-waits p c number command s ticket formed b =
      record {
        count = 0;
        asked = formed-write c b.going.command b.flies.ticket_is.write (subst (IsWellFormed c) (sym b.command_is) formed);
        flies = b.flies;
      }

-- ---- a trace

enumerate-push : (n : ℕ) (xs : List Command) (x : Command) → enumerate_from n (xs ++ x ∷ []) ≡ enumerate_from n xs ++ (n + length xs, x) ∷ []
enumerate-push n [] x = let e : n ≡ n + 0 = omega arith in ap (λ (k : ℕ). (k, x) ∷ []) e
enumerate-push n (y ∷ ys) x =
    let e : n + 1 + length ys ≡ n + suc (length ys) = omega arith in
    ap (λ (zs : List (ℕ × Command)). (n, y) ∷ zs) (enumerate-push (n + 1) ys x ∙ ap (λ (k : ℕ). enumerate_from (n + 1) ys ++ (k, x) ∷ []) e)

numbered-more : (trace : List Command) (n : ℕ) (command : Command) → n < length trace → command ≡ get_or trace n command → numbered (take (n + 1) trace) ≡ numbered (take n trace) ++ (n, command) ∷ []
numbered-more trace n command low is =
    let size : 0 + length (take n trace) ≡ n = omega (arith, length-take n trace) in
    ap numbered (take_more trace n command low ∙ ap (λ (x : Command). take n trace ++ x ∷ []) (sym is))
    ∙ enumerate-push 0 (take n trace) command
    ∙ ap (λ (k : ℕ). numbered (take n trace) ++ (k, command) ∷ []) size

-- what a queue has of a trace once it has served a command more
pub so_far-more : (trace : List Command) (n : ℕ) (receipts : List Receipt) (command : Command) (position : ℕ) → n < length trace → command ≡ get_or trace n command → ended (so_far trace n receipts) n command position ≡ so_far trace (n + 1) (receipts ++ record { number = n; position = position } ∷ [])
so_far-more trace n receipts command position low is =
    ap (λ (cs : List (ℕ × Command)). record { commands = cs; receipts = receipts ++ record { number = n; position = position } ∷ []; going = None }) (sym (numbered-more trace n command low is))

-- the next command of a trace
pub next-command : (trace : List Command) (n number : ℕ) (command : Command) → (n < length (enumerate_from 0 trace)) × ((number, command) ≡ get_or (enumerate_from 0 trace) n (number, command)) → (n < length trace) × (number ≡ n) × (command ≡ get_or trace n command)
next-command trace n number command t =
    let low : n < length trace = omega (arith, t.0, length-enumerate_from 0 trace) in
    let both : (number, command) ≡ (0 + n, get_or trace n command) = t.1 ∙ get_or-enumerate_from 0 trace n (number, command) low in
    let place : 0 + n ≡ n = omega arith in
    (low, ap (λ (x : ℕ × Command). x.0) both ∙ place, ap (λ (x : ℕ × Command). x.1) both)

module _ {S O I : Type 0} {g : _} (origin : S → O) (run : O → Run) (entry : I → Entry) (mark : I → Mark) (lock : GroupLock S O I) where
  -- a command more of a trace was served
  pub first-more : (trace : List Command) (n number : ℕ) (receipts : List Receipt) (command : Command) (s : Seat S O I g) (pass : Pass) (done : Done) → (n < length trace) × (number ≡ n) × (command ≡ get_or trace n command) →
      EndsAt origin run entry mark lock (so_far trace n receipts) number command s pass done → IsIdleAt origin run entry mark lock (so_far trace (n + 1) (receipts ++ record { number = number; position = done.position } ∷ [])) s
  first-more trace n number receipts command s pass done t h =
      let at : IsAt origin run entry mark lock (ended (so_far trace n receipts) n command done.position) s = subst (λ (k : ℕ). IsAt origin run entry mark lock (ended (so_far trace n receipts) k command done.position) s) t.1 h.at in
      let more : IsAt origin run entry mark lock (so_far trace (n + 1) (receipts ++ record { number = n; position = done.position } ∷ [])) s = subst (λ (p : Progress). IsAt origin run entry mark lock p s) (so_far-more trace n receipts command done.position t.0 t.2) at in
      record {
        at = subst (λ (k : ℕ). IsAt origin run entry mark lock (so_far trace (n + 1) (receipts ++ record { number = k; position = done.position } ∷ [])) s) (sym t.1) more;
        idle = refl;
        paced = h.paced;
      }

-- a number that is not none
pub not-none : (n : ℕ) → (n == 0) ≡ false → 0 < n
not-none zero e = absurd cc
not-none (suc n) e = omega arith

-- ---- the whole of it

rest-of : (n count : ℕ) (xs : List Command) → (rest : List (ℕ × Command)) × (enumerate_from n xs ≡ enumerate_from n (take count xs) ++ rest)
rest-of n zero xs = (enumerate_from n xs, refl)
rest-of n (suc count) [] = ([], refl)
rest-of n (suc count) (x ∷ xs) = let r = rest-of (n + 1) count xs in (r.0, ap (λ (zs : List (ℕ × Command)). (n, x) ∷ zs) r.1)

-- the first commands of a trace are some of it
first-of : (trace : List Command) (count : ℕ) → Sublist (numbered (take count trace)) (numbered trace)
first-of trace count = let r = rest-of 0 count trace in subst (Sublist (numbered (take count trace))) (sym r.1) (sublist-append_left (numbered (take count trace)) r.0)

-- the first commands of a trace and what is going, which is of the next, are some of it
starts-own : (trace : List Command) (count : ℕ) (command : Command) (going : Option Going) → count < length trace → command ≡ get_or trace count command → NoOtherGoes count command going →
    Sublist (numbered (take count trace) ++ cons_option (option_map (λ (g : Going). (g.number, g.command)) going) []) (numbered trace)
starts-own trace count command None low is only = subst (λ (xs : List (ℕ × Command)). Sublist xs (numbered trace)) (sym (append-nil (numbered (take count trace)))) (first-of trace count)
starts-own trace count command (Some g) low is only =
    let same : (g.number, g.command) ≡ (count, command) = ap (λ (n : ℕ). (n, g.command)) only.0 ∙ ap (λ (x : Command). (count, x)) only.1 in
    let all : numbered (take count trace) ++ (g.number, g.command) ∷ [] ≡ numbered (take (count + 1) trace) = ap (λ (x : ℕ × Command). numbered (take count trace) ++ x ∷ []) same ∙ sym (numbered-more trace count command low is) in
    subst (λ (xs : List (ℕ × Command)). Sublist xs (numbered trace)) (sym all) (first-of trace (count + 1))

-- a queue that stopped at a command of its trace
pub stopped-serves : (run : Run) (queue : ℕ) (trace : List Command) (count : ℕ) (command : Command) (receipts : List Receipt) (p : Progress) (es : List Entry) → count < length trace → command ≡ get_or trace count command →
    p.commands ≡ numbered (take count trace) → p.receipts ≡ receipts → NoOtherGoes count command p.going → Has run queue p es → Serves run queue trace receipts es
stopped-serves run queue trace count command receipts p es low is commands got only h =
    let r = rest-of 0 count trace in
    let some = subst (λ (xs : List (ℕ × Command)). Sublist (xs ++ cons_option (option_map (λ (g : Going). (g.number, g.command)) p.going) []) (numbered trace)) (sym commands) (starts-own trace count command p.going low is only) in
    record {
      order = (r.0, r.1 ∙ ap (λ (zs : List (ℕ × Command)). zs ++ r.0) (sym (h.commands ∙ commands)));
      receipts_are = h.receipts ∙ got;
      starts = sublists.trans h.starts some;
    }

-- a queue without a write that is going, once some commands of its trace are completed
pub idle-serves : (run : Run) (queue : ℕ) (trace : List Command) (count : ℕ) (receipts : List Receipt) (es : List Entry) → Has run queue (so_far trace count receipts) es → Serves run queue trace receipts es
idle-serves run queue trace count receipts es h =
    let r = rest-of 0 count trace in
    record {
      order = (r.0, r.1 ∙ ap (λ (zs : List (ℕ × Command)). zs ++ r.0) (sym h.commands));
      receipts_are = h.receipts;
      starts = sublists.trans (subst (Sublist (started_by queue es)) (append-nil (numbered (take count trace))) h.starts) (first-of trace count);
    }

pub has-whole : (run : Run) (queue : ℕ) (trace : List Command) (receipts : List Receipt) (es : List Entry) → Has run queue (so_far trace (length trace) receipts) es → ServesWhole run queue trace es
has-whole run queue trace receipts es h = record { whole = h.commands ∙ ap numbered (take_all (length trace) trace (omega arith)); idle = h.going }

pub nothing-yet : (run : Run) (queue : ℕ) (trace : List Command) → Has run queue (so_far trace 0 []) []
unfolding state_of first_state
nothing-yet run queue trace = record { commands = refl; receipts = refl; starts = sublists.refl []; going = refl }

module _ {S O I : Type 0} {g : _} (origin : S → O) (run : O → Run) (entry : I → Entry) (mark : I → Mark) (lock : GroupLock S O I) where
  -- a new seat has served nothing
  pub idle-first : (trace : List Command) (s : Seat S O I g) → IsSeatOf origin lock s → HoldsNoTurn s → turns_of s ≡ 0 → made_of s ≡ [] → IsIdleAt origin run entry mark lock (so_far trace 0 []) s
  idle-first trace s of_lock no_turn turns made =
      let r : Run = run_of origin run lock in
      record {
        at = record {
          of_lock = of_lock;
          no_turn = no_turn;
          has = λ items goes_on own history. expects-has r entry mark (number_of s) (so_far trace 0 []) [] (made_of s) made (nothing-yet r (number_of s) trace) items (nil-prefix items) own history;
        };
        idle = refl;
        paced = record { paced = omega (arith, turns); few = omega (arith, turns) };
      }

  pub all-serves : (trace : List Command) (receipts : List Receipt) (s : Seat S O I g) → IsAt origin run entry mark lock (so_far trace (length trace) receipts) s → Expects (run_of origin run lock) entry mark (Serves (run_of origin run lock) (number_of s) trace receipts) s
  all-serves trace receipts s at = λ items goes_on own history.
      idle-serves (run_of origin run lock) (number_of s) trace (length trace) receipts (map entry items) (at.has items goes_on own history)

  pub all-whole : (trace : List Command) (receipts : List Receipt) (s : Seat S O I g) → IsAt origin run entry mark lock (so_far trace (length trace) receipts) s → Expects (run_of origin run lock) entry mark (ServesWhole (run_of origin run lock) (number_of s) trace) s
  all-whole trace receipts s at = λ items goes_on own history. has-whole (run_of origin run lock) (number_of s) trace receipts (map entry items) (at.has items goes_on own history)

  pub some-serves : (trace : List Command) (receipts : List Receipt) (s : Seat S O I g) (count : ℕ) (command : Command) → count < length trace → command ≡ get_or trace count command →
      StopsAt origin run entry mark lock (so_far trace count receipts) count command s → Expects (run_of origin run lock) entry mark (Serves (run_of origin run lock) (number_of s) trace receipts) s
  some-serves trace receipts s count command low is b = λ items goes_on own history.
      stopped-serves (run_of origin run lock) (number_of s) trace count command receipts b.left (map entry items) low is b.commands_are b.receipts_are b.going (b.at.has items goes_on own history)

  -- nothing was begun
  pub stops-first : (trace : List Command) (receipts : List Receipt) (s : Seat S O I g) (stop : Stop) → 0 < length trace → receipts ≡ [] → IsIdleAt origin run entry mark lock (so_far trace 0 []) s → ServesSome origin run entry mark lock trace receipts s stop
  stops-first [] receipts s stop low none idle = absurd (omega (arith, low))
  stops-first (command ∷ trace) receipts s stop low none idle = record {
    count = 0;
    few = low;
    sized = ap length none;
    command = command;
    command_is = refl;
    stopped = record {
      left = so_far (command ∷ trace) 0 [];
      commands_are = refl;
      receipts_are = sym none;
      going = tt;
      at = idle.at;
      turns = omega (arith, idle.paced.paced);
    };
  }
