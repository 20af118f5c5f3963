-- What a history has of a queue after an entry more.
use Rattle.std.proofs.Common.{◌≡◌, ◌≢◌, ◌⊎◌, inl, inr, ⊎_elim, ℕ, suc, ◌+◌, ◌≤◌, Bool, true, false, cond, List, [], ◌∷◌, ◌++◌, length, Option, Some, None, refl, sym, ◌∙◌, ap, subst, arith, append_assoc, length-append, ne_eqb, eq-eqb}
use Rattle.std.specs.Prelude.{◌==◌, ◌&&◌, if◌then◌else◌, filter, filter_map, map, option_map}
use Rattle.std.specs.List.{cons_option, enumerate_from}
use Rattle.std.specs.Option.{option_map_or}
use Rattle.std.proofs.lemmas.Bool.{cases_eq}
use mathlib.Core.List.Sublist as sublists
use mathlib.Core.List.{Sublist, append-nil, nil-sublist}
use Rattle.std.proofs.lemmas.List.Elements.{filter-append, filter_map-append}
use Rattle.fdp_base.specs.declared.command.Command.{Command}
use Rattle.fdp_base.specs.declared.config.DriveConfig.{DriveConfig}
use Rattle.fdp_base.specs.declared.entry.Entry.{Entry}
use Rattle.fdp_base.specs.declared.entry.Entry.TheVariants as entries
use Rattle.fdp_base.specs.declared.entry.Reply.{Reply}
use Rattle.fdp_base.specs.declared.recorded.Mark.{Mark}
use Rattle.fdp_base.specs.CommandKinds.{is_write}
use Rattle.fdp_base.specs.Numbers.{with_at}
use Rattle.fdp_base.specs.Records.{carrying}
use Rattle.fdp_base.proofs.Entries.{by-entry}
use Rattle.fdp_rules.specs.Change.{after, changed_by, holds_ticket, one_more_placed, started}
use Rattle.fdp_rules.specs.History.{Found}
use Rattle.fdp_rules.specs.PlainState.{Going, PlainState}
use Rattle.fdp_rules.specs.Queue.{completed, completed_by, started_by, started_in}
use Rattle.fdp_rules.specs.Seats.{seat_of_entry}
use Rattle.fdp_rules.proofs.Pushes.{state_of-push}
use Rattle.fdp_workers.specs.declared.receipt.Receipt.{Receipt}
use Rattle.fdp_workers.specs.Queues.{Has, NoOtherGoes, Progress, begun_by, ended, flying, receipt_in, receipts_of}
use Rattle.fdp_workers.specs.Run.{AreNext, OpensFirst, Run, state_by}
use Rattle.fdp_workers.proofs.Nexts.{next-first, next-rest}
use Rattle.fdp_workers.proofs.Seated.{others-keep}

-- ---- what one entry tells of a queue

-- an entry of another tells nothing of it
record TellsNothing (queue : ℕ) (e : Entry) : Type 0 where
  pub completes : completed queue (e ∷ []) ≡ []
  pub receipt : (position : ℕ) → receipt_in queue (position, e) ≡ None
  pub starts : started_by queue (e ∷ []) ≡ []

no-receipt : (b : Bool) (r : Receipt) → b ≡ false → (if b then Some r else None) ≡ None
no-receipt true r e = absurd cc
no-receipt false r e = refl

none-completed : (b : Bool) (x : ℕ × Command) → b ≡ false → (if b then Some x else None) ≡ None
none-completed true x e = absurd cc
none-completed false x e = refl

listed : (x : Option (ℕ × Command)) (e : Entry) (queue : ℕ) → completed_by queue e ≡ x → x ≡ None → completed queue (e ∷ []) ≡ []
listed x e queue is none = let both = is ∙ none in cc

let-go : (x : Option (ℕ × Command)) (e : Entry) (queue : ℕ) → started_in queue e ≡ x → x ≡ None → started_by queue (e ∷ []) ≡ []
let-go x e queue is none = let both = is ∙ none in cc

tells-nothing : (f : Found) (es : List Entry) (e : Entry) (queue : ℕ) → seat_of_entry f es e ≢ queue → TellsNothing queue e
tells-nothing f es e queue ne =
    let P : Entry → Type 0 = λ x. seat_of_entry f es x ≢ queue → TellsNothing queue x in
    by-entry P
    (λ h other. let b : (h.queue == queue) ≡ false = ne_eqb h.queue queue other in record {
      completes = listed (completed_by queue (entries.Host h)) (entries.Host h) queue refl (none-completed (h.queue == queue) (h.number, h.command) b);
      receipt = λ position. no-receipt (h.queue == queue) _ b;
      starts = refl;
    })
    (λ s other. let b : (s.queue == queue) ≡ false = ne_eqb s.queue queue other in record {
      completes = refl;
      receipt = λ position. refl;
      starts = let-go (started_in queue (entries.Started s)) (entries.Started s) queue refl (none-completed (s.queue == queue) (s.number, s.command) b);
    })
    (λ p other. record { completes = refl; receipt = λ position. refl; starts = refl })
    (λ x is other. let host = is.host in let start = is.started in record { completes = cc; receipt = λ position. cc; starts = cc })
    e ne

-- ---- an entry more

completed-push : (queue : ℕ) (es : List Entry) (e : Entry) → completed queue (es ++ e ∷ []) ≡ completed queue es ++ completed queue (e ∷ [])
completed-push queue es e = filter_map-append (completed_by queue) es (e ∷ [])

enumerate-push : (n : ℕ) (es : List Entry) (e : Entry) → enumerate_from n (es ++ e ∷ []) ≡ enumerate_from n es ++ (n + length es, e) ∷ []
enumerate-push n [] e = let same : n ≡ n + 0 = omega arith in ap (λ (k : ℕ). (k, e) ∷ []) same
enumerate-push n (x ∷ xs) e =
    let same : n + 1 + length xs ≡ n + suc (length xs) = omega arith in
    ap (λ (zs : List (ℕ × Entry)). (n, x) ∷ zs) (enumerate-push (n + 1) xs e ∙ ap (λ (k : ℕ). enumerate_from (n + 1) xs ++ (k, e) ∷ []) same)

receipts-push : (f : Found) (queue : ℕ) (es : List Entry) (e : Entry) → receipts_of f queue (es ++ e ∷ []) ≡ receipts_of f queue es ++ filter_map (receipt_in queue) ((f.totals.position + 1 + length es, e) ∷ [])
receipts-push f queue es e =
    ap (filter_map (receipt_in queue)) (enumerate-push (f.totals.position + 1) es e)
    ∙ filter_map-append (receipt_in queue) (enumerate_from (f.totals.position + 1) es) ((f.totals.position + 1 + length es, e) ∷ [])

no-more-receipts : (f : Found) (queue : ℕ) (es : List Entry) (e : Entry) → ((position : ℕ) → receipt_in queue (position, e) ≡ None) → receipts_of f queue (es ++ e ∷ []) ≡ receipts_of f queue es
no-more-receipts f queue es e none =
    let last : filter_map (receipt_in queue) ((f.totals.position + 1 + length es, e) ∷ []) ≡ [] = let n = none (f.totals.position + 1 + length es) in cc in
    receipts-push f queue es e ∙ ap (λ (rs : List Receipt). receipts_of f queue es ++ rs) last ∙ append-nil (receipts_of f queue es)

starts-push : (queue : ℕ) (es : List Entry) (e : Entry) → started_by queue (es ++ e ∷ []) ≡ started_by queue es ++ started_by queue (e ∷ [])
starts-push queue es e = filter_map-append (started_in queue) es (e ∷ [])

-- an entry that starts nothing
same-starts : (queue : ℕ) (xs : List (ℕ × Command)) (es : List Entry) (e : Entry) → started_by queue (e ∷ []) ≡ [] → Sublist (started_by queue es) xs → Sublist (started_by queue (es ++ e ∷ [])) xs
same-starts queue xs es e none h =
    let same : started_by queue (es ++ e ∷ []) ≡ started_by queue es = starts-push queue es e ∙ ap (λ (ys : List (ℕ × Command)). started_by queue es ++ ys) none ∙ append-nil (started_by queue es) in
    subst (λ (ys : List (ℕ × Command)). Sublist ys xs) (sym same) h

state-push : (run : Run) (es : List Entry) (e : Entry) (queue : ℕ) → (state_by run (es ++ e ∷ [])).going queue ≡ (after run.config (state_by run es) e).going queue
state-push run es e queue = ap (λ (s : PlainState). s.going queue) (state_of-push run.config run.found es e)

-- an entry of another: the queue has what it had
pub has-other : (run : Run) (queue : ℕ) (p : Progress) (es : List Entry) (e : Entry) → (e ≡ entries.Reopened → es ≡ []) → seat_of_entry run.found es e ≢ queue → Has run queue p es → Has run queue p (es ++ e ∷ [])
has-other run queue p es e first other h =
    let t = tells-nothing run.found es e queue other in
    record {
      commands = completed-push queue es e ∙ ap (λ (xs : List (ℕ × Command)). completed queue es ++ xs) t.completes ∙ append-nil (completed queue es) ∙ h.commands;
      receipts = no-more-receipts run.found queue es e t.receipt ∙ h.receipts;
      starts = same-starts queue (begun_by p) es e t.starts h.starts;
      going = others-keep run.config run.found es e queue first other ∙ h.going;
    }

-- ---- a completion

completes-one : (queue : ℕ) (b : Bool) (x : ℕ × Command) → b ≡ true → (if b then Some x else None) ≡ Some x
completes-one queue true x e = refl
completes-one queue false x e = absurd cc

receives-one : (b : Bool) (r : Receipt) → b ≡ true → (if b then Some r else None) ≡ Some r
receives-one true r e = refl
receives-one false r e = absurd cc

at-place : (table : ℕ → Option Going) (queue : ℕ) (value : Option Going) → with_at table queue value queue ≡ value
at-place table queue value = rw (eq-eqb queue queue refl) refl

-- no write is going in the queue of a write that was completed, nor where none was before
none-left : (b : Bool) (table : ℕ → Option Going) (queue : ℕ) → (b ≡ true) ⊎ (table queue ≡ None) → (if b then with_at table queue None else table) queue ≡ None
none-left true table queue either = at-place table queue None
none-left false table queue either = ⊎_elim (λ no. absurd cc) (λ none. none) either

host-going : (c : DriveConfig) (s : PlainState) (queue number : ℕ) (command : Command) (reply : Reply) (moment : ℕ) → (is_write command ≡ true) ⊎ (s.going queue ≡ None) →
    (after c s (entries.Host (record { queue = queue; number = number; command = command; reply = reply; moment = moment }))).going queue ≡ None
unfolding after changed_by
host-going c s queue number command reply moment either = none-left (is_write command) s.going queue either

-- the commands that were completed and what is going are among the former and the command that then ends
ends-own : (cs : List (ℕ × Command)) (number : ℕ) (command : Command) (going : Option Going) → NoOtherGoes number command going →
    Sublist (cs ++ cons_option (option_map (λ (g : Going). (g.number, g.command)) going) []) (cs ++ (number, command) ∷ [])
ends-own cs number command None only = sublists.append (sublists.refl cs) (nil-sublist ((number, command) ∷ []))
ends-own cs number command (Some g) only =
    let same : (g.number, g.command) ≡ (number, command) = ap (λ (n : ℕ). (n, g.command)) only.0 ∙ ap (λ (x : Command). (number, x)) only.1 in
    subst (λ (x : ℕ × Command). Sublist (cs ++ (g.number, g.command) ∷ []) (cs ++ x ∷ [])) same (sublists.refl (cs ++ (g.number, g.command) ∷ []))

pub has-host : (run : Run) (queue : ℕ) (p : Progress) (es : List Entry) (number : ℕ) (command : Command) (reply : Reply) (moment position : ℕ) → position ≡ run.found.totals.position + (length es + 1) → (is_write command ≡ true) ⊎ (p.going ≡ None) → NoOtherGoes number command p.going → Has run queue p es →
    Has run queue (ended p number command position) (es ++ entries.Host (record { queue = queue; number = number; command = command; reply = reply; moment = moment }) ∷ [])
has-host run queue p es number command reply moment position at either only h =
    let e : Entry = entries.Host (record { queue = queue; number = number; command = command; reply = reply; moment = moment }) in
    let own : (queue == queue) ≡ true = eq-eqb queue queue refl in
    let one : completed queue (e ∷ []) ≡ (number, command) ∷ [] = let t = completes-one queue (queue == queue) (number, command) own in cc in
    let r : Receipt = record { number = number; position = position } in
    let there : run.found.totals.position + 1 + length es ≡ position = omega (arith, at) in
    let told : filter_map (receipt_in queue) ((position, e) ∷ []) ≡ r ∷ [] = let t = receives-one (queue == queue) r own in cc in
    record {
      commands = completed-push queue es e ∙ ap (λ (xs : List (ℕ × Command)). completed queue es ++ xs) one ∙ ap (λ (xs : List (ℕ × Command)). xs ++ (number, command) ∷ []) h.commands;
      receipts = receipts-push run.found queue es e ∙ ap (λ (k : ℕ). receipts_of run.found queue es ++ filter_map (receipt_in queue) ((k, e) ∷ [])) there
          ∙ ap (λ (rs : List Receipt). receipts_of run.found queue es ++ rs) told ∙ ap (λ (rs : List Receipt). rs ++ r ∷ []) h.receipts;
      starts = same-starts queue (begun_by (ended p number command position)) es e refl
          (subst (Sublist (started_by queue es)) (sym (append-nil (p.commands ++ (number, command) ∷ []))) (sublists.trans h.starts (ends-own p.commands number command p.going only)));
      going = state-push run es e queue ∙ host-going run.config (state_by run es) queue number command reply moment (⊎_elim (λ write. inl write) (λ none. inr (h.going ∙ none)) either);
    }

-- ---- a start

started-going : (c : DriveConfig) (s : PlainState) (queue number : ℕ) (command : Command) (rg ruh : ℕ) (pid_valid : Bool) →
    (after c s (entries.Started (record { queue = queue; number = number; command = command; rg = rg; ruh = ruh; pid_valid = pid_valid }))).going queue ≡ Some (started c s number command rg ruh pid_valid)
unfolding after changed_by
started-going c s queue number command rg ruh pid_valid = at-place s.going queue (Some (started c s number command rg ruh pid_valid))

pub has-started : (run : Run) (queue : ℕ) (p : Progress) (es : List Entry) (number : ℕ) (command : Command) (rg ruh : ℕ) (pid_valid : Bool) → p.going ≡ None → Has run queue p es →
    Has run queue (flying p (started run.config (state_by run es) number command rg ruh pid_valid) 0) (es ++ entries.Started (record { queue = queue; number = number; command = command; rg = rg; ruh = ruh; pid_valid = pid_valid }) ∷ [])
has-started run queue p es number command rg ruh pid_valid idle h =
    let e : Entry = entries.Started (record { queue = queue; number = number; command = command; rg = rg; ruh = ruh; pid_valid = pid_valid }) in
    let own : (queue == queue) ≡ true = eq-eqb queue queue refl in
    let one : started_by queue (e ∷ []) ≡ (number, command) ∷ [] = let t = completes-one queue (queue == queue) (number, command) own in cc in
    let none : begun_by p ≡ p.commands = ap (λ (g : Option Going). p.commands ++ cons_option (option_map (λ (g : Going). (g.number, g.command)) g) []) idle ∙ append-nil p.commands in
    let before : Sublist (started_by queue es) p.commands = subst (Sublist (started_by queue es)) none h.starts in
    record {
      commands = completed-push queue es e ∙ append-nil (completed queue es) ∙ h.commands;
      receipts = no-more-receipts run.found queue es e (λ position. refl) ∙ h.receipts;
      starts = subst (λ (xs : List (ℕ × Command)). Sublist xs (p.commands ++ (number, command) ∷ [])) (sym (starts-push queue es e ∙ ap (λ (xs : List (ℕ × Command)). started_by queue es ++ xs) one))
          (sublists.append before (sublists.refl ((number, command) ∷ [])));
      going = state-push run es e queue ∙ started-going run.config (state_by run es) queue number command rg ruh pid_valid;
    }

-- ---- a page

placed-holder : (s : PlainState) (ticket queue : ℕ) (g : Going) → s.going queue ≡ Some g → g.ticket ≡ ticket → (if holds_ticket s ticket queue then option_map one_more_placed (s.going queue) else s.going queue) ≡ Some (one_more_placed g)
placed-holder s ticket queue g is same =
    let holds : holds_ticket s ticket queue ≡ true = ap (λ (o : Option Going). option_map_or (λ (x : Going). x.ticket == ticket) o false) is ∙ eq-eqb g.ticket ticket same in
    more (holds_ticket s ticket queue) (s.going queue) holds is where
      more : (b : Bool) (o : Option Going) → b ≡ true → o ≡ Some g → (if b then option_map one_more_placed o else o) ≡ Some (one_more_placed g)
      more true o t e = ap (option_map one_more_placed) e
      more false o t e = absurd cc

placed-going : (c : DriveConfig) (s : PlainState) (ticket index unit page queue : ℕ) (g : Going) → s.going queue ≡ Some g → g.ticket ≡ ticket →
    (after c s (entries.Placed (record { ticket = ticket; index = index; unit = unit; page = page }))).going queue ≡ Some (one_more_placed g)
unfolding after changed_by
placed-going c s ticket index unit page queue g is same = placed-holder s ticket queue g is same

pub has-placed : (run : Run) (queue : ℕ) (p : Progress) (es : List Entry) (ticket index unit page : ℕ) (g : Going) (count : ℕ) → g.ticket ≡ ticket → Has run queue (flying p g count) es →
    Has run queue (flying p g (count + 1)) (es ++ entries.Placed (record { ticket = ticket; index = index; unit = unit; page = page }) ∷ [])
has-placed run queue p es ticket index unit page g count same h =
    let e : Entry = entries.Placed (record { ticket = ticket; index = index; unit = unit; page = page }) in
    record {
      commands = completed-push queue es e ∙ append-nil (completed queue es) ∙ h.commands;
      receipts = no-more-receipts run.found queue es e (λ position. refl) ∙ h.receipts;
      starts = same-starts queue (begun_by (flying p g (count + 1))) es e refl h.starts;
      going = state-push run es e queue ∙ placed-going run.config (state_by run es) ticket index unit page queue (record g { placed = count }) h.going same;
    }

-- ---- items of others

not-carried : {I : Type 0} (mark : I → Mark) (queue : ℕ) (x : I) (xs : List I) → carrying mark queue (x ∷ xs) ≡ [] → ((mark x).number ≢ queue) × (carrying mark queue xs ≡ [])
not-carried {I} mark queue x xs none =
    let P : Bool → Type 0 = λ b. ((mark x).number == queue) ≡ b → cond b (x ∷ carrying mark queue xs) (carrying mark queue xs) ≡ [] → ((mark x).number ≢ queue) × (carrying mark queue xs ≡ []) in
    (elim ((mark x).number == queue) as P [
      | true ↦ λ t some. absurd cc
      | false ↦ λ t rest. ((λ (same : (mark x).number ≡ queue). let yes = eq-eqb (mark x).number queue same in absurd cc), rest)
    ]) refl none

-- Items that carry other numbers leave all that a history has of a queue: its completions, its starts, and how far its write has come. So
-- these depend on the entries with the queue's number alone.
pub has-others : {I : Type 0} (run : Run) (entry : I → Entry) (mark : I → Mark) (queue : ℕ) (p : Progress) (before : List Entry) (xs ys : List I) → AreNext run entry mark before (xs ++ ys) → carrying mark queue xs ≡ [] → Has run queue p before →
    Has run queue p (before ++ map entry xs)
unfolding OpensFirst
has-others run entry mark queue p before [] ys next none h = subst (Has run queue p) (sym (append-nil before)) h
has-others run entry mark queue p before (x ∷ xs) ys next none h =
    let own = not-carried mark queue x xs none in
    let is = next-first run entry mark before x (xs ++ ys) next in
    let other : seat_of_entry run.found before (entry x) ≢ queue = λ same. own.0 (ap (λ (m : Mark). m.number) is ∙ same) in
    let one = has-other run queue p before (entry x) next.opening.0 other h in
    subst (Has run queue p) (append_assoc before (entry x ∷ []) (map entry xs))
    (has-others run entry mark queue p (before ++ entry x ∷ []) xs ys (next-rest run entry mark before x (xs ++ ys) next) own.1 one)
