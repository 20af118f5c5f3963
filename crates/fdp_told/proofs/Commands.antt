-- The commands of a history are those of the traces that it serves.
use Rattle.std.proofs.Common.{◌≡◌, ℕ, ◌+◌, Bool, true, cond, All, List, [], ◌∷◌, ◌++◌, Option, Some, None, refl, sym, subst, eq-eqb, inl}
use Rattle.std.specs.Prelude.{IfSome, filter, filter_map, nat_eq, not}
use Rattle.std.specs.Str.Lines.{lines}
use Rattle.std.specs.List.{AllByRecursion, AllByRecursion-prop, AllZip, cons_option, enumerate_from}
use Rattle.std.proofs.lemmas.List.Elements.{All-from_recursion, recursion_from_All}
use Rattle.std.proofs.Math.Logic.{∥∥₁_elim}
use Rattle.std.proofs.Math.Bool.{Bool-set}
use mathlib.Core.List.{Sublist, Sublistᴰ}
use Rattle.fdp_base.specs.declared.command.Command.{Command}
use Rattle.fdp_base.specs.declared.config.DriveConfig.{DriveConfig}
use Rattle.fdp_base.specs.declared.entry.Entry.{Entry}
use Rattle.fdp_base.specs.declared.entry.Entry.TheVariants as entries
use Rattle.fdp_base.specs.declared.entry.Host.{Host}
use Rattle.fdp_base.specs.declared.entry.Started.{Started}
use Rattle.fdp_output.specs.CommandText.{is_spelled}
use Rattle.fdp_prints.specs.Told.{IsSpelled}
use Rattle.fdp_prints.proofs.Typed.{spelled_of}
use Rattle.fdp_ranges.specs.Ranged.{IsRanged}
use Rattle.fdp_rules.specs.History.{Found}
use Rattle.fdp_rules.specs.Legal.{IsLegal, IsLegalAfter}
use Rattle.fdp_rules.specs.Queue.{completed, completed_by, numbered, started_by, started_in}
use Rattle.fdp_rules.specs.Step.{Follows, IsQueue, IsStep}
use Rattle.fdp_trace.specs.Typed.{IsTyped}
use Rattle.fdp_trace.proofs.ReadBack.{own_spells}
use Rattle.fdp_trace.proofs.SpelledLines.{spelled_row}
use Rattle.fdp_trace.specs.Grammar.{IsTraceOf, Says, is_skipped}
use Rattle.fdp_trace.specs.Words.{words_of}
use Rattle.fdp_told.specs.Given.{HasGiven}
use Rattle.fdp_told.specs.Spelled.{ServesSpelled}

-- ---- lists

front : {X : Type 0} (P : X → Type 0) (xs ys : List X) → AllByRecursion P (xs ++ ys) → AllByRecursion P xs
front P [] ys all = tt
front P (x ∷ xs) ys all = (all.0, front P xs ys all.1)

within : {X : Type 0} (P : X → Type 0) (xs ys : List X) → Sublistᴰ xs ys → AllByRecursion P ys → AllByRecursion P xs
within P [] ys part all = tt
within P (x ∷ xs) [] part all = elim part [ ]
within P (x ∷ xs) (y ∷ ys) (Sublistᴰ.cons part) all = within P (x ∷ xs) ys part all.1
within P (x ∷ xs) (y ∷ ys) (Sublistᴰ.cons-cons is part) all = (subst P (sym is) all.0, within P xs ys part all.1)

-- what holds of all that is picked of a list holds of what is picked of each element
each : {X Y : Type 0} (pick : X → Option Y) (P : Y → Type 0) (xs : List X) → AllByRecursion P (filter_map pick xs) → AllByRecursion (λ x. IfSome (pick x) P) xs
each pick P [] all = tt
each {X} {Y} pick P (x ∷ xs) all = let parts = split (pick x) all in (parts.0, each pick P xs parts.1) where
  split : (o : Option Y) → AllByRecursion P (cons_option o (filter_map pick xs)) → IfSome o P × AllByRecursion P (filter_map pick xs)
  split None h = (tt, h)
  split (Some y) h = (h.0, h.1)

both : {X : Type 0} (P Q : X → Type 0) (xs : List X) → AllByRecursion P xs → AllByRecursion Q xs → AllByRecursion (λ x. P x × Q x) xs
both P Q [] p q = tt
both P Q (x ∷ xs) p q = ((p.0, q.0), both P Q xs p.1 q.1)

counted : (P : Command → Type 0) (n : ℕ) (trace : List Command) → AllByRecursion P trace → AllByRecursion (λ (x : ℕ × Command). P x.1) (enumerate_from n trace)
counted P n [] all = tt
counted P n (command ∷ trace) all = (all.0, counted P (n + 1) trace all.1)

-- ---- a queue

-- what an entry completes or starts in a queue is spelled
abbrev pub IsOwn : ℕ → Entry → Type 0
IsOwn queue e = IfSome (completed_by queue e) (λ (x : ℕ × Command). IsSpelled x.1) × IfSome (started_in queue e) (λ (x : ℕ × Command). is_spelled x.1 ≡ true)

pub all-own : (c : DriveConfig) (trace : ℕ → List Command) (es : List Entry) → ServesSpelled c trace es → (queue : ℕ) → IsQueue c queue → AllByRecursion (IsOwn queue) es
all-own c trace es serves queue is =
    let order = serves.orders queue is in
    let Says : ℕ × Command → Type 0 = λ x. IsSpelled x.1 in
    let Lined : ℕ × Command → Type 0 = λ x. is_spelled x.1 ≡ true in
    let spelled = recursion_from_All IsSpelled (trace queue) (serves.spelled queue) in
    let says : AllByRecursion Says (numbered (trace queue)) = counted IsSpelled 0 (trace queue) spelled in
    let lined : AllByRecursion Lined (numbered (trace queue)) = counted (λ command. is_spelled command ≡ true) 0 (trace queue) (lines (trace queue) spelled) in
    both (λ e. IfSome (completed_by queue e) Says) (λ e. IfSome (started_in queue e) Lined) es
    (each (completed_by queue) Says es (front Says (completed queue es) order.0 (subst (AllByRecursion Says) order.1 says)))
    (each (started_in queue) Lined es
    (∥∥₁_elim (serves.starts queue is) (AllByRecursion-prop Lined (λ x. Bool-set (is_spelled x.1) true) (started_by queue es)) (λ part. within Lined (started_by queue es) (numbered (trace queue)) part lined))) where
      lines : (xs : List Command) → AllByRecursion IsSpelled xs → AllByRecursion (λ command. is_spelled command ≡ true) xs
      lines [] all = tt
      lines (x ∷ xs) all = (all.0.line, lines xs all.1)

-- ---- an entry

-- a completion is one of its own queue
pub own-host : (h : Host) → IfSome (completed_by h.queue (entries.Host h)) (λ (x : ℕ × Command). IsSpelled x.1) → IsSpelled h.command
own-host h own =
    let is : nat_eq h.queue h.queue ≡ true = eq-eqb h.queue h.queue refl in
    subst (λ (b : Bool). IfSome (cond b (Some (h.number, h.command)) None) (λ (x : ℕ × Command). IsSpelled x.1)) is own

-- and a start
pub own-start : (s : Started) → IfSome (started_in s.queue (entries.Started s)) (λ (x : ℕ × Command). is_spelled x.1 ≡ true) → is_spelled s.command ≡ true
own-start s own =
    let is : nat_eq s.queue s.queue ≡ true = eq-eqb s.queue s.queue refl in
    subst (λ (b : Bool). IfSome (cond b (Some (s.number, s.command)) None) (λ (x : ℕ × Command). is_spelled x.1 ≡ true)) is own

-- ---- a history

-- a command that a line says is said by its own
spelled-line : (command : Command) → IsTyped command → is_spelled command ≡ true → IsSpelled command
spelled-line command typed is = let r = spelled_row command typed is in record { line = is; says = own_spells r.line command r.row r.within }

given-entry : (told : Bool) (c : DriveConfig) (f : Found) (before : List Entry) (e : Entry) → IsStep told c f before e → IsRanged e → ((queue : ℕ) → IsQueue c queue → IsOwn queue e) → HasGiven c.block e
unfolding Follows
given-entry told c f before (entries.Host h) step ranged own = inl (own-host h (own h.queue step.queue_is).0)
given-entry told c f before (entries.Started s) step ranged own = inl (spelled-line s.command ranged.command (own-start s (own s.queue step.queue_is).1))
given-entry told c f before (entries.Placed p) step ranged own = tt
given-entry told c f before (entries.Copied x) step ranged own = tt
given-entry told c f before (entries.Moved m) step ranged own = tt
given-entry told c f before (entries.Erased e) step ranged own = tt
given-entry told c f before (entries.Retired r) step ranged own = tt
given-entry told c f before (entries.Aside a) step ranged own = tt
given-entry told c f before (entries.Shut s) step ranged own = tt
given-entry told c f before (entries.Worn w) step ranged own = tt
given-entry told c f before entries.Reopened step ranged own = tt

given-after : (told : Bool) (c : DriveConfig) (f : Found) (before es : List Entry) → IsLegalAfter told c f before es → AllByRecursion IsRanged es → ((queue : ℕ) → IsQueue c queue → AllByRecursion (IsOwn queue) es) → AllByRecursion (HasGiven c.block) es
unfolding IsLegalAfter
given-after told c f before [] legal ranged own = tt
given-after told c f before (e ∷ es) legal ranged own = (
  given-entry told c f before e legal.0 ranged.0 (λ queue is. (own queue is).0),
  given-after told c f (before ++ e ∷ []) es legal.1 ranged.1 (λ queue is. (own queue is).1),
)

pub given-legal : (told : Bool) (c : DriveConfig) (f : Found) (trace : ℕ → List Command) (es : List Entry) → IsLegal told c f es → All IsRanged es → ServesSpelled c trace es → All (HasGiven c.block) es
given-legal told c f trace es legal ranged serves = All-from_recursion (HasGiven c.block) es (given-after told c f [] es legal (recursion_from_All IsRanged es ranged) (all-own c trace es serves))

-- ---- a text

-- what a line says is spelled
said : (rows : List (List ℕ)) (commands : List Command) → AllZip Says rows commands → AllByRecursion IsSpelled commands
said [] [] all = tt
said [] (command ∷ commands) all = absurd all
said (row ∷ rows) [] all = absurd all
said (row ∷ rows) (command ∷ commands) all = (spelled_of (words_of row) command all.0.1, said rows commands all.1)

-- so are the commands of a trace
pub traces-spelled : (text : List ℕ) (commands : List Command) → IsTraceOf text commands → All IsSpelled commands
traces-spelled text commands trace = All-from_recursion IsSpelled commands (said (filter (λ line. not (is_skipped line)) (lines text)) commands trace.0)
