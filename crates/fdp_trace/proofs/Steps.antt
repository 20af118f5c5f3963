-- A trace that is read line by line, as a loop does.
use Rattle.std.proofs.Common.{◌≡◌, ℕ, ◌+◌, Bool, true, false, List, [], ◌∷◌, ◌++◌, Option, Some, None, Result, Ok, Err, refl, sym, ap, ◌∙◌, append_assoc, ◌||◌, ◌≤◌, inl, ltb, ◌==◌, length}
use Rattle.std.specs.Str.Lines.{lines}
use Rattle.std.proofs.lemmas.Bool.{eqb-true, ltb-false}
use Rattle.std.proofs.lemmas.List.{append-nil, nil_from_length}
use Rattle.fdp_base.specs.declared.command.Command.{Command}
use Rattle.fdp_trace.specs.declared.fault.FaultKind.{FaultKind}
use Rattle.fdp_trace.specs.declared.fault.FaultKind.TheVariants as kinds
use Rattle.fdp_trace.specs.Reader.Trace.{Tally, line_more, command_more, is_too_much, in_front, after_line, trace_from, trace_of, ReadsLines}
use Rattle.std.specs.Global.{Vec}
use Rattle.fdp_trace.specs.Grammar.{SaysNext}
use Rattle.fdp_trace.specs.Reader.Line.{line_of, ReadsLine}
use Rattle.fdp_trace.specs.declared.fault.TraceFault.{TraceFault}
use Rattle.fdp_trace.specs.declared.fault.TraceFault.TheVariants as faults

abbrev pub Outcome : Type 0
Outcome = Result (List Command) (ℕ × FaultKind)

-- what was read before, and what is still read
abbrev pub with_commands : List Command → Outcome → Outcome
with_commands front (Ok commands) = Ok (front ++ commands)
with_commands front (Err fault) = Err fault

with_commands-push : (front : List Command) (command : Command) (later : Outcome) → with_commands front (in_front command later) ≡ with_commands (front ++ command ∷ []) later
with_commands-push front command (Ok commands) = ap Ok (sym (append_assoc front (command ∷ []) commands))
with_commands-push front command (Err fault) = refl

-- the lines that follow, at their first
pub cut_line : (front : List Command) (t : Tally) (texts : List (List ℕ)) (line : List ℕ) (later : List (List ℕ)) (total : Outcome) → texts ≡ line ∷ later
    → with_commands front (trace_from t texts) ≡ total
    → with_commands front (after_line t (line_of line) (trace_from (line_more t) later) (λ command. trace_from (command_more t command) later)) ≡ total
unfolding trace_from
cut_line front t texts line later total cut so_far = sym (ap (λ (x : List (List ℕ)). with_commands front (trace_from t x)) cut) ∙ so_far

pub bad_line : (front : List Command) (t : Tally) (texts : List (List ℕ)) (line : List ℕ) (later : List (List ℕ)) (total : Outcome) (kind : FaultKind) → texts ≡ line ∷ later → line_of line ≡ Err kind
    → with_commands front (trace_from t texts) ≡ total → total ≡ Err (t.lines + 1, kind)
bad_line front t texts line later total kind cut is so_far =
    let step = cut_line front t texts line later total cut so_far in
    sym step ∙ ap (λ (r : Result (Option Command) FaultKind). with_commands front (after_line t r (trace_from (line_more t) later) (λ command. trace_from (command_more t command) later))) is

pub no_command : (front : List Command) (t : Tally) (texts : List (List ℕ)) (line : List ℕ) (later : List (List ℕ)) (total : Outcome) → texts ≡ line ∷ later → line_of line ≡ Ok None
    → with_commands front (trace_from t texts) ≡ total → with_commands front (trace_from (line_more t) later) ≡ total
no_command front t texts line later total cut is so_far =
    let step = cut_line front t texts line later total cut so_far in
    sym (ap (λ (r : Result (Option Command) FaultKind). with_commands front (after_line t r (trace_from (line_more t) later) (λ command. trace_from (command_more t command) later))) is) ∙ step

pub too_much : (front : List Command) (t : Tally) (texts : List (List ℕ)) (line : List ℕ) (later : List (List ℕ)) (total : Outcome) (command : Command) → texts ≡ line ∷ later → line_of line ≡ Ok (Some command)
    → is_too_much (command_more t command) ≡ true → with_commands front (trace_from t texts) ≡ total → total ≡ Err (t.lines + 1, kinds.Long)
too_much front t texts line later total command cut is much so_far =
    let step = cut_line front t texts line later total cut so_far in
    let at : with_commands front (after_line t (line_of line) (trace_from (line_more t) later) (λ c. trace_from (command_more t c) later)) ≡ Err (t.lines + 1, kinds.Long) =
    rw (is, much) refl in
    sym step ∙ at

pub one_command : (front : List Command) (t : Tally) (texts : List (List ℕ)) (line : List ℕ) (later : List (List ℕ)) (total : Outcome) (command : Command) → texts ≡ line ∷ later → line_of line ≡ Ok (Some command)
    → is_too_much (command_more t command) ≡ false → with_commands front (trace_from t texts) ≡ total → with_commands (front ++ command ∷ []) (trace_from (command_more t command) later) ≡ total
one_command front t texts line later total command cut is less so_far =
    let step = cut_line front t texts line later total cut so_far in
    let at : with_commands front (after_line t (line_of line) (trace_from (line_more t) later) (λ c. trace_from (command_more t c) later)) ≡ with_commands front (in_front command (trace_from (command_more t command) later)) =
    rw (is, less) refl in
    sym (with_commands-push front command (trace_from (command_more t command) later)) ∙ sym at ∙ step

pub no_line : (front : List Command) (t : Tally) (total : Outcome) → with_commands front (trace_from t []) ≡ total → total ≡ Ok front
unfolding trace_from
no_line front t total so_far = sym so_far ∙ ap Ok (append-nil front)

pub fault_line : (e : TraceFault) (text : List ℕ) (commands : Vec Command) (t : Tally) (texts : List (List ℕ)) (line : List ℕ) (later : List (List ℕ)) → texts ≡ line ∷ later
    → ReadsLine (t.lines + 1) (line_of line) (Err e) → with_commands commands.items (trace_from t texts) ≡ trace_of text
    → ((command : Command) → line_of line ≡ Ok (Some command) → SaysNext text commands.items command) → ReadsLines text commands (Err e)
fault_line (faults.Line at kind) text commands t texts line later cut read so_far says =
    bad_line commands.items t texts line later (trace_of text) kind cut read.1 so_far ∙ ap (λ (n : ℕ). Err (n, kind)) (sym read.0)
fault_line faults.NoMemory text commands t texts line later cut (command, is, listed) so_far says = (command, says command is, inl listed)

pub rest_done : (front : List Command) (t : Tally) (rest : List ℕ) (total : Outcome) → (length rest == 0) ≡ true
    → with_commands front (trace_from t (lines rest)) ≡ total → total ≡ Ok front
rest_done front t rest total none so_far =
    let empty : rest ≡ [] = nil_from_length rest (eqb-true (length rest) 0 none) in
    no_line front t total (sym (ap (λ (xs : List ℕ). with_commands front (trace_from t (lines xs))) empty) ∙ so_far)

or_false : (a b : Bool) → (a || b) ≡ false → (a ≡ false) × (b ≡ false)
or_false true b e = absurd cc
or_false false b e = (refl, e)

pub within_limits : (a b : ℕ) → (ltb 8192 a || ltb 8192 b) ≡ false → (a ≤ 8192) × (b ≤ 8192)
within_limits a b e =
    let both = or_false (ltb 8192 a) (ltb 8192 b) e in
    (ltb-false 8192 a both.0, ltb-false 8192 b both.1)

pub same_limits : (r value : Bool) (len n blocks read b : ℕ) → r ≡ (ltb 8192 (len + 1) || ltb 8192 (blocks + read)) → len ≡ n → read ≡ b → r ≡ value
    → (ltb 8192 (n + 1) || ltb 8192 (blocks + b)) ≡ value
same_limits r value len n blocks read b is len-is read-is e = rw (← len-is, ← read-is) (sym is ∙ e)
