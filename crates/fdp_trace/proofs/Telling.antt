-- A text says what the grammar says, or has the fault that the grammar tells first.
use Rattle.std.proofs.Common.{◌≡◌, ℕ, suc, ◌+◌, ◌<◌, ◌≤◌, Bool, true, false, not, nat_lt, List, [], ◌∷◌, ◌++◌, length, filter, Option, Some, None, Result, Ok, Err, refl, sym, ap, subst, ◌∙◌, arith, inl, inr}
use Rattle.std.specs.Prelude.{◌⊎◌, ◌↔◌}
use Rattle.std.specs.List.{AllZip, sum_by}
use Rattle.std.proofs.lemmas.List.Sums.{sum_by-cons}
use Rattle.std.specs.Str.{IsUtf8, is_utf8}
use Rattle.std.specs.Str.Lines.{lines}
use Rattle.std.proofs.lemmas.Bool.{cases_Bool}
use Rattle.std.proofs.lemmas.Bool.Decides.{nat_tests}
use Rattle.std.proofs.lemmas.Str.{is_utf8-from_IsUtf8, IsUtf8-from_is_utf8}
use Rattle.fdp_base.specs.declared.command.Command.{Command}
use Rattle.fdp_trace.specs.declared.fault.FaultKind.{FaultKind}
use Rattle.fdp_trace.specs.declared.fault.FaultKind.TheVariants as kinds
use Rattle.fdp_trace.specs.Words.{words_of}
use Rattle.fdp_trace.specs.Reader.Reading.{◌>>=◌}
use Rattle.fdp_trace.specs.Reader.Commands.{command_of}
use Rattle.fdp_trace.specs.Reader.Trace.{Tally, line_more, command_more, is_too_much, in_front, after_line, trace_from, trace_of}
use Rattle.fdp_trace.specs.Reader.Line.{line_of}
use Rattle.fdp_trace.specs.Demands.{WordsLack}
use Rattle.fdp_trace.specs.Grammar.{is_skipped, IsReadable, Says, LineLacks, AreFew, IsTraceOf, IsBad, IsFaultOf}
use Rattle.fdp_trace.proofs.Meaning.{ComesTo, comes, spells_is, lacks_is}
use Rattle.fdp_base.specs.CommandKinds.{blocks_read}

-- ---- a line

-- what a line comes to
abbrev pub LineComesTo : List ℕ → Result (Option Command) FaultKind → Type 0
LineComesTo line (Ok None) = is_skipped line ≡ true
LineComesTo line (Ok (Some command)) = (is_skipped line ≡ false) × Says line command
LineComesTo line (Err kind) = (is_skipped line ≡ false) × LineLacks line kind

no_both : (b : Bool) → b ≡ true → b ≡ false → ⊥
no_both b yes' no' = cc

utf8_not : (line : List ℕ) → is_utf8 line ≡ false → IsUtf8 line → ⊥
utf8_not line no' utf8 = no_both (is_utf8 line) (is_utf8-from_IsUtf8 line utf8) no'

not_utf8 : (line : List ℕ) → (IsUtf8 line → ⊥) → is_utf8 line ≡ false
not_utf8 line not = elim (cases_Bool (is_utf8 line)) [
  | inl here ↦ absurd (not (IsUtf8-from_is_utf8 line here))
  | inr there ↦ there
]

short_test : (n : ℕ) → n ≤ 4096 → nat_lt 4096 n ≡ false
short_test n le = grind (arith, nat_tests)

long_test : (n : ℕ) → 4096 < n → nat_lt 4096 n ≡ true
long_test n lt = grind (arith, nat_tests)

short_by_test : (n : ℕ) → nat_lt 4096 n ≡ false → n ≤ 4096
short_by_test n e = grind (arith, nat_tests)

long_by_test : (n : ℕ) → nat_lt 4096 n ≡ true → 4096 < n
long_by_test n e = grind (arith, nat_tests)

readable : (line : List ℕ) → is_skipped line ≡ false → IsReadable line → line_of line ≡ (command_of (words_of line) >>= λ command. Ok (Some command))
unfolding line_of
readable line shown reads =
    let short = short_test (length line) reads.0 in
    let utf8 = is_utf8-from_IsUtf8 line reads.1 in
    rw (shown, short, utf8) refl

says_is : (line : List ℕ) (command : Command) → is_skipped line ≡ false → Says line command → line_of line ≡ Ok (Some command)
says_is line command shown says =
    readable line shown says.0 ∙ ap (λ (r : Result Command FaultKind). r >>= λ c. Ok (Some c)) (spells_is (words_of line) command says.1)

lack_words : (line : List ℕ) (kind : FaultKind) → is_skipped line ≡ false → IsReadable line → WordsLack (words_of line) kind → line_of line ≡ Err kind
lack_words line kind shown reads lack =
    readable line shown reads ∙ ap (λ (r : Result Command FaultKind). r >>= λ c. Ok (Some c)) (lacks_is (words_of line) kind lack)

lacks_line : (line : List ℕ) (kind : FaultKind) → is_skipped line ≡ false → LineLacks line kind → line_of line ≡ Err kind
unfolding line_of
lacks_line line kinds.Long shown lack = let long = long_test (length line) lack in rw (shown, long) refl
lacks_line line kinds.Utf8 shown lack =
    let short = short_test (length line) lack.0 in
    let no' = not_utf8 line lack.1 in
    rw (shown, short, no') refl
lacks_line line kinds.Word shown lack = lack_words line kinds.Word shown lack.0 lack.1
lacks_line line kinds.Count shown lack = lack_words line kinds.Count shown lack.0 lack.1
lacks_line line kinds.Number shown lack = lack_words line kinds.Number shown lack.0 lack.1
lacks_line line kinds.Range shown lack = lack_words line kinds.Range shown lack.0 lack.1

skipped_is : (line : List ℕ) → is_skipped line ≡ true → line_of line ≡ Ok None
unfolding line_of
skipped_is line hidden = rw hidden refl

lack_of_words : (line : List ℕ) (kind : FaultKind) → IsReadable line → WordsLack (words_of line) kind → LineLacks line kind
lack_of_words line kinds.Long reads lack = absurd lack
lack_of_words line kinds.Utf8 reads lack = absurd lack
lack_of_words line kinds.Word reads lack = (reads, lack)
lack_of_words line kinds.Count reads lack = (reads, lack)
lack_of_words line kinds.Number reads lack = (reads, lack)
lack_of_words line kinds.Range reads lack = (reads, lack)

words_come : (line : List ℕ) (r : Result Command FaultKind) → is_skipped line ≡ false → IsReadable line → ComesTo (words_of line) r → LineComesTo line (r >>= λ command. Ok (Some command))
words_come line (Ok command) shown reads spells = (shown, (reads, spells))
words_come line (Err kind) shown reads lack = (shown, lack_of_words line kind reads lack)

pub line_comes : (line : List ℕ) → LineComesTo line (line_of line)
unfolding line_of
line_comes line = elim (cases_Bool (is_skipped line)) [
  | inl hidden ↦ subst (LineComesTo line) (sym (skipped_is line hidden)) hidden
  | inr shown ↦ elim (cases_Bool (nat_lt 4096 (length line))) [
    | inl long ↦ let e : line_of line ≡ Err kinds.Long = rw (shown, long) refl in subst (LineComesTo line) (sym e) (shown, long_by_test (length line) long)
    | inr short ↦ elim (cases_Bool (is_utf8 line)) [
      | inr no' ↦
          let e : line_of line ≡ Err kinds.Utf8 = rw (shown, short, no') refl in
          subst (LineComesTo line) (sym e) (shown, (short_by_test (length line) short, utf8_not line no'))
      | inl utf8 ↦
          let reads : IsReadable line = (short_by_test (length line) short, IsUtf8-from_is_utf8 line utf8) in
          subst (LineComesTo line) (sym (readable line shown reads)) (words_come line (command_of (words_of line)) shown reads (comes (words_of line)))
    ]
  ]
]

-- ---- the lines of a text

abbrev pub shown_lines : List (List ℕ) → List (List ℕ)
shown_lines ls = filter (λ line. not (is_skipped line)) ls

-- few enough behind what was counted
abbrev pub AreFewFrom : Tally → List Command → Type 0
AreFewFrom t commands = (t.commands + length commands ≤ 8192) × (t.blocks + sum_by blocks_read commands ≤ 8192)

abbrev pub IsBadFrom : Tally → List Command → List ℕ → FaultKind → Type 0
IsBadFrom t before line kind = LineLacks line kind ⊎ ((kind ≡ kinds.Long) × ((command : Command) × Says line command × (AreFewFrom t (before ++ command ∷ []) → ⊥)))

few_test : (t : Tally) (command : Command) → AreFewFrom t (command ∷ []) → is_too_much (command_more t command) ≡ false
few_test t command few = grind (arith, nat_tests, few.0, few.1)

few_by_test : (t : Tally) (command : Command) → is_too_much (command_more t command) ≡ false → AreFewFrom t (command ∷ [])
few_by_test t command e = (grind (arith, nat_tests), grind (arith, nat_tests))

many_test : (t : Tally) (command : Command) → (AreFewFrom t (command ∷ []) → ⊥) → is_too_much (command_more t command) ≡ true
many_test t command many = elim (cases_Bool (is_too_much (command_more t command))) [
  | inl here ↦ here
  | inr there ↦ absurd (many (few_by_test t command there))
]

few_first : (t : Tally) (command : Command) (commands : List Command) → AreFewFrom t (command ∷ commands) → AreFewFrom t (command ∷ [])
few_first t command commands few = let e = sum_by-cons blocks_read command commands in (omega (arith, few.0), omega (arith, few.1, e))

few_rest : (t : Tally) (command : Command) (commands : List Command) → AreFewFrom t (command ∷ commands) → AreFewFrom (command_more t command) commands
few_rest t command commands few = let e = sum_by-cons blocks_read command commands in (omega (arith, few.0), omega (arith, few.1, e))

few_more : (t : Tally) (command : Command) (commands : List Command) → AreFewFrom (command_more t command) commands → AreFewFrom t (command ∷ commands)
few_more t command commands few = let e = sum_by-cons blocks_read command commands in (omega (arith, few.0), omega (arith, few.1, e))

pub hidden_line : (line : List ℕ) (ls : List (List ℕ)) → is_skipped line ≡ true → shown_lines (line ∷ ls) ≡ shown_lines ls
hidden_line line ls hidden = rw hidden refl

pub shown_line : (line : List ℕ) (ls : List (List ℕ)) → is_skipped line ≡ false → shown_lines (line ∷ ls) ≡ line ∷ shown_lines ls
shown_line line ls shown = rw shown refl

-- the lines from one on, where it has no command
past_hidden : (t : Tally) (line : List ℕ) (ls : List (List ℕ)) → is_skipped line ≡ true → trace_from t (line ∷ ls) ≡ trace_from (line_more t) ls
unfolding trace_from
past_hidden t line ls hidden =
    ap (λ (r : Result (Option Command) FaultKind). after_line t r (trace_from (line_more t) ls) (λ c. trace_from (command_more t c) ls)) (skipped_is line hidden)

-- where it has one
past_command : (t : Tally) (line : List ℕ) (ls : List (List ℕ)) (command : Command) → line_of line ≡ Ok (Some command) → AreFewFrom t (command ∷ []) → trace_from t (line ∷ ls) ≡ in_front command (trace_from (command_more t command) ls)
unfolding trace_from
past_command t line ls command is few =
    let test = few_test t command few in
    ap (λ (r : Result (Option Command) FaultKind). after_line t r (trace_from (line_more t) ls) (λ c. trace_from (command_more t c) ls)) is ∙ rw test refl

-- where it is one too many
past_limit : (t : Tally) (line : List ℕ) (ls : List (List ℕ)) (command : Command) → line_of line ≡ Ok (Some command) → is_too_much (command_more t command) ≡ true → trace_from t (line ∷ ls) ≡ Err (t.lines + 1, kinds.Long)
unfolding trace_from
past_limit t line ls command is test =
    ap (λ (r : Result (Option Command) FaultKind). after_line t r (trace_from (line_more t) ls) (λ c. trace_from (command_more t c) ls)) is ∙ rw test refl

-- where it is bad
past_fault : (t : Tally) (line : List ℕ) (ls : List (List ℕ)) (kind : FaultKind) → line_of line ≡ Err kind → trace_from t (line ∷ ls) ≡ Err (t.lines + 1, kind)
unfolding trace_from
past_fault t line ls kind is =
    ap (λ (r : Result (Option Command) FaultKind). after_line t r (trace_from (line_more t) ls) (λ c. trace_from (command_more t c) ls)) is

-- ---- what the grammar says is read

some_front : (t : Tally) (line : List ℕ) (ls : List (List ℕ)) (rest : Result (List Command) (ℕ × FaultKind)) (command : Command) → is_skipped line ≡ false → Says line command → AreFewFrom t (command ∷ [])
    → trace_from (command_more t command) ls ≡ rest → trace_from t (line ∷ ls) ≡ in_front command rest
some_front t line ls rest command shown says few e = past_command t line ls command (says_is line command shown says) few ∙ ap (in_front command) e

read_shown : (t : Tally) (line : List ℕ) (ls : List (List ℕ)) (commands : List Command) → is_skipped line ≡ false → AllZip Says (line ∷ shown_lines ls) commands → AreFewFrom t commands
    → ((c : Command) (cs : List Command) → AllZip Says (shown_lines ls) cs → AreFewFrom (command_more t c) cs → trace_from (command_more t c) ls ≡ Ok cs) → trace_from t (line ∷ ls) ≡ Ok commands
read_shown t line ls [] shown say few more = absurd say
read_shown t line ls (c ∷ cs) shown say few more = some_front t line ls (Ok cs) c shown say.0 (few_first t c cs few) (more c cs say.1 (few_rest t c cs few))

read_lines : (t : Tally) (ls : List (List ℕ)) (commands : List Command) → AllZip Says (shown_lines ls) commands → AreFewFrom t commands → trace_from t ls ≡ Ok commands
unfolding trace_from
read_lines t [] [] say few = refl
read_lines t [] (c ∷ cs) say few = absurd say
read_lines t (line ∷ ls) commands say few = elim (cases_Bool (is_skipped line)) [
  | inl hidden ↦ past_hidden t line ls hidden ∙ read_lines (line_more t) ls commands (subst (λ (l : List (List ℕ)). AllZip Says l commands) (hidden_line line ls hidden) say) few
  | inr shown ↦ read_shown t line ls commands shown (subst (λ (l : List (List ℕ)). AllZip Says l commands) (shown_line line ls shown) say) few (λ c cs says more. read_lines (command_more t c) ls cs says more)
]

place_more : (n k : ℕ) → (n + 1) + k + 1 ≡ n + suc k + 1
place_more n k = omega arith

bad_rest : (t : Tally) (c : Command) (cs : List Command) (line : List ℕ) (kind : FaultKind) → IsBadFrom t (c ∷ cs) line kind → IsBadFrom (command_more t c) cs line kind
bad_rest t c cs line kind (inl lack) = inl lack
bad_rest t c cs line kind (inr (long, (d, says, many))) = inr (long, (d, says, λ few. many (few_more t c (cs ++ d ∷ []) few)))

bad_more : (t : Tally) (c : Command) (cs : List Command) (line : List ℕ) (kind : FaultKind) → IsBadFrom (command_more t c) cs line kind → IsBadFrom t (c ∷ cs) line kind
bad_more t c cs line kind (inl lack) = inl lack
bad_more t c cs line kind (inr (long, (d, says, many))) = inr (long, (d, says, λ few. many (few_rest t c (cs ++ d ∷ []) few)))

bad_here : (t : Tally) (line : List ℕ) (later : List (List ℕ)) (kind : FaultKind) → is_skipped line ≡ false → IsBadFrom t [] line kind → trace_from t (line ∷ later) ≡ Err (t.lines + 1, kind)
bad_here t line later kind shown (inl lack) = past_fault t line later kind (lacks_line line kind shown lack)
bad_here t line later kind shown (inr (long, (d, says, many))) =
    past_limit t line later d (says_is line d shown says) (many_test t d many) ∙ ap (λ (k : FaultKind). Err (t.lines + 1, k)) (sym long)

fault_shown : (t : Tally) (first : List ℕ) (front : List (List ℕ)) (line : List ℕ) (later : List (List ℕ)) (commands : List Command) (kind : FaultKind) → is_skipped first ≡ false → AllZip Says (first ∷ shown_lines front) commands
    → AreFewFrom t commands → IsBadFrom t commands line kind
    → ((c : Command) (cs : List Command) → AllZip Says (shown_lines front) cs → AreFewFrom (command_more t c) cs → IsBadFrom (command_more t c) cs line kind
    → trace_from (command_more t c) (front ++ line ∷ later) ≡ Err ((t.lines + 1) + length front + 1, kind))
    → trace_from t (first ∷ front ++ line ∷ later) ≡ Err (t.lines + suc (length front) + 1, kind)
fault_shown t first front line later [] kind shown say few bad more = absurd say
fault_shown t first front line later (c ∷ cs) kind shown say few bad more =
    some_front t first (front ++ line ∷ later) (Err ((t.lines + 1) + length front + 1, kind)) c shown say.0 (few_first t c cs few) (more c cs say.1 (few_rest t c cs few) (bad_rest t c cs line kind bad))
    ∙ ap (λ (n : ℕ). Err (n, kind)) (place_more t.lines (length front))

fault_lines : (t : Tally) (front : List (List ℕ)) (line : List ℕ) (later : List (List ℕ)) (commands : List Command) (kind : FaultKind) → AllZip Says (shown_lines front) commands → AreFewFrom t commands
    → is_skipped line ≡ false → IsBadFrom t commands line kind → trace_from t (front ++ line ∷ later) ≡ Err (t.lines + length front + 1, kind)
fault_lines t [] line later [] kind say few shown bad =
    let place : t.lines + 1 ≡ t.lines + 0 + 1 = omega arith in
    bad_here t line later kind shown bad ∙ ap (λ (n : ℕ). Err (n, kind)) place
fault_lines t [] line later (c ∷ cs) kind say few shown bad = absurd say
fault_lines t (first ∷ front) line later commands kind say few shown bad = elim (cases_Bool (is_skipped first)) [
  | inl hidden ↦
      past_hidden t first (front ++ line ∷ later) hidden
      ∙ fault_lines (line_more t) front line later commands kind (subst (λ (l : List (List ℕ)). AllZip Says l commands) (hidden_line first front hidden) say) few shown bad
      ∙ ap (λ (n : ℕ). Err (n, kind)) (place_more t.lines (length front))
  | inr here ↦
      fault_shown t first front line later commands kind here (subst (λ (l : List (List ℕ)). AllZip Says l commands) (shown_line first front here) say) few bad
      (λ c cs says more worse. fault_lines (command_more t c) front line later cs kind says more shown worse)
]

-- ---- what is read is what the grammar says

-- a bad line behind lines that say commands
pub record IsFaultFrom (t : Tally) (ls : List (List ℕ)) (number : ℕ) (kind : FaultKind) : Type 0 where
  pub front : List (List ℕ)
  pub line : List ℕ
  pub later : List (List ℕ)
  pub commands : List Command
  pub cut : ls ≡ front ++ line ∷ later
  pub place : number ≡ t.lines + length front + 1
  pub say : AllZip Says (shown_lines front) commands
  pub few : AreFewFrom t commands
  pub shown : is_skipped line ≡ false
  pub bad : IsBadFrom t commands line kind

abbrev pub TextComesTo : Tally → List (List ℕ) → Result (List Command) (ℕ × FaultKind) → Type 0
TextComesTo t ls (Ok commands) = AllZip Says (shown_lines ls) commands × AreFewFrom t commands
TextComesTo t ls (Err fault) = IsFaultFrom t ls fault.0 fault.1

come_hidden : (t : Tally) (line : List ℕ) (ls : List (List ℕ)) (r : Result (List Command) (ℕ × FaultKind)) → is_skipped line ≡ true → TextComesTo (line_more t) ls r → TextComesTo t (line ∷ ls) r
come_hidden t line ls (Ok commands) hidden come = (subst (λ (l : List (List ℕ)). AllZip Says l commands) (sym (hidden_line line ls hidden)) come.0, come.1)
come_hidden t line ls (Err fault) hidden come = record {
  front = line ∷ come.front;
  line = come.line;
  later = come.later;
  commands = come.commands;
  cut = ap (λ (l : List (List ℕ)). line ∷ l) come.cut;
  place = come.place ∙ place_more t.lines (length come.front);
  say = subst (λ (l : List (List ℕ)). AllZip Says l come.commands) (sym (hidden_line line come.front hidden)) come.say;
  few = come.few;
  shown = come.shown;
  bad = come.bad;
}

come_shown : (t : Tally) (line : List ℕ) (ls : List (List ℕ)) (c : Command) (r : Result (List Command) (ℕ × FaultKind)) → is_skipped line ≡ false → Says line c → TextComesTo (command_more t c) ls r
    → TextComesTo t (line ∷ ls) (in_front c r)
come_shown t line ls c (Ok cs) shown says come = (subst (λ (l : List (List ℕ)). AllZip Says l (c ∷ cs)) (sym (shown_line line ls shown)) (says, come.0), few_more t c cs come.1)
come_shown t line ls c (Err fault) shown says come = record {
  front = line ∷ come.front;
  line = come.line;
  later = come.later;
  commands = c ∷ come.commands;
  cut = ap (λ (l : List (List ℕ)). line ∷ l) come.cut;
  place = come.place ∙ place_more t.lines (length come.front);
  say = subst (λ (l : List (List ℕ)). AllZip Says l (c ∷ come.commands)) (sym (shown_line line come.front shown)) (says, come.say);
  few = few_more t c come.commands come.few;
  shown = come.shown;
  bad = bad_more t c come.commands come.line fault.1 come.bad;
}

come_bad : (t : Tally) (line : List ℕ) (ls : List (List ℕ)) (kind : FaultKind) → AreFewFrom t [] → is_skipped line ≡ false → IsBadFrom t [] line kind → IsFaultFrom t (line ∷ ls) (t.lines + 1) kind
come_bad t line ls kind few shown bad = record {
  front = [];
  line = line;
  later = ls;
  commands = [];
  cut = refl;
  place = omega arith;
  say = tt;
  few = few;
  shown = shown;
  bad = bad;
}

none_more : (t : Tally) (c : Command) → AreFewFrom t (c ∷ []) → AreFewFrom (command_more t c) []
none_more t c few = few_rest t c [] few

many_by_test : (t : Tally) (c : Command) → is_too_much (command_more t c) ≡ true → AreFewFrom t (c ∷ []) → ⊥
many_by_test t c much few = no_both (is_too_much (command_more t c)) much (few_test t c few)

-- at the first line, by what it comes to
come_line : (t : Tally) (line : List ℕ) (ls : List (List ℕ)) (r : Result (Option Command) FaultKind) → line_of line ≡ r → LineComesTo line r → AreFewFrom t [] → TextComesTo (line_more t) ls (trace_from (line_more t) ls)
    → ((c : Command) → AreFewFrom (command_more t c) [] → TextComesTo (command_more t c) ls (trace_from (command_more t c) ls)) → TextComesTo t (line ∷ ls) (trace_from t (line ∷ ls))
come_line t line ls (Ok None) is hidden few without beside =
    subst (TextComesTo t (line ∷ ls)) (sym (past_hidden t line ls hidden)) (come_hidden t line ls (trace_from (line_more t) ls) hidden without)
come_line t line ls (Ok (Some c)) is (shown, says) few without beside = elim (cases_Bool (is_too_much (command_more t c))) [
  | inl much ↦
      subst (TextComesTo t (line ∷ ls)) (sym (past_limit t line ls c is much)) (come_bad t line ls kinds.Long few shown (inr (refl, (c, says, many_by_test t c much))))
  | inr less ↦
      let one = few_by_test t c less in
      subst (TextComesTo t (line ∷ ls)) (sym (past_command t line ls c is one)) (come_shown t line ls c (trace_from (command_more t c) ls) shown says (beside c (none_more t c one)))
]
come_line t line ls (Err kind) is (shown, lack) few without beside =
    subst (TextComesTo t (line ∷ ls)) (sym (past_fault t line ls kind is)) (come_bad t line ls kind few shown (inl lack))

text_comes : (t : Tally) (ls : List (List ℕ)) → AreFewFrom t [] → TextComesTo t ls (trace_from t ls)
unfolding trace_from
text_comes t [] few = (tt, few)
text_comes t (line ∷ ls) few =
    come_line t line ls (line_of line) refl (line_comes line) few (text_comes (line_more t) ls few) (λ c more. text_comes (command_more t c) ls more)

-- ---- the grammar is what is read

abbrev start : Tally
start = record { lines = 0; commands = 0; blocks = 0 }

few_start : (commands : List Command) → AreFew commands → AreFewFrom start commands
few_start commands few = (omega (arith, few.0), omega (arith, few.1))

start_few : (commands : List Command) → AreFewFrom start commands → AreFew commands
start_few commands few = (omega (arith, few.0), omega (arith, few.1))

bad_start : (before : List Command) (line : List ℕ) (kind : FaultKind) → IsBad before line kind → IsBadFrom start before line kind
bad_start before line kind (inl lack) = inl lack
bad_start before line kind (inr (long, (d, says, many))) = inr (long, (d, says, λ few. many (start_few (before ++ d ∷ []) few)))

start_bad : (before : List Command) (line : List ℕ) (kind : FaultKind) → IsBadFrom start before line kind → IsBad before line kind
start_bad before line kind (inl lack) = inl lack
start_bad before line kind (inr (long, (d, says, many))) = inr (long, (d, says, λ few. many (few_start (before ++ d ∷ []) few)))

trace_read : (text : List ℕ) (commands : List Command) → IsTraceOf text commands → trace_of text ≡ Ok commands
trace_read text commands is = read_lines start (lines text) commands is.0 (few_start commands is.1)

come_trace : (text : List ℕ) (r : Result (List Command) (ℕ × FaultKind)) (commands : List Command) → TextComesTo start (lines text) r → r ≡ Ok commands → IsTraceOf text commands
come_trace text (Ok cs) commands come e =
    let same : cs ≡ commands = cc in
    subst (IsTraceOf text) same (come.0, start_few cs come.1)
come_trace text (Err fault) commands come e = absurd cc

abbrev fault_in : Result (List Command) (ℕ × FaultKind) → ℕ × FaultKind
fault_in (Ok commands) = (0, kinds.Long)
fault_in (Err fault) = fault

come_fault : (text : List ℕ) (r : Result (List Command) (ℕ × FaultKind)) (number : ℕ) (kind : FaultKind) → TextComesTo start (lines text) r → r ≡ Err (number, kind) → IsFaultOf text number kind
come_fault text (Ok cs) number kind come e = absurd cc
come_fault text (Err (n, k)) number kind come e =
    let n-is : n ≡ number = ap (λ r. (fault_in r).0) e in
    let k-is : k ≡ kind = ap (λ r. (fault_in r).1) e in
    subst (λ (x : FaultKind). IsFaultOf text number x) k-is (record {
      front = come.front;
      line = come.line;
      later = come.later;
      commands = come.commands;
      cut = come.cut;
      place = sym n-is ∙ come.place ∙ omega arith;
      say = (come.say, start_few come.commands come.few);
      shown = come.shown;
      bad = start_bad come.commands come.line k come.bad;
    })

fault_read : (text : List ℕ) (number : ℕ) (kind : FaultKind) → IsFaultOf text number kind → trace_of text ≡ Err (number, kind)
fault_read text number kind fault =
    let place : 0 + length fault.front + 1 ≡ number = omega (arith, fault.place) in
    ap (trace_from start) fault.cut
    ∙ fault_lines start fault.front fault.line fault.later fault.commands kind fault.say.0 (few_start fault.commands fault.say.1) fault.shown (bad_start fault.commands fault.line kind fault.bad)
    ∙ ap (λ (n : ℕ). Err (n, kind)) place

pub trace_is : (text : List ℕ) (commands : List Command) → IsTraceOf text commands ↔ (trace_of text ≡ Ok commands)
trace_is text commands = (trace_read text commands, come_trace text (trace_of text) commands (text_comes start (lines text) (omega arith, omega arith)))

pub fault_is : (text : List ℕ) (number : ℕ) (kind : FaultKind) → IsFaultOf text number kind ↔ (trace_of text ≡ Err (number, kind))
fault_is text number kind = (fault_read text number kind, come_fault text (trace_of text) number kind (text_comes start (lines text) (omega arith, omega arith)))
