-- What is printed of a command says that command.
use Rattle.std.proofs.Common.{◌≡◌, ℕ, zero, suc, ◌^◌, ◌<◌, ◌≤◌, Bool, true, false, not, List, [], ◌∷◌, ◌++◌, length, get_or, map, refl, sym, ap, subst, ◌∙◌, arith, nat_lt}
use Rattle.std.specs.Prelude.{decimal, codes, if◌then◌else◌}
use Rattle.std.specs.List.{flat_map, list_all, AllByRecursion, AllZip}
use Rattle.std.specs.Str.{IsAscii, IsUtf8}
use Rattle.std.proofs.lemmas.Bool.Decides.{nat_tests}
use Rattle.std.proofs.lemmas.Str.{IsAscii-append, IsUtf8-from_ascii}
use Rattle.fdp_base.specs.declared.command.Command.{Command}
use Rattle.fdp_base.specs.declared.command.Command.TheVariants as commands
use Rattle.fdp_base.specs.declared.command.Range.{Range}
use Rattle.fdp_base.specs.CommandKinds.{word_of}
use Rattle.fdp_base.specs.Text.{spaced}
use Rattle.fdp_trace.specs.Words.{is_blank, words_of}
use Rattle.fdp_trace.specs.Lines.{Part, Fixed, Number, range_parts, IsLine, write, write_placed, read, zeroes, dealloc, flush, status, update, log, log_ctrl, log_host, set_fdp, get_fdp, set_events, create, delete}
use Rattle.fdp_trace.specs.Demands.{IsInRange, Spells}
use Rattle.fdp_trace.specs.Grammar.{is_skipped, Says}
use Rattle.fdp_queues.specs.Entry.{work_of}
use Rattle.fdp_output.specs.CommandText.{range_words, on_word, argument_words, command_text, line_words, work_words}
use Rattle.fdp_trace.specs.Printer.{spaced_behind}
use Rattle.fdp_trace.proofs.Parts.{both_true, zip_weaker, in_range, within_both, ranges_found}
use Rattle.fdp_trace.proofs.SpelledLines.{line_is_spelled}
use Rattle.fdp_trace.proofs.Spelling.{IsWord, spaced_is, words_back, ascii_behind, number_word, number_back}

-- ---- words of letters

not_true : (b : Bool) → not b ≡ true → b ≡ false
not_true true e = absurd cc
not_true false e = refl

plain_by_test : (w : List ℕ) → list_all (λ b. not (is_blank b)) w ≡ true → (k : ℕ) → k < length w → is_blank (get_or w k 0) ≡ false
plain_by_test [] e k lt = absurd (omega arith)
plain_by_test (b ∷ bs) e zero lt = not_true (is_blank b) (both_true (not (is_blank b)) (list_all (λ b. not (is_blank b)) bs) e).0
plain_by_test (b ∷ bs) e (suc k) lt = plain_by_test bs (both_true (not (is_blank b)) (list_all (λ b. not (is_blank b)) bs) e).1 k (omega arith)

ascii_by_test : (w : List ℕ) → list_all (λ b. nat_lt b 128) w ≡ true → IsAscii w
ascii_by_test [] e i = omega arith
ascii_by_test (b ∷ bs) e zero = let lt = (both_true (nat_lt b 128) (list_all (λ b. nat_lt b 128) bs) e).0 in grind (arith, nat_tests)
ascii_by_test (b ∷ bs) e (suc i) = ascii_by_test bs (both_true (nat_lt b 128) (list_all (λ b. nat_lt b 128) bs) e).1 i

letters : (w : List ℕ) → 0 < length w → list_all (λ b. not (is_blank b)) w ≡ true → list_all (λ b. nat_lt b 128) w ≡ true → IsWord w
letters w some plain ascii = record { some = some; plain = plain_by_test w plain; ascii = ascii_by_test w ascii }

-- ---- the words that are printed of a line

record IsShown (part : Part) (text : List ℕ) : Type 0 where
  pub is : IsInRange part text
  pub word : IsWord text

-- what is printed of a part
abbrev shown_word : Part → List ℕ
shown_word (Fixed text) = text
shown_word (Number low high n) = decimal n

-- a part that is printed as a word
abbrev IsPlain : Part → Type 0
IsPlain (Fixed text) = IsWord text
IsPlain (Number low high n) = high < 2 ^ 64

part_shown : (part : Part) → IsPlain part → in_range part ≡ true → IsShown part (shown_word part)
part_shown (Fixed text) word within = record { is = refl; word = word }
part_shown (Number low high n) lt within =
    let bounds = within_both low high n within in
    let small : n < 2 ^ 64 = omega (arith, bounds.1) in
    record { is = (number_back n small, bounds.0, bounds.1); word = number_word n small }

line_shown : (line : List Part) → AllByRecursion IsPlain line → list_all in_range line ≡ true → AllZip IsShown line (map shown_word line)
line_shown [] plain within = tt
line_shown (part ∷ line) plain within =
    let both = both_true (in_range part) (list_all in_range line) within in
    (part_shown part plain.0 both.0, line_shown line plain.1 both.1)

-- ---- the line that is printed of a command

record IsPrinted (c : Command) : Type 0 where
  pub line : List Part
  pub row : IsLine line c
  pub within : list_all in_range line ≡ true
  pub plain : AllByRecursion IsPlain line
  pub words : word_of c ∷ argument_words c ≡ map shown_word line

word_on : (enable : Bool) → IsWord (on_word enable)
word_on true = letters (codes "on") (omega arith) refl refl
word_on false = letters (codes "off") (omega arith) refl refl

list_plain : (high : ℕ) (ns : List ℕ) → high < 2 ^ 64 → AllByRecursion IsPlain (map (Number 0 high) ns)
list_plain high [] lt = tt
list_plain high (n ∷ ns) lt = (lt, list_plain high ns lt)

list_words : (high : ℕ) (ns : List ℕ) → map decimal ns ≡ map shown_word (map (Number 0 high) ns)
list_words high [] = refl
list_words high (n ∷ ns) = ap (λ (texts : List (List ℕ)). decimal n ∷ texts) (list_words high ns)

ranges_plain : (ranges : List Range) → AllByRecursion IsPlain (flat_map range_parts ranges)
ranges_plain [] = tt
ranges_plain (r ∷ rs) = (omega arith, (omega arith, ranges_plain rs))

ranges_words : (ranges : List Range) → flat_map range_words ranges ≡ map shown_word (flat_map range_parts ranges)
ranges_words [] = refl
ranges_words (r ∷ rs) = ap (λ (texts : List (List ℕ)). decimal r.slba ∷ decimal r.length ∷ texts) (ranges_words rs)

printed : (line : List Part) (c : Command) → IsLine line c → list_all in_range line ≡ true → IsPrinted c
printed line c (write nsid slba count seed) within = record {
  line = _;
  row = write nsid slba count seed;
  within = within;
  plain = (letters (codes "write") (omega arith) refl refl, (omega arith, (omega arith, (omega arith, (omega arith, tt)))));
  words = refl;
}
printed line c (write_placed nsid slba count seed pid) within = record {
  line = _;
  row = write_placed nsid slba count seed pid;
  within = within;
  plain = (letters (codes "write") (omega arith) refl refl, (omega arith, (omega arith, (omega arith, (omega arith, (letters (codes "pid") (omega arith) refl refl, (omega arith, tt)))))));
  words = refl;
}
printed line c (read nsid slba count) within = record {
  line = _;
  row = read nsid slba count;
  within = within;
  plain = (letters (codes "read") (omega arith) refl refl, (omega arith, (omega arith, (omega arith, tt))));
  words = refl;
}
printed line c (zeroes nsid slba count) within = record {
  line = _;
  row = zeroes nsid slba count;
  within = within;
  plain = (letters (codes "zero") (omega arith) refl refl, (omega arith, (omega arith, (omega arith, tt))));
  words = refl;
}
printed line c (dealloc nsid ranges some few) within = record {
  line = _;
  row = dealloc nsid ranges some few;
  within = within;
  plain = (letters (codes "dealloc") (omega arith) refl refl, (omega arith, ranges_plain ranges));
  words = ap (λ (texts : List (List ℕ)). codes "dealloc" ∷ decimal nsid ∷ texts) (ranges_words ranges);
}
printed line c (flush nsid) within = record { line = _; row = flush nsid; within = within; plain = (letters (codes "flush") (omega arith) refl refl, (omega arith, tt)); words = refl }
printed line c (status nsid dwords) within = record {
  line = _;
  row = status nsid dwords;
  within = within;
  plain = (letters (codes "status") (omega arith) refl refl, (omega arith, (omega arith, tt)));
  words = refl;
}
printed line c (update nsid pids some few) within = record {
  line = _;
  row = update nsid pids some few;
  within = within;
  plain = (letters (codes "update") (omega arith) refl refl, (omega arith, list_plain 65535 pids (omega arith)));
  words = ap (λ (texts : List (List ℕ)). codes "update" ∷ decimal nsid ∷ texts) (list_words 65535 pids);
}
printed line c (log lid offset dwords) within = record {
  line = _;
  row = log lid offset dwords;
  within = within;
  plain = (letters (codes "log") (omega arith) refl refl, (omega arith, (omega arith, (omega arith, tt))));
  words = refl;
}
printed line c (log_ctrl lid offset dwords) within = record {
  line = _;
  row = log lid offset dwords;
  within = within;
  plain = (letters (codes "log") (omega arith) refl refl, (omega arith, (omega arith, (omega arith, tt))));
  words = refl;
}
printed line c (log_host lid offset dwords) within = record {
  line = _;
  row = log_host lid offset dwords;
  within = within;
  plain = (letters (codes "log") (omega arith) refl refl, (omega arith, (omega arith, (omega arith, (letters (codes "host") (omega arith) refl refl, tt)))));
  words = refl;
}
printed line c (set_fdp enable index) within = record {
  line = _;
  row = set_fdp enable index;
  within = within;
  plain = (letters (codes "set-fdp") (omega arith) refl refl, (word_on enable, (omega arith, tt)));
  words = refl;
}
printed line c get_fdp within = record { line = _; row = get_fdp; within = within; plain = (letters (codes "get-fdp") (omega arith) refl refl, tt); words = refl }
printed line c (set_events nsid handle enable types some few) within = record {
  line = _;
  row = set_events nsid handle enable types some few;
  within = within;
  plain = (letters (codes "set-events") (omega arith) refl refl, (omega arith, (omega arith, (word_on enable, list_plain 255 types (omega arith)))));
  words = ap (λ (texts : List (List ℕ)). codes "set-events" ∷ decimal nsid ∷ decimal handle ∷ on_word enable ∷ texts) (list_words 255 types);
}
printed line c (create blocks handles few) within = record {
  line = _;
  row = create blocks handles few;
  within = within;
  plain = (letters (codes "create") (omega arith) refl refl, (omega arith, list_plain 65535 handles (omega arith)));
  words = ap (λ (texts : List (List ℕ)). codes "create" ∷ decimal blocks ∷ texts) (list_words 65535 handles);
}
printed line c (delete nsid) within = record { line = _; row = delete nsid; within = within; plain = (letters (codes "delete") (omega arith) refl refl, (omega arith, tt)); words = refl }

is_shown : (c : Command) (rest : List ℕ) → is_skipped (word_of c ++ rest) ≡ false
is_shown (commands.Write w) rest = refl
is_shown (commands.Read r) rest = refl
is_shown (commands.Zero z) rest = refl
is_shown (commands.Dealloc d) rest = refl
is_shown (commands.Flush f) rest = refl
is_shown (commands.Delete d) rest = refl
is_shown (commands.Status s) rest = refl
is_shown (commands.Update u) rest = refl
is_shown (commands.Log l) rest = refl
is_shown (commands.SetFdp s) rest = refl
is_shown (commands.GetFdp g) rest = refl
is_shown (commands.SetEvents s) rest = refl
is_shown (commands.Create c) rest = refl
is_shown (commands.Other o) rest = refl

-- ---- the text

part_is : (part : Part) (text : List ℕ) → IsShown part text → IsInRange part text
part_is part text h = h.is

are_words : (line : List Part) (texts : List (List ℕ)) → AllZip IsShown line texts → AllByRecursion IsWord texts
are_words [] [] h = tt
are_words [] (text ∷ texts) h = absurd h
are_words (part ∷ line) [] h = absurd h
are_words (part ∷ line) (text ∷ texts) h = (h.0.word, are_words line texts h.1)

-- the words that are printed of a command are those of its line
all_shown : (c : Command) → (p : IsPrinted c) → AllZip IsShown p.line (line_words c)
all_shown c p = subst (λ (texts : List (List ℕ)). AllZip IsShown p.line texts) (sym p.words) (line_shown p.line p.plain p.within)

pub own_spells : (line : List Part) (c : Command) → IsLine line c → list_all in_range line ≡ true → Spells (line_words c) c
own_spells line c row within =
    let p = printed line c row within in
    (p.line, p.row, zip_weaker IsShown IsInRange part_is p.line (line_words c) (all_shown c p))

pub said : (words : List (List ℕ)) (c : Command) → Spells words c → length (command_text c) ≤ 4096 → (is_skipped (command_text c) ≡ false) × Says (command_text c) c
said words c (line, row, fits) short =
    let within = ranges_found line words fits in
    let p = printed line c row within in
    let text : command_text c ≡ spaced (line_words c) = ap (λ (b : Bool). spaced (if b then line_words c else work_words (work_of c 0))) (line_is_spelled line c row within) in
    let e = text ∙ spaced_is (word_of c) (argument_words c) in
    let plain = are_words p.line (line_words c) (all_shown c p) in
    let cut : words_of (command_text c) ≡ line_words c = ap words_of e ∙ words_back (word_of c) (argument_words c) plain.0 plain.1 in
    let ascii = IsAscii-append (word_of c) (spaced_behind (argument_words c)) plain.0.ascii (ascii_behind (argument_words c) plain.1) in
    let utf8 = subst IsUtf8 (sym e) (IsUtf8-from_ascii _ ascii) in
    (ap is_skipped e ∙ is_shown c (spaced_behind (argument_words c)), ((short, utf8), subst (λ (w : List (List ℕ)). Spells w c) (sym cut) (own_spells line c row within)))
