-- A line of the grammar for each number of words that a command accepts.
use Rattle.std.proofs.Common.{◌≡◌, ℕ, suc, ◌*◌, ◌%◌, ◌≤◌, Bool, true, false, ◌&&◌, ◌||◌, ◌==◌, cond, nat_le, List, [], ◌∷◌, length, map, Option, Some, None, refl, ap, ◌∙◌, arith, inl, inr}
use Rattle.std.specs.Prelude.{codes, bytes_eq}
use Rattle.std.specs.List.{flat_map, AllZip}
use Rattle.std.proofs.lemmas.Bool.{cases_Bool}
use Rattle.std.proofs.lemmas.Bool.Decides.{nat_tests}
use Rattle.std.proofs.lemmas.List.{length-map}
use Rattle.std.proofs.lemmas.Slice.Eq.{bytes_eq-Decides}
use Rattle.fdp_base.specs.declared.command.Command.{Command}
use Rattle.fdp_base.specs.declared.command.Range.{Range}
use Rattle.fdp_trace.specs.declared.command_word.CommandWord.{CommandWord}
use Rattle.fdp_trace.specs.declared.command_word.CommandWord.TheVariants as words
use Rattle.fdp_trace.specs.Reader.NumberOf.{number_of}
use Rattle.fdp_trace.specs.Reader.Shapes.{word_named, accepts, is_choice}
use Rattle.fdp_trace.specs.Lines.{Part, Fixed, Number, range_parts, IsLine, write, write_placed, read, zeroes, dealloc, flush, status, update, log, log_ctrl, log_host, set_fdp, get_fdp, set_events, create, delete}
use Rattle.fdp_trace.proofs.Numerals.{value}
use Rattle.fdp_trace.proofs.Parts.{IsMadeFor}
use Rattle.fdp_trace.proofs.Rows.{kind_of, text_of}

-- ---- the first word

same : (a b : List ℕ) → bytes_eq a b ≡ true → a ≡ b
same a b e = (bytes_eq-Decides a b).0 e

abbrev unwrap : CommandWord → Option CommandWord → CommandWord
unwrap other (Some word) = word
unwrap other None = other

pick : (b : Bool) (text : List ℕ) (word named : CommandWord) (rest : Option CommandWord) → (b ≡ true → text ≡ text_of word) → (rest ≡ Some named → text ≡ text_of named) → cond b (Some word) rest ≡ Some named
    → text ≡ text_of named
pick true text word named rest here there e = here refl ∙ ap text_of (ap (unwrap word) e)
pick false text word named rest here there e = there e

pub named_text : (text : List ℕ) (word : CommandWord) → word_named text ≡ Some word → text ≡ text_of word
unfolding word_named
named_text text word e =
    pick _ text words.Write word _ (same text (codes "write"))
    (pick _ text words.Read word _ (same text (codes "read"))
    (pick _ text words.Zero word _ (same text (codes "zero"))
    (pick _ text words.Dealloc word _ (same text (codes "dealloc"))
    (pick _ text words.Flush word _ (same text (codes "flush"))
    (pick _ text words.Status word _ (same text (codes "status"))
    (pick _ text words.Update word _ (same text (codes "update"))
    (pick _ text words.Log word _ (same text (codes "log"))
    (pick _ text words.SetFdp word _ (same text (codes "set-fdp"))
    (pick _ text words.GetFdp word _ (same text (codes "get-fdp"))
    (pick _ text words.SetEvents word _ (same text (codes "set-events"))
    (pick _ text words.Create word _ (same text (codes "create"))
    (pick _ text words.Delete word None (same text (codes "delete")) (λ n. absurd cc))))))))))))) e

-- ---- a line for words behind the first

abbrev pub number : List ℕ → ℕ
number text = value (number_of text)

pub record IsFound (word : CommandWord) (texts : List (List ℕ)) : Type 0 where
  pub parts : List Part
  pub command : Command
  pub row : IsLine (Fixed (text_of word) ∷ parts) command
  pub kind : kind_of command ≡ word
  pub made : AllZip (IsMadeFor word) parts texts

-- texts of so many words

abbrev Texts : Type 0
Texts = List (List ℕ)

one_word : (P : Texts → Type 0) (texts : Texts) → length texts ≡ 1 → ((a : List ℕ) → P (a ∷ [])) → P texts
one_word P [] e at = absurd (omega arith)
one_word P (a ∷ []) e at = at a
one_word P (a ∷ b ∷ texts) e at = absurd (omega arith)

two_words : (P : Texts → Type 0) (texts : Texts) → length texts ≡ 2 → ((a b : List ℕ) → P (a ∷ b ∷ [])) → P texts
two_words P [] e at = absurd (omega arith)
two_words P (a ∷ texts) e at = one_word (λ t. P (a ∷ t)) texts (omega arith) (at a)

three_words : (P : Texts → Type 0) (texts : Texts) → length texts ≡ 3 → ((a b c : List ℕ) → P (a ∷ b ∷ c ∷ [])) → P texts
three_words P [] e at = absurd (omega arith)
three_words P (a ∷ texts) e at = two_words (λ t. P (a ∷ t)) texts (omega arith) (at a)

four_words : (P : Texts → Type 0) (texts : Texts) → length texts ≡ 4 → ((a b c d : List ℕ) → P (a ∷ b ∷ c ∷ d ∷ [])) → P texts
four_words P [] e at = absurd (omega arith)
four_words P (a ∷ texts) e at = three_words (λ t. P (a ∷ t)) texts (omega arith) (at a)

six_words : (P : Texts → Type 0) (texts : Texts) → length texts ≡ 6 → ((a b c d e f : List ℕ) → P (a ∷ b ∷ c ∷ d ∷ e ∷ f ∷ [])) → P texts
six_words P [] e at = absurd (omega arith)
six_words P (a ∷ []) e at = absurd (omega arith)
six_words P (a ∷ b ∷ texts) e at = four_words (λ t. P (a ∷ b ∷ t)) texts (omega arith) (at a b)

-- lines for these words

pid_only : (text : List ℕ) → is_choice words.Write text ≡ true → text ≡ codes "pid"
pid_only text e = same text (codes "pid") e

found_write : (a b c d : List ℕ) → IsFound words.Write (a ∷ b ∷ c ∷ d ∷ [])
found_write a b c d = record {
  parts = _;
  command = _;
  row = write (number a) (number b) (number c) (number d);
  kind = refl;
  made = (refl, (refl, (refl, (refl, tt))));
}

found_placed : (a b c d e f : List ℕ) → IsFound words.Write (a ∷ b ∷ c ∷ d ∷ e ∷ f ∷ [])
found_placed a b c d e f = record {
  parts = _;
  command = _;
  row = write_placed (number a) (number b) (number c) (number d) (number f);
  kind = refl;
  made = (refl, (refl, (refl, (refl, (pid_only e, (refl, tt))))));
}

found_read : (a b c : List ℕ) → IsFound words.Read (a ∷ b ∷ c ∷ [])
found_read a b c = record { parts = _; command = _; row = read (number a) (number b) (number c); kind = refl; made = (refl, (refl, (refl, tt))) }

found_zero : (a b c : List ℕ) → IsFound words.Zero (a ∷ b ∷ c ∷ [])
found_zero a b c = record { parts = _; command = _; row = zeroes (number a) (number b) (number c); kind = refl; made = (refl, (refl, (refl, tt))) }

found_flush : (a : List ℕ) → IsFound words.Flush (a ∷ [])
found_flush a = record { parts = _; command = _; row = flush (number a); kind = refl; made = (refl, tt) }

found_delete : (a : List ℕ) → IsFound words.Delete (a ∷ [])
found_delete a = record { parts = _; command = _; row = delete (number a); kind = refl; made = (refl, tt) }

found_status : (a b : List ℕ) → IsFound words.Status (a ∷ b ∷ [])
found_status a b = record { parts = _; command = _; row = status (number a) (number b); kind = refl; made = (refl, (refl, tt)) }

found_get_fdp : IsFound words.GetFdp []
found_get_fdp = record { parts = _; command = _; row = get_fdp; kind = refl; made = tt }

found_log : (a b c : List ℕ) → IsFound words.Log (a ∷ b ∷ c ∷ [])
found_log a b c = record { parts = _; command = _; row = log (number a) (number b) (number c); kind = refl; made = (refl, (refl, (refl, tt))) }

other_word : (b : Bool) (text here there : List ℕ) → b ≡ false → (b || bytes_eq text there) ≡ true → text ≡ there
other_word true text here there e f = absurd cc
other_word false text here there e f = same text there f

found_class : (a b c d : List ℕ) → IsFound words.Log (a ∷ b ∷ c ∷ d ∷ [])
found_class a b c d = elim (cases_Bool (bytes_eq d (codes "host"))) [
  | inl host ↦ record { parts = _; command = _; row = log_host (number a) (number b) (number c); kind = refl; made = (refl, (refl, (refl, (λ e. same d (codes "host") host, tt)))) }
  | inr no' ↦ record { parts = _; command = _; row = log_ctrl (number a) (number b) (number c); kind = refl; made = (refl, (refl, (refl, (other_word _ d (codes "host") (codes "ctrl") no', tt)))) }
]

found_set_fdp : (a b : List ℕ) → IsFound words.SetFdp (a ∷ b ∷ [])
found_set_fdp a b = elim (cases_Bool (bytes_eq a (codes "on"))) [
  | inl on ↦ record { parts = _; command = _; row = set_fdp true (number b); kind = refl; made = (λ e. same a (codes "on") on, (refl, tt)) }
  | inr no' ↦ record { parts = _; command = _; row = set_fdp false (number b); kind = refl; made = (other_word _ a (codes "on") (codes "off") no', (refl, tt)) }
]

made_list : (word : CommandWord) (high : ℕ) (texts : List (List ℕ)) → AllZip (IsMadeFor word) (map (Number 0 high) (map number texts)) texts
made_list word high [] = tt
made_list word high (text ∷ texts) = (refl, made_list word high texts)

found_update : (a : List ℕ) (texts : List (List ℕ)) → 1 ≤ length texts → length texts ≤ 256 → IsFound words.Update (a ∷ texts)
found_update a texts lo hi =
    let n = length-map texts number in
    record { parts = _; command = _; row = update (number a) (map number texts) (omega (arith, n)) (omega (arith, n)); kind = refl; made = (refl, made_list words.Update 65535 texts) }

found_create : (a : List ℕ) (texts : List (List ℕ)) → length texts ≤ 32 → IsFound words.Create (a ∷ texts)
found_create a texts hi =
    let n = length-map texts number in
    record { parts = _; command = _; row = create (number a) (map number texts) (omega (arith, n)); kind = refl; made = (refl, made_list words.Create 65535 texts) }

found_events : (a b c : List ℕ) (texts : List (List ℕ)) → 1 ≤ length texts → length texts ≤ 6 → IsFound words.SetEvents (a ∷ b ∷ c ∷ texts)
found_events a b c texts lo hi =
    let n = length-map texts number in
    elim (cases_Bool (bytes_eq c (codes "on"))) [
      | inl on ↦ record { parts = _; command = _; row = set_events (number a) (number b) true (map number texts) (omega (arith, n)) (omega (arith, n)); kind = refl; made = (refl, (refl, (λ e. same c (codes "on") on, made_list words.SetEvents 255 texts))) }
      | inr no' ↦ record { parts = _; command = _; row = set_events (number a) (number b) false (map number texts) (omega (arith, n)) (omega (arith, n)); kind = refl; made = (refl, (refl, (other_word _ c (codes "on") (codes "off") no', made_list words.SetEvents 255 texts))) }
    ]

record IsPaired (texts : List (List ℕ)) : Type 0 where
  pub ranges : List Range
  pub count : length texts ≡ 2 * length ranges
  pub made : AllZip (IsMadeFor words.Dealloc) (flat_map range_parts ranges) texts

paired : (texts : List (List ℕ)) → length texts % 2 ≡ 0 → IsPaired texts
paired [] e = record { ranges = []; count = refl; made = tt }
paired (a ∷ []) e = absurd (omega arith)
paired (a ∷ b ∷ texts) e =
    let more = paired texts (omega arith) in
    let r : Range = record { slba = number a; length = number b } in
    record { ranges = r ∷ more.ranges; count = omega (arith, more.count); made = (refl, (refl, more.made)) }

found_dealloc : (a : List ℕ) (texts : List (List ℕ)) → length texts % 2 ≡ 0 → 2 ≤ length texts → length texts ≤ 512 → IsFound words.Dealloc (a ∷ texts)
found_dealloc a texts even lo hi =
    let p = paired texts even in
    record { parts = _; command = _; row = dealloc (number a) p.ranges (omega (arith, p.count)) (omega (arith, p.count)); kind = refl; made = (refl, p.made) }

-- ---- as many words as a command accepts

equal : (n k : ℕ) → (n == k) ≡ true → n ≡ k
equal n k e = grind (arith, nat_tests)

bounds : (low high n : ℕ) → (nat_le low n && nat_le n high) ≡ true → (low ≤ n) × (n ≤ high)
bounds low high n e = (grind (arith, nat_tests), grind (arith, nat_tests))

odd_bounds : (n : ℕ) → (nat_le 3 n && nat_le n 513 && (n % 2 == 1)) ≡ true → (3 ≤ n) × (n ≤ 513) × (n % 2 ≡ 1)
odd_bounds n e = (grind (arith, nat_tests), grind (arith, nat_tests), grind (arith, nat_tests))

pub found : (word : CommandWord) (texts : List (List ℕ)) → accepts word (length texts) ≡ true → IsFound word texts
found words.Write texts e = elim (cases_Bool (length texts == 4)) [
  | inl four ↦ four_words (IsFound words.Write) texts (equal (length texts) 4 four) found_write
  | inr no' ↦ let six : length texts ≡ 6 = grind (arith, nat_tests) in six_words (IsFound words.Write) texts six found_placed
]
found words.Read texts e = three_words (IsFound words.Read) texts (equal (length texts) 3 e) found_read
found words.Zero texts e = three_words (IsFound words.Zero) texts (equal (length texts) 3 e) found_zero
found words.Dealloc [] e = absurd cc
found words.Dealloc (a ∷ texts) e = let b = odd_bounds (suc (length texts)) e in found_dealloc a texts (omega (arith, b.2)) (omega (arith, b.0)) (omega (arith, b.1))
found words.Flush texts e = one_word (IsFound words.Flush) texts (equal (length texts) 1 e) found_flush
found words.Status texts e = two_words (IsFound words.Status) texts (equal (length texts) 2 e) found_status
found words.Update [] e = absurd cc
found words.Update (a ∷ texts) e = let b = bounds 2 257 (suc (length texts)) e in found_update a texts (omega (arith, b.0)) (omega (arith, b.1))
found words.Log texts e = elim (cases_Bool (length texts == 3)) [
  | inl three ↦ three_words (IsFound words.Log) texts (equal (length texts) 3 three) found_log
  | inr no' ↦ let four : length texts ≡ 4 = grind (arith, nat_tests) in four_words (IsFound words.Log) texts four found_class
]
found words.SetFdp texts e = two_words (IsFound words.SetFdp) texts (equal (length texts) 2 e) found_set_fdp
found words.GetFdp [] e = found_get_fdp
found words.GetFdp (a ∷ texts) e = absurd (grind (arith, nat_tests))
found words.SetEvents [] e = absurd cc
found words.SetEvents (a ∷ []) e = absurd cc
found words.SetEvents (a ∷ b ∷ []) e = absurd cc
found words.SetEvents (a ∷ b ∷ c ∷ texts) e = let n = bounds 4 9 (suc (suc (suc (length texts)))) e in found_events a b c texts (omega (arith, n.0)) (omega (arith, n.1))
found words.Create [] e = absurd cc
found words.Create (a ∷ texts) e = let b = bounds 1 33 (suc (length texts)) e in found_create a texts (omega (arith, b.1))
found words.Delete texts e = one_word (IsFound words.Delete) texts (equal (length texts) 1 e) found_delete
