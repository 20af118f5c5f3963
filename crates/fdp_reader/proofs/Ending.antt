-- Where a text stops to be the print of entries.
use Rattle.std.proofs.Common.{◌≡◌, ⊎_elim, Bool, true, false, Option, ℕ, ◌/◌, ◌^◌, ◌<◌, List, [], ◌∷◌, ◌++◌, length, refl, sym, ap, subst, ◌∙◌, append_assoc, arith, Result, Ok, Err}
use Rattle.std.specs.Prelude.{codes, decimal, if◌then◌else◌}
use Rattle.std.specs.List.{flat_map}
use Rattle.std.proofs.lemmas.List.{append-nil, append_cancel_left}
use Rattle.fdp_base.specs.declared.command.Command.{Command}
use Rattle.fdp_base.specs.declared.command.Command.TheVariants as commands
use Rattle.fdp_base.specs.declared.config.DriveConfig.{DriveConfig}
use Rattle.fdp_base.specs.declared.entry.Entry.{Entry}
use Rattle.fdp_base.specs.declared.entry.Entry.TheVariants as entries
use Rattle.fdp_base.specs.Geometry.{IsBlockSize}
use Rattle.fdp_base.specs.Text.{hex_bytes, spaced}
use Rattle.fdp_queues.specs.Data.{payload_data, pids_data, ranges_data}
use Rattle.fdp_output.specs.CommandData.{own_lines, own_text}
use Rattle.fdp_output.specs.CommandText.{is_spelled}
use Rattle.fdp_output.specs.HistoryText.{entry_data, entry_lines}
use Rattle.fdp_output.specs.Output.{block_lines, block_text, data_lines, data_text, pieces_of}
use Rattle.fdp_trace.specs.declared.fault.FaultKind.{FaultKind}
use Rattle.fdp_prints.specs.Told.{AreTold, IsTold, IsToldAt, printed}
use Rattle.fdp_prints.specs.Reader.{first_entry, told_bytes, with_bytes}
use Rattle.fdp_prints.proofs.Lines.{entry-cut, entry_row, first-back, read-behind, row-cut, row-line}
use Rattle.fdp_prints.proofs.Reading.{words}
use Rattle.fdp_prints.proofs.Data.{indented, show-block, show-bytes}
use Rattle.fdp_prints.proofs.Typed.{ok-one}
use Rattle.fdp_prints.proofs.Visible.{AllShow, no_feed}
use Rattle.fdp_reader.specs.Form.{AreLines, IsLine, text_of}
use Rattle.fdp_reader.specs.Framing.{IsGivenBy}
use Rattle.fdp_reader.specs.Lines.{AreApart}
use Rattle.fdp_reader.specs.Next.{IsEnd}
use Rattle.fdp_reader.proofs.Agree.{GoesOn}
use Rattle.fdp_reader.proofs.Alike.{IsAlike, entry-kept, given-at, given-to}
use Rattle.fdp_reader.proofs.Cuts.{IsBeyond, IsWithin, compared, first-cut, line-cut, line-more, lines-append, lines-parts, no-end, text-append}

-- ---- the lines of an entry

-- a text that is whole lines
pub record IsWhole (text : List ℕ) : Type 0 where
  pub lines : List (List ℕ)
  pub whole : AreLines lines
  pub text_is : text ≡ text_of lines

whole-none : IsWhole []
whole-none = record { lines = []; whole = tt; text_is = refl }

pub whole-append : (x y : List ℕ) → IsWhole x → IsWhole y → IsWhole (x ++ y)
whole-append x y hx hy = record {
  lines = hx.lines ++ hy.lines;
  whole = lines-append hx.lines hy.lines hx.whole hy.whole;
  text_is = ap (λ (t : List ℕ). t ++ y) hx.text_is ∙ ap (λ (t : List ℕ). text_of hx.lines ++ t) hy.text_is ∙ sym (text-append hx.lines hy.lines);
}

whole-line : (x : List ℕ) → IsLine x → IsWhole (x ++ 10 ∷ [])
whole-line x is = record { lines = x ∷ []; whole = (is, tt); text_is = sym (append-nil (x ++ 10 ∷ [])) }

pieces-whole : (show : List ℕ → List ℕ) → ((x : List ℕ) → AllShow (show x)) → (ps : List (List ℕ)) → IsWhole (flat_map (λ x. codes "  " ++ show x ++ 10 ∷ []) ps)
pieces-whole show shows [] = whole-none
pieces-whole show shows (p ∷ ps) =
    whole-append (codes "  " ++ show p ++ 10 ∷ []) (flat_map (λ x. codes "  " ++ show x ++ 10 ∷ []) ps) (whole-line (codes "  " ++ show p) (indented (show p) (no_feed (show p) (shows p)))) (pieces-whole show shows ps)

blocks-whole : (count : ℕ) (x : List ℕ) → IsWhole (block_lines count x)
blocks-whole count x = pieces-whole block_text show-block (pieces_of count (length x / count) x)

dwords-whole : (x : List ℕ) → IsWhole (data_lines x)
dwords-whole x = pieces-whole hex_bytes show-bytes (pieces_of (length x) 32 x)

data-whole : (command : Command) (x : List ℕ) → IsWhole (data_text command x)
data-whole (commands.Write w) x = whole-none
data-whole (commands.Read r) x = blocks-whole r.count x
data-whole (commands.Zero z) x = whole-none
data-whole (commands.Dealloc d) x = whole-none
data-whole (commands.Flush f) x = whole-none
data-whole (commands.Delete d) x = whole-none
data-whole (commands.Status s) x = dwords-whole x
data-whole (commands.Update u) x = whole-none
data-whole (commands.Log l) x = dwords-whole x
data-whole (commands.SetFdp s) x = whole-none
data-whole (commands.GetFdp g) x = whole-none
data-whole (commands.SetEvents s) x = whole-none
data-whole (commands.Create create) x = whole-none
data-whole (commands.Other o) x = whole-none

own-lines-whole : (block : ℕ) (command : Command) → IsWhole (own_lines block command)
own-lines-whole block (commands.Write w) = blocks-whole w.count (payload_data block w.count w.payload)
own-lines-whole block (commands.Read r) = whole-none
own-lines-whole block (commands.Zero z) = whole-none
own-lines-whole block (commands.Dealloc d) = dwords-whole (ranges_data d.ranges)
own-lines-whole block (commands.Flush f) = whole-none
own-lines-whole block (commands.Delete d) = whole-none
own-lines-whole block (commands.Status s) = whole-none
own-lines-whole block (commands.Update u) = dwords-whole (pids_data u.pids)
own-lines-whole block (commands.Log l) = whole-none
own-lines-whole block (commands.SetFdp s) = whole-none
own-lines-whole block (commands.GetFdp g) = whole-none
own-lines-whole block (commands.SetEvents s) = dwords-whole s.types
own-lines-whole block (commands.Create create) = whole-none
own-lines-whole block (commands.Other o) = whole-none

own-whole : (block : ℕ) (command : Command) → IsWhole (own_text block command)
own-whole block command = by (is_spelled command) where
  by : (b : Bool) → IsWhole (if b then [] else own_lines block command)
  by true = whole-none
  by false = own-lines-whole block command

entry-data-whole : (c : DriveConfig) (e : Entry) → IsTold c e → IsWhole (entry_data c.block e)
entry-data-whole c (entries.Host h) t = whole-append (own_text c.block h.command) (data_text h.command h.reply.bytes) (own-whole c.block h.command) (data-whole h.command h.reply.bytes)
entry-data-whole c (entries.Started s) t = own-whole c.block s.command
entry-data-whole c (entries.Placed p) t = whole-none
entry-data-whole c (entries.Copied x) t = whole-none
entry-data-whole c (entries.Moved m) t = whole-none
entry-data-whole c (entries.Erased x) t = whole-none
entry-data-whole c (entries.Retired r) t = whole-none
entry-data-whole c (entries.Aside a) t = whole-none
entry-data-whole c (entries.Shut s) t = whole-none
entry-data-whole c (entries.Worn w) t = whole-none
entry-data-whole c entries.Reopened t = whole-none

pub entry-whole : (c : DriveConfig) (p : ℕ) (e : Entry) → p < 2 ^ 64 → IsTold c e → IsWhole (entry_lines c.block p e)
entry-whole c p e lt t =
    let row : entry_lines c.block p e ≡ (entry_row p e ++ 10 ∷ []) ++ entry_data c.block e = row-cut c p e ∙ sym (append_assoc (entry_row p e) (10 ∷ []) (entry_data c.block e)) in
    subst IsWhole (sym row) (whole-append (entry_row p e ++ 10 ∷ []) (entry_data c.block e) (whole-line (entry_row p e) (row-line c p e lt t)) (entry-data-whole c e t))

-- the words of an entry stay, whatever its bytes
words-kept : (e : Entry) (bytes : List ℕ) → words (with_bytes bytes (with_bytes [] e)) ≡ words e
words-kept (entries.Host h) bytes = refl
words-kept (entries.Started s) bytes = refl
words-kept (entries.Placed p) bytes = refl
words-kept (entries.Copied x) bytes = refl
words-kept (entries.Moved m) bytes = refl
words-kept (entries.Erased x) bytes = refl
words-kept (entries.Retired r) bytes = refl
words-kept (entries.Aside a) bytes = refl
words-kept (entries.Shut s) bytes = refl
words-kept (entries.Worn w) bytes = refl
words-kept entries.Reopened bytes = refl

-- what is read of a text that begins with these lines, the first of them that of an entry
module _ (given : Option Command) (c : DriveConfig) (p : ℕ) (d : Entry) (line : List ℕ) (lines : List (List ℕ)) (more later : List ℕ) (is : IsBlockSize c.block) (lt : p < 2 ^ 64) (t : IsTold c d) (hl : AreLines (line ∷ lines))
    (text : entry_lines c.block p d ≡ text_of (line ∷ lines) ++ more) (gives : IsGivenBy c.block (text_of (line ∷ lines) ++ later) given) where
  parts : (entry_row p d ≡ line) × (entry_data c.block d ≡ text_of lines ++ more)
  parts = line-cut (entry_row p d) line (entry_data c.block d) (text_of lines ++ more) (row-line c p d lt t) hl.0 (sym (row-cut c p d) ∙ text ∙ first-cut line lines more)

  begins : text_of (line ∷ lines) ++ later ≡ entry_row p d ++ 10 ∷ (text_of lines ++ later)
  begins = first-cut line lines later ∙ ap (λ (l : List ℕ). l ++ 10 ∷ (text_of lines ++ later)) (sym parts.0)

  alike : IsAlike given c p d (text_of lines ++ later) lines
  alike = entry-kept given c p lines more later is hl.1 d t (λ k f. given-at c p d k (text_of lines ++ later) (text_of (line ∷ lines) ++ later) given lt t f begins gives) parts.1

  again : Entry
  again = with_bytes (told_bytes c (with_bytes [] alike.e) (text_of lines ++ later)) (with_bytes [] alike.e)

  read-again : first_entry given c (text_of (line ∷ lines) ++ later) ≡ Ok (p, again)
  unfolding again alike
  read-again = ap (first_entry given c) (begins ∙ ap (λ (l : List ℕ). l ++ 10 ∷ (text_of lines ++ later)) (sym alike.row)) ∙ read-behind given c p alike.e (text_of lines ++ later) lt alike.told alike.for'

  -- is an entry whose print begins with them
  entry-alike : (x : ℕ × Entry) → first_entry given c (text_of (line ∷ lines) ++ later) ≡ Ok x → GoesOn (entry_lines c.block x.0 x.1) (line ∷ lines)
  unfolding again alike
  entry-alike x read =
      let same : (p, again) ≡ x = ok-one (p, again) x (sym read-again ∙ read) in
      let row : entry_row p again ≡ line = ap (λ (ws : List (List ℕ)). spaced (decimal p ∷ ws)) (words-kept alike.e (told_bytes c (with_bytes [] alike.e) (text_of lines ++ later))) ∙ alike.row ∙ parts.0 in
      let own : entry_lines c.block p again ≡ text_of (line ∷ lines) ++ alike.goes.0 =
      row-cut c p again ∙ ap (λ (s : List ℕ). s ++ 10 ∷ entry_data c.block again) row ∙ ap (λ (s : List ℕ). line ++ 10 ∷ s) alike.goes.1 ∙ sym (first-cut line lines alike.goes.0) in
      subst (λ (y : ℕ × Entry). GoesOn (entry_lines c.block y.0 y.1) (line ∷ lines)) same (alike.goes.0, own)

-- the same where the last of the lines is told apart
entry-alike-last : (given : Option Command) (c : DriveConfig) (p : ℕ) (e : Entry) (lines : List (List ℕ)) (line : List ℕ) (more later : List ℕ) (x : ℕ × Entry) → IsBlockSize c.block → p < 2 ^ 64 → IsTold c e → AreLines (lines ++ line ∷ [])
    → entry_lines c.block p e ≡ text_of (lines ++ line ∷ []) ++ more → IsGivenBy c.block (text_of (lines ++ line ∷ []) ++ later) given → first_entry given c (text_of (lines ++ line ∷ []) ++ later) ≡ Ok x → GoesOn (entry_lines c.block x.0 x.1) (lines ++ line ∷ [])
entry-alike-last given c p e [] line more later x is lt t hl text gives read = entry-alike given c p e line [] more later is lt t hl text gives x read
entry-alike-last given c p e (l ∷ ls) line more later x is lt t hl text gives read = entry-alike given c p e l (ls ++ line ∷ []) more later is lt t hl text gives x read

-- ---- an entry that was read, of whose print the text is not

-- the text goes on as the print of an entry: that one is read
read-is : (given : Option Command) (c : DriveConfig) (text : List ℕ) (x : ℕ × Entry) (q : ℕ) (d : Entry) (more : List ℕ) → IsBlockSize c.block → IsGivenBy c.block text given → q < 2 ^ 64 → IsTold c d → first_entry given c text ≡ Ok x → text ≡ entry_lines c.block q d ++ more → text ≡ entry_lines c.block x.0 x.1 ++ more
read-is given c text x q d more is gives lt t read whole =
    let for' = given-to c q d more text given is lt t (whole ∙ entry-cut c q d more) gives in
    let same : (q, d) ≡ x = ok-one (q, d) x (sym (ap (first_entry given c) whole ∙ first-back given c q d more is lt t for') ∙ read) in
    whole ∙ ap (λ (y : ℕ × Entry). entry_lines c.block y.0 y.1 ++ more) same

module _ (given : Option Command) (c : DriveConfig) (text : List ℕ) (x : ℕ × Entry) (lines : List (List ℕ)) (other rest : List ℕ) (is : IsBlockSize c.block) (gives : IsGivenBy c.block text given) (read : first_entry given c text ≡ Ok x)
    (apart-whole : (more : List ℕ) → text ≡ entry_lines c.block x.0 x.1 ++ more → ⊥) (hl : AreLines lines) (print : entry_lines c.block x.0 x.1 ≡ text_of lines ++ other) (text-is : text ≡ text_of lines ++ rest) (apart : AreApart other rest) where
  no-more : (q : ℕ) (d : Entry) (zs : List (ℕ × Entry)) (line later more : List ℕ) → q < 2 ^ 64 → IsTold c d → IsLine line → rest ≡ line ++ 10 ∷ later → entry_lines c.block q d ++ printed c.block zs ≡ (text_of lines ++ line) ++ 10 ∷ more → ⊥
  no-more q d zs line later more lt t is-line cut e =
      let w = entry-whole c q d lt t in
      let there : text_of w.lines ++ printed c.block zs ≡ text_of lines ++ (line ++ 10 ∷ more) = ap (λ (s : List ℕ). s ++ printed c.block zs) (sym w.text_is) ∙ e ∙ append_assoc (text_of lines) line (10 ∷ more) in
      ⊎_elim
      (λ (h : IsWithin w.lines lines (printed c.block zs) (line ++ 10 ∷ more)).
      let whole : text ≡ entry_lines c.block q d ++ (text_of h.more ++ rest) =
      text-is ∙ ap (λ (ls : List (List ℕ)). text_of ls ++ rest) h.lines ∙ ap (λ (s : List ℕ). s ++ rest) (text-append w.lines h.more) ∙ append_assoc (text_of w.lines) (text_of h.more) rest
      ∙ ap (λ (s : List ℕ). s ++ (text_of h.more ++ rest)) (sym w.text_is) in
      apart-whole (text_of h.more ++ rest) (read-is given c text x q d (text_of h.more ++ rest) is gives lt t read whole))
      (λ (h : IsBeyond lines w.lines (line ++ 10 ∷ more) (printed c.block zs)).
      let parts = lines-parts lines h.line h.more (subst AreLines h.lines w.whole) in
      let next = line-cut line h.line more (text_of h.more ++ printed c.block zs) is-line parts.1 (h.text ∙ first-cut h.line h.more (printed c.block zs)) in
      let own : entry_lines c.block q d ≡ text_of (lines ++ line ∷ []) ++ text_of h.more =
      w.text_is ∙ ap text_of h.lines ∙ ap (λ (l : List ℕ). text_of (lines ++ l ∷ h.more)) (sym next.0) ∙ ap text_of (sym (append_assoc lines (line ∷ []) h.more)) ∙ text-append (lines ++ line ∷ []) h.more in
      let front : text ≡ text_of (lines ++ line ∷ []) ++ later = text-is ∙ ap (λ (s : List ℕ). text_of lines ++ s) cut ∙ sym (append_assoc (text_of lines) line (10 ∷ later)) ∙ sym (line-more lines line later) in
      let again = entry-alike-last given c q d lines line (text_of h.more) later x is lt t (lines-append lines (line ∷ []) hl (is-line, tt)) own (subst (λ (s : List ℕ). IsGivenBy c.block s given) front gives) (ap (first_entry given c) (sym front) ∙ read) in
      let same : text_of lines ++ other ≡ text_of lines ++ (line ++ 10 ∷ again.0) = sym print ∙ again.1 ∙ line-more lines line again.0 ∙ append_assoc (text_of lines) line (10 ∷ again.0) in
      apart line again.0 later is-line (append_cancel_left (text_of lines) other (line ++ 10 ∷ again.0) same) cut)
      (compared w.lines lines (printed c.block zs) (line ++ 10 ∷ more) w.whole hl there)

  ends-here : (line later more : List ℕ) (zs : List (ℕ × Entry)) → IsLine line → rest ≡ line ++ 10 ∷ later → AreTold c zs → printed c.block zs ≡ (text_of lines ++ line) ++ 10 ∷ more → ⊥
  ends-here line later more [] is-line cut told e = no-end (text_of lines ++ line) more (sym e)
  ends-here line later more (z ∷ zs) is-line cut told e = no-more z.0 z.1 zs line later more told.0.0 told.0.1 is-line cut e

  none-here : (zs : List (ℕ × Entry)) → AreTold c zs → printed c.block zs ≡ text → 0 < length text → ⊥
  none-here [] told e some = omega (arith, some, ap (λ (t : List ℕ). length t) e)
  none-here (z ∷ zs) told e some = apart-whole (printed c.block zs) (read-is given c text x z.0 z.1 (printed c.block zs) is gives told.0.0 told.0.1 read (sym e))

  pub stop-here : IsToldAt c x → IsEnd c text lines rest
  stop-here told = record {
    whole = hl;
    text_is = text-is;
    entries = x ∷ [];
    told = (told, tt);
    more = other;
    begins = append-nil (entry_lines c.block x.0 x.1) ∙ print;
    ends = ends-here;
    none = none-here;
  }

-- ---- no entry was read

no-read : (x : ℕ × Entry) (kind : FaultKind) (r : Result (ℕ × Entry) FaultKind) → r ≡ Ok x → r ≡ Err kind → ⊥
no-read x kind r ok err = cc

module _ (given : Option Command) (c : DriveConfig) (text : List ℕ) (kind : FaultKind) (is : IsBlockSize c.block) (gives : IsGivenBy c.block text given) (read : first_entry given c text ≡ Err kind) where
  -- no entry has the first line
  no-row : (z : ℕ × Entry) (later : List ℕ) → IsToldAt c z → text ≡ entry_row z.0 z.1 ++ 10 ∷ later → ⊥
  no-row z later told begins =
      let row = entry_row z.0 z.1 in
      let whole : text ≡ text_of (row ∷ []) ++ later = begins ∙ sym (first-cut row [] later) in
      let there = read-again given c z.0 z.1 row [] (entry_data c.block z.1) later is told.0 told.1 (row-line c z.0 z.1 told.0 told.1, tt) (row-cut c z.0 z.1 ∙ sym (first-cut row [] (entry_data c.block z.1)))
      (subst (λ (s : List ℕ). IsGivenBy c.block s given) whole gives) in
      no-read _ kind (first_entry given c text) (ap (first_entry given c) whole ∙ there) read

  no-first : (line later more : List ℕ) (zs : List (ℕ × Entry)) → IsLine line → text ≡ line ++ 10 ∷ later → AreTold c zs → printed c.block zs ≡ ([] ++ line) ++ 10 ∷ more → ⊥
  no-first line later more [] is-line cut told e = no-end line more (sym e)
  no-first line later more (z ∷ zs) is-line cut told e =
      let own = line-cut (entry_row z.0 z.1) line (entry_data c.block z.1 ++ printed c.block zs) more (row-line c z.0 z.1 told.0.0 told.0.1) is-line (sym (entry-cut c z.0 z.1 (printed c.block zs)) ∙ e) in
      no-row z later told.0 (cut ∙ ap (λ (l : List ℕ). l ++ 10 ∷ later) (sym own.0))

  none-read : (zs : List (ℕ × Entry)) → AreTold c zs → printed c.block zs ≡ text → 0 < length text → ⊥
  none-read [] told e some = omega (arith, some, ap (λ (t : List ℕ). length t) e)
  none-read (z ∷ zs) told e some = no-row z (entry_data c.block z.1 ++ printed c.block zs) told.0 (sym e ∙ entry-cut c z.0 z.1 (printed c.block zs))

  pub stop-first : IsEnd c text [] text
  stop-first = record {
    whole = tt;
    text_is = refl;
    entries = [];
    told = tt;
    more = [];
    begins = refl;
    ends = no-first;
    none = none-read;
  }
