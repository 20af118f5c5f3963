-- The lines of an entry tell it, and the lines of entries tell them all.
use Rattle.std.proofs.Common.{◌≡◌, ◌⊎◌, inl, inr, ℕ, ◌+◌, ◌^◌, ◌<◌, Bool, true, false, List, [], ◌∷◌, ◌++◌, refl, sym, ap, subst, ◌∙◌, arith, append_assoc, Option, Some, None, Result, Ok, Err, cond}
use Rattle.std.specs.Prelude.{decimal, codes}
use Rattle.std.specs.List.{AllByRecursion, before_first, after_first}
use Rattle.std.proofs.lemmas.List.{append-nil, append_cancel_left}
use Rattle.fdp_base.specs.declared.command.Command.{Command}
use Rattle.fdp_base.specs.declared.config.DriveConfig.{DriveConfig}
use Rattle.fdp_base.specs.declared.entry.Entry.{Entry}
use Rattle.fdp_base.specs.declared.entry.Entry.TheVariants as entries
use Rattle.fdp_base.specs.declared.entry.Host.{Host}
use Rattle.fdp_base.specs.declared.entry.Started.{Started}
use Rattle.fdp_base.specs.Geometry.{IsBlockSize}
use Rattle.fdp_base.specs.Text.{hex, hex_bytes, spaced, status_text}
use Rattle.fdp_output.specs.CommandText.{argument_words, command_text, command_words, is_spelled, line_words, work_words}
use Rattle.fdp_output.specs.CommandData.{own_text}
use Rattle.fdp_output.specs.Output.{data_text}
use Rattle.fdp_queues.specs.Entry.{entry_bytes, work_of}
use Rattle.fdp_base.specs.CommandKinds.{word_of}
use Rattle.fdp_base.specs.EventCodes.{bit}
use Rattle.fdp_output.specs.HistoryText.{entry_data, entry_lines, entry_words, history_text}
use Rattle.fdp_trace.specs.declared.fault.FaultKind.{FaultKind}
use Rattle.fdp_trace.specs.Reader.FrontOf.{is_line_feed}
use Rattle.fdp_trace.specs.Reader.Reading.{◌>>=◌}
use Rattle.fdp_trace.specs.Words.{words_of}
use Rattle.fdp_trace.proofs.Spelling.{spaced_is, words_back}
use Rattle.fdp_prints.specs.Told.{AreTold, IsFramed, IsGiven, IsSpelled, IsTold, IsToldHost, IsToldStart, printed}
use Rattle.fdp_prints.specs.Reader.{Words, command_words_in, first_entry, placed_entry, told_bytes, with_bytes}
use Rattle.fdp_prints.proofs.Cutting.{HasNone, after-is, before-is}
use Rattle.fdp_prints.proofs.Data.{reply-back}
use Rattle.fdp_prints.proofs.Given.{IsGivenFor, framed-words, show-given, show-work, spelled-words, words-one}
use Rattle.fdp_prints.proofs.Reading.{IsGivenTo, placed-back, words}
use Rattle.fdp_prints.proofs.Visible.{IsShown, are_words, is_word, no_feed_in, show-decimal, tag}
use Rattle.fdp_prints.proofs.Words.{show-bit, show-command, show-names, show-number, show-status}

-- ---- a line of words

pub row-back : (w : List ℕ) (ws : Words) → IsShown w → AllByRecursion IsShown ws → words_of (spaced (w ∷ ws)) ≡ w ∷ ws
row-back w ws hw hws = ap words_of (spaced_is w ws) ∙ words_back w ws (is_word w hw) (are_words ws hws)

-- the words of a command stand in its text
text-words : (block : ℕ) (command : Command) → IsGiven block command → words_of (command_text command) ≡ command_words command
text-words block command (inl spelled) =
    let shown = show-command command spelled in
    let own = spelled-words command spelled in
    ap (λ (ws : Words). words_of (spaced ws)) own ∙ row-back (word_of command) (argument_words command) shown.0 shown.1 ∙ sym own
text-words block command (inr framed) =
    let work = work_of command 0 in
    let shown = show-work work in
    let own = framed-words block command framed in
    ap (λ (ws : Words). words_of (spaced ws)) own ∙ row-back (codes "entry") (decimal (bit work.admin) ∷ hex_bytes (entry_bytes work.sqe) ∷ []) shown.0 shown.1 ∙ sym own

pub command-one : (block : ℕ) (a b : Command) → IsBlockSize block → IsGiven block a → IsGiven block b → command_text a ≡ command_text b → own_text block a ≡ own_text block b → a ≡ b
command-one block a b is ha hb text own =
    words-one block a b [] [] is ha hb (sym (text-words block a ha) ∙ ap words_of text ∙ text-words block b hb) (ap (λ (t : List ℕ). t ++ []) own)

-- ---- the line of an entry

show-host : (c : DriveConfig) (h : Host) → IsToldHost c h → AllByRecursion IsShown (words (entries.Host h))
show-host c h t =
    (tag (codes "host") (omega arith) refl, (show-decimal h.queue (omega (arith, t.queue)), (show-decimal h.number (omega (arith, t.number)), (show-bit h.reply.applied, (show-status h.reply.status, (show-number 8 h.reply.dw0 (omega arith), (show-decimal h.moment t.moment, show-given c.block h.command t.command)))))))

show-start : (c : DriveConfig) (s : Started) → IsToldStart c s → AllByRecursion IsShown (words (entries.Started s))
show-start c s t =
    (tag (codes "started") (omega arith) refl, (show-decimal s.queue (omega (arith, t.queue)), (show-decimal s.number (omega (arith, t.number)), (show-decimal s.rg (omega (arith, t.rg)), (show-decimal s.ruh (omega (arith, t.ruh)), (show-bit s.pid_valid, show-given c.block s.command t.command))))))

show-32 : (n : ℕ) → n < 2 ^ 32 → IsShown (decimal n)
show-32 n lt = show-decimal n (omega (arith, lt))

show-16 : (n : ℕ) → n < 2 ^ 16 → IsShown (decimal n)
show-16 n lt = show-decimal n (omega (arith, lt))

show-words : (c : DriveConfig) (e : Entry) → IsTold c e → AllByRecursion IsShown (words e)
show-words c (entries.Host h) t = show-host c h t
show-words c (entries.Started s) t = show-start c s t
show-words c (entries.Placed p) t = (tag (codes "placed") (omega arith) refl, (show-decimal p.ticket t.ticket, (show-32 p.index t.index, (show-32 p.unit t.unit, (show-32 p.page t.page, tt)))))
show-words c (entries.Copied x) t =
    (tag (codes "copied") (omega arith) refl, (show-32 x.from.unit t.from.unit, (show-32 x.from.page t.from.page, (show-32 x.to.unit t.to.unit, (show-32 x.to.page t.to.page, tt)))))
show-words c (entries.Moved m) t = (tag (codes "moved") (omega arith) refl, (show-16 m.rg t.rg, show-names m.blocks t.blocks))
show-words c (entries.Erased e) t = (tag (codes "erased") (omega arith) refl, (show-32 e.unit t, tt))
show-words c (entries.Retired r) t = (tag (codes "retired") (omega arith) refl, (show-32 r.unit t, tt))
show-words c (entries.Aside a) t = (tag (codes "aside") (omega arith) refl, (show-32 a.unit t, tt))
show-words c (entries.Shut s) t = (tag (codes "shut") (omega arith) refl, (show-16 s.rg t.0, (show-decimal s.ruh (omega (arith, t.1)), tt)))
show-words c (entries.Worn w) t = (tag (codes "worn") (omega arith) refl, (show-16 w.rg t, tt))
show-words c entries.Reopened t = (tag (codes "reopened") (omega arith) refl, tt)

-- the words of a command stand with those before them
host-row : (p : List ℕ) (h : Host) (b : Bool) (command : Command)
    → spaced (p ∷ codes "host" ∷ decimal h.queue ∷ decimal h.number ∷ decimal (bit h.reply.applied) ∷ status_text h.reply.status ∷ hex 8 h.reply.dw0 ∷ decimal h.moment ∷ spaced (cond b (line_words command) (work_words (work_of command 0))) ∷ [])
    ≡ spaced (p ∷ codes "host" ∷ decimal h.queue ∷ decimal h.number ∷ decimal (bit h.reply.applied) ∷ status_text h.reply.status ∷ hex 8 h.reply.dw0 ∷ decimal h.moment ∷ cond b (line_words command) (work_words (work_of command 0)))
host-row p h true command = refl
host-row p h false command = refl

start-row : (p : List ℕ) (s : Started) (b : Bool) (command : Command)
    → spaced (p ∷ codes "started" ∷ decimal s.queue ∷ decimal s.number ∷ decimal s.rg ∷ decimal s.ruh ∷ decimal (bit s.pid_valid) ∷ spaced (cond b (line_words command) (work_words (work_of command 0))) ∷ [])
    ≡ spaced (p ∷ codes "started" ∷ decimal s.queue ∷ decimal s.number ∷ decimal s.rg ∷ decimal s.ruh ∷ decimal (bit s.pid_valid) ∷ cond b (line_words command) (work_words (work_of command 0)))
start-row p s true command = refl
start-row p s false command = refl

pub one-row : (p : List ℕ) (e : Entry) → spaced (p ∷ entry_words e) ≡ spaced (p ∷ words e)
one-row p (entries.Host h) = host-row p h (is_spelled h.command) h.command
one-row p (entries.Started s) = start-row p s (is_spelled s.command) s.command
one-row p (entries.Placed x) = refl
one-row p (entries.Copied x) = refl
one-row p (entries.Moved m) = refl
one-row p (entries.Erased e) = refl
one-row p (entries.Retired r) = refl
one-row p (entries.Aside a) = refl
one-row p (entries.Shut s) = refl
one-row p (entries.Worn w) = refl
one-row p entries.Reopened = refl

-- what a line is followed by
behind-line : (s d r : List ℕ) → ((s ++ 10 ∷ []) ++ d) ++ r ≡ s ++ 10 ∷ (d ++ r)
behind-line s d r = append_assoc (s ++ 10 ∷ []) d r ∙ append_assoc s (10 ∷ []) (d ++ r)

-- the first line of an entry, without its end
abbrev pub entry_row : ℕ → Entry → List ℕ
entry_row p e = spaced (decimal p ∷ words e)

-- the first line of an entry, and what follows it
pub entry-cut : (c : DriveConfig) (p : ℕ) (e : Entry) (r : List ℕ) → entry_lines c.block p e ++ r ≡ entry_row p e ++ 10 ∷ (entry_data c.block e ++ r)
entry-cut c p e r = behind-line (spaced (decimal p ∷ entry_words e)) (entry_data c.block e) r ∙ ap (λ (s : List ℕ). s ++ 10 ∷ (entry_data c.block e ++ r)) (one-row (decimal p) e)

pub row-cut : (c : DriveConfig) (p : ℕ) (e : Entry) → entry_lines c.block p e ≡ entry_row p e ++ 10 ∷ entry_data c.block e
row-cut c p e =
    append_assoc (spaced (decimal p ∷ entry_words e)) (10 ∷ []) (entry_data c.block e) ∙ ap (λ (s : List ℕ). s ++ 10 ∷ entry_data c.block e) (one-row (decimal p) e)

pub row-line : (c : DriveConfig) (p : ℕ) (e : Entry) → p < 2 ^ 64 → IsTold c e → HasNone 10 (entry_row p e)
row-line c p e lt t = no_feed_in (decimal p ∷ words e) (show-decimal p lt, show-words c e t)

pub row-words : (c : DriveConfig) (p : ℕ) (e : Entry) → p < 2 ^ 64 → IsTold c e → words_of (entry_row p e) ≡ decimal p ∷ words e
row-words c p e lt t = row-back (decimal p) (words e) (show-decimal p lt) (show-words c e t)

-- ---- an entry

told-bytes : (c : DriveConfig) (e : Entry) (r : List ℕ) → IsBlockSize c.block → IsTold c e → with_bytes (told_bytes c (with_bytes [] e) (entry_data c.block e ++ r)) (with_bytes [] e) ≡ e
told-bytes c (entries.Host h) r is t =
    ap (λ (bytes : List ℕ). with_bytes bytes (entries.Host h)) (reply-back c h.command h.reply.status h.reply.bytes r is t.reply.size t.reply.bytes)
told-bytes c (entries.Started s) r is t = refl
told-bytes c (entries.Placed p) r is t = refl
told-bytes c (entries.Copied x) r is t = refl
told-bytes c (entries.Moved m) r is t = refl
told-bytes c (entries.Erased e) r is t = refl
told-bytes c (entries.Retired x) r is t = refl
told-bytes c (entries.Aside a) r is t = refl
told-bytes c (entries.Shut s) r is t = refl
told-bytes c (entries.Worn w) r is t = refl
told-bytes c entries.Reopened r is t = refl

-- the words of the line are read as the entry, but for the bytes
pub row-read : (given : Option Command) (c : DriveConfig) (p : ℕ) (e : Entry) → p < 2 ^ 64 → IsTold c e → IsGivenTo given e → placed_entry given (words_of (entry_row p e)) ≡ Ok (p, with_bytes [] e)
row-read given c p e lt t for' = ap (placed_entry given) (row-words c p e lt t) ∙ placed-back given c p e lt t for'

-- what is read of a text that begins with that line
pub read-behind : (given : Option Command) (c : DriveConfig) (p : ℕ) (e : Entry) (more : List ℕ) → p < 2 ^ 64 → IsTold c e → IsGivenTo given e
    → first_entry given c (entry_row p e ++ 10 ∷ more) ≡ Ok (p, with_bytes (told_bytes c (with_bytes [] e) more) (with_bytes [] e))
unfolding first_entry
read-behind given c p e more lt t for' =
    let row = entry_row p e in
    let none = row-line c p e lt t in
    let placed : placed_entry given (words_of (before_first is_line_feed (row ++ 10 ∷ more))) ≡ Ok (p, with_bytes [] e) = ap (λ (x : List ℕ). placed_entry given (words_of x)) (before-is 10 row more none) ∙ row-read given c p e lt t for' in
    ap (λ (x : Result (ℕ × Entry) FaultKind). x >>= λ x. Ok (x.0, with_bytes (told_bytes c x.1 (after_first is_line_feed (row ++ 10 ∷ more))) x.1)) placed
    ∙ ap (λ (text : List ℕ). Ok (p, with_bytes (told_bytes c (with_bytes [] e) text) (with_bytes [] e))) (after-is 10 row more none)

-- an entry is read back from a text that begins with its lines
pub first-back : (given : Option Command) (c : DriveConfig) (p : ℕ) (e : Entry) (r : List ℕ) → IsBlockSize c.block → p < 2 ^ 64 → IsTold c e → IsGivenTo given e → first_entry given c (entry_lines c.block p e ++ r) ≡ Ok (p, e)
first-back given c p e r is lt t for' =
    ap (first_entry given c) (entry-cut c p e r) ∙ read-behind given c p e (entry_data c.block e ++ r) lt t for' ∙ ap (λ (x : Entry). Ok (p, x)) (told-bytes c e r is t)

-- ---- whether a line says the command of an entry

-- a frame gives the command of the entry, whose line has its words, and which has its data
pub record HasFrame (c : DriveConfig) (e : Entry) (command : Command) : Type 0 where
  pub framed : IsFramed c.block command
  pub for' : IsGivenTo (Some command) e
  pub more : List ℕ
  pub words-are : (p : List ℕ) → command_words_in (p ∷ words e) ≡ command_words command
  pub data-is : entry_data c.block e ≡ own_text c.block command ++ more

no-both : (b : Bool) → b ≡ true → b ≡ false → ⊥
no-both b yes' no' = cc

any-for : (command : Command) → IsSpelled command → (given : Option Command) → IsGivenFor given command
any-for command spelled given framed = absurd (no-both (is_spelled command) spelled.line framed)

-- a frame gives it, or whatever is given is not asked for
pub frame-or-any : (c : DriveConfig) (e : Entry) → IsTold c e → ((command : Command) × HasFrame c e command) ⊎ ((given : Option Command) → IsGivenTo given e)
unfolding command_words_in
frame-or-any c (entries.Host h) t = by t.command where
  by : IsGiven c.block h.command → ((command : Command) × HasFrame c (entries.Host h) command) ⊎ ((given : Option Command) → IsGivenFor given h.command)
  by (inl spelled) = inr (any-for h.command spelled)
  by (inr framed) = inl (h.command, record { framed = framed; for' = λ line. refl; more = data_text h.command h.reply.bytes; words-are = λ p. refl; data-is = refl })
frame-or-any c (entries.Started s) t = by t.command where
  by : IsGiven c.block s.command → ((command : Command) × HasFrame c (entries.Started s) command) ⊎ ((given : Option Command) → IsGivenFor given s.command)
  by (inl spelled) = inr (any-for s.command spelled)
  by (inr framed) = inl (s.command, record { framed = framed; for' = λ line. refl; more = []; words-are = λ p. refl; data-is = sym (append-nil (own_text c.block s.command)) })
frame-or-any c (entries.Placed p) t = inr (λ given. tt)
frame-or-any c (entries.Copied x) t = inr (λ given. tt)
frame-or-any c (entries.Moved m) t = inr (λ given. tt)
frame-or-any c (entries.Erased e) t = inr (λ given. tt)
frame-or-any c (entries.Retired x) t = inr (λ given. tt)
frame-or-any c (entries.Aside a) t = inr (λ given. tt)
frame-or-any c (entries.Shut s) t = inr (λ given. tt)
frame-or-any c (entries.Worn w) t = inr (λ given. tt)
frame-or-any c entries.Reopened t = inr (λ given. tt)

-- some command may be given
own-for : (e : Entry) → (given : Option Command) × IsGivenTo given e
own-for (entries.Host h) = (Some h.command, λ line. refl)
own-for (entries.Started s) = (Some s.command, λ line. refl)
own-for (entries.Placed p) = (None, tt)
own-for (entries.Copied x) = (None, tt)
own-for (entries.Moved m) = (None, tt)
own-for (entries.Erased e) = (None, tt)
own-for (entries.Retired x) = (None, tt)
own-for (entries.Aside a) = (None, tt)
own-for (entries.Shut s) = (None, tt)
own-for (entries.Worn w) = (None, tt)
own-for entries.Reopened = (None, tt)

abbrev pair_by : Result (ℕ × Entry) FaultKind → ℕ × Entry → ℕ × Entry
pair_by (Ok x) other = x
pair_by (Err kind) other = other

module _ (c : DriveConfig) (p q : ℕ) (d e : Entry) (r s : List ℕ) (is : IsBlockSize c.block) (hp : p < 2 ^ 64) (hq : q < 2 ^ 64) (td : IsTold c d) (te : IsTold c e)
    (text : entry_lines c.block p d ++ r ≡ entry_lines c.block q e ++ s) where
  one-by : (given : Option Command) → IsGivenTo given d → IsGivenTo given e → (p ≡ q) × (d ≡ e) × (r ≡ s)
  one-by given gd ge =
      let both : Ok (p, d) ≡ Ok (q, e) = sym (first-back given c p d r is hp td gd) ∙ ap (first_entry given c) text ∙ first-back given c q e s is hq te ge in
      let pair : (p, d) ≡ (q, e) = ap (λ (x : Result (ℕ × Entry) FaultKind). pair_by x (p, d)) both in
      let lines : entry_lines c.block p d ≡ entry_lines c.block q e = ap (λ (x : ℕ × Entry). entry_lines c.block x.0 x.1) pair in
      let rest : entry_lines c.block q e ++ r ≡ entry_lines c.block q e ++ s = ap (λ (t : List ℕ). t ++ r) (sym lines) ∙ text in
      (ap (λ (x : ℕ × Entry). x.0) pair, ap (λ (x : ℕ × Entry). x.1) pair, append_cancel_left (entry_lines c.block q e) r s rest)

  -- the first lines are one, and what follows them
  rows : (entry_row p d ≡ entry_row q e) × (entry_data c.block d ++ r ≡ entry_data c.block e ++ s)
  rows =
      let cut : entry_row p d ++ 10 ∷ (entry_data c.block d ++ r) ≡ entry_row q e ++ 10 ∷ (entry_data c.block e ++ s) = sym (entry-cut c p d r) ∙ text ∙ entry-cut c q e s in
      let nd = row-line c p d hp td in
      let ne = row-line c q e hq te in (
        sym (before-is 10 (entry_row p d) (entry_data c.block d ++ r) nd) ∙ ap (before_first is_line_feed) cut ∙ before-is 10 (entry_row q e) (entry_data c.block e ++ s) ne,
        sym (after-is 10 (entry_row p d) (entry_data c.block d ++ r) nd) ∙ ap (after_first is_line_feed) cut ∙ after-is 10 (entry_row q e) (entry_data c.block e ++ s) ne,
      )

  frames-one : (a b : Command) → HasFrame c d a → HasFrame c e b → a ≡ b
  frames-one a b fa fb =
      let one : command_words a ≡ command_words b =
      sym (fa.words-are (decimal p)) ∙ ap command_words_in (sym (row-words c p d hp td) ∙ ap words_of rows.0 ∙ row-words c q e hq te) ∙ fb.words-are (decimal q) in
      let behind : own_text c.block a ++ (fa.more ++ r) ≡ own_text c.block b ++ (fb.more ++ s) =
      sym (append_assoc (own_text c.block a) fa.more r) ∙ ap (λ (t : List ℕ). t ++ r) (sym fa.data-is) ∙ rows.1 ∙ ap (λ (t : List ℕ). t ++ s) fb.data-is ∙ append_assoc (own_text c.block b) fb.more s in
      words-one c.block a b (fa.more ++ r) (fb.more ++ s) is (inr fa.framed) (inr fb.framed) one behind

  pub entry-one : (p ≡ q) × (d ≡ e) × (r ≡ s)
  entry-one = by (frame-or-any c d td) (frame-or-any c e te) where
    by : ((command : Command) × HasFrame c d command) ⊎ ((given : Option Command) → IsGivenTo given d) → ((command : Command) × HasFrame c e command) ⊎ ((given : Option Command) → IsGivenTo given e) → (p ≡ q) × (d ≡ e) × (r ≡ s)
    by (inr any) other = let own = own-for e in one-by own.0 (any own.0) own.1
    by (inl frame) (inr any) = let own = own-for d in one-by own.0 own.1 (any own.0)
    by (inl frame) (inl other) = one-by (Some other.0) (subst (λ (k : Command). IsGivenTo (Some k) d) (frames-one frame.0 other.0 frame.1 other.1) frame.1.for') other.1.for'

-- ---- lists of entries

pub no-nil : (s d r : List ℕ) → ((s ++ 10 ∷ []) ++ d) ++ r ≡ [] → ⊥
no-nil [] d r e = absurd cc
no-nil (b ∷ bs) d r e = absurd cc

pub list-one : (c : DriveConfig) (xs ys : List (ℕ × Entry)) → IsBlockSize c.block → AreTold c xs → AreTold c ys → printed c.block xs ≡ printed c.block ys → xs ≡ ys
list-one c [] [] is tx ty e = refl
list-one c [] (y ∷ ys) is tx ty e = absurd (no-nil (spaced (decimal y.0 ∷ entry_words y.1)) (entry_data c.block y.1) (printed c.block ys) (sym e))
list-one c (x ∷ xs) [] is tx ty e = absurd (no-nil (spaced (decimal x.0 ∷ entry_words x.1)) (entry_data c.block x.1) (printed c.block xs) e)
list-one c (x ∷ xs) (y ∷ ys) is tx ty e =
    let t = entry-one c x.0 y.0 x.1 y.1 (printed c.block xs) (printed c.block ys) is tx.0.0 ty.0.0 tx.0.1 ty.0.1 e in
    let rest = list-one c xs ys is tx.1 ty.1 t.2 in
    ap (λ (p : ℕ). (p, x.1) ∷ xs) t.0 ∙ ap (λ (d : Entry). (y.0, d) ∷ xs) t.1 ∙ ap (λ (zs : List (ℕ × Entry)). y ∷ zs) rest

-- a history is printed with the positions that follow one another
abbrev pub placed_from : ℕ → List Entry → List (ℕ × Entry)
placed_from position [] = []
placed_from position (e ∷ es) = (position, e) ∷ placed_from (position + 1) es

pub history-is : (block position : ℕ) (es : List Entry) → printed block (placed_from position es) ≡ history_text block position es
history-is block position [] = refl
history-is block position (e ∷ es) = ap (λ (t : List ℕ). entry_lines block position e ++ t) (history-is block (position + 1) es)
