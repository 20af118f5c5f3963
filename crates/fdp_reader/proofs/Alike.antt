-- What is read of a text depends on its lines one by one: where a text begins as the print of an entry does, so does the print of what is read of it.
use Rattle.std.proofs.Common.{◌≡◌, ◌⊎◌, inl, inr, ℕ, ◌*◌, ◌^◌, ◌<◌, Bool, true, false, List, [], ◌∷◌, ◌++◌, length, Option, Some, None, Result, Ok, refl, sym, ap, subst, ◌∙◌, append_assoc}
use Rattle.std.specs.Prelude.{codes, decimal, if◌then◌else◌}
use Rattle.std.specs.List.{before_first, after_first}
use Rattle.std.proofs.lemmas.Bool.{cases_Bool}
use Rattle.std.proofs.lemmas.List.{append-nil, nil_from_length}
use Rattle.fdp_base.specs.declared.command.Command.{Command}
use Rattle.fdp_base.specs.declared.command.Command.TheVariants as commands
use Rattle.fdp_base.specs.declared.config.DriveConfig.{DriveConfig}
use Rattle.fdp_base.specs.declared.entry.Entry.{Entry}
use Rattle.fdp_base.specs.declared.entry.Entry.TheVariants as entries
use Rattle.fdp_base.specs.declared.entry.Host.{Host}
use Rattle.fdp_base.specs.declared.entry.Started.{Started}
use Rattle.fdp_base.specs.EventCodes.{bit}
use Rattle.fdp_base.specs.Geometry.{IsBlockSize}
use Rattle.fdp_base.specs.Text.{hex, spaced, status_text}
use Rattle.fdp_queues.specs.Entry.{entry_bytes, work_of}
use Rattle.fdp_binary.specs.Carrying.{admin_made, entry_made}
use Rattle.fdp_binary.proofs.Said.{kind_of}
use Rattle.fdp_output.specs.CommandData.{own_lines, own_text}
use Rattle.fdp_output.specs.CommandText.{command_words, is_spelled, work_words}
use Rattle.fdp_output.specs.HistoryText.{entry_data}
use Rattle.fdp_output.specs.Output.{block_lines, data_lines, data_text}
use Rattle.fdp_trace.specs.declared.fault.FaultKind.{FaultKind}
use Rattle.fdp_trace.specs.Reader.FrontOf.{is_line_feed}
use Rattle.fdp_trace.specs.Words.{words_of}
use Rattle.fdp_prints.specs.Told.{AreBytes, IsFramed, IsSpelled, IsTold, IsToldHost, IsToldStart, data_size, is_success, reply_size}
use Rattle.fdp_prints.specs.Reader.{block_in, bytes_in, command_words_in, lines_in, success_in, told_bytes, with_bytes}
use Rattle.fdp_prints.proofs.Cutting.{after-is, before-is}
use Rattle.fdp_prints.proofs.Given.{IsGivenFor, IsWhole, frame-whole, framed-words, no-data, own-data}
use Rattle.fdp_prints.proofs.Lines.{HasFrame, entry_row, frame-or-any, row-line, row-words}
use Rattle.fdp_prints.proofs.Reading.{IsGivenTo}
use Rattle.fdp_prints.proofs.Sizes.{blocks-sized, dwords-sized}
use Rattle.fdp_reader.specs.Form.{AreLines, text_of}
use Rattle.fdp_reader.specs.Framing.{GivenBy, GivenFrom, IsGivenBy, IsReadBy, work_in, work_read}
use Rattle.fdp_reader.proofs.Agree.{GoesOn, blocks-print, blocks-read, rows-print, rows-read}
use Rattle.fdp_reader.proofs.Frames.{own-goes-on, read-framed, same-data, same-text, work-back, work-is, kind-is}
use Rattle.fdp_reader.proofs.ByKind.{bare-by, carries, no-answer, no-size}

-- ---- the data that a command answers

read-alike : (block count : ℕ) (x : List ℕ) (lines : List (List ℕ)) (more later : List ℕ) → IsBlockSize block → length x ≡ count * block → AreBytes x → AreLines lines
    → block_lines count x ≡ text_of lines ++ more → GoesOn (block_lines count (lines_in block_in block count (count * block) (text_of lines ++ later))) lines
read-alike block count x lines more later is lx h hl e =
    blocks-print block count x (lines_in block_in block count (count * block) (text_of lines ++ later)) lines more lx (blocks-sized block count (text_of lines ++ later) is).count hl (sym (blocks-read block count x lines more later is lx h hl e)) e

log-alike : (dwords : ℕ) (x : List ℕ) (lines : List (List ℕ)) (more later : List ℕ) → length x ≡ 4 * dwords → AreBytes x → AreLines lines
    → data_lines x ≡ text_of lines ++ more → GoesOn (data_lines (lines_in bytes_in 32 (4 * dwords) (4 * dwords) (text_of lines ++ later))) lines
log-alike dwords x lines more later lx h hl e =
    rows-print x (lines_in bytes_in 32 (4 * dwords) (4 * dwords) (text_of lines ++ later)) lines more (lx ∙ sym (dwords-sized dwords (text_of lines ++ later)).count) hl (sym (rows-read (4 * dwords) x lines more later lx h hl e)) e

success-alike : (c : DriveConfig) (command : Command) (x : List ℕ) (lines : List (List ℕ)) (more later : List ℕ) → IsBlockSize c.block → length x ≡ data_size c command → AreBytes x → AreLines lines
    → data_text command x ≡ text_of lines ++ more → GoesOn (data_text command (success_in c command (text_of lines ++ later))) lines
success-alike c (commands.Write w) x lines more later is lx h hl e = (more, e)
success-alike c (commands.Read r) x lines more later is lx h hl e = read-alike c.block r.count x lines more later is lx h hl e
success-alike c (commands.Zero z) x lines more later is lx h hl e = (more, e)
success-alike c (commands.Dealloc d) x lines more later is lx h hl e = (more, e)
success-alike c (commands.Flush f) x lines more later is lx h hl e = (more, e)
success-alike c (commands.Delete d) x lines more later is lx h hl e = (more, e)
success-alike c (commands.Status s) x lines more later is lx h hl e = log-alike s.dwords x lines more later lx h hl e
success-alike c (commands.Update u) x lines more later is lx h hl e = (more, e)
success-alike c (commands.Log l) x lines more later is lx h hl e = log-alike l.dwords x lines more later lx h hl e
success-alike c (commands.SetFdp s) x lines more later is lx h hl e = (more, e)
success-alike c (commands.GetFdp g) x lines more later is lx h hl e = (more, e)
success-alike c (commands.SetEvents s) x lines more later is lx h hl e = (more, e)
success-alike c (commands.Create create) x lines more later is lx h hl e = (more, e)
success-alike c (commands.Other o) x lines more later is lx h hl e = (more, e)

by-success : (c : DriveConfig) (command : Command) (b : Bool) (x : List ℕ) (lines : List (List ℕ)) (more later : List ℕ) → IsBlockSize c.block → length x ≡ (if b then data_size c command else 0) → AreBytes x → AreLines lines
    → data_text command x ≡ text_of lines ++ more → GoesOn (data_text command (if b then success_in c command (text_of lines ++ later) else [])) lines
by-success c command true x lines more later is lx h hl e = success-alike c command x lines more later is lx h hl e
by-success c command false x lines more later is lx h hl e = (more, ap (data_text command) (sym (nil_from_length x lx)) ∙ e)

-- the data of a completion whose command carries none
answer-alike : (c : DriveConfig) (h : Host) (lines : List (List ℕ)) (more later : List ℕ) → IsBlockSize c.block → IsToldHost c h → AreLines lines → own_text c.block h.command ≡ []
    → own_text c.block h.command ++ data_text h.command h.reply.bytes ≡ text_of lines ++ more
    → GoesOn (own_text c.block h.command ++ data_text h.command (if is_success h.reply.status then success_in c h.command (text_of lines ++ later) else [])) lines
answer-alike c h lines more later is t hl none e =
    let own : data_text h.command h.reply.bytes ≡ text_of lines ++ more = ap (λ (own : List ℕ). own ++ data_text h.command h.reply.bytes) (sym none) ∙ e in
    let a = by-success c h.command (is_success h.reply.status) h.reply.bytes lines more later is t.reply.size t.reply.bytes hl own in
    (a.0, ap (λ (own : List ℕ). own ++ data_text h.command (if is_success h.reply.status then success_in c h.command (text_of lines ++ later) else [])) none ∙ a.1)

-- ---- the command that is given for an entry

-- a command is given that was read of a text which begins with the entry's line
pub record IsGivenAt (block : ℕ) (k : Command) (behind : List ℕ) (given : Option Command) : Type 0 where
  pub command : Command
  pub given-is : given ≡ Some command
  pub by : IsReadBy block (admin_made k) (entry_bytes (entry_made k)) behind command

given-case : (block : ℕ) (k : Command) (behind : List ℕ) (given : Option Command) → IsFramed block k → GivenBy block (admin_made k) (entry_bytes (entry_made k)) behind given → IsGivenAt block k behind given
given-case block k behind None framed h = absurd (h k framed refl refl)
given-case block k behind (Some g) framed h = record { command = g; given-is = refl; by = h }

pub given-at : (c : DriveConfig) (p : ℕ) (e : Entry) (k : Command) (behind text : List ℕ) (given : Option Command) → p < 2 ^ 64 → IsTold c e → HasFrame c e k → text ≡ entry_row p e ++ 10 ∷ behind → IsGivenBy c.block text given → IsGivenAt c.block k behind given
given-at c p e k behind text given lt t f is by =
    let none = row-line c p e lt t in
    let line : before_first is_line_feed text ≡ entry_row p e = ap (before_first is_line_feed) is ∙ before-is 10 (entry_row p e) behind none in
    let rest : after_first is_line_feed text ≡ behind = ap (after_first is_line_feed) is ∙ after-is 10 (entry_row p e) behind none in
    let work : work_read text ≡ Ok (admin_made k, entry_bytes (entry_made k)) =
    ap (λ (l : List ℕ). work_in (command_words_in (words_of l))) line ∙ ap (λ (ws : List (List ℕ)). work_in (command_words_in ws)) (row-words c p e lt t)
    ∙ ap work_in (f.words-are (decimal p) ∙ framed-words c.block k f.framed) ∙ work-back (work_of k 0) in
    given-case c.block k behind given f.framed
    (subst (λ (r : Result (Bool × List ℕ) FaultKind). GivenFrom c.block behind r given) work (subst (λ (b : List ℕ). GivenFrom c.block b (work_read text) given) rest by))

-- ---- an entry

-- what is read of a text that begins with the line of an entry: an entry with that line, whose data begin with the lines with which those of the first do
pub record IsAlike (given : Option Command) (c : DriveConfig) (p : ℕ) (d : Entry) (behind : List ℕ) (lines : List (List ℕ)) : Type 0 where
  pub e : Entry
  pub told : IsTold c e
  pub for' : IsGivenTo given e
  pub row : entry_row p e ≡ entry_row p d
  pub goes : GoesOn (entry_data c.block (with_bytes (told_bytes c (with_bytes [] e) behind) (with_bytes [] e))) lines

any-for : (command : Command) → IsSpelled command → (given : Option Command) → IsGivenFor given command
any-for command spelled given line = absurd (no-both (is_spelled command) spelled.line line) where
  no-both : (b : Bool) → b ≡ true → b ≡ false → ⊥
  no-both b yes' no' = cc

module _ (given : Option Command) (c : DriveConfig) (p : ℕ) (lines : List (List ℕ)) (more later : List ℕ) (is : IsBlockSize c.block) (hl : AreLines lines) where
  host-spelled : (h : Host) → IsToldHost c h → IsSpelled h.command → entry_data c.block (entries.Host h) ≡ text_of lines ++ more → IsAlike given c p (entries.Host h) (text_of lines ++ later) lines
  host-spelled h t spelled e = record {
    e = entries.Host h;
    told = t;
    for' = any-for h.command spelled given;
    row = refl;
    goes = answer-alike c h lines more later is t hl (no-data c.block h.command spelled) e;
  }

  -- the command of a frame
  module _ (k : Command) (framed : IsFramed c.block k) (at : IsGivenAt c.block k (text_of lines ++ later) given) where
    abbrev g : Command
    g = at.command

    abbrev behind : List ℕ
    behind = text_of lines ++ later

    frame-g : IsFramed c.block g
    frame-g = read-framed c.block (admin_made k) (entry_bytes (entry_made k)) behind g is at.by

    whole-k : IsWhole c.block k
    whole-k = frame-whole c.block k is framed

    words-g : command_words g ≡ command_words k
    words-g = framed-words c.block g frame-g ∙ ap work_words (work-is c.block is k g behind whole-k framed.line at.by) ∙ sym (framed-words c.block k framed)

    for-g : IsGivenFor given g
    for-g line = at.given-is

    lines-on : own_text c.block k ≡ text_of lines ++ more → GoesOn (own_text c.block g) lines
    lines-on e =
        let on = own-goes-on c.block is k g behind whole-k framed.line at.by lines more later hl refl (sym (own-data c.block k framed) ∙ e) in
        (on.0, own-data c.block g frame-g ∙ on.1)

    -- which carries no data: it is that command
    bare-is : carries (kind_of k) ≡ false → g ≡ k
    bare-is none = let b = bare-by k none in same-data c.block is k g behind whole-k framed.line at.by (b.read c.block (entry_made k) behind ∙ sym (b.none c.block))

  start-framed : (s : Started) → IsToldStart c s → (framed : IsFramed c.block s.command) (at : IsGivenAt c.block s.command (text_of lines ++ later) given) → entry_data c.block (entries.Started s) ≡ text_of lines ++ more → IsAlike given c p (entries.Started s) (text_of lines ++ later) lines
  start-framed s t framed at e = record {
    e = entries.Started (record s { command = at.command });
    told = record { queue = t.queue; number = t.number; rg = t.rg; ruh = t.ruh; command = inr (frame-g s.command framed at) };
    for' = for-g s.command framed at;
    row = ap (λ (ws : List (List ℕ)). spaced (decimal p ∷ codes "started" ∷ decimal s.queue ∷ decimal s.number ∷ decimal s.rg ∷ decimal s.ruh ∷ decimal (bit s.pid_valid) ∷ ws)) (words-g s.command framed at);
    goes = lines-on s.command framed at e;
  }

  host-carries : (h : Host) → IsToldHost c h → (framed : IsFramed c.block h.command) (at : IsGivenAt c.block h.command (text_of lines ++ later) given) → carries (kind_of h.command) ≡ true → entry_data c.block (entries.Host h) ≡ text_of lines ++ more
      → IsAlike given c p (entries.Host h) (text_of lines ++ later) lines
  host-carries h t framed at carried e =
      let k = h.command in
      let other : carries (kind_of at.command) ≡ true = ap carries (kind-is c.block is k at.command (text_of lines ++ later) (frame-whole c.block k is framed) framed.line at.by) ∙ carried in
      let size : reply_size c at.command h.reply.status ≡ reply_size c k h.reply.status = ap (λ (n : ℕ). if is_success h.reply.status then n else 0) (no-size c at.command other ∙ sym (no-size c k carried)) in
      let own : own_text c.block k ≡ text_of lines ++ more = sym (append-nil (own_text c.block k)) ∙ ap (λ (t : List ℕ). own_text c.block k ++ t) (sym (no-answer k h.reply.bytes carried)) ∙ e in
      let on = lines-on k framed at own in
      record {
        e = entries.Host (record h { command = at.command });
        told = record {
          queue = t.queue;
          number = t.number;
          moment = t.moment;
          command = inr (frame-g k framed at);
          reply = record { sct = t.reply.sct; sc = t.reply.sc; dw0 = t.reply.dw0; bytes = t.reply.bytes; size = t.reply.size ∙ sym size };
        };
        for' = for-g k framed at;
        row = ap (λ (ws : List (List ℕ)). spaced (decimal p ∷ codes "host" ∷ decimal h.queue ∷ decimal h.number ∷ decimal (bit h.reply.applied) ∷ status_text h.reply.status ∷ hex 8 h.reply.dw0 ∷ decimal h.moment ∷ ws)) (words-g k framed at);
        goes = (on.0, ap (λ (t : List ℕ). own_text c.block at.command ++ t) (no-answer at.command _ other) ∙ append-nil (own_text c.block at.command) ∙ on.1);
      }

  host-bare : (h : Host) → IsToldHost c h → (framed : IsFramed c.block h.command) (at : IsGivenAt c.block h.command (text_of lines ++ later) given) → carries (kind_of h.command) ≡ false → entry_data c.block (entries.Host h) ≡ text_of lines ++ more
      → IsAlike given c p (entries.Host h) (text_of lines ++ later) lines
  host-bare h t framed at none e = record {
    e = entries.Host h;
    told = t;
    for' = λ line. at.given-is ∙ ap Some (bare-is h.command framed at none);
    row = refl;
    goes = answer-alike c h lines more later is t hl (own-data c.block h.command framed ∙ (bare-by h.command none).lines c.block) e;
  }

  host-framed : (h : Host) → IsToldHost c h → (framed : IsFramed c.block h.command) (at : IsGivenAt c.block h.command (text_of lines ++ later) given) → entry_data c.block (entries.Host h) ≡ text_of lines ++ more → IsAlike given c p (entries.Host h) (text_of lines ++ later) lines
  host-framed h t framed at e = elim (cases_Bool (carries (kind_of h.command))) [ inl carried ↦ host-carries h t framed at carried e | inr none ↦ host-bare h t framed at none e ]

  plain : (d : Entry) → IsTold c d → IsGivenTo given d → entry_data c.block d ≡ [] → entry_data c.block (with_bytes (told_bytes c (with_bytes [] d) (text_of lines ++ later)) (with_bytes [] d)) ≡ entry_data c.block d → entry_data c.block d ≡ text_of lines ++ more → IsAlike given c p d (text_of lines ++ later) lines
  plain d t for' none same e = record { e = d; told = t; for' = for'; row = refl; goes = (more, same ∙ e) }

  pub entry-kept : (d : Entry) → IsTold c d → ((k : Command) → HasFrame c d k → IsGivenAt c.block k (text_of lines ++ later) given) → entry_data c.block d ≡ text_of lines ++ more → IsAlike given c p d (text_of lines ++ later) lines
  unfolding command_words_in
  entry-kept (entries.Host h) t at e = by t.command where
    by : IsSpelled h.command ⊎ IsFramed c.block h.command → IsAlike given c p (entries.Host h) (text_of lines ++ later) lines
    by (inl spelled) = host-spelled h t spelled e
    by (inr framed) = host-framed h t framed (at h.command (record { framed = framed; for' = λ line. refl; more = data_text h.command h.reply.bytes; words-are = λ p. refl; data-is = refl })) e
  entry-kept (entries.Started s) t at e = by t.command where
    by : IsSpelled s.command ⊎ IsFramed c.block s.command → IsAlike given c p (entries.Started s) (text_of lines ++ later) lines
    by (inl spelled) = record { e = entries.Started s; told = t; for' = any-for s.command spelled given; row = refl; goes = (more, e) }
    by (inr framed) = start-framed s t framed (at s.command (record { framed = framed; for' = λ line. refl; more = []; words-are = λ p. refl; data-is = sym (append-nil (own_text c.block s.command)) })) e
  entry-kept (entries.Placed x) t at e = plain (entries.Placed x) t tt refl refl e
  entry-kept (entries.Copied x) t at e = plain (entries.Copied x) t tt refl refl e
  entry-kept (entries.Moved x) t at e = plain (entries.Moved x) t tt refl refl e
  entry-kept (entries.Erased x) t at e = plain (entries.Erased x) t tt refl refl e
  entry-kept (entries.Retired x) t at e = plain (entries.Retired x) t tt refl refl e
  entry-kept (entries.Aside x) t at e = plain (entries.Aside x) t tt refl refl e
  entry-kept (entries.Shut x) t at e = plain (entries.Shut x) t tt refl refl e
  entry-kept (entries.Worn x) t at e = plain (entries.Worn x) t tt refl refl e
  entry-kept entries.Reopened t at e = plain entries.Reopened t tt refl refl e

-- where the text behind the line goes on as the print of the entry does, its command is given
pub given-to : (c : DriveConfig) (p : ℕ) (d : Entry) (more text : List ℕ) (given : Option Command) → IsBlockSize c.block → p < 2 ^ 64 → IsTold c d → text ≡ entry_row p d ++ 10 ∷ (entry_data c.block d ++ more) → IsGivenBy c.block text given → IsGivenTo given d
given-to c p d more text given is lt t text-is gives = by (frame-or-any c d t) where
  by : ((k : Command) × HasFrame c d k) ⊎ ((given : Option Command) → IsGivenTo given d) → IsGivenTo given d
  by (inr any) = any given
  by (inl frame) =
      let k = frame.0 in
      let f = frame.1 in
      let at = given-at c p d k (entry_data c.block d ++ more) text given lt t f text-is gives in
      let data-is : entry_data c.block d ++ more ≡ own_lines c.block k ++ (f.more ++ more) =
      ap (λ (x : List ℕ). x ++ more) (f.data-is ∙ ap (λ (x : List ℕ). x ++ f.more) (own-data c.block k f.framed)) ∙ append_assoc (own_lines c.block k) f.more more in
      let one : at.command ≡ k = same-text c.block is k at.command (entry_data c.block d ++ more) (frame-whole c.block k is f.framed) f.framed.line at.by (f.more ++ more) data-is in
      subst (λ (o : Option Command). IsGivenTo o d) (sym (at.given-is ∙ ap Some one)) f.for'
