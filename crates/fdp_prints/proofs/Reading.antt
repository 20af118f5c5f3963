-- An entry is read back from the words of its line, but for the bytes of a reply.
use Rattle.std.proofs.Common.{◌≡◌, ℕ, ◌^◌, ◌<◌, [], ◌∷◌, map, refl, arith, Option, Ok}
use Rattle.std.specs.Prelude.{decimal, codes}
use Rattle.fdp_base.specs.declared.command.Command.{Command}
use Rattle.fdp_base.specs.declared.config.DriveConfig.{DriveConfig}
use Rattle.fdp_base.specs.declared.entry.Copied.{Copied}
use Rattle.fdp_base.specs.declared.entry.Entry.{Entry}
use Rattle.fdp_base.specs.declared.entry.Entry.TheVariants as entries
use Rattle.fdp_base.specs.declared.entry.Host.{Host}
use Rattle.fdp_base.specs.declared.entry.Moved.{Moved}
use Rattle.fdp_base.specs.declared.entry.Placed.{Placed}
use Rattle.fdp_base.specs.declared.entry.Started.{Started}
use Rattle.fdp_base.specs.EventCodes.{bit}
use Rattle.fdp_base.specs.Text.{hex, status_text}
use Rattle.fdp_output.specs.CommandText.{command_words}
use Rattle.fdp_output.specs.HistoryText.{block_word, entry_words, spot_words}
use Rattle.fdp_prints.specs.Told.{IsTold, IsToldCopy, IsToldHost, IsToldMove, IsToldPage, IsToldStart}
use Rattle.fdp_prints.specs.Reader.{Words, copied_in, entry_in, host_in, moved_in, placed_entry, placed_in, shut_in, started_in, with_bytes}
use Rattle.fdp_prints.proofs.Given.{IsGivenFor, command-back}
use Rattle.fdp_prints.proofs.Fields.{dword-back, field-back, flag-back, names-back, spot-back, status-back}

-- the words of an entry's line behind its position, those of a command among them
abbrev pub words : Entry → Words
words (entries.Host h) =
    codes "host" ∷ decimal h.queue ∷ decimal h.number ∷ decimal (bit h.reply.applied) ∷ status_text h.reply.status ∷ hex 8 h.reply.dw0 ∷ decimal h.moment ∷ command_words h.command
words (entries.Started s) = codes "started" ∷ decimal s.queue ∷ decimal s.number ∷ decimal s.rg ∷ decimal s.ruh ∷ decimal (bit s.pid_valid) ∷ command_words s.command
words (entries.Placed p) = entry_words (entries.Placed p)
words (entries.Copied x) = entry_words (entries.Copied x)
words (entries.Moved m) = entry_words (entries.Moved m)
words (entries.Erased e) = entry_words (entries.Erased e)
words (entries.Retired r) = entry_words (entries.Retired r)
words (entries.Aside a) = entry_words (entries.Aside a)
words (entries.Shut s) = entry_words (entries.Shut s)
words (entries.Worn w) = entry_words (entries.Worn w)
words entries.Reopened = entry_words entries.Reopened

host-back : (given : Option Command) (c : DriveConfig) (h : Host) → IsToldHost c h → IsGivenFor given h.command → entry_in given (words (entries.Host h)) ≡ Ok (with_bytes [] (entries.Host h))
unfolding entry_in host_in
host-back given c h t for' =
    let rest = command_words h.command in
    let q = field-back 255 h.queue (decimal h.number ∷ decimal (bit h.reply.applied) ∷ status_text h.reply.status ∷ hex 8 h.reply.dw0 ∷ decimal h.moment ∷ rest) (omega (arith, t.queue)) (omega arith) in
    let n = field-back 65535 h.number (decimal (bit h.reply.applied) ∷ status_text h.reply.status ∷ hex 8 h.reply.dw0 ∷ decimal h.moment ∷ rest) (omega (arith, t.number)) (omega arith) in
    let a = flag-back h.reply.applied (status_text h.reply.status ∷ hex 8 h.reply.dw0 ∷ decimal h.moment ∷ rest) in
    let s = status-back h.reply.status (hex 8 h.reply.dw0 ∷ decimal h.moment ∷ rest) (omega (arith, t.reply.sct)) (omega (arith, t.reply.sc)) in
    let d = dword-back h.reply.dw0 (decimal h.moment ∷ rest) t.reply.dw0 in
    let m = field-back 18446744073709551615 h.moment rest (omega (arith, t.moment)) (omega arith) in
    let k = command-back c.block given h.command t.command for' in
    rw (q, n, a, s, d, m, k) refl

started-back : (given : Option Command) (c : DriveConfig) (s : Started) → IsToldStart c s → IsGivenFor given s.command → entry_in given (words (entries.Started s)) ≡ Ok (entries.Started s)
unfolding entry_in started_in
started-back given c s t for' =
    let rest = command_words s.command in
    let q = field-back 255 s.queue (decimal s.number ∷ decimal s.rg ∷ decimal s.ruh ∷ decimal (bit s.pid_valid) ∷ rest) (omega (arith, t.queue)) (omega arith) in
    let n = field-back 65535 s.number (decimal s.rg ∷ decimal s.ruh ∷ decimal (bit s.pid_valid) ∷ rest) (omega (arith, t.number)) (omega arith) in
    let g = field-back 65535 s.rg (decimal s.ruh ∷ decimal (bit s.pid_valid) ∷ rest) (omega (arith, t.rg)) (omega arith) in
    let r = field-back 255 s.ruh (decimal (bit s.pid_valid) ∷ rest) (omega (arith, t.ruh)) (omega arith) in
    let v = flag-back s.pid_valid rest in
    let k = command-back c.block given s.command t.command for' in
    rw (q, n, g, r, v, k) refl

page-back : (given : Option Command) (p : Placed) → IsToldPage p → entry_in given (words (entries.Placed p)) ≡ Ok (entries.Placed p)
unfolding entry_in placed_in
page-back given p t =
    let k = field-back 18446744073709551615 p.ticket (decimal p.index ∷ decimal p.unit ∷ decimal p.page ∷ []) (omega (arith, t.ticket)) (omega arith) in
    let i = field-back 4294967295 p.index (decimal p.unit ∷ decimal p.page ∷ []) (omega (arith, t.index)) (omega arith) in
    let u = field-back 4294967295 p.unit (decimal p.page ∷ []) (omega (arith, t.unit)) (omega arith) in
    let g = field-back 4294967295 p.page [] (omega (arith, t.page)) (omega arith) in
    rw (k, i, u, g) refl

copy-back : (given : Option Command) (x : Copied) → IsToldCopy x → entry_in given (words (entries.Copied x)) ≡ Ok (entries.Copied x)
unfolding entry_in copied_in
copy-back given x t =
    let f = spot-back x.from (spot_words x.to) t.from in
    let g = spot-back x.to [] t.to in
    rw (f, g) refl

move-back : (given : Option Command) (m : Moved) → IsToldMove m → entry_in given (words (entries.Moved m)) ≡ Ok (entries.Moved m)
unfolding entry_in moved_in
move-back given m t =
    let g = field-back 65535 m.rg (map block_word m.blocks) (omega (arith, t.rg)) (omega arith) in
    let b = names-back m.blocks t.blocks in
    rw (g, b) refl

-- the command of an entry is given where no line spells it
abbrev pub IsGivenTo : Option Command → Entry → Type 0
IsGivenTo given (entries.Host h) = IsGivenFor given h.command
IsGivenTo given (entries.Started s) = IsGivenFor given s.command
IsGivenTo given (entries.Placed p) = Unit {0}
IsGivenTo given (entries.Copied x) = Unit {0}
IsGivenTo given (entries.Moved m) = Unit {0}
IsGivenTo given (entries.Erased e) = Unit {0}
IsGivenTo given (entries.Retired r) = Unit {0}
IsGivenTo given (entries.Aside a) = Unit {0}
IsGivenTo given (entries.Shut s) = Unit {0}
IsGivenTo given (entries.Worn w) = Unit {0}
IsGivenTo given entries.Reopened = Unit {0}

-- what is read of the words of an entry is that entry, but for the bytes
pub entry-back : (given : Option Command) (c : DriveConfig) (e : Entry) → IsTold c e → IsGivenTo given e → entry_in given (words e) ≡ Ok (with_bytes [] e)
unfolding entry_in shut_in
entry-back given c (entries.Host h) t for' = host-back given c h t for'
entry-back given c (entries.Started s) t for' = started-back given c s t for'
entry-back given c (entries.Placed p) t for' = page-back given p t
entry-back given c (entries.Copied x) t for' = copy-back given x t
entry-back given c (entries.Moved m) t for' = move-back given m t
entry-back given c (entries.Erased e) t for' = let u = field-back 4294967295 e.unit [] (omega (arith, t)) (omega arith) in rw u refl
entry-back given c (entries.Retired r) t for' = let u = field-back 4294967295 r.unit [] (omega (arith, t)) (omega arith) in rw u refl
entry-back given c (entries.Aside a) t for' = let u = field-back 4294967295 a.unit [] (omega (arith, t)) (omega arith) in rw u refl
entry-back given c (entries.Shut s) t for' =
    let g = field-back 65535 s.rg (decimal s.ruh ∷ []) (omega (arith, t.0)) (omega arith) in
    let r = field-back 255 s.ruh [] (omega (arith, t.1)) (omega arith) in
    rw (g, r) refl
entry-back given c (entries.Worn w) t for' = let g = field-back 65535 w.rg [] (omega (arith, t)) (omega arith) in rw g refl
entry-back given c entries.Reopened t for' = refl

pub placed-back : (given : Option Command) (c : DriveConfig) (p : ℕ) (e : Entry) → p < 2 ^ 64 → IsTold c e → IsGivenTo given e → placed_entry given (decimal p ∷ words e) ≡ Ok (p, with_bytes [] e)
unfolding placed_entry
placed-back given c p e lt t for' =
    let n = field-back 18446744073709551615 p (words e) (omega (arith, lt)) (omega arith) in
    let b = entry-back given c e t for' in
    rw (n, b) refl
