-- The commands of a trace are well formed.
use Rattle.std.proofs.Common.{◌≡◌, ℕ, suc, true, List, [], ◌∷◌, length, refl, subst, sym, arith}
use Rattle.std.specs.Prelude.{not, ◌==◌, codes, IsFalse, Result, Ok, Err, IfErr, IfOk, MatchResult}
use Rattle.std.specs.Global.{Vec}
use Rattle.std.specs.List.{All, AllZip, filter}
use Rattle.std.proofs.lemmas.List.Elements.{All-cons, All-nil}
use Rattle.fdp_base.specs.declared.command.Command.{Command}
use Rattle.fdp_base.specs.declared.config.DriveConfig.{DriveConfig}
use Rattle.fdp_base.specs.declared.limits.TheConstants.{MOST_ENTRY_BLOCKS}
use Rattle.fdp_base.specs.CommandKinds.{IsWellFormed}
use Rattle.fdp_base.specs.Geometry.{IsWithin}
use Rattle.fdp_binary.specs.Streams.{IsStream}
use Rattle.fdp_binary.proofs.Serving.{stream-formed}
use Rattle.fdp_trace.specs.declared.fault.TraceFault.{TraceFault}
use Rattle.fdp_trace.specs.Answer.{IsCause}
use Rattle.fdp_trace.specs.Demands.{IsInRange}
use Rattle.fdp_trace.specs.Grammar.{IsTraceOf, Says, is_skipped}
use Rattle.fdp_trace.specs.Lines.{Fixed, IsLine, Part, amount, bits, write, write_placed, read, zeroes, dealloc, flush, status, update, log, log_ctrl, log_host, set_fdp, get_fdp, set_events, create, delete}
use Rattle.std.proofs.lemmas.Bool.Decides.{nat_tests}
use Rattle.std.specs.Str.Lines.{lines}
use Rattle.fdp_finding.specs.Traced.{IsServable}

-- the amount in the third place of a line is in its range
third : (a b : Part) (n : ℕ) (more : List Part) (words : List (List ℕ)) → AllZip IsInRange (a ∷ b ∷ amount n ∷ more) words → IsWithin 1 MOST_ENTRY_BLOCKS n
third a b n more [] h = absurd h
third a b n more (x ∷ []) h = absurd h.1
third a b n more (x ∷ y ∷ []) h = absurd h.1.1
third a b n more (x ∷ y ∷ z ∷ words) h = (h.1.1.0.1, h.1.1.0.2)

-- the same of the fourth place
fourth : (a b c : Part) (n : ℕ) (more : List Part) (words : List (List ℕ)) → AllZip IsInRange (a ∷ b ∷ c ∷ amount n ∷ more) words → IsWithin 1 MOST_ENTRY_BLOCKS n
fourth a b c n more [] h = absurd h
fourth a b c n more (x ∷ words) h = third b c n more words h.1

not_zero : (n : ℕ) → not (suc n == 0) ≡ true
not_zero n = grind (arith, nat_tests)

-- a list is given only where it is not empty
unlisted : (handles : List ℕ) → IsFalse (not (length handles == 0)) → handles ≡ []
unlisted [] none = refl
unlisted (handle ∷ handles) none = let some = not_zero (length handles) in absurd (cc)

formed_line : (c : DriveConfig) (line : List Part) (command : Command) (words : List (List ℕ)) → IsLine line command → AllZip IsInRange line words → IsWellFormed c command
formed_line c line command words (write nsid slba count seed) h = (fourth (Fixed (codes "write")) (bits 32 nsid) (bits 64 slba) count (bits 32 seed ∷ []) words h, tt)
formed_line c line command words (write_placed nsid slba count seed pid) h =
    (fourth (Fixed (codes "write")) (bits 32 nsid) (bits 64 slba) count (bits 32 seed ∷ Fixed (codes "pid") ∷ bits 16 pid ∷ []) words h, tt)
formed_line c line command words (read nsid slba count) h = fourth (Fixed (codes "read")) (bits 32 nsid) (bits 64 slba) count [] words h
formed_line c line command words (zeroes nsid slba count) h = fourth (Fixed (codes "zero")) (bits 32 nsid) (bits 64 slba) count [] words h
formed_line c line command words (dealloc nsid ranges some few) h = (some, few)
formed_line c line command words (flush nsid) h = tt
formed_line c line command words (status nsid dwords) h = (third (Fixed (codes "status")) (bits 32 nsid) dwords [] words h).0
formed_line c line command words (update nsid pids some few) h = (some, omega (arith, few))
formed_line c line command words (log lid offset dwords) h = (fourth (Fixed (codes "log")) (bits 8 lid) (bits 64 offset) dwords [] words h).0
formed_line c line command words (log_ctrl lid offset dwords) h = (fourth (Fixed (codes "log")) (bits 8 lid) (bits 64 offset) dwords (Fixed (codes "ctrl") ∷ []) words h).0
formed_line c line command words (log_host lid offset dwords) h = (fourth (Fixed (codes "log")) (bits 8 lid) (bits 64 offset) dwords (Fixed (codes "host") ∷ []) words h).0
formed_line c line command words (set_fdp enable index) h = tt
formed_line c line command words get_fdp h = tt
formed_line c line command words (set_events nsid handle enable types some few) h = omega (arith, few)
formed_line c line command words (create blocks handles few) h = unlisted handles
formed_line c line command words (delete nsid) h = tt

-- a line that says a command says a well formed one
pub formed : (c : DriveConfig) (line : List ℕ) (command : Command) → Says line command → IsWellFormed c command
formed c line command says = let s = says.1 in formed_line c s.0 command _ s.1 s.2

formed_lines : (c : DriveConfig) (ls : List (List ℕ)) (commands : List Command) → AllZip Says ls commands → All (IsWellFormed c) commands
formed_lines c [] [] say = All-nil (IsWellFormed c)
formed_lines c [] (command ∷ commands) say = absurd say
formed_lines c (line ∷ ls) [] say = absurd say
formed_lines c (line ∷ ls) (command ∷ commands) say =
    All-cons (IsWellFormed c) command commands (formed c line command say.0) (formed_lines c ls commands say.1)

-- a trace is one that a drive of any configuration can serve
pub servable_trace : (c : DriveConfig) (text : List ℕ) (commands : List Command) → IsTraceOf text commands → IsServable c commands
servable_trace c text commands trace =
    record { formed = formed_lines c (filter (λ line. not (is_skipped line)) (lines text)) commands trace.0; few = trace.1.0 }

-- a stream is one that a drive with blocks of its size can serve
pub servable_stream : (c : DriveConfig) (block : ℕ) (bytes : List ℕ) (commands : List Command) → IsStream block bytes commands → c.block ≡ block → IsServable c commands
servable_stream c block bytes commands stream is =
    record { formed = stream-formed c bytes commands (subst (λ (b : ℕ). IsStream b bytes commands) (sym is) stream); few = stream.few.0 }

-- what is read of a text, by its grammar
pub read_answer : (text : List ℕ) (r : Result (Vec Command) TraceFault) → IfOk r (λ commands. IsTraceOf text commands.items) → IfErr r (IsCause text)
    → MatchResult r (λ commands. IsTraceOf text commands.items) (λ fault. IsCause text fault)
read_answer text (Ok commands) says cause = says
read_answer text (Err fault) says cause = cause

pub read_servable : (text : List ℕ) (r : Result (Vec Command) TraceFault) → IfOk r (λ commands. IsTraceOf text commands.items)
    → IfOk r (λ commands. (c : DriveConfig) → IsServable c commands.items)
read_servable text (Ok commands) says = λ c. servable_trace c text commands.items says
read_servable text (Err fault) says = tt
