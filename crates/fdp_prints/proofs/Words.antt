-- The words of an entry's line: each shows.
use Rattle.std.proofs.Common.{ℕ, ◌^◌, ◌<◌, Bool, true, false, List, [], ◌∷◌, ◌++◌, map, refl, arith}
use Rattle.std.specs.Prelude.{decimal, codes, flat_map}
use Rattle.std.specs.List.{AllByRecursion, AllZip}
use Rattle.fdp_base.specs.declared.command.Command.{Command}
use Rattle.fdp_base.specs.declared.command.Range.{Range}
use Rattle.fdp_base.specs.declared.entry.BlockName.{BlockName}
use Rattle.fdp_base.specs.declared.status.Status.{Status}
use Rattle.fdp_base.specs.CommandKinds.{word_of}
use Rattle.fdp_base.specs.EventCodes.{bit}
use Rattle.fdp_base.specs.Text.{hex, status_text}
use Rattle.fdp_output.specs.CommandText.{argument_words, line_words, on_word, range_words}
use Rattle.fdp_output.specs.HistoryText.{block_word}
use Rattle.fdp_trace.specs.Lines.{Part, Number, range_parts, IsLine, write, write_placed, read, zeroes, dealloc, flush, status, update, log, log_ctrl, log_host, set_fdp, get_fdp, set_events, create, delete}
use Rattle.fdp_trace.specs.Demands.{IsInRange, Spells}
use Rattle.fdp_prints.specs.Told.{IsSpelled, IsToldName}
use Rattle.fdp_prints.proofs.Visible.{IsShown, show-append, show-decimal, show-hex, tag}
use Rattle.fdp_prints.proofs.Digits.{length-hex}
use Rattle.std.proofs.lemmas.List.{length-append}

-- ---- single words

pub show-bit : (b : Bool) → IsShown (decimal (bit b))
show-bit true = show-decimal 1 (omega arith)
show-bit false = show-decimal 0 (omega arith)

pub show-number : (k n : ℕ) → 0 < k → IsShown (hex k n)
show-number k n some = record { some = omega (arith, length-hex k n, some); shows = show-hex k n }

pub show-status : (s : Status) → IsShown (status_text s)
show-status s = record {
  some = omega (arith, length-append (hex 1 s.sct ++ codes "/") (hex 2 s.sc), length-hex 2 s.sc);
  shows = show-append (hex 1 s.sct ++ codes "/") (hex 2 s.sc) (show-append (hex 1 s.sct) (codes "/") (show-hex 1 s.sct) ((omega arith, omega arith), tt)) (show-hex 2 s.sc);
}

pub show-name : (b : BlockName) → IsToldName b → IsShown (block_word b)
show-name b told =
    let n = show-decimal b.nsid (omega (arith, told.nsid)) in
    let l = show-decimal b.lba told.lba in
    record {
      some = omega (arith, length-append (decimal b.nsid ++ codes ":") (decimal b.lba), l.some);
      shows = show-append (decimal b.nsid ++ codes ":") (decimal b.lba) (show-append (decimal b.nsid) (codes ":") n.shows ((omega arith, omega arith), tt)) l.shows;
    }

pub show-names : (bs : List BlockName) → AllByRecursion IsToldName bs → AllByRecursion IsShown (map block_word bs)
show-names [] told = tt
show-names (b ∷ bs) told = (show-name b told.0, show-names bs told.1)

-- ---- the words of a command

show-list : (high : ℕ) (ns : List ℕ) → high < 2 ^ 64 → AllZip IsInRange (map (Number 0 high) ns) (map decimal ns) → AllByRecursion IsShown (map decimal ns)
show-list high [] small h = tt
show-list high (n ∷ ns) small h = (show-decimal n (omega (arith, h.0.2, small)), show-list high ns small h.1)

show-ranges : (rs : List Range) → AllZip IsInRange (flat_map range_parts rs) (flat_map range_words rs) → AllByRecursion IsShown (flat_map range_words rs)
show-ranges [] h = tt
show-ranges (r ∷ rs) h = (show-decimal r.slba (omega (arith, h.0.2)), (show-decimal r.length (omega (arith, h.1.0.2)), show-ranges rs h.1.1))

show-on : (enable : Bool) → IsShown (on_word enable)
show-on true = tag (codes "on") (omega arith) refl
show-on false = tag (codes "off") (omega arith) refl

show-by-line : (line : List Part) (c : Command) → IsLine line c → AllZip IsInRange line (word_of c ∷ argument_words c) → AllByRecursion IsShown (word_of c ∷ argument_words c)
show-by-line line c (write nsid slba count seed) h =
    (tag (codes "write") (omega arith) refl, (show-decimal nsid (omega (arith, h.1.0.2)), (show-decimal slba (omega (arith, h.1.1.0.2)), (show-decimal count (omega (arith, h.1.1.1.0.2)), (show-decimal seed (omega (arith, h.1.1.1.1.0.2)), tt)))))
show-by-line line c (write_placed nsid slba count seed pid) h =
    (tag (codes "write") (omega arith) refl, (show-decimal nsid (omega (arith, h.1.0.2)), (show-decimal slba (omega (arith, h.1.1.0.2)), (show-decimal count (omega (arith, h.1.1.1.0.2)), (show-decimal seed (omega (arith, h.1.1.1.1.0.2)), (tag (codes "pid") (omega arith) refl, (show-decimal pid (omega (arith, h.1.1.1.1.1.1.0.2)), tt)))))))
show-by-line line c (read nsid slba count) h =
    (tag (codes "read") (omega arith) refl, (show-decimal nsid (omega (arith, h.1.0.2)), (show-decimal slba (omega (arith, h.1.1.0.2)), (show-decimal count (omega (arith, h.1.1.1.0.2)), tt))))
show-by-line line c (zeroes nsid slba count) h =
    (tag (codes "zero") (omega arith) refl, (show-decimal nsid (omega (arith, h.1.0.2)), (show-decimal slba (omega (arith, h.1.1.0.2)), (show-decimal count (omega (arith, h.1.1.1.0.2)), tt))))
show-by-line line c (dealloc nsid ranges some few) h = (tag (codes "dealloc") (omega arith) refl, (show-decimal nsid (omega (arith, h.1.0.2)), show-ranges ranges h.1.1))
show-by-line line c (flush nsid) h = (tag (codes "flush") (omega arith) refl, (show-decimal nsid (omega (arith, h.1.0.2)), tt))
show-by-line line c (status nsid dwords) h = (tag (codes "status") (omega arith) refl, (show-decimal nsid (omega (arith, h.1.0.2)), (show-decimal dwords (omega (arith, h.1.1.0.2)), tt)))
show-by-line line c (update nsid pids some few) h = (tag (codes "update") (omega arith) refl, (show-decimal nsid (omega (arith, h.1.0.2)), show-list 65535 pids (omega arith) h.1.1))
show-by-line line c (log lid offset dwords) h = (tag (codes "log") (omega arith) refl, (show-decimal lid (omega (arith, h.1.0.2)), (show-decimal offset (omega (arith, h.1.1.0.2)), (show-decimal dwords (omega (arith, h.1.1.1.0.2)), tt))))
show-by-line line c (log_ctrl lid offset dwords) h = absurd h.1.1.1.1
show-by-line line c (log_host lid offset dwords) h =
    (tag (codes "log") (omega arith) refl, (show-decimal lid (omega (arith, h.1.0.2)), (show-decimal offset (omega (arith, h.1.1.0.2)), (show-decimal dwords (omega (arith, h.1.1.1.0.2)), (tag (codes "host") (omega arith) refl, tt)))))
show-by-line line c (set_fdp enable index) h = (tag (codes "set-fdp") (omega arith) refl, (show-on enable, (show-decimal index (omega (arith, h.1.1.0.2)), tt)))
show-by-line line c get_fdp h = (tag (codes "get-fdp") (omega arith) refl, tt)
show-by-line line c (set_events nsid handle enable types some few) h =
    (tag (codes "set-events") (omega arith) refl, (show-decimal nsid (omega (arith, h.1.0.2)), (show-decimal handle (omega (arith, h.1.1.0.2)), (show-on enable, show-list 255 types (omega arith) h.1.1.1.1))))
show-by-line line c (create blocks handles few) h = (tag (codes "create") (omega arith) refl, (show-decimal blocks (omega (arith, h.1.0.2)), show-list 65535 handles (omega arith) h.1.1))
show-by-line line c (delete nsid) h = (tag (codes "delete") (omega arith) refl, (show-decimal nsid (omega (arith, h.1.0.2)), tt))

-- each word that is printed of a spelled command shows
show-spelled : (c : Command) → Spells (line_words c) c → AllByRecursion IsShown (line_words c)
show-spelled c (line, row, h) = show-by-line line c row h

pub show-command : (c : Command) → IsSpelled c → AllByRecursion IsShown (line_words c)
show-command c spelled = show-spelled c spelled.says
