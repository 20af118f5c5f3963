-- The lines of the grammar, one after the other: how many words each has, where its fixed words stand, what it spells.
use Rattle.std.proofs.Common.{◌≡◌, ℕ, suc, ◌+◌, ◌*◌, ◌%◌, ◌≤◌, Bool, true, false, not, ◌&&◌, ◌==◌, nat_le, List, [], ◌∷◌, length, map, drop, Some, Ok, refl, arith}
use Rattle.std.specs.Prelude.{codes}
use Rattle.std.specs.List.{list_all, flat_map, AllZip}
use Rattle.std.proofs.lemmas.Bool.Decides.{nat_tests}
use Rattle.std.proofs.lemmas.List.{length-map}
use Rattle.fdp_base.specs.declared.command.Command.{Command}
use Rattle.fdp_base.specs.declared.command.Command.TheVariants as commands
use Rattle.fdp_base.specs.declared.command.Range.{Range}
use Rattle.fdp_base.specs.declared.payload.Payload.TheVariants.{Pattern}
use Rattle.fdp_trace.specs.declared.limits.TheConstants.{MOST_AMOUNT}
use Rattle.fdp_trace.specs.declared.command_word.CommandWord.{CommandWord}
use Rattle.fdp_trace.specs.declared.command_word.CommandWord.TheVariants as words
use Rattle.fdp_trace.specs.Reader.Shapes.{word_named, accepts}
use Rattle.fdp_trace.specs.Reader.Reading.{◌>>=◌, field}
use Rattle.fdp_trace.specs.Reader.Commands.{choice, directive, write_of, read_of, zero_of, ranges_of, dealloc_of, flush_of, delete_of, status_of, numbers_of, update_of, class_of, log_of, set_fdp_of, set_events_of, create_of, spelled}
use Rattle.fdp_output.specs.CommandText.{on_word}
use Rattle.fdp_trace.specs.Lines.{Part, Fixed, Number, bits, amount, range_parts, IsLine, write, write_placed, read, zeroes, dealloc, flush, status, update, log, log_ctrl, log_host, set_fdp, get_fdp, set_events, create, delete}
use Rattle.fdp_trace.specs.Demands.{IsNumberFor}
use Rattle.fdp_trace.proofs.Parts.{Follows, in_range, ranged, field_then, end_then, word_then, ranged_then, numbers_ranged, ranges_ranged}

-- the first word of a command
abbrev pub kind_of : Command → CommandWord
kind_of (commands.Write w) = words.Write
kind_of (commands.Read r) = words.Read
kind_of (commands.Zero z) = words.Zero
kind_of (commands.Dealloc d) = words.Dealloc
kind_of (commands.Flush f) = words.Flush
kind_of (commands.Delete d) = words.Delete
kind_of (commands.Status s) = words.Status
kind_of (commands.Update u) = words.Update
kind_of (commands.Log l) = words.Log
kind_of (commands.SetFdp s) = words.SetFdp
kind_of (commands.GetFdp g) = words.GetFdp
kind_of (commands.SetEvents s) = words.SetEvents
kind_of (commands.Create c) = words.Create
kind_of (commands.Other o) = words.GetFdp

abbrev pub text_of : CommandWord → List ℕ
text_of words.Write = codes "write"
text_of words.Read = codes "read"
text_of words.Zero = codes "zero"
text_of words.Dealloc = codes "dealloc"
text_of words.Flush = codes "flush"
text_of words.Status = codes "status"
text_of words.Update = codes "update"
text_of words.Log = codes "log"
text_of words.SetFdp = codes "set-fdp"
text_of words.GetFdp = codes "get-fdp"
text_of words.SetEvents = codes "set-events"
text_of words.Create = codes "create"
text_of words.Delete = codes "delete"

pub text_named : (word : CommandWord) → word_named (text_of word) ≡ Some word
unfolding word_named
text_named words.Write = refl
text_named words.Read = refl
text_named words.Zero = refl
text_named words.Dealloc = refl
text_named words.Flush = refl
text_named words.Status = refl
text_named words.Update = refl
text_named words.Log = refl
text_named words.SetFdp = refl
text_named words.GetFdp = refl
text_named words.SetEvents = refl
text_named words.Create = refl
text_named words.Delete = refl

-- a line begins with the word of its command
pub begins : (line : List Part) (c : Command) → IsLine line c → line ≡ Fixed (text_of (kind_of c)) ∷ drop 1 line
begins line c (write nsid slba count seed) = refl
begins line c (write_placed nsid slba count seed pid) = refl
begins line c (read nsid slba count) = refl
begins line c (zeroes nsid slba count) = refl
begins line c (dealloc nsid ranges some few) = refl
begins line c (flush nsid) = refl
begins line c (status nsid dwords) = refl
begins line c (update nsid pids some few) = refl
begins line c (log lid offset dwords) = refl
begins line c (log_ctrl lid offset dwords) = refl
begins line c (log_host lid offset dwords) = refl
begins line c (set_fdp enable index) = refl
begins line c get_fdp = refl
begins line c (set_events nsid handle enable types some few) = refl
begins line c (create blocks handles few) = refl
begins line c (delete nsid) = refl

-- ---- how many words

two_each : (ranges : List Range) → length (flat_map range_parts ranges) ≡ 2 * length ranges
two_each [] = refl
two_each (r ∷ rs) = let e = two_each rs in omega (arith, e)

dealloc_count : (n k : ℕ) → n ≡ 2 * k → 1 ≤ k → k ≤ 256 → accepts words.Dealloc (suc n) ≡ true
dealloc_count n k e lo hi =
    let odd : suc n % 2 ≡ 1 = omega arith in
    let low : nat_le 3 (suc n) ≡ true = grind (arith, nat_tests) in
    let high : nat_le (suc n) 513 ≡ true = grind (arith, nat_tests) in
    rw (low, high, odd) refl

between : (low high n : ℕ) → low ≤ n → n ≤ high → (nat_le low n && nat_le n high) ≡ true
between low high n lo hi = grind (arith, nat_tests)

pub counted : (line : List Part) (c : Command) → IsLine line c → accepts (kind_of c) (length (drop 1 line)) ≡ true
counted line c (write nsid slba count seed) = refl
counted line c (write_placed nsid slba count seed pid) = refl
counted line c (read nsid slba count) = refl
counted line c (zeroes nsid slba count) = refl
counted line c (dealloc nsid ranges some few) = dealloc_count (length (flat_map range_parts ranges)) (length ranges) (two_each ranges) some few
counted line c (flush nsid) = refl
counted line c (status nsid dwords) = refl
counted line c (update nsid pids some few) =
    let e = length-map pids (bits 16) in between 2 257 (suc (length (map (bits 16) pids))) (omega (arith, e)) (omega (arith, e))
counted line c (log lid offset dwords) = refl
counted line c (log_ctrl lid offset dwords) = refl
counted line c (log_host lid offset dwords) = refl
counted line c (set_fdp enable index) = refl
counted line c get_fdp = refl
counted line c (set_events nsid handle enable types some few) =
    let e = length-map types (bits 8) in between 4 9 (suc (suc (suc (length (map (bits 8) types))))) (omega (arith, e)) (omega (arith, e))
counted line c (create blocks handles few) =
    let e = length-map handles (bits 16) in between 1 33 (suc (length (map (bits 16) handles))) (omega (arith, e)) (omega (arith, e))
counted line c (delete nsid) = refl

-- ---- where the fixed words stand

update_follows : (high i : ℕ) (ns : List ℕ) → Follows words.Update i (map (Number 0 high) ns)
update_follows high i [] = tt
update_follows high i (n ∷ ns) = (refl, update_follows high (i + 1) ns)

create_follows : (high i : ℕ) (ns : List ℕ) → Follows words.Create i (map (Number 0 high) ns)
create_follows high i [] = tt
create_follows high i (n ∷ ns) = (refl, create_follows high (i + 1) ns)

dealloc_follows : (i : ℕ) (ranges : List Range) → Follows words.Dealloc i (flat_map range_parts ranges)
dealloc_follows i [] = tt
dealloc_follows i (r ∷ rs) = (refl, (refl, dealloc_follows (i + 1 + 1) rs))

not_two : (i : ℕ) → 3 ≤ i → (i == 2) ≡ false
not_two i le = grind (arith, nat_tests)

types_follow : (high i : ℕ) (ns : List ℕ) → 3 ≤ i → Follows words.SetEvents i (map (Number 0 high) ns)
types_follow high i [] le = tt
types_follow high i (n ∷ ns) le = (not_two i le, types_follow high (i + 1) ns (omega arith))

pub follows : (line : List Part) (c : Command) → IsLine line c → Follows (kind_of c) 0 (drop 1 line)
follows line c (write nsid slba count seed) = (refl, (refl, (refl, (refl, tt))))
follows line c (write_placed nsid slba count seed pid) = (refl, (refl, (refl, (refl, (refl, refl, (refl, tt))))))
follows line c (read nsid slba count) = (refl, (refl, (refl, tt)))
follows line c (zeroes nsid slba count) = (refl, (refl, (refl, tt)))
follows line c (dealloc nsid ranges some few) = (refl, dealloc_follows 1 ranges)
follows line c (flush nsid) = (refl, tt)
follows line c (status nsid dwords) = (refl, (refl, tt))
follows line c (update nsid pids some few) = (refl, update_follows 65535 1 pids)
follows line c (log lid offset dwords) = (refl, (refl, (refl, tt)))
follows line c (log_ctrl lid offset dwords) = (refl, (refl, (refl, (refl, refl, tt))))
follows line c (log_host lid offset dwords) = (refl, (refl, (refl, (refl, refl, tt))))
follows line c (set_fdp true index) = (refl, refl, (refl, tt))
follows line c (set_fdp false index) = (refl, refl, (refl, tt))
follows line c get_fdp = tt
follows line c (set_events nsid handle true types some few) = (refl, (refl, (refl, refl, types_follow 255 3 types (omega arith))))
follows line c (set_events nsid handle false types some few) = (refl, (refl, (refl, refl, types_follow 255 3 types (omega arith))))
follows line c (create blocks handles few) = (refl, create_follows 65535 1 handles)
follows line c (delete nsid) = (refl, tt)

-- ---- what is read of a line with its numbers

in_word : (enable : Bool) (rest : List (List ℕ)) → choice (codes "on") (on_word enable ∷ rest) ≡ Ok (enable, rest)
unfolding choice
in_word true rest = refl
in_word false rest = refl

pub value_is : (line : List Part) (c : Command) → IsLine line c → (texts : List (List ℕ)) → AllZip IsNumberFor (drop 1 line) texts → spelled (kind_of c) texts ≡ ranged (list_all in_range (drop 1 line)) c
unfolding write_of directive read_of zero_of dealloc_of flush_of delete_of status_of update_of class_of log_of set_fdp_of set_events_of create_of
value_is line c (write nsid slba count seed) texts h =
    field_then 0 4294967295 nsid (bits 64 slba ∷ amount count ∷ bits 32 seed ∷ []) texts _ (commands.Write (record { nsid = nsid; slba = slba; count = count; dtype = 0; dspec = 0; payload = Pattern seed })) h (λ t1 h1. field_then 0 18446744073709551615 slba (amount count ∷ bits 32 seed ∷ []) t1 _ (commands.Write (record { nsid = nsid; slba = slba; count = count; dtype = 0; dspec = 0; payload = Pattern seed })) h1 (λ t2 h2. field_then 1 MOST_AMOUNT count (bits 32 seed ∷ []) t2 _ (commands.Write (record { nsid = nsid; slba = slba; count = count; dtype = 0; dspec = 0; payload = Pattern seed })) h2 (λ t3 h3. field_then 0 4294967295 seed ([]) t3 _ (commands.Write (record { nsid = nsid; slba = slba; count = count; dtype = 0; dspec = 0; payload = Pattern seed })) h3 (λ t4 h4. end_then t4 (λ t. directive t >>= λ place. Ok (commands.Write (record { nsid = nsid; slba = slba; count = count; dtype = place.0; dspec = place.1; payload = Pattern seed }))) (Ok (commands.Write (record { nsid = nsid; slba = slba; count = count; dtype = 0; dspec = 0; payload = Pattern seed }))) h4 refl))))
value_is line c (write_placed nsid slba count seed pid) texts h =
    field_then 0 4294967295 nsid (bits 64 slba ∷ amount count ∷ bits 32 seed ∷ Fixed (codes "pid") ∷ bits 16 pid ∷ []) texts _ (commands.Write (record { nsid = nsid; slba = slba; count = count; dtype = 2; dspec = pid; payload = Pattern seed })) h (λ t1 h1. field_then 0 18446744073709551615 slba (amount count ∷ bits 32 seed ∷ Fixed (codes "pid") ∷ bits 16 pid ∷ []) t1 _ (commands.Write (record { nsid = nsid; slba = slba; count = count; dtype = 2; dspec = pid; payload = Pattern seed })) h1 (λ t2 h2. field_then 1 MOST_AMOUNT count (bits 32 seed ∷ Fixed (codes "pid") ∷ bits 16 pid ∷ []) t2 _ (commands.Write (record { nsid = nsid; slba = slba; count = count; dtype = 2; dspec = pid; payload = Pattern seed })) h2 (λ t3 h3. field_then 0 4294967295 seed (Fixed (codes "pid") ∷ bits 16 pid ∷ []) t3 _ (commands.Write (record { nsid = nsid; slba = slba; count = count; dtype = 2; dspec = pid; payload = Pattern seed })) h3 (λ t4 h4.
    word_then (codes "pid") (bits 16 pid ∷ []) t4 (λ t. directive t >>= λ place. Ok (commands.Write (record { nsid = nsid; slba = slba; count = count; dtype = place.0; dspec = place.1; payload = Pattern seed }))) (ranged (list_all in_range (bits 16 pid ∷ [])) (commands.Write (record { nsid = nsid; slba = slba; count = count; dtype = 2; dspec = pid; payload = Pattern seed }))) h4 (λ t5 h5.
    ranged_then (λ (place : ℕ × ℕ). commands.Write (record { nsid = nsid; slba = slba; count = count; dtype = place.0; dspec = place.1; payload = Pattern seed })) (directive (codes "pid" ∷ t5)) (list_all in_range (bits 16 pid ∷ [])) (2, pid) (field_then 0 65535 pid [] t5 (λ n. Ok (2, n.0)) (2, pid) h5 (λ t6 h6. refl)))))))
value_is line c (read nsid slba count) texts h =
    field_then 0 4294967295 nsid (bits 64 slba ∷ amount count ∷ []) texts _ (commands.Read (record { nsid = nsid; slba = slba; count = count })) h (λ t1 h1. field_then 0 18446744073709551615 slba (amount count ∷ []) t1 _ (commands.Read (record { nsid = nsid; slba = slba; count = count })) h1 (λ t2 h2. field_then 1 MOST_AMOUNT count ([]) t2 _ (commands.Read (record { nsid = nsid; slba = slba; count = count })) h2 (λ t3 h3. refl)))
value_is line c (zeroes nsid slba count) texts h =
    field_then 0 4294967295 nsid (bits 64 slba ∷ amount count ∷ []) texts _ (commands.Zero (record { nsid = nsid; slba = slba; count = count })) h (λ t1 h1. field_then 0 18446744073709551615 slba (amount count ∷ []) t1 _ (commands.Zero (record { nsid = nsid; slba = slba; count = count })) h1 (λ t2 h2. field_then 1 MOST_AMOUNT count ([]) t2 _ (commands.Zero (record { nsid = nsid; slba = slba; count = count })) h2 (λ t3 h3. refl)))
value_is line c (dealloc nsid ranges some few) texts h =
    field_then 0 4294967295 nsid (flat_map range_parts ranges) texts _ (commands.Dealloc (record { nsid = nsid; deallocate = true; ranges = ranges })) h (λ t1 h1. ranged_then (λ rs. commands.Dealloc (record { nsid = nsid; deallocate = true; ranges = rs })) (ranges_of t1) (list_all in_range (flat_map range_parts ranges)) ranges (ranges_ranged ranges t1 h1))
value_is line c (flush nsid) texts h =
    field_then 0 4294967295 nsid ([]) texts _ (commands.Flush (record { nsid = nsid })) h (λ t1 h1. refl)
value_is line c (status nsid dwords) texts h =
    field_then 0 4294967295 nsid (amount dwords ∷ []) texts _ (commands.Status (record { nsid = nsid; mo = 1; dwords = dwords })) h (λ t1 h1. field_then 1 MOST_AMOUNT dwords ([]) t1 _ (commands.Status (record { nsid = nsid; mo = 1; dwords = dwords })) h1 (λ t2 h2. refl))
value_is line c (update nsid pids some few) texts h =
    field_then 0 4294967295 nsid (map (bits 16) pids) texts _ (commands.Update (record { nsid = nsid; mo = 1; pids = pids })) h (λ t1 h1. ranged_then (λ ns. commands.Update (record { nsid = nsid; mo = 1; pids = ns })) (numbers_of 65535 t1) (list_all in_range (map (bits 16) pids)) pids (numbers_ranged 65535 pids t1 h1))
value_is line c (log lid offset dwords) texts h =
    field_then 0 255 lid (bits 64 offset ∷ amount dwords ∷ []) texts _ (commands.Log (record { lid = lid; lsp = 0; group = 1; offset = offset; dwords = dwords })) h (λ t1 h1. field_then 0 18446744073709551615 offset (amount dwords ∷ []) t1 _ (commands.Log (record { lid = lid; lsp = 0; group = 1; offset = offset; dwords = dwords })) h1 (λ t2 h2. field_then 1 MOST_AMOUNT dwords ([]) t2 _ (commands.Log (record { lid = lid; lsp = 0; group = 1; offset = offset; dwords = dwords })) h2 (λ t3 h3. end_then t3 (λ t. class_of t >>= λ lsp. Ok (commands.Log (record { lid = lid; lsp = lsp; group = 1; offset = offset; dwords = dwords }))) (Ok (commands.Log (record { lid = lid; lsp = 0; group = 1; offset = offset; dwords = dwords }))) h3 refl)))
value_is line c (log_ctrl lid offset dwords) texts h =
    field_then 0 255 lid (bits 64 offset ∷ amount dwords ∷ Fixed (codes "ctrl") ∷ []) texts _ (commands.Log (record { lid = lid; lsp = 0; group = 1; offset = offset; dwords = dwords })) h (λ t1 h1. field_then 0 18446744073709551615 offset (amount dwords ∷ Fixed (codes "ctrl") ∷ []) t1 _ (commands.Log (record { lid = lid; lsp = 0; group = 1; offset = offset; dwords = dwords })) h1 (λ t2 h2. field_then 1 MOST_AMOUNT dwords (Fixed (codes "ctrl") ∷ []) t2 _ (commands.Log (record { lid = lid; lsp = 0; group = 1; offset = offset; dwords = dwords })) h2 (λ t3 h3. word_then (codes "ctrl") [] t3 (λ t. class_of t >>= λ lsp. Ok (commands.Log (record { lid = lid; lsp = lsp; group = 1; offset = offset; dwords = dwords }))) (Ok (commands.Log (record { lid = lid; lsp = 0; group = 1; offset = offset; dwords = dwords }))) h3 (λ t4 h4. refl))))
value_is line c (log_host lid offset dwords) texts h =
    field_then 0 255 lid (bits 64 offset ∷ amount dwords ∷ Fixed (codes "host") ∷ []) texts _ (commands.Log (record { lid = lid; lsp = 1; group = 1; offset = offset; dwords = dwords })) h (λ t1 h1. field_then 0 18446744073709551615 offset (amount dwords ∷ Fixed (codes "host") ∷ []) t1 _ (commands.Log (record { lid = lid; lsp = 1; group = 1; offset = offset; dwords = dwords })) h1 (λ t2 h2. field_then 1 MOST_AMOUNT dwords (Fixed (codes "host") ∷ []) t2 _ (commands.Log (record { lid = lid; lsp = 1; group = 1; offset = offset; dwords = dwords })) h2 (λ t3 h3. word_then (codes "host") [] t3 (λ t. class_of t >>= λ lsp. Ok (commands.Log (record { lid = lid; lsp = lsp; group = 1; offset = offset; dwords = dwords }))) (Ok (commands.Log (record { lid = lid; lsp = 1; group = 1; offset = offset; dwords = dwords }))) h3 (λ t4 h4. refl))))
value_is line c (set_fdp enable index) texts h =
    word_then (on_word enable) (bits 8 index ∷ []) texts (λ t. choice (codes "on") t >>= λ on. field 0 255 on.1 >>= λ i. Ok (commands.SetFdp (record { group = 1; enable = on.0; index = i.0 }))) (ranged (list_all in_range (bits 8 index ∷ [])) (commands.SetFdp (record { group = 1; enable = enable; index = index }))) h (λ t1 h1.
    rw (in_word enable t1) (field_then 0 255 index [] t1 (λ i. Ok (commands.SetFdp (record { group = 1; enable = enable; index = i.0 }))) (commands.SetFdp (record { group = 1; enable = enable; index = index })) h1 (λ t2 h2. refl)))
value_is line c get_fdp texts h = refl
value_is line c (set_events nsid handle enable types some few) texts h =
    field_then 0 4294967295 nsid (bits 16 handle ∷ Fixed (on_word enable) ∷ map (bits 8) types) texts _ (commands.SetEvents (record { nsid = nsid; handle = handle; enable = enable; types = types })) h (λ t1 h1. field_then 0 65535 handle (Fixed (on_word enable) ∷ map (bits 8) types) t1 _ (commands.SetEvents (record { nsid = nsid; handle = handle; enable = enable; types = types })) h1 (λ t2 h2.
    word_then (on_word enable) (map (bits 8) types) t2 (λ t. choice (codes "on") t >>= λ on. numbers_of 255 on.1 >>= λ ns. Ok (commands.SetEvents (record { nsid = nsid; handle = handle; enable = on.0; types = ns }))) (ranged (list_all in_range (map (bits 8) types)) (commands.SetEvents (record { nsid = nsid; handle = handle; enable = enable; types = types }))) h2 (λ t3 h3.
    rw (in_word enable t3) (ranged_then (λ ns. commands.SetEvents (record { nsid = nsid; handle = handle; enable = enable; types = ns })) (numbers_of 255 t3) (list_all in_range (map (bits 8) types)) types (numbers_ranged 255 types t3 h3)))))
value_is line c (create blocks handles few) texts h =
    field_then 0 18446744073709551615 blocks (map (bits 16) handles) texts _ (commands.Create (record { size = blocks; given = not (length handles == 0); list = handles })) h (λ t1 h1. ranged_then (λ ns. commands.Create (record { size = blocks; given = not (length ns == 0); list = ns })) (numbers_of 65535 t1) (list_all in_range (map (bits 16) handles)) handles (numbers_ranged 65535 handles t1 h1))
value_is line c (delete nsid) texts h =
    field_then 0 4294967295 nsid ([]) texts _ (commands.Delete (record { nsid = nsid })) h (λ t1 h1. refl)
