-- Just the commands that are spelled have a line.
use Rattle.std.proofs.Common.{◌≡◌, ⊎_elim, ℕ, zero, suc, ◌+◌, ◌^◌, ◌<◌, ◌≤◌, nat_le, Bool, true, false, not, ◌&&◌, ◌==◌, List, [], ◌∷◌, length, map, refl, sym, subst, arith}
use Rattle.std.specs.Prelude.{codes, if◌then◌else◌}
use Rattle.std.specs.List.{All, AllByRecursion, flat_map, list_all}
use Rattle.std.proofs.lemmas.Bool.{eqb-true, leb-true, or_cases}
use Rattle.fdp_base.specs.declared.command.Command.{Command}
use Rattle.fdp_base.specs.declared.command.Command.TheVariants as commands
use Rattle.fdp_base.specs.declared.command.Range.{Range}
use Rattle.fdp_base.specs.declared.payload.Payload.{Payload}
use Rattle.fdp_base.specs.declared.payload.Payload.TheVariants as payloads
use Rattle.fdp_output.specs.CommandText.{is_amount, is_count, is_directive, is_given, is_pattern, is_spelled, on_word}
use Rattle.fdp_trace.specs.Lines.{Part, Fixed, Number, bits, amount, range_parts, IsLine, write, write_placed, read, zeroes, dealloc, flush, status, update, log, log_ctrl, log_host, set_fdp, get_fdp, set_events, create, delete}
use Rattle.fdp_trace.specs.Typed.{HaveBits, IsTyped, IsTypedPayload, IsTypedRange}
use Rattle.fdp_trace.proofs.Parts.{both_true, both_within, in_range, within_both}

-- ---- what a line spells is spelled

-- the second and the third part behind the first word, and what follows them
within-one : (a b : Bool) → (a && b) ≡ true → a ≡ true
within-one a b e = (both_true a b e).0

within-two : (a b c : Bool) → (a && (b && c)) ≡ true → b ≡ true
within-two a b c e = within-one b c (both_true a (b && c) e).1

within-three : (a b c d : Bool) → (a && (b && (c && d))) ≡ true → c ≡ true
within-three a b c d e = within-two b c d (both_true a (b && (c && d)) e).1

given-is : (none : Bool) → (if not none then not none else none) ≡ true
given-is true = refl
given-is false = refl

pub line_is_spelled : (line : List Part) (c : Command) → IsLine line c → list_all in_range line ≡ true → is_spelled c ≡ true
line_is_spelled line c (write nsid slba count seed) e = rw (within-three (in_range (bits 32 nsid)) (in_range (bits 64 slba)) (is_amount count) _ e) refl
line_is_spelled line c (write_placed nsid slba count seed pid) e = rw (within-three (in_range (bits 32 nsid)) (in_range (bits 64 slba)) (is_amount count) _ e) refl
line_is_spelled line c (read nsid slba count) e = within-three (in_range (bits 32 nsid)) (in_range (bits 64 slba)) (is_amount count) true e
line_is_spelled line c (zeroes nsid slba count) e = within-three (in_range (bits 32 nsid)) (in_range (bits 64 slba)) (is_amount count) true e
line_is_spelled line c (dealloc nsid ranges some few) e = both_within 1 256 (length ranges) some few
line_is_spelled line c (flush nsid) e = refl
line_is_spelled line c (status nsid dwords) e = within-two (in_range (bits 32 nsid)) (is_amount dwords) true e
line_is_spelled line c (update nsid pids some few) e = both_within 1 256 (length pids) some few
line_is_spelled line c (log lid offset dwords) e = within-three (in_range (bits 8 lid)) (in_range (bits 64 offset)) (is_amount dwords) true e
line_is_spelled line c (log_ctrl lid offset dwords) e = within-three (in_range (bits 8 lid)) (in_range (bits 64 offset)) (is_amount dwords) _ e
line_is_spelled line c (log_host lid offset dwords) e = within-three (in_range (bits 8 lid)) (in_range (bits 64 offset)) (is_amount dwords) _ e
line_is_spelled line c (set_fdp enable index) e = refl
line_is_spelled line c get_fdp e = refl
line_is_spelled line c (set_events nsid handle enable types some few) e = both_within 1 6 (length types) some few
line_is_spelled line c (create blocks handles few) e =
    let short : nat_le (length handles) 32 ≡ true = (both_true (nat_le 0 (length handles)) (nat_le (length handles) 32) (both_within 0 32 (length handles) (omega arith) few)).1 in
    rw (given-is (length handles == 0), short) refl
line_is_spelled line c (delete nsid) e = refl

-- ---- what is spelled has a line

-- a line that spells the command
pub record IsRow (c : Command) : Type 0 where
  pub line : List Part
  pub row : IsLine line c
  pub within : list_all in_range line ≡ true

within-all : (line : List Part) → AllByRecursion (λ part. in_range part ≡ true) line → list_all in_range line ≡ true
within-all [] each = refl
within-all (part ∷ line) each = rw each.0 (within-all line each.1)

-- a number up to a bound
up-to : (high n : ℕ) → n < high + 1 → in_range (Number 0 high n) ≡ true
up-to high n lt = both_within 0 high n (omega arith) (omega arith)

numbers-up-to : (high : ℕ) (ns : List ℕ) → All (λ n. n < high + 1) ns → AllByRecursion (λ part. in_range part ≡ true) (map (Number 0 high) ns)
numbers-up-to high [] each = tt
numbers-up-to high (n ∷ ns) each = (up-to high n (each 0 0 (omega arith)), numbers-up-to high ns (λ k d lt. each (suc k) d (omega arith)))

ranges-within : (ranges : List Range) → All IsTypedRange ranges → AllByRecursion (λ part. in_range part ≡ true) (flat_map range_parts ranges)
ranges-within [] each = tt
ranges-within (r ∷ rs) each =
    let typed = each 0 r (omega arith) in
    (up-to 18446744073709551615 r.slba typed.slba, (up-to 4294967295 r.length typed.length, ranges-within rs (λ k d lt. each (suc k) d (omega arith))))

write-row : (nsid slba count dtype dspec : ℕ) (payload : Payload) → nsid < 2 ^ 32 → slba < 2 ^ 64 → dspec < 2 ^ 16 → IsTypedPayload payload
    → is_amount count ≡ true → is_pattern payload ≡ true → is_directive dtype dspec ≡ true
    → IsRow (commands.Write (record { nsid = nsid; slba = slba; count = count; dtype = dtype; dspec = dspec; payload = payload }))
write-row nsid slba count dtype dspec (payloads.Bytes bytes) n s d p amount-is pattern-is directive-is = absurd cc
write-row nsid slba count dtype dspec (payloads.Pattern seed) n s d p amount-is pattern-is directive-is =
    let front : List Part = Fixed (codes "write") ∷ bits 32 nsid ∷ bits 64 slba ∷ amount count ∷ bits 32 seed ∷ [] in
    let placed : List Part = Fixed (codes "write") ∷ bits 32 nsid ∷ bits 64 slba ∷ amount count ∷ bits 32 seed ∷ Fixed (codes "pid") ∷ bits 16 dspec ∷ [] in
    let command = λ (t v : ℕ). commands.Write (record { nsid = nsid; slba = slba; count = count; dtype = t; dspec = v; payload = payloads.Pattern seed }) in
    ⊎_elim
    (λ (e : ((dtype == 0) && (dspec == 0)) ≡ true).
    let both = both_true (dtype == 0) (dspec == 0) e in
    let plain : IsRow (command 0 0) = record {
      line = front;
      row = write nsid slba count seed;
      within = within-all front (refl, (up-to 4294967295 nsid n, (up-to 18446744073709551615 slba s, (amount-is, (up-to 4294967295 seed p, tt)))));
    } in
    let half : IsRow (command dtype 0) = subst (λ (t : ℕ). IsRow (command t 0)) (sym (eqb-true dtype 0 both.0)) plain in
    subst (λ (v : ℕ). IsRow (command dtype v)) (sym (eqb-true dspec 0 both.1)) half)
    (λ (e : (dtype == 2) ≡ true).
    let row : IsRow (command 2 dspec) = record {
      line = placed;
      row = write_placed nsid slba count seed dspec;
      within = within-all placed (refl, (up-to 4294967295 nsid n, (up-to 18446744073709551615 slba s, (amount-is, (up-to 4294967295 seed p, (refl, (up-to 65535 dspec d, tt)))))));
    } in
    subst (λ (t : ℕ). IsRow (command t dspec)) (sym (eqb-true dtype 2 e)) row)
    (or_cases ((dtype == 0) && (dspec == 0)) (dtype == 2) directive-is)

dealloc-row : (nsid : ℕ) (deallocate : Bool) (ranges : List Range) → nsid < 2 ^ 32 → All IsTypedRange ranges → (deallocate && is_count 1 256 (length ranges)) ≡ true
    → IsRow (commands.Dealloc (record { nsid = nsid; deallocate = deallocate; ranges = ranges }))
dealloc-row nsid false ranges n each e = absurd cc
dealloc-row nsid true ranges n each e =
    let line : List Part = Fixed (codes "dealloc") ∷ bits 32 nsid ∷ flat_map range_parts ranges in
    let count = within_both 1 256 (length ranges) e in
    record { line = line; row = dealloc nsid ranges count.0 count.1; within = within-all line (refl, (up-to 4294967295 nsid n, ranges-within ranges each)) }

status-row : (nsid mo dwords : ℕ) → nsid < 2 ^ 32 → ((mo == 1) && is_amount dwords) ≡ true → IsRow (commands.Status (record { nsid = nsid; mo = mo; dwords = dwords }))
status-row nsid mo dwords n e =
    let line : List Part = Fixed (codes "status") ∷ bits 32 nsid ∷ amount dwords ∷ [] in
    let both = both_true (mo == 1) (is_amount dwords) e in
    let row : IsRow (commands.Status (record { nsid = nsid; mo = 1; dwords = dwords })) =
    record { line = line; row = status nsid dwords; within = within-all line (refl, (up-to 4294967295 nsid n, (both.1, tt))) } in
    subst (λ (m : ℕ). IsRow (commands.Status (record { nsid = nsid; mo = m; dwords = dwords }))) (sym (eqb-true mo 1 both.0)) row

update-row : (nsid mo : ℕ) (pids : List ℕ) → nsid < 2 ^ 32 → HaveBits 16 pids → ((mo == 1) && is_count 1 256 (length pids)) ≡ true → IsRow (commands.Update (record { nsid = nsid; mo = mo; pids = pids }))
update-row nsid mo pids n each e =
    let line : List Part = Fixed (codes "update") ∷ bits 32 nsid ∷ map (bits 16) pids in
    let both = both_true (mo == 1) (is_count 1 256 (length pids)) e in
    let count = within_both 1 256 (length pids) both.1 in
    let row : IsRow (commands.Update (record { nsid = nsid; mo = 1; pids = pids })) =
    record { line = line; row = update nsid pids count.0 count.1; within = within-all line (refl, (up-to 4294967295 nsid n, numbers-up-to 65535 pids each)) } in
    subst (λ (m : ℕ). IsRow (commands.Update (record { nsid = nsid; mo = m; pids = pids }))) (sym (eqb-true mo 1 both.0)) row

log-row : (lid lsp offset dwords : ℕ) → lid < 2 ^ 8 → offset < 2 ^ 64 → nat_le lsp 1 ≡ true → is_amount dwords ≡ true
    → IsRow (commands.Log (record { lid = lid; lsp = lsp; group = 1; offset = offset; dwords = dwords }))
log-row lid zero offset dwords l o few some =
    let line : List Part = Fixed (codes "log") ∷ bits 8 lid ∷ bits 64 offset ∷ amount dwords ∷ [] in
    record { line = line; row = log lid offset dwords; within = within-all line (refl, (up-to 255 lid l, (up-to 18446744073709551615 offset o, (some, tt)))) }
log-row lid (suc zero) offset dwords l o few some =
    let line : List Part = Fixed (codes "log") ∷ bits 8 lid ∷ bits 64 offset ∷ amount dwords ∷ Fixed (codes "host") ∷ [] in
    record { line = line; row = log_host lid offset dwords; within = within-all line (refl, (up-to 255 lid l, (up-to 18446744073709551615 offset o, (some, (refl, tt))))) }
log-row lid (suc (suc lsp)) offset dwords l o few some = let low : suc (suc lsp) ≤ 1 = leb-true (suc (suc lsp)) 1 few in absurd (omega arith)

log-group : (lid lsp group offset dwords : ℕ) → lid < 2 ^ 8 → offset < 2 ^ 64 → ((group == 1) && nat_le lsp 1 && is_amount dwords) ≡ true
    → IsRow (commands.Log (record { lid = lid; lsp = lsp; group = group; offset = offset; dwords = dwords }))
log-group lid lsp group offset dwords l o e =
    let both = both_true ((group == 1) && nat_le lsp 1) (is_amount dwords) e in
    let front = both_true (group == 1) (nat_le lsp 1) both.0 in
    subst (λ (g : ℕ). IsRow (commands.Log (record { lid = lid; lsp = lsp; group = g; offset = offset; dwords = dwords }))) (sym (eqb-true group 1 front.0)) (log-row lid lsp offset dwords l o front.1 both.1)

set-row : (group index : ℕ) (enable : Bool) → index < 2 ^ 8 → (group == 1) ≡ true → IsRow (commands.SetFdp (record { group = group; enable = enable; index = index }))
set-row group index enable i e =
    let line : List Part = Fixed (codes "set-fdp") ∷ Fixed (on_word enable) ∷ bits 8 index ∷ [] in
    let row : IsRow (commands.SetFdp (record { group = 1; enable = enable; index = index })) =
    record { line = line; row = set_fdp enable index; within = within-all line (refl, (refl, (up-to 255 index i, tt))) } in
    subst (λ (g : ℕ). IsRow (commands.SetFdp (record { group = g; enable = enable; index = index }))) (sym (eqb-true group 1 e)) row

get-row : (group : ℕ) → (group == 1) ≡ true → IsRow (commands.GetFdp (record { group = group }))
get-row group e =
    let row : IsRow (commands.GetFdp (record { group = 1 })) = record { line = Fixed (codes "get-fdp") ∷ []; row = get_fdp; within = refl } in
    subst (λ (g : ℕ). IsRow (commands.GetFdp (record { group = g }))) (sym (eqb-true group 1 e)) row

given-back : (given none : Bool) → (if given then not none else none) ≡ true → given ≡ not none
given-back true true e = absurd cc
given-back true false e = refl
given-back false true e = refl
given-back false false e = absurd cc

create-row : (size : ℕ) (given : Bool) (handles : List ℕ) → size < 2 ^ 64 → HaveBits 16 handles → (is_given given handles && nat_le (length handles) 32) ≡ true
    → IsRow (commands.Create (record { size = size; given = given; list = handles }))
create-row size given handles s each e =
    let line : List Part = Fixed (codes "create") ∷ bits 64 size ∷ map (bits 16) handles in
    let both = both_true (is_given given handles) (nat_le (length handles) 32) e in
    let few : length handles ≤ 32 = leb-true (length handles) 32 both.1 in
    let row : IsRow (commands.Create (record { size = size; given = not (length handles == 0); list = handles })) =
    record { line = line; row = create size handles few; within = within-all line (refl, (up-to 18446744073709551615 size s, numbers-up-to 65535 handles each)) } in
    subst (λ (g : Bool). IsRow (commands.Create (record { size = size; given = g; list = handles }))) (sym (given-back given (length handles == 0) both.0)) row

pub spelled_row : (c : Command) → IsTyped c → is_spelled c ≡ true → IsRow c
spelled_row (commands.Write w) t e =
    let both = both_true (is_amount w.count && is_pattern w.payload) (is_directive w.dtype w.dspec) e in
    let front = both_true (is_amount w.count) (is_pattern w.payload) both.0 in
    write-row w.nsid w.slba w.count w.dtype w.dspec w.payload t.nsid t.slba t.dspec t.payload front.0 front.1 both.1
spelled_row (commands.Read r) t e =
    let line : List Part = Fixed (codes "read") ∷ bits 32 r.nsid ∷ bits 64 r.slba ∷ amount r.count ∷ [] in
    record { line = line; row = read r.nsid r.slba r.count; within = within-all line (refl, (up-to 4294967295 r.nsid t.nsid, (up-to 18446744073709551615 r.slba t.slba, (e, tt)))) }
spelled_row (commands.Zero z) t e =
    let line : List Part = Fixed (codes "zero") ∷ bits 32 z.nsid ∷ bits 64 z.slba ∷ amount z.count ∷ [] in
    record { line = line; row = zeroes z.nsid z.slba z.count; within = within-all line (refl, (up-to 4294967295 z.nsid t.nsid, (up-to 18446744073709551615 z.slba t.slba, (e, tt)))) }
spelled_row (commands.Dealloc d) t e = dealloc-row d.nsid d.deallocate d.ranges t.nsid t.ranges e
spelled_row (commands.Flush f) t e =
    let line : List Part = Fixed (codes "flush") ∷ bits 32 f.nsid ∷ [] in
    record { line = line; row = flush f.nsid; within = within-all line (refl, (up-to 4294967295 f.nsid t, tt)) }
spelled_row (commands.Delete d) t e =
    let line : List Part = Fixed (codes "delete") ∷ bits 32 d.nsid ∷ [] in
    record { line = line; row = delete d.nsid; within = within-all line (refl, (up-to 4294967295 d.nsid t, tt)) }
spelled_row (commands.Status s) t e = status-row s.nsid s.mo s.dwords t.nsid e
spelled_row (commands.Update u) t e = update-row u.nsid u.mo u.pids t.nsid t.pids e
spelled_row (commands.Log l) t e = log-group l.lid l.lsp l.group l.offset l.dwords t.lid t.offset e
spelled_row (commands.SetFdp s) t e = set-row s.group s.index s.enable t.index e
spelled_row (commands.GetFdp g) t e = get-row g.group e
spelled_row (commands.SetEvents s) t e =
    let line : List Part = Fixed (codes "set-events") ∷ bits 32 s.nsid ∷ bits 16 s.handle ∷ Fixed (on_word s.enable) ∷ map (bits 8) s.types in
    let count = within_both 1 6 (length s.types) e in
    record { line = line; row = set_events s.nsid s.handle s.enable s.types count.0 count.1; within = within-all line (refl, (up-to 4294967295 s.nsid t.nsid, (up-to 65535 s.handle t.handle, (refl, numbers-up-to 255 s.types t.types)))) }
spelled_row (commands.Create c) t e = create-row c.size c.given c.list t.size t.handles e
spelled_row (commands.Other o) t e = absurd cc
