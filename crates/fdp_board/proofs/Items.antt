-- Entries with their marks.
use Rattle.std.proofs.Common.{◌≡◌, ℕ, suc, ◌+◌, ◌-◌, ◌≤◌, cond, if◌then◌else◌, nat_eq, List, [], ◌∷◌, ◌++◌, length, Option, Some, None, refl, ap, sym, ◌∙◌, append_assoc, arith}
use Rattle.std.specs.Prelude.{All, map, option_and_then}
use Rattle.std.specs.List.{cons_option}
use Rattle.std.specs.Option.{option_map_or}
use Rattle.std.proofs.lemmas.List.Elements.{All-append, All-cons, All-head, All-nil, All-tail, All-weaker}
use Rattle.std.proofs.lemmas.List.Sums.{sum_by-cons}
use mathlib.Core.List.{append-nil}
use Rattle.fdp_base.specs.declared.config.DriveConfig.{DriveConfig}
use Rattle.fdp_base.specs.declared.entry.Entry.{Entry}
use Rattle.fdp_base.specs.declared.entry.Entry.TheVariants as entries
use Rattle.fdp_base.specs.declared.entry.Host.{Host}
use Rattle.fdp_base.specs.declared.entry.Placed.{Placed}
use Rattle.fdp_base.specs.declared.entry.Started.{Started}
use Rattle.fdp_base.specs.declared.entry.Totals.{Totals}
use Rattle.fdp_base.specs.declared.recorded.Mark.{Mark}
use Rattle.fdp_base.specs.declared.recorded.Snapshot.{Snapshot}
use Rattle.fdp_base.specs.CommandKinds.{blocks_written}
use Rattle.fdp_base.specs.EntryKinds.{placed_of, started_of, ServesNone}
use Rattle.fdp_base.specs.Records.{CarriesNone}
use Rattle.fdp_workers.specs.fdp_relocation.Entries.{AreRelocationIn, IsRelocationIn}
use Rattle.fdp_rules.specs.History.{Found, totals_of}
use Rattle.fdp_rules.specs.Seats.{mark_of, marks_after, queue_of_ticket, seat_of_entry}
use Rattle.fdp_rules.specs.Queue.{completed}
use Rattle.fdp_rules.specs.Totals.{erases, host_blocks, host_blocks_of, media_blocks}
use Rattle.fdp_workers.specs.Run.{OpensFirst}
use Rattle.fdp_board.specs.Board.{AreSumsOf}
use Rattle.fdp_workers.specs.Marks.{counts_of, entry_in, mark_in, marked_after}
use Rattle.fdp_relocation.proofs.Keeping.{quiet-entry}

pub length-marked : (f : Found) (before es : List Entry) → length (marked_after f before es) ≡ length es
unfolding marked_after
length-marked f before [] = refl
length-marked f before (e ∷ es) = ap suc (length-marked f (before ++ e ∷ []) es)

pub entries-marked : (f : Found) (before es : List Entry) → map entry_in (marked_after f before es) ≡ es
unfolding marked_after
entries-marked f before [] = refl
entries-marked f before (e ∷ es) = ap (λ (xs : List Entry). e ∷ xs) (entries-marked f (before ++ e ∷ []) es)

pub marks-marked : (f : Found) (before es : List Entry) → map mark_in (marked_after f before es) ≡ marks_after f before es
unfolding marked_after marks_after
marks-marked f before [] = refl
marks-marked f before (e ∷ es) = ap (λ (xs : List Mark). mark_of f before e ∷ xs) (marks-marked f (before ++ e ∷ []) es)

pub marked-joined : (f : Found) (before xs ys : List Entry) → marked_after f before (xs ++ ys) ≡ marked_after f before xs ++ marked_after f (before ++ xs) ys
unfolding marked_after
marked-joined f before [] ys = ap (λ (b : List Entry). marked_after f b ys) (sym (append-nil before))
marked-joined f before (x ∷ xs) ys =
    ap (λ (zs : List (Entry × Mark)). (x, mark_of f before x) ∷ zs)
    (marked-joined f (before ++ x ∷ []) xs ys ∙ ap (λ (b : List Entry). marked_after f (before ++ x ∷ []) xs ++ marked_after f b ys) (append_assoc before (x ∷ []) xs))

pub marks-joined : (f : Found) (before xs ys : List Entry) → marks_after f before (xs ++ ys) ≡ marks_after f before xs ++ marks_after f (before ++ xs) ys
unfolding marks_after
marks-joined f before [] ys = ap (λ (b : List Entry). marks_after f b ys) (sym (append-nil before))
marks-joined f before (x ∷ xs) ys =
    ap (λ (zs : List Mark). mark_of f before x ∷ zs)
    (marks-joined f (before ++ x ∷ []) xs ys ∙ ap (λ (b : List Entry). marks_after f (before ++ x ∷ []) xs ++ marks_after f b ys) (append_assoc before (x ∷ []) xs))

-- ---- entries that are no worker's

-- an entry that serves no host, and tells of no opening
pub record IsQuiet (e : Entry) : Type 0 where
  pub none : ServesNone e
  pub later : e ≡ entries.Reopened → ⊥

pub quiet-relocation : (c : DriveConfig) (rg : ℕ) (e : Entry) → IsRelocationIn c rg e → IsQuiet e
quiet-relocation c rg e is = let quiet = quiet-entry c rg e is in record { none = quiet.0; later = quiet.1 }

pub all-quiet : (c : DriveConfig) (rg : ℕ) (es : List Entry) → AreRelocationIn c rg es → All IsQuiet es
all-quiet c rg [] all = All-nil IsQuiet
all-quiet c rg (e ∷ es) all = All-cons IsQuiet e es (quiet-relocation c rg e (All-head (IsRelocationIn c rg) e es all)) (all-quiet c rg es (All-tail (IsRelocationIn c rg) e es all))

pub quiet-none : (es : List Entry) → All IsQuiet es → All ServesNone es
quiet-none es all = All-weaker IsQuiet ServesNone (λ e q. q.none) es all

none-seat : (f : Found) (before : List Entry) (e : Entry) → ServesNone e → seat_of_entry f before e ≡ 0
none-seat f before e q =
    ap (λ (o : Option Host). option_map_or (λ (h : Host). h.queue) o (option_map_or (λ (s : Started). s.queue) (started_of e) (option_map_or (λ (p : Placed). queue_of_ticket f before p.ticket) (placed_of e) 0))) q.host
    ∙ ap (λ (o : Option Started). option_map_or (λ (s : Started). s.queue) o (option_map_or (λ (p : Placed). queue_of_ticket f before p.ticket) (placed_of e) 0)) q.started
    ∙ ap (λ (o : Option Placed). option_map_or (λ (p : Placed). queue_of_ticket f before p.ticket) o 0) q.placed

-- they carry no number
pub none-carry : (f : Found) (before es : List Entry) → All ServesNone es → CarriesNone mark_in (marked_after f before es)
unfolding marked_after
none-carry f before [] all = All-nil (λ (x : Entry × Mark). (mark_in x).number ≡ 0)
none-carry f before (e ∷ es) all =
    All-cons (λ (x : Entry × Mark). (mark_in x).number ≡ 0) (e, mark_of f before e) (marked_after f (before ++ e ∷ []) es) (none-seat f before e (All-head ServesNone e es all)) (none-carry f (before ++ e ∷ []) es (All-tail ServesNone e es all))

-- and complete nothing
pub none-completes : (queue : ℕ) (es : List Entry) → All ServesNone es → completed queue es ≡ []
none-completes queue [] all = refl
none-completes queue (e ∷ es) all =
    ap (λ (o : Option Host). cons_option (option_and_then (λ (h : Host). cond (nat_eq h.queue queue) (Some (h.number, h.command)) None) o) (completed queue es)) (All-head ServesNone e es all).host
    ∙ none-completes queue es (All-tail ServesNone e es all)

-- ---- openings

-- no entry of these tells of an opening
pub AreLater : List Entry → Type 0
AreLater es = All (λ e. e ≡ entries.Reopened → ⊥) es

pub quiet-later : (es : List Entry) → All IsQuiet es → AreLater es
unfolding AreLater
quiet-later [] all = All-nil (λ e. e ≡ entries.Reopened → ⊥)
quiet-later (e ∷ es) all = All-cons (λ x. x ≡ entries.Reopened → ⊥) e es (All-head IsQuiet e es all).later (quiet-later es (All-tail IsQuiet e es all))

pub later-one : (e : Entry) → (e ≡ entries.Reopened → ⊥) → AreLater (e ∷ [])
unfolding AreLater
later-one e ne = All-cons (λ x. x ≡ entries.Reopened → ⊥) e [] ne (All-nil (λ x. x ≡ entries.Reopened → ⊥))

pub later-joined : (xs ys : List Entry) → AreLater xs → AreLater ys → AreLater (xs ++ ys)
unfolding AreLater
later-joined xs ys a b = All-append (λ e. e ≡ entries.Reopened → ⊥) xs ys a b

later-first : (before es : List Entry) → AreLater es → OpensFirst before es
unfolding OpensFirst AreLater
later-first before [] all = tt
later-first before (e ∷ es) all = ((λ same. absurd (All-head (λ x. x ≡ entries.Reopened → ⊥) e es all same)), later-first (before ++ e ∷ []) es (All-tail (λ x. x ≡ entries.Reopened → ⊥) e es all))

pub opens-joined : (before xs ys : List Entry) → OpensFirst before xs → AreLater ys → OpensFirst before (xs ++ ys)
unfolding OpensFirst
opens-joined before [] ys opens later = later-first before ys later
opens-joined before (x ∷ xs) ys opens later = (opens.0, opens-joined (before ++ x ∷ []) xs ys opens.1 later)

-- ---- counts

-- what a history adds to the sums before it
pub counts-are : (f : Found) (es : List Entry) (before totals : Totals) (n : ℕ) → n ≡ length es → totals ≡ totals_of f es → AreSumsOf f before
    → record { length = n; host_blocks = totals.host_blocks - before.host_blocks; media_blocks = totals.media_blocks - before.media_blocks; erases = totals.erases - before.erases } ≡ counts_of es
unfolding totals_of
counts-are f es before totals n long same sums =
    let make : ℕ → ℕ → ℕ → ℕ → Snapshot = λ a b c d. record { length = a; host_blocks = b; media_blocks = c; erases = d } in
    let hosts : totals.host_blocks - before.host_blocks ≡ host_blocks es = omega (arith, ap (λ (t : Totals). t.host_blocks) same, sums.host_blocks) in
    let media : totals.media_blocks - before.media_blocks ≡ media_blocks es = omega (arith, ap (λ (t : Totals). t.media_blocks) same, sums.media_blocks) in
    let erased : totals.erases - before.erases ≡ erases es = omega (arith, ap (λ (t : Totals). t.erases) same, sums.erases) in
    ap (λ (a : ℕ). make a (totals.host_blocks - before.host_blocks) (totals.media_blocks - before.media_blocks) (totals.erases - before.erases)) long
    ∙ ap (λ (b : ℕ). make (length es) b (totals.media_blocks - before.media_blocks) (totals.erases - before.erases)) hosts
    ∙ ap (λ (c : ℕ). make (length es) (host_blocks es) c (totals.erases - before.erases)) media
    ∙ ap (λ (d : ℕ). make (length es) (host_blocks es) (media_blocks es) d) erased

-- the sums before are no more than those behind it
pub sums-rise : (f : Found) (es : List Entry) (before totals : Totals) → totals ≡ totals_of f es → AreSumsOf f before → (before.host_blocks ≤ totals.host_blocks) × (before.media_blocks ≤ totals.media_blocks) × (before.erases ≤ totals.erases)
unfolding totals_of
sums-rise f es before totals same sums =
    (omega (arith, ap (λ (t : Totals). t.host_blocks) same, sums.host_blocks), omega (arith, ap (λ (t : Totals). t.media_blocks) same, sums.media_blocks), omega (arith, ap (λ (t : Totals). t.erases) same, sums.erases))

-- ---- a history in which nothing was served

-- it adds no blocks of hosts
none-blocks : (es : List Entry) → All ServesNone es → host_blocks es ≡ 0
none-blocks [] all = refl
none-blocks (e ∷ es) all =
    let first : host_blocks_of e ≡ 0 = ap (λ (o : Option Host). option_map_or (λ (h : Host). if h.reply.applied then blocks_written h.command else 0) o 0) (All-head ServesNone e es all).host in
    omega (arith, sum_by-cons host_blocks_of e es, first, none-blocks es (All-tail ServesNone e es all))

-- so the sums without what it adds are those before it
pub sums-without : (f : Found) (es : List Entry) (totals before : Totals) → All ServesNone es → totals ≡ totals_of f es → before.host_blocks ≡ totals.host_blocks → before.media_blocks + media_blocks es ≡ totals.media_blocks → before.erases + erases es ≡ totals.erases → AreSumsOf f before
unfolding totals_of
sums-without f es totals before all same hosts media erased = record {
  host_blocks = omega (arith, hosts, none-blocks es all, ap (λ (t : Totals). t.host_blocks) same);
  media_blocks = omega (arith, media, ap (λ (t : Totals). t.media_blocks) same);
  erases = omega (arith, erased, ap (λ (t : Totals). t.erases) same);
}

-- and it adds no more than there is
pub sums-least : (f : Found) (es : List Entry) (totals : Totals) → totals ≡ totals_of f es → (media_blocks es ≤ totals.media_blocks) × (erases es ≤ totals.erases)
unfolding totals_of
sums-least f es totals same = (omega (arith, ap (λ (t : Totals). t.media_blocks) same), omega (arith, ap (λ (t : Totals). t.erases) same))
