-- Histories with their marks.
use Rattle.std.proofs.Common.{◌≡◌, ℕ, ◌^◌, ◌<◌, List, [], ◌∷◌, ◌++◌, length, refl, sym, ◌∙◌, ap, subst, arith, append_assoc}
use Rattle.std.specs.Prelude.{map, sum_by}
use mathlib.Core.List.{append-nil}
use Rattle.std.proofs.lemmas.List.Sums.{sum_by-cons}
use Rattle.fdp_base.specs.declared.entry.Entry.{Entry}
use Rattle.fdp_base.specs.declared.recorded.Mark.{Mark}
use Rattle.fdp_base.specs.Records.{carrying}
use Rattle.fdp_gauge.specs.Passes.{snapshot_of}
use Rattle.fdp_rules.specs.History.{Found}
use Rattle.fdp_rules.specs.Seats.{mark_of, marks_after}
use Rattle.fdp_rules.specs.Totals.{erases_of, host_blocks_of, media_blocks_of}
use Rattle.fdp_workers.specs.Marks.{counts_of, entry_in, mark_in, marked_after, marked_of}
use Rattle.fdp_workers.specs.Queues.{Has, Progress}
use Rattle.fdp_workers.specs.Run.{AreNext, IsHistory, OpensFirst, Run}
use Rattle.fdp_workers.proofs.Progressing.{has-others}

entries-marked : (f : Found) (before es : List Entry) → map entry_in (marked_after f before es) ≡ es
unfolding marked_after
entries-marked f before [] = refl
entries-marked f before (e ∷ es) = ap (λ (xs : List Entry). e ∷ xs) (entries-marked f (before ++ e ∷ []) es)

marks-marked : (f : Found) (before es : List Entry) → map mark_in (marked_after f before es) ≡ marks_after f before es
unfolding marked_after marks_after
marks-marked f before [] = refl
marks-marked f before (e ∷ es) = ap (λ (ms : List Mark). mark_of f before e ∷ ms) (marks-marked f (before ++ e ∷ []) es)

next-marked : (run : Run) (before es : List Entry) → OpensFirst before es → AreNext run entry_in mark_in before (marked_after run.found before es)
next-marked run before es opening =
    let same = entries-marked run.found before es in
    record {
      marks = marks-marked run.found before es ∙ ap (marks_after run.found before) (sym same);
      opening = subst (OpensFirst before) (sym same) opening;
    }

length-marked : (f : Found) (before es : List Entry) → length (marked_after f before es) ≡ length es
unfolding marked_after
length-marked f before [] = refl
length-marked f before (e ∷ es) = omega (arith, length-marked f (before ++ e ∷ []) es)

pub record-of : (run : Run) (es : List Entry) → OpensFirst [] es → length es < 2 ^ 40 → IsHistory run entry_in mark_in (marked_of run.found es)
record-of run es opening few = record { next = next-marked run [] es opening; few = omega (arith, length-marked run.found [] es, few) }

marked-push : (f : Found) (before es : List Entry) (e : Entry) → marked_after f before (es ++ e ∷ []) ≡ marked_after f before es ++ (e, mark_of f (before ++ es) e) ∷ []
unfolding marked_after
marked-push f before [] e = ap (λ (xs : List Entry). (e, mark_of f xs e) ∷ []) (sym (append-nil before))
marked-push f before (x ∷ xs) e =
    ap (λ (ms : List (Entry × Mark)). (x, mark_of f before x) ∷ ms)
    (marked-push f (before ++ x ∷ []) xs e ∙ ap (λ (ys : List Entry). marked_after f (before ++ x ∷ []) xs ++ (e, mark_of f ys e) ∷ []) (append_assoc before (x ∷ []) xs))

pub marked-more : (f : Found) (es : List Entry) (e : Entry) → marked_of f (es ++ e ∷ []) ≡ marked_of f es ++ (e, mark_of f es e) ∷ []
marked-more f es e = marked-push f [] es e

-- what marks and entries both tell has one sum
one-sum : (told : Mark → ℕ) (count : Entry → ℕ) (f : Found) → ((before : List Entry) (e : Entry) → told (mark_of f before e) ≡ count e) → (before es : List Entry) → sum_by told (map mark_in (marked_after f before es)) ≡ sum_by count es
unfolding marked_after
one-sum told count f same before [] = refl
one-sum told count f same before (e ∷ es) =
    omega (arith, same before e, one-sum told count f same (before ++ e ∷ []) es, sum_by-cons told (mark_of f before e) (map mark_in (marked_after f (before ++ e ∷ []) es)), sum_by-cons count e es)

length-marks : (f : Found) (before es : List Entry) → length (map mark_in (marked_after f before es)) ≡ length es
unfolding marked_after
length-marks f before [] = refl
length-marks f before (e ∷ es) = omega (arith, length-marks f (before ++ e ∷ []) es)

pub snapshot-marked : (f : Found) (es : List Entry) → snapshot_of (map mark_in (marked_of f es)) ≡ counts_of es
snapshot-marked f es =
    let size = length-marks f [] es in
    let host = one-sum (λ m. m.host_blocks) host_blocks_of f (λ before e. refl) [] es in
    let media = one-sum (λ m. m.media_blocks) media_blocks_of f (λ before e. refl) [] es in
    let erased = one-sum (λ m. m.erases) erases_of f (λ before e. refl) [] es in
    cc

pub others-leave : (run : Run) (queue : ℕ) (p : Progress) (es new : List Entry) → OpensFirst es new → carrying mark_in queue (marked_after run.found es new) ≡ [] → Has run queue p es → Has run queue p (es ++ new)
others-leave run queue p es new opening none h =
    let items = marked_after run.found es new in
    let next : AreNext run entry_in mark_in es (items ++ []) = subst (AreNext run entry_in mark_in es) (sym (append-nil items)) (next-marked run es new opening) in
    subst (λ (xs : List Entry). Has run queue p (es ++ xs)) (entries-marked run.found es new) (has-others run entry_in mark_in queue p es items [] next none h)
