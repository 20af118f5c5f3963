-- Items that follow in a record, one behind another.
use Rattle.std.proofs.Common.{◌≡◌, List, [], ◌∷◌, ◌++◌, sym, subst, append_assoc}
use Rattle.std.specs.Prelude.{map}
use mathlib.Core.List.{append-nil}
use Rattle.fdp_base.specs.declared.entry.Entry.{Entry}
use Rattle.fdp_base.specs.declared.recorded.Mark.{Mark}
use Rattle.fdp_rules.specs.Seats.{mark_of, marks_after}
use Rattle.fdp_workers.specs.Run.{AreNext, OpensFirst, Run}

module _ {I : Type 0} (run : Run) (entry : I → Entry) (mark : I → Mark) where
  -- the first of them
  pub next-first : (before : List Entry) (x : I) (xs : List I) → AreNext run entry mark before (x ∷ xs) → mark x ≡ mark_of run.found before (entry x)
  unfolding marks_after
  next-first before x xs n = let both = n.marks in cc

  -- the others follow it
  pub next-rest : (before : List Entry) (x : I) (xs : List I) → AreNext run entry mark before (x ∷ xs) → AreNext run entry mark (before ++ entry x ∷ []) xs
  unfolding marks_after OpensFirst
  next-rest before x xs n =
      let both = n.marks in
      record { marks = cc; opening = n.opening.1 }

  -- those behind some of them
  pub next-behind : (before : List Entry) (xs ys : List I) → AreNext run entry mark before (xs ++ ys) → AreNext run entry mark (before ++ map entry xs) ys
  next-behind before [] ys n = subst (λ (es : List Entry). AreNext run entry mark es ys) (sym (append-nil before)) n
  next-behind before (x ∷ xs) ys n =
      subst (λ (es : List Entry). AreNext run entry mark es ys) (append_assoc before (entry x ∷ []) (map entry xs))
      (next-behind (before ++ entry x ∷ []) xs ys (next-rest before x (xs ++ ys) n))
