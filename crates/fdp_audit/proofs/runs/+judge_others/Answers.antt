use Rattle.std.proofs.Common.{◌≤◌, ℕ, List, ◌∷◌, All, Err, ap, arith, length, map, subst, sym}
use Rattle.std.specs.Global.{Vec}
use Rattle.std.specs.Vec.{vec_items}
use Rattle.std.proofs.lemmas.List.Elements.{All-head, All-tail}
use Rattle.fdp_base.specs.declared.limits.TheConstants.{LONGEST_TRACE}
use Rattle.fdp_audit.specs.Steps.{GoesOn, IsNextVerdict, IsOutcomeBehind}
use Rattle.fdp_audit.proofs.Following.{behind-one, next-room, none-behind}
use Rattle.fdp_audit.proofs.runs.+judge_others.Goals as goal

pub go_on-requires : goal.go_on-requires
go_on-requires t c =
    let short : All (λ (text : Vec ℕ). length text.items ≤ LONGEST_TRACE) (c.in-Some.text.now ∷ c.in-Some.others.now) = subst (λ (ts : List (Vec ℕ)). All (λ (text : Vec ℕ). length text.items ≤ LONGEST_TRACE) ts) c.in-Some.ensures.cases.0 c.requires.short in
    let own = All-head (λ (text : Vec ℕ). length text.items ≤ LONGEST_TRACE) c.in-Some.text.now c.in-Some.others.now short in
    omega (arith, own, c.as_slice.ensures.len, ap (λ (t : List ℕ). length t) c.as_slice.ensures.value, c.requires.few, c.requires.room)

pub judge_others-requires : goal.judge_others-requires
judge_others-requires t c =
    let P : Vec ℕ → Type 0 = λ (text : Vec ℕ). length text.items ≤ LONGEST_TRACE in
    let cut = c.in-Some.ensures.cases.0 in
    let short : All P (c.in-Some.text.now ∷ c.in-Some.others.now) = subst (λ (ts : List (Vec ℕ)). All P ts) cut c.requires.short in
    let own = All-head P c.in-Some.text.now c.in-Some.others.now short in
    let size = ap (λ (ts : List (Vec ℕ)). length ts) cut in
    let one : GoesOn c.args.plain.now c.as_slice.result.now c.go_on.new.plain = c.in-Ok.ensures in
    let more = next-room c.args.plain.now c.go_on.new.plain c.as_slice.result.now one.next_is in (
      omega (arith, size, c.decreases),
      (
        omega (arith, size, c.requires.few),
        (
          All-tail P c.in-Some.text.now c.in-Some.others.now short,
          omega (arith, more, own, ap (λ (t : List ℕ). length t) c.as_slice.ensures.value, c.requires.room),
        ),
      ),
    )

pub returns-in-Ok : goal.returns-in-Ok
returns-in-Ok t c =
    let texts : List (List ℕ) = map vec_items c.in-Some.others.now in
    let one : GoesOn c.args.plain.now c.in-Some.text.now.items c.go_on.new.plain = subst (λ (t : List ℕ). GoesOn c.args.plain.now t c.go_on.new.plain) c.as_slice.ensures.value c.in-Ok.ensures in
    subst (λ (ts : List (Vec ℕ)). IsOutcomeBehind c.args.plain.now (map vec_items ts) c.args.number c.judge_others.new.plain c.judge_others.result) (sym c.in-Some.ensures.cases.0)
    (behind-one c.args.plain.now c.go_on.new.plain c.in-Some.text.now.items texts c.args.number c.judge_others.new.plain c.judge_others.result one c.judge_others.ensures)

pub returns-in-Err : goal.returns-in-Err
returns-in-Err t c =
    let texts : List (List ℕ) = map vec_items c.in-Some.others.now in
    let next = c.go_on.new.plain in
    subst (λ (ts : List (Vec ℕ)). IsOutcomeBehind c.args.plain.now (map vec_items ts) c.args.number next (Err (record { number = c.number_told.result; cause = c.in-Err.cause }))) (sym c.in-Some.ensures.cases.0)
    (none-behind c.args.plain.now next next c.in-Some.text.now.items texts c.args.number c.number_told.result c.in-Err.cause c.number_told.ensures
    (subst (λ (t : List ℕ). IsNextVerdict c.args.plain.now t next (Err c.in-Err.cause)) c.as_slice.ensures.value c.in-Err.ensures))
