use Rattle.std.proofs.Common.{◌≡◌, ◌≤◌, ℕ, List, length, map, Option, refl, ap, ◌∙◌, arith}
use Rattle.std.proofs.lemmas.Bool.Decides.{nat_tests}
use Rattle.std.proofs.lemmas.Result.{err_from_is_err_and}
use Rattle.toml.specs.Data.{Data}
use Rattle.toml.specs.View.{view}
use Rattle.toml.specs.declared.value.Value.{Value}
use Rattle.fdp_config.proofs.Checks.{checked_free, checked_told, checked_fails}
use Rattle.fdp_config.proofs.InRange.{configurations_inside}
use Rattle.fdp_config.proofs.Views.{reads_more, reads_stop, reads_all, counted, as_many}
use Rattle.fdp_config.specs.Document.{elements_of}
use Rattle.fdp_config.specs.Ranges.{first_of, classes_fault, configurations_fault}
use Rattle.fdp_config.specs.declared.key.Key.TheVariants.{Fdp}
use Rattle.fdp_config.proofs.configurations.configurations.Goals as goal

-- among one to four arrays the first fault is told
arrays_alone : (vs : List Value) (ds : List Data) (o : Option ℕ) → map view vs ≡ ds → 1 ≤ length vs → length vs ≤ 4
    → first_of classes_fault 0 (map view vs) ≡ o → configurations_fault ds ≡ o
arrays_alone vs ds o same some few first =
    let many = as_many vs ds same in
    rw (counted 1 4 (length ds) (omega arith) (omega arith), ← same, first) refl

pub returns-in_err-classes-clause-value : goal.returns-in_err-classes-clause-value
returns-in_err-classes-clause-value c =
    let p = err_from_is_err_and c.from_residual-in_err-classes.result c.from_residual-in_err-classes.ensures.1 in
    let same = c.elements_of-arrays.ensures ∙ ap elements_of c.value_at.ensures in
    rw (p.1, p.2) (λ not_memory.
    let (told, fails, is) = checked_told Fdp _ _ _ (c.in_err-classes.ensures not_memory) in
    let whole = reads_stop _ _ _ _ _ _ _ c.loop-place.invariant (omega arith) c.index-arrays-place.is fails in
    checked_fails Fdp _ _ told _ (arrays_alone _ _ _ same (omega arith) (omega arith) whole) is)

pub loop-place-preserved : goal.loop-place-preserved
loop-place-preserved c =
    let (free, value) = checked_free Fdp _ _ _ c.in_ok-classes.ensures in
    reads_more _ _ _ _ _ _ _ _ c.loop-place.invariant (omega arith) c.index-arrays-place.is c.in_ok-push.ensures.items value free

pub returns-clause-value : goal.returns-clause-value
returns-clause-value c =
    let same = c.elements_of-arrays.ensures ∙ ap elements_of c.value_at.ensures in
    let some : 1 ≤ length c.elements_of-arrays.result.now = grind (arith, nat_tests) in
    let (read, passed) = reads_all _ _ _ _ _ c.loop-place.invariant c.loop-place-test.false in
    rw (arrays_alone _ _ _ same some (omega arith) passed, ← same, c.from_vec.ensures, read) refl

pub returns-clause-few : goal.returns-clause-few
returns-clause-few c =
    let same = c.elements_of-arrays.ensures ∙ ap elements_of c.value_at.ensures in
    let some : 1 ≤ length c.elements_of-arrays.result.now = grind (arith, nat_tests) in
    let (read, passed) = reads_all _ _ _ _ _ c.loop-place.invariant c.loop-place-test.false in
    rw (c.from_vec.ensures, read) (configurations_inside (map view c.elements_of-arrays.result.now) (arrays_alone _ _ _ refl some (omega arith) passed)).0

pub returns-clause-each : goal.returns-clause-each
returns-clause-each c =
    let same = c.elements_of-arrays.ensures ∙ ap elements_of c.value_at.ensures in
    let some : 1 ≤ length c.elements_of-arrays.result.now = grind (arith, nat_tests) in
    let (read, passed) = reads_all _ _ _ _ _ c.loop-place.invariant c.loop-place-test.false in
    rw (c.from_vec.ensures, read) (configurations_inside (map view c.elements_of-arrays.result.now) (arrays_alone _ _ _ refl some (omega arith) passed)).1
