use Rattle.std.proofs.Common.{◌≡◌, ◌≤◌, ℕ, length, None, Some, unwrap_or, refl, arith}
use Rattle.std.proofs.lemmas.Bool.Decides.{nat_tests}
use Rattle.fdp_base.specs.declared.config.Class.TheVariants.{Initial}
use Rattle.toml.specs.Data.{Data}
use Rattle.toml.specs.View.{view}
use Rattle.fdp_config.proofs.Views.{reads_more, reads_stop, reads_all, counted, as_many}
use Rattle.fdp_config.specs.Document.{elements}
use Rattle.fdp_config.specs.Ranges.{first_of, class_fault, classes_fault}
use Rattle.fdp_config.specs.Ranges.{class_of}
use Rattle.fdp_config.proofs.configurations.classes.Goals as goal

-- in an array of one to sixteen words the first fault is told
words_alone : (place : ℕ) (d : Data) → 1 ≤ length (elements d) → length (elements d) ≤ 16 → classes_fault place d ≡ first_of class_fault 0 (elements d)
words_alone place d some few = rw (counted 1 16 (length (elements d)) some few) refl

pub loop-place-preserved : goal.loop-place-preserved
loop-place-preserved c =
    let value : c.in-Some.class ≡ unwrap_or (class_of (view c.index-words-place.result)) Initial = rw (← c.in-Some.ensures) refl in
    let free : class_fault c.loop-place.place (view c.index-words-place.result) ≡ None = rw (← c.in-Some.ensures) refl in
    reads_more _ _ _ _ _ _ _ _ c.loop-place.invariant (omega arith) c.index-words-place.is c.in_ok-push-in-Some.ensures.items value free

pub returns-in-None : goal.returns-in-None
returns-in-None c _ =
    let fails : class_fault c.loop-place.place (view c.index-words-place.result) ≡ Some c.loop-place.place = rw (← c.in-None.ensures) refl in
    let told = reads_stop _ _ _ _ _ _ _ c.loop-place.invariant (omega arith) c.index-words-place.is fails in
    let many = as_many _ _ c.elements_of-words.ensures in
    rw (words_alone c.args.place (view c.args.array.now) (omega arith) (omega arith), ← c.elements_of-words.ensures, told, c.out_of_range-in-None.ensures) refl

pub returns : goal.returns
returns c =
    let many = as_many _ _ c.elements_of-words.ensures in
    let some : 1 ≤ length c.elements_of-words.result.now = grind (arith, nat_tests) in
    let (read, passed) = reads_all _ _ _ _ _ c.loop-place.invariant c.loop-place-test.false in
    rw (words_alone c.args.place (view c.args.array.now) (omega arith) (omega arith), ← c.elements_of-words.ensures, passed, c.from_vec.ensures, read) refl
