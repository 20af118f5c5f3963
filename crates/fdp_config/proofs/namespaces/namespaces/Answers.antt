use Rattle.std.proofs.Common.{◌≡◌, ◌≤◌, ℕ, List, length, map, Option, refl, ap, ◌∙◌, arith, le-leb}
use Rattle.std.proofs.lemmas.Result.{err_from_is_err_and}
use Rattle.toml.specs.Data.{Data}
use Rattle.toml.specs.View.{view}
use Rattle.toml.specs.declared.value.Value.{Value}
use Rattle.fdp_config.proofs.Checks.{checked_free, checked_told, checked_fails}
use Rattle.fdp_config.proofs.Views.{reads_more, reads_stop, reads_all, as_many}
use Rattle.fdp_config.specs.Document.{elements_of}
use Rattle.fdp_config.specs.Ranges.{first_of, namespace_fault, namespaces_fault}
use Rattle.fdp_config.specs.declared.key.Key.TheVariants.{Namespaces}
use Rattle.fdp_config.proofs.namespaces.namespaces.Goals as goal

-- among at most sixteen entries the first fault is told
entries_alone : (count : ℕ) (vs : List Value) (ds : List Data) (o : Option ℕ) → map view vs ≡ ds → length vs ≤ 16
    → first_of (namespace_fault count) 0 (map view vs) ≡ o → namespaces_fault count ds ≡ o
entries_alone count vs ds o same few first =
    let many = as_many vs ds same in
    rw (le-leb (length ds) 16 (omega arith), ← same, first) refl

pub returns-in_err-namespace : goal.returns-in_err-namespace
returns-in_err-namespace c =
    let p = err_from_is_err_and c.from_residual-in_err-namespace.result c.from_residual-in_err-namespace.ensures.1 in
    let same = c.elements_of-entries.ensures ∙ ap elements_of c.value_at.ensures in
    rw (p.1, p.2) (λ not_memory.
    let (told, fails, is) = checked_told Namespaces _ _ _ (c.in_err-namespace.ensures not_memory) in
    let whole = reads_stop _ _ _ _ _ _ _ c.loop-place.invariant (omega arith) c.index-entries-place.is fails in
    checked_fails Namespaces _ _ told _ (entries_alone c.args.listable _ _ _ same (omega arith) whole) is)

pub loop-place-preserved : goal.loop-place-preserved
loop-place-preserved c =
    let (free, value) = checked_free Namespaces _ _ _ c.in_ok-namespace.ensures in
    reads_more _ _ _ _ _ _ _ _ c.loop-place.invariant (omega arith) c.index-entries-place.is c.in_ok-push.ensures.items value free

pub returns : goal.returns
returns c =
    let same = c.elements_of-entries.ensures ∙ ap elements_of c.value_at.ensures in
    let (read, passed) = reads_all _ _ _ _ _ c.loop-place.invariant c.loop-place-test.false in
    rw (entries_alone c.args.listable _ _ _ same (omega arith) passed, ← same, c.from_vec.ensures, read) refl
