use Rattle.std.proofs.Common.{◌≡◌, ℕ, List, Option, None, refl, sym, ap, ◌∙◌}
use Rattle.std.proofs.lemmas.Result.{err_from_is_err_and}
use Rattle.toml.specs.Data.{Data, get}
use Rattle.toml.specs.View.{view}
use Rattle.fdp_config.proofs.Checks.{checked_fails, checked_free, checked_passes, checked_told}
use Rattle.fdp_config.specs.Document.{elements_of, number_of}
use Rattle.fdp_config.specs.Kinds.{blocks_word, handles_word}
use Rattle.fdp_config.specs.Ranges.{blocks_fault, handles_fault, namespace_fault}
use Rattle.fdp_config.specs.Reader.Config.{namespace_in}
use Rattle.fdp_config.specs.declared.key.Key.TheVariants.{Namespaces}
use Rattle.fdp_config.proofs.namespaces.namespace.Goals as goal

-- an entry with enough blocks fails by its handles
by_handles : (count place : ℕ) (d : Data) (numbers : List Data) (o : Option ℕ) → numbers ≡ elements_of (get handles_word d) → blocks_fault place (number_of (get blocks_word d)) ≡ None
    → handles_fault count place numbers ≡ o → namespace_fault count place d ≡ o
by_handles count place d numbers o same enough rest = rw enough (rw same at rest)

pub returns-in_err-handles : goal.returns-in_err-handles
returns-in_err-handles c =
    let p = err_from_is_err_and c.from_residual-in_err-handles.result c.from_residual-in_err-handles.ensures.1 in
    let found = c.get.ensures in
    let numbers = c.elements_of.ensures ∙ ap elements_of c.get-2.ensures in
    let (enough, _) = checked_free Namespaces _ _ _ (sym c.in_ok-blocks.ensures) in
    rw (p.1, p.2) (λ not_memory.
    let (told, fails, is) = checked_told Namespaces _ _ _ (c.in_err-handles.ensures not_memory) in
    checked_fails Namespaces _ _ told _ (by_handles c.args.listable c.args.place (view c.args.entry.now) _ _ numbers (rw found at enough) fails) is)

pub returns : goal.returns
returns c =
    let found = c.get.ensures in
    let numbers = c.elements_of.ensures ∙ ap elements_of c.get-2.ensures in
    let (enough, blocks) = checked_free Namespaces _ _ _ (sym c.in_ok-blocks.ensures) in
    let (free, handles) = checked_free Namespaces _ _ _ c.in_ok-handles.ensures in
    let read : record { blocks = c.in_ok-blocks.blocks; handles = c.in_ok-handles.handles } ≡ namespace_in (view c.args.entry.now) =
    rw (blocks, handles, numbers, found) refl in
    checked_passes Namespaces _ _ _ (by_handles c.args.listable c.args.place (view c.args.entry.now) _ _ numbers (rw found at enough) free) read
