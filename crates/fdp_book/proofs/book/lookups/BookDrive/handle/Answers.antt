use Rattle.std.proofs.Common.{◌≡◌, ◌∙◌, ℕ, Bor, List, None, Option, Some, ap, get_or, length, refl, subst, sym}
use Rattle.std.specs.Prelude.{IfSome, is_some, nat_lt, slice_get}
use Rattle.std.specs.Option.{option_copied}
use Rattle.std.proofs.lemmas.Bool.{ltb-false, ltb-true}
use Rattle.std.proofs.lemmas.Option.{slice_get_past, slice_get_read}
use Rattle.fdp_book.specs.Book.{BookSeen, point_in, state_in}
use Rattle.fdp_book.specs.Held.{book_of}
use Rattle.fdp_book.proofs.Outlining.{handles-said}
use Rattle.fdp_outline.specs.Handles.{handles_at}
use Rattle.fdp_rules.specs.Room.{handles_of}
use Rattle.fdp_snapshot.specs.declared.state.Summary.{Summary}
use Rattle.fdp_book.proofs.book.lookups.BookDrive.handle.Goals as goal

-- what stands at a place of a list, if something does
copied-at : (xs : List ℕ) (at : ℕ) (found : Option (Bor ℕ)) → is_some found ≡ nat_lt at (length xs) → IfSome found (λ x. x.now ≡ get_or xs at x.now) → option_copied found ≡ slice_get xs at
copied-at xs at None tells is = sym (slice_get_past xs at (ltb-false at (length xs) (sym tells)))
copied-at xs at (Some x) tells is = sym (slice_get_read xs (length xs) at x.now refl (ltb-true at (length xs) (sym tells)) is)

pub returns : goal.returns
returns c =
    let old = c.self.inside in
    let b : BookSeen = book_of old.config old.origin old.log old.tables in
    let s : Summary = old.tables.outline in
    let nsid : ℕ = c.args.nsid in
    c.copied.ensures
    ∙ copied-at c.handles.result.now c.from.result c.get.result c.get.ensures.lookup.0 c.get.ensures.lookup.1
    ∙ ap (slice_get c.handles.result.now) c.from.ensures
    ∙ ap (λ (xs : List ℕ). slice_get xs c.args.at) c.handles.ensures.value
    ∙ subst (λ (x : BookSeen). slice_get (handles_at s nsid) c.args.at ≡ slice_get (handles_of (state_in x) nsid) c.args.at) c.self.view_is (ap (λ (xs : List ℕ). slice_get xs c.args.at) (sym (handles-said b.config (point_in b) s c.self.invariant.held.outline_is nsid)))
