use Rattle.std.proofs.Common.{◌∙◌, ℕ, Bool, List, Option, ap, length}
use Rattle.std.specs.Prelude.{◌&&◌, nat_lt, unwrap_or}
use Rattle.std.proofs.lemmas.Bool.{lt-ltb}
use Rattle.fdp_book.specs.Book.{point_in}
use Rattle.fdp_book.proofs.Making.Accepted.{IsCreatable, chosen-few, creatable}
use Rattle.fdp_book.proofs.Making.Limits.{within-most}
use Rattle.fdp_records.specs.declared.change.Change.TheVariants as changes
use Rattle.fdp_records.specs.Limits.{is_within, is_within_limits}
use Rattle.fdp_rules.specs.Effect.{chosen_handles, lowest_free}
use Rattle.fdp_book.proofs.changes.created.created_change.Goals as goal

pub returns-clause-change : goal.returns-clause-change
returns-clause-change c =
    let x = c.args.create.now in
    ap (λ (n : ℕ). changes.Create n x.size c.is_given.result c.args.handles.now) (c.unwrap_or.ensures ∙ ap (λ (o : Option ℕ). unwrap_or o 0) c.lowest_free.ensures)
    ∙ ap (λ (b : Bool). changes.Create (unwrap_or (lowest_free (point_in c.args.book.now).state) 0) x.size b c.args.handles.now) c.is_given.ensures
    ∙ ap (λ (xs : List ℕ). changes.Create (unwrap_or (lowest_free (point_in c.args.book.now).state) 0) x.size (x.given && nat_lt 0 (length x.list)) xs) c.requires.handles

pub returns-clause-limits : goal.returns-clause-limits
unfolding is_within_limits
returns-clause-limits c =
    let b = c.args.book.now in
    let x = c.args.create.now in
    let good : IsCreatable (point_in b).state x = creatable b.config (point_in b) x c.known.ensures.config c.known.ensures.orderly.state c.requires.can.accepted in
    let few = chosen-few x.list good.few in
    ap (λ (t : Bool). t && is_within 1 16 (length c.args.handles.now)) (lt-ltb 0 x.size good.size)
    ∙ ap (λ (xs : List ℕ). is_within 1 16 (length xs)) c.requires.handles
    ∙ within-most 16 (length (chosen_handles x.list)) few.0 few.1
