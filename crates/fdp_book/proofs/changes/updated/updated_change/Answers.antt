use Rattle.std.proofs.Common.{◌≡◌, ◌∙◌, ℕ, ◌^◌, ◌≤◌, Bool, List, ap, length, subst, sym}
use Rattle.std.specs.Prelude.{◌&&◌, nat_lt}
use Rattle.std.proofs.lemmas.Bool.{lt-ltb}
use Rattle.fdp_book.specs.Book.{point_in}
use Rattle.fdp_book.proofs.Making.Accepted.{few-pids}
use Rattle.fdp_book.proofs.Making.Marking.{unmarked}
use Rattle.fdp_book.proofs.Making.Limits.{within-most}
use Rattle.fdp_readings.specs.Changes.{TellsClosed}
use Rattle.fdp_records.specs.declared.change.Change.TheVariants as changes
use Rattle.fdp_records.specs.Limits.{is_within, is_within_limits}
use Rattle.fdp_book.proofs.changes.updated.updated_change.Goals as goal

pub closed_by-closed-requires : goal.closed_by-closed-requires
closed_by-closed-requires c =
    let b = c.args.book.now in
    subst (λ (xs : List ℕ). length xs ≤ 64) (sym c.as_slice-pids.ensures) (few-pids b.config (point_in b) c.args.update.now c.requires.accepted)

pub returns-clause-change : goal.returns-clause-change
returns-clause-change c =
    let b = c.args.book.now in
    let s = (point_in b).state in
    let u = c.args.update.now in
    let closed = c.closed_by-closed.result in
    record {
      closed = closed;
      tells = subst (λ (xs : List ℕ). TellsClosed b.config s u.nsid closed 0 s.references xs) c.as_slice-pids.ensures (c.closed_by-closed.ensures.tells s.references (unmarked b.config s 256));
      change_is = ap (changes.Update u.nsid closed) c.as_slice-pids.ensures;
    }

pub returns-clause-limits : goal.returns-clause-limits
unfolding is_within_limits
returns-clause-limits c =
    let b = c.args.book.now in
    let u = c.args.update.now in
    let pids = c.as_slice-pids.result.now in
    let all : length pids ≡ length u.pids = ap length c.as_slice-pids.ensures in
    let few : length u.pids ≤ 64 = few-pids b.config (point_in b) u c.requires.accepted in
    ap (λ (t : Bool). t && nat_lt c.closed_by-closed.result (2 ^ length pids)) (ap (is_within 1 64) all ∙ within-most 64 (length u.pids) c.requires.formed.0 few)
    ∙ lt-ltb c.closed_by-closed.result (2 ^ length pids) c.closed_by-closed.ensures.bound
