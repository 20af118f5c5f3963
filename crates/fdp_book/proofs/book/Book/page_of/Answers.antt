use Rattle.std.proofs.Common.{◌≡◌, ◌∙◌, ap, sym, subst, Some, None}
use Rattle.fdp_base.specs.Spare.{data_spare}
use Rattle.fdp_owners.specs.declared.owner.Owner.{Owner}
use Rattle.fdp_book.specs.Book.{BookSeen, state_in}
use Rattle.fdp_book.specs.Held.{book_of}
use Rattle.fdp_book.specs.Reading.{StandsAt}
use Rattle.fdp_book.proofs.Reading.{own-page, stands-at}
use Rattle.fdp_book.proofs.book.Book.page_of.Goals as goal

pub owner-requires : goal.owner-requires
owner-requires c =
    let old = c.self.inside in
    let b : BookSeen = book_of old.config old.origin old.log old.tables in
    (own-page b old.tables c.args.nsid c.args.lba c.in-Some.mapped c.self.invariant.held c.joined.ensures (sym c.get.ensures.value ∙ c.in-Some.is)).place

pub unreachable-requires : goal.unreachable-requires
unreachable-requires c =
    let old = c.self.inside in
    let b : BookSeen = book_of old.config old.origin old.log old.tables in
    let own = own-page b old.tables c.args.nsid c.args.lba c.in-Some.mapped c.self.invariant.held c.joined.ensures (sym c.get.ensures.value ∙ c.in-Some.is) in
    let both : Some own.owner ≡ None = sym own.is_owner ∙ sym c.owner.ensures ∙ c.in-None-owner.is in
    absurd cc

pub returns-in-Some-owner : goal.returns-in-Some-owner
returns-in-Some-owner c =
    let old = c.self.inside in
    let b : BookSeen = book_of old.config old.origin old.log old.tables in
    let own = own-page b old.tables c.args.nsid c.args.lba c.in-Some.mapped c.self.invariant.held c.joined.ensures (sym c.get.ensures.value ∙ c.in-Some.is) in
    let both : Some own.owner ≡ Some c.in-Some-owner.owner = sym own.is_owner ∙ sym c.owner.ensures ∙ c.in-Some-owner.is in
    let same : own.owner ≡ c.in-Some-owner.owner = cc in
    subst (λ (x : BookSeen). StandsAt x ((state_in x).blocks c.args.nsid c.args.lba) (Some (record { spot = c.in-Some.mapped.spot; spare = c.encode.result }))) c.self.view_is
    (stands-at b old.tables c.args.nsid c.args.lba c.in-Some.mapped c.encode.result c.self.invariant.held own (ap (λ (x : Owner). data_spare x.spare) same ∙ sym c.encode.ensures))
