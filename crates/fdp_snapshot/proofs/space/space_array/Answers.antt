use Rattle.std.proofs.Common.{rules, ◌≡◌, ◌∙◌, ap, sym, subst, take, Some}
use Rattle.std.proofs.lemmas.List.{take_all}
use Rattle.fdp_records.specs.Bytes.{laid}
use Rattle.fdp_snapshot.specs.Rows.{IsSpaceRow, space_bytes, space_pieces, zeros}
use Rattle.fdp_snapshot.proofs.space.space_array.Goals as goal

pub returns-in-Some-clause-value : goal.returns-in-Some-clause-value
unfolding space_bytes
returns-in-Some-clause-value c =
    let x = c.in-Some.space in
    let is : IsSpaceRow (Some x) = subst IsSpaceRow c.in-Some.is c.requires in
    let full : take 16 x.handles ≡ x.handles = take_all 16 x.handles is.handles in
    let spelled : c.put-in-Some-4.new.into ≡ laid (space_pieces x) (zeros 40) = search (rules, full) in
    spelled ∙ sym (ap space_bytes c.in-Some.is)
