use Rattle.std.proofs.Common.{rules, ◌≡◌, ◌∙◌, ap, length}
use Rattle.fdp_records.specs.Bytes.{laid}
use Rattle.fdp_snapshot.specs.Fixed.{fixed_of, head_pieces, key_pieces, list_pieces}
use Rattle.fdp_snapshot.specs.Rows.{zeros}
use Rattle.fdp_snapshot.proofs.encode.put_fixed.Goals as goal

pub returns-clause-bytes : goal.returns-clause-bytes
unfolding fixed_of
returns-clause-bytes c =
    let s = c.args.summary.now in
    let filled : c.fill.new.self ≡ zeros (length c.args.into.now) = search rules in
    let whole = filled ∙ ap zeros c.requires.room in
    c.put_lists.ensures.bytes ∙ ap (laid (list_pieces s)) (c.put_keys.ensures.bytes ∙ ap (laid (key_pieces s.keys)) (c.put_head.ensures.bytes ∙ ap (laid (head_pieces c.args.version s)) whole))
