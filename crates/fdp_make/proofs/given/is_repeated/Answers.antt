use Rattle.std.proofs.Common.{◌-◌, drop, length, refl, sym, arith, ◌∙◌}
use Rattle.std.proofs.lemmas.List.{length-drop, take_all}
use Rattle.fdp_make.proofs.Repeats.{no_times, other_length, other_start, same_start}
use Rattle.fdp_make.proofs.given.is_repeated.Goals as goal

pub returns-then-bytes-times : goal.returns-then-bytes-times
returns-then-bytes-times c = other_length c.args.word.now (omega arith) c.args.times c.args.bytes.now c.if-bytes-times.true

pub returns-then-times-eq0 : goal.returns-then-times-eq0
returns-then-times-eq0 c = no_times c.args.word.now (omega arith) c.args.times c.args.bytes.now c.if-bytes-times.false c.if-times-eq0.true

pub returns-then-is_same : goal.returns-then-is_same
returns-then-is_same c =
    let bytes = c.args.bytes.now in
    let rest = take_all (length bytes - 4) (drop 4 bytes) (omega (arith, length-drop 4 bytes)) in
    c.is_same-then-is_same.ensures
    ∙ same_start c.args.word.now (omega arith) c.args.times bytes _ _ _ c.if-bytes-times.false c.if-times-eq0.false refl (sym c.is_same.ensures ∙ c.if-is_same.true) rest refl

pub returns-else-is_same : goal.returns-else-is_same
returns-else-is_same c =
    c.if-is_same.false ∙ other_start c.args.word.now (omega arith) c.args.times c.args.bytes.now _ c.if-times-eq0.false refl (sym c.is_same.ensures ∙ c.if-is_same.false)
