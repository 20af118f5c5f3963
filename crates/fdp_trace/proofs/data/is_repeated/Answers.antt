use Rattle.std.proofs.Common.{◌-◌, drop, length, refl, arith, ◌∙◌}
use Rattle.std.proofs.lemmas.List.{length-drop, take_all}
use Rattle.fdp_trace.proofs.Repeats.{is_none, is_shifted, is_uneven}
use Rattle.fdp_trace.proofs.data.is_repeated.Goals as goal

pub returns-then-bytes-lt4 : goal.returns-then-bytes-lt4
returns-then-bytes-lt4 c = c.is_empty.ensures ∙ is_none c.args.bytes.now c.if-bytes-lt4.true

pub returns-then-bytes-ne0 : goal.returns-then-bytes-ne0
returns-then-bytes-ne0 c = is_uneven c.args.bytes.now c.if-bytes-lt4.false c.if-bytes-ne0.true

pub returns : goal.returns
returns c =
    let bytes = c.args.bytes.now in
    let rest = take_all (length bytes - 4) (drop 4 bytes) (omega (arith, length-drop 4 bytes)) in
    c.is_same.ensures ∙ is_shifted bytes _ _ c.if-bytes-lt4.false c.if-bytes-ne0.false rest refl
