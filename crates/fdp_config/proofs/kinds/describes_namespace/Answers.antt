use Rattle.std.proofs.Common.{◌∙◌, arith}
use Rattle.fdp_config.proofs.Passing.{list_all-words}
use Rattle.fdp_config.specs.Kinds.{is_namespace_key}
use Rattle.fdp_config.proofs.kinds.describes_namespace.Goals as goal
use Rattle.fdp_config.proofs.kinds.describes_namespace.Goals.{then-each_is_namespace_key, else-each_is_namespace_key}

pub returns-then-has_blocks : goal.returns-then-has_blocks
returns-then-has_blocks c =
    let known = c.each_is_namespace_key.ensures ∙ list_all-words is_namespace_key c.args.table.now.entries in
    elim c.if-each_is_namespace_key.branch [ then-each_is_namespace_key w ↦ grind (arith, known) | else-each_is_namespace_key w ↦ grind (arith, known) ]

pub returns-else-has_blocks : goal.returns-else-has_blocks
returns-else-has_blocks c =
    let known = c.each_is_namespace_key.ensures ∙ list_all-words is_namespace_key c.args.table.now.entries in
    elim c.if-each_is_namespace_key.branch [ then-each_is_namespace_key w ↦ grind (arith, known) | else-each_is_namespace_key w ↦ grind (arith, known) ]
