use Rattle.std.proofs.Common.{◌∙◌, sym}
use Rattle.fdp_units.proofs.States.{turned-free, turned-sound}
use Rattle.fdp_units.proofs.data_unit.DataUnit.turned.Goals as goal

pub returns-then-is_free-clause-sound : goal.returns-then-is_free-clause-sound
returns-then-is_free-clause-sound c = turned-free c.args.unit_pages c.args.self c.args.to c.requires.sound c.requires.may (sym c.is_free.ensures ∙ c.if-is_free.true)

pub returns-else-is_free-2-clause-sound : goal.returns-else-is_free-2-clause-sound
returns-else-is_free-2-clause-sound c = turned-sound c.args.unit_pages c.args.self c.args.to c.requires.sound c.requires.may (sym c.is_free.ensures ∙ c.if-is_free.false)
