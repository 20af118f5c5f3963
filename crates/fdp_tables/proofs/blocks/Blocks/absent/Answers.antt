use Rattle.fdp_tables.proofs.Lying.{absent_counted}
use Rattle.fdp_tables.proofs.Naming.{absent_named}
use Rattle.fdp_tables.proofs.blocks.Blocks.absent.Goals as goal

pub invariant_of-result : goal.invariant_of-result
invariant_of-result c = (absent_counted c.in_ok-absent.field-0 c.args.size c.in_ok-absent.ensures, absent_named c.new.result c.new-2.result c.in_ok-absent.field-0 c.args.size c.in_ok-absent.ensures)
