use Rattle.std.proofs.Common.{length}
use Rattle.fdp_flash.proofs.memory.pages.program_page.Goals as goal

pub returns-in-Fails-Torn-clause-blocks : goal.returns-in-Fails-Torn-clause-blocks
returns-in-Fails-Torn-clause-blocks c = c.clear.ensures.blocks (length c.args.bytes.now) c.requires.blocks

pub returns-in-Fails-Blank-clause-blocks : goal.returns-in-Fails-Blank-clause-blocks
returns-in-Fails-Blank-clause-blocks c = c.clear-in-Fails-Blank.ensures.blocks (length c.args.bytes.now) c.requires.blocks
