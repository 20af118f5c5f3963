use Rattle.fdp_keeper.proofs.Parts.{can-give, kept-drive}
use Rattle.fdp_keeper.proofs.keeper.Keeper.checkpoint.Goals as goal

pub checkpoint-wrote-requires : goal.checkpoint-wrote-requires
checkpoint-wrote-requires g c = can-give c.args.book.now c.args.self.now c.self.inside.saver c.self.inside.firm (g.F.Flash.state c.args.flash.now) c.self.view_is c.requires

pub returns : goal.returns
returns g c = kept-drive c.args.book.now c.args.self.now c.self.inside.saver c.checkpoint-wrote.new.saver c.self.inside.firm c.firm_renewed-self-inside.result (g.F.Flash.state c.args.flash.now) (g.F.Flash.state c.checkpoint-wrote.new.flash) c.checkpoint-wrote.result c.self.view_is c.requires c.checkpoint-wrote.ensures.saves c.checkpoint-wrote.ensures.geometry c.firm_renewed-self-inside.ensures
