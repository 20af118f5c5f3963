use Rattle.std.proofs.Common.{◌∙◌, Bool, ap}
use Rattle.fdp_durability.specs.Saved.{firm_renewed}
use Rattle.fdp_keeper.proofs.Parts.{can-give, kept-settled}
use Rattle.fdp_keeper.proofs.keeper.Keeper.settle.Goals as goal

pub settle-wrote-requires : goal.settle-wrote-requires
settle-wrote-requires g c = can-give c.args.book.now c.args.self.now c.self.inside.saver c.self.inside.firm (g.F.Flash.state c.args.flash.now) c.self.view_is c.requires

pub returns : goal.returns
returns g c = kept-settled c.args.book.now c.args.self.now c.self.inside.saver c.settle-wrote.new.saver c.self.inside.firm c.firm_renewed-self-inside.result (g.F.Flash.state c.args.flash.now) (g.F.Flash.state c.settle-wrote.new.flash) c.settle-wrote.result c.self.view_is c.requires c.settle-wrote.ensures.saves c.settle-wrote.ensures.geometry (c.firm_renewed-self-inside.ensures ∙ ap (λ (b : Bool). firm_renewed b c.args.book.now.entries c.self.inside.firm c.settle-wrote.result) c.is_in_doubt-wanted.ensures)
