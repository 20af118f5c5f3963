use Rattle.std.proofs.Common.{ap, length, sym}
use Rattle.fdp_keeper.proofs.Parts.{can-give, kept-entry}
use Rattle.fdp_keeper.proofs.keeper.Keeper.save.Goals as goal

pub save-saved-requires-clause-given : goal.save-saved-requires-clause-given
save-saved-requires-clause-given g c = can-give c.args.book.now c.args.self.now c.self.inside.saver c.self.inside.firm (g.F.Flash.state c.args.flash.now) c.self.view_is c.requires.can

pub returns : goal.returns
returns g c e moved is =
    kept-entry c.args.book.now e c.args.self.now c.self.inside.saver c.save-saved.new.saver c.self.inside.firm c.firm_saved-self-inside.result (g.F.Flash.state c.args.flash.now) (g.F.Flash.state c.save-saved.new.flash) c.save-saved.result c.self.view_is (c.save-saved.ensures.saves e moved is) c.save-saved.ensures.geometry (c.firm_saved-self-inside.ensures c.args.book.now.entries e (ap length (sym c.entries.ensures.entries)))
