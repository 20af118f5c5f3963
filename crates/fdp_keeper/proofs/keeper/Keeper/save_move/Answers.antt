use Rattle.std.proofs.Common.{ap, length, sym}
use Rattle.fdp_base.specs.declared.entry.Entry.TheVariants as entries
use Rattle.fdp_book.specs.Book.{point_in}
use Rattle.fdp_rules.specs.Sites.{moved_blocks}
use Rattle.fdp_keeper.proofs.Parts.{can-give, kept-entry}
use Rattle.fdp_keeper.proofs.keeper.Keeper.save_move.Goals as goal

pub save_move-saved-requires-clause-can : goal.save_move-saved-requires-clause-can
save_move-saved-requires-clause-can g c = can-give c.args.book.now c.args.self.now c.self.inside.saver c.self.inside.firm (g.F.Flash.state c.args.flash.now) c.self.view_is c.requires.can

pub returns-in-Some-clause-some : goal.returns-in-Some-clause-some
returns-in-Some-clause-some g c _ =
    let b = c.args.book.now in
    let entry = entries.Moved (record { rg = c.args.rg; blocks = moved_blocks (point_in b) c.args.rg }) in
    kept-entry b entry c.args.self.now c.self.inside.saver c.save_move-saved.new.saver c.self.inside.firm c.firm_saved-self-inside.result (g.F.Flash.state c.args.flash.now) (g.F.Flash.state c.save_move-saved.new.flash) c.in-Some.saved c.self.view_is c.in-Some.ensures.some.1 c.in-Some.ensures.geometry
    (c.firm_saved-self-inside.ensures b.entries entry (ap length (sym c.entries-entries.ensures.entries)))
