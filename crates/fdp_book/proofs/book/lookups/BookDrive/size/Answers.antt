use Rattle.std.proofs.Common.{◌∙◌, ap, refl, sym}
use Rattle.std.specs.Prelude.{option_map}
use Rattle.fdp_book.specs.Book.{point_in}
use Rattle.fdp_book.specs.Held.{book_of}
use Rattle.fdp_book.proofs.Looking.{outline-in}
use Rattle.fdp_book.proofs.Outlining.{namespaces-said}
use Rattle.fdp_rules.specs.PlainState.{Namespace}
use Rattle.fdp_book.proofs.book.lookups.BookDrive.size.Goals as goal

pub returns : goal.returns
returns c =
    c.size.ensures
    ∙ ap (option_map (λ (x : Namespace). x.size))
    (sym
    (namespaces-said c.args.self.now.config (point_in c.args.self.now) c.self.inside.tables.outline
    (outline-in (book_of c.self.inside.config c.self.inside.origin c.self.inside.log c.self.inside.tables) c.args.self.now c.self.inside.tables.outline c.self.inside.tables.outline c.self.view_is refl c.self.invariant.held.outline_is)
    c.args.nsid))
