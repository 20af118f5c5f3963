use Rattle.std.proofs.Common.{◌∙◌, ap, refl, sym, ℕ, List, length}
use Rattle.fdp_book.specs.Book.{point_in}
use Rattle.fdp_book.specs.Held.{book_of}
use Rattle.fdp_book.proofs.Looking.{outline-in}
use Rattle.fdp_book.proofs.Outlining.{handles-said}
use Rattle.fdp_book.proofs.book.lookups.BookDrive.handle_count.Goals as goal

pub returns : goal.returns
returns c =
    ap (λ (xs : List ℕ). length xs)
    (c.handles.ensures.value
    ∙ sym
    (handles-said c.args.self.now.config (point_in c.args.self.now) c.self.inside.tables.outline
    (outline-in (book_of c.self.inside.config c.self.inside.origin c.self.inside.log c.self.inside.tables) c.args.self.now c.self.inside.tables.outline c.self.inside.tables.outline c.self.view_is refl c.self.invariant.held.outline_is)
    c.args.nsid))
