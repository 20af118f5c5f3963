use Rattle.std.proofs.Common.{sym}
use Rattle.fdp_book.specs.Book.{point_in}
use Rattle.fdp_book.proofs.Outlining.{enabled-said}
use Rattle.fdp_book.proofs.book.lookups.BookDrive.is_enabled.Goals as goal

pub returns : goal.returns
returns c = sym (enabled-said c.args.self.now.config (point_in c.args.self.now) c.summary.result.now c.summary.ensures.outline)
