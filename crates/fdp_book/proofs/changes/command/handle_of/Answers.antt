use Rattle.std.proofs.Common.{◌∙◌, ℕ, Option, ap}
use Rattle.std.specs.Prelude.{unwrap_or}
use Rattle.fdp_book.specs.Book.{state_in}
use Rattle.fdp_book.proofs.Making.Accepted.{index-or-none}
use Rattle.fdp_rules.specs.Room.{handles_of}
use Rattle.fdp_book.proofs.changes.command.handle_of.Goals as goal

pub returns : goal.returns
returns c = c.unwrap_or.ensures ∙ ap (λ (o : Option ℕ). unwrap_or o 0) c.handle.ensures ∙ index-or-none (handles_of (state_in c.args.book.now) c.args.nsid) c.args.handle
