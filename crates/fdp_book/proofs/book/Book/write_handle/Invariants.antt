use Rattle.fdp_book.specs.Book.{state_in}
use Rattle.fdp_book.proofs.Answering.{ArePut}
use Rattle.fdp_rules.specs.LogPages.{status_descriptor}
use Rattle.fdp_book.proofs.book.Book.write_handle.Given as goal

abbrev pub invariant-loop-rg : goal.invariant-loop-rg
invariant-loop-rg l = ArePut (status_descriptor l.self.config (state_in l.self) l.handle l.ruh) 32 l.self.config.groups l.rg l.fn.into l.into l.at l.end
