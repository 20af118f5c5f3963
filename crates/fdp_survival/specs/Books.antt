-- What a stop cannot lose of a drive with its book, and what it leaves of isolation.
use Rattle.std.specs.Prelude.{ℕ, IsTrue}
use Rattle.fdp_isolation.specs.fdp_book.Book.{BookSeen, point_in, state_in}
use Rattle.fdp_flash.specs.FlashState.{FlashState}
use Rattle.fdp_flash.specs.Runs.{Runs}
use Rattle.fdp_history.specs.Listed.{IsListed}
use Rattle.fdp_history.specs.Standing.{IsStanding}
use Rattle.fdp_isolation.specs.Begun.{OpenedApart}
use Rattle.fdp_isolation.specs.Isolated.{IsIsolatedDrive}
use Rattle.fdp_isolation.specs.Apart.{AreApart}
use Rattle.fdp_isolation.specs.Laned.{IsKnown}
use Rattle.fdp_durability.specs.fdp_journal.JournalState.{JournalState}
use Rattle.fdp_survival.specs.Safe.{IsSafeApart, IsSafeImage}

-- a book is in order, its blocks stand, and the handles of its namespaces are listed
pub record IsInOrder (b : BookSeen) : Type 0 where
  pub known : IsKnown b
  pub standing : IsStanding b.config (point_in b)
  pub listed : IsListed b.config (state_in b)

-- where the cells are told, and kept the data apart when the run began, data stands apart in them, and what had been used then is left alone
abbrev pub KeepsApart : FlashState → BookSeen → Type 0
KeepsApart flash b = IsTrue flash.told → OpenedApart b.config b.found b.opened → AreApart b flash.cells

-- and there it is isolated by the history of a book
abbrev pub KeepsIsolated : FlashState → BookSeen → Type 0
KeepsIsolated flash b = IsTrue flash.told → OpenedApart b.config b.found b.opened → IsIsolatedDrive b.config (point_in b) b.entries flash.cells

-- so many entries of a book are firm, and no stop loses one; and what the areas say is isolated
abbrev pub IsSafe : BookSeen → JournalState → ℕ → FlashState → Type 0
IsSafe b s firm flash = IsSafeApart b.config b.found b.opened b.entries b.pages.units s firm flash

-- whatever a stop leaves within some calls stands for a beginning of the history of a book with at least so many entries, and data stands apart
-- in it by a beginning with at least so many
abbrev pub Survives : BookSeen → ℕ → ℕ → FlashState → FlashState → Type 0
Survives b firm from old now = Runs old now (λ m image. IsSafeImage b.config b.found b.opened b.entries firm from image)
