-- What saves a drive, as contracts see it, and what a saving makes of it.
use Rattle.std.specs.Prelude.{◌≡◌, ℕ, ◌+◌, ◌<◌, ◌^◌, IsTrue, [], ◌∷◌, true}
use Rattle.fdp_base.specs.declared.entry.Entry.{Entry}
use Rattle.fdp_base.specs.Placement.{geometry_of}
use Rattle.fdp_book.specs.Book.{BookSeen}
use Rattle.fdp_durability.specs.Saved.{SavesDrive, SavesEntries, SettlesDrive, firm_renewed, firm_with}
use Rattle.fdp_durability.specs.fdp_journal.JournalState.{JournalState}
use Rattle.fdp_durability.specs.fdp_saving.declared.saved.Saved.{Saved}
use Rattle.fdp_durability.specs.fdp_saving.Saver.{IsSaverIn}
use Rattle.fdp_flash.specs.declared.answer.Wrote.{Wrote}
use Rattle.fdp_flash.specs.FlashState.{FlashState}

-- the saver of the system areas, and how many entries are firm
pub record KeeperSeen : Type 0 where
  pub saver : JournalState
  pub firm : ℕ

-- the saver is that of a flash which is cut as the configuration of a book asks
pub record IsKeeperOf (b : BookSeen) (k : KeeperSeen) : Type 0 where
  pub geometry : k.saver.geometry ≡ geometry_of b.config

-- what is known before a saving: it is that of the drive of the book and of the flash, and another epoch has room
pub record CanSave (b : BookSeen) (k : KeeperSeen) (state : FlashState) : Type 0 where
  pub keeper : IsKeeperOf b k
  pub geometry : state.geometry ≡ geometry_of b.config
  pub epoch : k.saver.stamp.epoch + 1 < 2 ^ 64
  pub saver : IsTrue state.told → IsSaverIn state.cells k.saver

-- An entry was saved, with this answer.
pub record KeepsEntry (b : BookSeen) (e : Entry) (old now : KeeperSeen) (before after : FlashState) (answer : Saved) : Type 0 where
  pub saves : SavesEntries b.config b.found b.entries (e ∷ []) old.saver now.saver before after answer
  pub geometry : now.saver.geometry ≡ old.saver.geometry
  pub firm_is : now.firm ≡ firm_with b.entries (e ∷ []) old.firm answer

-- The drive was saved whole, with this answer; it is kept as before.
pub record KeepsDrive (b : BookSeen) (old now : KeeperSeen) (before after : FlashState) (answer : Wrote) : Type 0 where
  pub saves : SavesDrive b.config b.found b.entries old.saver now.saver before after answer
  pub keeper : IsKeeperOf b now
  pub firm_is : now.firm ≡ firm_renewed true b.entries old.firm answer

-- A doubt was settled, with this answer.
pub record KeepsSettled (b : BookSeen) (old now : KeeperSeen) (before after : FlashState) (answer : Wrote) : Type 0 where
  pub saves : SettlesDrive b.config b.found b.entries old.saver now.saver before after answer
  pub keeper : IsKeeperOf b now
  pub firm_is : now.firm ≡ firm_renewed old.saver.in_doubt b.entries old.firm answer

-- what is known of a saver before a saving
pub record CanGive (b : BookSeen) (saver : JournalState) (state : FlashState) : Type 0 where
  pub of_drive : saver.geometry ≡ geometry_of b.config
  pub geometry : state.geometry ≡ geometry_of b.config
  pub epoch : saver.stamp.epoch + 1 < 2 ^ 64
  pub stands : IsTrue state.told → IsSaverIn state.cells saver
