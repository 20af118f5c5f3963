-- A drive that began with room leaves a roomy image as long as no call failed: its cells, and whatever a stop leaves of a step.
use Rattle.std.proofs.Common.{◌≡◌, ℕ, ◌≤◌, Bool, true, false, List, [], ◌∷◌, refl, sym, arith}
use Rattle.std.specs.Prelude.{IsTrue}
use Rattle.fdp_base.specs.declared.entry.Entry.{Entry}
use Rattle.fdp_base.specs.declared.entry.Spot.{Spot}
use Rattle.fdp_base.specs.Counts.{Rose}
use Rattle.fdp_calls.specs.Media.{IsReadFrom}
use Rattle.fdp_core.specs.Sound.{IsKept, IsWhole}
use Rattle.fdp_flash.specs.declared.answer.Wrote.{Wrote}
use Rattle.fdp_flash.specs.Cells.{ProgramMayLeave}
use Rattle.fdp_flash.specs.FlashState.{FlashState}
use Rattle.fdp_flash.specs.Runs.{Runs}
use Rattle.fdp_flash.proofs.Runs.{no_run}
use Rattle.fdp_loading.specs.fdp_isolation.Laned.{IsKnown}
use Rattle.fdp_loading.specs.fdp_ledger.declared.counts.Counts.{Counts}
use Rattle.fdp_loading.proofs.fdp_ledger.Placed.{next-blank}
use Rattle.fdp_relocation.specs.fdp_book.declared.ticket.Ticket.{Ticket}
use Rattle.fdp_relocation.specs.fdp_book.Book.{BookSeen, IsLonger}
use Rattle.fdp_relocation.specs.fdp_book.Tickets.{IsNextSpot}
use Rattle.fdp_relocation.specs.fdp_durability.Saved.{SavesDrive, SavesEntries}
use Rattle.fdp_relocation.specs.fdp_journal.JournalState.{JournalState}
use Rattle.fdp_relocation.specs.fdp_keeper.Keeper.{KeeperSeen}
use Rattle.fdp_relocation.specs.fdp_saving.declared.saved.Saved.{Saved}
use Rattle.fdp_rules.specs.PlainState.{Going}
use Rattle.fdp_rules.specs.Step.{Follows, IsPage}
use Rattle.fdp_roominess.specs.Run.{BeganRoomy, IsRoomyImage, KeepsRoom, StaysRoomy}
use Rattle.fdp_roominess.proofs.Images.{durable-roomy, roomy-checkpoint, roomy-program, roomy-read, roomy-saving}
use Rattle.fdp_roominess.proofs.Runs.{began-later}

-- nothing is in doubt while no call failed
pub never-doubt : (handed : Counts) (f : FlashState) (b : BookSeen) (k : KeeperSeen) → IsKept handed f b k → (Rose handed.faults f.faults → ⊥) → k.saver.in_doubt ≡ false
never-doubt handed f b k kept well = by k.saver.in_doubt refl where
  by : (doubt : Bool) → k.saver.in_doubt ≡ doubt → k.saver.in_doubt ≡ false
  by true e = absurd (well (kept.doubt e))
  by false e = e

-- the cells are a roomy image
pub whole-roomy : (handed : Counts) (f : FlashState) (b : BookSeen) (k : KeeperSeen) (block : List ℕ) → IsKnown b → IsWhole handed f b k block → IsTrue f.told → StaysRoomy handed.faults f.faults f.told b f.cells
whole-roomy handed f b k block known whole told began well =
    durable-roomy b known (whole.sound.room.room began well) k.saver k.firm b.pages.units (sym whole.kept.safe.at.cut) (never-doubt handed f b k whole.kept well) f.cells (whole.kept.safe.at.durable told)

-- ---- whatever a stop leaves of calls

-- so it is where no fault was counted to the end of them
abbrev pub LeftRoomy : Counts → FlashState → FlashState → BookSeen → Type 0
LeftRoomy handed f n b = BeganRoomy f.told b → (Rose handed.faults n.faults → ⊥) → Runs f n (λ m image. IsRoomyImage b.config image)

-- no call
pub leaves-uncalled : (handed : Counts) (f : FlashState) (b : BookSeen) → LeftRoomy handed f f b
leaves-uncalled handed f b began well = no_run f (λ m image. IsRoomyImage b.config image)

-- a call failed
pub leaves-failed : (handed : Counts) (f n : FlashState) (b : BookSeen) → handed.faults ≤ f.faults → Rose f.faults n.faults → LeftRoomy handed f n b
leaves-failed handed f n b low rose began well = absurd (well (omega (arith, low, rose)))

-- where the next page of a write goes
placed-page : (b : BookSeen) (ticket : Ticket) (g : Going) (spot : Spot) → IsNextSpot b ticket g spot → IsPage b.config spot
unfolding Follows
placed-page b ticket g spot goes = (goes.follows true).spot

module _ (handed : Counts) (f n : FlashState) (b : BookSeen) (k : KeeperSeen) (block : List ℕ) (known : IsKnown b) (whole : IsWhole handed f b k block) (up : f.faults ≤ n.faults) where
  early : (Rose handed.faults n.faults → ⊥) → Rose handed.faults f.faults → ⊥
  early well rose = well (omega (arith, rose, up))

  -- calls that only read
  pub leaves-read : IsReadFrom f n → LeftRoomy handed f n b
  leaves-read read began well =
      roomy-read b known (whole.sound.room.room began (early well)) k.saver k.firm b.pages.units (sym whole.kept.safe.at.cut) (never-doubt handed f b k whole.kept (early well)) f n whole.kept.safe.at.sealed whole.kept.safe.at.durable read.stops

  -- the program of the next page of a write
  pub leaves-program : (ticket : Ticket) (g : Going) (spot : Spot) (spare bytes : List ℕ) → IsNextSpot b ticket g spot → Runs f n (λ m image. ProgramMayLeave f.geometry f.cells spot spare bytes image) → LeftRoomy handed f n b
  leaves-program ticket g spot spare bytes goes run began well =
      let page = placed-page b ticket g spot goes in
      roomy-program b known (whole.sound.room.room began (early well)) k.saver k.firm b.pages.units (sym whole.kept.safe.at.cut) (never-doubt handed f b k whole.kept (early well)) f n whole.kept.safe.at.sealed whole.kept.safe.at.durable
      spot spare bytes whole.sound.geometry (record { unit = page.0; page = page.1 }) (next-blank b f ticket g spot known.joined known.units whole.sound.geometry whole.sound.stored goes) run

  -- a checkpoint of the drive
  pub leaves-checkpoint : (s : JournalState) (answer : Wrote) → SavesDrive b.config b.found b.entries k.saver s f n answer → LeftRoomy handed f n b
  leaves-checkpoint s answer saved began well =
      roomy-checkpoint b known (whole.sound.room.room began (early well)) k.saver k.firm b.pages.units (sym whole.kept.safe.at.cut) (never-doubt handed f b k whole.kept (early well)) f n whole.kept.safe.at.sealed whole.kept.safe.at.durable s answer saved

  -- an entry that is saved
  pub leaves-saving : (e : Entry) (d : BookSeen) → IsKnown d → KeepsRoom handed.faults n.faults n.told d → n.told ≡ f.told → IsLonger b d (e ∷ []) → (s : JournalState) (answer : Saved) → SavesEntries b.config b.found b.entries (e ∷ []) k.saver s f n answer → LeftRoomy handed f n b
  leaves-saving e d then_known then_room told longer s answer saved began well =
      roomy-saving b known (whole.sound.room.room began (early well)) k.saver k.firm b.pages.units (sym whole.kept.safe.at.cut) (never-doubt handed f b k whole.kept (early well)) f n whole.kept.safe.at.sealed whole.kept.safe.at.durable
      e d then_known (then_room.room (began-later f.told n.told b d (e ∷ []) told longer began) well) longer s answer saved
