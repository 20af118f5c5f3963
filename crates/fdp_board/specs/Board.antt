-- A drive with its teller, as contracts see it, and the record that it keeps.
use Rattle.std.specs.Prelude.{◌≡◌, ℕ, ◌-◌, ◌<◌, ◌≤◌, All, Bool, false, true, IsTrue, List, [], Some, length, slice_get}
use Rattle.std.specs.Option.{option_map_or}
use mathlib.Core.List.{IsPrefix}
use Rattle.atomic_table.specs.Seated.{TableId}
use Rattle.fdp_base.specs.declared.config.DriveConfig.{DriveConfig}
use Rattle.fdp_base.specs.declared.entry.Entry.{Entry}
use Rattle.fdp_base.specs.declared.entry.Host.{Host}
use Rattle.fdp_base.specs.declared.entry.Totals.{Totals}
use Rattle.fdp_base.specs.declared.recorded.Mark.{Mark}
use Rattle.fdp_base.specs.Counts.{Rose}
use Rattle.fdp_base.specs.EntryKinds.{host_of, ServesNone}
use Rattle.fdp_base.specs.Placement.{geometry_of}
use Rattle.fdp_workers.specs.fdp_book.Book.{BookSeen}
use Rattle.fdp_workers.specs.fdp_core.Seen.{Seen}
use Rattle.fdp_flash.specs.declared.cell.Cell.{Cell}
use Rattle.fdp_flash.specs.FlashState.{Call, FlashState}
use Rattle.fdp_image.specs.Kept.{StandsForKept}
use Rattle.fdp_workers.specs.fdp_isolation.Begun.{OpenedApart}
use Rattle.fdp_workers.specs.fdp_roominess.Run.{BeganRoomy, IsRoomyImage}
use Rattle.fdp_workers.specs.fdp_survival.Apart.{IsApartBy, StandsApart}
use Rattle.fdp_workers.specs.fdp_ledger.declared.counts.Counts.{Counts}
use Rattle.fdp_workers.specs.fdp_ledger.Emptied.{OnlyErasesEmpty}
use Rattle.fdp_workers.specs.fdp_ledger.Told.{is_media_reply}
use Rattle.fdp_origin.specs.Opening.{blank}
use Rattle.fdp_rules.specs.History.{Found}
use Rattle.fdp_rules.specs.Seats.{marks_of}
use Rattle.fdp_workers.specs.Marks.{marked_of}
use Rattle.fdp_workers.specs.Run.{OpensFirst, Run}

-- the drive, the gauge of its teller, and the marks that the teller told last
pub record BoardSeen (F : Type 0) : Type 0 where
  pub group : Seen F
  pub gauge : TableId
  pub told : List Mark

-- ---- the record

-- the history of a drive, each entry with its mark
abbrev pub items_of : {F : Type 0} → Seen F → List (Entry × Mark)
items_of s = marked_of s.book.found s.book.entries

-- ---- what no turn changes

-- the configuration, what the history goes on from and the gauge; the cells when the drive was opened; what the flash had counted when it was handed
-- in; and whether it tells its cells and its images, and promises that no call fails
pub record Began : Type 0 where
  pub run : Run
  pub opened : List Cell
  pub handed : Counts
  pub told : Bool
  pub tells_images : Bool
  pub reliable : Bool

-- nothing began
abbrev pub no_beginning : Began
no_beginning = record {
  run = record {
    config = record {
      block = 0;
      unit_pages = 0;
      groups = 0;
      units = 0;
      area_units = 0;
      queues = 0;
      blocks_per_command = 0;
      fdp = [];
      enabled = false;
      index = 0;
      namespaces = [];
      queue_depth = 0;
      collectors = 0;
      turns = 0;
    };
    found = blank.found;
    gauge = record { words = 0; slots = 0; views_name = 0; atom = 0; block = 0; offset = 0; slot_names = [] };
  };
  opened = [];
  handed = record { moment = 0; faults = 0; programs = 0 };
  told = false;
  tells_images = false;
  reliable = false;
}

abbrev pub began_with : {F : Type 0} → (F → FlashState) → BoardSeen F → Began
began_with state b = record {
  run = record { config = b.group.book.config; found = b.group.book.found; gauge = b.gauge };
  opened = b.group.book.opened;
  handed = b.group.handed;
  told = (state b.group.flash).told;
  tells_images = (state b.group.flash).tells_images;
  reliable = (state b.group.flash).reliable;
}

-- ---- what stands between turns

-- What a stop at a moment may have left stands for a beginning of a history in which each change is that was completed at an earlier moment; and
-- data stands apart in it, where the cells that were opened kept it apart, and by that very beginning, too.
pub record IsKeptImage (c : DriveConfig) (f : Found) (opened : List Cell) (es : List Entry) (m : ℕ) (image : List Cell) : Type 0 where
  pub stands : StandsForKept c f es 0 m image
  pub apart : OpenedApart c f opened → StandsApart c f es 0 image
  pub own : OpenedApart c f opened → IsApartBy c f image stands.beginning.kept stands.beginning.stands

-- where the cells are told, so it is with whatever a stop in a call since a moment may have left, by the history of a book
abbrev pub IsSafeSince : ℕ → FlashState → BookSeen → Type 0
IsSafeSince since flash b = IsTrue flash.told → (m : ℕ) (image : List Cell) → since < m → m ≤ flash.moment → flash.during m image → IsKeptImage b.config b.found b.opened b.entries m image

-- and where the run began with room and no call failed since the flash was handed in, it is a roomy image
abbrev pub IsRoomySince : Counts → FlashState → BookSeen → Type 0
IsRoomySince handed flash b =
    IsTrue flash.told → BeganRoomy flash.told b → (Rose handed.faults flash.faults → ⊥)
    → (m : ℕ) (image : List Cell) → handed.moment < m → m ≤ flash.moment → flash.during m image → IsRoomyImage b.config image

-- Since a moment a call failed at this one: it lies above it, or the count stands at its last value. Where the calls are told, that call failed.
pub record FailedSince (since : ℕ) (now : FlashState) (moment : ℕ) : Type 0 where
  pub later : Rose since moment
  pub until : moment ≤ now.moment
  pub failed : IsTrue now.tells_calls → (call : Call) × (slice_get now.calls (moment - 1) ≡ Some call) × (call.failed ≡ true)

-- the moment of a completion
abbrev pub moment_of : Entry → ℕ
moment_of e = option_map_or (λ (h : Host). h.moment) (host_of e) 0

-- each media error has the moment of a call that failed since
abbrev pub AreCharged : ℕ → FlashState → List Entry → Type 0
AreCharged since now es = All (λ e. IsTrue (is_media_reply e) → FailedSince since now (moment_of e)) es

-- of a flash that promises that no call fails, none has
abbrev pub IsUnfailing : Counts → FlashState → Type 0
IsUnfailing handed flash = IsTrue flash.reliable → flash.faults ≡ handed.faults

-- each step that was made added an entry
abbrev pub StepsAreTold : BookSeen → Type 0
StepsAreTold b = b.spent ≤ length b.entries

-- The flash is cut as configured; and over an image a data unit that is all blank was so when the drive was opened, unless an entry tells that it was erased,
-- or that its erase failed.
pub record EmptiedAreTold (flash : FlashState) (b : BookSeen) : Type 0 where
  pub cut : flash.geometry ≡ geometry_of b.config
  pub only : IsTrue flash.told → IsTrue b.found.is_image → OnlyErasesEmpty (geometry_of b.config) b.opened flash.cells b.entries

-- A drive that has served nothing since it was opened, whatever it relocated: no entry serves a host, and an opening stands at the beginning alone. Whatever
-- a stop since its flash was handed in may have left stands for its history, and is roomy where it should be; and no call of a reliable flash has failed.
pub record HasServedNothing {F : Type 0} (state : F → FlashState) (s : Seen F) : Type 0 where
  pub opens : OpensFirst [] s.book.entries
  pub none : All ServesNone s.book.entries
  pub steps : StepsAreTold s.book
  pub safe : IsSafeSince s.handed.moment (state s.flash) s.book
  pub roomy : IsRoomySince s.handed (state s.flash) s.book
  pub unfailing : IsUnfailing s.handed (state s.flash)
  pub emptied : EmptiedAreTold (state s.flash) s.book

-- the sums before the history are those of what it goes on from
pub record AreSumsOf (f : Found) (before : Totals) : Type 0 where
  pub host_blocks : before.host_blocks ≡ f.totals.host_blocks
  pub media_blocks : before.media_blocks ≡ f.totals.media_blocks
  pub erases : before.erases ≡ f.totals.erases

pub record IsBoard {F : Type 0} (state : F → FlashState) (group : Seen F) (before : Totals) (told : List Mark) : Type 0 where
  -- an opening is told at the beginning alone
  pub opens : OpensFirst [] group.book.entries
  -- the teller has told a beginning of the record
  pub shown : IsPrefix told (marks_of group.book.found group.book.entries)
  pub sums : AreSumsOf group.book.found before
  pub steps : StepsAreTold group.book
  pub safe : IsSafeSince group.handed.moment (state group.flash) group.book
  pub roomy : IsRoomySince group.handed (state group.flash) group.book
  pub later : group.handed.moment ≤ (state group.flash).moment
  pub charged : AreCharged group.handed.moment (state group.flash) group.book.entries
  pub unfailing : IsUnfailing group.handed (state group.flash)
  pub emptied : EmptiedAreTold (state group.flash) group.book
