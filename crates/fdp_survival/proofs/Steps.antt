-- Each step of a drive keeps what is safe, and a stop within it loses nothing and leaves data apart.
use Rattle.std.proofs.Common.{◌≡◌, ◌≢◌, inl, inr, ℕ, ◌<◌, ◌≤◌, Bool, true, false, not, IsTrue, List, [], ◌∷◌, ◌++◌, length, Option, Some, None, refl, sym, ◌∙◌, ap, subst, arith, append_assoc}
use Rattle.std.specs.Prelude.{◌==◌, All, IsFalse, option_map, slice_get}
use Rattle.std.proofs.lemmas.List.{append-nil}
use Rattle.fdp_base.specs.declared.command.Command.{Command}
use Rattle.fdp_base.specs.declared.command.Write.{Write}
use Rattle.fdp_base.specs.declared.config.DriveConfig.{DriveConfig}
use Rattle.fdp_base.specs.declared.config.Geometry.{Geometry}
use Rattle.fdp_base.specs.declared.entry.Entry.{Entry}
use Rattle.fdp_base.specs.declared.entry.Entry.TheVariants as entries
use Rattle.fdp_base.specs.declared.entry.BlockName.{BlockName}
use Rattle.fdp_base.specs.declared.entry.Reply.{Reply}
use Rattle.fdp_base.specs.declared.entry.Spot.{Spot}
use Rattle.fdp_base.specs.declared.status.Status.{Status}
use Rattle.fdp_base.specs.CommandKinds.{write_of}
use Rattle.fdp_base.specs.Placement.{geometry_of}
use Rattle.fdp_base.specs.Spare.{data_spare}
use Rattle.fdp_isolation.specs.fdp_book.declared.ticket.Done.{Done}
use Rattle.fdp_isolation.specs.fdp_book.declared.ticket.Ticket.{Ticket}
use Rattle.fdp_isolation.specs.fdp_book.Book.{BookSeen, IsLonger, point_in, state_in, written_in}
use Rattle.fdp_isolation.specs.fdp_book.Relocating.{MayFollow, MovesPass, Relocates, told_by}
use Rattle.fdp_isolation.specs.fdp_book.Shutting.{ShutsAndEnds}
use Rattle.fdp_isolation.specs.fdp_book.Steps.{Completes, Places, Starts}
use Rattle.fdp_isolation.specs.fdp_book.Tickets.{IsNextSpot, IsTicketOf}
use Rattle.fdp_calls.specs.Media.{IsProgrammedTo, IsReadFrom}
use Rattle.fdp_durability.specs.fdp_collector.declared.step.Lost.TheVariants as lost
use Rattle.fdp_durability.specs.fdp_collector.declared.step.Step.{Step}
use Rattle.fdp_durability.specs.fdp_collector.declared.step.Step.TheVariants as steps
use Rattle.fdp_durability.specs.fdp_collector.Leaving.{StepMayLeave}
use Rattle.fdp_durability.specs.Beginnings.{CanBeSaved}
use Rattle.fdp_durability.specs.Durable.{IsDurable, UnitsMoveOn}
use Rattle.fdp_durability.specs.Firm.{completes}
use Rattle.fdp_durability.specs.Saved.{SavesDrive, SavesEntries, SettlesDrive, firm_renewed, firm_with, with_saved}
use Rattle.fdp_durability.proofs.Beginnings.{can-in}
use Rattle.fdp_durability.proofs.Durable.{durable-stands}
use Rattle.fdp_durability.proofs.Owed.{run-kept}
use Rattle.fdp_flash.specs.declared.answer.Wrote.{Wrote}
use Rattle.fdp_flash.specs.declared.answer.Wrote.TheVariants as wrote
use Rattle.fdp_flash.specs.declared.cell.Cell.{Cell}
use Rattle.fdp_flash.specs.declared.cell.Cell.TheVariants.{Blank, Whole}
use Rattle.fdp_flash.specs.Cells.{ProgramMayLeave}
use Rattle.fdp_flash.specs.FlashState.{FlashState}
use Rattle.fdp_flash.specs.Layout.{page_number}
use Rattle.fdp_flash.specs.Runs.{Runs}
use Rattle.fdp_flash.proofs.Runs.{runs_weakened}
use Rattle.fdp_history.specs.Orderly.{IsOrderly}
use Rattle.fdp_history.specs.Standing.{IsStanding}
use Rattle.fdp_history.proofs.Points.{orderly-next}
use Rattle.fdp_history.proofs.Standing.{standing-next}
use Rattle.fdp_image.specs.Kept.{AreFirm, IsStopSafe, StandsForBeginning, StandsForKept, is_completed, is_owed}
use Rattle.fdp_image.specs.Saving.{SameDataPages}
use Rattle.fdp_isolation.specs.Begun.{OpenedApart}
use Rattle.fdp_isolation.specs.Isolated.{IsIsolatedDrive}
use Rattle.fdp_isolation.specs.Laned.{IsKnown, StandsOver}
use Rattle.fdp_isolation.specs.Reads.{ReadsApart}
use Rattle.fdp_isolation.proofs.Promised.{isolated}
use Rattle.fdp_isolation.proofs.Readings.{drawn-isolates}
use Rattle.fdp_isolation.proofs.Stopped.{LeavesApart, left-isolated, saved-isolated, step-ended as book-ended, step-left, write-left}
use Rattle.fdp_durability.specs.fdp_journal.JournalState.{JournalState}
use Rattle.fdp_durability.specs.fdp_locations.Stored.{HoldsWritten}
use Rattle.fdp_durability.specs.fdp_locations.Written.{next_spare}
use Rattle.fdp_durability.specs.fdp_readings.Drawn.{drawn}
use Rattle.fdp_durability.proofs.fdp_readings.Keeping.{program-named, program-system}
use Rattle.fdp_durability.specs.fdp_pages.Steps.{ChangesOwners, LeavesUnits}
use Rattle.fdp_pointers.specs.Contents.{leaves_pages}
use Rattle.fdp_durability.specs.fdp_readings.Lasting.{leaves_nothing}
use Rattle.fdp_rules.specs.Answer.{bare}
use Rattle.fdp_rules.specs.History.{Found, point_of}
use Rattle.fdp_rules.specs.Next.{next}
use Rattle.fdp_rules.specs.PlainState.{Going}
use Rattle.fdp_rules.specs.Point.{Point}
use Rattle.fdp_rules.specs.Sites.{moved_blocks}
use Rattle.fdp_rules.specs.Step.{Follows, IsPage, IsPlaced}
use Rattle.fdp_rules.proofs.Pushes.{point_of-push}
use Rattle.fdp_durability.specs.fdp_saving.declared.saved.Saved.{Saved}
use Rattle.fdp_durability.specs.fdp_saving.declared.saved.Saved.TheVariants as answers
use Rattle.fdp_survival.specs.Apart.{AreSaidApart, IsStopApart, StandsApart}
use Rattle.fdp_survival.specs.Books.{IsInOrder, IsSafe, KeepsApart, KeepsIsolated, Survives}
use Rattle.fdp_survival.specs.Safe.{IsSafeApart, IsSafeAt, IsSafeImage}
use Rattle.fdp_survival.proofs.Apart.{durable-stands-apart, said-left}
use Rattle.fdp_survival.proofs.Images.{grown-apart, run-grown, run-less, run-safe}
use Rattle.fdp_survival.proofs.Orders.{book-saved, can-of, can-on, can-programmed, can-shut}
use Rattle.fdp_survival.proofs.Relocated.{left-apart, left-said, safe-step, step-ended, survives-step}
use Rattle.fdp_survival.proofs.Safe.{programmed, safe-failed, safe-moved, safe-programmed, safe-read, safe-still, survives-on, survives-program, survives-read}
use Rattle.fdp_survival.proofs.Savings.{safe-checkpoint, safe-first, safe-made, safe-settling, safe-unsaved, survives-checkpoint, survives-first, survives-saving, survives-settling, survives-unsaved}
use Rattle.fdp_survival.proofs.Saying.{IsBefore, before-saving, drive-image, drive-said, entry-image, entry-said, settled-image, settled-said, shut-reads, unsaved-image, unsaved-said}
use Rattle.fdp_survival.proofs.Units.{GoOn, changed-go, joined-go, left-go, recounted-go}
use Rattle.fdp_units.specs.UnitTable.{UnitTable}

-- the flash holds what a book has written
abbrev pub HoldsBook : BookSeen → FlashState → Type 0
HoldsBook b flash = IsTrue flash.told → HoldsWritten flash.geometry flash.cells (written_in b) b.pages.units

-- so its pages stand there
pub stands-over : (b : BookSeen) (flash : FlashState) → IsKnown b → flash.geometry ≡ geometry_of b.config → HoldsBook b flash → IsTrue flash.told → StandsOver b flash.cells
stands-over b flash known geometry stored told = record { known = known; holds = subst (λ (g : Geometry). HoldsWritten g flash.cells (written_in b) b.pages.units) geometry (stored told) }

-- ---- a book that goes on

-- what is safe of the history of a book with some entries more is safe of the book that has them
pub of-book : (b new : BookSeen) (es : List Entry) (t : UnitTable) (s : JournalState) (firm : ℕ) (flash : FlashState) → IsLonger b new es → IsSafeApart b.config b.found b.opened (b.entries ++ es) t s firm flash → IsSafeApart new.config new.found new.opened new.entries t s firm flash
of-book b new es t s firm flash longer h =
    subst (λ (c : DriveConfig). IsSafeApart c new.found new.opened new.entries t s firm flash) (sym longer.config_is)
    (subst (λ (f : Found). IsSafeApart b.config f new.opened new.entries t s firm flash) (sym longer.found_is)
    (subst (λ (cells : List Cell). IsSafeApart b.config b.found cells new.entries t s firm flash) (sym longer.opened_is)
    (subst (λ (xs : List Entry). IsSafeApart b.config b.found b.opened xs t s firm flash) (sym longer.entries_are) h)))

pub of-book-run : (b new : BookSeen) (es : List Entry) (firm from : ℕ) (old now : FlashState) → IsLonger b new es → Runs old now (λ m image. IsSafeImage b.config b.found b.opened (b.entries ++ es) firm from image) → Survives new firm from old now
of-book-run b new es firm from old now longer h =
    subst (λ (c : DriveConfig). Runs old now (λ m image. IsSafeImage c new.found new.opened new.entries firm from image)) (sym longer.config_is)
    (subst (λ (f : Found). Runs old now (λ m image. IsSafeImage b.config f new.opened new.entries firm from image)) (sym longer.found_is)
    (subst (λ (cells : List Cell). Runs old now (λ m image. IsSafeImage b.config b.found cells new.entries firm from image)) (sym longer.opened_is)
    (subst (λ (xs : List Entry). Runs old now (λ m image. IsSafeImage b.config b.found b.opened xs firm from image)) (sym longer.entries_are) h)))

-- images that are safe by the history of a book are so by one that goes on from it
pub survives-longer : (b new : BookSeen) (es : List Entry) (firm from : ℕ) (old now : FlashState) → IsLonger b new es → Survives b firm from old now → Survives new firm from old now
survives-longer b new es firm from old now longer run = of-book-run b new es firm from old now longer (run-grown b.config b.found b.opened b.entries es firm from old now run)

-- and where fewer entries are asked for
pub survives-less : (b : BookSeen) (most firm from least : ℕ) (old now : FlashState) → firm ≤ most → least ≤ from → Survives b most from old now → Survives b firm least old now
survives-less b most firm from least old now fewer later run = run-less b.config b.found b.opened b.entries most firm from least old now fewer later run

-- where data stands apart in the cells it is isolated
pub keeps-isolated : (b : BookSeen) (flash : FlashState) → IsKnown b → flash.geometry ≡ geometry_of b.config → HoldsBook b flash → KeepsApart flash b → KeepsIsolated flash b
keeps-isolated b flash known geometry stored apart told opened = isolated b flash.cells (stands-over b flash known geometry stored told) (apart told opened).laned

-- data stands apart in the cells then
pub cells-apart : (b : BookSeen) (s : JournalState) (firm : ℕ) (flash : FlashState) → IsSafe b s firm flash → KeepsIsolated flash b → IsTrue flash.told → OpenedApart b.config b.found b.opened → StandsApart b.config b.found b.entries (length b.entries) flash.cells
cells-apart b s firm flash was isolated told opened = durable-stands-apart b.config b.found b.entries firm s b.pages.units flash.cells (was.at.durable told) (was.apart told opened) (isolated told opened)

moves : (b : BookSeen) (s : JournalState) (new : UnitTable) → GoOn b.pages.units new → UnitsMoveOn b.config b.found b.entries s b.pages.units new
moves b s new go unit = inl (go unit)

-- a run goes on as it began
opened-on : (b new : BookSeen) (es : List Entry) → IsLonger b new es → OpenedApart b.config b.found b.opened → OpenedApart new.config new.found new.opened
opened-on b new es longer opened =
    subst (λ (c : DriveConfig). OpenedApart c new.found new.opened) (sym longer.config_is)
    (subst (λ (f : Found). OpenedApart b.config f new.opened) (sym longer.found_is)
    (subst (OpenedApart b.config b.found) (sym longer.opened_is) opened))

isolated-of : (b new : BookSeen) (es : List Entry) (cells : List Cell) → IsLonger b new es → IsIsolatedDrive new.config (point_in new) new.entries cells → IsIsolatedDrive b.config (point_of b.config b.found (b.entries ++ es)) (b.entries ++ es) cells
isolated-of b new es cells longer h =
    subst (λ (c : DriveConfig). IsIsolatedDrive c (point_of c b.found (b.entries ++ es)) (b.entries ++ es) cells) longer.config_is
    (subst (λ (f : Found). IsIsolatedDrive new.config (point_of new.config f (b.entries ++ es)) (b.entries ++ es) cells) longer.found_is
    (subst (λ (xs : List Entry). IsIsolatedDrive new.config (point_of new.config new.found xs) xs cells) longer.entries_are h))

-- ---- entries that leave nothing

pub safe-entry : (b new : BookSeen) (e : Entry) (s : JournalState) (firm : ℕ) (now : FlashState) → IsInOrder b → IsLonger b new (e ∷ []) → IsTrue (leaves_nothing e) → IsFalse (completes e) → (IsFalse (leaves_pages e) → Follows true b.config (point_in b) e)
    → GoOn b.pages.units new.pages.units → IsSafe b s firm now → IsSafe new s firm now
safe-entry b new e s firm now order longer nothing none follows go was =
    of-book b new (e ∷ []) new.pages.units s firm now longer (record {
      at = safe-still b.config b.found b.entries e new.pages.units s firm now nothing none order.known.orderly order.standing follows
          (safe-moved b.config b.found b.entries b.pages.units new.pages.units s firm now (moves b s new.pages.units go) was.at);
      apart = was.apart;
    })

pub owners-go : (b new : BookSeen) → ChangesOwners b.pages new.pages → GoOn b.pages.units new.pages.units
owners-go b new h = recounted-go b.pages.units new.pages.units new.pages.owners h.units

pub left-goes : (b new : BookSeen) → LeavesUnits b.pages new.pages → GoOn b.pages.units new.pages.units
left-goes b new h = left-go b.pages.units new.pages.units h.units

-- a write was let go
pub safe-started : (b new : BookSeen) (queue number : ℕ) (command : Command) (ticket : Ticket) (s : JournalState) (firm : ℕ) (now : FlashState) → IsInOrder b → Starts b new queue number command ticket → ChangesOwners b.pages new.pages → IsSafe b s firm now → IsSafe new s firm now
safe-started b new queue number command ticket s firm now order step owners was =
    safe-entry b new _ s firm now order step.step refl refl (λ wrong. absurd cc) (owners-go b new owners) was

not-applied : (queue number : ℕ) (command : Command) (reply : Reply) (moment : ℕ) → reply.applied ≡ false → IsTrue (leaves_nothing (entries.Host (record { queue = queue; number = number; command = command; reply = reply; moment = moment })))
not-applied queue number command reply moment none = ap not none

-- a command was completed that changed nothing
pub safe-answered : (b new : BookSeen) (queue number : ℕ) (command : Command) (reply : Reply) (moment : ℕ) (done : Done) (s : JournalState) (firm : ℕ) (now : FlashState) → IsInOrder b → Completes b new [] queue number command reply moment done → reply.applied ≡ false
    → IsFalse (is_completed command reply) → ChangesOwners b.pages new.pages → IsSafe b s firm now → IsSafe new s firm now
safe-answered b new queue number command reply moment done s firm now order step none completed owners was =
    safe-entry b new _ s firm now order step.step (not-applied queue number command reply moment none) completed (λ wrong. absurd cc) (owners-go b new owners) was

-- ---- calls that read

pub safe-fetched : (b : BookSeen) (s : JournalState) (firm : ℕ) (old now : FlashState) → IsReadFrom old now → IsSafe b s firm old → IsSafe b s firm now
safe-fetched b s firm old now read was = record {
  at = safe-read b.config b.found b.entries b.pages.units s firm old now was.at read;
  apart = λ told opened. let before : IsTrue old.told = subst IsTrue read.kept.told told in subst (AreSaidApart b.config s) (sym (read.cells before)) (was.apart before opened);
}

pub survives-fetched : (b : BookSeen) (s : JournalState) (firm : ℕ) (old now : FlashState) → IsReadFrom old now → IsSafe b s firm old → KeepsIsolated old b → Survives b firm (length b.entries) old now
survives-fetched b s firm old now read was isolated =
    run-safe b.config b.found b.opened b.entries firm (length b.entries) old now (survives-read b.config b.found b.entries b.pages.units s firm old now was.at read)
    (λ told opened m image above most during.
    subst (StandsApart b.config b.found b.entries (length b.entries)) (sym (read.stops.images told m image above most during)) (cells-apart b s firm old was isolated told opened))

-- ---- a page of a write

-- the next page of a write is one of a data unit
placed-page : (c : DriveConfig) (p : Point) (ticket index unit page : ℕ) → Follows true c p (entries.Placed (record { ticket = ticket; index = index; unit = unit; page = page })) → IsPlaced c p ticket index unit page
unfolding Follows
placed-page c p ticket index unit page h = h

-- and it is blank
next-within : (b : BookSeen) (ticket : Ticket) (g : Going) (spot : Spot) → IsNextSpot b ticket g spot → IsPage b.config spot
next-within b ticket g spot goes = (placed-page b.config (point_in b) ticket.position g.placed spot.unit spot.page (goes.follows true)).spot

pub next-blank : (b : BookSeen) (ticket : Ticket) (g : Going) (spot : Spot) (old : FlashState) → old.geometry ≡ geometry_of b.config → HoldsBook b old → IsNextSpot b ticket g spot → IsTrue old.told → slice_get old.cells (page_number old.geometry spot) ≡ Some Blank
next-blank b ticket g spot old geometry stored goes told =
    let size : old.geometry.unit_pages ≡ b.config.unit_pages = ap (λ (x : Geometry). x.unit_pages) geometry in
    let inside = (next-within b ticket g spot goes).1 in
    ((stored told).blank spot.unit goes.is_unit goes.kept).blank spot.page (omega (arith, goes.fresh)) (omega (arith, inside, size))

-- the spare of the next page of a write
abbrev pub IsNextSpare : BookSeen → Going → List ℕ → Type 0
IsNextSpare b g spare = option_map (λ (w : Write). data_spare (next_spare (state_in b) g w)) (write_of g.command) ≡ Some spare

spare-of : (b : BookSeen) (g : Going) (spare : List ℕ) → IsNextSpare b g spare → (w : Write) × (data_spare (next_spare (state_in b) g w) ≡ spare)
spare-of b g spare named = cases (write_of g.command) named where
  cases : (o : Option Write) → option_map (λ (w : Write). data_spare (next_spare (state_in b) g w)) o ≡ Some spare → (w : Write) × (data_spare (next_spare (state_in b) g w) ≡ spare)
  cases None e = absurd cc
  cases (Some w) e = (w, let same : data_spare (next_spare (state_in b) g w) ≡ spare = cc in same)

-- a program of the next page of a write, whatever it left, keeps what is firm
pub at-unplaced : (b : BookSeen) (ticket : Ticket) (g : Going) (spot : Spot) (spare bytes : List ℕ) (s : JournalState) (firm : ℕ) (old now : FlashState) → old.geometry ≡ geometry_of b.config → HoldsBook b old → IsNextSpot b ticket g spot → IsSafeAt b.config b.found b.entries b.pages.units s firm old → now.told ≡ old.told
    → (IsTrue old.told → ProgramMayLeave old.geometry old.cells spot spare bytes now.cells) → IsSafeAt b.config b.found b.entries b.pages.units s firm now
at-unplaced b ticket g spot spare bytes s firm old now geometry stored goes was same left =
    let is = next-within b ticket g spot goes in
    safe-failed b.config b.found b.entries b.pages.units s firm old now was spot spare bytes geometry (record { unit = is.0; page = is.1 }) (next-blank b ticket g spot old geometry stored goes) same left

module _ (b : BookSeen) (ticket : Ticket) (g : Going) (spot : Spot) (spare bytes : List ℕ) (s : JournalState) (firm : ℕ) (old now : FlashState) (geometry : old.geometry ≡ geometry_of b.config) (stored : HoldsBook b old) (goes : IsNextSpot b ticket g spot)
    (order : IsInOrder b) (is : IsTicketOf (state_in b) ticket g) (named : IsNextSpare b g spare) (apart : KeepsApart old b) (was : IsSafe b s firm old) where
  spot-is : IsPage b.config spot
  spot-is = next-within b ticket g spot goes

  spot-blank : IsTrue old.told → slice_get old.cells (page_number old.geometry spot) ≡ Some Blank
  spot-blank = next-blank b ticket g spot old geometry stored goes

  there : (image : List Cell) → ProgramMayLeave old.geometry old.cells spot spare bytes image → ProgramMayLeave (geometry_of b.config) old.cells spot spare bytes image
  there image left = subst (λ (x : Geometry). ProgramMayLeave x old.cells spot spare bytes image) geometry left

  -- whatever the program left, it put the page where its handle's are
  pub page-left : (image : List Cell) → IsTrue old.told → OpenedApart b.config b.found b.opened → ProgramMayLeave old.geometry old.cells spot spare bytes image → LeavesApart b.config (state_in b) old.cells image
  page-left image told opened left =
      let w = spare-of b g spare named in
      write-left b ticket g w.0 spot bytes old.cells image (stands-over b old order.known geometry stored told) is goes
      (subst (λ (x : List ℕ). ProgramMayLeave (geometry_of b.config) old.cells spot x bytes image) (sym w.1) (there image left)) (apart told opened).laned

  page-isolated : (image : List Cell) → IsTrue old.told → OpenedApart b.config b.found b.opened → ProgramMayLeave old.geometry old.cells spot spare bytes image → IsIsolatedDrive b.config (point_in b) b.entries image
  page-isolated image told opened left = left-isolated b.config (point_in b) b.entries old.cells image (page-left image told opened left) (keeps-isolated b old order.known geometry stored apart told opened)

  page-said : (image : List Cell) → IsTrue old.told → OpenedApart b.config b.found b.opened → ProgramMayLeave old.geometry old.cells spot spare bytes image → AreSaidApart b.config s image
  page-said image told opened left =
      said-left b.config b.found b.entries firm s b.pages.units old.cells image (sym was.at.cut) was.at.sealed
      (program-system b.config old.cells image spot spare bytes (record { unit = spot-is.0; page = spot-is.1 }) (there image left)) (was.at.durable told) (was.apart told opened)
      (λ r valid. program-named b.config r old.cells image spot spare bytes valid (subst (λ (x : Geometry). slice_get old.cells (page_number x spot) ≡ Some Blank) geometry (spot-blank told)) (there image left))
      (page-left image told opened left)

  -- it was programmed
  pub safe-page : IsProgrammedTo old now (page_number old.geometry spot) (Whole spare bytes) → IsSafe b s firm now
  safe-page done = record {
    at = safe-programmed b.config b.found b.entries b.pages.units s firm old now was.at spot spare bytes geometry (record { unit = spot-is.0; page = spot-is.1 }) spot-blank done;
    apart = λ told opened. let before : IsTrue old.told = subst IsTrue done.kept.told told in page-said now.cells before opened (record { cell = Whole spare bytes; page = inr (inr refl); cells = done.cells before });
  }

  -- or that failed
  pub safe-unplaced : now.told ≡ old.told → (IsTrue old.told → ProgramMayLeave old.geometry old.cells spot spare bytes now.cells) → IsSafe b s firm now
  safe-unplaced same left = record {
    at = at-unplaced b ticket g spot spare bytes s firm old now geometry stored goes was.at same left;
    apart = λ told opened. let before : IsTrue old.told = subst IsTrue same told in page-said now.cells before opened (left before);
  }

  pub isolated-unplaced : now.told ≡ old.told → (IsTrue old.told → ProgramMayLeave old.geometry old.cells spot spare bytes now.cells) → KeepsIsolated now b
  isolated-unplaced same left told opened = let before : IsTrue old.told = subst IsTrue same told in page-isolated now.cells before opened (left before)

  pub survives-page : Runs old now (λ m image. ProgramMayLeave old.geometry old.cells spot spare bytes image) → Survives b firm (length b.entries) old now
  survives-page run =
      run-safe b.config b.found b.opened b.entries firm (length b.entries) old now
      (survives-program b.config b.found b.entries b.pages.units s firm old now was.at spot spare bytes geometry (record { unit = spot-is.0; page = spot-is.1 }) spot-blank run)
      (λ told opened m image above most during.
      let left = run.images told m image above most during in
      durable-stands-apart b.config b.found b.entries firm s b.pages.units image
      (programmed b.config b.found b.entries b.pages.units s firm old now was.at spot spare bytes geometry (record { unit = spot-is.0; page = spot-is.1 }) spot-blank image told left)
      (page-said image told opened left) (page-isolated image told opened left))

-- the page was placed
pub safe-placed : (b new : BookSeen) (ticket : Ticket) (g : Going) (spot : Spot) (last : Bool) (s : JournalState) (firm : ℕ) (now : FlashState) → IsInOrder b → IsNextSpot b ticket g spot → Places b new ticket g spot last → IsSafe b s firm now → IsSafe new s firm now
safe-placed b new ticket g spot last s firm now order goes step was =
    safe-entry b new _ s firm now order step.step refl refl (λ pages. goes.follows true)
    (changed-go b.pages.units new.pages.units spot.unit _ step.puts.unit (omega arith)) was

-- ---- relocation

-- the entry that tells of a step leaves nothing
told-safe : (b : BookSeen) (rg : ℕ) (step : Step) (t : UnitTable) (s : JournalState) (firm : ℕ) (now : FlashState) → IsInOrder b → MayFollow b (told_by rg step) → IsSafeAt b.config b.found b.entries t s firm now → IsSafeAt b.config b.found (b.entries ++ told_by rg step) t s firm now
told-safe b rg step t s firm now order may was = by-step step may where
  none : IsSafeAt b.config b.found (b.entries ++ []) t s firm now
  none = subst (λ (xs : List Entry). IsSafeAt b.config b.found xs t s firm now) (sym (append-nil b.entries)) was

  one : (e : Entry) → IsTrue (leaves_nothing e) → IsFalse (completes e) → ((told : Bool) → Follows told b.config (point_in b) e) → IsSafeAt b.config b.found (b.entries ++ e ∷ []) t s firm now
  one e nothing quiet follows = safe-still b.config b.found b.entries e t s firm now nothing quiet order.known.orderly order.standing (λ pages. follows true) was

  by-step : (step : Step) → MayFollow b (told_by rg step) → IsSafeAt b.config b.found (b.entries ++ told_by rg step) t s firm now
  by-step steps.Nothing may = none
  by-step (steps.Copied copy) may = one _ refl refl may
  by-step steps.ReadyToMove may = none
  by-step (steps.Erased unit) may = one _ refl refl may
  by-step steps.EraseDue may = none
  by-step steps.Starved may = one _ refl refl may
  by-step (steps.Fault lost.None) may = none
  by-step (steps.Fault (lost.Aside unit)) may = one _ refl refl may
  by-step (steps.Fault (lost.Retired unit)) may = one _ refl refl may

module _ (b new : BookSeen) (old now : FlashState) (rg : ℕ) (may_erase : Bool) (step : Step) (s : JournalState) (firm : ℕ) (low : rg < b.config.groups) (order : IsInOrder b) (geometry : old.geometry ≡ geometry_of b.config) (stored : HoldsBook b old) (apart : KeepsApart old b)
    (relocates : Relocates b new old now rg may_erase step) (run : Runs old now (λ m image. StepMayLeave may_erase old.geometry b.pages.units b.pages.owners old.cells image)) (sure : IsTrue may_erase → s.in_doubt ≡ false) (was : IsSafe b s firm old) where
  pub safe-relocated : IsSafe new s firm now
  safe-relocated =
      of-book b new (told_by rg step) new.pages.units s firm now relocates.longer (record {
        at = told-safe b rg step new.pages.units s firm now order relocates.follows
            (safe-step b.config b.found b.entries b.pages new.pages rg may_erase s firm old now low order.known.joined order.known.units (written_in b) order.known.led.at order.standing order.known.led.led geometry stored sure was.at step relocates.is run.told);
        apart = λ told opened.
            let before : IsTrue old.told = subst IsTrue run.told told in
            left-said b.config b.found b.entries b.pages new.pages rg may_erase s firm old now low order.known.joined order.known.units (written_in b) order.known.led.at order.standing order.known.led.led geometry stored sure was.at now.cells before
            (step-ended b.config b.found b.entries b.pages new.pages rg may_erase s firm old now low order.known.joined order.known.units (written_in b) order.known.led.at order.standing order.known.led.led geometry stored sure was.at step relocates.is before)
            (book-ended b new old now rg may_erase before geometry low (stands-over b old order.known geometry stored before) (apart before opened).laned step relocates) (was.apart before opened);
      })

  pub survives-relocated : Survives new firm (length b.entries) old now
  survives-relocated =
      survives-longer b new (told_by rg step) firm (length b.entries) old now relocates.longer
      (run-safe b.config b.found b.opened b.entries firm (length b.entries) old now
      (survives-step b.config b.found b.entries b.pages new.pages rg may_erase s firm old now low order.known.joined order.known.units (written_in b) order.known.led.at order.standing order.known.led.led geometry stored sure was.at run)
      (λ told opened m image above most during.
      left-apart b.config b.found b.entries b.pages new.pages rg may_erase s firm old now low order.known.joined order.known.units (written_in b) order.known.led.at order.standing order.known.led.led geometry stored sure was.at image told
      (run.images told m image above most during)
      (step-left b new old now rg may_erase told geometry low (stands-over b old order.known geometry stored told) (apart told opened).laned step relocates m image above most during)
      (was.apart told opened) (keeps-isolated b old order.known geometry stored apart told opened)))

-- ---- savings

-- a book can be saved over a flash that holds what it wrote
can-book : (b : BookSeen) (flash : FlashState) → IsInOrder b → flash.geometry ≡ geometry_of b.config → HoldsBook b flash → IsTrue flash.told → CanBeSaved b.config (point_in b) b.pages.units flash.cells
can-book b flash order geometry stored told = book-saved b flash.cells order (subst (λ (g : Geometry). HoldsWritten g flash.cells (written_in b) b.pages.units) geometry (stored told))

-- what is known before a saving, where data stands apart
before : (b : BookSeen) (t : UnitTable) (s : JournalState) (firm : ℕ) (old : FlashState) → (IsTrue old.told → CanBeSaved b.config (point_in b) t old.cells) → KeepsIsolated old b → IsSafeApart b.config b.found b.opened b.entries t s firm old → IsTrue old.told → OpenedApart b.config b.found b.opened
    → IsBefore b.config b.found b.entries firm s t old
before b t s firm old can isolated was told opened = before-saving b.config b.found b.entries firm s t old told (was.at.durable told) (was.apart told opened) (can told) (isolated told opened)

-- one that goes on with an entry that is saved: before the saving, and with the entry
module _ (b new : BookSeen) (e : Entry) (s now : JournalState) (firm : ℕ) (old behind : FlashState) (answer : Saved) (order : IsInOrder b) (geometry : old.geometry ≡ geometry_of b.config) (stored : HoldsBook b old) (isolated_before : KeepsIsolated old b) (was : IsSafe b s firm old)
    (saved : SavesEntries b.config b.found b.entries (e ∷ []) s now old behind answer) (then_order : IsInOrder new) (longer : IsLonger b new (e ∷ [])) (go : GoOn b.pages.units new.pages.units) (then_stored : HoldsBook new behind) (then_isolated : KeepsIsolated behind new) where
  moved-on : IsSafeApart b.config b.found b.opened b.entries new.pages.units s firm old
  moved-on = record { at = safe-moved b.config b.found b.entries b.pages.units new.pages.units s firm old (moves b s new.pages.units go) was.at; apart = was.apart }

  can-before : IsTrue old.told → CanBeSaved b.config (point_in b) new.pages.units old.cells
  can-before told = can-on b.config (point_in b) b.pages.units new.pages.units old.cells go (can-book b old order geometry stored told)

  same-pages : IsTrue old.told → SameDataPages b.config old.cells behind.cells
  same-pages told = let h = was.at.durable told in ((saved.stops h.own h.tried (λ again. h.say) (λ again. h.sure)).cells told).data_pages_same

  can-behind : IsTrue old.told → CanBeSaved b.config (point_of b.config b.found (b.entries ++ e ∷ [])) new.pages.units old.cells
  can-behind told =
      let told_then : IsTrue behind.told = subst IsTrue (sym saved.calls.made.run.told) told in
      let geometry_then : behind.geometry ≡ geometry_of new.config = saved.calls.made.run.geometry ∙ geometry ∙ ap geometry_of (sym longer.config_is) in
      can-in b.config (point_of b.config b.found (b.entries ++ e ∷ [])) new.pages.units behind.cells old.cells (λ page low. sym (same-pages told page low))
      (can-of b new (e ∷ []) new.pages.units behind.cells longer (can-book new behind then_order geometry_then then_stored told_then))

  -- what it draws behind the entry is isolated
  draws-behind : IsTrue old.told → OpenedApart b.config b.found b.opened → ReadsApart b.config old.cells (drawn b.config (point_of b.config b.found (b.entries ++ e ∷ [])))
  draws-behind told opened =
      let p : Point = point_of b.config b.found (b.entries ++ e ∷ []) in
      let told_then : IsTrue behind.told = subst IsTrue (sym saved.calls.made.run.told) told in
      let can = can-behind told in
      drawn-isolates b.config p (b.entries ++ e ∷ []) old.cells can.orderly can.standing
      (saved-isolated b.config p (b.entries ++ e ∷ []) behind.cells old.cells (λ page low. sym (same-pages told page low))
      (isolated-of b new (e ∷ []) behind.cells longer (then_isolated told_then (opened-on b new (e ∷ []) longer opened))))

  known-before : IsTrue old.told → OpenedApart b.config b.found b.opened → IsBefore b.config b.found b.entries firm s new.pages.units old
  known-before = before b new.pages.units s firm old can-before isolated_before moved-on

  -- the entry was made
  pub safe-saved : (answer ≢ answers.Done → IsFalse (completes e)) → IsSafe new now (firm_with b.entries (e ∷ []) firm answer) behind
  safe-saved none =
      of-book b new (e ∷ []) new.pages.units now (firm_with b.entries (e ∷ []) firm answer) behind longer (record {
        at = safe-made b.config b.found b.entries e new.pages.units s now firm old behind moved-on.at can-before can-behind answer saved none;
        apart = λ told opened.
            let told_before : IsTrue old.told = subst IsTrue saved.calls.made.run.told told in
            entry-said b.config b.found b.entries firm s now new.pages.units old behind (known-before told_before opened) (e ∷ []) answer saved (draws-behind told_before opened);
      })

  pub survives-saved : Survives new firm (length b.entries) old behind
  survives-saved =
      of-book-run b new (e ∷ []) firm (length b.entries) old behind longer
      (run-safe b.config b.found b.opened (b.entries ++ e ∷ []) firm (length b.entries) old behind
      (with-entry answer (survives-saving b.config b.found b.entries e new.pages.units s now firm old behind moved-on.at can-before can-behind answer saved))
      (λ told opened m image above most during.
      grown-apart b.config b.found b.entries (e ∷ []) (length b.entries) image
      (entry-image b.config b.found b.entries firm s now new.pages.units old behind (known-before told opened) (e ∷ []) answer saved (draws-behind told opened) m image above most during)))
    where
      with-entry : (x : Saved) → Runs old behind (λ m image. StandsForBeginning b.config b.found (with_saved b.entries (e ∷ []) x) firm image) → Runs old behind (λ m image. StandsForBeginning b.config b.found (b.entries ++ e ∷ []) firm image)
      with-entry answers.Done run = run
      with-entry (answers.Doubtful moment) run = run
      with-entry (answers.Unsaved moment) run = survives-on b.config b.found b.entries (e ∷ []) firm old behind run

-- the pages of a pass are moved: no unit has fewer pages that were used
pub move-go : (b new : BookSeen) (rg : ℕ) → MovesPass b new rg → GoOn b.pages.units new.pages.units
move-go b new rg step = recounted-go b.pages.units new.pages.units new.pages.owners step.units

-- a move of no block needs no saving
pub safe-unmoved : (b new : BookSeen) (rg : ℕ) (s : JournalState) (firm : ℕ) (now : FlashState) → IsInOrder b → MovesPass b new rg → moved_blocks (point_in b) rg ≡ [] → IsSafe b s firm now → IsSafe new s firm now
safe-unmoved b new rg s firm now order step none was =
    safe-entry b new _ s firm now order step.longer (ap (λ (xs : List BlockName). length xs == 0) none) refl (λ pages. step.follows true) (move-go b new rg step) was

-- a write that was not saved is not made
module _ (b : BookSeen) (e : Entry) (s now : JournalState) (firm : ℕ) (old behind : FlashState) (moment : ℕ) (order : IsInOrder b) (geometry : old.geometry ≡ geometry_of b.config) (stored : HoldsBook b old) (isolated_before : KeepsIsolated old b) (was : IsSafe b s firm old)
    (saved : SavesEntries b.config b.found b.entries (e ∷ []) s now old behind (answers.Unsaved moment)) where
  known-here : IsTrue old.told → OpenedApart b.config b.found b.opened → IsBefore b.config b.found b.entries firm s b.pages.units old
  known-here = before b b.pages.units s firm old (can-book b old order geometry stored) isolated_before was

  pub safe-not-saved : IsSafe b now firm behind
  safe-not-saved = record {
    at = safe-unsaved b.config b.found b.entries e b.pages.units s now firm old behind moment was.at (can-book b old order geometry stored) saved;
    apart = λ told opened. unsaved-said b.config b.found b.entries firm s now b.pages.units old behind (known-here (subst IsTrue saved.calls.made.run.told told) opened) (e ∷ []) moment saved;
  }

  pub survives-not-saved : Survives b firm (length b.entries) old behind
  survives-not-saved =
      run-safe b.config b.found b.opened b.entries firm (length b.entries) old behind (survives-unsaved b.config b.found b.entries e b.pages.units s now firm old behind moment was.at (can-book b old order geometry stored) saved)
      (λ told opened. unsaved-image b.config b.found b.entries firm s now b.pages.units old behind (known-here told opened) (e ∷ []) moment saved)

-- ---- a handle that is shut, and its write that ends

-- behind a program of the next page of a write, whatever it left, the book can be saved
pub can-failed : (b : BookSeen) (ticket : Ticket) (g : Going) (spot : Spot) (spare bytes : List ℕ) (old now : FlashState) → IsInOrder b → old.geometry ≡ geometry_of b.config → HoldsBook b old → IsNextSpot b ticket g spot → now.told ≡ old.told
    → (IsTrue old.told → ProgramMayLeave old.geometry old.cells spot spare bytes now.cells) → IsTrue now.told → CanBeSaved b.config (point_in b) b.pages.units now.cells
can-failed b ticket g spot spare bytes old now order geometry stored goes same left told_now =
    let told : IsTrue old.told = subst IsTrue same told_now in
    can-programmed b.config (point_in b) b.pages.units old.cells now.cells spot spare bytes
    (subst (λ (x : Geometry). slice_get old.cells (page_number x spot) ≡ Some Blank) geometry (next-blank b ticket g spot old geometry stored goes told))
    (subst (λ (x : Geometry). ProgramMayLeave x old.cells spot spare bytes now.cells) geometry (left told)) (can-book b old order geometry stored told)

module _ (b new : BookSeen) (ticket : Ticket) (g : Going) (spot : Spot) (status : Status) (moment : ℕ) (done : Done) (s now : JournalState) (firm : ℕ) (old behind : FlashState) (answer : Saved) (order : IsInOrder b) (can : IsTrue old.told → CanBeSaved b.config (point_in b) b.pages.units old.cells)
    (isolated_before : KeepsIsolated old b) (was : IsSafe b s firm old) (saved : SavesEntries b.config b.found b.entries (entries.Shut (record { rg = g.rg; ruh = g.ruh }) ∷ []) s now old behind answer) (shuts : ShutsAndEnds b new ticket g spot status moment done) where
  abbrev shut : Entry
  shut = entries.Shut (record { rg = g.rg; ruh = g.ruh })

  abbrev ended : Entry
  ended = entries.Host (record { queue = ticket.queue; number = g.number; command = g.command; reply = bare status false; moment = moment })

  shut-go : GoOn b.pages.units new.pages.units
  shut-go =
      joined-go b.pages.units shuts.middle.units new.pages.units (changed-go b.pages.units shuts.middle.units spot.unit _ shuts.shut.unit (omega arith))
      (recounted-go shuts.middle.units new.pages.units new.pages.owners shuts.left.units)

  shut-on : IsSafeApart b.config b.found b.opened b.entries new.pages.units s firm old
  shut-on = record { at = safe-moved b.config b.found b.entries b.pages.units new.pages.units s firm old (moves b s new.pages.units shut-go) was.at; apart = was.apart }

  can-here : IsTrue old.told → CanBeSaved b.config (point_in b) new.pages.units old.cells
  can-here told = can-on b.config (point_in b) b.pages.units new.pages.units old.cells shut-go (can told)

  pushed : point_of b.config b.found (b.entries ++ shut ∷ []) ≡ next b.config (point_in b) shut
  pushed = point_of-push b.config b.found b.entries shut

  can-there : IsTrue old.told → CanBeSaved b.config (point_of b.config b.found (b.entries ++ shut ∷ [])) new.pages.units old.cells
  can-there told =
      subst (λ (p : Point). CanBeSaved b.config p new.pages.units old.cells) (sym pushed)
      (can-shut b.config (point_in b) new.pages.units old.cells g.rg g.ruh order.known.config (shuts.follows true) (can-here told))

  known-shut : IsTrue old.told → OpenedApart b.config b.found b.opened → IsBefore b.config b.found b.entries firm s new.pages.units old
  known-shut = before b new.pages.units s firm old can-here isolated_before shut-on

  draws-there : IsTrue old.told → OpenedApart b.config b.found b.opened → ReadsApart b.config old.cells (drawn b.config (point_of b.config b.found (b.entries ++ shut ∷ [])))
  draws-there told opened = subst (λ (p : Point). ReadsApart b.config old.cells (drawn b.config p)) (sym pushed) (shut-reads b.config (point_in b) old.cells g.rg g.ruh (known-shut told opened).draws)

  -- both entries were made
  pub safe-shut : IsFalse (is_completed g.command (bare status false)) → IsSafe new now (firm_with b.entries (shut ∷ []) firm answer) behind
  safe-shut failed =
      let made = safe-made b.config b.found b.entries shut new.pages.units s now firm old behind shut-on.at can-here can-there answer saved (λ ne. refl) in
      let orderly = orderly-next true b.config (point_in b) shut order.known.config order.known.orderly (shuts.follows true) in
      let standing = standing-next true b.config (point_in b) shut order.known.orderly order.standing (shuts.follows true) in
      let both =
      safe-still b.config b.found (b.entries ++ shut ∷ []) ended new.pages.units now (firm_with b.entries (shut ∷ []) firm answer) behind refl failed (subst (IsOrderly b.config) (sym pushed) orderly) (subst (IsStanding b.config) (sym pushed) standing)
      (λ wrong. absurd cc) made in
      of-book b new (shut ∷ ended ∷ []) new.pages.units now (firm_with b.entries (shut ∷ []) firm answer) behind shuts.completes.step (record {
        at = subst (λ (xs : List Entry). IsSafeAt b.config b.found xs new.pages.units now (firm_with b.entries (shut ∷ []) firm answer) behind) (append_assoc b.entries (shut ∷ []) (ended ∷ [])) both;
        apart = λ told opened.
            let told_before : IsTrue old.told = subst IsTrue saved.calls.made.run.told told in
            entry-said b.config b.found b.entries firm s now new.pages.units old behind (known-shut told_before opened) (shut ∷ []) answer saved (draws-there told_before opened);
      })

  pub survives-shut : Survives new firm (length b.entries) old behind
  survives-shut =
      of-book-run b new (shut ∷ ended ∷ []) firm (length b.entries) old behind shuts.completes.step
      (run-safe b.config b.found b.opened (b.entries ++ shut ∷ ended ∷ []) firm (length b.entries) old behind
      (longer-run answer (survives-saving b.config b.found b.entries shut new.pages.units s now firm old behind shut-on.at can-here can-there answer saved))
      (λ told opened m image above most during.
      grown-apart b.config b.found b.entries (shut ∷ ended ∷ []) (length b.entries) image
      (entry-image b.config b.found b.entries firm s now new.pages.units old behind (known-shut told opened) (shut ∷ []) answer saved (draws-there told opened) m image above most during)))
    where
      longer-run : (x : Saved) → Runs old behind (λ m image. StandsForBeginning b.config b.found (with_saved b.entries (shut ∷ []) x) firm image) → Runs old behind (λ m image. StandsForBeginning b.config b.found (b.entries ++ shut ∷ ended ∷ []) firm image)
      longer-run answers.Done run =
          subst (λ (xs : List Entry). Runs old behind (λ m image. StandsForBeginning b.config b.found xs firm image)) (append_assoc b.entries (shut ∷ []) (ended ∷ [])) (survives-on b.config b.found (b.entries ++ shut ∷ []) (ended ∷ []) firm old behind run)
      longer-run (answers.Doubtful at) run =
          subst (λ (xs : List Entry). Runs old behind (λ m image. StandsForBeginning b.config b.found xs firm image)) (append_assoc b.entries (shut ∷ []) (ended ∷ [])) (survives-on b.config b.found (b.entries ++ shut ∷ []) (ended ∷ []) firm old behind run)
      longer-run (answers.Unsaved at) run = survives-on b.config b.found b.entries (shut ∷ ended ∷ []) firm old behind run

-- ---- the whole drive

module _ (b : BookSeen) (s now : JournalState) (firm : ℕ) (old behind : FlashState) (answer : Wrote) (order : IsInOrder b) (geometry : old.geometry ≡ geometry_of b.config) (stored : HoldsBook b old) (isolated_before : KeepsIsolated old b) where
  abbrev can-now : IsTrue old.told → CanBeSaved b.config (point_in b) b.pages.units old.cells
  can-now = can-book b old order geometry stored

  known-now : IsSafe b s firm old → IsTrue old.told → OpenedApart b.config b.found b.opened → IsBefore b.config b.found b.entries firm s b.pages.units old
  known-now was = before b b.pages.units s firm old can-now isolated_before was

  -- a checkpoint
  pub safe-written : IsSafe b s firm old → SavesDrive b.config b.found b.entries s now old behind answer → IsSafe b now (firm_renewed true b.entries firm answer) behind
  safe-written was saved = record {
    at = safe-checkpoint b.config b.found b.entries b.pages.units s now firm old behind answer was.at can-now saved;
    apart = λ told opened. drive-said b.config b.found b.entries firm s now b.pages.units old behind (known-now was (subst IsTrue saved.calls.made.run.told told) opened) answer saved;
  }

  pub survives-written : IsSafe b s firm old → SavesDrive b.config b.found b.entries s now old behind answer → Survives b firm (length b.entries) old behind
  survives-written was saved =
      run-safe b.config b.found b.opened b.entries firm (length b.entries) old behind (survives-checkpoint b.config b.found b.entries b.pages.units s now firm old behind answer was.at can-now saved)
      (λ told opened. drive-image b.config b.found b.entries firm s now b.pages.units old behind (known-now was told opened) answer saved)

  -- a doubt that is settled
  pub safe-settled : IsSafe b s firm old → SettlesDrive b.config b.found b.entries s now old behind answer → IsSafe b now (firm_renewed s.in_doubt b.entries firm answer) behind
  safe-settled was saved = record {
    at = safe-settling b.config b.found b.entries b.pages.units s now firm old behind answer was.at can-now saved;
    apart = λ told opened. settled-said b.config b.found b.entries firm s now b.pages.units old behind (known-now was (subst IsTrue saved.calls.made.run.told told) opened) answer saved;
  }

  pub survives-settled : IsSafe b s firm old → SettlesDrive b.config b.found b.entries s now old behind answer → Survives b firm (length b.entries) old behind
  survives-settled was saved =
      run-safe b.config b.found b.opened b.entries firm (length b.entries) old behind (survives-settling b.config b.found b.entries b.pages.units s now firm old behind answer was.at can-now saved)
      (λ told opened. settled-image b.config b.found b.entries firm s now b.pages.units old behind (known-now was told opened) answer saved)

  -- the first checkpoint of a run that begins with what is durable
  module _ (cut : s.geometry ≡ geometry_of b.config) (durable : IsTrue old.told → IsDurable b.config b.found b.entries firm s b.pages.units old.cells) (said : IsTrue old.told → OpenedApart b.config b.found b.opened → AreSaidApart b.config s old.cells) where
    known-first : IsTrue old.told → OpenedApart b.config b.found b.opened → IsBefore b.config b.found b.entries firm s b.pages.units old
    known-first told opened = before-saving b.config b.found b.entries firm s b.pages.units old told (durable told) (said told opened) (can-now told) (isolated_before told opened)

    pub safe-begun : SavesDrive b.config b.found b.entries s now old behind wrote.Done → IsSafe b now (length b.entries) behind
    safe-begun saved = record {
      at = safe-first b.config b.found b.entries b.pages.units s now firm old behind cut durable can-now saved;
      apart = λ told opened. drive-said b.config b.found b.entries firm s now b.pages.units old behind (known-first (subst IsTrue saved.calls.made.run.told told) opened) wrote.Done saved;
    }

    pub survives-begun : SavesDrive b.config b.found b.entries s now old behind answer → Survives b firm (length b.entries) old behind
    survives-begun saved =
        run-safe b.config b.found b.opened b.entries firm (length b.entries) old behind (survives-first b.config b.found b.entries b.pages.units s now firm old behind cut durable can-now answer saved)
        (λ told opened. drive-image b.config b.found b.entries firm s now b.pages.units old behind (known-first told opened) answer saved)

    -- what the areas say is isolated behind it, done or failed
    pub said-begun : SavesDrive b.config b.found b.entries s now old behind answer → IsTrue behind.told → OpenedApart b.config b.found b.opened → AreSaidApart b.config now behind.cells
    said-begun saved told opened = drive-said b.config b.found b.entries firm s now b.pages.units old behind (known-first (subst IsTrue saved.calls.made.run.told told) opened) answer saved

-- ---- a whole step

-- A step that added these entries is safe of stops, where none of them is owed at its end.
pub safe-of-stops : (b new : BookSeen) (es : List Entry) (s : JournalState) (firm now_firm from : ℕ) (old now : FlashState) → new.entries ≡ b.entries ++ es → AreFirm b.entries firm → All (λ e. IsFalse (is_owed now.moment e)) es → Survives new firm from old now → IsSafe new s now_firm now
    → IsStopSafe new.config new.found new.entries firm now_firm old now
safe-of-stops b new es s firm now_firm from old now entries_are firmed none run safe =
    let stands : Runs old now (λ m image. StandsForBeginning new.config new.found new.entries firm image) =
    runs_weakened old now (λ m image. IsSafeImage new.config new.found new.opened new.entries firm from image) (λ m image. StandsForBeginning new.config new.found new.entries firm image) run (λ told m image above most is. is.stands) in
    record {
      images =
          subst (λ (xs : List Entry). Runs old now (λ m image. StandsForKept new.config new.found xs firm m image)) (sym entries_are)
          (run-kept new.config new.found b.entries es firm old now firmed none
          (subst (λ (xs : List Entry). Runs old now (λ m image. StandsForBeginning new.config new.found xs firm image)) entries_are stands));
      cells = λ told. durable-stands new.config new.found new.entries now_firm s new.pages.units now.cells (safe.at.durable told);
    }

-- And data stands apart in whatever a stop in it leaves, and behind it, where the cells that were opened kept it apart.
pub stop-apart : (new : BookSeen) (s : JournalState) (firm now_firm from : ℕ) (old now : FlashState) → Survives new firm from old now → IsSafe new s now_firm now → KeepsIsolated now new → OpenedApart new.config new.found new.opened → IsStopApart new.config new.found new.entries from old now
stop-apart new s firm now_firm from old now run safe isolated_then opened = record {
  images = runs_weakened old now (λ m image. IsSafeImage new.config new.found new.opened new.entries firm from image) (λ m image. StandsApart new.config new.found new.entries from image) run (λ told m image above most is. is.apart opened);
  cells = λ told. cells-apart new s now_firm now safe isolated_then told opened;
}
