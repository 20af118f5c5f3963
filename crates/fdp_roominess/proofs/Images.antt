-- Whatever a stop leaves while a drive has room is roomy, as long as nothing is in doubt.
use Rattle.std.proofs.Common.{◌≡◌, ℕ, ◌<◌, Bool, true, false, List, [], ◌∷◌, Some, refl, sym, ◌∙◌, ap, subst}
use Rattle.std.specs.Prelude.{All, Contains, IsTrue, slice_get}
use Rattle.std.proofs.lemmas.List.Elements.{All-cons, All-nil}
use Rattle.fdp_base.specs.declared.config.DriveConfig.{DriveConfig}
use Rattle.fdp_base.specs.declared.config.Geometry.{Geometry}
use Rattle.fdp_base.specs.declared.entry.Entry.{Entry}
use Rattle.fdp_base.specs.declared.entry.Spot.{Spot}
use Rattle.fdp_base.specs.declared.entry.Totals.{Totals}
use Rattle.fdp_base.specs.Placement.{geometry_of}
use Rattle.fdp_book.specs.Book.{BookSeen, IsLonger, point_in, written_in}
use Rattle.fdp_book.proofs.Longer.{point-one}
use Rattle.fdp_durability.specs.Durable.{IsDurable, SaysDrawn}
use Rattle.fdp_durability.specs.Saved.{SavesDrive, SavesEntries, SettlesDrive}
use Rattle.fdp_durability.proofs.Durable.{durable-program}
use Rattle.fdp_durability.proofs.Empty.{drawn-empty}
use Rattle.fdp_durability.proofs.Stepping.{durable-step}
use Rattle.fdp_durability.specs.fdp_collector.Copying.{IsDataPage}
use Rattle.fdp_durability.specs.fdp_collector.Leaving.{StepMayLeave}
use Rattle.fdp_durability.specs.fdp_journal.JournalState.{JournalState}
use Rattle.fdp_durability.specs.fdp_readings.Drawn.{drawn}
use Rattle.fdp_durability.proofs.Said.{base-saved}
use Rattle.fdp_durability.specs.fdp_saving.declared.saved.Saved.{Saved}
use Rattle.fdp_durability.specs.fdp_saving.declared.saved.Saved.TheVariants as answers
use Rattle.fdp_durability.specs.fdp_saving.Said.{AreasSay, ReadsAsOneOf}
use Rattle.fdp_durability.specs.fdp_saving.Saver.{needs_checkpoint}
use Rattle.fdp_durability.specs.fdp_saving.Saving.{base_of, within_checkpoint, within_renewal, within_saved}
use Rattle.fdp_durability.proofs.fdp_saving.Alone.{sure_is_read, sure_says}
use Rattle.fdp_flash.specs.declared.answer.Wrote.{Wrote}
use Rattle.fdp_flash.specs.declared.cell.Cell.{Cell}
use Rattle.fdp_flash.specs.declared.cell.Cell.TheVariants.{Blank}
use Rattle.fdp_flash.specs.Cells.{ProgramMayLeave}
use Rattle.fdp_flash.specs.FlashState.{FlashState}
use Rattle.fdp_flash.specs.Layout.{page_number}
use Rattle.fdp_flash.specs.Runs.{Holds, Runs}
use Rattle.fdp_flash.proofs.Runs.{runs_weakened}
use Rattle.fdp_history.specs.Standing.{IsStanding}
use Rattle.fdp_image.specs.Applied.{with_changes}
use Rattle.fdp_image.specs.Checkpoint.{reading_of_state}
use Rattle.fdp_image.specs.Reading.{Reading}
use Rattle.fdp_isolation.specs.Laned.{IsKnown}
use Rattle.fdp_rules.specs.Point.{Point}
use Rattle.fdp_base.specs.declared.entry.Totals.{Totals}
use Rattle.fdp_records.specs.declared.change.Change.{Change}
use Rattle.fdp_rules.proofs.Pushes.{point_of-push}
use Rattle.fdp_snapshot.specs.declared.state.State.{State}
use Rattle.fdp_units.specs.UnitTable.{UnitTable, cut_of}
use Rattle.fdp_roominess.specs.Room.{HaveRoom}
use Rattle.fdp_roominess.specs.Roomy.{LeavesRoom}
use Rattle.fdp_roominess.specs.Run.{IsRoomyImage}
use Rattle.fdp_roominess.proofs.Reading.{drawn-room, room-roomy}

-- ---- readings

-- one of a list of readings that leave room does
one-leaves : (c : DriveConfig) (rs : List Reading) (r : Reading) → All (LeavesRoom c) rs → Contains rs r → LeavesRoom c r
one-leaves c rs r all is = subst (LeavesRoom c) is.2 (all is.0 r is.1)

-- an image that reads as one of them is roomy
pub one-roomy : (c : DriveConfig) (old : List Cell) (rs : List Reading) (image : List Cell) → All (LeavesRoom c) rs → ReadsAsOneOf c old rs image → IsRoomyImage c image
one-roomy c old rs image all h = (h.reading, h.reads, room-roomy c image h.reading (one-leaves c rs h.reading all h.among))

three : (c : DriveConfig) (x y z : Reading) → LeavesRoom c x → LeavesRoom c y → LeavesRoom c z → All (LeavesRoom c) (x ∷ y ∷ z ∷ [])
three c x y z h k l = All-cons (LeavesRoom c) x (y ∷ z ∷ []) h (All-cons (LeavesRoom c) y (z ∷ []) k (All-cons (LeavesRoom c) z [] l (All-nil (LeavesRoom c))))

-- whatever a stop leaves of some calls is roomy, where it reads as one of readings that leave room
stops-roomy : (c : DriveConfig) (p : Point) (s : JournalState) (old now : FlashState) (rs : Reading → Reading → List Reading)
    → ((own tried : Reading) → (IsTrue old.told → AreasSay c s old.cells own tried) → (IsTrue old.told → SaysDrawn c p s own) → Holds (ReadsAsOneOf c old.cells (rs own tried)) old now)
    → (IsTrue old.told → (own : Reading) × AreasSay c s old.cells own own × SaysDrawn c p s own × All (LeavesRoom c) (rs own own)) → Runs old now (λ m image. IsRoomyImage c image)
stops-roomy c p s old now rs stops known = by old.told refl where
  some : Reading
  some = drawn c p

  never : false ≡ true → ⊥
  never e = cc

  by : (told : Bool) → old.told ≡ told → Runs old now (λ m image. IsRoomyImage c image)
  by true told =
      let h = known told in
      runs_weakened old now (λ m image. ReadsAsOneOf c old.cells (rs h.0 h.0) image) (λ m image. IsRoomyImage c image) (stops h.0 h.0 (λ again. h.1) (λ again. h.2)).run
      (λ again m image above most reads. one-roomy c old.cells (rs h.0 h.0) image h.3 reads)
  by false untold =
      runs_weakened old now (λ m image. ReadsAsOneOf c old.cells (rs some some) image) (λ m image. IsRoomyImage c image) (stops some some (λ told. absurd (never (sym untold ∙ told))) (λ told. absurd (never (sym untold ∙ told)))).run
      (λ told m image above most reads. absurd (never (sym untold ∙ told)))

-- what is drawn, with other sums, leaves room
pub drawn-leaves : (b : BookSeen) (r : Reading) → IsKnown b → HaveRoom b.pages → r ≡ record (drawn b.config (point_in b)) { totals = r.totals } → LeavesRoom b.config r
drawn-leaves b r known room same = drawn-room b known r (ap (λ (x : Reading). x.pages) same) room

-- ---- a drive of which nothing is in doubt

module _ (b : BookSeen) (known : IsKnown b) (room : HaveRoom b.pages) (s : JournalState) (firm : ℕ) (t : UnitTable) (cut : geometry_of b.config ≡ s.geometry) (sure : s.in_doubt ≡ false) where
  abbrev IsLasting : List Cell → Type 0
  IsLasting cells = IsDurable b.config b.found b.entries firm s t cells

  own-leaves : (cells : List Cell) (h : IsLasting cells) → LeavesRoom b.config h.own
  own-leaves cells h = drawn-leaves b h.own known room (h.sure sure)

  -- the cells over which all is durable are a roomy image
  pub durable-roomy : (cells : List Cell) → IsLasting cells → IsRoomyImage b.config cells
  durable-roomy cells h = (h.own, sure_is_read b.config s cells h.own h.tried cut h.saver sure h.say, room-roomy b.config cells h.own (own-leaves cells h))

  module _ (old now : FlashState) (sealed : 0 < s.stamp.epoch) (durable : IsTrue old.told → IsLasting old.cells) where
    -- calls that only read
    pub roomy-read : Runs old now (λ m image. image ≡ old.cells) → Runs old now (λ m image. IsRoomyImage b.config image)
    roomy-read run =
        runs_weakened old now (λ m image. image ≡ old.cells) (λ m image. IsRoomyImage b.config image) run
        (λ told m image above most same. subst (IsRoomyImage b.config) (sym same) (durable-roomy old.cells (durable told)))

    -- the program of a blank page of data
    pub roomy-program : (at : Spot) (spare bytes : List ℕ) → old.geometry ≡ geometry_of b.config → IsDataPage (geometry_of b.config) at → (IsTrue old.told → slice_get old.cells (page_number old.geometry at) ≡ Some Blank)
        → Runs old now (λ m image. ProgramMayLeave old.geometry old.cells at spare bytes image) → Runs old now (λ m image. IsRoomyImage b.config image)
    roomy-program at spare bytes geometry is blank run =
        runs_weakened old now (λ m image. ProgramMayLeave old.geometry old.cells at spare bytes image) (λ m image. IsRoomyImage b.config image) run
        (λ told m image above most left. durable-roomy image
        (durable-program b.config b.found b.entries firm s t old.cells image at spare bytes cut sealed is
        (subst (λ (g : Geometry). slice_get old.cells (page_number g at) ≡ Some Blank) geometry (blank told))
        (subst (λ (g : Geometry). ProgramMayLeave g old.cells at spare bytes image) geometry left)
        (durable told)))

    -- a step of relocation
    pub roomy-step : (may_erase : Bool) → b.pages.units ≡ t → IsStanding b.config (point_in b) → old.geometry ≡ geometry_of b.config → Runs old now (λ m image. StepMayLeave may_erase old.geometry b.pages.units b.pages.owners old.cells image) → Runs old now (λ m image. IsRoomyImage b.config image)
    roomy-step may_erase same standing geometry run =
        runs_weakened old now (λ m image. StepMayLeave may_erase old.geometry b.pages.units b.pages.owners old.cells image) (λ m image. IsRoomyImage b.config image) run
        (λ told m image above most left. durable-roomy image
        (durable-step b.config b.found b.entries firm s may_erase t b.pages.owners old.cells image cut sealed
        (ap cut_of (sym same) ∙ known.units.cut) (λ may. sure)
        (λ unit none. drawn-empty b.config (point_in b) (written_in b) known.led.at b.pages unit standing known.led.led none)
        (subst (λ (u : UnitTable). StepMayLeave may_erase (geometry_of b.config) u b.pages.owners old.cells image) same (subst (λ (g : Geometry). StepMayLeave may_erase g b.pages.units b.pages.owners old.cells image) geometry left))
        (durable told)))

    -- ---- savings

    -- what the areas say
    said-own : (told : IsTrue old.told) → AreasSay b.config s old.cells (durable told).own (durable told).own
    said-own told = let h = durable told in sure_says b.config s old.cells h.own h.tried h.own cut h.saver sure h.say

    given-leaves : (given : State) → reading_of_state given ≡ drawn b.config (point_in b) → LeavesRoom b.config (reading_of_state given)
    given-leaves given drive = drawn-room b known (reading_of_state given) (ap (λ (r : Reading). r.pages) drive) room

    base-leaves : (wanted : Bool) (given : State) → reading_of_state given ≡ drawn b.config (point_in b) → (told : IsTrue old.told) → LeavesRoom b.config (base_of wanted (durable told).own given)
    base-leaves true given drive told = given-leaves given drive
    base-leaves false given drive told = own-leaves old.cells (durable told)

    -- the whole drive is saved
    pub roomy-checkpoint : (then' : JournalState) (answer : Wrote) → SavesDrive b.config b.found b.entries s then' old now answer → Runs old now (λ m image. IsRoomyImage b.config image)
    roomy-checkpoint then' answer saved =
        stops-roomy b.config (point_in b) s old now (λ own tried. within_checkpoint own tried saved.given) (λ own tried say drawn_is. saved.stops own tried say)
        (λ told. let h = durable told in (h.own, said-own told, h.sure, three b.config h.own h.own (reading_of_state saved.given) (own-leaves old.cells h) (own-leaves old.cells h) (given-leaves saved.given saved.drive)))

    -- a doubt was to be settled, and there was none
    pub roomy-settled : (then' : JournalState) (answer : Wrote) → SettlesDrive b.config b.found b.entries s then' old now answer → Runs old now (λ m image. IsRoomyImage b.config image)
    roomy-settled then' answer saved =
        stops-roomy b.config (point_in b) s old now (λ own tried. within_renewal s.in_doubt own tried saved.given) (λ own tried say drawn_is. saved.stops own tried say)
        (λ told. let h = durable told in (h.own, said-own told, h.sure, three b.config h.own h.own (base_of s.in_doubt h.own saved.given) (own-leaves old.cells h) (own-leaves old.cells h) (base-leaves s.in_doubt saved.given saved.drive told)))

    -- an entry is saved, behind which the drive has room too
    pub roomy-saving : (e : Entry) (new : BookSeen) → IsKnown new → HaveRoom new.pages → IsLonger b new (e ∷ []) → (then' : JournalState) (answer : Saved) → SavesEntries b.config b.found b.entries (e ∷ []) s then' old now answer → Runs old now (λ m image. IsRoomyImage b.config image)
    roomy-saving e new then_known then_room longer then' answer saved =
        stops-roomy b.config (point_in b) s old now (λ own tried. within_saved b.config (needs_checkpoint s) own tried saved.given x answer) saved.stops
        (λ told. let h = durable told in (h.own, said-own told, h.sure, within told answer)) where
          x : List (Change × Totals)
          x = saved.first ∷ saved.rest

          -- with the changes what is said is what is drawn behind the entry
          applied-base : (told : IsTrue old.told) → with_changes b.config (base_of (needs_checkpoint s) (durable told).own saved.given) x ≡ drawn b.config (point_in new)
          applied-base told = base-saved b.config b.found b.entries (e ∷ []) s (durable told).own saved.given saved.first saved.rest saved.drive (durable told).sure saved.saves ∙ ap (drawn b.config) (point_of-push b.config b.found b.entries e ∙ sym (point-one b new e longer))

          with-leaves : (told : IsTrue old.told) → LeavesRoom b.config (with_changes b.config (base_of (needs_checkpoint s) (durable told).own saved.given) x)
          with-leaves told =
              subst (λ (c : DriveConfig). LeavesRoom c (with_changes b.config (base_of (needs_checkpoint s) (durable told).own saved.given) x)) longer.config_is
              (drawn-room new then_known (with_changes b.config (base_of (needs_checkpoint s) (durable told).own saved.given) x) (ap (λ (r : Reading). r.pages) (applied-base told ∙ ap (λ (c : DriveConfig). drawn c (point_in new)) (sym longer.config_is))) then_room)

          four : (told : IsTrue old.told) → All (LeavesRoom b.config) ((durable told).own ∷ (durable told).own ∷ base_of (needs_checkpoint s) (durable told).own saved.given ∷ with_changes b.config (base_of (needs_checkpoint s) (durable told).own saved.given) x ∷ [])
          four told =
              let P : Reading → Type 0 = LeavesRoom b.config in
              let own = (durable told).own in
              let base = base_of (needs_checkpoint s) own saved.given in
              let with = with_changes b.config base x in
              All-cons P own (own ∷ base ∷ with ∷ []) (own-leaves old.cells (durable told))
              (All-cons P own (base ∷ with ∷ []) (own-leaves old.cells (durable told))
              (All-cons P base (with ∷ []) (base-leaves (needs_checkpoint s) saved.given saved.drive told) (All-cons P with [] (with-leaves told) (All-nil P))))

          within : (told : IsTrue old.told) (answer : Saved) → All (LeavesRoom b.config) (within_saved b.config (needs_checkpoint s) (durable told).own (durable told).own saved.given x answer)
          within told answers.Done = four told
          within told (answers.Doubtful moment) = four told
          within told (answers.Unsaved moment) = three b.config (durable told).own (durable told).own (reading_of_state saved.given) (own-leaves old.cells (durable told)) (own-leaves old.cells (durable told)) (given-leaves saved.given saved.drive)
