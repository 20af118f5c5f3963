-- A group that was opened over a flash.
use Rattle.std.proofs.Common.{◌≡◌, ◌⊎◌, ℕ, ◌≤◌, Bool, true, false, List, [], ◌∷◌, Some, None, length, refl, sym, ◌∙◌, ap, subst, arith, inl, inr, ⊎_elim}
use Rattle.fdp_base.specs.declared.config.DriveConfig.{DriveConfig}
use Rattle.fdp_base.specs.declared.config.Geometry.{Geometry}
use Rattle.fdp_base.specs.Placement.{geometry_of}
use Rattle.fdp_relocation.specs.fdp_book.Book.{BookSeen, point_in}
use Rattle.fdp_core.specs.Sound.{IsWhole}
use Rattle.fdp_flash.specs.FlashState.{FlashState}
use Rattle.fdp_relocation.specs.fdp_keeper.Keeper.{KeeperSeen}
use Rattle.fdp_relocation.specs.fdp_readings.Drawn.{drawn}
use Rattle.fdp_relocation.specs.fdp_saving.Said.{ReadsAsOneOf}
use Rattle.fdp_loading.proofs.fdp_ledger.System.{same-blank}
use Rattle.fdp_loading.specs.JournalRoom.{savings_left}
use Rattle.fdp_loading.specs.fdp_recovery.Opened.{IsFresh}
use Rattle.fdp_loading.specs.fdp_ledger.Counted.{counts_of}
use Rattle.fdp_loading.specs.Loaded as loaded
use Rattle.fdp_core.specs.Loading.{IsLoaded, IsNewDrive, IsOpenedDrive, IsNotUsedUp}
use Rattle.fdp_core.specs.Seen.{Seen}
use Rattle.fdp_flash.specs.Runs.{Runs}
use Rattle.fdp_flash.proofs.Runs.{runs_weakened}
use Rattle.fdp_image.specs.Kept.{StandsForBeginning}
use Rattle.fdp_loading.specs.fdp_isolation.Begun.{OpenedApart}
use Rattle.fdp_loading.specs.fdp_survival.Apart.{IsStopApart, StandsApart}
use Rattle.fdp_loading.specs.fdp_survival.Safe.{IsSafeImage}
use Rattle.fdp_loading.specs.Refused.{IsNotLoaded}
use Rattle.fdp_loading.specs.Opens.{LeavesOpen}
use Rattle.fdp_loading.proofs.fdp_durability.Durable.{durable-stands}
use Rattle.fdp_loading.proofs.Looked.{looks-none}
use Rattle.fdp_loading.proofs.Opens.{images-open}
use Rattle.fdp_loading.proofs.Unwritten.{reads-fresh}
use Rattle.fdp_relocation.specs.fdp_recovery.declared.opened.OpenFault.TheVariants as faults
use Rattle.std.specs.Prelude.{All, IsTrue}
use Rattle.std.proofs.lemmas.List.Elements.{All-cons, All-nil}
use Rattle.std.specs.List.{list_any}
use Rattle.fdp_base.specs.declared.entry.Entry.TheVariants as entries
use Rattle.fdp_base.specs.EntryKinds.{wears_group}
use Rattle.fdp_image.specs.Checkpoint.{reading_of_state}
use Rattle.fdp_image.specs.Reading.{Reading}
use Rattle.fdp_image.specs.Areas.{current_area}
use Rattle.fdp_image.specs.Reads.{fresh_reading, is_spent, reads_as}
use Rattle.fdp_image.specs.Roomy.{IsRoomy}
use Rattle.fdp_loading.specs.Begun.{BeginsFound, BeginsFresh}
use Rattle.fdp_loading.specs.fdp_isolation.Laned.{IsKnown}
use Rattle.fdp_rules.specs.History.{Found, fresh}
use Rattle.fdp_roominess.specs.Room.{HaveRoom}
use Rattle.fdp_roominess.specs.Roomy.{LeavesRoom}
use Rattle.fdp_roominess.specs.Run.{BeganRoomy, IsRoomyImage, KeepsRoom}
use Rattle.fdp_roominess.proofs.Begun.{fresh-room, opened-room}
use Rattle.fdp_roominess.proofs.Leaving.{empty-leaves, roomy-leaves}
use Rattle.fdp_roominess.proofs.Images.{one-roomy}
use Rattle.fdp_roominess.proofs.Reading.{drawn-room}
use Rattle.fdp_roominess.proofs.Runs.{keeps-begun}

never : false ≡ true → ⊥
never e = cc

some-is : {r q : Reading} → Some r ≡ Some q → r ≡ q
some-is e = cc

no-page : (c : DriveConfig) (nsid lba : ℕ) → (fresh_reading c).pages nsid lba ≡ None
unfolding fresh_reading
no-page c nsid lba = refl

-- ---- room

module _ (c : DriveConfig) (old new : FlashState) (b : BookSeen) (k : KeeperSeen) (l : loaded.IsLoaded c old new b k) where
  known : IsKnown b
  known = l.stands.order.known

  -- the image over which a run began with room is roomy
  roomy-found : (x : BeginsFound c old b l.epoch) → BeganRoomy new.told b → IsRoomy c b.opened (reading_of_state x.state)
  roomy-found x = ⊎_elim
      (λ (fresh : b.found.is_image ≡ false). absurd (never (sym fresh ∙ ap (λ (f : Found). f.is_image) x.book.found_is)))
      (λ roomy.
      let told : IsTrue old.told = subst IsTrue l.stops.told roomy.0 in
      let image = roomy.1 in
      let reads : reads_as c b.opened ≡ Some (reading_of_state x.state) = ap (reads_as c) (x.opened_is told) ∙ (x.told told).left.reads in
      let said : reads_as c b.opened ≡ Some image.0 = ap (λ (d : DriveConfig). reads_as d b.opened) (sym l.stands.config_is) ∙ image.1 in
      let same : image.0 ≡ reading_of_state x.state = some-is (sym said ∙ reads) in
      subst (IsRoomy c b.opened) same (subst (λ (d : DriveConfig). IsRoomy d b.opened image.0) l.stands.config_is image.2))

  -- a fresh drive has room, and so has one whose image is roomy
  begins : BeganRoomy new.told b → HaveRoom b.pages
  begins began = ⊎_elim
      (λ (x : BeginsFresh c old b l.epoch). fresh-room c b known x.book)
      (λ (x : BeginsFound c old b l.epoch). opened-room c b.opened (reading_of_state x.state) b known x.valid x.book (roomy-found x began))
      l.begins.with

  -- what stood on the flash leaves room then
  stood-leaves : BeganRoomy new.told b → IsTrue old.told → (r : Reading) → reads_as c old.cells ≡ Some r → LeavesRoom c r
  stood-leaves began told r read = ⊎_elim
      (λ (x : BeginsFresh c old b l.epoch).
      let cut : old.geometry ≡ geometry_of c = sym l.stops.geometry ∙ l.stands.geometry ∙ ap geometry_of l.stands.config_is in
      let fresh : IsFresh c (geometry_of c) old.cells = subst (λ (g : Geometry). IsFresh c g old.cells) cut (x.told told) in
      subst (LeavesRoom c) (some-is (sym (reads-fresh c old.cells fresh.unsealed.none fresh.blank) ∙ read)) (empty-leaves c (fresh_reading c) (no-page c)))
      (λ (x : BeginsFound c old b l.epoch).
      subst (LeavesRoom c) (some-is (sym (x.told told).left.reads ∙ read)) (roomy-leaves c b.opened (reading_of_state x.state) x.valid (roomy-found x began)))
      l.begins.with

  -- and so does what the history draws
  drawn-leaves : BeganRoomy new.told b → LeavesRoom c (drawn c (point_in b))
  drawn-leaves began = subst (λ (d : DriveConfig). LeavesRoom d (drawn d (point_in b))) l.stands.config_is (drawn-room b known (drawn b.config (point_in b)) refl (begins began))

  -- so whatever a stop left is a roomy image
  left-roomy : BeganRoomy new.told b → Runs old new (λ m image. IsRoomyImage c image)
  left-roomy began = by old.told refl where
    by : (told : Bool) → old.told ≡ told → Runs old new (λ m image. IsRoomyImage c image)
    by true told =
        let h = l.reads told in
        let d = drawn c (point_in b) in
        let leave : All (LeavesRoom c) (h.reading ∷ d ∷ []) = All-cons (LeavesRoom c) h.reading (d ∷ []) (stood-leaves began told h.reading h.read) (All-cons (LeavesRoom c) d [] (drawn-leaves began) (All-nil (LeavesRoom c))) in
        runs_weakened old new (λ m image. ReadsAsOneOf c old.cells (h.reading ∷ d ∷ []) image) (λ m image. IsRoomyImage c image) h.images
        (λ again m image above most reads. one-roomy c old.cells (h.reading ∷ d ∷ []) image leave reads)
    by false untold =
        runs_weakened old new (λ m image. IsSafeImage b.config b.found b.opened b.entries 0 (length b.entries) image) (λ m image. IsRoomyImage c image) l.stops
        (λ told m image above most safe. absurd (never (sym untold ∙ told)))

-- ---- the group

-- what was loaded stands for its history, with a buffer for a block
pub whole-loaded : (c : DriveConfig) (old new : FlashState) (b : BookSeen) (k : KeeperSeen) (block : List ℕ) → loaded.IsLoaded c old new b k → length block ≡ c.block → IsWhole (counts_of old) new b k block
whole-loaded c old new b k block l size = record {
  sound = record {
    geometry = l.stands.geometry;
    legal = λ moments. l.stands.idle.legal new.told;
    stored = l.stands.stored;
    apart = l.stands.apart;
    ledger = l.ledger;
    room = subst (λ (n : ℕ). KeepsRoom (counts_of old).faults n new.told b) (sym l.faults) (keeps-begun (counts_of old).faults new.told b none-worn (begins c old new b k l));
    buffer = size ∙ ap (λ (x : DriveConfig). x.block) (sym l.stands.config_is);
  };
  kept = record {
    keeper = l.saved.keeper;
    safe = l.saved.safe;
    epochs = let next = l.saved.epoch_is in let few = l.saved.few in omega (arith, next, few);
    doubt = λ doubt. absurd (never (sym l.saved.sure ∙ doubt));
    sixteen = let left = l.saved.left in omega (arith, left);
  };
} where
  -- no group is worn yet
  none-worn : list_any wears_group b.entries ≡ false
  none-worn = ⊎_elim
      (λ (none : b.entries ≡ []). ap (list_any wears_group) none)
      (λ (one : b.entries ≡ entries.Reopened ∷ []). ap (list_any wears_group) one)
      l.stands.idle.entries_are

-- no memory for the buffer leaves the flash as it is
pub refused-at-once : (c : DriveConfig) (flash : FlashState) → IsNotLoaded c flash flash faults.NoMemory
refused-at-once c flash = record { told = λ t. tt; left = record { looks = looks-none flash; faults = refl } }

-- a drive as its configuration makes it has no image
pub unimaged : (c : DriveConfig) → (fresh c).is_image ≡ false
unfolding fresh
unimaged c = refl

-- and it goes on from what stood on the flash
pub group-loaded : {F : Type 0} (state : F → FlashState) (c : DriveConfig) (flash : F) (group : Seen F) → loaded.IsLoaded c (state flash) (state group.flash) group.book group.keeper → group.handed ≡ counts_of (state flash) → IsLoaded state c flash group
group-loaded state c flash group l handed = record {
  config_is = l.stands.config_is;
  handed_is = handed;
  began = ⊎_elim
      (λ (x : BeginsFresh c (state flash) group.book l.epoch). inl (record { entries_are = x.book.entries_are; found_is = x.book.found_is; fresh_is = x.told }))
      (λ (x : BeginsFound c (state flash) group.book l.epoch).
      inr (record { entries_are = x.book.entries_are; is_image = ap (λ (f : Found). f.is_image) x.book.found_is; opened_is = x.opened_is; unspent = λ told. unspent-found x told }))
      l.begins.with;
  geometry = l.stands.geometry ∙ ap geometry_of is;
  sure = l.saved.sure;
  left = subst (λ (x : DriveConfig). 16 ≤ savings_left x group.keeper.saver) is l.saved.left;
  spare_is = l.stands.idle.spare_is;
  spent_is = l.stands.idle.spent_is;
  order = l.stands.order;
  stood = l.begins.stood;
  emptied = λ told. record { was = λ unit low blank none. same-blank (geometry_of c) (state flash).cells (state group.flash).cells unit (l.same told) low blank };
  faults = l.faults;
  firm = l.saved.firm_is;
  stops =
      subst (λ (x : DriveConfig). Runs (state flash) (state group.flash) (λ m image. StandsForBeginning x group.book.found group.book.entries 0 image)) is
      (runs_weakened (state flash) (state group.flash) (λ m image. IsSafeImage group.book.config group.book.found group.book.opened group.book.entries 0 (length group.book.entries) image)
      (λ m image. StandsForBeginning group.book.config group.book.found group.book.entries 0 image) l.stops (λ told m image above most safe. safe.stands));
  opened = l.begins.apart;
  roomy = began-roomy;
  stays_roomy = left-roomy c (state flash) (state group.flash) group.book group.keeper l;
  apart =
      subst (λ (x : DriveConfig). OpenedApart x group.book.found group.book.opened → IsStopApart x group.book.found group.book.entries (length group.book.entries) (state flash) (state group.flash)) is
      (λ opened. record {
        images =
            runs_weakened (state flash) (state group.flash) (λ m image. IsSafeImage group.book.config group.book.found group.book.opened group.book.entries 0 (length group.book.entries) image)
            (λ m image. StandsApart group.book.config group.book.found group.book.entries (length group.book.entries) image) l.stops (λ told m image above most safe. safe.apart opened);
        cells = λ told. l.isolated told opened;
      });
  opens =
      subst (λ (x : DriveConfig). LeavesOpen x (state flash) (state group.flash)) is
      (images-open group.book.config group.book.found group.book.opened group.book.entries 0 (length group.book.entries) group.keeper.firm (state flash) (state group.flash) l.stops
      (λ told. durable-stands group.book.config group.book.found group.book.entries group.keeper.firm group.keeper.saver group.book.pages.units (state group.flash).cells (l.saved.safe.at.durable told)));
} where
  is : group.book.config ≡ c
  is = l.stands.config_is

  cut : (state flash).geometry ≡ geometry_of c
  cut = sym l.stops.geometry ∙ l.stands.geometry ∙ ap geometry_of l.stands.config_is

  -- the image that was opened is not spent
  unspent-found : BeginsFound c (state flash) group.book l.epoch → IsTrue (state flash).told → IsNotUsedUp c (state flash).cells
  unspent-found x told =
      let f = x.told told in
      record {
        reading = reading_of_state x.state;
        read = f.left.reads;
        area = x.area;
        sealed = f.left.z;
        current = subst (λ (g : Geometry). current_area g (state flash).cells ≡ Some (x.area, f.left.z)) cut f.left.current.current;
        unspent = subst (λ (n : ℕ). is_spent (reading_of_state x.state) n ≡ false) f.left.epoch_is f.unspent;
      }

  -- a fresh drive begins with room, and so does one over a roomy image
  began-roomy : IsTrue (state flash).told → IsRoomyImage c (state flash).cells → BeganRoomy (state flash).told group.book
  began-roomy told roomy = ⊎_elim
      (λ (x : BeginsFresh c (state flash) group.book l.epoch). inl (ap (λ (f : Found). f.is_image) x.book.found_is ∙ unimaged c))
      (λ (x : BeginsFound c (state flash) group.book l.epoch).
      inr (told, subst (IsRoomyImage group.book.config) (sym (x.opened_is told)) (subst (λ (d : DriveConfig). IsRoomyImage d (state flash).cells) (sym is) roomy)))
      l.begins.with

-- the history of a drive that was opened has no entry, or that of the opening
pub entries-begun : {F : Type 0} (state : F → FlashState) (c : DriveConfig) (flash : F) (group : Seen F) → IsLoaded state c flash group → (group.book.entries ≡ []) ⊎ (group.book.entries ≡ entries.Reopened ∷ [])
entries-begun state c flash group l = ⊎_elim (λ (x : IsNewDrive c (state flash) group.book). inl x.entries_are) (λ (x : IsOpenedDrive c (state flash) group.book). inr x.entries_are) l.began
