-- What holds of a flash holds of one that was only looked at since.
use Rattle.std.proofs.Common.{◌≡◌, ◌⊎◌, ℕ, IsTrue, [], ◌∙◌, inl, inr, ⊎_elim}
use Rattle.std.specs.Prelude.{IfErr, IfOk, IsFalse, Result, Ok, Err}
use Rattle.fdp_base.specs.declared.config.DriveConfig.{DriveConfig}
use Rattle.fdp_base.specs.Config.{IsValidConfig}
use Rattle.fdp_base.specs.Placement.{geometry_of}
use Rattle.fdp_keeper.specs.fdp_book.Book.{BookSeen, written_in}
use Rattle.fdp_keeper.specs.fdp_durability.Durable.{IsDurable}
use Rattle.fdp_flash.specs.FlashState.{FlashState, IsWellFormed}
use Rattle.fdp_flash.proofs.Failing.{failed_behind}
use Rattle.fdp_image.specs.Checkpoint.{reading_of_state}
use Rattle.fdp_image.specs.Roomy.{is_blank_unit}
use Rattle.fdp_image.specs.StandsFor.{StandsFor}
use Rattle.fdp_keeper.specs.Keeper.{KeeperSeen}
use Rattle.fdp_loading.specs.declared.loaded.Loaded.{Loaded}
use Rattle.fdp_loading.specs.Begun.{Begins, BeginsFound, BeginsFresh}
use Rattle.fdp_loading.specs.Loaded.{IsPrepared, SayOne}
use Rattle.fdp_loading.specs.Made.{IsBegun, IsFoundDrive, IsFreshDrive, TellsPages}
use Rattle.fdp_loading.specs.Refused.{IsNotLoaded}
use Rattle.fdp_loading.proofs.Looked.{IsAlike, alike-back, alike-looks, looks-joined, told-over}
use Rattle.fdp_loading.proofs.Opened.{found-begins}
use Rattle.fdp_loading.proofs.Unwritten.{fresh-begins}
use Rattle.fdp_keeper.specs.fdp_locations.Stored.{HoldsWritten}
use Rattle.fdp_keeper.specs.fdp_opening.Found.{IsFirstAstray}
use Rattle.fdp_keeper.specs.fdp_recovery.declared.opened.OpenFault.{OpenFault}
use Rattle.fdp_keeper.specs.fdp_recovery.declared.opened.OpenFault.TheVariants as faults
use Rattle.fdp_keeper.specs.fdp_recovery.Opened.{CanGoOn, EndsOpening, IsFound, IsFresh}
use Rattle.fdp_keeper.specs.fdp_recovery.Walking.{OnlyLooks}
use Rattle.fdp_keeper.specs.fdp_saving.Saver.{IsSaverIn}
use Rattle.fdp_snapshot.specs.declared.state.State.{State}
use Rattle.fdp_survival.specs.Apart.{AreSaidApart, ReadsIsolated}
use Rattle.fdp_survival.specs.fdp_isolation.Begun.{OpenedApart}
use Rattle.fdp_units.specs.DataUnits.{is_free}
use Rattle.fdp_units.specs.UnitTable.{IsUnit, state_at}

module _ (c : DriveConfig) (old new : FlashState) (alike : IsAlike old new) where
  pub begins-over : (b : BookSeen) (epoch : ℕ) → Begins c old b epoch → Begins c new b epoch
  begins-over b epoch h = record {
    with = ⊎_elim
        (λ (x : BeginsFresh c old b epoch). inl (record { book = x.book; epoch_is = x.epoch_is; told = told-over (IsFresh c) old new alike x.told }))
        (λ (x : BeginsFound c old b epoch). inr (record {
          state = x.state;
          area = x.area;
          goes_on = x.goes_on;
          book = x.book;
          valid = x.valid;
          opened_is = told-over (λ g cells. b.opened ≡ cells) old new alike x.opened_is;
          told = told-over (λ g cells. IsFound c g cells x.state x.area epoch) old new alike x.told;
        }))
        h.with;
    stood = told-over (λ g cells. StandsFor c b.found cells []) old new alike h.stood;
    apart = told-over (λ g cells. ReadsIsolated c cells → OpenedApart c b.found b.opened) old new alike h.apart;
  }

  pub prepared-over : (b : BookSeen) (k : KeeperSeen) (epoch : ℕ) → IsPrepared c old b k epoch → IsPrepared c new b k epoch
  prepared-over b k epoch h = record {
    order = h.order;
    config_is = h.config_is;
    stored = told-over (λ g cells. HoldsWritten g cells (written_in b) b.pages.units) old new alike h.stored;
    units = told-over (λ g cells. (unit : ℕ) → IsUnit b.pages.units unit → IsTrue (is_free (state_at b.pages.units unit)) ⊎ IsFalse (is_blank_unit (geometry_of c) cells unit)) old new alike h.units;
    durable = told-over (λ g cells. IsDurable b.config b.found b.entries 0 k.saver b.pages.units cells) old new alike h.durable;
    says = told-over (λ g cells. SayOne b.config k.saver cells) old new alike h.says;
    said = λ t opened. told-over (λ g cells. AreSaidApart b.config k.saver cells) old new alike (λ was. h.said was opened) t;
    can = record {
      keeper = h.can.keeper;
      geometry = alike.geometry ∙ h.can.geometry;
      epoch = h.can.epoch;
      saver = told-over (λ g cells. IsSaverIn cells k.saver) old new alike h.can.saver;
    };
    epoch_is = h.epoch_is;
    few = h.few;
    firm_is = h.firm_is;
  }

-- a fresh drive, over a flash that was found to be so
pub begun-unwritten : (c : DriveConfig) (old new : FlashState) (b : BookSeen) (k : KeeperSeen) → IsValidConfig c → IsWellFormed old → old.geometry ≡ geometry_of c → (IsTrue old.told → IsFresh c old.geometry old.cells) → OnlyLooks old new → new.faults ≡ old.faults → IsFreshDrive c b k
    → IsBegun c old new b k
begun-unwritten c old new b k config formed cut told looks faults h =
    let both = fresh-begins c old b k config formed cut told h in
    record { epoch = 0; begins = both.0; prepared = prepared-over c old new (alike-looks old new looks) b k 0 both.1; faults = faults }

-- the drive of an image, over a flash that was looked at twice
module _ (c : DriveConfig) (old mid new : FlashState) (s : State) (area epoch : ℕ) (first : OnlyLooks old mid) (then : OnlyLooks mid new) (told : IsTrue old.told → IsFound c old.geometry old.cells s area epoch) (quiet : mid.faults ≡ old.faults) where
  pub begun-opened : (b : BookSeen) (k : KeeperSeen) → IsValidConfig c → CanGoOn c s area epoch → new.faults ≡ mid.faults → IsFoundDrive c new s area epoch b k → IsBegun c old new b k
  begun-opened b k config goes faults h =
      let alike = alike-looks old new (looks-joined old mid new first then) in
      let both = found-begins c new b k s area epoch config goes (told-over (λ g cells. IsFound c g cells s area epoch) old new alike told) h in
      record { epoch = epoch; begins = begins-over c new old (alike-back old new alike) b epoch both.0; prepared = both.1; faults = faults ∙ quiet }

  -- or why it is none
  pub refused-opened : (fault : OpenFault) → TellsPages c mid (reading_of_state s) fault → EndsOpening {X = Loaded} mid new (Err fault) → IsNotLoaded c old new fault
  refused-opened (faults.OtherConfig key) tells ends = absurd tells
  refused-opened faults.NotADrive tells ends = absurd tells
  refused-opened (faults.BadImage page) tells ends = record {
    told = λ t. inr (record {
      state = s;
      area = area;
      epoch = epoch;
      found = told t;
      astray = told-over (λ g cells. IsFirstAstray c cells (reading_of_state s) page) mid old (alike-back old mid (alike-looks old mid first)) tells t;
    });
    left = record { looks = looks-joined old mid new first then; faults = ends ∙ quiet };
  }
  refused-opened (faults.FlashFault moment) tells ends = record {
    told = λ t. tt;
    left = record { last = failed_behind old mid new (λ m image. image ≡ old.cells) moment first.reads.held.run ends; left = inl (looks-joined old mid new first then) };
  }
  refused-opened faults.Spent tells ends = absurd tells
  refused-opened faults.NoMemory tells ends = record { told = λ t. tt; left = record { looks = looks-joined old mid new first then; faults = ends ∙ quiet } }

  -- by the answer
  pub ok-opened : IsValidConfig c → CanGoOn c s area epoch → (result : Result Loaded OpenFault) → EndsOpening mid new result → IfOk result (λ made. IsFoundDrive c new s area epoch made.book made.keeper) → IfOk result (λ made. IsBegun c old new made.book made.keeper)
  ok-opened config goes (Ok made) ends h = begun-opened made.book made.keeper config goes ends h
  ok-opened config goes (Err fault) ends h = tt

  pub err-opened : (result : Result Loaded OpenFault) → EndsOpening mid new result → IfErr result (TellsPages c mid (reading_of_state s)) → IfErr result (IsNotLoaded c old new)
  err-opened (Ok made) ends h = tt
  err-opened (Err fault) ends h = refused-opened fault h ends
