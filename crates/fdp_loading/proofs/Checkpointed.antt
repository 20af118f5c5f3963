-- The first checkpoint of a run.
use Rattle.std.proofs.Common.{◌≡◌, ℕ, ◌+◌, ◌*◌, ◌<◌, ◌≤◌, Bool, true, false, List, [], ◌∷◌, Some, replicate, refl, sym, ◌∙◌, ap, subst, arith, inl, inr, ⊎_elim}
use Rattle.std.specs.Prelude.{◌||◌, Contains, Err, IfErr, IfOk, IsFalse, IsTrue, Ok, Result, length, not, slice_get}
use Rattle.std.proofs.lemmas.List.Elements.{All-cons, All-contains, All-contains_itself, All-head, All-nil, All-tail}
use Rattle.fdp_base.specs.declared.config.DriveConfig.{DriveConfig}
use Rattle.fdp_base.specs.declared.config.Geometry.{Geometry}
use Rattle.fdp_base.specs.declared.entry.Entry.{Entry}
use Rattle.fdp_base.specs.declared.entry.Entry.TheVariants as entries
use Rattle.fdp_base.specs.Geometry.{all_pages, data_units}
use Rattle.fdp_base.specs.Placement.{geometry_of}
use Rattle.fdp_keeper.specs.fdp_book.Book.{BookSeen, point_in, state_in, written_in}
use Rattle.fdp_keeper.specs.fdp_durability.Beginnings.{CanBeSaved}
use Rattle.fdp_keeper.specs.fdp_durability.Saved.{SavesDrive}
use Rattle.fdp_keeper.proofs.fdp_durability.Durable.{durable-stands}
use Rattle.fdp_keeper.proofs.fdp_durability.Savings.{checkpoint-done}
use Rattle.fdp_flash.specs.declared.answer.Wrote.{Wrote}
use Rattle.fdp_flash.specs.declared.answer.Wrote.TheVariants as wrote
use Rattle.fdp_flash.specs.declared.cell.Cell.{Cell}
use Rattle.fdp_flash.specs.declared.cell.Cell.TheVariants.{Blank}
use Rattle.fdp_flash.specs.Cells.{IsBlankUnit}
use Rattle.fdp_flash.specs.FlashState.{FlashState, IsWellFormed}
use Rattle.fdp_flash.proofs.Failing.{failed_behind}
use Rattle.fdp_flash.proofs.Runs.{runs_joined, runs_weakened}
use Rattle.fdp_keeper.proofs.fdp_found.Paging.{blank-tested}
use Rattle.fdp_keeper.proofs.fdp_found.Reopening.{legal-opened}
use Rattle.fdp_image.specs.Checkpoint.{reading_of_state}
use Rattle.fdp_image.specs.Kept.{StandsForBeginning}
use Rattle.fdp_image.specs.Reading.{Reading}
use Rattle.fdp_image.specs.Reads.{reads_as}
use Rattle.fdp_image.specs.Roomy.{is_blank_unit}
use Rattle.fdp_image.specs.Saving.{SameDataPages}
use Rattle.fdp_survival.specs.fdp_isolation.Begun.{OpenedApart}
use Rattle.fdp_survival.specs.fdp_isolation.Apart.{AreApart}
use Rattle.fdp_survival.proofs.fdp_isolation.Apart as isolation
use Rattle.fdp_survival.proofs.fdp_isolation.Leaving.{unwritten-unit}
use Rattle.fdp_survival.proofs.fdp_isolation.Saved.{holds-saved}
use Rattle.fdp_keeper.specs.fdp_journal.JournalState.{JournalState}
use Rattle.fdp_keeper.specs.Keeper.{KeeperSeen, KeepsDrive}
use Rattle.fdp_ledger.specs.Counted.{counts_of}
use Rattle.fdp_ledger.specs.Ledger.{IsLedger}
use Rattle.fdp_ledger.proofs.Begun.{AreUnitsBegun, HasOpened, ledger-begun}
use Rattle.fdp_ledger.proofs.System.{same-blank}
use Rattle.fdp_loading.specs.declared.loaded.Loaded.{Loaded}
use Rattle.fdp_loading.specs.Begun.{BeginsFound, BeginsFresh}
use Rattle.fdp_loading.specs.Loaded.{IsIdle, IsLoaded, IsPrepared, ReadsAsBegun, StandsBegun}
use Rattle.fdp_loading.specs.Made.{IsBegun, KeepsNone, SavesFirst}
use Rattle.fdp_loading.specs.JournalRoom.{savings_left}
use Rattle.fdp_loading.specs.Refused.{IsNotLoaded}
use Rattle.fdp_loading.proofs.Opens.{images-open}
use Rattle.fdp_loading.proofs.Blank.{blank-unit_from}
use Rattle.fdp_loading.proofs.Drawing.{media-none, media-reopened}
use Rattle.fdp_loading.proofs.JournalRoom.{checkpoint-leaves}
use Rattle.fdp_loading.proofs.Looked.{IsAlike, alike-looks}
use Rattle.fdp_loading.proofs.Unwritten.{free-first}
use Rattle.fdp_keeper.specs.fdp_locations.Stored.{HoldsWritten}
use Rattle.fdp_keeper.specs.fdp_readings.Drawn.{drawn}
use Rattle.fdp_keeper.specs.fdp_recovery.declared.opened.OpenFault.{OpenFault}
use Rattle.fdp_keeper.specs.fdp_recovery.declared.opened.OpenFault.TheVariants as faults
use Rattle.fdp_keeper.specs.fdp_recovery.Opened.{IsFresh}
use Rattle.fdp_keeper.specs.fdp_recovery.Walking.{OnlyLooks}
use Rattle.fdp_rules.specs.History.{Found, point_of}
use Rattle.fdp_rules.specs.Legal.{IsLegal, IsLegalAfter}
use Rattle.fdp_keeper.specs.fdp_saving.Said.{ReadsAsOneOf}
use Rattle.fdp_keeper.specs.fdp_saving.Saving.{within_checkpoint}
use Rattle.fdp_survival.specs.Apart.{StandsApart}
use Rattle.fdp_survival.specs.Books.{IsSafe, KeepsApart, KeepsIsolated, Survives}
use Rattle.fdp_survival.specs.Safe.{IsSafeImage}
use Rattle.fdp_survival.proofs.Orders.{book-saved}
use Rattle.fdp_survival.proofs.Apart.{durable-stands-apart}
use Rattle.fdp_survival.proofs.Steps.{keeps-isolated, safe-begun, said-begun, survives-begun}
use Rattle.fdp_units.specs.DataUnits.{is_free}
use Rattle.fdp_units.specs.UnitTable.{Cut, IsUnit, state_at}

-- no entry is legal
legal-none : (told : Bool) (c : DriveConfig) (f : Found) → IsLegal told c f []
unfolding IsLegalAfter
legal-none told c f = tt

none-had : (x : Bool) → x ≡ true → not x ≡ true → ⊥
none-had true is had = cc
none-had false is had = cc

had-not : (x : Bool) → x ≡ false → not x ≡ true
had-not x is = ap not is

told-of : (image told : Bool) → image ≡ true → (not image || told) ≡ true → told ≡ true
told-of true told is knows = knows
told-of false told is knows = absurd cc

-- one of three readings, of which the first two are the same, is one of two
one-of : (x y z r : Reading) → z ≡ y → Contains (x ∷ x ∷ z ∷ []) r → Contains (x ∷ y ∷ []) r
one-of x y z r same has =
    let IsOne : Reading → Type 0 = Contains (x ∷ y ∷ []) in
    let all = All-contains_itself (x ∷ y ∷ []) in
    let first : IsOne x = All-head IsOne x (y ∷ []) all in
    let last : IsOne y = All-head IsOne y [] (All-tail IsOne x (y ∷ []) all) in
    All-contains IsOne (x ∷ x ∷ z ∷ []) r (All-cons IsOne x (x ∷ z ∷ []) first (All-cons IsOne x (z ∷ []) first (All-cons IsOne z [] (subst IsOne (sym same) last) (All-nil IsOne)))) has

-- what a prepared book draws can be saved
can-here : (flash : FlashState) (b : BookSeen) (k : KeeperSeen) (epoch : ℕ) → IsPrepared b.config flash b k epoch → IsTrue flash.told → CanBeSaved b.config (point_in b) b.pages.units flash.cells
can-here flash b k epoch p t = book-saved b flash.cells p.order (subst (λ (x : Geometry). HoldsWritten x flash.cells (written_in b) b.pages.units) p.can.geometry (p.stored t))

-- a run whose drive is to be saved first, over a flash that was only looked at
module _ (old mid new : FlashState) (b : BookSeen) (k : KeeperSeen) (looks : OnlyLooks old mid) (begun : IsBegun b.config old mid b k) where
  abbrev g : Geometry
  g = geometry_of b.config

  p : IsPrepared b.config mid b k begun.epoch
  p = begun.prepared

  alike : IsAlike old mid
  alike = alike-looks old mid looks

  told-mid : IsTrue old.told → IsTrue mid.told
  told-mid t = subst IsTrue (sym alike.told) t

  cut-old : old.geometry ≡ g
  cut-old = sym alike.geometry ∙ p.can.geometry

  in-cut : (unit : ℕ) → IsUnit b.pages.units unit → unit < b.config.groups * b.config.units
  in-cut unit there = subst (λ (x : Cut). unit < x.groups * x.group_units) p.order.known.units.cut there

  stands-old : IsTrue old.told → StandsForBeginning b.config b.found b.entries 0 old.cells
  stands-old t = record { kept = []; lost = b.entries; beginning = record { split = refl }; enough = omega arith; stands = begun.begins.stood t }

  -- where what was opened keeps data apart, so do cells with the data pages that the flash had
  apart-over : IsWellFormed old → (cells : List Cell) → IsTrue old.told → SameDataPages b.config old.cells cells → OpenedApart b.config b.found b.opened → AreApart b cells
  apart-over formed cells t same apart = ⊎_elim
      (λ (x : BeginsFresh b.config old b begun.epoch).
      let fresh : IsFresh b.config g old.cells = subst (λ (y : Geometry). IsFresh b.config y old.cells) cut-old (x.told t) in
      isolation.fresh b.config b cells p.order.known x.book (λ unit is.
      same-blank g cells old.cells unit (λ page below. sym (same page below)) is
      (record { blank = λ page below. (blank-unit_from g old.cells (formed.size t ∙ ap all_pages cut-old) fresh.blank unit 0 is).blank page (omega arith) below })))
      (λ (x : BeginsFound b.config old b begun.epoch).
      isolation.found b.config (reading_of_state x.state) b cells p.order.known.config x.valid x.book apart
      (subst (λ (xs : List Cell). SameDataPages b.config xs cells) (sym (x.opened_is t)) same))
      begun.begins.with

  -- and it is isolated where the flash was only looked at
  isolated-mid : IsWellFormed old → KeepsIsolated mid b
  isolated-mid formed =
      keeps-isolated b mid p.order.known p.can.geometry p.stored (λ t apart.
      let was : IsTrue old.told = subst IsTrue alike.told t in
      apart-over formed mid.cells was (λ page below. ap (λ (xs : List Cell). slice_get xs page) (alike.cells was)) apart)

  -- what stands on the flash before the drive is saved
  image-old : IsWellFormed old → IsTrue old.told → IsSafeImage b.config b.found b.opened b.entries 0 (length b.entries) old.cells
  image-old formed t = record {
    stands = stands-old t;
    apart = λ opened.
        let m = told-mid t in
        subst (StandsApart b.config b.found b.entries (length b.entries)) (alike.cells t)
        (durable-stands-apart b.config b.found b.entries 0 k.saver b.pages.units mid.cells (p.durable m) (p.said m opened) (isolated-mid formed m opened));
  }

  opened-here : HasOpened b.entries
  opened-here = ⊎_elim
      (λ (x : BeginsFresh b.config old b begun.epoch). inl x.book.entries_are)
      (λ (x : BeginsFound b.config old b begun.epoch). inr x.book.entries_are)
      begun.begins.with

  idle-here : IsIdle b
  idle-here = ⊎_elim
      (λ (x : BeginsFresh b.config old b begun.epoch). record {
        entries_are = inl x.book.entries_are;
        spare_is = x.book.spare_is;
        spent_is = x.book.spent_is;
        room_is = x.book.room_is;
        legal = λ told. subst (IsLegal told b.config b.found) (sym x.book.entries_are) (legal-none told b.config b.found);
      })
      (λ (x : BeginsFound b.config old b begun.epoch). record {
        entries_are = inr x.book.entries_are;
        spare_is = x.book.spare_is;
        spent_is = x.book.spent_is;
        room_is = x.book.room_is;
        legal = λ told. subst (IsLegal told b.config b.found) (sym x.book.entries_are) (legal-opened b.config b.found told (ap (λ (f : Found). f.is_image) x.book.found_is));
      })
      begun.begins.with

  media-here : (state_in b).media ≡ []
  media-here = ⊎_elim
      (λ (none : b.entries ≡ []). ap (λ (es : List Entry). (point_of b.config b.found es).state.media) none ∙ media-none b.config b.found)
      (λ (one : b.entries ≡ entries.Reopened ∷ []). ap (λ (es : List Entry). (point_of b.config b.found es).state.media) one ∙ media-reopened b.config b.found)
      opened-here

  -- a checkpoint of it, with its answer
  module _ (now : KeeperSeen) (answer : Wrote) (keeps : KeepsDrive b k now mid new answer) where
    saved : SavesDrive b.config b.found b.entries k.saver now.saver mid new answer
    saved = keeps.saves

    cut-new : new.geometry ≡ g
    cut-new = saved.calls.made.run.geometry ∙ p.can.geometry

    told-back : IsTrue new.told → IsTrue mid.told
    told-back t = subst IsTrue saved.calls.made.run.told t

    told-old : IsTrue new.told → IsTrue old.told
    told-old t = subst IsTrue alike.told (told-back t)

    same-mid : IsTrue mid.told → SameDataPages b.config mid.cells new.cells
    same-mid t = let h = p.durable t in ((saved.stops h.own h.tried (λ again. h.say)).cells t).data_pages_same

    same-old : IsTrue old.told → SameDataPages b.config old.cells new.cells
    same-old t = subst (λ (xs : List Cell). SameDataPages b.config xs new.cells) (alike.cells t) (same-mid (told-mid t))

    programs-same : new.programs ≡ old.programs
    programs-same = saved.calls.programs ∙ looks.reads.programs

    survives : IsWellFormed old → Survives b 0 (length b.entries) old new
    survives formed =
        runs_joined old mid new (λ m image. IsSafeImage b.config b.found b.opened b.entries 0 (length b.entries) image)
        (runs_weakened old mid (λ m image. image ≡ old.cells) (λ m image. IsSafeImage b.config b.found b.opened b.entries 0 (length b.entries) image) looks.reads.held.run
        (λ t m image above most e. subst (IsSafeImage b.config b.found b.opened b.entries 0 (length b.entries)) (sym e) (image-old formed t)))
        (survives-begun b k.saver now.saver 0 mid new answer p.order p.can.geometry p.stored (isolated-mid formed) p.can.keeper.geometry p.durable p.said saved)

    -- whatever a stop leaves reads as what stood there, or as what is drawn
    reads-here : IsTrue old.told → ReadsAsBegun b.config b old new
    reads-here t =
        let m = told-mid t in
        let one = p.says m in
        let r = one.reading in
        let d = drawn b.config (point_in b) in
        let same = alike.cells t in
        let IsOne : List Cell → Type 0 = λ image. ReadsAsOneOf b.config old.cells (r ∷ d ∷ []) image in
        let read : reads_as b.config old.cells ≡ Some r = subst (λ (xs : List Cell). reads_as b.config xs ≡ Some r) same one.read in
        record {
          reading = r;
          read = read;
          images =
              runs_joined old mid new (λ k image. IsOne image)
              (runs_weakened old mid (λ k image. image ≡ old.cells) (λ k image. IsOne image) looks.reads.held.run
              (λ told k image above most is. subst IsOne (sym is) (record { reading = r; reads = read; among = one-of r d d r refl (All-head (Contains (r ∷ r ∷ d ∷ [])) r (r ∷ d ∷ []) (All-contains_itself (r ∷ r ∷ d ∷ []))); data_pages_same = λ page below. refl })))
              (runs_weakened mid new (λ k image. ReadsAsOneOf b.config mid.cells (within_checkpoint r r saved.given) image) (λ k image. IsOne image) (saved.stops r r (λ again. one.say)).run
              (λ told k image above most h. record {
                reading = h.reading;
                reads = h.reads;
                among = one-of r d (reading_of_state saved.given) h.reading saved.drive h.among;
                data_pages_same = subst (λ (xs : List Cell). SameDataPages b.config xs image) same h.data_pages_same;
              }));
        }

    stored-new : IsTrue new.told → HoldsWritten new.geometry new.cells (written_in b) b.pages.units
    stored-new t =
        let was : HoldsWritten g mid.cells (written_in b) b.pages.units = subst (λ (x : Geometry). HoldsWritten x mid.cells (written_in b) b.pages.units) p.can.geometry (p.stored (told-back t)) in
        subst (λ (x : Geometry). HoldsWritten x new.cells (written_in b) b.pages.units) (sym cut-new)
        (holds-saved b mid.cells new.cells (same-mid (told-back t)) (record { known = p.order.known; holds = was })).holds

    -- a unit of data that is all blank now was so
    blank-old : IsTrue old.told → (unit : ℕ) → unit < data_units g → IsBlankUnit g new.cells unit → IsBlankUnit g old.cells unit
    blank-old t unit low blank = same-blank g old.cells new.cells unit (same-old t) low blank

    apart-new : IsWellFormed old → KeepsApart new b
    apart-new formed t apart = apart-over formed new.cells (told-old t) (same-old (told-old t)) apart

    isolated-new : IsWellFormed old → KeepsIsolated new b
    isolated-new formed = keeps-isolated b new p.order.known cut-new stored-new (apart-new formed)

    stands-new : IsWellFormed old → StandsBegun b.config new b
    stands-new formed = record { order = p.order; config_is = refl; idle = idle-here; geometry = cut-new; stored = stored-new; apart = apart-new formed }

    -- the units as the ledger has them
    units-new : AreUnitsBegun b new
    units-new = record {
      plain = λ knows unit there. ⊎_elim
          (λ (x : BeginsFresh b.config old b begun.epoch). inl (free-first b.config b x.book unit (in-cut unit there)))
          (λ (x : BeginsFound b.config old b begun.epoch).
          let t : IsTrue new.told = told-of b.found.is_image new.told (ap (λ (f : Found). f.is_image) x.book.found_is) knows in
          let cells : b.opened ≡ mid.cells = x.opened_is (told-old t) ∙ sym (alike.cells (told-old t)) in
          ⊎_elim
          (λ (free : IsTrue (is_free (state_at b.pages.units unit))). inl free)
          (λ (used : IsFalse (is_blank_unit g mid.cells unit)). inr (had-not (is_blank_unit g b.opened unit) (ap (λ (xs : List Cell). is_blank_unit g xs unit) cells ∙ used)))
          (p.units (told-back t) unit there))
          begun.begins.with;
      used = λ t unit there had kept blank. ⊎_elim
          (λ (x : BeginsFresh b.config old b begun.epoch).
          none-had (is_blank_unit g b.opened unit)
          (ap (λ (xs : List Cell). is_blank_unit g xs unit) x.book.opened_is ∙ blank-tested g (replicate (all_pages g) Blank) unit (unwritten-unit g unit (in-cut unit there))) had)
          (λ (x : BeginsFound b.config old b begun.epoch).
          let here : IsBlankUnit g new.cells unit = subst (λ (y : Geometry). IsBlankUnit y new.cells unit) cut-new blank in
          none-had (is_blank_unit g b.opened unit)
          (ap (λ (xs : List Cell). is_blank_unit g xs unit) (x.opened_is (told-old t)) ∙ blank-tested g old.cells unit (blank-old (told-old t) unit (in-cut unit there) here)) had)
          begun.begins.with;
      fresh = λ fresh unit there. ⊎_elim
          (λ (x : BeginsFresh b.config old b begun.epoch). free-first b.config b x.book unit (in-cut unit there))
          (λ (x : BeginsFound b.config old b begun.epoch). absurd (none-had b.found.is_image (ap (λ (f : Found). f.is_image) x.book.found_is) fresh))
          begun.begins.with;
    }

    ledger-new : IsWellFormed old → IsWellFormed new → IsLedger (counts_of old) b new
    ledger-new formed then = ledger-begun old new (λ m image. IsSafeImage b.config b.found b.opened b.entries 0 (length b.entries) image) (survives formed) programs-same b opened-here units-new formed then media-here

  -- it was done
  safe-new : (now : KeeperSeen) → KeepsDrive b k now mid new wrote.Done → IsWellFormed old → IsSafe b now.saver now.firm new
  safe-new now keeps formed =
      subst (λ (n : ℕ). IsSafe b now.saver n new) (sym keeps.firm_is)
      (safe-begun b k.saver now.saver 0 mid new wrote.Done p.order p.can.geometry p.stored (isolated-mid formed) p.can.keeper.geometry p.durable p.said keeps.saves)

  loaded-here : (now : KeeperSeen) → KeepsDrive b k now mid new wrote.Done → IsWellFormed old → IsWellFormed new → IsLoaded b.config old new b now
  loaded-here now keeps formed then = record {
    epoch = begun.epoch;
    begins = begun.begins;
    stands = stands-new now wrote.Done keeps formed;
    saved = record {
      keeper = keeps.keeper;
      safe = safe-new now keeps formed;
      firm_is = keeps.firm_is;
      epoch_is = ap (λ (s : JournalState). s.stamp.epoch) keeps.saves.saver_is ∙ ap (λ (n : ℕ). n + 1) p.epoch_is;
      few = p.few;
      sure = ap (λ (s : JournalState). s.in_doubt) keeps.saves.saver_is;
      left = subst (λ (s : JournalState). 16 ≤ savings_left b.config s) (sym keeps.saves.saver_is) (let room = checkpoint-leaves b.config k.saver keeps.saves.given p.order.known.config keeps.saves.is_of in omega (arith, room));
    };
    same = same-old now wrote.Done keeps;
    ledger = ledger-new now wrote.Done keeps formed then;
    faults = keeps.saves.ends ∙ begun.faults;
    reads = reads-here now wrote.Done keeps;
    stops = survives now wrote.Done keeps formed;
    isolated = λ t opened. let safe = safe-new now keeps formed in
        durable-stands-apart b.config b.found b.entries now.firm now.saver b.pages.units new.cells (safe.at.durable t) (safe.apart t opened) (isolated-new now wrote.Done keeps formed t opened);
  }

  -- or it failed: the cells stand for what the history begins with, and keep data apart
  unsaved-safe : (now : KeeperSeen) → KeepsDrive b k now mid new wrote.Failed → IsWellFormed old → IsTrue new.told → IsSafeImage b.config b.found b.opened b.entries 0 (length b.entries) new.cells
  unsaved-safe now keeps formed t =
      let m = told-back now wrote.Failed keeps t in
      let durable =
      checkpoint-done b.config b.found b.entries 0 k.saver now.saver b.pages.units mid new wrote.Failed p.durable
      (can-here mid b k begun.epoch p) keeps.saves m in
      record {
        stands = durable-stands b.config b.found b.entries 0 now.saver b.pages.units new.cells durable;
        apart = λ opened.
            durable-stands-apart b.config b.found b.entries 0 now.saver b.pages.units new.cells durable
            (said-begun b k.saver now.saver 0 mid new wrote.Failed p.order p.can.geometry p.stored (isolated-mid formed) p.can.keeper.geometry p.durable p.said keeps.saves t opened)
            (isolated-new now wrote.Failed keeps formed t opened);
      }

  unsaved-here : IsWellFormed old → KeepsNone b k mid new → IsNotLoaded b.config old new (faults.FlashFault new.moment)
  unsaved-here formed none =
      let keeps = none.keeps in
      record {
        told = λ t. tt;
        left = record {
          last = failed_behind old mid new (λ m image. image ≡ old.cells) new.moment looks.reads.held.run keeps.saves.ends;
          left = inr (record {
            book = b;
            epoch = begun.epoch;
            begins = begun.begins;
            same = same-old none.keeper wrote.Failed keeps;
            programs = programs-same none.keeper wrote.Failed keeps;
            stops = survives none.keeper wrote.Failed keeps formed;
            cells = unsaved-safe none.keeper keeps formed;
            opens =
                images-open b.config b.found b.opened b.entries 0 (length b.entries) 0 old new (survives none.keeper wrote.Failed keeps formed)
                (λ told. (unsaved-safe none.keeper keeps formed told).stands);
          });
        };
      }

-- By the answer of the checkpoint a run begins, or none does.
pub loaded-of : (c : DriveConfig) (old mid new : FlashState) (b : BookSeen) (k now : KeeperSeen) → OnlyLooks old mid → IsBegun c old mid b k → KeepsDrive b k now mid new wrote.Done → IsWellFormed old → IsWellFormed new → IsLoaded c old new b now
loaded-of c old mid new b k now looks begun keeps formed then =
    subst (λ (x : DriveConfig). IsBegun x old mid b k → IsLoaded x old new b now) begun.prepared.config_is (λ h. loaded-here old mid new b k looks h now keeps formed then) begun

pub unsaved-of : (c : DriveConfig) (old mid new : FlashState) (b : BookSeen) (k : KeeperSeen) → OnlyLooks old mid → IsBegun c old mid b k → IsWellFormed old → KeepsNone b k mid new → IsNotLoaded c old new (faults.FlashFault new.moment)
unsaved-of c old mid new b k looks begun formed none =
    subst (λ (x : DriveConfig). IsBegun x old mid b k → IsNotLoaded x old new (faults.FlashFault new.moment)) begun.prepared.config_is (λ h. unsaved-here old mid new b k looks h formed none) begun

module _ (c : DriveConfig) (old mid new : FlashState) (b : BookSeen) (k : KeeperSeen) (looks : OnlyLooks old mid) (begun : IsBegun c old mid b k) where
  pub ok-saved : IsWellFormed old → IsWellFormed new → (result : Result Loaded OpenFault) → SavesFirst b k mid new result → IfOk result (λ made. IsLoaded c old new made.book made.keeper)
  ok-saved formed then (Ok made) h = subst (λ (x : BookSeen). IsLoaded c old new x made.keeper) (sym h.0) (loaded-of c old mid new b k made.keeper looks begun h.1 formed then)
  ok-saved formed then (Err fault) h = tt

  pub err-saved : IsWellFormed old → (result : Result Loaded OpenFault) → SavesFirst b k mid new result → IfErr result (IsNotLoaded c old new)
  err-saved formed (Ok made) h = tt
  err-saved formed (Err (faults.OtherConfig key)) h = absurd h
  err-saved formed (Err faults.NotADrive) h = absurd h
  err-saved formed (Err (faults.BadImage page)) h = absurd h
  err-saved formed (Err (faults.FlashFault moment)) h = subst (λ (m : ℕ). IsNotLoaded c old new (faults.FlashFault m)) (sym h.0) (unsaved-of c old mid new b k looks begun formed h.1)
  err-saved formed (Err faults.Spent) h = absurd h
  err-saved formed (Err faults.NoMemory) h = absurd h
