-- A run that begins with an image.
use Rattle.std.proofs.Common.{◌≡◌, ◌⊎◌, ℕ, ◌*◌, ◌<◌, ◌^◌, Bool, true, false, List, [], ◌∷◌, Option, Some, refl, sym, ◌∙◌, ap, subst, arith, inl, inr}
use Rattle.std.specs.Prelude.{IsTrue, IsFalse, is_some, nat_le, not, if◌then◌else◌}
use Rattle.std.specs.List.{list_any}
use Rattle.std.proofs.lemmas.Bool.{leb-false, or_parts}
use Rattle.fdp_base.specs.declared.config.DriveConfig.{DriveConfig}
use Rattle.fdp_base.specs.declared.config.Geometry.{Geometry}
use Rattle.fdp_base.specs.declared.entry.Spot.{Spot}
use Rattle.fdp_base.specs.Config.{IsValidConfig}
use Rattle.fdp_base.specs.Placement.{geometry_of}
use Rattle.fdp_keeper.specs.fdp_book.Book.{BookSeen, first_in, written_in}
use Rattle.fdp_keeper.specs.fdp_book.Reopened.{IsReopened, cells_found}
use Rattle.fdp_keeper.specs.fdp_durability.Beginnings.{NamesUsed}
use Rattle.fdp_keeper.specs.fdp_durability.Durable.{IsDurable}
use Rattle.fdp_keeper.proofs.fdp_durability.Starting.{begun-found}
use Rattle.fdp_flash.specs.declared.cell.Cell.{Cell}
use Rattle.fdp_flash.specs.FlashState.{FlashState}
use Rattle.fdp_keeper.specs.fdp_found.Beginning.{CanBegin}
use Rattle.fdp_keeper.specs.fdp_found.Finding.{found_in}
use Rattle.fdp_keeper.specs.fdp_found.Told.{opened_cells}
use Rattle.fdp_keeper.proofs.fdp_found.Loaded.{loaded-begins}
use Rattle.fdp_keeper.proofs.fdp_found.Opening.{holds-opened}
use Rattle.fdp_keeper.proofs.fdp_found.Stating.{stands-found}
use Rattle.fdp_image.specs.Areas.{Sealed, current_area}
use Rattle.fdp_image.specs.Checkpoint.{reading_of_state}
use Rattle.fdp_image.specs.Reading.{Reading, spot_of}
use Rattle.fdp_image.specs.Reads.{is_spent}
use Rattle.fdp_image.specs.Roomy.{is_blank_unit}
use Rattle.fdp_image.specs.StandsFor.{StandsFor}
use Rattle.fdp_image.specs.Valid.{IsValid}
use Rattle.fdp_keeper.specs.fdp_journal.JournalState.{JournalState}
use Rattle.fdp_keeper.specs.Keeper.{KeeperSeen}
use Rattle.fdp_loading.specs.Begun.{Begins}
use Rattle.fdp_loading.specs.Loaded.{IsPrepared, SayOne}
use Rattle.fdp_loading.specs.Made.{IsFoundDrive}
use Rattle.fdp_loading.proofs.Drawing.{written-reopened}
use Rattle.fdp_keeper.specs.fdp_locations.Held.{pages_held}
use Rattle.fdp_keeper.specs.fdp_locations.Stored.{HoldsWritten}
use Rattle.fdp_keeper.specs.fdp_locations.Written.{Written, written_by}
use Rattle.fdp_keeper.specs.fdp_opening.Found.{IsFoundIn}
use Rattle.fdp_owners.specs.declared.owner.Owner.{Owner}
use Rattle.fdp_owners.specs.OwnerTable.{owner_at}
use Rattle.fdp_keeper.specs.fdp_recovery.Opened.{CanGoOn, IsFound}
use Rattle.fdp_rules.specs.History.{Found}
use Rattle.fdp_keeper.specs.fdp_saving.Saver.{IsSaverIn, first_saver}
use Rattle.fdp_keeper.proofs.fdp_saving.Beginning.{found_says, found_stands}
use Rattle.fdp_snapshot.specs.declared.state.State.{State}
use Rattle.fdp_survival.specs.Apart.{AreSaidApart, ReadsIsolated}
use Rattle.fdp_survival.specs.fdp_isolation.Begun.{OpenedApart}
use Rattle.fdp_survival.proofs.Apart.{said-found}
use Rattle.fdp_survival.proofs.fdp_isolation.Found.{image-apart}
use Rattle.fdp_survival.proofs.fdp_isolation.Readings.{found-reads}
use Rattle.fdp_units.specs.declared.state.UnitState.{UnitState}
use Rattle.fdp_units.specs.declared.state.UnitState.TheVariants.{Closed, Free}
use Rattle.fdp_units.specs.DataUnits.{is_free}
use Rattle.fdp_units.specs.UnitTable.{Cut, IsUnit, state_at, unit_at}

one : {X : Type 0} {x y : X} → Some x ≡ Some y → x ≡ y
one e = cc

-- an epoch of an image that is not spent has room
pub unspent-epoch : (r : Reading) (epoch : ℕ) → is_spent r epoch ≡ false → epoch < 2 ^ 62
unspent-epoch r epoch none =
    let both = or_parts (list_any (nat_le (2 ^ 62)) (r.totals.position ∷ epoch ∷ r.totals.host_blocks ∷ r.totals.media_blocks ∷ r.totals.erases ∷ [])) (nat_le (2 ^ 31) r.generation) none in
    let position = or_parts (nat_le (2 ^ 62) r.totals.position) (list_any (nat_le (2 ^ 62)) (epoch ∷ r.totals.host_blocks ∷ r.totals.media_blocks ∷ r.totals.erases ∷ [])) both.0 in
    let first = or_parts (nat_le (2 ^ 62) epoch) (list_any (nat_le (2 ^ 62)) (r.totals.host_blocks ∷ r.totals.media_blocks ∷ r.totals.erases ∷ [])) position.1 in
    leb-false (2 ^ 62) epoch first.0

-- a unit is free, or not all blank
free-or-used : (state : UnitState) (used blank : Bool) → state ≡ (if used then Closed else Free) → used ≡ not blank → IsTrue (is_free state) ⊎ IsFalse blank
free-or-used state false blank is told = inl (ap is_free is)
free-or-used state true true is told = absurd cc
free-or-used state true false is told = inr refl

module _ (flash : FlashState) (b : BookSeen) (k : KeeperSeen) (s : State) (area epoch : ℕ) (config : IsValidConfig b.config) (goes : CanGoOn b.config s area epoch) (told : IsTrue flash.told → IsFound b.config flash.geometry flash.cells s area epoch)
    (h : IsFoundDrive b.config flash s area epoch b k) where
  abbrev g : Geometry
  g = geometry_of b.config

  abbrev r : Reading
  r = reading_of_state s

  abbrev cells : List Cell
  cells = cells_found b.config flash b.pages

  can-begin : CanBegin r
  can-begin = loaded-begins b.config s area epoch goes

  cells-are : IsTrue flash.told → cells ≡ flash.cells
  cells-are t = ap (λ (x : Bool). opened_cells x b.config flash.cells (owner_at b.pages.owners)) t

  found-here : IsTrue flash.told → IsFound b.config g flash.cells s area epoch
  found-here t = subst (λ (x : Geometry). IsFound b.config x flash.cells s area epoch) h.was.cut (told t)

  stood-here : IsTrue flash.told → StandsFor b.config b.found flash.cells []
  stood-here t =
      let l = (found-here t).left in
      subst (λ (f : Found). StandsFor b.config f flash.cells []) (sym (h.book.found_is ∙ ap (λ (xs : List Cell). found_in b.config xs r) (cells-are t)))
      (stands-found b.config flash.cells r l.reads l.valid (h.was.pages.ways t) can-begin)

  written-here : written_in b ≡ pages_held b.config cells
  written-here =
      ap (written_by b.config b.found (first_in b)) h.book.entries_are ∙ written-reopened b.config b.found (first_in b)
      ∙ ap (pages_held b.config) h.book.opened_is

  stored-here : IsTrue flash.told → HoldsWritten flash.geometry flash.cells (written_in b) b.pages.units
  stored-here t =
      subst (λ (x : Geometry). HoldsWritten x flash.cells (written_in b) b.pages.units) (sym h.was.cut)
      (subst (λ (xs : List Cell). HoldsWritten g xs (written_in b) b.pages.units) (cells-are t)
      (subst (λ (w : Spot → Option Written). HoldsWritten g cells w b.pages.units) (sym written-here) (holds-opened b.config cells r b.pages h.book.pages_are)))

  in-cut : (unit : ℕ) → IsUnit b.pages.units unit → unit < b.config.groups * b.config.units
  in-cut unit there = subst (λ (x : Cut). unit < x.groups * x.group_units) h.order.known.units.cut there

  units-here : IsTrue flash.told → (unit : ℕ) → IsUnit b.pages.units unit → IsTrue (is_free (state_at b.pages.units unit)) ⊎ IsFalse (is_blank_unit g flash.cells unit)
  units-here t unit there =
      let f : IsFoundIn b.config flash unit (unit_at b.pages.units unit) = h.was.pages.units unit (in-cut unit there) in
      free-or-used (state_at b.pages.units unit) f.used (is_blank_unit g flash.cells unit) f.found.state (f.told t)

  used-here : NamesUsed b.config b.pages.units r
  used-here nsid lba page there =
      let own = h.was.pages.blocks nsid lba page there in
      h.order.known.joined.live.used (spot_of b.config page) (ap (λ (o : Option Owner). is_some o) own.is_owner)

  saver-here : IsTrue flash.told → (z : Sealed) × (current_area g flash.cells ≡ Some (area, z)) × (k.saver ≡ first_saver g area z.stamp.epoch)
  saver-here t =
      let l = (found-here t).left in
      (l.z, l.current.current, h.saver_is ∙ ap (first_saver g area) l.epoch_is)

  durable-here : IsTrue flash.told → IsDurable b.config b.found b.entries 0 k.saver b.pages.units flash.cells
  durable-here t =
      let stands = stood-here t in
      let z = saver-here t in
      let same : stands.reading ≡ r = one (sym stands.read ∙ (found-here t).left.reads) in
      subst (λ (x : JournalState). IsDurable b.config b.found b.entries 0 x b.pages.units flash.cells) (sym z.2)
      (begun-found b.config b.found b.entries area z.0 b.pages.units flash.cells z.1 stands (subst (NamesUsed b.config b.pages.units) (sym same) used-here))

  -- what was opened keeps data apart where what was found in these cells does
  opened-there : IsTrue flash.told → OpenedApart b.config b.found b.opened → OpenedApart b.config (found_in b.config flash.cells r) flash.cells
  opened-there t opened =
      subst (λ (xs : List Cell). OpenedApart b.config (found_in b.config xs r) xs) (cells-are t)
      (subst (OpenedApart b.config (found_in b.config cells r)) h.book.opened_is
      (subst (λ (f : Found). OpenedApart b.config f b.opened) h.book.found_is opened))

  opened-back : IsTrue flash.told → OpenedApart b.config (found_in b.config flash.cells r) flash.cells → OpenedApart b.config b.found b.opened
  opened-back t opened =
      subst (λ (f : Found). OpenedApart b.config f b.opened) (sym h.book.found_is)
      (subst (OpenedApart b.config (found_in b.config cells r)) (sym h.book.opened_is)
      (subst (λ (xs : List Cell). OpenedApart b.config (found_in b.config xs r) xs) (sym (cells-are t)) opened))

  says-here : IsTrue flash.told → SayOne b.config k.saver flash.cells
  says-here t =
      let l = (found-here t).left in
      let z = saver-here t in
      subst (λ (x : JournalState). SayOne b.config x flash.cells) (sym z.2) (record { reading = r; read = l.reads; say = found_says b.config flash.cells area z.0 r z.1 l.reads })

  said-here : IsTrue flash.told → OpenedApart b.config b.found b.opened → AreSaidApart b.config k.saver flash.cells
  said-here t opened =
      let l = (found-here t).left in
      let z = saver-here t in
      subst (λ (x : JournalState). AreSaidApart b.config x flash.cells) (sym z.2)
      (said-found b.config area z.0 flash.cells r z.1 l.reads (found-reads b.config flash.cells r config l.valid (opened-there t opened)))

  apart-here : IsTrue flash.told → ReadsIsolated b.config flash.cells → OpenedApart b.config b.found b.opened
  apart-here t reads = let l = (found-here t).left in opened-back t (image-apart b.config flash.cells r config l.valid (reads r l.reads))

  epoch-here : k.saver.stamp.epoch ≡ epoch
  epoch-here = ap (λ (x : JournalState). x.stamp.epoch) h.saver_is

  prepared-here : IsPrepared b.config flash b k epoch
  prepared-here = record {
    order = h.order;
    config_is = refl;
    stored = stored-here;
    units = units-here;
    durable = durable-here;
    says = says-here;
    said = said-here;
    can = record {
      keeper = record { geometry = ap (λ (x : JournalState). x.geometry) h.saver_is };
      geometry = h.was.cut;
      epoch = let e = epoch-here in let low = unspent-epoch r epoch goes.unspent in omega (arith, e, low);
      saver = λ t. let z = saver-here t in subst (IsSaverIn flash.cells) (sym z.2) (found_stands g flash.cells area z.0 z.1);
    };
    epoch_is = epoch-here;
    few = unspent-epoch r epoch goes.unspent;
    firm_is = h.firm_is;
  }

  begins-here : Begins b.config flash b epoch
  begins-here = record {
    with = inr (record {
      state = s;
      area = area;
      goes_on = goes;
      book = subst (λ (xs : List Cell). IsReopened b.config xs r b) (sym h.book.opened_is) h.book;
      valid = subst (λ (xs : List Cell). IsValid b.config xs r) (sym h.book.opened_is) h.valid;
      opened_is = λ t. h.book.opened_is ∙ cells-are t;
      told = told;
    });
    stood = stood-here;
    apart = apart-here;
  }

-- The drive that was found begins a run over its image.
pub found-begins : (c : DriveConfig) (flash : FlashState) (b : BookSeen) (k : KeeperSeen) (s : State) (area epoch : ℕ) → IsValidConfig c → CanGoOn c s area epoch → (IsTrue flash.told → IsFound c flash.geometry flash.cells s area epoch) → IsFoundDrive c flash s area epoch b k
    → Begins c flash b epoch × IsPrepared c flash b k epoch
found-begins c flash b k s area epoch config goes told h =
    subst (λ (x : DriveConfig). IsValidConfig x → CanGoOn x s area epoch → (IsTrue flash.told → IsFound x flash.geometry flash.cells s area epoch) → IsFoundDrive x flash s area epoch b k → Begins x flash b epoch × IsPrepared x flash b k epoch) h.book.config_is
    (λ config goes told h. (begins-here flash b k s area epoch config goes told h, prepared-here flash b k s area epoch config goes told h)) config goes told h
