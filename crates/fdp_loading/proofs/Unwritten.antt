-- A run that begins fresh.
use Rattle.std.proofs.Common.{◌≡◌, ℕ, ◌*◌, ◌<◌, true, List, [], Option, Some, None, Bool, replicate, refl, sym, ◌∙◌, ap, subst, arith, inl, length}
use Rattle.std.specs.Prelude.{IsTrue, take, if◌then◌else◌}
use Rattle.std.specs.List.{list_all}
use Rattle.fdp_base.specs.declared.config.DriveConfig.{DriveConfig}
use Rattle.fdp_base.specs.declared.config.Geometry.{Geometry}
use Rattle.fdp_base.specs.declared.entry.Spot.{Spot}
use Rattle.fdp_base.specs.Config.{IsValidConfig}
use Rattle.fdp_base.specs.Geometry.{all_pages}
use Rattle.fdp_base.specs.Placement.{geometry_of}
use Rattle.fdp_keeper.specs.fdp_book.Book.{BookSeen, IsFirst, first_in, written_in}
use Rattle.fdp_keeper.specs.fdp_durability.Durable.{IsDurable}
use Rattle.fdp_keeper.proofs.fdp_durability.Starting.{begun-fresh}
use Rattle.fdp_flash.specs.declared.cell.Cell.{Cell}
use Rattle.fdp_flash.specs.declared.cell.Cell.TheVariants.{Blank}
use Rattle.fdp_flash.specs.FlashState.{FlashState, IsWellFormed}
use Rattle.fdp_keeper.proofs.fdp_found.Loaded.{fresh-found}
use Rattle.fdp_image.specs.Areas.{current_area, data_pages}
use Rattle.fdp_image.specs.Reads.{fresh_reading, is_blank, reads_as, said_by_current}
use Rattle.fdp_image.specs.StandsFor.{StandsFor}
use Rattle.fdp_keeper.specs.fdp_journal.JournalState.{JournalState}
use Rattle.fdp_keeper.specs.Keeper.{KeeperSeen}
use Rattle.fdp_loading.specs.Begun.{Begins}
use Rattle.fdp_loading.specs.Loaded.{IsPrepared, SayOne}
use Rattle.fdp_loading.specs.Made.{IsFreshDrive}
use Rattle.fdp_loading.proofs.Blank.{blank-unit_from}
use Rattle.fdp_keeper.specs.fdp_locations.Held.{no_pages, pages_held}
use Rattle.fdp_keeper.specs.fdp_locations.Stored.{HoldsWritten}
use Rattle.fdp_keeper.specs.fdp_locations.Written.{Written, written_by, written_from}
use Rattle.fdp_keeper.proofs.fdp_locations.Held.{held-blank}
use Rattle.fdp_keeper.specs.fdp_durability.Beginnings.{NamesUsed}
use Rattle.fdp_keeper.specs.fdp_recovery.Opened.{IsFresh}
use Rattle.fdp_rules.specs.History.{Found}
use Rattle.fdp_keeper.specs.fdp_saving.Saver.{IsSaverIn}
use Rattle.fdp_keeper.proofs.fdp_saving.Beginning.{fresh_says, fresh_stands}
use Rattle.fdp_survival.specs.Apart.{AreSaidApart}
use Rattle.fdp_survival.proofs.Apart.{said-fresh}
use Rattle.fdp_survival.proofs.fdp_isolation.Promised.{opened-fresh}
use Rattle.fdp_units.specs.DataUnits.{is_free}
use Rattle.fdp_units.specs.declared.data_unit.DataUnit.{DataUnit}
use Rattle.fdp_units.specs.UnitTable.{Cut, IsUnit, UnitTable, state_at, unit_at}

one : {X : Type 0} {x y : X} → Some x ≡ Some y → x ≡ y
one e = cc

-- no entry wrote a page
pub written-first : (c : DriveConfig) (b : BookSeen) → IsFirst c b → written_in b ≡ no_pages
unfolding written_from
written-first c b first =
    ap (written_by b.config b.found (first_in b)) first.entries_are
    ∙ ap (λ (cells : List Cell). pages_held b.config cells) first.opened_is
    ∙ subst (λ (k : DriveConfig). pages_held b.config (cells-of k) ≡ no_pages) first.config_is (held-blank b.config (all_pages (geometry_of b.config))) where
      cells-of : DriveConfig → List Cell
      cells-of k = replicate (all_pages (geometry_of k)) Blank

-- nothing else is read where no area is sealed and the data pages are blank
pub reads-fresh : (c : DriveConfig) (cells : List Cell) → current_area (geometry_of c) cells ≡ None → IsTrue (list_all is_blank (take (data_pages (geometry_of c)) cells)) → reads_as c cells ≡ Some (fresh_reading c)
unfolding reads_as said_by_current
reads-fresh c cells none blank = ap (said_by_current c cells) none ∙ ap (λ (b : Bool). if b then Some (fresh_reading c) else None) blank

fresh-names : (c : DriveConfig) (t : UnitTable) → NamesUsed c t (fresh_reading c)
unfolding fresh_reading
fresh-names c t nsid lba page there = absurd cc

-- each unit is free
pub free-first : (c : DriveConfig) (b : BookSeen) → IsFirst c b → (unit : ℕ) → unit < c.groups * c.units → is_free (state_at b.pages.units unit) ≡ true
free-first c b first unit low = ap (λ (x : DataUnit). is_free x.state) (first.unused.units unit low)

module _ (flash : FlashState) (b : BookSeen) (k : KeeperSeen) (config : IsValidConfig b.config) (formed : IsWellFormed flash) (cut : flash.geometry ≡ geometry_of b.config) (told : IsTrue flash.told → IsFresh b.config flash.geometry flash.cells) (h : IsFreshDrive b.config b k) where
  abbrev g : Geometry
  g = geometry_of b.config

  fresh-here : IsTrue flash.told → IsFresh b.config g flash.cells
  fresh-here t = subst (λ (x : Geometry). IsFresh b.config x flash.cells) cut (told t)

  none-here : IsTrue flash.told → current_area g flash.cells ≡ None
  none-here t = (fresh-here t).unsealed.none

  stood-here : IsTrue flash.told → StandsFor b.config b.found flash.cells []
  stood-here t = subst (λ (f : Found). StandsFor b.config f flash.cells []) (sym h.book.found_is) (fresh-found b.config flash.cells config (none-here t) (fresh-here t).blank).stands

  size-here : IsTrue flash.told → length flash.cells ≡ all_pages g
  size-here t = formed.size t ∙ ap all_pages cut

  in-cut : (unit : ℕ) → IsUnit b.pages.units unit → unit < b.config.groups * b.config.units
  in-cut unit there = subst (λ (x : Cut). unit < x.groups * x.group_units) h.order.known.units.cut there

  stored-here : IsTrue flash.told → HoldsWritten flash.geometry flash.cells (written_in b) b.pages.units
  stored-here t =
      subst (λ (x : Geometry). HoldsWritten x flash.cells (written_in b) b.pages.units) (sym cut)
      (subst (λ (w : Spot → Option Written). HoldsWritten g flash.cells w b.pages.units) (sym (written-first b.config b h.book)) (record {
        lie = λ spot x e. absurd (never e);
        whole = λ spot x e. absurd (never e);
        blank = λ unit there kept. blank-unit_from g flash.cells (size-here t) (fresh-here t).blank unit (unit_at b.pages.units unit).next (in-cut unit there);
      })) where
        never : {X : Type 0} {x : X} → None ≡ Some x → ⊥
        never e = cc

  durable-here : IsTrue flash.told → IsDurable b.config b.found b.entries 0 k.saver b.pages.units flash.cells
  durable-here t =
      let stands = stood-here t in
      let same : stands.reading ≡ fresh_reading b.config = one (sym stands.read ∙ reads-fresh b.config flash.cells (none-here t) (fresh-here t).blank) in
      subst (λ (s : JournalState). IsDurable b.config b.found b.entries 0 s b.pages.units flash.cells) (sym h.saver_is)
      (begun-fresh b.config b.found b.entries b.pages.units flash.cells (none-here t) stands
      (subst (NamesUsed b.config b.pages.units) (sym same) (fresh-names b.config b.pages.units)))

  epoch-here : k.saver.stamp.epoch ≡ 0
  epoch-here = ap (λ (s : JournalState). s.stamp.epoch) h.saver_is

  prepared-here : IsPrepared b.config flash b k 0
  prepared-here = record {
    order = h.order;
    config_is = refl;
    stored = stored-here;
    units = λ t unit there. inl (free-first b.config b h.book unit (in-cut unit there));
    durable = durable-here;
    says = λ t.
        let read = reads-fresh b.config flash.cells (none-here t) (fresh-here t).blank in
        subst (λ (s : JournalState). SayOne b.config s flash.cells) (sym h.saver_is)
        (record { reading = fresh_reading b.config; read = read; say = fresh_says b.config flash.cells (fresh_reading b.config) (none-here t) read });
    said = λ t opened.
        subst (λ (s : JournalState). AreSaidApart b.config s flash.cells) (sym h.saver_is)
        (said-fresh b.config flash.cells (fresh_reading b.config) (none-here t) (reads-fresh b.config flash.cells (none-here t) (fresh-here t).blank));
    can = record {
      keeper = record { geometry = ap (λ (s : JournalState). s.geometry) h.saver_is };
      geometry = cut;
      epoch = let e = epoch-here in omega (arith, e);
      saver = λ t. subst (IsSaverIn flash.cells) (sym h.saver_is) (fresh_stands g flash.cells (none-here t));
    };
    epoch_is = epoch-here;
    few = omega arith;
    firm_is = h.firm_is;
  }

  begins-here : Begins b.config flash b 0
  begins-here = record { with = inl (record { book = h.book; epoch_is = refl; told = told }); stood = stood-here; apart = λ t reads. opened-fresh b.config b h.book }

-- A drive as its configuration makes it begins a run over a flash that no drive has written.
pub fresh-begins : (c : DriveConfig) (flash : FlashState) (b : BookSeen) (k : KeeperSeen) → IsValidConfig c → IsWellFormed flash → flash.geometry ≡ geometry_of c → (IsTrue flash.told → IsFresh c flash.geometry flash.cells) → IsFreshDrive c b k → Begins c flash b 0 × IsPrepared c flash b k 0
fresh-begins c flash b k config formed cut told h =
    subst (λ (x : DriveConfig). IsValidConfig x → flash.geometry ≡ geometry_of x → (IsTrue flash.told → IsFresh x flash.geometry flash.cells) → IsFreshDrive x b k → Begins x flash b 0 × IsPrepared x flash b k 0) h.book.config_is
    (λ config cut told h. (begins-here flash b k config formed cut told h, prepared-here flash b k config formed cut told h)) config cut told h
