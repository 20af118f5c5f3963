-- What is saved leaves the pages of data as they were, so that the flash holds what was written.
use Rattle.std.proofs.Common.{◌≡◌, ℕ, ◌+◌, ◌*◌, ◌<◌, IsTrue, List, [], ◌∷◌, inl, inr, sym, ◌∙◌, subst, arith, slice_get}
use Rattle.std.proofs.lemmas.Nat.{mul-le}
use Rattle.fdp_base.specs.declared.config.DriveConfig.{DriveConfig}
use Rattle.fdp_base.specs.declared.config.Geometry.{Geometry}
use Rattle.fdp_base.specs.declared.entry.Entry.{Entry}
use Rattle.fdp_base.specs.declared.entry.Spot.{Spot}
use Rattle.fdp_base.specs.Placement.{geometry_of}
use Rattle.fdp_keeper.specs.fdp_book.Book.{BookSeen, state_in, written_in}
use Rattle.fdp_keeper.specs.fdp_durability.Saved.{SavesEntries, SettlesDrive}
use Rattle.fdp_flash.specs.declared.answer.Wrote.{Wrote}
use Rattle.fdp_flash.specs.declared.cell.Cell.{Cell}
use Rattle.fdp_flash.specs.FlashState.{FlashState}
use Rattle.fdp_flash.specs.Layout.{page_number}
use Rattle.fdp_image.specs.Areas.{data_pages}
use Rattle.fdp_image.specs.Saving.{SameDataPages}
use Rattle.fdp_keeper.specs.Keeper.{KeeperSeen}
use Rattle.fdp_keeper.specs.fdp_locations.Located.{AreUnitsOf}
use Rattle.fdp_keeper.specs.fdp_locations.Stored.{HoldsWritten}
use Rattle.fdp_keeper.proofs.fdp_locations.Others.{data-unit}
use Rattle.fdp_relocation.specs.Collected.{AreasTell, SavesMove, Stage}
use Rattle.fdp_relocation.proofs.Resting.{uncalled-same}
use Rattle.fdp_rules.specs.Step.{IsDataUnit}
use Rattle.fdp_keeper.specs.fdp_saving.declared.saved.Saved.{Saved}

-- ---- what is held

-- a page of a data unit is a data page
data-page : (c : DriveConfig) (spot : Spot) → IsDataUnit c spot.unit → spot.page < c.unit_pages → page_number (geometry_of c) spot < data_pages (geometry_of c)
data-page c spot is low =
    let whole = mul-le (spot.unit + 1) c.unit_pages (c.groups * c.units) c.unit_pages (omega (arith, is)) (omega arith) in
    omega (arith, whole, low)

held-of-config : (b : BookSeen) (old new : List Cell) → AreUnitsOf b.config (state_in b) b.pages → SameDataPages b.config old new → HoldsWritten (geometry_of b.config) old (written_in b) b.pages.units → HoldsWritten (geometry_of b.config) new (written_in b) b.pages.units
held-of-config b old new units same h = record {
  lie = h.lie;
  whole = λ spot x e. let lies = h.lie spot x e in same-page spot lies.unit lies.page ∙ h.whole spot x e;
  blank = λ unit there kept.
      let is = data-unit b.config (state_in b) b.pages unit units there in
      let was = h.blank unit there kept in
      record { blank = λ page low within. same-page (record { unit = unit; page = page }) is within ∙ was.blank page low within };
} where
  same-page : (spot : Spot) → IsDataUnit b.config spot.unit → spot.page < b.config.unit_pages → slice_get new (page_number (geometry_of b.config) spot) ≡ slice_get old (page_number (geometry_of b.config) spot)
  same-page spot is low = same (page_number (geometry_of b.config) spot) (data-page b.config spot is low)

-- where no page of data changes, what was written is held on
pub held-on : (b : BookSeen) (g : Geometry) (old new : List Cell) → g ≡ geometry_of b.config → AreUnitsOf b.config (state_in b) b.pages → SameDataPages b.config old new → HoldsWritten g old (written_in b) b.pages.units → HoldsWritten g new (written_in b) b.pages.units
held-on b g old new is units same h =
    subst (λ (x : Geometry). HoldsWritten x new (written_in b) b.pages.units) (sym is)
    (held-of-config b old new units same (subst (λ (x : Geometry). HoldsWritten x old (written_in b) b.pages.units) is h))

-- ---- savings

pub settled-same : (b : BookSeen) (k l : KeeperSeen) (old new : FlashState) (answer : Wrote) → (IsTrue old.told → AreasTell b k old.cells) → SettlesDrive b.config b.found b.entries k.saver l.saver old new answer → IsTrue old.told → SameDataPages b.config old.cells new.cells
settled-same b k l old new answer said saved told =
    let h = said told in
    ((saved.stops h.own h.tried (λ again. h.say)).cells told).data_pages_same

saved-same : (b : BookSeen) (e : Entry) (k l : KeeperSeen) (old new : FlashState) (answer : Saved) → (IsTrue old.told → AreasTell b k old.cells) → SavesEntries b.config b.found b.entries (e ∷ []) k.saver l.saver old new answer → IsTrue old.told → SameDataPages b.config old.cells new.cells
saved-same b e k l old new answer said saved told =
    let h = said told in
    ((saved.stops h.own h.tried (λ again. h.say) (λ again. h.sure)).cells told).data_pages_same

pub move-same : {F : Type 0} (state : F → FlashState) (old new : Stage F) (rg : ℕ) (answer : Saved) → (IsTrue (state old.flash).told → AreasTell old.book old.keeper (state old.flash).cells) → SavesMove state old new rg answer → IsTrue (state old.flash).told
    → SameDataPages old.book.config (state old.flash).cells (state new.flash).cells
move-same state old new rg answer said h told = elim h [
  | inl none ↦ uncalled-same old.book.config (state old.flash) (state new.flash) none.3 told
  | inr some ↦ saved-same old.book _ old.keeper new.keeper (state old.flash) (state new.flash) answer said some.1.saves told
]

-- neither does a saving change how the flash is cut
pub move-geometry : {F : Type 0} (state : F → FlashState) (old new : Stage F) (rg : ℕ) (answer : Saved) → SavesMove state old new rg answer → (state new.flash).geometry ≡ (state old.flash).geometry
move-geometry state old new rg answer h = elim h [
  | inl none ↦ none.3.run.geometry
  | inr some ↦ some.1.saves.calls.made.run.geometry
]
