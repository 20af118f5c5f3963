-- A pass that is ready to be moved, and what the flash holds after the move.
use Rattle.std.proofs.Common.{◌≡◌, ℕ, ◌*◌, ◌<◌, List, Option, sym, ◌∙◌, ap, subst}
use Rattle.fdp_base.specs.declared.config.Geometry.{Geometry}
use Rattle.fdp_base.specs.declared.entry.Entry.{Entry}
use Rattle.fdp_base.specs.declared.entry.Entry.TheVariants as entries
use Rattle.fdp_base.specs.declared.entry.Spot.{Spot}
use Rattle.fdp_keeper.specs.fdp_collector.Ready.{IsBlankBehind}
use Rattle.fdp_flash.specs.declared.cell.Cell.{Cell}
use Rattle.fdp_flash.specs.Cells.{IsBlankFrom}
use Rattle.fdp_keeper.specs.fdp_locations.Stored.{HoldsWritten}
use Rattle.fdp_keeper.specs.fdp_locations.Written.{Written}
use Rattle.fdp_keeper.specs.fdp_book.Book.{BookSeen, point_in, written_in}
use Rattle.fdp_keeper.specs.fdp_book.Relocating.{MovesPass}
use Rattle.fdp_owners.specs.OwnerTable.{OwnerTable}
use Rattle.fdp_keeper.specs.fdp_pages.Steps.{Recounts}
use Rattle.fdp_rules.specs.Sites.{moved_blocks}
use Rattle.fdp_units.specs.declared.data_unit.DataUnit.{DataUnit}
use Rattle.fdp_units.specs.DataUnits.{is_lost}
use Rattle.fdp_units.specs.UnitTable.{Cut, IsUnit, UnitTable}
use Rattle.fdp_keeper.proofs.fdp_book.Longer.{written-one}

-- ---- what is held after a move

pub blank-recounted : (g : Geometry) (cells : List Cell) (t now : UnitTable) (o : OwnerTable) → Recounts t now o → IsBlankBehind g cells t → IsBlankBehind g cells now
blank-recounted g cells t now o same blank unit there kept =
    let is = same.kept unit in
    let lies : IsUnit t unit = subst (λ (x : Cut). unit < x.groups * x.group_units) same.cut there in
    let lost = sym (ap (λ (x : DataUnit). is_lost x.state) is) ∙ kept in
    subst (λ (x : DataUnit). IsBlankFrom g cells (record { unit = unit; page = x.next })) (sym is) (blank unit lies lost)

pub held-moved : (g : Geometry) (cells : List Cell) (old new : BookSeen) (rg : ℕ) → MovesPass old new rg → HoldsWritten g cells (written_in old) old.pages.units → HoldsWritten g cells (written_in new) new.pages.units
held-moved g cells old new rg moved holds =
    let e : Entry = entries.Moved (record { rg = rg; blocks = moved_blocks (point_in old) rg }) in
    let written : written_in new ≡ written_in old = written-one old new e moved.longer in
    subst (λ (w : Spot → Option Written). HoldsWritten g cells w new.pages.units) (sym written)
    (record { lie = holds.lie; whole = holds.whole; blank = blank-recounted g cells old.pages.units new.pages.units new.pages.owners moved.units holds.blank })
