-- Pages that pointers lead to hold their blocks, where the cells hold what was written.
use Rattle.std.proofs.Common.{◌≡◌, ℕ, ◌^◌, ◌*◌, ◌/◌, ◌%◌, ◌<◌, List, Option, Some, None, refl, sym, ◌∙◌, ap, subst, arith}
use Rattle.std.specs.Prelude.{option_and_then, option_map}
use Rattle.std.proofs.Math.Nat.{mod-eq_of_lt}
use Rattle.std.proofs.lemmas.Nat.{div-add-mod'}
use Rattle.fdp_base.specs.declared.config.DriveConfig.{DriveConfig}
use Rattle.fdp_base.specs.declared.entry.Spot.{Spot}
use Rattle.fdp_base.specs.declared.spare.DataSpare.{DataSpare}
use Rattle.fdp_base.specs.Config.{IsValidConfig}
use Rattle.fdp_base.specs.Placement.{geometry_of}
use Rattle.fdp_base.specs.Spare.{data_spare}
use Rattle.fdp_locations.specs.fdp_collector.Copying.{Holds}
use Rattle.fdp_flash.specs.declared.cell.Cell.{Cell}
use Rattle.fdp_flash.specs.Layout.{page_number}
use Rattle.fdp_history.specs.Listed.{IsListed}
use Rattle.fdp_history.specs.Orderly.{IsOrderly}
use Rattle.fdp_history.specs.Standing.{IsStanding}
use Rattle.fdp_image.proofs.Spares.{spare-says}
use Rattle.fdp_image.specs.Reading.{spot_of}
use Rattle.fdp_locations.specs.Located.{AreLed, next_in}
use Rattle.fdp_locations.specs.Stored.{HoldsWritten}
use Rattle.fdp_locations.specs.Written.{Written}
use Rattle.fdp_owners.specs.declared.owner.Holder.{Holder}
use Rattle.fdp_owners.specs.declared.owner.Holder.TheVariants as holders
use Rattle.fdp_owners.specs.OwnerTable.{pointer_in}
use Rattle.fdp_locations.specs.fdp_pages.PageTables.{PageTables}
use Rattle.fdp_pointers.specs.Contents.{content_of_block}
use Rattle.fdp_pointers.specs.Facts.{Page}
use Rattle.fdp_pointers.specs.Pointers.{Behind, Pointer, Pointer.of_block}
use Rattle.fdp_pointers.proofs.Tables.{block-at}
use Rattle.fdp_readings.specs.Drawn.{drawn}
use Rattle.fdp_readings.specs.Holding.{HoldsBlocks}
use Rattle.fdp_readings.proofs.Drawing.{drawn-block, space-there, unit-of}
use Rattle.fdp_readings.proofs.Sizes.{size-few}
use Rattle.fdp_rules.specs.PlainState.{Block}
use Rattle.fdp_rules.specs.Point.{Point}
use Rattle.fdp_rules.specs.Sites.{group_of}

-- the pointer of a block that stands at a page leads there
pub led-to : (o : Option Page) (spot : Spot) → Some spot ≡ option_map (λ (y : Page). y.spot) o → (y : Page) × (o ≡ Some y) × (y.spot ≡ spot)
led-to None spot e = absurd cc
led-to (Some y) spot e = (y, refl, cc)

-- the spare of an owner that is a block's names the block
names-block : (h : Holder) (s : DataSpare) (nsid lba : ℕ) → pointer_in h s ≡ of_block nsid lba → (s.nsid ≡ nsid) × (s.lba ≡ lba)
names-block holders.Block s nsid lba e = (cc, cc)
names-block (holders.Flight queue) s nsid lba e = absurd cc

pub led-holds : (c : DriveConfig) (p : Point) (written : Spot → Option Written) (at : Behind Page) (t : PageTables) (cells : List Cell) → IsValidConfig c → IsOrderly c p → IsStanding c p → IsListed c p.state → p.state.generation < 2 ^ 32
    → AreLed c p written at t → HoldsWritten (geometry_of c) cells written t.units → HoldsBlocks c p cells
led-holds c p written at t cells valid orderly standing listed few led held nsid lba b spot there site =
    let pointer : Pointer = of_block nsid lba in
    let stands_at : Some spot ≡ option_map (λ (y : Page). y.spot) (at pointer) =
    sym (ap (option_and_then (λ (x : Block). p.trail.site x.page)) there ∙ site) ∙ block-at c p (next_in t.units) at led.table nsid lba in
    let to = led-to (at pointer) spot stands_at in
    let y : Page = to.0 in
    let own = led.owned.owned pointer y to.1 in
    let name = names-block own.owner.holder own.owner.spare nsid lba own.points in
    let unit = led.units pointer y to.1 in
    let stands = standing.blocks nsid lba b there in
    let one : Some spot ≡ Some stands.spot = sym site ∙ stands.site in
    let same : spot ≡ stands.spot = cc in
    let orderly_block = orderly.state.blocks nsid lba b there in
    let space = orderly.state.namespaces nsid (space-there p.state nsid lba orderly_block.address).0 (space-there p.state nsid lba orderly_block.address).1 in
    let rg : y.spare.rg ≡ b.rg =
    unit.1 ∙ ap (λ (x : Spot). group_of c x.unit) (to.2 ∙ same) ∙ stands.group in
    let generation : y.spare.generation ≡ p.state.generation = unit.0 in
    let ruh : y.spare.ruh ≡ b.ruh = led.handled pointer y b.ruh to.1 (ap (option_map (λ (x : Block). x.ruh)) there) in
    let says = spare-says y.spare (omega (arith, rg, orderly_block.group, valid.ranges.groups.1)) (omega (arith, generation, few)) in
    let nsid_is : y.spare.nsid ≡ nsid = ap (λ (x : DataSpare). x.nsid) (sym own.spare) ∙ name.0 in
    let lba_is : y.spare.lba ≡ lba = ap (λ (x : DataSpare). x.lba) (sym own.spare) ∙ name.1 in
    let size = size-few c p.state valid listed nsid space.identifier.0 space.identifier.1 in
    let low_nsid : y.spare.nsid < 256 ^ 4 = omega (arith, nsid_is, space.identifier.1) in
    let low_lba : y.spare.lba < 256 ^ 8 = omega (arith, lba_is, orderly_block.address, size) in
    record {
      spare = data_spare y.spare;
      whole = subst (λ (x : Spot). Holds (geometry_of c) cells x (data_spare y.spare) b.bytes) to.2
          (held.whole y.spot (record { spare = y.spare; bytes = b.bytes }) (led.holds pointer y (content_of_block b) to.1 (ap (option_map content_of_block) there)));
      said = says.said;
      says = says.is;
      nsid_is = says.nsid ∙ mod-eq_of_lt low_nsid ∙ nsid_is;
      lba_is = says.lba ∙ mod-eq_of_lt low_lba ∙ lba_is;
      rg_is = says.rg ∙ rg;
      ruh_is = says.ruh ∙ ruh;
      generation_is = says.generation ∙ generation;
    }

-- ---- the pages were used

-- a page by its number
spot-back : (c : DriveConfig) (spot : Spot) → spot.page < c.unit_pages → spot_of c (page_number (geometry_of c) spot) ≡ spot
spot-back c spot low =
    let n : ℕ = page_number (geometry_of c) spot in
    let unit : n / c.unit_pages ≡ spot.unit = unit-of c spot low in
    let page : n % c.unit_pages ≡ spot.page = omega (arith, div-add-mod' n c.unit_pages, ap (λ (k : ℕ). k * c.unit_pages) unit) in
    λ d. record { unit = unit d; page = page d }

pub drawn-used : (c : DriveConfig) (p : Point) (written : Spot → Option Written) (at : Behind Page) (t : PageTables) → IsStanding c p → AreLed c p written at t
    → (nsid lba page : ℕ) → (drawn c p).pages nsid lba ≡ Some page → (spot_of c page).page < next_in t.units (spot_of c page).unit
drawn-used c p written at t standing led nsid lba page e =
    let block = drawn-block c p nsid lba page e in
    let stands_at : Some block.spot ≡ option_map (λ (y : Page). y.spot) (at (of_block nsid lba)) =
    sym (ap (option_and_then (λ (x : Block). p.trail.site x.page)) block.there ∙ block.site) ∙ block-at c p (next_in t.units) at led.table nsid lba in
    let to = led-to (at (of_block nsid lba)) block.spot stands_at in
    let stands = standing.blocks nsid lba block.block block.there in
    let one : Some block.spot ≡ Some stands.spot = sym block.site ∙ stands.site in
    let same : block.spot ≡ stands.spot = cc in
    let low : block.spot.page < c.unit_pages = subst (λ (x : Spot). x.page < c.unit_pages) (sym same) stands.page.1 in
    let back : spot_of c page ≡ block.spot = ap (spot_of c) (sym block.number) ∙ spot-back c block.spot low in
    subst (λ (x : Spot). x.page < next_in t.units x.unit) (to.2 ∙ sym back) (led.table.below (of_block nsid lba) to.0 to.1)
