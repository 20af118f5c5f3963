-- Blocks that go one way in each unit: what is drawn of them, and what cells that change keep.
use Rattle.std.proofs.Common.{◌≡◌, ℕ, zero, suc, ◌/◌, IsTrue, List, [], ◌∷◌, Option, Some, None, refl, sym, ◌∙◌, ap, subst}
use Rattle.std.specs.Prelude.{false, option_and_then, option_map, slice_get, slice_index_or}
use Rattle.std.specs.Option.{option_map_or}
use Rattle.fdp_base.specs.declared.config.Class.{Class}
use Rattle.fdp_base.specs.declared.config.Class.TheVariants.{Initial, Persistent}
use Rattle.fdp_base.specs.declared.config.DriveConfig.{DriveConfig}
use Rattle.fdp_base.specs.declared.entry.Spot.{Spot}
use Rattle.fdp_base.specs.declared.spare.DataSpare.{DataSpare}
use Rattle.fdp_base.specs.Placement.{classes_of, geometry_of}
use Rattle.fdp_flash.specs.declared.cell.Cell.{Cell}
use Rattle.fdp_flash.specs.Layout.{page_number}
use Rattle.fdp_history.specs.Standing.{IsStanding}
use Rattle.fdp_image.specs.CheckpointFields.{is_persistent}
use Rattle.fdp_image.specs.Reading.{Reading}
use Rattle.fdp_image.specs.Valid.{GoOneWay, block_read, is_kept_apart}
use Rattle.fdp_locations.specs.fdp_collector.Ready.{HaveLanes, lane_at}
use Rattle.fdp_locations.specs.fdp_pages.PageTables.{PageTables}
use Rattle.fdp_locations.specs.Located.{AreLed, next_in}
use Rattle.fdp_locations.specs.Written.{Written}
use Rattle.fdp_owners.specs.declared.owner.Owner.{Owner}
use Rattle.fdp_owners.specs.OwnerTable.{owner_at}
use Rattle.fdp_passes.specs.declared.lane.Lane.{Lane}
use Rattle.fdp_passes.specs.declared.lane.Lane.TheVariants.{Own}
use Rattle.fdp_passes.specs.GroupPasses.{lane_of}
use Rattle.fdp_pointers.specs.Facts.{Page}
use Rattle.fdp_pointers.specs.Pointers.{Behind, Pointer, Pointer.of_block}
use Rattle.fdp_pointers.proofs.Tables.{block-at}
use Rattle.fdp_readings.specs.Drawn.{drawn}
use Rattle.fdp_readings.specs.Holding.{HoldsBlocks}
use Rattle.fdp_readings.specs.Named.{KeepsNamed}
use Rattle.fdp_readings.specs.Ways.{StandOneWay}
use Rattle.fdp_readings.proofs.Drawing.{block-drawn, drawn-block, read-block, unit-of}
use Rattle.fdp_readings.proofs.Keeping.{block-kept}
use Rattle.fdp_readings.proofs.Leading.{led-to}
use Rattle.fdp_rules.specs.PlainState.{Block}
use Rattle.fdp_rules.specs.Point.{Point}

-- a block that is read off the page where it is drawn stands there, and was placed by the same handle
record IsReadBlock (c : DriveConfig) (p : Point) (nsid lba page : ℕ) (x : Block) : Type 0 where
  pub block : Block
  pub there : p.state.blocks nsid lba ≡ Some block
  pub spot : Spot
  pub site : p.trail.site block.page ≡ Some spot
  pub unit : page / c.unit_pages ≡ spot.unit
  pub ruh : block.ruh ≡ x.ruh

read : (c : DriveConfig) (p : Point) (cells : List Cell) → IsStanding c p → HoldsBlocks c p cells → (nsid lba page : ℕ) (x : Block) → (drawn c p).pages nsid lba ≡ Some page → block_read c cells (drawn c p) nsid lba ≡ Some x
    → IsReadBlock c p nsid lba page x
read c p cells standing holds nsid lba page x there held =
    let a = drawn-block c p nsid lba page there in
    let s = standing.blocks nsid lba a.block a.there in
    let one : Some a.spot ≡ Some s.spot = sym a.site ∙ s.site in
    let same : a.spot ≡ s.spot = cc in
    let drawn_is = block-drawn c p nsid lba a.block s.spot a.there s.site in
    let is = read-block c p cells nsid lba a.block s.spot s.group s.page.1 (holds nsid lba a.block s.spot a.there s.site) drawn_is in
    let ruh : Some a.block.ruh ≡ Some x.ruh = ap (λ (o : Option Block). option_map (λ (b : Block). b.ruh) o) (sym is ∙ held) in
    record {
      block = a.block;
      there = a.there;
      spot = s.spot;
      site = s.site;
      unit = ap (λ (n : ℕ). n / c.unit_pages) (sym a.number ∙ ap (page_number (geometry_of c)) same) ∙ unit-of c s.spot s.page.1;
      ruh = cc;
    }

-- what a point draws goes one way, where its blocks stand so
pub drawn-ways : (c : DriveConfig) (p : Point) (cells : List Cell) → IsStanding c p → HoldsBlocks c p cells → StandOneWay c p → GoOneWay c cells (drawn c p)
drawn-ways c p cells standing holds stand nsid lba page n l other x y there here same read_x read_y apart =
    let a = read c p cells standing holds nsid lba page x there read_x in
    let b = read c p cells standing holds n l other y here read_y in
    let unit : a.spot.unit ≡ b.spot.unit = sym a.unit ∙ same ∙ b.unit in
    sym b.ruh ∙ stand nsid lba n l a.block b.block a.spot b.spot a.there a.site b.there b.site unit (subst (λ (ruh : ℕ). IsTrue (is_kept_apart c (drawn c p) ruh)) (sym a.ruh) apart) ∙ a.ruh

-- and so it does in cells that keep the named pages
pub ways-kept : (c : DriveConfig) (r : Reading) (old new : List Cell) → KeepsNamed r old new → GoOneWay c old r → GoOneWay c new r
ways-kept c r old new keeps ways nsid lba page n l other x y there here same read_x read_y apart =
    ways nsid lba page n l other x y there here same (sym (block-kept c r old new keeps nsid lba) ∙ read_x) (sym (block-kept c r old new keeps n l) ∙ read_y) apart

-- ---- from the owners of the pages

-- the page where a block stands has an owner, whose spare names the handle of the block
record IsOwnedBlock (t : PageTables) (spot : Spot) (b : Block) : Type 0 where
  pub owner : Owner
  pub is_owner : owner_at t.owners spot ≡ Some owner
  pub handle : owner.spare.ruh ≡ b.ruh

owned : (c : DriveConfig) (p : Point) (written : Spot → Option Written) (at : Behind Page) (t : PageTables) → AreLed c p written at t → (nsid lba : ℕ) (b : Block) (spot : Spot) → p.state.blocks nsid lba ≡ Some b
    → p.trail.site b.page ≡ Some spot → IsOwnedBlock t spot b
owned c p written at t led nsid lba b spot there site =
    let pointer : Pointer = of_block nsid lba in
    let stands_at : Some spot ≡ option_map (λ (y : Page). y.spot) (at pointer) =
    sym (ap (option_and_then (λ (x : Block). p.trail.site x.page)) there ∙ site) ∙ block-at c p (next_in t.units) at led.table nsid lba in
    let to = led-to (at pointer) spot stands_at in
    let own = led.owned.owned pointer to.0 to.1 in
    record {
      owner = own.owner;
      is_owner = subst (λ (x : Spot). owner_at t.owners x ≡ Some own.owner) to.2 own.is_owner;
      handle = ap (λ (x : DataSpare). x.ruh) own.spare ∙ led.handled pointer to.0 b.ruh to.1 (ap (option_map (λ (x : Block). x.ruh)) there);
    }

class-at : (classes : List Class) (k : ℕ) (x : Class) → slice_get classes k ≡ Some x → slice_index_or classes k Initial ≡ x
class-at [] zero x e = absurd cc
class-at [] (suc k) x e = absurd cc
class-at (y ∷ ys) zero x e = cc
class-at (y ∷ ys) (suc k) x e = class-at ys k x e

-- a handle whose lane is that of a persistently isolated one is that one
same-lane : (classes : List Class) (ruh other : ℕ) → IsTrue (option_map_or is_persistent (slice_get classes ruh) false) → lane_of (slice_index_or classes ruh Initial) ruh ≡ lane_of (slice_index_or classes other Initial) other → other ≡ ruh
same-lane classes ruh other apart same = of_class (slice_get classes ruh) refl apart where
  own : (x : Class) → Own ruh ≡ lane_of x other → other ≡ ruh
  own Initial e = absurd cc
  own Persistent e = cc

  of_class : (o : Option Class) → slice_get classes ruh ≡ o → IsTrue (option_map_or is_persistent o false) → other ≡ ruh
  of_class None is h = absurd cc
  of_class (Some Initial) is h = absurd cc
  of_class (Some Persistent) is h =
      let class : slice_index_or classes ruh Initial ≡ Persistent = class-at classes ruh Persistent is in
      own (slice_index_or classes other Initial) (sym (ap (λ (x : Class). lane_of x ruh) class) ∙ same)

-- where the owners of each unit go one way, so do the blocks
pub lanes-stand : (c : DriveConfig) (p : Point) (written : Spot → Option Written) (at : Behind Page) (t : PageTables) → classes_of c p.state.enabled p.state.index ≡ t.handles.classes → HaveLanes t.handles.classes t.owners → AreLed c p written at t
    → StandOneWay c p
lanes-stand c p written at t classes lanes led nsid lba n l x y spot other there site here place same apart =
    let a = owned c p written at t led nsid lba x spot there site in
    let b = owned c p written at t led n l y other here place in
    let way : lane_at t.handles.classes a.owner ≡ lane_at t.handles.classes b.owner = lanes.same spot other a.owner b.owner same a.is_owner b.is_owner in
    let lane : ℕ → Lane = λ ruh. lane_of (slice_index_or t.handles.classes ruh Initial) ruh in
    same-lane t.handles.classes x.ruh y.ruh (subst (λ (cs : List Class). IsTrue (option_map_or is_persistent (slice_get cs x.ruh) false)) classes apart)
    (sym (ap lane a.handle) ∙ way ∙ ap lane b.handle)
