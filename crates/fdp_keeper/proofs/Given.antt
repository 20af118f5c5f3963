-- What a book gives a checkpoint.
use Rattle.std.proofs.Common.{◌≡◌, ℕ, suc, ◌+◌, ◌-◌, ◌*◌, ◌^◌, ◌<◌, ◌≤◌, List, length, Option, Some, None, sym, arith, subst}
use Rattle.std.specs.Prelude.{IfSome, sum_by}
use Rattle.std.proofs.Math.Nat.{mul-le-mul_left}
use Rattle.fdp_base.specs.declared.config.DriveConfig.{DriveConfig}
use Rattle.fdp_base.specs.declared.config.Geometry.{Geometry}
use Rattle.fdp_durability.specs.fdp_checkpoint.Writing.{with_pages}
use Rattle.fdp_base.specs.Config.{IsValidConfig}
use Rattle.fdp_base.specs.Geometry.{area_pages}
use Rattle.fdp_base.specs.Placement.{budget_of, full_budget, geometry_of, most_blocks}
use Rattle.fdp_book.specs.Outlined.{IsOutlineAt}
use Rattle.fdp_history.specs.Listed.{IsListed}
use Rattle.fdp_history.specs.Orderly.{IsOrderly}
use Rattle.fdp_history.proofs.Bounds.{handles-in_force}
use Rattle.fdp_image.specs.Areas.{data_pages}
use Rattle.fdp_image.specs.Checkpoint.{page_in_lists, reading_of_state}
use Rattle.fdp_image.specs.Replacing.{IsSavedBy, pages_for}
use Rattle.fdp_image.specs.Valid.{IsGoodNamespace}
use Rattle.fdp_map.specs.PageLists.{size_at}
use Rattle.fdp_outline.specs.Outline.{IsOutlineOf, IsWritable}
use Rattle.fdp_outline.specs.Pages.{ArePagesOf}
use Rattle.fdp_outline.proofs.Paging.{outline-blocks, outline-state}
use Rattle.fdp_outline.proofs.Saved.{outline-saved}
use Rattle.fdp_outline.proofs.Saying.{says-reading}
use Rattle.fdp_durability.specs.fdp_readings.Drawn.{drawn}
use Rattle.fdp_rules.specs.PlainState.{Namespace}
use Rattle.fdp_rules.specs.Point.{Point}
use Rattle.fdp_rules.specs.Room.{handles_in_force, namespace_ids, size_of}
use Rattle.fdp_durability.proofs.fdp_saving.Room.{checkpoint_room}
use Rattle.fdp_snapshot.specs.declared.state.Summary.{Summary}
use Rattle.fdp_snapshot.specs.Checkpoint.{IsState}
use Rattle.fdp_snapshot.specs.Reading.{blocks_in}

-- the lists of a book are the pages of what is drawn
pub drawn-pages : (c : DriveConfig) (p : Point) (lists : List (List (Option ℕ))) → IsValidConfig c → length lists ≡ 16 → ((nsid : ℕ) → size_at lists nsid ≡ size_of p.state nsid) → ((nsid lba : ℕ) → page_in_lists lists nsid lba ≡ (drawn c p).pages nsid lba) → ((nsid lba : ℕ) → IfSome (page_in_lists lists nsid lba) (λ page. page < data_pages (geometry_of c))) → ArePagesOf (drawn c p) lists
drawn-pages c p lists valid rows sizes blocks places = record {
  places = rows;
  sizes = sizes;
  pages = blocks;
  fit = λ nsid lba. fits (page_in_lists lists nsid lba) (places nsid lba);
} where
  few : data_pages (geometry_of c) ≤ 262144
  few = omega (arith, valid.ranges.pages)

  fits : (o : Option ℕ) → IfSome o (λ page. page < data_pages (geometry_of c)) → IfSome o (λ page. page + 1 < 2 ^ 32)
  fits None h = tt
  fits (Some page) h = omega (arith, h, few)

-- more handles leave no more room
pub budgets-fall : (c : DriveConfig) (handles : ℕ) → 1 ≤ handles → full_budget c handles ≤ most_blocks c
budgets-fall c handles some =
    let less : c.units - 0 - 2 * handles - 3 ≤ c.units - 0 - 2 * 1 - 3 = omega (arith, some) in
    let pages : c.unit_pages * (c.units - 0 - 2 * handles - 3) ≤ c.unit_pages * (c.units - 0 - 2 * 1 - 3) = mul-le-mul_left c.unit_pages less in
    let budget : budget_of c handles 0 ≤ budget_of c 1 0 = omega (arith, pages) in
    mul-le-mul_left c.groups budget

-- a checkpoint leaves room for a record
pub room-left : (c : DriveConfig) (p : Point) (s : Summary) → IsValidConfig c → IsOrderly c p → IsListed c p.state → IsOutlineOf c (drawn c p) s → IsWritable s → pages_for c.block s + 17 ≤ area_pages (geometry_of c)
room-left c p s valid orderly listed h w =
    let blocks : blocks_in s.spaces ≡ sum_by (size_of p.state) namespace_ids = outline-blocks c (drawn c p) s h w.summary.places in
    let few : sum_by (size_of p.state) namespace_ids ≤ full_budget c (handles_in_force c p.state) = listed.room in
    let most : full_budget c (handles_in_force c p.state) ≤ most_blocks c = budgets-fall c (handles_in_force c p.state) (handles-in_force c p.state valid orderly.state).0 in
    checkpoint_room c s valid (omega (arith, blocks, few, most))

-- the namespaces of an orderly point are such as a drive may have
namespaces-drawn : (c : DriveConfig) (p : Point) → IsOrderly c p → IsListed c p.state → (nsid : ℕ) (x : Namespace) → p.state.namespaces nsid ≡ Some x → IsGoodNamespace (handles_in_force c p.state) p.totals.position x
namespaces-drawn c p orderly listed nsid x there =
    let good = orderly.state.namespaces nsid x there in
    record {
      some_blocks = omega (arith, good.size);
      list = record { number = good.number; known = good.handles; distinct = listed.handles nsid x there };
      born = omega (arith, good.birth, orderly.positions);
    }

-- what is given to a saver: a state that a checkpoint has room for, which says what is drawn, and is one that the drive saves
pub record IsGiven (c : DriveConfig) (p : Point) (s : Summary) (lists : List (List (Option ℕ))) : Type 0 where
  pub state : IsState (with_pages s lists)
  pub room : pages_for c.block s + 17 ≤ area_pages (geometry_of c)
  pub drive : reading_of_state (with_pages s lists) ≡ drawn c p
  pub saved : IsSavedBy c (with_pages s lists)

pub given : (c : DriveConfig) (p : Point) (s : Summary) (lists : List (List (Option ℕ))) → IsValidConfig c → IsOrderly c p → IsListed c p.state → IsOutlineAt c p s → IsWritable s → ArePagesOf (drawn c p) lists → IsGiven c p s lists
given c p s lists valid orderly listed h w pages = record {
  state = outline-state c (drawn c p) s lists h.outline w pages;
  room = room-left c p s valid orderly listed h.outline w;
  drive = says-reading c (drawn c p) s lists h.outline h.totals pages.pages;
  saved = outline-saved c (drawn c p) s lists h.outline w h.totals orderly.state.index (namespaces-drawn c p orderly listed) listed.room;
}

pub room-for-record : (c : DriveConfig) (g : Geometry) (s : Summary) → g ≡ geometry_of c → pages_for c.block s + 17 ≤ area_pages (geometry_of c) → suc (pages_for g.block s) < area_pages g
room-for-record c g s same room = subst (λ (x : Geometry). suc (pages_for x.block s) < area_pages x) (sym same) (less (pages_for c.block s) (area_pages (geometry_of c)) room) where
  less : (a b : ℕ) → a + 17 ≤ b → suc a < b
  less a b h = omega arith

pub room-for-seal : (c : DriveConfig) (g : Geometry) (s : Summary) → g ≡ geometry_of c → pages_for c.block s + 17 ≤ area_pages (geometry_of c) → pages_for g.block s < area_pages g
room-for-seal c g s same room = subst (λ (x : Geometry). pages_for x.block s < area_pages x) (sym same) (less (pages_for c.block s) (area_pages (geometry_of c)) room) where
  less : (a b : ℕ) → a + 17 ≤ b → a < b
  less a b h = omega arith
