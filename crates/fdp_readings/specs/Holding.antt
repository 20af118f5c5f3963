-- Cells that hold the blocks of a history, each on the page where it stands.
use Rattle.std.specs.Prelude.{◌≡◌, ℕ, List, Some}
use Rattle.fdp_base.specs.declared.config.DriveConfig.{DriveConfig}
use Rattle.fdp_base.specs.declared.entry.Spot.{Spot}
use Rattle.fdp_base.specs.declared.spare.DataSpare.{DataSpare}
use Rattle.fdp_base.specs.Placement.{geometry_of}
use Rattle.fdp_locations.specs.fdp_collector.Copying.{Holds}
use Rattle.fdp_flash.specs.declared.cell.Cell.{Cell}
use Rattle.fdp_records.specs.Spares.{said_by_data}
use Rattle.fdp_rules.specs.PlainState.{Block}
use Rattle.fdp_rules.specs.Point.{Point}

-- a page is whole with the bytes of a block, and its spare names the block, its group and its handle, and this generation
pub record HoldsBlock (c : DriveConfig) (cells : List Cell) (generation nsid lba : ℕ) (b : Block) (spot : Spot) : Type 0 where
  pub spare : List ℕ
  pub whole : Holds (geometry_of c) cells spot spare b.bytes
  pub said : DataSpare
  pub says : said_by_data spare ≡ Some said
  pub nsid_is : said.nsid ≡ nsid
  pub lba_is : said.lba ≡ lba
  pub rg_is : said.rg ≡ b.rg
  pub ruh_is : said.ruh ≡ b.ruh
  pub generation_is : said.generation ≡ generation

-- the page where a block stands holds it, and names the generation in force
abbrev pub HoldsBlocks : DriveConfig → Point → List Cell → Type 0
HoldsBlocks c p cells =
    (nsid lba : ℕ) (b : Block) (spot : Spot) → p.state.blocks nsid lba ≡ Some b → p.trail.site b.page ≡ Some spot
    → HoldsBlock c cells p.state.generation nsid lba b spot
