-- What is known of a block that was read off its page.
use Rattle.std.proofs.Common.{◌≡◌, ℕ, zero, suc, ◌*◌, ◌/◌, ◌<◌, Bool, true, false, List, Option, Some, None, refl, arith, div-lt_iff_lt-mul}
use Rattle.std.specs.Prelude.{◌==◌, ◌&&◌, if◌then◌else◌, slice_get}
use Rattle.std.specs.Option.{option_and_then}
use Rattle.std.proofs.lemmas.Bool.{and_parts, eqb-true}
use Rattle.std.proofs.lemmas.Nat.{mod_below}
use Rattle.fdp_base.specs.declared.config.DriveConfig.{DriveConfig}
use Rattle.fdp_base.specs.declared.spare.DataSpare.{DataSpare}
use Rattle.fdp_base.specs.Config.{IsValidConfig}
use Rattle.fdp_base.specs.Placement.{geometry_of}
use Rattle.fdp_flash.specs.declared.cell.Cell.{Cell}
use Rattle.fdp_flash.specs.declared.cell.Cell.TheVariants.{Blank, Torn, Whole}
use Rattle.fdp_image.specs.Areas.{data_pages}
use Rattle.fdp_image.specs.Reading.{Reading, group_of_page, spot_of}
use Rattle.fdp_image.specs.Valid.{block_by, block_from, block_read, is_named}
use Rattle.fdp_records.specs.Spares.{said_by_data}
use Rattle.fdp_rules.specs.PlainState.{Block, PageName.found}
use Rattle.fdp_rules.specs.Step.{IsPage}

-- a spare names a block on a page, its group and the generation
pub record Names (c : DriveConfig) (r : Reading) (nsid lba page : ℕ) (s : DataSpare) : Type 0 where
  pub nsid_is : s.nsid ≡ nsid
  pub lba_is : s.lba ≡ lba
  pub group : s.rg ≡ group_of_page c page
  pub generation : s.generation ≡ r.generation

pub names-of : (c : DriveConfig) (r : Reading) (nsid lba page : ℕ) (s : DataSpare) → is_named c r nsid lba page s ≡ true → Names c r nsid lba page s
names-of c r nsid lba page s is =
    let a = and_parts (s.nsid == nsid && s.lba == lba && s.rg == group_of_page c page) (s.generation == r.generation) is in
    let b = and_parts (s.nsid == nsid && s.lba == lba) (s.rg == group_of_page c page) a.0 in
    let d = and_parts (s.nsid == nsid) (s.lba == lba) b.0 in
    record { nsid_is = eqb-true s.nsid nsid d.0; lba_is = eqb-true s.lba lba d.1; group = eqb-true s.rg (group_of_page c page) b.1; generation = eqb-true s.generation r.generation a.1 }

-- the page of a block, and what stands there
pub record IsReadOff (c : DriveConfig) (cells : List Cell) (r : Reading) (nsid lba : ℕ) (b : Block) : Type 0 where
  pub page : ℕ
  pub there : r.pages nsid lba ≡ Some page
  pub spare : List ℕ
  pub bytes : List ℕ
  pub cell : slice_get cells page ≡ Some (Whole spare bytes)
  pub said : DataSpare
  pub says : said_by_data spare ≡ Some said
  pub names : Names c r nsid lba page said
  pub is : b ≡ record { bytes = bytes; rg = said.rg; ruh = said.ruh; page = found (spot_of c page) }

pub read-off : (c : DriveConfig) (cells : List Cell) (r : Reading) (nsid lba : ℕ) (b : Block) → block_read c cells r nsid lba ≡ Some b → IsReadOff c cells r nsid lba b
read-off c cells r nsid lba b e = of_page (r.pages nsid lba) refl e where
  of_named : (page : ℕ) → r.pages nsid lba ≡ Some page → (spare bytes : List ℕ) → slice_get cells page ≡ Some (Whole spare bytes) → (s : DataSpare) → said_by_data spare ≡ Some s → (t : Bool) → is_named c r nsid lba page s ≡ t
      → (if t then Some (record { bytes = bytes; rg = s.rg; ruh = s.ruh; page = found (spot_of c page) }) else None) ≡ Some b → IsReadOff c cells r nsid lba b
  of_named page there spare bytes cell s says false names some = absurd cc
  of_named page there spare bytes cell s says true names some =
      record { page = page; there = there; spare = spare; bytes = bytes; cell = cell; said = s; says = says; names = names-of c r nsid lba page s names; is = cc }

  of_said : (page : ℕ) → r.pages nsid lba ≡ Some page → (spare bytes : List ℕ) → slice_get cells page ≡ Some (Whole spare bytes) → (o : Option DataSpare) → said_by_data spare ≡ o → option_and_then (block_by c r nsid lba page bytes) o ≡ Some b
      → IsReadOff c cells r nsid lba b
  of_said page there spare bytes cell None says some = absurd cc
  of_said page there spare bytes cell (Some s) says some = of_named page there spare bytes cell s says (is_named c r nsid lba page s) refl some

  of_cell : (page : ℕ) → r.pages nsid lba ≡ Some page → (o : Option Cell) → slice_get cells page ≡ o → option_and_then (block_from c r nsid lba page) o ≡ Some b → IsReadOff c cells r nsid lba b
  of_cell page there None cell some = absurd cc
  of_cell page there (Some Blank) cell some = absurd cc
  of_cell page there (Some Torn) cell some = absurd cc
  of_cell page there (Some (Whole spare bytes)) cell some = of_said page there spare bytes cell (said_by_data spare) refl some

  of_page : (o : Option ℕ) → r.pages nsid lba ≡ o → option_and_then (λ page. option_and_then (block_from c r nsid lba page) (slice_get cells page)) o ≡ Some b → IsReadOff c cells r nsid lba b
  of_page None there some = absurd cc
  of_page (Some page) there some = of_cell page there (slice_get cells page) refl some

-- ---- where a data page lies

below-some : (a b k : ℕ) → a < b * k → 0 < k
below-some a b zero low = absurd (omega (arith, low))
below-some a b (suc k) low = omega arith

pub page-lies : (c : DriveConfig) (page : ℕ) → IsValidConfig c → page < data_pages (geometry_of c) → IsPage c (spot_of c page)
page-lies c page valid low =
    let some : 0 < c.unit_pages = omega (arith, valid.ranges.unit_pages.0) in
    ((div-lt_iff_lt-mul some).1 low, mod_below page c.unit_pages some)

pub group-lies : (c : DriveConfig) (page : ℕ) → IsValidConfig c → page < data_pages (geometry_of c) → group_of_page c page < c.groups
group-lies c page valid low =
    let unit : page / c.unit_pages < c.groups * c.units = (page-lies c page valid low).0 in
    (div-lt_iff_lt-mul (below-some (page / c.unit_pages) c.groups c.units unit)).1 unit
