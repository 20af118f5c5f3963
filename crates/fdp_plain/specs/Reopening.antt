-- What a reopening makes of the tables.
use Rattle.std.specs.Prelude.{◌≡◌, ℕ, ◌+◌, ◌*◌, ◌++◌, ◌∷◌, [], false, List, None, Option, length, map, option_and_then, option_map, replicate}
use Rattle.std.specs.Option.{option_map_or}
use Rattle.std.specs.Vec.{vec_items}
use Rattle.fdp_base.specs.declared.entry.Spot.{Spot}
use Rattle.fdp_rules.specs.Effect.{no_reference}
use Rattle.fdp_rules.specs.PlainState.{PageName, PageName.found, PageName.written}
use Rattle.fdp_tables.specs.declared.state.Kept.{Kept}
use Rattle.fdp_tables.specs.declared.state.KeptBlock.{KeptBlock}
use Rattle.fdp_tables.specs.declared.state.KeptPage.{KeptPage}
use Rattle.fdp_tables.specs.declared.state.KeptPage.TheVariants as pages
use Rattle.fdp_tables.specs.declared.state.Space.{Space}
use Rattle.fdp_tables.specs.PageSites.{AreInPlace, site_in}
use Rattle.fdp_tables.specs.State.{namespace_of, page_of, plain_of, row}
use Rattle.fdp_plain.specs.declared.reopen.Next.{Next}

-- the sites of pages by ticket, and of those that were found by unit
pub record SiteTables : Type 0 where
  pub written_rows : List (List (Option Spot))
  pub found_rows : List (List (Option Spot))

-- where a page stands by these tables
abbrev pub site_by : SiteTables → PageName → Option Spot
site_by t (written ticket index) = site_in t.written_rows ticket index
site_by t (found spot) = site_in t.found_rows spot.unit spot.page

-- the name under which the next run follows a page: where it stands
abbrev pub named_page : SiteTables → KeptPage → KeptPage
named_page t page = option_map_or pages.Found (site_by t (page_of page)) page

abbrev pub named_block : SiteTables → KeptBlock → KeptBlock
named_block t b = record b { page = named_page t b.page }

-- the block of a namespace that may be there, at an address
abbrev pub kept_in : Option Space → ℕ → Option KeptBlock
kept_in space lba = option_and_then (λ x. row x.blocks lba) space

-- a namespace whose blocks are named by where they stand
pub record IsNamed (t : SiteTables) (old new : Option Space) : Type 0 where
  pub namespace : option_map namespace_of new ≡ option_map namespace_of old
  pub blocks : (lba : ℕ) → kept_in new lba ≡ option_map (named_block t) (kept_in old lba)

abbrev pub tables_of : Kept → SiteTables
tables_of k = record { written_rows = k.sites.rows; found_rows = k.found.rows }

-- what the tables of the next run need memory for: where it starts, no page of a write, each page of the drive where it is, no copy
pub record IsNext (k : Kept) (next : Next) : Type 0 where
  pub starts : next.starts.items ≡ k.starts.items ++ length k.entries.items ∷ []
  pub sites : next.sites.rows ≡ replicate (length k.entries.items + 1) []
  pub found_pages : AreInPlace next.found.rows (k.config.groups * k.config.units) k.config.unit_pages
  pub copies : map vec_items next.copies.items ≡ replicate k.config.groups []

-- no handle references a unit, no write is going, no unit is out of use, no group worn, and no moment of a media error is known
pub record Forgets (old new : Kept) : Type 0 where
  pub references : (plain_of new).references ≡ (λ rg ruh. no_reference old.config)
  pub going : (plain_of new).going ≡ (λ queue. None)
  pub lost : (plain_of new).is_lost ≡ (λ unit. false)
  pub worn : (plain_of new).is_worn ≡ (λ rg. false)
  pub media : new.media.items ≡ []
