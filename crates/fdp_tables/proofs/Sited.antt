-- Where a block stands by the tables is where it stands by the entries.
use Rattle.std.proofs.Common.{◌≡◌, ℕ, Option, None, Some, ap, refl, subst, sym}
use Rattle.std.specs.Prelude.{option_and_then, option_map}
use Rattle.std.specs.Option.{IsSomeAnd}
use Rattle.fdp_base.specs.declared.entry.Spot.{Spot}
use Rattle.fdp_rules.specs.PlainState.{Block, PageName, PageName.found, PageName.written}
use Rattle.fdp_tables.specs.declared.state.Kept.{Kept}
use Rattle.fdp_tables.specs.declared.state.KeptBlock.{KeptBlock}
use Rattle.fdp_tables.specs.declared.state.Space.{Space}
use Rattle.fdp_rules.specs.Sites.{site_of}
use Rattle.fdp_tables.specs.Sound.{KnowsFound}
use Rattle.fdp_tables.specs.State.{block_at, block_of, page_of, plain_of, point_kept, row, site_at, space_at, table_site}

-- where a page stands that holds a block
pub page_sited : (k : Kept) → KnowsFound k → (nsid lba : ℕ) (b : Block) (name : PageName) → (plain_of k).blocks nsid lba ≡ Some b → b.page ≡ name → table_site k name ≡ site_at k name
page_sited k h nsid lba b (written ticket index) there is = refl
page_sited k h nsid lba b (found spot) there is = h nsid lba b spot there is

-- where a block stands that may be there
pub block_sited : (k : Kept) → KnowsFound k → (nsid lba : ℕ) (o : Option KeptBlock) → block_at k nsid lba ≡ o
    → option_and_then (λ (b : Block). table_site k b.page) (option_map block_of o) ≡ option_and_then (λ (b : Block). site_at k b.page) (option_map block_of o)
block_sited k h nsid lba None is = refl
block_sited k h nsid lba (Some b) is = page_sited k h nsid lba (block_of b) (block_of b).page (rw is refl) refl

-- a block that stands somewhere, by the row of its namespace
pub stands_in_row : (k : Kept) (P : Spot → Type 0) → KnowsFound k → (nsid lba : ℕ) (x : Space) → space_at k nsid ≡ Some x → IsSomeAnd (site_of (point_kept k) nsid lba) P
    → (b : KeptBlock) × (row x.blocks lba ≡ Some b) × IsSomeAnd (table_site k (page_of b.page)) P
stands_in_row k P knows nsid lba x there stands =
    of_block (row x.blocks lba) refl
    (subst (λ o. IsSomeAnd o P) (sym (block_sited k knows nsid lba (row x.blocks lba) at)) (subst (λ o. IsSomeAnd (option_and_then (λ (b : Block). site_at k b.page) (option_map block_of o)) P) at stands)) where
      at : block_at k nsid lba ≡ row x.blocks lba
      at = ap (option_and_then (λ (s : Space). row s.blocks lba)) there

      of_block : (o : Option KeptBlock) → row x.blocks lba ≡ o → IsSomeAnd (option_and_then (λ (b : Block). table_site k b.page) (option_map block_of o)) P → (b : KeptBlock) × (row x.blocks lba ≡ Some b) × IsSomeAnd (table_site k (page_of b.page)) P
      of_block None e h = absurd h
      of_block (Some b) e h = (b, e, h)
