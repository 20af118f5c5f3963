-- Where the pointers lead when a run over an image begins.
use Rattle.std.proofs.Common.{◌≡◌, ℕ, ◌<◌, List, Option, Some, None, sym, ◌∙◌, ap, subst, slice_get}
use Rattle.std.specs.Prelude.{option_map}
use Rattle.std.specs.Option.{option_and_then, option_map_or}
use Rattle.fdp_base.specs.declared.config.DriveConfig.{DriveConfig}
use Rattle.fdp_base.specs.declared.spare.DataSpare.{DataSpare}
use Rattle.fdp_base.specs.Config.{IsValidConfig}
use Rattle.fdp_base.specs.Placement.{geometry_of}
use Rattle.fdp_flash.specs.declared.cell.Cell.{Cell}
use Rattle.fdp_flash.specs.declared.cell.Cell.TheVariants.{Whole}
use Rattle.fdp_found.specs.Finding.{block_as, block_on}
use Rattle.fdp_found.specs.Opened.{led_in, no_spare, spare_found}
use Rattle.fdp_found.proofs.Blocks.{blocks-find}
use Rattle.fdp_found.proofs.Paging.{is-held, number-back}
use Rattle.fdp_found.proofs.Reading.{Names, page-lies, read-off}
use Rattle.fdp_found.proofs.Stating.{lie-within}
use Rattle.fdp_image.specs.Areas.{data_pages}
use Rattle.fdp_image.specs.Reading.{Reading, spot_of}
use Rattle.fdp_image.specs.Valid.{IsValid, block_from, block_read}
use Rattle.fdp_locations.specs.Held.{pages_held, written_as}
use Rattle.fdp_locations.specs.Written.{Written}
use Rattle.fdp_pointers.specs.Facts.{Page}
use Rattle.fdp_pointers.specs.Pointers.{Pointer.of_block}
use Rattle.fdp_records.specs.Spares.{said_by_data}
use Rattle.fdp_rules.specs.History.{FoundBlock}
use Rattle.fdp_rules.specs.PlainState as state

-- a block stands on a page
pub record StandsOn (c : DriveConfig) (cells : List Cell) (r : Reading) (nsid lba page : ℕ) : Type 0 where
  pub low : page < data_pages (geometry_of c)
  pub spare : List ℕ
  pub bytes : List ℕ
  pub cell : slice_get cells page ≡ Some (Whole spare bytes)
  pub said : DataSpare
  pub says : said_by_data spare ≡ Some said
  pub names : Names c r nsid lba page said
  pub read : block_read c cells r nsid lba ≡ Some (record { bytes = bytes; rg = said.rg; ruh = said.ruh; page = state.PageName.found (spot_of c page) })

one : {X : Type 0} {x y : X} → Some x ≡ Some y → x ≡ y
one e = cc

never : {X : Type 0} {x : X} → None ≡ Some x → ⊥
never e = cc

module _ (c : DriveConfig) (cells : List Cell) (r : Reading) (valid : IsValid c cells r) where
  pub stands-on : (nsid lba page : ℕ) → r.pages nsid lba ≡ Some page → StandsOn c cells r nsid lba page
  stands-on nsid lba page there =
      let good = valid.blocks nsid lba page there in
      let off = read-off c cells r nsid lba good.block good.held in
      let same : off.page ≡ page = one (sym off.there ∙ there) in
      subst (StandsOn c cells r nsid lba) same (record {
        low = subst (λ (k : ℕ). k < data_pages (geometry_of c)) (sym same) good.data_page;
        spare = off.spare;
        bytes = off.bytes;
        cell = off.cell;
        said = off.said;
        says = off.says;
        names = off.names;
        read = good.held ∙ ap Some off.is;
      })

  -- ---- where a block leads

  pub led-none : (nsid lba : ℕ) → r.pages nsid lba ≡ None → led_in c cells r (of_block nsid lba) ≡ None
  led-none nsid lba none =
      let g : FoundBlock → Page = λ x. record { spot = x.spot; spare = spare_found c cells r nsid lba } in
      ap (option_map g) (blocks-find c cells r (lie-within c cells r valid) nsid lba ∙ ap (option_and_then (block_on c cells r nsid lba)) none)

  module _ (config : IsValidConfig c) where
    pub held-on : (nsid lba page : ℕ) (on : StandsOn c cells r nsid lba page) → pages_held c cells (spot_of c page) ≡ Some (written_as on.bytes on.said)
    held-on nsid lba page on =
        is-held c cells (spot_of c page) on.spare on.bytes on.said (page-lies c page config on.low) (ap (slice_get cells) (number-back c page) ∙ on.cell) on.says

    pub led-some : (nsid lba page : ℕ) → r.pages nsid lba ≡ Some page → (on : StandsOn c cells r nsid lba page) → led_in c cells r (of_block nsid lba) ≡ Some (record { spot = spot_of c page; spare = on.said })
    led-some nsid lba page there on =
        let g : FoundBlock → Page = λ x. record { spot = x.spot; spare = spare_found c cells r nsid lba } in
        let read : option_and_then (block_from c r nsid lba page) (slice_get cells page) ≡ Some (record { bytes = on.bytes; rg = on.said.rg; ruh = on.said.ruh; page = state.PageName.found (spot_of c page) }) =
        ap (option_and_then (λ k. option_and_then (block_from c r nsid lba k) (slice_get cells k))) (sym there) ∙ on.read in
        let said : spare_found c cells r nsid lba ≡ on.said =
        ap (λ (o : Option ℕ). option_map_or (λ (x : Written). x.spare) (option_and_then (λ k. pages_held c cells (spot_of c k)) o) no_spare) there
        ∙ ap (λ (o : Option Written). option_map_or (λ (x : Written). x.spare) o no_spare) (held-on nsid lba page on) in
        ap (option_map g) (blocks-find c cells r (lie-within c cells r valid) nsid lba ∙ ap (option_and_then (block_on c cells r nsid lba)) there ∙ ap (option_map (block_as c nsid lba page)) read)
        ∙ ap (λ (s : DataSpare). Some (record { spot = spot_of c page; spare = s })) said
