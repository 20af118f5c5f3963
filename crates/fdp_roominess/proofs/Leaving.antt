-- Readings that leave room: that of a roomy image, and one without a block.
use Rattle.std.proofs.Common.{◌≡◌, ℕ, ◌+◌, ◌*◌, ◌<◌, ◌≤◌, Bool, true, false, ◌||◌, not, List, Option, Some, None, refl, sym, ◌∙◌, ap, arith, inl, inr, ⊎_elim}
use Rattle.std.specs.Prelude.{◌==◌, slice_get}
use Rattle.std.specs.List.{list_any}
use Rattle.std.specs.Option.{option_and_then, option_map_or}
use Rattle.fdp_base.specs.declared.config.DriveConfig.{DriveConfig}
use Rattle.fdp_base.specs.Numbers.{count_below, numbers_below}
use Rattle.fdp_base.specs.Placement.{geometry_of}
use Rattle.fdp_book.proofs.fdp_found.Paging.{blank-unit}
use Rattle.fdp_flash.specs.declared.cell.Cell.{Cell}
use Rattle.fdp_flash.specs.declared.cell.Cell.TheVariants.{Blank}
use Rattle.fdp_flash.specs.Layout.{page_number}
use Rattle.fdp_image.specs.Reading.{Reading, has_page, size_in}
use Rattle.fdp_image.specs.Roomy.{IsRoomy, holds_block, is_blank_unit, is_spare_unit, is_unused, is_unused_group, page_in}
use Rattle.fdp_image.specs.Valid.{IsValid, block_from}
use Rattle.fdp_rules.specs.PlainState.{Block}
use Rattle.fdp_rules.specs.Room.{namespace_ids}
use Rattle.fdp_roominess.specs.Roomy.{LeavesRoom}
use Rattle.fdp_roominess.proofs.Begun.{page-of}
use Rattle.fdp_roominess.proofs.Counting.{row-more}
use Rattle.fdp_roominess.proofs.Reading.{each-passes, none-passes}

-- ---- a roomy image leaves room

module _ (c : DriveConfig) (cells : List Cell) (r : Reading) (valid : IsValid c cells r) where
  -- no block stands on a blank page
  unblank : (nsid lba page : ℕ) → r.pages nsid lba ≡ Some page → slice_get cells page ≡ Some Blank → ⊥
  unblank nsid lba page there blank =
      let good = valid.blocks nsid lba page there in
      never (sym (ap (λ (o : Option ℕ). option_and_then (λ p. option_and_then (block_from c r nsid lba p) (slice_get cells p)) o) there ∙ ap (option_and_then (block_from c r nsid lba page)) blank) ∙ good.held) where
        never : {b : Block} → None ≡ Some b → ⊥
        never e = cc

  blank-unused : (unit : ℕ) → is_blank_unit (geometry_of c) cells unit ≡ true → is_unused c r unit ≡ true
  blank-unused unit blank =
      each-passes (λ page. not (holds_block c r (page_in unit page))) 0 c.unit_pages (λ page low high. ap not
      (none-passes (λ nsid. list_any (has_page r (page_number (geometry_of c) (page_in unit page)) nsid) (numbers_below (size_in r nsid))) namespace_ids
      (λ nsid. none-passes (has_page r (page_number (geometry_of c) (page_in unit page)) nsid) (numbers_below (size_in r nsid)) (λ lba. by page (omega (arith, high)) nsid lba (has_page r (page_number (geometry_of c) (page_in unit page)) nsid lba) refl)))) where
        by : (page : ℕ) → page < c.unit_pages → (nsid lba : ℕ) (b : Bool) → has_page r (page_number (geometry_of c) (page_in unit page)) nsid lba ≡ b → has_page r (page_number (geometry_of c) (page_in unit page)) nsid lba ≡ false
        by page low nsid lba true has = absurd (unblank nsid lba (page_number (geometry_of c) (page_in unit page)) (page-of r (page_number (geometry_of c) (page_in unit page)) nsid lba has) ((blank-unit (geometry_of c) cells unit blank).blank page low))
        by page low nsid lba false has = has

  spare-unused : (unit : ℕ) → is_spare_unit c cells r unit ≡ true → is_unused c r unit ≡ true
  spare-unused unit = by (is_blank_unit (geometry_of c) cells unit) refl where
    by : (b : Bool) → is_blank_unit (geometry_of c) cells unit ≡ b → (b || is_unused c r unit) ≡ true → is_unused c r unit ≡ true
    by true blank h = blank-unused unit blank
    by false blank h = h

  pub roomy-leaves : IsRoomy c cells r → LeavesRoom c r
  roomy-leaves roomy rg low = ⊎_elim
      (λ (two : 2 ≤ count_below c.units (λ i. is_spare_unit c cells r (rg * c.units + i))).
      let more = row-more (λ i. is_spare_unit c cells r (rg * c.units + i)) (λ i. is_unused c r (rg * c.units + i)) 0 c.units (λ i l below spare. spare-unused (rg * c.units + i) spare) in
      inl (omega (arith, two, more)))
      (λ (all : is_unused_group c r rg ≡ true). inr all)
      (roomy rg low)

-- a reading without a block leaves room
pub empty-leaves : (c : DriveConfig) (r : Reading) → ((nsid lba : ℕ) → r.pages nsid lba ≡ None) → LeavesRoom c r
empty-leaves c r none rg low =
    inr (each-passes (λ i. is_unused c r (rg * c.units + i)) 0 c.units (λ i l h.
    each-passes (λ page. not (holds_block c r (page_in (rg * c.units + i) page))) 0 c.unit_pages (λ page k j. ap not
    (none-passes (λ nsid. list_any (has_page r (page_number (geometry_of c) (page_in (rg * c.units + i) page)) nsid) (numbers_below (size_in r nsid))) namespace_ids
    (λ nsid. none-passes (has_page r (page_number (geometry_of c) (page_in (rg * c.units + i) page)) nsid) (numbers_below (size_in r nsid)) (λ lba. ap (λ (o : Option ℕ). option_map_or (λ x. x == page_number (geometry_of c) (page_in (rg * c.units + i) page)) o false) (none nsid lba)))))))
