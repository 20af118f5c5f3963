-- A fresh drive has room, and so has one whose image is roomy.
use Rattle.std.proofs.Common.{◌≡◌, ℕ, ◌+◌, ◌*◌, ◌<◌, ◌≤◌, Bool, true, false, ◌&&◌, ◌||◌, not, List, Option, Some, None, length, refl, sym, ◌∙◌, ap, subst, arith, inl, inr, ⊎_elim, eq-eqb, mod-lt, mul-le-mul_right, ◌%◌}
use Rattle.std.specs.Prelude.{◌==◌, IsTrue, option_map, slice_get, slice_index_or, if◌then◌else◌}
use Rattle.std.specs.List.{list_any}
use Rattle.std.specs.Option.{option_and_then, option_map_or}
use Rattle.std.proofs.lemmas.Bool.{eqb-true}
use Rattle.std.proofs.lemmas.List.{get_or-replicate}
use Rattle.fdp_base.specs.declared.config.DriveConfig.{DriveConfig}
use Rattle.fdp_base.specs.declared.entry.Spot.{Spot}
use Rattle.fdp_base.specs.Numbers.{count_below, numbers_below}
use Rattle.fdp_base.specs.Placement.{geometry_of}
use Rattle.fdp_book.specs.Book.{AreUnused, BookSeen, IsFirst}
use Rattle.fdp_book.specs.Reopened.{IsReopened}
use Rattle.fdp_book.specs.fdp_found.Opened.{AreOpened, owner_by, owner_found}
use Rattle.fdp_book.proofs.fdp_found.Paging.{all-numbers, any-number, blank-unit, held-of}
use Rattle.fdp_book.proofs.fdp_found.Stating.{id-within}
use Rattle.fdp_book.specs.fdp_locations.Held.{pages_held}
use Rattle.fdp_book.specs.fdp_locations.Written.{Written}
use Rattle.fdp_book.specs.fdp_pages.Joined.{AreJoined}
use Rattle.fdp_book.specs.fdp_pages.PageTables.{PageTables, no_passes, no_targets, passes_at}
use Rattle.fdp_flash.specs.declared.cell.Cell.{Cell}
use Rattle.fdp_flash.specs.declared.cell.Cell.TheVariants.{Blank, Whole}
use Rattle.fdp_flash.specs.Layout.{page_number}
use Rattle.fdp_image.specs.Reading.{Reading, has_page, size_in}
use Rattle.fdp_image.specs.Roomy.{IsRoomy, holds_block, is_blank_unit, is_spare_unit, is_unused, is_unused_group, page_in}
use Rattle.fdp_image.specs.Valid.{IsGoodBlock, IsValid}
use Rattle.fdp_isolation.specs.Laned.{IsKnown}
use Rattle.fdp_owners.specs.declared.owner.Holder.TheVariants.{Block}
use Rattle.fdp_owners.specs.declared.owner.Owner.{Owner}
use Rattle.fdp_passes.specs.GroupPasses.{GroupPasses, Pass}
use Rattle.fdp_rules.specs.PlainState.{Namespace}
use Rattle.fdp_rules.specs.Room.{namespace_ids}
use Rattle.fdp_rules.specs.Step.{IsDataUnit}
use Rattle.fdp_units.specs.declared.state.UnitState.{UnitState}
use Rattle.fdp_units.specs.DataUnits.{is_closed, is_free}
use Rattle.fdp_units.specs.UnitTable.{Cut, IsUnit, cut_of, group_in, unit_at}
use Rattle.fdp_units.proofs.Tables.{number-of, some-units}
use Rattle.fdp_roominess.specs.Room.{HasRoomWith, HaveRoom, taken_in}
use Rattle.fdp_roominess.specs.Units.{is_idle, units_where}
use Rattle.fdp_roominess.proofs.Counting.{no, row-more}
use Rattle.fdp_roominess.proofs.Keeping.{unused-idle}
use Rattle.fdp_roominess.proofs.Owning.{none-live}

-- ---- the blocks that a reading says

-- a block that has a page
pub page-of : (r : Reading) (page nsid lba : ℕ) → has_page r page nsid lba ≡ true → r.pages nsid lba ≡ Some page
page-of r page nsid lba h = by (r.pages nsid lba) refl h where
  by : (o : Option ℕ) → r.pages nsid lba ≡ o → option_map_or (λ x. x == page) o false ≡ true → r.pages nsid lba ≡ Some page
  by None e f = absurd (no (sym f))
  by (Some x) e f = e ∙ ap (λ (k : ℕ). Some k) (eqb-true x page f)

-- it is one of those that are asked for
pub block-held : (c : DriveConfig) (cells : List Cell) (r : Reading) (spot : Spot) (nsid lba : ℕ) → IsValid c cells r → has_page r (page_number (geometry_of c) spot) nsid lba ≡ true → holds_block c r spot ≡ true
unfolding namespace_ids
block-held c cells r spot nsid lba valid has =
    let page : ℕ = page_number (geometry_of c) spot in
    let is : r.pages nsid lba ≡ Some page = page-of r page nsid lba has in
    let good : IsGoodBlock c cells r nsid lba page = valid.blocks nsid lba page is in
    let size : size_in r nsid ≡ good.namespace.size = ap (λ (o : Option Namespace). option_map_or (λ (x : Namespace). x.size) o 0) good.there in
    let id = id-within nsid (valid.identifiers nsid good.namespace good.there) in
    any-number (λ n. list_any (has_page r page n) (numbers_below (size_in r n))) 1 16 nsid id.0 (omega (arith, id.1))
    (any-number (has_page r page nsid) 0 (size_in r nsid) lba (omega arith) (let low = good.within in omega (arith, low, size)) has)

-- an owner that an opening finds is a block on its page, which is not blank
pub record IsFoundPage (c : DriveConfig) (cells : List Cell) (r : Reading) (spot : Spot) : Type 0 where
  pub page : spot.page < c.unit_pages
  pub spare : List ℕ
  pub bytes : List ℕ
  pub cell : slice_get cells (page_number (geometry_of c) spot) ≡ Some (Whole spare bytes)
  pub held : holds_block c r spot ≡ true

pub found-page : (c : DriveConfig) (cells : List Cell) (r : Reading) (spot : Spot) (x : Owner) → IsValid c cells r → owner_found c cells r spot ≡ Some x → IsFoundPage c cells r spot
found-page c cells r spot x valid = by (pages_held c cells spot) refl where
  never : {X : Type 0} {y : X} → None ≡ Some y → ⊥
  never e = cc

  named : (w : Written) → pages_held c cells spot ≡ Some w → (b : Bool) → has_page r (page_number (geometry_of c) spot) w.spare.nsid w.spare.lba ≡ b → (if b then Some (record { holder = Block; spare = w.spare }) else None) ≡ Some x → IsFoundPage c cells r spot
  named w is true has e =
      let held = held-of c cells spot w is in
      record { page = held.page.1; spare = held.spare; bytes = w.bytes; cell = held.cell; held = block-held c cells r spot w.spare.nsid w.spare.lba valid has }
  named w is false has e = absurd (never e)

  by : (o : Option Written) → pages_held c cells spot ≡ o → option_and_then (λ (w : Written). owner_by r (page_number (geometry_of c) spot) w.spare) o ≡ Some x → IsFoundPage c cells r spot
  by None is e = absurd (never e)
  by (Some w) is e = named w is (has_page r (page_number (geometry_of c) spot) w.spare.nsid w.spare.lba) refl e

-- ---- units that an opening finds

-- neither a blank unit nor an unused one has a page with an owner
unowned-spare : (c : DriveConfig) (cells : List Cell) (r : Reading) (unit page : ℕ) (x : Owner) → IsValid c cells r → is_spare_unit c cells r unit ≡ true → owner_found c cells r (page_in unit page) ≡ Some x → ⊥
unowned-spare c cells r unit page x valid spare e = by (is_blank_unit (geometry_of c) cells unit) refl spare where
  is : IsFoundPage c cells r (page_in unit page)
  is = found-page c cells r (page_in unit page) x valid e

  unblank : {s t : List ℕ} → Some Blank ≡ Some (Whole s t) → ⊥
  unblank h = cc

  unheld : not true ≡ true → ⊥
  unheld h = cc

  by : (b : Bool) → is_blank_unit (geometry_of c) cells unit ≡ b → (b || is_unused c r unit) ≡ true → ⊥
  by true blank h = unblank (sym ((blank-unit (geometry_of c) cells unit blank).blank page is.page) ∙ is.cell)
  by false blank h = unheld (ap not (sym is.held) ∙ all-numbers (λ k. not (holds_block c r (page_in unit k))) 0 c.unit_pages h page (omega arith) (let low = is.page in omega (arith, low)))

module _ (c : DriveConfig) (cells : List Cell) (r : Reading) (t : PageTables) (joined : AreJoined t) (valid : IsValid c cells r) (h : AreOpened c cells r t) where
  units : t.units.group_units ≡ c.units
  units = ap (λ (k : Cut). k.group_units) h.cut

  groups : length t.units.groups ≡ c.groups
  groups = ap (λ (k : Cut). k.groups) h.cut

  -- a unit that can be had is idle
  idle-found : (unit : ℕ) → IsDataUnit c unit → is_spare_unit c cells r unit ≡ true → IsTrue (is_idle (unit_at t.units unit))
  idle-found unit is spare = ⊎_elim
      (λ free. unused-idle (unit_at t.units unit) (ap is_free free.0))
      (λ closed. ap (λ (s : UnitState). is_free s || is_closed s && ((unit_at t.units unit).live == 0)) closed.0 ∙ eq-eqb (unit_at t.units unit).live 0 none)
      (h.units unit is) where
        there : IsUnit t.units unit
        there = subst (λ (n : ℕ). unit < n * t.units.group_units) (sym groups) (subst (λ (n : ℕ). unit < c.groups * n) (sym units) is)

        none : (unit_at t.units unit).live ≡ 0
        none = joined.live.counted unit there ∙ none-live t.owners unit (λ page x e. unowned-spare c cells r unit page x valid spare (sym (h.owners (page_in unit page)) ∙ e))

  data-unit : (rg i : ℕ) → rg < c.groups → i < c.units → IsDataUnit c (rg * c.units + i)
  data-unit rg i low below =
      let more : (rg + 1) * c.units ≤ c.groups * c.units = mul-le-mul_right c.units (omega (arith, low)) in
      omega (arith, more, below)

  -- each unit of a group without a block is idle
  unused-found : (rg : ℕ) → rg < c.groups → is_unused_group c r rg ≡ true → (unit : ℕ) → IsUnit t.units unit → group_in t.units unit ≡ rg → IsTrue (is_idle (unit_at t.units unit))
  unused-found rg low all unit there group =
      let i : ℕ = unit % t.units.group_units in
      let below : i < c.units = let most = mod-lt unit (some-units t.units unit there) in omega (arith, most, units) in
      let number : unit ≡ rg * c.units + i = number-of t.units rg unit group ∙ ap (λ (n : ℕ). rg * n + i) units in
      let unused : is_unused c r (rg * c.units + i) ≡ true = all-numbers (λ k. is_unused c r (rg * c.units + k)) 0 c.units all i (omega arith) (omega (arith, below)) in
      ap (λ (u : ℕ). is_idle (unit_at t.units u)) number
      ∙ idle-found (rg * c.units + i) (data-unit rg i low below) (either (is_blank_unit (geometry_of c) cells (rg * c.units + i)) (is_unused c r (rg * c.units + i)) unused) where
        either : (a b : Bool) → b ≡ true → (a || b) ≡ true
        either true b e = refl
        either false b e = e

  -- where the image is roomy, each group has room
  pub found-room : IsRoomy c cells r → HaveRoom t
  found-room roomy rg is =
      let low : rg < c.groups = omega (arith, is, groups) in
      subst (λ (taken : Option Bool). HasRoomWith taken t.units rg) (sym (ap (λ (o : Option Pass). option_map (λ (p : Pass). p.took_unit) o) (h.passes rg).pass))
      (⊎_elim
      (λ (two : 2 ≤ count_below c.units (λ i. is_spare_unit c cells r (rg * c.units + i))).
      let more = row-more (λ i. is_spare_unit c cells r (rg * c.units + i)) (λ i. is_idle (unit_at t.units (rg * c.units + i))) 0 c.units (λ i l below spare. idle-found (rg * c.units + i) (data-unit rg i low (omega (arith, below))) spare) in
      let same : units_where t.units rg is_idle ≡ count_below c.units (λ i. is_idle (unit_at t.units (rg * c.units + i))) = ap (λ (n : ℕ). count_below n (λ i. is_idle (unit_at t.units (rg * n + i)))) units in
      inl (omega (arith, two, more, same)))
      (λ (all : is_unused_group c r rg ≡ true). inr (unused-found rg low all))
      (roomy rg low))

-- ---- books

-- a fresh drive
pub fresh-room : (c : DriveConfig) (b : BookSeen) → IsKnown b → IsFirst c b → HaveRoom b.pages
fresh-room c b known first rg is =
    subst (λ (taken : Option Bool). HasRoomWith taken b.pages.units rg) (sym passes)
    (inr (λ unit there group. ap is_idle (unused.units unit (data-unit unit there)))) where
      unused : AreUnused c b.pages
      unused = first.unused

      cut : cut_of b.pages.units ≡ record { unit_pages = c.unit_pages; group_units = c.units; groups = c.groups }
      cut = known.units.cut ∙ ap (λ (x : DriveConfig). record { unit_pages = x.unit_pages; group_units = x.units; groups = x.groups }) first.config_is

      data-unit : (unit : ℕ) → IsUnit b.pages.units unit → unit < c.groups * c.units
      data-unit unit there = subst (λ (k : Cut). unit < k.groups * k.group_units) cut there

      low : rg < c.groups
      low = subst (λ (k : Cut). rg < k.groups) cut is

      passes : taken_in (passes_at b.pages rg) ≡ None
      passes = ap (λ (ps : List GroupPasses). taken_in (slice_index_or ps rg no_passes)) unused.passes ∙ ap taken_in (get_or-replicate c.groups rg (no_targets c.unit_pages) no_passes low)

-- one whose image was opened, and is roomy
pub opened-room : (c : DriveConfig) (cells : List Cell) (r : Reading) (b : BookSeen) → IsKnown b → IsValid c cells r → IsReopened c cells r b → IsRoomy c cells r → HaveRoom b.pages
opened-room c cells r b known valid book = found-room c cells r b.pages known.joined valid book.pages_are
