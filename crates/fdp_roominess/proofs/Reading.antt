-- What a history draws at a point where its drive has room is roomy, over any cells.
use Rattle.std.proofs.Common.{◌≡◌, ◌⊎◌, ℕ, zero, suc, ◌+◌, ◌*◌, ◌<◌, ◌≤◌, Bool, true, false, ◌&&◌, ◌||◌, not, List, [], ◌∷◌, Option, Some, None, length, refl, sym, ◌∙◌, ap, subst, arith, inl, inr, ⊎_elim}
use Rattle.std.specs.Prelude.{◌==◌, IsTrue, option_map}
use Rattle.std.specs.List.{list_all, list_any}
use Rattle.std.proofs.lemmas.Bool.{eqb-true}
use Rattle.fdp_base.specs.declared.config.DriveConfig.{DriveConfig}
use Rattle.fdp_base.specs.declared.entry.Spot.{Spot}
use Rattle.fdp_base.specs.Numbers.{count_below, numbers_below, numbers_from}
use Rattle.fdp_base.specs.Placement.{geometry_of}
use Rattle.fdp_book.specs.Book.{BookSeen, point_in}
use Rattle.fdp_book.proofs.fdp_found.Paging.{spot-back}
use Rattle.fdp_book.specs.fdp_locations.Located.{next_in}
use Rattle.fdp_book.specs.fdp_pages.PageTables.{PageTables, passes_at}
use Rattle.fdp_book.specs.fdp_readings.Drawn.{drawn}
use Rattle.fdp_book.proofs.fdp_readings.Drawing.{drawn-led}
use Rattle.fdp_flash.specs.declared.cell.Cell.{Cell}
use Rattle.fdp_flash.specs.Layout.{page_number}
use Rattle.fdp_image.specs.Reading.{Reading, has_page, size_in, spot_of}
use Rattle.fdp_image.specs.Roomy.{IsRoomy, holds_block, is_blank_unit, is_spare_unit, is_unused, is_unused_group, page_in}
use Rattle.fdp_isolation.specs.Laned.{IsKnown}
use Rattle.fdp_owners.proofs.Tables.{owned-within, unowned-unit}
use Rattle.fdp_pointers.specs.Facts.{Page}
use Rattle.fdp_pointers.specs.Pointers.{Pointer.of_block}
use Rattle.fdp_rules.specs.Room.{namespace_ids}
use Rattle.fdp_units.specs.declared.data_unit.DataUnit.{DataUnit}
use Rattle.fdp_units.specs.DataUnits.{IsSound, is_closed, is_free, is_target}
use Rattle.fdp_units.specs.UnitTable.{Cut, IsGroup, IsUnit, UnitTable, group_in, unit_at}
use Rattle.fdp_units.proofs.Tables.{group-of-place, unit-there}
use Rattle.fdp_roominess.specs.Room.{HasRoomWith, HaveRoom, taken_in}
use Rattle.fdp_roominess.specs.Roomy.{LeavesRoom}
use Rattle.fdp_roominess.specs.Units.{EachUnit, is_idle, is_free_unit, is_spare, units_where}
use Rattle.fdp_roominess.proofs.Begun.{page-of}
use Rattle.fdp_roominess.proofs.Counting.{no, row-more, units-more}
use Rattle.fdp_roominess.proofs.Keeping.{idle-spare, unused-spare}

-- ---- tests of numbers

pub each-passes : (test : ℕ → Bool) (first count : ℕ) → ((i : ℕ) → first ≤ i → i < first + count → test i ≡ true) → list_all test (numbers_from first count) ≡ true
unfolding numbers_from
each-passes test first zero h = refl
each-passes test first (suc count) h =
    ap (λ (b : Bool). b && list_all test (numbers_from (first + 1) count)) (h first (omega arith) (omega arith))
    ∙ each-passes test (first + 1) count (λ i low high. h i (omega (arith, low)) (omega (arith, high)))

pub none-passes : (test : ℕ → Bool) (xs : List ℕ) → ((i : ℕ) → test i ≡ false) → list_any test xs ≡ false
none-passes test [] h = refl
none-passes test (x ∷ xs) h = ap (λ (b : Bool). b || list_any test xs) (h x) ∙ none-passes test xs h

-- ---- units without a live page

-- a spare unit has none
spare-dead : (pages : ℕ) (x : DataUnit) → IsSound pages x → IsTrue (is_spare x) → x.live ≡ 0
spare-dead pages x sound h = by (is_free x.state) (is_closed x.state || is_target x.state) refl h where
  by : (a b : Bool) → is_free x.state ≡ a → (a || b && (x.live == 0)) ≡ true → x.live ≡ 0
  by true b e f = let next = sound.free e in let live = sound.live in omega (arith, next, live)
  by false true e f = eqb-true x.live 0 f
  by false false e f = absurd (no (sym f))

-- a group with room has two spare units, or only such
two-spare : (t : UnitTable) (rg : ℕ) (taken : Option Bool) → IsGroup t rg → HasRoomWith taken t rg → (2 ≤ units_where t rg is_spare) ⊎ EachUnit t rg is_spare
two-spare t rg None there h = ⊎_elim
    (λ (two : 2 ≤ units_where t rg is_idle). let more = units-more t t rg is_idle is_spare refl there (λ unit is group. idle-spare (unit_at t unit)) in inl (omega (arith, two, more)))
    (λ (all : EachUnit t rg is_idle). inr (λ unit is group. idle-spare (unit_at t unit) (all unit is group)))
    h
two-spare t rg (Some false) there h = let more = units-more t t rg is_free_unit is_spare refl there (λ unit is group. unused-spare (unit_at t unit)) in inl (omega (arith, h, more))
two-spare t rg (Some true) there h = inl h.1

module _ (b : BookSeen) (known : IsKnown b) (r : Reading) (drawn_is : r.pages ≡ (drawn b.config (point_in b)).pages) where
  abbrev c : DriveConfig
  c = b.config

  abbrev t : PageTables
  t = b.pages

  units : t.units.group_units ≡ c.units
  units = ap (λ (k : Cut). k.group_units) known.units.cut

  groups : length t.units.groups ≡ c.groups
  groups = ap (λ (k : Cut). k.groups) known.units.cut

  owner_pages : t.owners.unit_pages ≡ c.unit_pages
  owner_pages = known.joined.cut.owners.unit_pages ∙ ap (λ (k : Cut). k.unit_pages) known.units.cut

  -- no block stands on a page of a unit without a live page
  unnamed : (unit page nsid lba : ℕ) → IsUnit t.units unit → (unit_at t.units unit).live ≡ 0 → page < c.unit_pages → has_page r (page_number (geometry_of c) (page_in unit page)) nsid lba ≡ false
  unnamed unit page nsid lba is dead low = by (has_page r (page_number (geometry_of c) (page_in unit page)) nsid lba) refl where
    led : r.pages nsid lba ≡ option_map (λ (y : Page). page_number (geometry_of c) y.spot) (known.led.at (of_block nsid lba))
    led = ap (λ (f : ℕ → ℕ → Option ℕ). f nsid lba) drawn_is ∙ drawn-led c (point_in b) (next_in t.units) known.led.at known.led.led.table nsid lba

    stands : (y : Page) → known.led.at (of_block nsid lba) ≡ Some y → page_number (geometry_of c) y.spot ≡ page_number (geometry_of c) (page_in unit page) → ⊥
    stands y leads same =
        let owned = known.led.led.owned.owned (of_block nsid lba) y leads in
        let within : y.spot.page < c.unit_pages = let most = owned-within t.owners y.spot owned.owner owned.is_owner in omega (arith, most, owner_pages) in
        let one : y.spot ≡ page_in unit page = sym (spot-back c y.spot within) ∙ ap (spot_of c) same ∙ spot-back c (page_in unit page) low in
        unowned-unit t.owners unit (sym (known.joined.live.counted unit is) ∙ dead) y.spot owned.owner owned.is_owner (ap (λ (s : Spot). s.unit) one)

    at-page : (o : Option Page) → known.led.at (of_block nsid lba) ≡ o → option_map (λ (y : Page). page_number (geometry_of c) y.spot) o ≡ Some (page_number (geometry_of c) (page_in unit page)) → ⊥
    at-page None e h = never h where
      never : None ≡ Some (page_number (geometry_of c) (page_in unit page)) → ⊥
      never n = cc
    at-page (Some y) e h = stands y e cc

    by : (x : Bool) → has_page r (page_number (geometry_of c) (page_in unit page)) nsid lba ≡ x → has_page r (page_number (geometry_of c) (page_in unit page)) nsid lba ≡ false
    by true has = absurd (at-page (known.led.at (of_block nsid lba)) refl (sym led ∙ page-of r (page_number (geometry_of c) (page_in unit page)) nsid lba has))
    by false has = has

  dead-unused : (unit : ℕ) → IsUnit t.units unit → (unit_at t.units unit).live ≡ 0 → is_unused c r unit ≡ true
  dead-unused unit is dead =
      each-passes (λ page. not (holds_block c r (page_in unit page))) 0 c.unit_pages (λ page low high. ap not
      (none-passes (λ nsid. list_any (has_page r (page_number (geometry_of c) (page_in unit page)) nsid) (numbers_below (size_in r nsid))) namespace_ids
      (λ nsid. none-passes (has_page r (page_number (geometry_of c) (page_in unit page)) nsid) (numbers_below (size_in r nsid)) (λ lba. unnamed unit page nsid lba is dead (omega (arith, high))))))

  spare-unused : (unit : ℕ) → IsUnit t.units unit → IsTrue (is_spare (unit_at t.units unit)) → is_unused c r unit ≡ true
  spare-unused unit is spare = dead-unused unit is (spare-dead t.units.unit_pages (unit_at t.units unit) (known.joined.sound unit is) spare)

  -- so it leaves room in each group
  pub drawn-room : HaveRoom t → LeavesRoom c r
  drawn-room room rg low =
      let there : IsGroup t.units rg = omega (arith, low, groups) in
      ⊎_elim
      (λ (two : 2 ≤ units_where t.units rg is_spare).
      let same : units_where t.units rg is_spare ≡ count_below c.units (λ i. is_spare (unit_at t.units (rg * c.units + i))) = ap (λ (n : ℕ). count_below n (λ i. is_spare (unit_at t.units (rg * n + i)))) units in
      let more = row-more (λ i. is_spare (unit_at t.units (rg * c.units + i))) (λ i. is_unused c r (rg * c.units + i)) 0 c.units (λ i l below spare. spare-unused (rg * c.units + i) (own rg i there (omega (arith, below))) spare) in
      inl (omega (arith, two, same, more)))
      (λ (all : EachUnit t.units rg is_spare). inr (each-passes (λ i. is_unused c r (rg * c.units + i)) 0 c.units (λ i l below.
      spare-unused (rg * c.units + i) (own rg i there (omega (arith, below))) (all (rg * c.units + i) (own rg i there (omega (arith, below))) (grouped rg i (omega (arith, below)))))))
      (two-spare t.units rg (taken_in (passes_at t rg)) there (room rg there)) where
        own : (rg i : ℕ) → IsGroup t.units rg → i < c.units → IsUnit t.units (rg * c.units + i)
        own rg i there low = subst (λ (n : ℕ). IsUnit t.units (rg * n + i)) units (unit-there t.units rg i there (omega (arith, low, units)))

        grouped : (rg i : ℕ) → i < c.units → group_in t.units (rg * c.units + i) ≡ rg
        grouped rg i low = subst (λ (n : ℕ). group_in t.units (rg * n + i) ≡ rg) units (group-of-place t.units rg i (omega (arith, low, units)))

-- a reading that leaves room is roomy over any cells
pub room-roomy : (c : DriveConfig) (cells : List Cell) (r : Reading) → LeavesRoom c r → IsRoomy c cells r
room-roomy c cells r leaves rg low = ⊎_elim
    (λ (two : 2 ≤ count_below c.units (λ i. is_unused c r (rg * c.units + i))).
    let more = row-more (λ i. is_unused c r (rg * c.units + i)) (λ i. is_spare_unit c cells r (rg * c.units + i)) 0 c.units (λ i l below unused. either (is_blank_unit (geometry_of c) cells (rg * c.units + i)) (is_unused c r (rg * c.units + i)) unused) in
    inl (omega (arith, two, more)))
    (λ (all : is_unused_group c r rg ≡ true). inr all)
    (leaves rg low) where
      either : (a b : Bool) → b ≡ true → (a || b) ≡ true
      either true b e = refl
      either false b e = e
