-- The pages that blocks own, one block after another.
use Rattle.std.proofs.Common.{◌≡◌, ◌≢◌, ◌⊎◌, ℕ, zero, suc, ◌+◌, ◌*◌, ◌/◌, ◌%◌, ◌<◌, ◌≤◌, Bool, true, false, IsTrue, List, [], ◌∷◌, length, Option, Some, None, refl, sym, ap, subst, ◌∙◌, arith, inl, inr, ⊎_elim, cond, replicate}
use Rattle.std.specs.Prelude.{◌||◌, ◌==◌, All, nat_lt, slice_get, slice_index_or, if◌then◌else◌}
use Rattle.std.specs.Option.{option_and_then, option_map_or}
use Rattle.std.proofs.Math.Nat.{div-lt_iff_lt-mul, mod-lt}
use Rattle.std.proofs.lemmas.Bool.{and_parts, eqb-true}
use Rattle.std.proofs.lemmas.Bool.Decides.{nat_tests}
use Rattle.std.proofs.lemmas.Nat.{div-add-mod'}
use Rattle.fdp_base.specs.declared.config.DriveConfig.{DriveConfig}
use Rattle.fdp_base.specs.declared.entry.Spot.{Spot}
use Rattle.fdp_base.specs.declared.spare.DataSpare.{DataSpare}
use Rattle.fdp_base.specs.Config.{IsInRange}
use Rattle.fdp_base.specs.Placement.{classes_of, geometry_of}
use Rattle.fdp_base.specs.Spare.{data_spare}
use Rattle.fdp_flash.specs.declared.cell.Cell.{Cell}
use Rattle.fdp_flash.specs.declared.cell.Cell.TheVariants.{Blank, Torn, Whole}
use Rattle.fdp_flash.specs.FlashState.{FlashState}
use Rattle.fdp_flash.specs.Layout.{page_number}
use Rattle.fdp_flash.specs.OnlyReads.{ReadsOnly}
use Rattle.fdp_flash.proofs.OnlyReads.{after_reads}
use Rattle.fdp_handles.specs.HandleTable.{reference_at}
use Rattle.fdp_image.specs.Areas.{data_pages}
use Rattle.fdp_image.specs.Checkpoint.{reading_of_state}
use Rattle.fdp_image.specs.Reading.{Reading, spot_of}
use Rattle.fdp_image.specs.Valid.{is_named}
use Rattle.fdp_opening.specs.Found.{AreFound, AreUnmoved, IsBlockOwner, IsFirstAstray, IsFoundIn, IsInPlace, IsUnitFound, OwnsPage, lane_in, said_at, said_in}
use Rattle.fdp_opening.specs.Walking.{AreFoundBefore, AreUnitsFoundTo, CanKeep, GetsOwner, IsOwnedBefore, MayKeep}
use Rattle.fdp_opening.proofs.Scanned.{found-after, unit-there, used-unit}
use Rattle.fdp_opening.proofs.Ways.{ways-placed}
use Rattle.fdp_owners.specs.declared.owner.Owner.{Owner}
use Rattle.fdp_owners.specs.OwnerTable.{OwnerTable, owner_at, with_owner}
use Rattle.fdp_owners.proofs.Tables.{is_spot-other, is_spot-same}
use Rattle.fdp_pages.specs.Finding.{GoWith, HasNoPass, lane_of_handle, of_found}
use Rattle.fdp_pages.specs.PageTables.{PageTables, no_passes, no_targets}
use Rattle.fdp_passes.specs.GroupPasses.{GroupPasses}
use Rattle.fdp_records.specs.Spares.{said_by_data}
use Rattle.fdp_recovery.specs.Blocks.{IsBefore, StandApart, holds, is_kept, is_one_of, names_block}
use Rattle.fdp_recovery.proofs.Kept.{all-before, before-all-row, before-more, before-next, before-row, never-before, none-before}
use Rattle.fdp_rules.specs.Sites.{is_spot}
use Rattle.fdp_rules.specs.PlainState.{Namespace}
use Rattle.fdp_rules.specs.Step.{IsDataUnit}
use Rattle.fdp_snapshot.specs.declared.state.State.{State}
use Rattle.fdp_image.specs.Fits.{handles_in}
use Rattle.fdp_recovery.specs.fdp_state.Good.{IsGood}
use Rattle.fdp_recovery.specs.fdp_state.Parts.{handles_at}
use Rattle.fdp_units.specs.declared.data_unit.DataUnit.{DataUnit}
use Rattle.fdp_units.specs.declared.state.UnitState.TheVariants.{Closed, Free}
use Rattle.fdp_units.specs.UnitTable.{unit_at}

-- ---- pages by number

-- the number of a page leads back to it
pub number-is : (c : DriveConfig) (page : ℕ) → page_number (geometry_of c) (spot_of c page) ≡ page
number-is c page = div-add-mod' page c.unit_pages

pub spot-one : (c : DriveConfig) (a b : ℕ) → spot_of c a ≡ spot_of c b → a ≡ b
spot-one c a b same = sym (number-is c a) ∙ ap (page_number (geometry_of c)) same ∙ number-is c b

-- ---- after some looks

pub before-after : (c : DriveConfig) (r : Reading) (n nsid lba : ℕ) (a b : FlashState) (t : PageTables) → ReadsOnly n a b → AreFoundBefore c r a nsid lba t → AreFoundBefore c r b nsid lba t
before-after c r n nsid lba a b t reads h = record {
  unmoved = h.unmoved;
  units = λ unit there. found-after c n unit a b (unit_at t.units unit) reads (h.units unit there);
  blocks = h.blocks;
  owned = h.owned;
  said = λ t_now spot x e.
      let told : IsTrue a.told = subst IsTrue reads.held.run.told t_now in
      ap (λ (cells : List Cell). said_at cells (page_number (geometry_of c) spot)) (reads.held.cells told) ∙ h.said told spot x e;
  placed = λ told m l page at before. after_reads n a b (λ (cells : List Cell). IsInPlace c cells r m l page) reads (λ t. h.placed t m l page at before) told;
}

-- ---- before a page gets its owner

passless : (n rg pages : ℕ) → (slice_index_or (replicate n (no_targets pages)) rg no_passes).pass ≡ None
passless zero rg pages = refl
passless (suc n) zero pages = refl
passless (suc n) (suc rg) pages = passless n rg pages

pub quiet : (c : DriveConfig) (r : Reading) (t : PageTables) → AreUnmoved c r t → HasNoPass t
quiet c r t h rg is = ap (λ (ps : List GroupPasses). (slice_index_or ps rg no_passes).pass) h.passes ∙ passless c.groups rg c.unit_pages

-- one of handles that are all below a bound
below-of : (handles : List ℕ) (count ruh : ℕ) → All (λ k. k < count) handles → is_one_of handles ruh ≡ true → ruh < count
below-of [] count ruh h e = absurd cc
below-of (x ∷ xs) count ruh h e = cases (λ any. below-of xs count ruh (λ k d low. h (suc k) d (omega (arith, low))) any) (x == ruh) refl e where
  cases : (is_one_of xs ruh ≡ true → ruh < count) → (b : Bool) → (x == ruh) ≡ b → (b || is_one_of xs ruh) ≡ true → ruh < count
  cases rest true is any = let same : x ≡ ruh = eqb-true x ruh is in subst (λ (k : ℕ). k < count) same (h 0 0 (omega arith))
  cases rest false is any = rest any

pub handle-known : (c : DriveConfig) (r : Reading) (nsid lba page : ℕ) (s : DataSpare) → IsGood c r → IsTrue (names_block c r nsid lba page s) → s.ruh < handles_in c r
handle-known c r nsid lba page s good named = cases (r.namespaces nsid) refl (and_parts (is_named c r nsid lba page s) (is_one_of (handles_at r nsid) s.ruh) named).1 where
  cases : (o : Option Namespace) → r.namespaces nsid ≡ o → is_one_of (option_map_or (λ (x : Namespace). x.handles) o []) s.ruh ≡ true → s.ruh < handles_in c r
  cases None e any = absurd cc
  cases (Some x) e any = below-of x.handles (handles_in c r) s.ruh (good.namespaces nsid x e).list.known any

owner-cases : (C : Type 0) (o : Option Owner) → (o ≡ None → C) → ((x : Owner) → o ≡ Some x → C) → C
owner-cases C None f g = f refl
owner-cases C (Some x) f g = g x refl

module _ (c : DriveConfig) (r : Reading) (s : FlashState) (nsid lba page : ℕ) (t : PageTables) (range : IsInRange c) (apart : StandApart c r) (good : IsGood c r) (there : r.pages nsid lba ≡ Some page) (h : AreFoundBefore c r s nsid lba t) where
  some-pages : 0 < c.unit_pages
  some-pages = omega (arith, range.unit_pages.0)

  pub unit-is : IsDataUnit c (page / c.unit_pages)
  unit-is = (div-lt_iff_lt-mul {k = c.unit_pages} {x = page} {y = c.groups * c.units} some-pages).1 (apart.places nsid lba page there)

  used-next : (x : DataUnit) → IsFoundIn c s (page / c.unit_pages) x → x.state ≡ Closed → page % c.unit_pages < x.next
  used-next x found closed = cases found.used found.found where
    cases : (b : Bool) → IsUnitFound c.unit_pages b x → page % c.unit_pages < x.next
    cases true is = let low : page % c.unit_pages < c.unit_pages = mod-lt page some-pages in omega (arith, low, is.next)
    cases false is = let both : Free ≡ Closed = sym is.state ∙ closed in absurd cc

  not-owned : (x : Owner) → owner_at t.owners (spot_of c page) ≡ Some x → ⊥
  not-owned x e =
      let own = h.owned (spot_of c page) x e in
      let same : page ≡ own.owned.page = spot-one c page own.owned.page own.owned.spot_is in
      let both = apart.apart own.owned.nsid own.owned.lba nsid lba page (own.owned.there ∙ ap Some (sym same)) there in
      never-before nsid lba (subst (λ (k : ℕ). IsBefore nsid k nsid lba) both.1 (subst (λ (k : ℕ). IsBefore k own.owned.lba nsid lba) both.0 own.before))

  pub can-keep : CanKeep c r nsid lba page t
  can-keep = record {
    is_unit = unit-there c t (page / c.unit_pages) h.unmoved.cut unit-is;
    used = used-next (unit_at t.units (page / c.unit_pages)) (h.units (page / c.unit_pages) unit-is);
    unowned = owner-cases (owner_at t.owners (spot_of c page) ≡ None) (owner_at t.owners (spot_of c page)) (λ e. e) (λ x e. absurd (not-owned x e));
    handle = λ said named. let low : said.ruh < handles_in c r = handle-known c r nsid lba page said good named in subst (λ cs. said.ruh < length cs) (sym h.unmoved.classes) low;
    quiet = quiet c r t h.unmoved;
  }

-- ---- a page got its owner

-- a data page that says a spare which names the block holds it
kept-of : (c : DriveConfig) (r : Reading) (cells : List Cell) (nsid lba page : ℕ) (x : DataSpare) → page < data_pages (geometry_of c) → said_at cells page ≡ Some x → IsTrue (names_block c r nsid lba page x) → IsTrue (is_kept c cells r nsid lba page)
kept-of c r cells nsid lba page x low said named = rw (less, of_cell (slice_get cells page) said) refl where
  less : nat_lt page (data_pages (geometry_of c)) ≡ true
  less = grind (arith, nat_tests)

  of_cell : (o : Option Cell) → option_and_then said_in o ≡ Some x → option_map_or (holds c r nsid lba page) o false ≡ true
  of_cell None e = absurd cc
  of_cell (Some Blank) e = absurd cc
  of_cell (Some Torn) e = absurd cc
  of_cell (Some (Whole spare bytes)) e = ap (λ (o : Option DataSpare). option_map_or (names_block c r nsid lba page) o false) e ∙ named

spot-true : (a b : Spot) → is_spot a b ≡ true → a ≡ b
spot-true a b e =
    let parts = and_parts (a.unit == b.unit) (a.page == b.page) e in
    λ d. record { unit = eqb-true a.unit b.unit parts.0 d; page = eqb-true a.page b.page parts.1 d }

-- an owner that is there now: the new one at its page, or one from before at another
owner-now : (owners : Spot → Option Owner) (spot at : Spot) (x y : Owner) → with_owner owners spot (Some x) at ≡ Some y → ((at ≡ spot) × (y ≡ x)) ⊎ ((at ≢ spot) × (owners at ≡ Some y))
owner-now owners spot at x y e = cases (is_spot at spot) refl e where
  cases : (b : Bool) → is_spot at spot ≡ b → cond b (Some x) (owners at) ≡ Some y → ((at ≡ spot) × (y ≡ x)) ⊎ ((at ≢ spot) × (owners at ≡ Some y))
  cases true is f = let same : x ≡ y = cc in inl (spot-true at spot is, sym same)
  cases false is f = inr (λ same. let no : false ≡ true = sym is ∙ ap (is_spot at) (sym same) ∙ is_spot-same at in absurd cc, f)

module _ (c : DriveConfig) (r : Reading) (s : FlashState) (nsid lba page : ℕ) (x : DataSpare) (t u : PageTables) (apart : StandApart c r) (there : r.pages nsid lba ≡ Some page) (gets : GetsOwner c r nsid lba page x t u) (spelled : said_by_data (data_spare x) ≡ Some x) (shown : IsTrue s.told → said_at s.cells page ≡ Some x) (h : AreFoundBefore c r s nsid lba t) where
  owners-are : (at : Spot) → owner_at u.owners at ≡ with_owner (owner_at t.owners) (spot_of c page) (Some (of_found x)) at
  owners-are at = ap (λ (f : Spot → Option Owner). f at) gets.owners

  here : owner_at u.owners (spot_of c page) ≡ Some (of_found x)
  here = owners-are (spot_of c page) ∙ ap (λ (b : Bool). cond b (Some (of_found x)) (owner_at t.owners (spot_of c page))) (is_spot-same (spot_of c page))

  block : IsBlockOwner c r nsid lba page (of_found x)
  block = record { spare = x; owner_is = refl; named = gets.may.named; spelled = spelled }

  one : {X : Type 0} {a b : X} → Some a ≡ Some b → a ≡ b
  one e = cc

  -- an earlier block of the unit goes the same way
  way-here : IsTrue s.told → (n l other : ℕ) (a b : DataSpare) → r.pages n l ≡ Some other → IsBefore n l nsid lba → other / c.unit_pages ≡ page / c.unit_pages
      → said_at s.cells other ≡ Some a → said_at s.cells page ≡ Some b → lane_in c r a.ruh ≡ lane_in c r b.ruh
  way-here told n l other a b at before unit said-a said-b =
      let own = h.blocks n l other before at in
      let said : said_at s.cells other ≡ Some own.owner.spare = ap (said_at s.cells) (sym (number-is c other)) ∙ h.said told (spot_of c other) own.owner own.is_owner in
      let first : a ≡ own.owner.spare = one (sym said-a ∙ said) in
      let last : x ≡ b = one (sym (shown told) ∙ said-b) in
      let way = gets.may.way (spot_of c other) own.owner unit own.is_owner in
      ap (λ (z : DataSpare). lane_in c r z.ruh) first
      ∙ sym (ap (λ cs. lane_of_handle cs own.owner.spare.ruh) h.unmoved.classes) ∙ way ∙ ap (λ cs. lane_of_handle cs x.ruh) h.unmoved.classes
      ∙ ap (λ (z : DataSpare). lane_in c r z.ruh) last

  placed-now : IsTrue s.told → (n l p : ℕ) → r.pages n l ≡ Some p → IsBefore n l nsid (lba + 1) → IsInPlace c s.cells r n l p
  placed-now told n l p at before = of_place (before-next n l nsid lba before) where
    here-placed : IsInPlace c s.cells r nsid lba page
    here-placed = record { kept = kept-of c r s.cells nsid lba page x (apart.places nsid lba page there) (shown told) gets.may.named; way = way-here told }

    of_place : IsBefore n l nsid lba ⊎ ((n ≡ nsid) × (l ≡ lba)) → IsInPlace c s.cells r n l p
    of_place (inl earlier) = h.placed told n l p at earlier
    of_place (inr same) =
        let e : Some p ≡ Some page = sym at ∙ ap (λ (k : ℕ). r.pages k l) same.0 ∙ ap (r.pages nsid) same.1 ∙ there in
        let number : p ≡ page = cc in
        subst (λ (q : ℕ). IsInPlace c s.cells r n l q) (sym number) (subst (λ (k : ℕ). IsInPlace c s.cells r k l page) (sym same.0) (subst (λ (k : ℕ). IsInPlace c s.cells r nsid k page) (sym same.1) here-placed))

  -- the page of an earlier block is another one
  other-page : (n l p : ℕ) → IsBefore n l nsid lba → r.pages n l ≡ Some p → spot_of c p ≢ spot_of c page
  other-page n l p before at same =
      let number : p ≡ page = spot-one c p page same in
      let both = apart.apart n l nsid lba page (at ∙ ap Some number) there in
      never-before nsid lba (subst (λ (k : ℕ). IsBefore nsid k nsid lba) both.1 (subst (λ (k : ℕ). IsBefore k l nsid lba) both.0 before))

  blocks-now : (n l p : ℕ) → IsBefore n l nsid (lba + 1) → r.pages n l ≡ Some p → OwnsPage c r u n l p
  blocks-now n l p before at = of_place (before-next n l nsid lba before) where
    of_place : IsBefore n l nsid lba ⊎ ((n ≡ nsid) × (l ≡ lba)) → OwnsPage c r u n l p
    of_place (inl earlier) =
        let own = h.blocks n l p earlier at in
        record {
          owner = own.owner;
          is_owner = owners-are (spot_of c p) ∙ ap (λ (b : Bool). cond b (Some (of_found x)) (owner_at t.owners (spot_of c p))) (is_spot-other (spot_of c p) (spot_of c page) (other-page n l p earlier at)) ∙ own.is_owner;
          block = own.block;
        }
    of_place (inr same) =
        let e : Some p ≡ Some page = sym at ∙ ap (λ (k : ℕ). r.pages k l) same.0 ∙ ap (r.pages nsid) same.1 ∙ there in
        let number : p ≡ page = cc in
        subst (λ (q : ℕ). OwnsPage c r u n l q) (sym number) (subst (λ (k : ℕ). OwnsPage c r u k l page) (sym same.0) (subst (λ (k : ℕ). OwnsPage c r u nsid k page) (sym same.1) (record { owner = of_found x; is_owner = here; block = block })))

  owned-now : (at : Spot) (y : Owner) → owner_at u.owners at ≡ Some y → IsOwnedBefore c r nsid (lba + 1) at y
  owned-now at y e =
      ⊎_elim
      (λ (new : (at ≡ spot_of c page) × (y ≡ of_found x)). record {
        owned = record { nsid = nsid; lba = lba; page = page; there = there; spot_is = new.0; block = subst (IsBlockOwner c r nsid lba page) (sym new.1) block };
        before = inr (refl, omega arith);
      })
      (λ (old : (at ≢ spot_of c page) × (owner_at t.owners at ≡ Some y)).
      let own = h.owned at y old.1 in
      record { owned = own.owned; before = before-more own.owned.nsid own.owned.lba nsid lba own.before })
      (owner-now (owner_at t.owners) (spot_of c page) at (of_found x) y (sym (owners-are at) ∙ e))

  said-now : IsTrue s.told → (at : Spot) (y : Owner) → owner_at u.owners at ≡ Some y → said_at s.cells (page_number (geometry_of c) at) ≡ Some y.spare
  said-now told at y e =
      ⊎_elim
      (λ (new : (at ≡ spot_of c page) × (y ≡ of_found x)).
      ap (λ (k : Spot). said_at s.cells (page_number (geometry_of c) k)) new.0 ∙ ap (said_at s.cells) (number-is c page) ∙ shown told ∙ ap (λ (z : Owner). Some z.spare) (sym new.1))
      (λ (old : (at ≢ spot_of c page) × (owner_at t.owners at ≡ Some y)). h.said told at y old.1)
      (owner-now (owner_at t.owners) (spot_of c page) at (of_found x) y (sym (owners-are at) ∙ e))

  pub found-here : AreFoundBefore c r s nsid (lba + 1) u
  found-here = record {
    unmoved = record {
      cut = gets.rest.units.cut ∙ h.unmoved.cut;
      classes = ap (λ x. x.classes) gets.rest.handles ∙ h.unmoved.classes;
      references = λ rg ruh. ap (λ x. reference_at x rg ruh) gets.rest.handles ∙ h.unmoved.references rg ruh;
      passes = gets.rest.passes ∙ h.unmoved.passes;
      worn = λ rg. ap (λ (f : ℕ → Bool). f rg) gets.rest.units.worn ∙ h.unmoved.worn rg;
    };
    units = λ unit is.
        let was = h.units unit is in
        let kept = gets.rest.units.kept unit in
        record {
          used = was.used;
          found = record { state = ap (λ (z : DataUnit). z.state) kept ∙ was.found.state; next = ap (λ (z : DataUnit). z.next) kept ∙ was.found.next };
          told = was.told;
        };
    blocks = blocks-now;
    owned = owned-now;
    said = said-now;
    placed = placed-now;
  }

-- ---- a block without a page, the end of a namespace, and of all

pub found-none : (c : DriveConfig) (r : Reading) (s : FlashState) (nsid lba : ℕ) (t : PageTables) → r.pages nsid lba ≡ None → AreFoundBefore c r s nsid lba t → AreFoundBefore c r s nsid (lba + 1) t
found-none c r s nsid lba t none h = record {
  unmoved = h.unmoved;
  units = h.units;
  blocks = λ n l p before at. of_place n l p at (before-next n l nsid lba before);
  owned = λ spot x e. let own = h.owned spot x e in record { owned = own.owned; before = before-more own.owned.nsid own.owned.lba nsid lba own.before };
  said = h.said;
  placed = λ told n l p at before. placed_at told n l p at (before-next n l nsid lba before);
} where
  placed_at : IsTrue s.told → (n l p : ℕ) → r.pages n l ≡ Some p → IsBefore n l nsid lba ⊎ ((n ≡ nsid) × (l ≡ lba)) → IsInPlace c s.cells r n l p
  placed_at told n l p at (inl earlier) = h.placed told n l p at earlier
  placed_at told n l p at (inr same) = let e : None ≡ Some p = sym none ∙ ap (r.pages nsid) (sym same.1) ∙ ap (λ (k : ℕ). r.pages k l) (sym same.0) ∙ at in absurd cc

  of_place : (n l p : ℕ) → r.pages n l ≡ Some p → IsBefore n l nsid lba ⊎ ((n ≡ nsid) × (l ≡ lba)) → OwnsPage c r t n l p
  of_place n l p at (inl earlier) = h.blocks n l p earlier at
  of_place n l p at (inr same) = let e : None ≡ Some p = sym none ∙ ap (r.pages nsid) (sym same.1) ∙ ap (λ (k : ℕ). r.pages k l) (sym same.0) ∙ at in absurd cc

pub found-row : (c : DriveConfig) (r : Reading) (s : FlashState) (nsid lba : ℕ) (t : PageTables) → ((l : ℕ) → lba ≤ l → r.pages nsid l ≡ None) → AreFoundBefore c r s nsid lba t → AreFoundBefore c r s (nsid + 1) 0 t
found-row c r s nsid lba t none h = record {
  unmoved = h.unmoved;
  units = h.units;
  blocks = λ n l p before at. of_place n l p at (before-row n l nsid lba before);
  owned = λ spot x e. let own = h.owned spot x e in record { owned = own.owned; before = before-all-row own.owned.nsid own.owned.lba nsid lba own.before };
  said = h.said;
  placed = λ told n l p at before. placed_at told n l p at (before-row n l nsid lba before);
} where
  placed_at : IsTrue s.told → (n l p : ℕ) → r.pages n l ≡ Some p → IsBefore n l nsid lba ⊎ ((n ≡ nsid) × (lba ≤ l)) → IsInPlace c s.cells r n l p
  placed_at told n l p at (inl earlier) = h.placed told n l p at earlier
  placed_at told n l p at (inr same) = let e : None ≡ Some p = sym (none l same.1) ∙ ap (λ (k : ℕ). r.pages k l) (sym same.0) ∙ at in absurd cc

  of_place : (n l p : ℕ) → r.pages n l ≡ Some p → IsBefore n l nsid lba ⊎ ((n ≡ nsid) × (lba ≤ l)) → OwnsPage c r t n l p
  of_place n l p at (inl earlier) = h.blocks n l p earlier at
  of_place n l p at (inr same) = let e : None ≡ Some p = sym (none l same.1) ∙ ap (λ (k : ℕ). r.pages k l) (sym same.0) ∙ at in absurd cc

-- ---- where a block is in its place

-- a whole page with a spare that names the block
pub record IsWhole (c : DriveConfig) (r : Reading) (cells : List Cell) (nsid lba page : ℕ) : Type 0 where
  pub spare : List ℕ
  pub bytes : List ℕ
  pub at : slice_get cells page ≡ Some (Whole spare bytes)
  pub said : DataSpare
  pub said_is : said_by_data spare ≡ Some said
  pub named : IsTrue (names_block c r nsid lba page said)

pub whole-of : (c : DriveConfig) (r : Reading) (cells : List Cell) (nsid lba page : ℕ) → IsTrue (is_kept c cells r nsid lba page) → IsWhole c r cells nsid lba page
whole-of c r cells nsid lba page kept = of_cell (slice_get cells page) refl (and_parts (nat_lt page (data_pages (geometry_of c))) (option_map_or (holds c r nsid lba page) (slice_get cells page) false) kept).1 where
  of_spare : (spare bytes : List ℕ) → slice_get cells page ≡ Some (Whole spare bytes) → (o : Option DataSpare) → said_by_data spare ≡ o → option_map_or (names_block c r nsid lba page) o false ≡ true → IsWhole c r cells nsid lba page
  of_spare spare bytes at None e named = absurd cc
  of_spare spare bytes at (Some said) e named = record { spare = spare; bytes = bytes; at = at; said = said; said_is = e; named = named }

  of_cell : (o : Option Cell) → slice_get cells page ≡ o → option_map_or (holds c r nsid lba page) o false ≡ true → IsWhole c r cells nsid lba page
  of_cell None e h = absurd cc
  of_cell (Some Blank) e h = absurd cc
  of_cell (Some Torn) e h = absurd cc
  of_cell (Some (Whole spare bytes)) e h = of_spare spare bytes e (said_by_data spare) refl h

module _ (c : DriveConfig) (r : Reading) (s : FlashState) (nsid lba page : ℕ) (t : PageTables) (range : IsInRange c) (apart : StandApart c r) (there : r.pages nsid lba ≡ Some page) (h : AreFoundBefore c r s nsid lba t) (told : IsTrue s.told) (place : IsInPlace c s.cells r nsid lba page) where
  whole : IsWhole c r s.cells nsid lba page
  whole = whole-of c r s.cells nsid lba page place.kept

  pub not-blank : slice_get s.cells page ≡ Some Blank → ⊥
  not-blank e = let both : Some (Whole whole.spare whole.bytes) ≡ Some Blank = sym whole.at ∙ e in absurd cc

  pub not-torn : slice_get s.cells page ≡ Some Torn → ⊥
  not-torn e = let both : Some (Whole whole.spare whole.bytes) ≡ Some Torn = sym whole.at ∙ e in absurd cc

  -- the look showed that page
  spare-is : (spare bytes : List ℕ) → slice_get s.cells page ≡ Some (Whole spare bytes) → said_by_data spare ≡ Some whole.said
  spare-is spare bytes e =
      let both : Some (Whole spare bytes) ≡ Some (Whole whole.spare whole.bytes) = sym e ∙ whole.at in
      let same : spare ≡ whole.spare = cc in
      ap said_by_data same ∙ whole.said_is

  pub not-unsaid : (spare bytes : List ℕ) → slice_get s.cells page ≡ Some (Whole spare bytes) → said_by_data spare ≡ None → ⊥
  not-unsaid spare bytes e none = let both : Some whole.said ≡ None = sym (spare-is spare bytes e) ∙ none in absurd cc

  said-here : said_at s.cells page ≡ Some whole.said
  said-here = ap (option_and_then said_in) whole.at ∙ whole.said_is

  closed-of : (x : DataUnit) → IsFoundIn c s (page / c.unit_pages) x → x.state ≡ Closed
  closed-of x found =
      let at : slice_get s.cells (page / c.unit_pages * c.unit_pages + page % c.unit_pages) ≡ Some (Whole whole.spare whole.bytes) = ap (slice_get s.cells) (number-is c page) ∙ whole.at in
      let some : 0 < c.unit_pages = omega (arith, range.unit_pages.0) in
      let used : found.used ≡ true = found.told told ∙ sym (used-unit (geometry_of c) s.cells (page / c.unit_pages) (page % c.unit_pages) (Whole whole.spare whole.bytes) (mod-lt page some) at refl) in
      found.found.state ∙ ap (λ (b : Bool). if b then Closed else Free) used

  way-of : GoWith t (page / c.unit_pages) whole.said.ruh
  way-of other y same owns =
      let own = (h.owned other y owns).owned in
      let before = (h.owned other y owns).before in
      let number : page_number (geometry_of c) other ≡ own.page = ap (page_number (geometry_of c)) own.spot_is ∙ number-is c own.page in
      let said : said_at s.cells own.page ≡ Some y.spare = ap (said_at s.cells) (sym number) ∙ h.said told other y owns in
      let unit : own.page / c.unit_pages ≡ page / c.unit_pages = ap (λ (z : Spot). z.unit) (sym own.spot_is) ∙ same in
      let one : lane_in c r y.spare.ruh ≡ lane_in c r whole.said.ruh = place.way own.nsid own.lba own.page y.spare whole.said own.there before unit said said-here in
      ap (λ cs. lane_of_handle cs y.spare.ruh) h.unmoved.classes ∙ one ∙ sym (ap (λ cs. lane_of_handle cs whole.said.ruh) h.unmoved.classes)

  pub may-keep : (spare bytes : List ℕ) (said : DataSpare) → slice_get s.cells page ≡ Some (Whole spare bytes) → said_by_data spare ≡ Some said → MayKeep c r nsid lba page said t
  may-keep spare bytes said e is =
      let both : Some whole.said ≡ Some said = sym (spare-is spare bytes e) ∙ is in
      let same : whole.said ≡ said = cc in
      subst (λ (x : DataSpare). MayKeep c r nsid lba page x t) same (record {
        named = whole.named;
        closed = closed-of (unit_at t.units (page / c.unit_pages)) (h.units (page / c.unit_pages) ((div-lt_iff_lt-mul {k = c.unit_pages} {x = page} {y = c.groups * c.units} (omega (arith, range.unit_pages.0))).1 (apart.places nsid lba page there)));
        way = way-of;
      })

-- the page of a block that is not in its place, where all before it are
pub first-here : (c : DriveConfig) (r : Reading) (s : FlashState) (nsid lba number page : ℕ) (t : PageTables) → r.pages nsid lba ≡ Some number → AreFoundBefore c r s nsid lba t → IsTrue s.told → (IsInPlace c s.cells r nsid lba number → ⊥) → number ≡ page → IsFirstAstray c s.cells r page
first-here c r s nsid lba number page t there h told astray same =
    subst (IsFirstAstray c s.cells r) same (record { nsid = nsid; lba = lba; there = there; astray = astray; before = h.placed told })

-- the first block, and behind the last
pub found-all : (c : DriveConfig) (st : State) (s : FlashState) (t : PageTables) → AreFoundBefore c (reading_of_state st) s 17 0 t → AreFound c (reading_of_state st) s t
found-all c st s t h = record {
  unmoved = h.unmoved;
  units = h.units;
  blocks = λ n l p at. h.blocks n l p (all-before st n l p 17 (omega arith) at) at;
  owned = λ spot x e. (h.owned spot x e).owned;
  said = h.said;
  ways = λ told. ways-placed c s.cells (reading_of_state st) (λ n l p at. h.placed told n l p at (all-before st n l p 17 (omega arith) at));
}

pub found-first : (c : DriveConfig) (st : State) (s : FlashState) (old t : PageTables) → AreUnmoved c (reading_of_state st) old → ((spot : Spot) → owner_at old.owners spot ≡ None) → AreUnitsFoundTo c s (c.groups * c.units) old t → AreFoundBefore c (reading_of_state st) s 1 0 t
found-first c st s old t unmoved none h = record {
  unmoved = record {
    cut = h.rest.cut ∙ unmoved.cut;
    classes = ap (λ x. x.classes) h.rest.handles ∙ unmoved.classes;
    references = λ rg ruh. ap (λ x. reference_at x rg ruh) h.rest.handles ∙ unmoved.references rg ruh;
    passes = h.rest.passes ∙ unmoved.passes;
    worn = λ rg. ap (λ (f : ℕ → Bool). f rg) h.rest.worn ∙ unmoved.worn rg;
  };
  units = λ unit is. h.units unit is is;
  blocks = λ n l p before at. absurd (none-before st n l p before at);
  placed = λ told n l p at before. absurd (none-before st n l p before at);
  owned = λ spot x e. let both : None ≡ Some x = sym (ap (λ (o : OwnerTable). owner_at o spot) h.rest.owners ∙ none spot) ∙ e in absurd cc;
  said = λ told spot x e. let both : None ≡ Some x = sym (ap (λ (o : OwnerTable). owner_at o spot) h.rest.owners ∙ none spot) ∙ e in absurd cc;
}

-- ---- the tables before the first look

pub index-known : (c : DriveConfig) (st : State) → IsGood c (reading_of_state st) → st.summary.index < length c.fdp
unfolding reading_of_state
index-known c st h = h.index

pub classes-are : (c : DriveConfig) (st : State) → classes_of c st.summary.enabled st.summary.index ≡ classes_of c (reading_of_state st).enabled (reading_of_state st).index
unfolding reading_of_state
classes-are c st = refl

pub some-classes : (c : DriveConfig) → IsInRange c → (enabled : Bool) (index : ℕ) → index < length c.fdp → 1 ≤ length (classes_of c enabled index)
some-classes c range true index low = (range.handles index [] low).0
some-classes c range false index low = omega arith
