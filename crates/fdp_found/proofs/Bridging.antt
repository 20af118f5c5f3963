-- The tables that an opening makes over a flash, whether that tells its cells or not.
use Rattle.std.proofs.Common.{◌≡◌, ℕ, ◌<◌, Bool, true, false, List, Option, Some, None, refl, sym, ◌∙◌, ap, subst, arith, inl, inr, replicate, zero, suc}
use Rattle.std.specs.Prelude.{◌&&◌, IsTrue, is_some, not, if◌then◌else◌, nat_lt, slice_get, slice_index_or}
use Rattle.std.specs.Option.{option_and_then, option_map_or}
use Rattle.std.proofs.lemmas.Bool.{and_parts}
use Rattle.std.proofs.lemmas.Bool.Decides.{nat_tests}
use Rattle.fdp_base.specs.declared.config.DriveConfig.{DriveConfig}
use Rattle.fdp_base.specs.declared.entry.Spot.{Spot}
use Rattle.fdp_base.specs.declared.spare.DataSpare.{DataSpare}
use Rattle.fdp_base.specs.Config.{IsValidConfig}
use Rattle.fdp_base.specs.Placement.{geometry_of}
use Rattle.fdp_base.specs.Spare.{data_spare}
use Rattle.fdp_locations.specs.fdp_collector.Copying.{IsDataPage}
use Rattle.fdp_flash.specs.declared.cell.Cell.{Cell}
use Rattle.fdp_flash.specs.declared.cell.Cell.TheVariants.{Blank, Torn, Whole}
use Rattle.fdp_flash.specs.FlashState.{FlashState}
use Rattle.fdp_flash.specs.Layout.{page_number}
use Rattle.fdp_found.specs.Opened.{AreOpened, IsFoundUnit, owner_found}
use Rattle.fdp_found.specs.Told.{AreBlockOwners, IsBlockOwner, cell_of_owner, cells_of_owners, opened_cells}
use Rattle.fdp_found.proofs.Leading.{stands-on}
use Rattle.fdp_found.proofs.Pointing.{owner-of, owner-on}
use Rattle.fdp_found.proofs.Paging.{blank-tested, held-of, number-back, spot-back}
use Rattle.fdp_found.proofs.Reading.{names-of, page-lies}
use Rattle.fdp_found.proofs.Telling.{owners-told, told-at, told-valid}
use Rattle.fdp_image.specs.Areas.{data_pages}
use Rattle.fdp_image.specs.Reading.{Reading, spot_of}
use Rattle.fdp_image.specs.Roomy.{is_blank_unit, page_in}
use Rattle.fdp_image.specs.Valid.{IsValid, is_named}
use Rattle.fdp_opening.specs.Found.{AreFound, IsFoundIn, said_at, said_in}
use Rattle.fdp_owners.specs.declared.owner.Holder.TheVariants.{Block}
use Rattle.fdp_owners.specs.declared.owner.Owner.{Owner}
use Rattle.fdp_owners.specs.OwnerTable.{owner_at}
use Rattle.fdp_locations.specs.fdp_pages.Joined.{AreJoined}
use Rattle.fdp_locations.specs.fdp_pages.PageTables.{PageTables, no_passes, no_targets}
use Rattle.fdp_passes.specs.declared.lane.Lane.{Lane}
use Rattle.fdp_passes.specs.GroupPasses.{GroupPasses, slot_of, target_at}
use Rattle.fdp_records.specs.Spares.{said_by_data}
use Rattle.fdp_opening.proofs.fdp_recovery.Valid.{valid-of}
use Rattle.fdp_opening.specs.fdp_recovery.Blocks.{AreKept, StandApart, holds, names_block}
use Rattle.fdp_rules.specs.Step.{IsDataUnit}
use Rattle.fdp_opening.specs.fdp_state.Good.{IsGood}
use Rattle.fdp_units.specs.declared.state.UnitState.TheVariants.{Closed, Free}
use Rattle.fdp_units.specs.UnitTable.{Cut, UnitTable, state_at, unit_at}

one : {X : Type 0} {x y : X} → Some x ≡ Some y → x ≡ y
one e = cc

never : {X : Type 0} {x : X} → None ≡ Some x → ⊥
never e = cc

-- ---- relocation has not begun

abbrev nothing : Option ℕ
nothing = None

no-slot : (n k : ℕ) → slice_index_or (replicate n nothing) k nothing ≡ nothing
no-slot zero zero = refl
no-slot zero (suc k) = refl
no-slot (suc n) zero = refl
no-slot (suc n) (suc k) = no-slot n k

no-pass : (n rg pages : ℕ) → (slice_index_or (replicate n (no_targets pages)) rg no_passes).pass ≡ None
no-pass zero zero pages = refl
no-pass zero (suc rg) pages = refl
no-pass (suc n) zero pages = refl
no-pass (suc n) (suc rg) pages = no-pass n rg pages

no-target : (n rg pages : ℕ) (lane : Lane) → target_at (slice_index_or (replicate n (no_targets pages)) rg no_passes) lane ≡ None
no-target zero zero pages lane = no-slot 0 (slot_of lane)
no-target zero (suc rg) pages lane = no-slot 0 (slot_of lane)
no-target (suc n) zero pages lane = no-slot 17 (slot_of lane)
no-target (suc n) (suc rg) pages lane = no-target n rg pages lane

-- a unit is as it was found
is-state : (c : DriveConfig) (s : FlashState) (unit : ℕ) (t : UnitTable) (f : IsFoundIn c s unit (unit_at t unit)) (used : Bool) → f.used ≡ used → (state_at t unit ≡ (if used then Closed else Free)) × ((unit_at t unit).next ≡ (if used then c.unit_pages else 0))
is-state c s unit t f used is = (f.found.state ∙ ap (λ (b : Bool). if b then Closed else Free) is, f.found.next ∙ ap (λ (b : Bool). if b then c.unit_pages else 0) is)

-- the tables, where units and owners are those of these cells
opened-over : (c : DriveConfig) (s : FlashState) (r : Reading) (t : PageTables) (cells : List Cell) → AreJoined t → AreFound c r s t → ((unit : ℕ) → IsDataUnit c unit → IsFoundUnit c cells t.units unit) → ((spot : Spot) → owner_at t.owners spot ≡ owner_found c cells r spot) → AreOpened c cells r t
opened-over c s r t cells joined h units owners = record {
  cut = h.unmoved.cut;
  units = units;
  worn = h.unmoved.worn;
  owners = owners;
  handles = record {
    unit_pages = sym (joined.cut.unit_pages ∙ ap (λ (k : Cut). k.unit_pages) h.unmoved.cut);
    groups = sym (joined.cut.groups ∙ ap (λ (k : Cut). k.groups) h.unmoved.cut);
    classes = sym h.unmoved.classes;
    references = h.unmoved.references;
  };
  passes = λ rg. record {
    targets = λ lane. ap (λ (xs : List GroupPasses). target_at (slice_index_or xs rg no_passes) lane) h.unmoved.passes ∙ no-target c.groups rg c.unit_pages lane;
    pass = ap (λ (xs : List GroupPasses). (slice_index_or xs rg no_passes).pass) h.unmoved.passes ∙ no-pass c.groups rg c.unit_pages;
  };
}

-- ---- over a flash that tells its cells

module _ (c : DriveConfig) (s : FlashState) (r : Reading) (t : PageTables) (config : IsValidConfig c) (told : IsTrue s.told) (valid : IsValid c s.cells r) (h : AreFound c r s t) where
  pub told-units : (unit : ℕ) → IsDataUnit c unit → IsFoundUnit c s.cells t.units unit
  told-units unit is = of (h.units unit is).used refl where
    f : IsFoundIn c s unit (unit_at t.units unit)
    f = h.units unit is

    blank-of : (b : Bool) → false ≡ not b → b ≡ true
    blank-of true e = refl
    blank-of false e = absurd cc

    of : (b : Bool) → f.used ≡ b → IsFoundUnit c s.cells t.units unit
    of false used = let is = is-state c s unit t.units f false used in inl (is.0, is.1, blank-of (is_blank_unit (geometry_of c) s.cells unit) (sym used ∙ f.told told))
    of true used = inr (is-state c s unit t.units f true used)

  -- an owner is the one that the cells tell
  owner-is : (spot : Spot) (x : Owner) → owner_at t.owners spot ≡ Some x → owner_found c s.cells r spot ≡ Some x
  owner-is spot x e =
      let o = h.owned spot x e in
      let on = stands-on c s.cells r valid o.nsid o.lba o.page o.there in
      let number : page_number (geometry_of c) spot ≡ o.page = ap (page_number (geometry_of c)) o.spot_is ∙ number-back c o.page in
      let said : said_at s.cells o.page ≡ Some on.said = ap (option_and_then said_in) on.cell ∙ on.says in
      let same : on.said ≡ x.spare = one (sym said ∙ ap (said_at s.cells) (sym number) ∙ h.said told spot x e) in
      let spare : x.spare ≡ o.block.spare = ap (λ (y : Owner). y.spare) o.block.owner_is in
      ap (owner_found c s.cells r) o.spot_is ∙ owner-on c s.cells r valid config o.nsid o.lba o.page o.there on
      ∙ (λ d. Some (record { holder = Block; spare = (same ∙ spare) d })) ∙ ap Some (sym o.block.owner_is)

  -- and each that the cells tell is there
  owner-there : (spot : Spot) (x : Owner) → owner_found c s.cells r spot ≡ Some x → owner_at t.owners spot ≡ Some x
  owner-there spot x e =
      let a = owner-of c s.cells r spot x e in
      let held = held-of c s.cells spot a.page a.held in
      let n : ℕ = page_number (geometry_of c) spot in
      let own = h.blocks a.page.spare.nsid a.page.spare.lba n a.there in
      let at : owner_at t.owners spot ≡ Some own.owner = ap (owner_at t.owners) (sym (spot-back c spot held.page.1)) ∙ own.is_owner in
      at ∙ sym (owner-is spot own.owner at) ∙ e

  pub told-owners : (spot : Spot) → owner_at t.owners spot ≡ owner_found c s.cells r spot
  told-owners spot = of (owner_at t.owners spot) refl (owner_found c s.cells r spot) refl where
    of : (o : Option Owner) → owner_at t.owners spot ≡ o → (p : Option Owner) → owner_found c s.cells r spot ≡ p → owner_at t.owners spot ≡ owner_found c s.cells r spot
    of (Some x) e p f = e ∙ sym (owner-is spot x e)
    of None e None f = e ∙ sym f
    of None e (Some x) f = absurd (never (sym e ∙ owner-there spot x f))

-- each block is kept on its page, as its owner tells
holds-said : (c : DriveConfig) (r : Reading) (nsid lba page : ℕ) (o : Option Cell) (x : DataSpare) → option_and_then said_in o ≡ Some x → option_map_or (holds c r nsid lba page) o false ≡ names_block c r nsid lba page x
holds-said c r nsid lba page None x e = absurd cc
holds-said c r nsid lba page (Some Blank) x e = absurd cc
holds-said c r nsid lba page (Some Torn) x e = absurd cc
holds-said c r nsid lba page (Some (Whole spare bytes)) x e = ap (λ (o : Option DataSpare). option_map_or (names_block c r nsid lba page) o false) e

lower : (m n : ℕ) → m < n → nat_lt m n ≡ true
lower m n low = grind (arith, nat_tests)

told-kept : (c : DriveConfig) (s : FlashState) (r : Reading) (t : PageTables) → IsTrue s.told → StandApart c r → AreFound c r s t → AreKept c s.cells r
told-kept c s r t told apart h nsid lba page there =
    let own = h.blocks nsid lba page there in
    let said : said_at s.cells page ≡ Some own.block.spare =
    ap (said_at s.cells) (sym (number-back c page)) ∙ h.said told (spot_of c page) own.owner own.is_owner ∙ ap (λ (x : Owner). Some x.spare) own.block.owner_is in
    ap (λ (b : Bool). b && option_map_or (holds c r nsid lba page) (slice_get s.cells page) false) (lower page (data_pages (geometry_of c)) (apart.places nsid lba page there))
    ∙ holds-said c r nsid lba page (slice_get s.cells page) own.block.spare said ∙ own.block.named

-- ---- over one that does not

module _ (c : DriveConfig) (s : FlashState) (r : Reading) (t : PageTables) (config : IsValidConfig c) (apart : StandApart c r) (joined : AreJoined t) (h : AreFound c r s t) where
  abbrev made : List Cell
  made = cells_of_owners c (owner_at t.owners)

  owner-block : (spot : Spot) (x : Owner) → owner_at t.owners spot ≡ Some x → IsBlockOwner c r spot x
  owner-block spot x e =
      let o = h.owned spot x e in
      let lies = page-lies c o.page config (apart.places o.nsid o.lba o.page o.there) in
      let named = names-of c r o.nsid o.lba o.page o.block.spare (and_parts (is_named c r o.nsid o.lba o.page o.block.spare) _ o.block.named).0 in
      let spare : x.spare ≡ o.block.spare = ap (λ (y : Owner). y.spare) o.block.owner_is in
      let number : o.page ≡ page_number (geometry_of c) spot = sym (number-back c o.page) ∙ ap (page_number (geometry_of c)) (sym o.spot_is) in
      record {
        page = subst (IsDataPage (geometry_of c)) (sym o.spot_is) (record { unit = lies.0; page = lies.1 });
        holder = ap (λ (y : Owner). y.holder) o.block.owner_is;
        stands = ap (λ (d : DataSpare). r.pages d.nsid d.lba) spare ∙ ap (λ (n : ℕ). r.pages n o.block.spare.lba) named.nsid_is ∙ ap (r.pages o.nsid) named.lba_is ∙ o.there ∙ ap Some number;
        spelled = subst (λ (d : DataSpare). said_by_data (data_spare d) ≡ Some d) (sym spare) o.block.spelled;
      }

  pub made-owners : AreBlockOwners c r (owner_at t.owners)
  made-owners = record {
    blocks = λ nsid lba page there.
        let own = h.blocks nsid lba page there in
        record { spare = own.block.spare; owner = own.is_owner ∙ ap Some own.block.owner_is; names = own.block.named };
    owners_are = owner-block;
  }

  -- no page of a free unit has an owner
  none-owned : (spot : Spot) → (unit_at t.units spot.unit).next ≡ 0 → owner_at t.owners spot ≡ None
  none-owned spot free = of (owner_at t.owners spot) refl where
    of : (o : Option Owner) → owner_at t.owners spot ≡ o → owner_at t.owners spot ≡ None
    of None e = e
    of (Some x) e = let low : spot.page < (unit_at t.units spot.unit).next = joined.live.used spot (ap (λ (o : Option Owner). is_some o) e) in absurd (omega (arith, low, free))

  pub made-units : (unit : ℕ) → IsDataUnit c unit → IsFoundUnit c made t.units unit
  made-units unit is = of (h.units unit is).used refl where
    f : IsFoundIn c s unit (unit_at t.units unit)
    f = h.units unit is

    of : (b : Bool) → f.used ≡ b → IsFoundUnit c made t.units unit
    of true used = inr (is-state c s unit t.units f true used)
    of false used =
        let free = is-state c s unit t.units f false used in
        inl (
          free.0,
          free.1,
          blank-tested (geometry_of c) made unit (record {
            blank = λ page low.
                told-at c (owner_at t.owners) (page_in unit page) (record { unit = is; page = low })
                ∙ ap (λ (o : Option Owner). Some (cell_of_owner c.block o)) (none-owned (page_in unit page) free.1);
          }),
        )

-- ---- either

-- over the cells that an opening goes by the tables are such as an opening makes, and what was read is valid
pub opened-found : (c : DriveConfig) (s : FlashState) (r : Reading) (t : PageTables) → IsValidConfig c → IsGood c r → StandApart c r → AreJoined t → AreFound c r s t
    → AreOpened c (opened_cells s.told c s.cells (owner_at t.owners)) r t × IsValid c (opened_cells s.told c s.cells (owner_at t.owners)) r
opened-found c s r t config good apart joined h = of s.told refl where
  Both : List Cell → Type 0
  Both cells = AreOpened c cells r t × IsValid c cells r

  of : (b : Bool) → s.told ≡ b → Both (opened_cells b c s.cells (owner_at t.owners))
  of true told =
      let valid = valid-of c s.cells r good (told-kept c s r t told apart h) in
      (opened-over c s r t s.cells joined h (told-units c s r t config told valid h) (told-owners c s r t config told valid h), valid)
  of false untold =
      let made = made-owners c s r t config apart joined h in
      (opened-over c s r t (cells_of_owners c (owner_at t.owners)) joined h (made-units c s r t config apart joined h) (owners-told c (owner_at t.owners) r made), told-valid c (owner_at t.owners) r made good)
