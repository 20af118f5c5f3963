-- What is kept apart at first, and what it promises.
use Rattle.std.proofs.Common.{◌≡◌, ℕ, zero, suc, ◌*◌, ◌<◌, true, false, List, [], Option, Some, None, slice_get, refl, sym, ◌∙◌, ap, subst, arith, inl, inr, ⊎_elim, div-lt_iff_lt-mul}
use Rattle.std.specs.Prelude.{Contains, IsTrue, replicate, slice_index_or}
use Rattle.std.specs.List.{list_any}
use Rattle.std.specs.Option.{option_map_or}
use Rattle.std.proofs.lemmas.Option.{get_or_from_slice_get}
use Rattle.fdp_base.specs.declared.config.Class.{Class}
use Rattle.fdp_base.specs.declared.config.Class.TheVariants.{Initial, Persistent}
use Rattle.fdp_base.specs.declared.config.DriveConfig.{DriveConfig}
use Rattle.fdp_base.specs.declared.entry.Entry.{Entry}
use Rattle.fdp_base.specs.declared.entry.Spot.{Spot}
use Rattle.fdp_base.specs.declared.spare.DataSpare.{DataSpare}
use Rattle.fdp_base.specs.Geometry.{all_pages}
use Rattle.fdp_base.specs.Placement.{geometry_of}
use Rattle.fdp_base.specs.Spare.{data_spare}
use Rattle.fdp_base.specs.EntryKinds.{puts_into}
use Rattle.fdp_book.specs.Configured.{fresh_opening}
use Rattle.fdp_book.specs.Book.{BookSeen, IsFirst, point_in, state_in, written_in}
use Rattle.fdp_flash.specs.declared.cell.Cell.{Cell}
use Rattle.fdp_flash.specs.declared.cell.Cell.TheVariants.{Blank, Whole}
use Rattle.fdp_flash.specs.Cells.{IsBlankUnit}
use Rattle.fdp_flash.specs.Layout.{page_number}
use Rattle.fdp_image.specs.CheckpointFields.{is_persistent}
use Rattle.fdp_image.specs.Isolation.{EachPage, IsIsolated}
use Rattle.fdp_image.specs.Roomy.{page_in}
use Rattle.fdp_isolation.specs.Begun.{OpenedApart}
use Rattle.fdp_isolation.specs.Isolated.{IsIsolatedDrive, has_live, is_in_use, since_setting}
use Rattle.fdp_isolation.specs.Laned.{AreLaned, IsKeptApart, IsKnown, IsTaken, StandsOver}
use Rattle.fdp_isolation.proofs.Entries.{put-whole}
use Rattle.fdp_isolation.proofs.Pages.{HasNoPage, blank-unit-none, each-both, each-none, each-weaker}
use Rattle.fdp_image.proofs.Spares.{Says, spare-says}
use Rattle.fdp_book.specs.fdp_locations.Located.{next_in}
use Rattle.fdp_book.proofs.fdp_locations.Owned.{owned-units, owned-written}
use Rattle.fdp_owners.specs.declared.owner.Owner.{Owner}
use Rattle.fdp_owners.specs.OwnerTable.{owner_at}
use Rattle.fdp_passes.specs.declared.lane.Lane.TheVariants.{Own, Shared}
use Rattle.fdp_passes.specs.GroupPasses.{lane_of}
use Rattle.fdp_pointers.specs.Facts.{HasOnlyPlaced}
use Rattle.fdp_pointers.proofs.Live.{live-is}
use Rattle.fdp_pointers.proofs.Rows.{any-found, or-cases}
use Rattle.fdp_pointers.proofs.Unplaced.{only-placed-first}
use Rattle.fdp_rules.specs.History.{Found, FoundBlock, fresh, point_of}
use Rattle.fdp_rules.specs.Sites.{group_of, is_live}
use Rattle.fdp_rules.specs.Step.{IsDataUnit}

-- ---- a fresh drive

pub no-entries : since_setting [] ≡ []
unfolding since_setting
no-entries = refl

-- the cells of a fresh drive, whose data units are blank
pub laned-fresh : (c : DriveConfig) (b : BookSeen) (cells : List Cell) → IsKnown b → IsFirst c b → ((unit : ℕ) → IsDataUnit c unit → IsBlankUnit (geometry_of c) cells unit) → AreLaned b cells
laned-fresh c b cells known first blank = record {
  laned = record {
    units = λ unit is. record {
      group = record { generation = 0; pages = each-none b.config unit cells _ (none unit is) };
      past = λ taken. omega arith;
      way = λ taken force. (Shared, each-none b.config unit cells _ (none unit is));
    };
    filled = λ rg ruh unit is e. each-none b.config unit cells _ (none unit is);
    targets = λ rg unit lane is e. each-none b.config unit cells _ (none unit is);
    put = λ unit is put. absurd (false-true (sym (ap (list_any (puts_into unit)) (ap since_setting first.entries_are ∙ no-entries)) ∙ put));
  };
  placed = subst (λ (es : List Entry). HasOnlyPlaced (point_of b.config b.found es)) (sym first.entries_are) (only-placed-first b.config b.found);
} where
  false-true : false ≡ true → ⊥
  false-true e = cc

  never : (x : Owner) → None ≡ Some x → ⊥
  never x e = cc

  none : (unit : ℕ) → IsDataUnit b.config unit → HasNoPage b.config cells unit
  none unit is = blank-unit-none b.config cells unit (subst (λ (d : DriveConfig). IsBlankUnit (geometry_of d) cells unit) (sym first.config_is) (blank unit (subst (λ (d : DriveConfig). IsDataUnit d unit) first.config_is is)))

-- a page of cells that are all the same
one-of-many : {X : Type 0} (n k : ℕ) (x y : X) → slice_get (replicate n x) k ≡ Some y → y ≡ x
one-of-many zero k x y e = absurd cc
one-of-many (suc n) zero x y e = let same : y ≡ x = cc in same
one-of-many (suc n) (suc k) x y e = one-of-many n k x y e

fresh-opened : (c : DriveConfig) → OpenedApart c (fresh_opening c).found (fresh_opening c).cells
unfolding fresh
fresh-opened c = record {
  grouped = λ unit is. record { generation = 0; pages = each-none c unit (fresh_opening c).cells _ (λ page spare bytes low whole. blank-whole spare bytes (one-of-many (all_pages (geometry_of c)) (page_number (geometry_of c) (page_in unit page)) Blank (Whole spare bytes) whole)) };
  apart = λ unit is x among. absurd (nothing among);
} where
  blank-whole : (spare bytes : List ℕ) → Whole spare bytes ≡ Blank → ⊥
  blank-whole spare bytes e = cc

  nothing : {x : FoundBlock} → Contains [] x → ⊥
  nothing among = let low = among.1 in omega (arith, low)

-- a fresh drive began with cells that keep data apart
pub opened-fresh : (c : DriveConfig) (b : BookSeen) → IsFirst c b → OpenedApart b.config b.found b.opened
opened-fresh c b first =
    subst (λ (d : DriveConfig). OpenedApart d b.found b.opened) (sym first.config_is)
    (subst (λ (f : Found). OpenedApart c f b.opened) (sym first.found_is)
    (subst (OpenedApart c (fresh_opening c).found) (sym first.opened_is) (fresh-opened c)))

-- ---- lanes

-- where data of a persistently isolated handle goes goes only that
pub alone-in-lane : (classes : List Class) (a b : ℕ) → IsTrue (option_map_or is_persistent (slice_get classes a) false) → lane_of (slice_index_or classes a Initial) a ≡ lane_of (slice_index_or classes b Initial) b → b ≡ a
alone-in-lane classes a b apart same = cases (slice_get classes a) refl apart where
  own : (x : Class) → lane_of Persistent a ≡ lane_of x b → b ≡ a
  own Initial e = absurd (different e) where
    different : Own a ≡ Shared → ⊥
    different d = cc
  own Persistent e = sym (number e) where
    number : Own a ≡ Own b → a ≡ b
    number d = cc

  cases : (o : Option Class) → slice_get classes a ≡ o → option_map_or is_persistent o false ≡ true → b ≡ a
  cases None is e = absurd (false-true e) where
    false-true : false ≡ true → ⊥
    false-true d = cc
  cases (Some Initial) is e = absurd (false-true e) where
    false-true : false ≡ true → ⊥
    false-true d = cc
  cases (Some Persistent) is e =
      let class : slice_index_or classes a Initial ≡ Persistent = get_or_from_slice_get classes a Persistent Initial is in
      own (slice_index_or classes b Initial) (sym (ap (λ (x : Class). lane_of x a) class) ∙ same)

-- ---- isolation

pub group-below : (c : DriveConfig) (unit : ℕ) → IsDataUnit c unit → group_of c unit < c.groups
group-below c unit is = (div-lt_iff_lt-mul (some c.units is)).1 is where
  some : (units : ℕ) → unit < c.groups * units → 0 < units
  some zero low = absurd (omega (arith, low))
  some (suc k) low = omega arith

module _ (b : BookSeen) (cells : List Cell) (kept : StandsOver b cells) (h : AreLaned b cells) where
  -- a unit with a page that has an owner goes one way in the generation in force
  owned-own : (spot : Spot) (x : Owner) → owner_at b.pages.owners spot ≡ Some x → (is : IsDataUnit b.config spot.unit) → (h.laned.units spot.unit is).group.generation ≡ (state_in b).generation
  owned-own spot x e is =
      let force = owned-units b.config (point_in b) (written_in b) kept.known.led.at b.pages kept.known.led.led spot x e in
      let held = owned-written b.config (point_in b) (written_in b) kept.known.led.at b.pages kept.known.led.led spot x e in
      let group : held.page.spare.rg ≡ group_of b.config spot.unit = ap (λ (y : DataSpare). y.rg) held.spare ∙ force.1 in
      let below = group-below b.config spot.unit is in
      let few = kept.known.config.ranges.groups in
      let generation : held.page.spare.generation ≡ (state_in b).generation = ap (λ (y : DataSpare). y.generation) held.spare ∙ force.0 in
      let low = kept.known.generation in
      let says : Says (data_spare held.page.spare) held.page.spare = spare-says held.page.spare (omega (arith, group, below, few.1)) (omega (arith, generation, low)) in
      let named = (h.laned.units spot.unit is).group.pages spot.page (data_spare held.page.spare) held.page.bytes (kept.holds.lie spot held.page held.is).page (kept.holds.whole spot held.page held.is) in
      let same : named.0 ≡ says.said = one (sym named.1 ∙ says.is) in
      sym named.2.1 ∙ ap (λ (y : DataSpare). y.generation) same ∙ says.generation ∙ generation where
        one : {y z : DataSpare} → Some y ≡ Some z → y ≡ z
        one d = cc

  module _ (unit : ℕ) (is : IsDataUnit b.config unit) where
    abbrev InForce : Type 0
    InForce = EachPage b.config cells unit (λ x. x.generation ≡ (state_in b).generation)

    abbrev own : IsKeptApart b.config (state_in b).generation b.pages.handles.classes cells unit (IsTaken b.pages b.entries unit)
    own = h.laned.units unit is

    -- a unit with a live page
    live-owned : IsTrue (has_live b.config (point_in b) unit) → (spot : Spot) × (x : Owner) × (owner_at b.pages.owners spot ≡ Some x) × (spot.unit ≡ unit)
    live-owned live =
        let found = any-found (λ page. is_live b.config (point_in b) (page_in unit page)) 0 b.config.unit_pages live in
        let led = kept.known.led.led in
        let to = (live-is b.config (point_in b) (next_in b.pages.units) kept.known.led.at kept.known.orderly.state led.table h.placed (page_in unit found.0)).0 found.1 in
        let owner = led.owned.owned to.0 to.1 to.2 in
        (page_in unit found.0, owner.owner, ap (owner_at b.pages.owners) (sym to.3) ∙ owner.is_owner, refl)

    live-force : IsTrue (has_live b.config (point_in b) unit) → InForce
    live-force live =
        let owned = live-owned live in
        let force = owned-own owned.0 owned.1 owned.2 (subst (IsDataUnit b.config) (sym owned.3) is) in
        subst (λ (u : ℕ). EachPage b.config cells u (λ x. x.generation ≡ (state_in b).generation)) owned.3
        (each-weaker b.config owned.0.unit cells _ _ (λ x named. named.1 ∙ force) (h.laned.units owned.0.unit (subst (IsDataUnit b.config) (sym owned.3) is)).group.pages)

    -- a unit in use is taken
    used-taken : IsTrue (is_in_use b.config (point_in b) b.entries unit) → IsTaken b.pages b.entries unit
    used-taken used = ⊎_elim
        (λ live. inl (live-owned live))
        (λ put. inr (put-whole unit b.entries put))
        (or-cases (has_live b.config (point_in b) unit) (list_any (puts_into unit) (since_setting b.entries)) used)

    -- where the pages of a unit that is taken name the generation in force it is isolated
    force-isolated : IsTaken b.pages b.entries unit → InForce → IsIsolated b.config (state_in b) cells unit
    force-isolated taken force = record {
      generation = force;
      alone = λ page spare bytes low e.
          let here = both page spare bytes low e in
          let all = each-both b.config unit cells _ _ both (own.way taken (sym here.2.0 ∙ here.2.1)).1 in
          let x = all page spare bytes low e in (
            x.0,
            x.1,
            λ keeps other others content below f.
                let y = all other others content below f in (
                  y.0,
                  y.1,
                  alone-in-lane b.pages.handles.classes x.0.ruh y.0.ruh (subst (λ (classes : List Class). IsTrue (option_map_or is_persistent (slice_get classes x.0.ruh) false)) kept.known.units.classes keeps) (x.2.1 ∙ sym y.2.1),
                ),
          );
    } where
      both : EachPage b.config cells unit (λ x. (x.generation ≡ own.group.generation) × (x.generation ≡ (state_in b).generation))
      both = each-both b.config unit cells _ _ (each-weaker b.config unit cells _ _ (λ x named. named.1) own.group.pages) force

-- what is kept apart is isolated
pub isolated : (b : BookSeen) (cells : List Cell) → StandsOver b cells → AreLaned b cells → IsIsolatedDrive b.config (point_in b) b.entries cells
isolated b cells kept h = record {
  grouped = λ unit is. (h.laned.units unit is).group;
  apart = λ unit is used. force-isolated b cells kept h unit is (used-taken b cells kept h unit is used)
      (⊎_elim (live-force b cells kept h unit is) (h.laned.put unit is) (or-cases (has_live b.config (point_in b) unit) (list_any (puts_into unit) (since_setting b.entries)) used));
}
