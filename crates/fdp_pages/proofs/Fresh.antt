-- What joins the tables of a drive that was not used.
use Rattle.std.proofs.Common.{◌≡◌, refl, ℕ, ◌*◌, ◌<◌, ◌≤◌, List, Option, Some, None, ap, sym, ◌∙◌, subst, arith, ⊎_elim, length, get_or, replicate}
use Rattle.std.specs.Prelude.{IsSome, slice_index_or}
use Rattle.std.proofs.lemmas.Bool.{cases_lt}
use Rattle.std.proofs.lemmas.List.{get_or-replicate, get_or_past, length-replicate}
use Rattle.fdp_base.specs.declared.config.Class.{Class}
use Rattle.fdp_base.specs.declared.config.Geometry.{Geometry}
use Rattle.fdp_base.specs.declared.entry.Spot.{Spot}
use Rattle.fdp_base.specs.Geometry.{IsValidGeometry, data_units}
use Rattle.fdp_collector.specs.Ready.{AreLive, HaveLanes}
use Rattle.fdp_handles.specs.HandleTable.{blank, reference_at}
use Rattle.fdp_owners.specs.declared.owner.Owner.{Owner}
use Rattle.fdp_owners.specs.OwnerTable.{live_in, owner_at}
use Rattle.fdp_owners.proofs.Tables.{live-most}
use Rattle.fdp_pages.specs.Joined.{AreFilled, AreJoined, IsRelocating}
use Rattle.fdp_pages.specs.PageTables.{PageTables, no_passes, no_targets, passes_at}
use Rattle.fdp_pages.proofs.Places.{never, some-is}
use Rattle.fdp_passes.specs.GroupPasses.{GroupPasses, slot_of}
use Rattle.fdp_rules.specs.PlainState.{Reference}
use Rattle.fdp_units.specs.declared.data_unit.DataUnit.{DataUnit}
use Rattle.fdp_units.specs.declared.state.UnitState.TheVariants.{Free, Referenced, Target}
use Rattle.fdp_units.specs.DataUnits.{IsSound, free_unit}
use Rattle.fdp_units.specs.UnitTable.{Cut, IsGroup, IsUnit, cut_of, unit_at}

-- no handle has a unit, all units are free, no page has an owner, and no group a target or a pass
pub record AreFresh (t : PageTables) (classes : List Class) (g : Geometry) : Type 0 where
  pub classes_are : t.handles.classes ≡ classes
  pub references : (rg ruh : ℕ) → reference_at t.handles rg ruh ≡ blank g.unit_pages
  pub handle_pages : t.handles.unit_pages ≡ g.unit_pages
  pub handle_groups : t.handles.groups ≡ g.groups
  pub units : (unit : ℕ) → unit < data_units g → unit_at t.units unit ≡ free_unit
  pub unused : (unit : ℕ) → (unit_at t.units unit).next ≡ 0
  pub cut : cut_of t.units ≡ record { unit_pages = g.unit_pages; group_units = g.units; groups = g.groups }
  pub owners : (spot : Spot) → owner_at t.owners spot ≡ None
  pub owner_pages : t.owners.unit_pages ≡ g.unit_pages
  pub all_pages : length t.owners.pages ≡ data_units g * g.unit_pages
  pub passes : t.passes ≡ replicate g.groups (no_targets g.unit_pages)

free-referenced : Free ≡ Referenced → ⊥
free-referenced e = cc

free-target : Free ≡ Target → ⊥
free-target e = cc

free-sound : (pages : ℕ) → 1 ≤ pages → IsSound pages free_unit
free-sound pages some = record { some = some; next = omega arith; live = omega arith; free = λ e. refl; room = λ e. omega (arith, some) }

-- what stands in a list of equal elements, and behind it
pub all-one : {X : Type 0} (n i : ℕ) (x : X) → get_or (replicate n x) i x ≡ x
all-one n i x = ⊎_elim
    (λ (low : i < n). get_or-replicate n i x x low)
    (λ (high : n ≤ i). get_or_past (replicate n x) i x (subst (λ (k : ℕ). k ≤ i) (sym (length-replicate n x)) high))
    (cases_lt i n)

module _ (t : PageTables) (classes : List Class) (g : Geometry) (valid : IsValidGeometry g) (some : 1 ≤ length classes) (few : length classes ≤ 16) (h : AreFresh t classes g) where
  groups : length t.units.groups ≡ g.groups
  groups = ap (λ (k : Cut). k.groups) h.cut

  pages : t.units.unit_pages ≡ g.unit_pages
  pages = ap (λ (k : Cut). k.unit_pages) h.cut

  fresh : (unit : ℕ) → IsUnit t.units unit → unit_at t.units unit ≡ free_unit
  fresh unit is = h.units unit (subst (λ (k : Cut). unit < k.groups * k.group_units) h.cut is)

  unowned : (spot : Spot) (x : Owner) → owner_at t.owners spot ≡ Some x → ⊥
  unowned spot x e = never x (sym (h.owners spot) ∙ e)

  none-live : (unit : ℕ) → live_in t.owners unit ≡ 0
  none-live unit =
      let most : live_in t.owners unit ≤ 0 = live-most t.owners unit 0 (omega arith) (λ page low. h.owners (record { unit = unit; page = page })) in
      omega (arith, most)

  live : AreLive t.units t.owners
  live = record {
    there = λ spot is. absurd (unlive spot is);
    used = λ spot is. absurd (unlive spot is);
    counted = λ unit is. ap (λ (x : DataUnit). x.live) (fresh unit is) ∙ sym (none-live unit);
    unused = λ unit free. h.unused unit;
  } where
    unlive : (spot : Spot) → IsSome (owner_at t.owners spot) → ⊥
    unlive spot is = let x = some-is (owner_at t.owners spot) is in unowned spot x.0 x.1

  lanes : HaveLanes t.handles.classes t.owners
  lanes = record {
    few = subst (λ (c : List Class). length c ≤ 16) (sym h.classes_are) few;
    handles = λ spot x e. absurd (unowned spot x e);
    same = λ spot other x y same e f. absurd (unowned spot x e);
  }

  filled : AreFilled t.handles t.units t.owners
  filled = record {
    whole = λ rg ruh e. ap (λ (r : Reference). r.left) (h.references rg ruh) ∙ sym pages;
    fills = λ rg ruh unit e. absurd (none rg ruh unit e);
    apart = λ rg ruh other unit e f. absurd (none rg ruh unit e);
    filled = λ unit is stands. absurd (free-referenced (sym (ap (λ (x : DataUnit). x.state) (fresh unit is)) ∙ stands));
  } where
    none : (rg ruh unit : ℕ) → (reference_at t.handles rg ruh).unit ≡ Some unit → ⊥
    none rg ruh unit e = never unit (sym (ap (λ (r : Reference). r.unit) (h.references rg ruh)) ∙ e)

  passes-are : (rg : ℕ) → IsGroup t.units rg → passes_at t rg ≡ no_targets g.unit_pages
  passes-are rg is =
      let low : rg < g.groups = omega (arith, is, groups) in
      ap (λ (ps : List GroupPasses). slice_index_or ps rg no_passes) h.passes ∙ get_or-replicate g.groups rg (no_targets g.unit_pages) no_passes low

  no-target : (slot unit : ℕ) → slice_index_or (no_targets g.unit_pages).targets slot None ≡ Some unit → ⊥
  no-target slot unit e = never unit (sym (all-one 17 slot none) ∙ e) where
    none : Option ℕ
    none = None

  at-rest : (rg : ℕ) → IsRelocating (record { passes = no_targets g.unit_pages; units = t.units }) t.owners t.handles.classes rg
  at-rest rg = record {
    ready = record {
      cut = record {
        passes = sym pages;
        owners = h.owner_pages ∙ sym pages;
        pages = h.all_pages ∙ sym (ap (λ (k : Cut). k.groups * k.group_units * k.unit_pages) h.cut);
      };
      victim = λ pass e. absurd (never pass e);
      copied = λ pass page e. absurd (never pass e);
      targets = record {
        targets = λ slot unit e. absurd (no-target slot unit e);
        apart = λ slot other unit e f. absurd (no-target slot unit e);
      };
      live = live;
      lanes = lanes;
      enough = λ pass page x e. absurd (never pass e);
    };
    targeted = record {
      targeted = λ unit is. absurd (free-target (sym (ap (λ (x : DataUnit). x.state) (fresh unit is.is_unit)) ∙ is.stands));
      lanes = λ unit lane e. absurd (no-target (slot_of lane) unit e);
      own = λ unit lane spot x e. absurd (no-target (slot_of lane) unit e);
    };
    copied = λ pass e. absurd (never pass e);
    gains = λ pass e. absurd (never pass e);
  }

  pub fresh-joined : AreJoined t
  fresh-joined = record {
    cut = record {
      passes = ap length h.passes ∙ length-replicate g.groups (no_targets g.unit_pages) ∙ sym groups;
      groups = h.handle_groups ∙ sym groups;
      unit_pages = h.handle_pages ∙ sym pages;
      owners = record {
        unit_pages = h.owner_pages ∙ sym pages;
        pages = h.all_pages ∙ sym (ap (λ (k : Cut). k.groups * k.group_units * k.unit_pages) h.cut);
      };
      some_page = omega (arith, pages, valid.unit_pages.0);
      some_handle = subst (λ (c : List Class). 1 ≤ length c) (sym h.classes_are) some;
      few_handles = subst (λ (c : List Class). length c ≤ 16) (sym h.classes_are) few;
    };
    sound = λ unit is. subst (λ (x : DataUnit). IsSound t.units.unit_pages x) (sym (fresh unit is)) (free-sound t.units.unit_pages (omega (arith, pages, valid.unit_pages.0)));
    live = live;
    lanes = lanes;
    filled = filled;
    groups = λ rg is. subst (λ (p : GroupPasses). IsRelocating (record { passes = p; units = t.units }) t.owners t.handles.classes rg) (sym (passes-are rg is)) (at-rest rg);
  }
