-- What joins the tables, of which no page has an owner, stands where handles of other classes are in force, once no handle has a unit and
-- no lane a target.
use Rattle.std.proofs.Common.{◌≡◌, ℕ, ◌+◌, ◌<◌, ◌≤◌, List, [], Option, Some, None, refl, ap, sym, ◌∙◌, subst, arith, ⊎_elim, inl, inr, length}
use Rattle.std.specs.Prelude.{IsSome, is_some, slice_index_or}
use Rattle.std.proofs.lemmas.Bool.{cases_lt}
use Rattle.std.proofs.lemmas.List.{get_or_past}
use Rattle.fdp_base.specs.declared.config.Class.{Class}
use Rattle.fdp_base.specs.declared.entry.Spot.{Spot}
use Rattle.fdp_collector.specs.Ready.{HaveLanes}
use Rattle.fdp_handles.specs.HandleTable.{HandleTable, blank, reference_at}
use Rattle.fdp_owners.specs.declared.owner.Owner.{Owner}
use Rattle.fdp_owners.specs.OwnerTable.{OwnerTable, owner_at}
use Rattle.fdp_pages.specs.Joined.{AreFilled, AreJoined, IsRelocating}
use Rattle.fdp_pages.specs.Leaving.{LeavesGroups}
use Rattle.fdp_pages.specs.PageTables.{PageTables, no_passes, passes_at, relocation_at, unit_of}
use Rattle.fdp_pages.specs.Steps.{HasNoOwner, LeavesUnits, SetsClasses}
use Rattle.fdp_pages.proofs.Groups.{pages-of}
use Rattle.fdp_pages.proofs.Places.{never, no}
use Rattle.fdp_passes.specs.declared.lane.Lane.{Lane}
use Rattle.fdp_passes.specs.GroupPasses.{GroupPasses, slot_of, target_at}
use Rattle.fdp_rules.specs.PlainState.{Reference}
use Rattle.fdp_units.specs.declared.state.UnitState.TheVariants.{Referenced, Target}
use Rattle.fdp_units.specs.UnitTable.{Cut, IsGroup, IsUnit, UnitTable, cut_of, group_in, state_at}
use Rattle.fdp_units.proofs.Tables.{group-there}

-- no handle in force has a unit in a group that is there, and no lane a target
pub record AreLeft (t : PageTables) : Type 0 where
  pub units : (rg ruh : ℕ) → IsGroup t.units rg → ruh < length t.handles.classes → unit_of t rg ruh ≡ None
  pub targets : (rg : ℕ) (lane : Lane) → IsGroup t.units rg → target_at (passes_at t rg) lane ≡ None

-- so no row at all has a unit
pub no-unit : (t : PageTables) (rg ruh unit : ℕ) → AreJoined t → AreLeft t → unit_of t rg ruh ≡ Some unit → ⊥
no-unit t rg ruh unit was left e =
    let fills = was.filled.fills rg ruh unit e in
    let held = was.filled.filled unit fills.stands.is_unit fills.stands.stands in
    never unit (sym (left.units (group_in t.units unit) held.0 (group-there t.units unit fills.stands.is_unit) held.1) ∙ held.2)

-- and each has a whole one to come
pub row-blank : (t : PageTables) (rg ruh : ℕ) → AreJoined t → AreLeft t → reference_at t.handles rg ruh ≡ blank t.units.unit_pages
row-blank t rg ruh was left = is (reference_at t.handles rg ruh) refl where
  is : (x : Reference) → reference_at t.handles rg ruh ≡ x → x ≡ blank t.units.unit_pages
  is x e = cases x.unit refl where
    cases : (o : Option ℕ) → x.unit ≡ o → x ≡ blank t.units.unit_pages
    cases None none =
        let whole : x.left ≡ t.units.unit_pages = ap (λ (y : Reference). y.left) (sym e) ∙ was.filled.whole rg ruh (ap (λ (y : Reference). y.unit) e ∙ none) in
        λ k. record { unit = none k; left = whole k }
    cases (Some unit) some = absurd (no-unit t rg ruh unit was left (ap (λ (y : Reference). y.unit) e ∙ some))

-- no lane has a target in any group
pub no-target : (t : PageTables) (rg : ℕ) (lane : Lane) → AreJoined t → AreLeft t → target_at (passes_at t rg) lane ≡ None
no-target t rg lane was left = ⊎_elim
    (λ (low : rg < length t.units.groups). left.targets rg lane low)
    (λ (high : length t.units.groups ≤ rg). ap (λ (p : GroupPasses). target_at p lane) (get_or_past t.passes rg no_passes (omega (arith, high, was.cut.passes))) ∙ get_or_past [] (slot_of lane) none (omega arith))
    (cases_lt rg (length t.units.groups)) where
      none : Option ℕ
      none = None

-- the tables with handles of these classes
abbrev pub with_classes : PageTables → List Class → PageTables
with_classes t classes = record t { handles = record t.handles { classes = classes } }

module _ (t : PageTables) (classes : List Class) (some : 1 ≤ length classes) (few : length classes ≤ 16) (was : AreJoined t) (unowned : HasNoOwner t) (left : AreLeft t) where
  unowns : (spot : Spot) (x : Owner) → owner_at t.owners spot ≡ Some x → ⊥
  unowns spot x e = never x (sym (unowned spot) ∙ e)

  lanes : HaveLanes classes t.owners
  lanes = record {
    few = few;
    handles = λ spot x e. absurd (unowns spot x e);
    same = λ spot other x y same e f. absurd (unowns spot x e);
  }

  filled : AreFilled (record t.handles { classes = classes }) t.units t.owners
  filled = record {
    whole = was.filled.whole;
    fills = λ rg ruh unit e. absurd (no-unit t rg ruh unit was left e);
    apart = was.filled.apart;
    filled = λ unit is stands.
        let held = was.filled.filled unit is stands in
        absurd (no-unit t (group_in t.units unit) held.0 unit was left held.2);
  }

  group : (rg : ℕ) → IsGroup t.units rg → IsRelocating (relocation_at t rg) t.owners classes rg
  group rg is =
      let old = was.groups rg is in
      record {
        ready = record {
          cut = old.ready.cut;
          victim = old.ready.victim;
          copied = old.ready.copied;
          targets = old.ready.targets;
          live = old.ready.live;
          lanes = lanes;
          enough = λ pass page x under low owned. absurd (unowns (record { unit = pass.victim; page = page }) x owned);
        };
        targeted = record {
          targeted = λ unit own. old.targeted.targeted unit own;
          lanes = λ unit lane e. absurd (never unit (sym (left.targets rg lane is) ∙ e));
          own = λ unit lane spot x e same owned. absurd (unowns spot x owned);
        };
        copied = λ pass under.
            let copies = old.copied pass under in
            record {
              lie = copies.lie;
              ascend = copies.ascend;
              differ = copies.differ;
              filled = record {
                first = copies.filled.first;
                last = copies.filled.last;
                first_unit = copies.filled.first_unit;
                last_unit = copies.filled.last_unit;
                split = copies.filled.split;
                first_lie = copies.filled.first_lie;
                last_lie = copies.filled.last_lie;
                one = copies.filled.one;
                goes_on = λ page unit x owned. absurd (unowns (record { unit = pass.victim; page = page }) x owned);
              };
              await = λ copy x in_copies owned. absurd (unowns copy.from x owned);
            };
        gains = old.gains;
      }

  pub classed-joined : AreJoined (with_classes t classes)
  classed-joined = record {
    cut = record {
      passes = was.cut.passes;
      groups = was.cut.groups;
      unit_pages = was.cut.unit_pages;
      owners = was.cut.owners;
      some_page = was.cut.some_page;
      some_handle = some;
      few_handles = few;
    };
    sound = was.sound;
    live = was.live;
    lanes = lanes;
    filled = filled;
    groups = group;
  }

-- ---- from the first handle to the last

pub left-groups : (t now : PageTables) → LeavesGroups t now (length t.units.groups) → AreLeft now
left-groups t now h =
    let same : length now.units.groups ≡ length t.units.groups = ap (λ (k : Cut). k.groups) h.leaves.cut in
    record {
      units = λ rg ruh is low. h.units rg ruh (omega (arith, is, same)) (subst (λ (x : HandleTable). ruh < length x.classes) h.rest low);
      targets = λ rg lane is. h.targets rg lane (omega (arith, is, same));
    }

pub unowned-left : (t now : PageTables) → LeavesUnits t now → HasNoOwner t → HasNoOwner now
unowned-left t now h unowned spot = ap (λ (o : OwnerTable). owner_at o spot) h.owners ∙ unowned spot

pub sets-classes : (t now : PageTables) (classes : List Class) → AreJoined now → LeavesGroups t now (length t.units.groups) → SetsClasses t (with_classes now classes) classes
sets-classes t now classes joined h =
    let left = left-groups t now h in
    let pages : now.units.unit_pages ≡ t.units.unit_pages = pages-of t.units now.units h.leaves.cut in
    record {
      leaves = record {
        owners = h.leaves.owners;
        cut = h.leaves.cut;
        units = h.leaves.units;
        worn = h.leaves.worn;
        handles = h.leaves.handles;
        passes = h.leaves.passes;
        targets = h.leaves.targets;
      };
      references = λ rg ruh. row-blank now rg ruh joined left ∙ ap blank pages;
      handles = ap (λ (x : HandleTable). record x { classes = classes }) h.rest;
      targets = λ rg lane. no-target now rg lane joined left;
    }

-- ---- by the parts of the tables

-- the tables after the classes became others
pub record AreClassed (old t : PageTables) (classes : List Class) : Type 0 where
  pub joined : AreJoined t
  pub sets : SetsClasses old t classes

pub classed-by : (old now t : PageTables) (classes : List Class) (h : HandleTable) → t ≡ now → AreJoined t → 1 ≤ length classes → length classes ≤ 16 → HasNoOwner old → LeavesGroups old now (length old.units.groups) → h ≡ record t.handles { classes = classes } → AreClassed old (record t { handles = h }) classes
classed-by old now t classes h view was some few unowned leaves is =
    let all : LeavesGroups old t (length old.units.groups) = subst (λ (x : PageTables). LeavesGroups old x (length old.units.groups)) (sym view) leaves in
    subst (λ (x : HandleTable). AreClassed old (record t { handles = x }) classes) (sym is)
    (record {
      joined = classed-joined t classes some few was (unowned-left old t all.leaves unowned) (left-groups old t all);
      sets = sets-classes old t classes was all;
    })
