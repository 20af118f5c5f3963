-- What a step keeps apart, by what it does to the tables and to the cells.
use Rattle.std.proofs.Common.{◌≡◌, ◌≢◌, ◌⊎◌, ℕ, ◌+◌, false, List, [], ◌++◌, Some, None, sym, ◌∙◌, ap, arith, inl, inr, subst, ⊎_elim}
use Rattle.std.specs.Prelude.{IsTrue, slice_index_or}
use Rattle.std.specs.List.{list_any}
use Rattle.std.proofs.lemmas.Bool.{cases_eq}
use Rattle.fdp_base.specs.declared.config.Class.{Class}
use Rattle.fdp_base.specs.declared.config.DriveConfig.{DriveConfig}
use Rattle.fdp_base.specs.declared.entry.Entry.{Entry}
use Rattle.fdp_base.specs.declared.entry.Spot.{Spot}
use Rattle.fdp_base.specs.EntryKinds.{puts_into}
use Rattle.fdp_book.specs.Book.{BookSeen, IsLonger, state_in}
use Rattle.fdp_flash.specs.declared.cell.Cell.{Cell}
use Rattle.fdp_handles.specs.HandleTable.{HandleTable, blank, reference_at}
use Rattle.fdp_image.specs.Isolation.{EachPage}
use Rattle.fdp_isolation.specs.Isolated.{since_setting}
use Rattle.fdp_isolation.specs.Laned.{AreLaned, IsKeptApart, IsLaned, IsTaken, lane_by}
use Rattle.fdp_isolation.proofs.Entries.{IsQuietStep, no, put-before, since-longer}
use Rattle.fdp_isolation.proofs.Pages.{KeepsPages, each-both, each-kept}
use Rattle.fdp_owners.specs.declared.owner.Owner.{Owner}
use Rattle.fdp_owners.specs.OwnerTable.{owner_at}
use Rattle.fdp_book.specs.fdp_pages.PageTables.{PageTables, no_passes, passes_at, unit_of}
use Rattle.fdp_book.specs.fdp_pages.Steps.{ChangesOwners, LeavesUnits, SetsClasses}
use Rattle.fdp_passes.specs.declared.lane.Lane.{Lane}
use Rattle.fdp_passes.specs.GroupPasses.{GroupPasses, target_at}
use Rattle.fdp_rules.specs.PlainState.{Reference}
use Rattle.fdp_rules.specs.Sites.{group_of}
use Rattle.fdp_rules.specs.Step.{IsDataUnit}

pub nothing : (unit : ℕ) → None ≡ Some unit → ⊥
nothing unit e = cc

-- no further unit is filled by a handle, or gets copies
pub record FillsNoMore (t now : PageTables) : Type 0 where
  pub classes : now.handles.classes ≡ t.handles.classes
  pub filled : (rg ruh unit : ℕ) → unit_of now rg ruh ≡ Some unit → unit_of t rg ruh ≡ Some unit
  pub targets : (rg unit : ℕ) (lane : Lane) → target_at (passes_at now rg) lane ≡ Some unit → target_at (passes_at t rg) lane ≡ Some unit

-- where only owners change
pub owners-fill : (t now : PageTables) → ChangesOwners t now → FillsNoMore t now
owners-fill t now h = record {
  classes = ap (λ (x : HandleTable). x.classes) h.handles;
  filled = λ rg ruh unit e. ap (λ (x : HandleTable). (reference_at x rg ruh).unit) (sym h.handles) ∙ e;
  targets = λ rg unit lane e. ap (λ (xs : List GroupPasses). target_at (slice_index_or xs rg no_passes) lane) (sym h.passes) ∙ e;
}

-- where units are left, and the classes stay
pub left-fill : (t now : PageTables) → LeavesUnits t now → now.handles.classes ≡ t.handles.classes → FillsNoMore t now
left-fill t now h classes = record {
  classes = classes;
  filled = λ rg ruh unit e. ⊎_elim
      (λ (same : reference_at now.handles rg ruh ≡ reference_at t.handles rg ruh). ap (λ (x : Reference). x.unit) (sym same) ∙ e)
      (λ (none : reference_at now.handles rg ruh ≡ blank t.units.unit_pages). absurd (nothing unit (ap (λ (x : Reference). x.unit) (sym none) ∙ e)))
      (h.handles rg ruh);
  targets = λ rg unit lane e. ⊎_elim
      (λ (same : target_at (passes_at now rg) lane ≡ target_at (passes_at t rg) lane). sym same ∙ e)
      (λ (none : target_at (passes_at now rg) lane ≡ None). absurd (nothing unit (sym none ∙ e)))
      (h.targets rg lane);
}

-- no unit is filled by a handle, or gets copies
pub record FillsNone (t : PageTables) : Type 0 where
  pub filled : (rg ruh : ℕ) → unit_of t rg ruh ≡ None
  pub targets : (rg : ℕ) (lane : Lane) → target_at (passes_at t rg) lane ≡ None

-- so it is where handles of other classes come in force
pub set-none : (t now : PageTables) (classes : List Class) → SetsClasses t now classes → FillsNone now
set-none t now classes h = record { filled = λ rg ruh. ap (λ (x : Reference). x.unit) (h.references rg ruh); targets = h.targets }

-- no further unit is taken
abbrev pub TakesNoMore : PageTables → PageTables → List Entry → List Entry → Type 0
TakesNoMore t now run later = (unit : ℕ) → IsTaken now later unit → IsTaken t run unit

-- a unit is kept apart still
apart-kept : (c : DriveConfig) (generation : ℕ) (classes : List Class) (old new : List Cell) (unit : ℕ) (was is : Type 0) → KeepsPages c old new unit → (is → was) → IsKeptApart c generation classes old unit was → IsKeptApart c generation classes new unit is
apart-kept c generation classes old new unit was is keeps taken h = record {
  group = record { generation = h.group.generation; pages = each-kept c unit old new _ keeps h.group.pages };
  past = λ yes. h.past (taken yes);
  way = λ yes force. let way = h.way (taken yes) force in (way.0, each-kept c unit old new _ keeps way.1);
}

module _ (c : DriveConfig) (generation : ℕ) (run later es more : List Entry) (t now : PageTables) (old new : List Cell) where
  -- ---- no page is put

  pub laned-kept : FillsNoMore t now → TakesNoMore t now run later → ((unit : ℕ) → IsDataUnit c unit → KeepsPages c old new unit) → ((unit : ℕ) → IsTrue (list_any (puts_into unit) more) → IsTrue (list_any (puts_into unit) es))
      → IsLaned c generation run es t old → IsLaned c generation later more now new
  laned-kept fills taken keeps puts h = record {
    units = λ unit is.
        subst (λ (classes : List Class). IsKeptApart c generation classes new unit (IsTaken now later unit)) (sym fills.classes)
        (apart-kept c generation t.handles.classes old new unit (IsTaken t run unit) (IsTaken now later unit) (keeps unit is) (taken unit) (h.units unit is));
    filled = λ rg ruh unit is e. each-kept c unit old new _ (keeps unit is) (h.filled rg ruh unit is (fills.filled rg ruh unit e));
    targets = λ rg unit lane is e.
        each-kept c unit old new _ (keeps unit is) (subst (λ (classes : List Class). EachPage c old unit (λ x. (x.generation ≡ generation) × (lane_by classes x ≡ lane))) (sym fills.classes) (h.targets rg unit lane is (fills.targets rg unit lane e)));
    put = λ unit is put. each-kept c unit old new _ (keeps unit is) (h.put unit is (puts unit put));
  }

-- ---- another configuration comes in force

-- the next generation comes in force where nothing is filled: what a unit had names one before
pub laned-renewed : (c : DriveConfig) (generation : ℕ) (run later es : List Entry) (t now : PageTables) (cells : List Cell) → FillsNone now → TakesNoMore t now run later → IsLaned c generation run es t cells → IsLaned c (generation + 1) later [] now cells
laned-renewed c generation run later es t now cells none taken h = record {
  units = λ unit is.
      let was = h.units unit is in
      record {
        group = was.group;
        past = λ yes. let low = was.past (taken unit yes) in omega (arith, low);
        way = λ yes force. let low = was.past (taken unit yes) in absurd (omega (arith, low, force));
      };
  filled = λ rg ruh unit is e. absurd (nothing unit (sym (none.filled rg ruh) ∙ e));
  targets = λ rg unit lane is e. absurd (nothing unit (sym (none.targets rg lane) ∙ e));
  put = λ unit is put. absurd (no (sym put));
}

-- ---- a page is put into a unit at most

-- the pages of a unit name its group and the generation in force, and go one way
abbrev pub GoesWay : DriveConfig → ℕ → List Class → List Cell → ℕ → Lane → Type 0
GoesWay c generation classes cells unit lane = EachPage c cells unit (λ x. (x.rg ≡ group_of c unit) × (x.generation ≡ generation) × (lane_by classes x ≡ lane))

-- no further unit but this one is filled by a handle, or gets copies; if a handle fills this one its pages name the handle, and if it is
-- a target it is that of this lane
pub record FillsUnit (c : DriveConfig) (t now : PageTables) (cells : List Cell) (unit : ℕ) (lane : Lane) : Type 0 where
  pub classes : now.handles.classes ≡ t.handles.classes
  pub filled : (rg ruh other : ℕ) → unit_of now rg ruh ≡ Some other → other ≢ unit → unit_of t rg ruh ≡ Some other
  pub filled_here : (rg ruh : ℕ) → unit_of now rg ruh ≡ Some unit → EachPage c cells unit (λ x. x.ruh ≡ ruh)
  pub targets : (rg other : ℕ) (way : Lane) → target_at (passes_at now rg) way ≡ Some other → other ≢ unit → target_at (passes_at t rg) way ≡ Some other
  pub targets_here : (rg : ℕ) (way : Lane) → target_at (passes_at now rg) way ≡ Some unit → way ≡ lane

module _ (c : DriveConfig) (generation : ℕ) (run later es more : List Entry) (t now : PageTables) (old new : List Cell) (unit : ℕ) (lane : Lane) where
  pub laned-got : FillsUnit c t now new unit lane → ((other : ℕ) → other ≢ unit → IsTaken now later other → IsTaken t run other) → ((other : ℕ) → other ≢ unit → KeepsPages c old new other) → GoesWay c generation t.handles.classes new unit lane
      → ((other : ℕ) → IsTrue (list_any (puts_into other) more) → IsTrue (list_any (puts_into other) es) ⊎ (other ≡ unit))
      → IsLaned c generation run es t old → IsLaned c generation later more now new
  laned-got fills taken keeps way puts h = record {
    units = λ other is. subst (λ (classes : List Class). IsKeptApart c generation classes new other (IsTaken now later other)) (sym fills.classes) (⊎_elim
        (λ (same : other ≡ unit). subst (λ (u : ℕ). IsKeptApart c generation t.handles.classes new u (IsTaken now later u)) (sym same) here)
        (λ (ne : other ≢ unit). apart-kept c generation t.handles.classes old new other (IsTaken t run other) (IsTaken now later other) (keeps other ne) (taken other ne) (h.units other is))
        (cases_eq other unit));
    filled = λ rg ruh other is e. ⊎_elim
        (λ (same : other ≡ unit). subst (λ (u : ℕ). EachPage c new u (λ x. (x.generation ≡ generation) × (x.ruh ≡ ruh))) (sym same)
        (each-both c unit new _ _ in-force (fills.filled_here rg ruh (e ∙ ap (λ (u : ℕ). Some u) same))))
        (λ (ne : other ≢ unit). each-kept c other old new _ (keeps other ne) (h.filled rg ruh other is (fills.filled rg ruh other e ne)))
        (cases_eq other unit);
    targets = λ rg other own is e. subst (λ (classes : List Class). EachPage c new other (λ x. (x.generation ≡ generation) × (lane_by classes x ≡ own))) (sym fills.classes) (⊎_elim
        (λ (same : other ≡ unit). subst (λ (u : ℕ). EachPage c new u (λ x. (x.generation ≡ generation) × (lane_by t.handles.classes x ≡ own))) (sym same)
        (subst (λ (l : Lane). EachPage c new unit (λ x. (x.generation ≡ generation) × (lane_by t.handles.classes x ≡ l))) (sym (fills.targets_here rg own (e ∙ ap (λ (u : ℕ). Some u) same)))
        (λ page spare bytes low e. let x = way page spare bytes low e in (x.0, x.1, (x.2.1, x.2.2)))))
        (λ (ne : other ≢ unit). each-kept c other old new _ (keeps other ne) (h.targets rg other own is (fills.targets rg other own e ne)))
        (cases_eq other unit));
    put = λ other is put. ⊎_elim
        (λ (same : other ≡ unit). subst (λ (u : ℕ). EachPage c new u (λ x. x.generation ≡ generation)) (sym same) in-force)
        (λ (ne : other ≢ unit). each-kept c other old new _ (keeps other ne) (h.put other is (⊎_elim (λ was. was) (λ (same : other ≡ unit). absurd (ne same)) (puts other put))))
        (cases_eq other unit);
  } where
    here : IsKeptApart c generation t.handles.classes new unit (IsTaken now later unit)
    here = record {
      group = record { generation = generation; pages = λ page spare bytes low e. let x = way page spare bytes low e in (x.0, x.1, (x.2.0, x.2.1)) };
      past = λ yes. omega arith;
      way = λ yes force. (lane, λ page spare bytes low e. let x = way page spare bytes low e in (x.0, x.1, x.2.2));
    }

    in-force : EachPage c new unit (λ x. x.generation ≡ generation)
    in-force page spare bytes low e = let x = way page spare bytes low e in (x.0, x.1, x.2.1)

-- ---- books

-- where each page that has an owner had one before, and no page is put, no further unit is taken
pub taken-kept : (old new : BookSeen) (es : List Entry) → IsLonger old new es → ((spot : Spot) (x : Owner) → owner_at new.pages.owners spot ≡ Some x → (y : Owner) × (owner_at old.pages.owners spot ≡ Some y)) → ((unit : ℕ) → list_any (puts_into unit) es ≡ false)
    → TakesNoMore old.pages new.pages old.entries new.entries
taken-kept old new es longer owners none unit (inl owned) = let was = owners owned.0 owned.1 owned.2 in inl (owned.0, was.0, was.1, owned.3)
taken-kept old new es longer owners none unit (inr put) = inr (put-before unit old.entries es (none unit) (subst (λ (xs : List Entry). IsTrue (list_any (puts_into unit) xs)) longer.entries_are put))

-- what is kept apart after a step
pub laned-longer : (old new : BookSeen) (es : List Entry) (cells : List Cell) → IsQuietStep old new es → IsLaned old.config (state_in old).generation new.entries (since_setting old.entries ++ es) new.pages cells → AreLaned new cells
laned-longer old new es cells step laned = record {
  laned = subst (λ (c : DriveConfig). IsLaned c (state_in new).generation new.entries (since_setting new.entries) new.pages cells) (sym step.longer.config_is)
      (subst (λ (g : ℕ). IsLaned old.config g new.entries (since_setting new.entries) new.pages cells) (sym step.generation)
      (subst (λ (xs : List Entry). IsLaned old.config (state_in old).generation new.entries xs new.pages cells) (sym (since-longer old new es step.longer step.quiet)) laned));
  placed = step.placed;
}

-- and where no page is put, and no unit is taken
pub laned-still : (old new : BookSeen) (es : List Entry) (cells now : List Cell) → IsQuietStep old new es → FillsNoMore old.pages new.pages → TakesNoMore old.pages new.pages old.entries new.entries → ((unit : ℕ) → IsDataUnit old.config unit → KeepsPages old.config cells now unit) → ((unit : ℕ) → list_any (puts_into unit) es ≡ false)
    → AreLaned old cells → AreLaned new now
laned-still old new es cells now step fills taken keeps none was =
    laned-longer old new es now step
    (laned-kept old.config (state_in old).generation old.entries new.entries (since_setting old.entries) (since_setting old.entries ++ es) old.pages new.pages cells now fills taken keeps
    (λ unit put. put-before unit (since_setting old.entries) es (none unit) put) was.laned)
