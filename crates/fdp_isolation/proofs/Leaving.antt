-- Units that had been used are left alone: by what a step does to the units that get no page.
use Rattle.std.proofs.Common.{◌≡◌, ℕ, ◌+◌, ◌*◌, ◌<◌, ◌≤◌, Bool, true, false, List, [], ◌∷◌, ◌++◌, replicate, refl, sym, ◌∙◌, ap, subst, arith, inl, inr, ⊎_elim}
use mathlib.Core.List.{append-nil}
use Rattle.std.specs.Prelude.{◌||◌, IsFalse, IsTrue, if◌then◌else◌}
use Rattle.std.specs.List.{list_any}
use Rattle.std.proofs.lemmas.List.Folds.{list_any-append}
use Rattle.std.proofs.lemmas.Nat.{mul-le, row_fits}
use Rattle.fdp_base.specs.declared.config.DriveConfig.{DriveConfig}
use Rattle.fdp_base.specs.declared.config.Geometry.{Geometry}
use Rattle.fdp_base.specs.declared.entry.Entry.{Entry}
use Rattle.fdp_base.specs.Geometry.{all_pages, all_units, data_units}
use Rattle.fdp_base.specs.Placement.{geometry_of}
use Rattle.fdp_base.specs.EntryKinds.{empties, puts_into}
use Rattle.fdp_book.specs.Book.{BookSeen, IsFirst, IsLonger}
use Rattle.fdp_flash.specs.declared.cell.Cell.{Cell}
use Rattle.fdp_flash.specs.declared.cell.Cell.TheVariants.{Blank}
use Rattle.fdp_flash.specs.Cells.{IsBlankUnit}
use Rattle.fdp_flash.specs.Layout.{first_page}
use Rattle.fdp_flash.proofs.Lists.{slice_get-replicate}
use Rattle.fdp_book.proofs.fdp_found.Paging.{blank-tested}
use Rattle.fdp_image.specs.Roomy.{is_blank_unit}
use Rattle.fdp_isolation.specs.Alone.{AreLeftAlone, IsLeftAlone, gets_none}
use Rattle.fdp_isolation.specs.Isolated.{IsWornDown, LeavesUsed, before_erase}
use Rattle.fdp_isolation.specs.Laned.{StandsOver}
use Rattle.fdp_isolation.proofs.Entries.{before-none, before-some, emptied-before, no}
use Rattle.fdp_book.specs.fdp_pages.PageTables.{PageTables}
use Rattle.fdp_rules.specs.Step.{IsDataUnit}
use Rattle.fdp_units.specs.declared.data_unit.DataUnit.{DataUnit}
use Rattle.fdp_units.specs.declared.state.UnitState.{UnitState}
use Rattle.fdp_units.specs.declared.state.UnitState.TheVariants.{Free, Referenced, Target, Closed, Retired, Aside}
use Rattle.fdp_units.specs.DataUnits.{is_free, is_lost, is_open}
use Rattle.fdp_units.specs.UnitTable.{Cut, IsUnit, state_at, unit_at}

-- ---- a step

-- a unit that gets no page gets none by these entries, and unless they erase it, it gets none further, and no page of it is programmed
pub record LeavesUnit (c : DriveConfig) (t now : PageTables) (es : List Entry) (old new : List Cell) (unit : ℕ) : Type 0 where
  pub none : list_any (puts_into unit) es ≡ false
  pub stands : list_any (empties unit) es ≡ false → IsTrue (gets_none (state_at now.units unit))
  pub worn : list_any (empties unit) es ≡ false → IsWornDown (geometry_of c) unit old new

worn-joined : (g : Geometry) (unit : ℕ) (a b d : List Cell) → IsWornDown g unit a b → IsWornDown g unit b d → IsWornDown g unit a d
worn-joined g unit a b d h k page low = ⊎_elim
    (λ same. ⊎_elim (λ was. inl (same ∙ was)) (⊎_elim (λ blank. inr (inl (same ∙ blank))) (λ torn. inr (inr (same ∙ torn)))) (h page low))
    (λ other. inr other)
    (k page low)

emptied-after : (unit : ℕ) (es more : List Entry) → list_any (empties unit) (es ++ more) ≡ false → list_any (empties unit) more ≡ false
emptied-after unit es more none = cases (list_any (empties unit) es) (sym (list_any-append (empties unit) es more) ∙ none) where
  cases : (b : Bool) → (b || list_any (empties unit) more) ≡ false → list_any (empties unit) more ≡ false
  cases true e = absurd (no e)
  cases false e = e

none-before : (unit : ℕ) (es : List Entry) → list_any (puts_into unit) es ≡ false → list_any (puts_into unit) (before_erase unit es) ≡ false
unfolding before_erase
none-before unit [] none = refl
none-before unit (e ∷ es) none =
    let first = neither (puts_into unit e) (list_any (puts_into unit) es) none in
    cases (empties unit e) (ap (λ (b : Bool). b || list_any (puts_into unit) (before_erase unit es)) first.0 ∙ none-before unit es first.1) where
      cases : (b : Bool) → list_any (puts_into unit) (e ∷ before_erase unit es) ≡ false → list_any (puts_into unit) (if b then [] else e ∷ before_erase unit es) ≡ false
      cases true h = refl
      cases false h = h

      neither : (a b : Bool) → (a || b) ≡ false → (a ≡ false) × (b ≡ false)
      neither true b e = absurd (no e)
      neither false b e = (refl, e)

still-none : (unit : ℕ) (es more : List Entry) → (list_any (empties unit) es ≡ false → list_any (puts_into unit) more ≡ false) → IsFalse (list_any (puts_into unit) (before_erase unit es)) → IsFalse (list_any (puts_into unit) (before_erase unit (es ++ more)))
unfolding before_erase
still-none unit es more none was = cases (list_any (empties unit) es) refl where
  before : list_any (empties unit) es ≡ false → before_erase unit es ≡ es
  before kept = ap (before_erase unit) (sym (append-nil es)) ∙ before-none unit es [] kept ∙ append-nil es

  cases : (b : Bool) → list_any (empties unit) es ≡ b → list_any (puts_into unit) (before_erase unit (es ++ more)) ≡ false
  cases true some = ap (list_any (puts_into unit)) (before-some unit es more some) ∙ was
  cases false kept =
      ap (list_any (puts_into unit)) (before-none unit es more kept)
      ∙ list_any-append (puts_into unit) es (before_erase unit more)
      ∙ ap (λ (b : Bool). b || list_any (puts_into unit) (before_erase unit more)) (ap (list_any (puts_into unit)) (sym (before kept)) ∙ was)
      ∙ none-before unit more (none kept)

module _ (c : DriveConfig) (first : List Cell) (es more : List Entry) (t now : PageTables) (old new : List Cell) (unit : ℕ) where
  pub left-alone : (IsTrue (gets_none (state_at t.units unit)) → LeavesUnit c t now more old new unit) → IsLeftAlone c first es t old unit → IsLeftAlone c first (es ++ more) now new unit
  left-alone leaves h = record {
    none = record {
      none_put = still-none unit es more (λ kept. (leaves (h.stands kept)).none) h.none.none_put;
      none_programmed = λ kept.
          let before = emptied-before unit es more kept in
          worn-joined (geometry_of c) unit first old new (h.none.none_programmed before) ((leaves (h.stands before)).worn (emptied-after unit es more kept));
    };
    stands = λ kept. let before = emptied-before unit es more kept in (leaves (h.stands before)).stands (emptied-after unit es more kept);
  }

-- over books
pub alone-step : (first : List Cell) (since : List Entry) (old new : BookSeen) (es : List Entry) (cells now : List Cell) → IsLonger old new es → ((unit : ℕ) → IsTrue (gets_none (state_at old.pages.units unit)) → LeavesUnit old.config old.pages new.pages es cells now unit)
    → AreLeftAlone first since old cells → AreLeftAlone first (since ++ es) new now
alone-step first since old new es cells now longer leaves h =
    subst (λ (c : DriveConfig). (unit : ℕ) → IsDataUnit c unit → IsFalse (is_blank_unit (geometry_of c) first unit) → IsLeftAlone c first (since ++ es) new.pages now unit) (sym longer.config_is)
    (λ unit is used. left-alone old.config first since es old.pages new.pages cells now unit (leaves unit) (h unit is used))

-- by the entries of the run, since it was opened
pub alone-run : (old new : BookSeen) (es : List Entry) (now : List Cell) → IsLonger old new es → AreLeftAlone old.opened (old.entries ++ es) new now → AreLeftAlone new.opened new.entries new now
alone-run old new es now longer h =
    subst (λ (first : List Cell). AreLeftAlone first new.entries new now) (sym longer.opened_is)
    (subst (λ (xs : List Entry). AreLeftAlone old.opened xs new now) (sym longer.entries_are) h)

-- ---- the promise

pub leaves-used : (first : List Cell) (es : List Entry) (b : BookSeen) (cells : List Cell) → AreLeftAlone first es b cells → LeavesUsed b.config first es cells
leaves-used first es b cells h unit is used = (h unit is used).none

-- ---- the moment from which on they are left alone

-- where no unit is filled by a handle or gets copies: each that is not blank is full
pub alone-first : (first : List Cell) (b : BookSeen) → StandsOver b first → ((unit : ℕ) → IsDataUnit b.config unit → IsFalse (is_open (state_at b.pages.units unit))) → AreLeftAlone first [] b first
alone-first first b kept closed unit is used = record {
  none = record { none_put = none-before unit [] refl; none_programmed = λ kept page low. inl refl };
  stands = λ kept. full (state_at b.pages.units unit) refl (closed unit is);
} where
  there : IsUnit b.pages.units unit
  there = subst (λ (k : Cut). unit < k.groups * k.group_units) (sym kept.known.units.cut) is

  full : (state : UnitState) → state_at b.pages.units unit ≡ state → IsFalse (is_open state) → gets_none state ≡ true
  full Free e h =
      let next : (unit_at b.pages.units unit).next ≡ 0 = kept.known.joined.live.unused unit (ap is_free e) in
      let blank : IsBlankUnit (geometry_of b.config) first unit = record { blank = λ page low. (kept.holds.blank unit there (ap is_lost e)).blank page (omega (arith, next)) low } in
      absurd (no (sym (blank-tested (geometry_of b.config) first unit blank) ∙ used))
  full Referenced e h = absurd (no h)
  full Target e h = absurd (no h)
  full Closed e h = refl
  full Retired e h = refl
  full Aside e h = refl

-- so it is on a fresh drive
pub alone-fresh : (c : DriveConfig) (b : BookSeen) (first : List Cell) → StandsOver b first → IsFirst c b → AreLeftAlone first [] b first
alone-fresh c b first kept fresh = alone-first first b kept (λ unit is. ap (λ (x : DataUnit). is_open x.state) (fresh.unused.units unit (subst (λ (d : DriveConfig). IsDataUnit d unit) fresh.config_is is)))

-- a unit of data of a flash without a page that was written is all blank
pub unwritten-unit : (g : Geometry) (unit : ℕ) → unit < data_units g → IsBlankUnit g (replicate (all_pages g) Blank) unit
unwritten-unit g unit low = record {
  blank = λ page below.
      let fits : first_page g unit + g.unit_pages ≤ data_units g * g.unit_pages = row_fits unit g.unit_pages (data_units g) g.unit_pages low (omega arith) in
      let all : data_units g * g.unit_pages ≤ all_units g * g.unit_pages = mul-le (data_units g) g.unit_pages (all_units g) g.unit_pages (omega arith) (omega arith) in
      slice_get-replicate (all_pages g) (first_page g unit + page) Blank (omega (arith, fits, below, all));
}

-- and it began with no unit that had been used
pub alone-unused : (c : DriveConfig) (b : BookSeen) (cells : List Cell) → IsFirst c b → AreLeftAlone b.opened b.entries b cells
alone-unused c b cells fresh unit is used =
    let blank = blank-tested (geometry_of c) (replicate (all_pages (geometry_of c)) Blank) unit (unwritten-unit (geometry_of c) unit (subst (λ (d : DriveConfig). IsDataUnit d unit) fresh.config_is is)) in
    absurd (no (sym blank ∙ ap (λ (xs : List Cell). is_blank_unit (geometry_of c) xs unit) (sym fresh.opened_is) ∙ ap (λ (d : DriveConfig). is_blank_unit (geometry_of d) b.opened unit) (sym fresh.config_is) ∙ used))

-- another book with the same pages
pub alone-alike : (first : List Cell) (es : List Entry) (b d : BookSeen) (cells : List Cell) → d.config ≡ b.config → d.pages ≡ b.pages → AreLeftAlone first es b cells → AreLeftAlone first es d cells
alone-alike first es b d cells config pages h =
    subst (λ (c : DriveConfig). (unit : ℕ) → IsDataUnit c unit → IsFalse (is_blank_unit (geometry_of c) first unit) → IsLeftAlone c first es d.pages cells unit) (sym config)
    (subst (λ (t : PageTables). (unit : ℕ) → IsDataUnit b.config unit → IsFalse (is_blank_unit (geometry_of b.config) first unit) → IsLeftAlone b.config first es t cells unit) (sym pages) h)
