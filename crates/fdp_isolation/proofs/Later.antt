-- Isolation as a later history says it: of cells as they were before a step.
use Rattle.std.proofs.Common.{◌≡◌, ℕ, ◌<◌, Bool, true, false, IsTrue, List, [], ◌∷◌, ◌++◌, Some, refl, sym, ◌∙◌, ap, subst, inl, inr, ⊎_elim}
use Rattle.std.specs.Prelude.{◌||◌, slice_get}
use Rattle.std.specs.List.{list_any}
use Rattle.fdp_base.specs.declared.config.DriveConfig.{DriveConfig}
use Rattle.fdp_base.specs.declared.entry.Copied.{Copied}
use Rattle.fdp_base.specs.declared.entry.Entry.{Entry}
use Rattle.fdp_base.specs.declared.entry.Entry.TheVariants as entries
use Rattle.fdp_base.specs.declared.entry.Spot.{Spot}
use Rattle.fdp_base.specs.EntryKinds.{puts_into}
use Rattle.fdp_base.specs.Placement.{classes_of, geometry_of}
use Rattle.fdp_base.specs.Spare.{data_spare}
use Rattle.fdp_book.specs.Book.{BookSeen, IsLonger, point_in, state_in}
use Rattle.fdp_book.specs.Relocating.{Relocates}
use Rattle.fdp_book.specs.fdp_collector.declared.step.Lost.TheVariants as lost
use Rattle.fdp_book.specs.fdp_collector.declared.step.Step.{Step}
use Rattle.fdp_book.specs.fdp_collector.declared.step.Step.TheVariants as steps
use Rattle.fdp_book.specs.fdp_collector.Copying.{Copies}
use Rattle.fdp_book.specs.fdp_collector.Step.{IsCopyStep}
use Rattle.fdp_book.specs.fdp_pages.PageTables.{PageTables, relocation_at}
use Rattle.fdp_book.proofs.Longer.{state-as, state-self}
use Rattle.fdp_book.proofs.fdp_locations.Copying.{copy-free}
use Rattle.fdp_flash.specs.declared.answer.Wrote.{Wrote}
use Rattle.fdp_flash.specs.declared.answer.Wrote.TheVariants as wrote
use Rattle.fdp_flash.specs.declared.cell.Cell.{Cell}
use Rattle.fdp_flash.specs.declared.cell.Cell.TheVariants.{Blank, Whole}
use Rattle.fdp_flash.specs.Cells.{ProgramMayLeave}
use Rattle.fdp_flash.specs.FlashState.{FlashState}
use Rattle.fdp_flash.specs.Layout.{page_number}
use Rattle.fdp_flash.proofs.Lists.{slice_get-set_other}
use Rattle.fdp_image.specs.Roomy.{page_in}
use Rattle.fdp_image.specs.Saving.{SameDataPages}
use Rattle.fdp_isolation.specs.Isolated.{IsIsolatedDrive, has_live, is_in_use, sets_placement, since_setting}
use Rattle.fdp_isolation.specs.Laned.{AreLaned, IsKnown, StandsOver}
use Rattle.fdp_isolation.specs.Stays.{IsSameSetting, StaysIsolated}
use Rattle.fdp_isolation.proofs.Entries.{IsQuietStep, or-true, put-before, quiet-one, since-longer}
use Rattle.fdp_isolation.proofs.Generations.{beginning-setting}
use Rattle.fdp_isolation.proofs.Keeping.{GoesWay}
use Rattle.fdp_isolation.proofs.Promised.{isolated}
use Rattle.fdp_isolation.proofs.Relocated.{program-left}
use Rattle.fdp_isolation.proofs.Stopped.{LeavesApart, PutsNone, isolated-as, left-isolated, none-saved}
use Rattle.fdp_book.specs.fdp_locations.Located.{next_in}
use Rattle.fdp_owners.specs.declared.owner.Owner.{Owner}
use Rattle.fdp_owners.specs.Owned.{page_of}
use Rattle.fdp_owners.specs.OwnerTable.{OwnerTable, owner_at, pointer_of}
use Rattle.fdp_pointers.specs.Facts.{HasOnlyPlaced}
use Rattle.fdp_pointers.proofs.Live.{live-is}
use Rattle.fdp_pointers.proofs.Rows.{or-cases}
use Rattle.fdp_rules.specs.History.{state_of}
use Rattle.fdp_rules.specs.PlainState.{PlainState}
use Rattle.fdp_rules.specs.Sites.{is_live}
use Rattle.fdp_rules.specs.Step.{Follows}

-- ---- settings

pub setting-same : (a : PlainState) → IsSameSetting a a
setting-same a = record { enabled = refl; index = refl; generation = refl }

pub setting-joined : (a b c : PlainState) → IsSameSetting a b → IsSameSetting b c → IsSameSetting a c
setting-joined a b c p q = record { enabled = q.enabled ∙ p.enabled; index = q.index ∙ p.index; generation = q.generation ∙ p.generation }

pub setting-back : (a b : PlainState) → IsSameSetting a b → IsSameSetting b a
setting-back a b p = record { enabled = sym p.enabled; index = sym p.index; generation = sym p.generation }

-- a history that goes on with the same generation has the same setting in force
pub setting-later : (old new : BookSeen) (es : List Entry) → IsLonger old new es → (state_in new).generation ≡ (state_in old).generation → IsSameSetting (state_in old) (state_in new)
setting-later old new es longer same =
    let before : state_in old ≡ state_of old.config old.found old.entries = state-self old in
    let behind : state_in new ≡ state_of old.config old.found (old.entries ++ es) = state-as old new es longer in
    let equal : (state_of old.config old.found old.entries).generation ≡ (state_of old.config old.found (old.entries ++ es)).generation =
    ap (λ (s : PlainState). s.generation) (sym before) ∙ sym same ∙ ap (λ (s : PlainState). s.generation) behind in
    subst (λ (s : PlainState). IsSameSetting s (state_in new)) (sym before)
    (subst (IsSameSetting (state_of old.config old.found old.entries)) (sym behind) (beginning-setting old.config old.found (old.entries ++ es) old.entries es (record { split = refl }) equal))

-- ---- what a call leaves

left-as : (c : DriveConfig) (s now : PlainState) (old new : List Cell) → IsSameSetting s now → LeavesApart c s old new → LeavesApart c now old new
left-as c s now old new same (inl none) = inl none
left-as c s now old new same (inr one) = inr (record {
  unit = one.unit;
  classes = one.classes;
  lane = one.lane;
  in_force = in-force same.enabled same.index ∙ one.in_force;
  others = one.others;
  way = subst (λ (generation : ℕ). GoesWay c generation one.classes new one.unit one.lane) (sym same.generation) one.way;
}) where
  in-force : now.enabled ≡ s.enabled → now.index ≡ s.index → classes_of c now.enabled now.index ≡ classes_of c s.enabled s.index
  in-force enabled index = λ i. classes_of c (enabled i) (index i)

-- what puts no page that would bring together what is kept apart leaves isolated what was
pub left-stays : (c : DriveConfig) (s : PlainState) (old new : List Cell) → LeavesApart c s old new → StaysIsolated c s old new
left-stays c s old new left p es same h = left-isolated c p es old new (left-as c s p.state old new same left) h

pub stays-saved : (c : DriveConfig) (s : PlainState) (old new : List Cell) → SameDataPages c old new → StaysIsolated c s old new
stays-saved c s old new same = left-stays c s old new (inl (none-saved c old new same))

-- cells with the same data pages are isolated alike
pub stays-before : (c : DriveConfig) (s : PlainState) (old new : List Cell) → SameDataPages c old new → StaysIsolated c s new old
stays-before c s old new same = stays-saved c s new old (λ page low. sym (same page low))

-- each page that was whole before the program of a blank one is so behind it
pub program-keeps : (c : DriveConfig) (old new : List Cell) (spot : Spot) (spare bytes : List ℕ) → slice_get old (page_number (geometry_of c) spot) ≡ Some Blank → ProgramMayLeave (geometry_of c) old spot spare bytes new → PutsNone c new old
program-keeps c old new spot spare bytes blank left unit is page other content low whole =
    ap (λ (cells : List Cell). slice_get cells (page_number (geometry_of c) (page_in unit page))) left.cells
    ∙ slice_get-set_other old (page_number (geometry_of c) spot) (page_number (geometry_of c) (page_in unit page)) left.cell
    (λ (same : page_number (geometry_of c) (page_in unit page) ≡ page_number (geometry_of c) spot). blank-whole (sym blank ∙ ap (slice_get old) (sym same) ∙ whole))
    ∙ whole
  where
    blank-whole : Some Blank ≡ Some (Whole other content) → ⊥
    blank-whole e = cc

-- ---- entries that put no page

any-weaker : {X : Type 0} (p q : X → Bool) (xs : List X) → ((x : X) → p x ≡ true → q x ≡ true) → list_any p xs ≡ true → list_any q xs ≡ true
any-weaker p q [] h e = e
any-weaker p q (x ∷ xs) h e = ⊎_elim
    (λ (here : p x ≡ true). ap (λ (b : Bool). b || list_any q xs) (h x here))
    (λ (later : list_any p xs ≡ true). or-true (q x) (list_any q xs) (any-weaker p q xs h later))
    (or-cases (p x) (list_any p xs) e)

-- no unit comes into use by them, where no page gets an owner
module _ (old new : BookSeen) (es : List Entry) (known : IsKnown old) (then_known : IsKnown new) (placed : HasOnlyPlaced (point_in old)) (step : IsQuietStep old new es) (none : (unit : ℕ) → list_any (puts_into unit) es ≡ false)
    (owned : (spot : Spot) (x : Owner) → owner_at new.pages.owners spot ≡ Some x → (y : Owner) × (owner_at old.pages.owners spot ≡ Some y)) where
  live-before : (spot : Spot) → is_live new.config (point_in new) spot ≡ true → is_live old.config (point_in old) spot ≡ true
  live-before spot live =
      let to = (live-is new.config (point_in new) (next_in new.pages.units) then_known.led.at then_known.orderly.state then_known.led.led.table step.placed spot).0 live in
      let owner = then_known.led.led.owned.owned to.0 to.1 to.2 in
      let was = owned spot owner.owner (ap (owner_at new.pages.owners) (sym to.3) ∙ owner.is_owner) in
      (live-is old.config (point_in old) (next_in old.pages.units) known.led.at known.orderly.state known.led.led.table placed spot).1 (pointer_of was.0, page_of spot was.0, known.led.led.owned.led spot was.0 was.1, refl)

  used-before : (unit : ℕ) → IsTrue (is_in_use old.config (point_in new) new.entries unit) → IsTrue (is_in_use old.config (point_in old) old.entries unit)
  used-before unit used = ⊎_elim
      (λ (live : has_live old.config (point_in new) unit ≡ true).
      ap (λ (b : Bool). b || list_any (puts_into unit) (since_setting old.entries)) (any-weaker _ (λ page. is_live old.config (point_in old) (page_in unit page)) _ (λ page here. live-before (page_in unit page) (subst (λ (c : DriveConfig). is_live c (point_in new) (page_in unit page) ≡ true) (sym step.longer.config_is) here)) live))
      (λ (put : list_any (puts_into unit) (since_setting new.entries) ≡ true).
      or-true (has_live old.config (point_in old) unit) (list_any (puts_into unit) (since_setting old.entries))
      (put-before unit (since_setting old.entries) es (none unit) (subst (λ (xs : List Entry). IsTrue (list_any (puts_into unit) xs)) (since-longer old new es step.longer step.quiet) put)))
      (or-cases (has_live old.config (point_in new) unit) (list_any (puts_into unit) (since_setting new.entries)) used)

  -- so what is isolated by the history before them is so by the one with them
  pub isolated-later : (cells : List Cell) → IsIsolatedDrive old.config (point_in old) old.entries cells → IsIsolatedDrive new.config (point_in new) new.entries cells
  isolated-later cells h =
      subst (λ (c : DriveConfig). IsIsolatedDrive c (point_in new) new.entries cells) (sym step.longer.config_is)
      (record { grouped = h.grouped; apart = λ unit is used. isolated-as old.config unit (state_in old) (state_in new) cells (setting-later old new es step.longer step.generation) (h.apart unit is (used-before unit used)) })

-- ---- a step of relocation

module _ (old new : BookSeen) (before after : FlashState) (rg : ℕ) (may_erase : Bool) (told : IsTrue before.told) (geometry : before.geometry ≡ geometry_of old.config) (low : rg < old.config.groups) (kept : StandsOver old before.cells) (h : AreLaned old before.cells) where
  -- each page that was whole before a copy is so behind it
  copy-keeps : (step : Step) (is : IsCopyStep old.pages.owners old.pages.handles.classes rg (relocation_at old.pages rg) (relocation_at new.pages rg) before after step) (result : Wrote) → Copies before after is.from is.to (data_spare is.owner.spare) result → PutsNone old.config after.cells before.cells
  copy-keeps step is result copies =
      let left = program-left old new before after rg may_erase told geometry low kept h is.from is.to (data_spare is.owner.spare) result copies in
      program-keeps old.config before.cells after.cells is.to (data_spare is.owner.spare) left.0
      (copy-free old.config (point_in old) old.pages rg is.from is.to is.owner is.middle kept.known.joined kept.known.units low is.due is.owned is.opened (geometry_of old.config) before.cells refl kept.holds.blank)
      left.1

  pub copied-keeps : (copy : Copied) → Relocates old new before after rg may_erase (steps.Copied copy) → PutsNone old.config after.cells before.cells
  copied-keeps copy r = copy-keeps (steps.Copied copy) r.is wrote.Done r.is.ended.2

  -- the cells before it are isolated by the history behind it: each whole page stands still, or no unit came into use
  module _ (then_known : IsKnown new) (then_isolated : IsIsolatedDrive new.config (point_in new) new.entries after.cells) where
    kept-first : new.config ≡ old.config → PutsNone old.config after.cells before.cells → IsIsolatedDrive new.config (point_in new) new.entries before.cells
    kept-first config keeps =
        subst (λ (c : DriveConfig). IsIsolatedDrive c (point_in new) new.entries before.cells) (sym config)
        (left-isolated old.config (point_in new) new.entries after.cells before.cells (inl keeps) (subst (λ (c : DriveConfig). IsIsolatedDrive c (point_in new) new.entries after.cells) config then_isolated))

    same-first : after.cells ≡ before.cells → IsIsolatedDrive new.config (point_in new) new.entries before.cells
    same-first same = subst (IsIsolatedDrive new.config (point_in new) new.entries) same then_isolated

    erased-first : (e : Entry) → IsLonger old new (e ∷ []) → sets_placement e ≡ false → ((told : Bool) → Follows told old.config (point_in old) e) → ((unit : ℕ) → list_any (puts_into unit) (e ∷ []) ≡ false) → new.pages.owners ≡ old.pages.owners → IsIsolatedDrive new.config (point_in new) new.entries before.cells
    erased-first e longer sets follows none owners =
        isolated-later old new (e ∷ []) kept.known then_known h.placed (quiet-one true old new e longer sets kept.known.orderly (follows true) h.placed) none
        (λ spot x owned. (x, ap (λ (o : OwnerTable). owner_at o spot) (sym owners) ∙ owned)) before.cells (isolated old before.cells kept h)

    pub relocated-first : (step : Step) → Relocates old new before after rg may_erase step → IsIsolatedDrive new.config (point_in new) new.entries before.cells
    relocated-first steps.Nothing r = same-first (r.is.1.flash.cells told)
    relocated-first (steps.Copied copy) r = kept-first r.longer.config_is (copied-keeps copy r)
    relocated-first steps.ReadyToMove r = same-first (r.is.1.flash.cells told)
    relocated-first (steps.Erased unit) r = erased-first (entries.Erased (record { unit = unit })) r.longer refl r.follows (λ u. refl) (ap (λ (t : PageTables). t.owners) r.rest)
    relocated-first steps.EraseDue r = same-first (r.is.2.flash.cells told)
    relocated-first steps.Starved r = same-first (r.is.flash.cells told)
    relocated-first (steps.Fault lost.None) r = kept-first r.longer.config_is (copy-keeps (steps.Fault lost.None) r.is wrote.Failed r.is.ended.1)
    relocated-first (steps.Fault (lost.Aside unit)) r = same-first (r.is.flash.read.cells told)
    relocated-first (steps.Fault (lost.Retired unit)) r = erased-first (entries.Retired (record { unit = unit })) r.longer refl r.follows (λ u. refl) (ap (λ (t : PageTables). t.owners) r.rest)
