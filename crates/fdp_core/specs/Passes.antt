-- A relocation pass within a step.
use Rattle.std.specs.Prelude.{◌≡◌, ◌⊎◌, ℕ, ◌+◌, ◌-◌, ◌≤◌, ◌<◌, IsTrue, if◌then◌else◌, false, true, List, [], ◌∷◌, ◌++◌, None}
use Rattle.std.specs.List.{list_any}
use Rattle.fdp_base.specs.declared.entry.Entry.{Entry}
use Rattle.fdp_base.specs.declared.entry.Entry.TheVariants as entries
use Rattle.fdp_relocation.specs.fdp_book.Book.{BookSeen, state_in}
use Rattle.fdp_calls.specs.Calls.{has_failed}
use Rattle.fdp_relocation.specs.fdp_collector.Step.{IsUncalled}
use Rattle.fdp_core.specs.declared.group.pass.PassEnd.{PassEnd}
use Rattle.fdp_core.specs.declared.group.pass.PassEnd.TheVariants as ends
use Rattle.fdp_core.specs.Seen.{Seen}
use Rattle.fdp_core.specs.Steps.{Extends}
use Rattle.fdp_flash.specs.FlashState.{Call, FlashState}
use Rattle.fdp_loading.specs.fdp_ledger.WornOut.{IsWornOut}
use Rattle.fdp_relocation.specs.fdp_pages.PageTables.{copies_at, is_under_way, passes_at}
use Rattle.fdp_passes.specs.Due.{next_in}
use Rattle.fdp_relocation.specs.Entries.{AreRelocationIn, KeepsState}
use Rattle.fdp_relocation.specs.Toil.{wanted_at, work}
use Rattle.fdp_relocation.specs.fdp_saving.Calls.{FailAtEnd}
use Rattle.fdp_units.specs.DataUnits.{is_free}
use Rattle.fdp_units.specs.UnitTable.{HasNoVictim, count_in, toil_of}
use Rattle.fdp_relocation.specs.fdp_book.declared.log.TheConstants.{MOST_STEP_ENTRIES}

-- no pass is under way in a group, and none would gain a page
pub record HasNoPass (b : BookSeen) (rg : ℕ) : Type 0 where
  pub none : (passes_at b.pages rg).pass ≡ None
  pub gains : HasNoVictim b.pages.units rg

-- steps of relocation in a group
pub record Relocates {F : Type 0} (state : F → FlashState) (old new : Seen F) (rg : ℕ) (es : List Entry) (calls : List Call) : Type 0 where
  pub extends : Extends state old new es calls
  pub inside : AreRelocationIn old.book.config rg es
  pub kept : KeepsState (state_in old.book) (state_in new.book)

-- a pass, or the rest of the one under way, was made: no call failed, its victim was erased, and the toil of the group is lower
pub record MakesPass {F : Type 0} (state : F → FlashState) (old new : Seen F) (rg : ℕ) : Type 0 where
  pub before : List Entry
  pub unit : ℕ
  pub calls : List Call
  pub relocates : Relocates state old new rg (before ++ entries.Erased (record { unit = unit }) ∷ []) calls
  pub well : list_any has_failed calls ≡ false
  pub toil : toil_of new.book.pages.units rg < toil_of old.book.pages.units rg

-- no pass is possible, and nothing was done
pub record MakesNone {F : Type 0} (state : F → FlashState) (old new : Seen F) (rg : ℕ) : Type 0 where
  pub none : HasNoPass old.book rg
  pub relocates : Relocates state old new rg [] []
  pub pages : new.book.pages ≡ old.book.pages
  pub flash : IsUncalled (state old.flash) (state new.flash)

-- no unit is free for the next copy of a pass: the group is worn, and the pass given up; no call failed, and the step may add an entry
pub record Starves {F : Type 0} (state : F → FlashState) (old new : Seen F) (rg : ℕ) : Type 0 where
  pub before : List Entry
  pub calls : List Call
  pub relocates : Relocates state old new rg (before ++ entries.Worn (record { rg = rg }) ∷ []) calls
  pub well : list_any has_failed calls ≡ false
  pub worn : IsWornOut new.handed (state new.flash) (state_in new.book).is_lost rg
  pub room : 0 < new.book.room

-- a call of a pass failed, the last one; the step may add an entry
pub record FailsInPass {F : Type 0} (state : F → FlashState) (old new : Seen F) (rg : ℕ) : Type 0 where
  pub es : List Entry
  pub calls : List Call
  pub relocates : Relocates state old new rg es calls
  pub fails : FailAtEnd calls
  pub room : 0 < new.book.room

-- how a pass within a step ends
abbrev pub EndsPass : {F : Type 0} → (F → FlashState) → Seen F → Seen F → ℕ → PassEnd → Type 0
EndsPass state old new rg ends.Made = MakesPass state old new rg
EndsPass state old new rg ends.Nothing = MakesNone state old new rg
EndsPass state old new rg ends.Starved = Starves state old new rg
EndsPass state old new rg ends.Fault = FailsInPass state old new rg

-- ---- what a pass needs, and what is left of it

-- how many entries a pass under way may still add beside that of its erase: a copy of each page that it has not looked at, and a move
abbrev pub left_in : BookSeen → ℕ → ℕ
left_in b rg = (b.config.unit_pages - next_in (passes_at b.pages rg)) + (if b.may_move then 1 else 0)

-- a step that has added nothing may make a pass in a group that is short of free units
pub record MayBeginPass (b : BookSeen) (rg : ℕ) : Type 0 where
  pub group : rg < b.config.groups
  pub room : b.room ≡ MOST_STEP_ENTRIES
  pub may_move : b.may_move ≡ true
  pub short : count_in b.pages.units rg is_free < 3

-- a pass that is under way may be ended: there is room for its entries, and it may move its copies or has none to move nor to make
pub record MayEndPass (b : BookSeen) (rg : ℕ) : Type 0 where
  pub group : rg < b.config.groups
  pub under_way : IsTrue (is_under_way b.pages rg)
  pub room : left_in b rg + 1 < b.room
  pub moves : (b.may_move ≡ true) ⊎ ((copies_at b.pages rg ≡ []) × (wanted_at b.pages rg ≡ 0))

-- the rest of a pass was made: the toil of the group is lower than the work that stood before it
pub record MakesRest {F : Type 0} (state : F → FlashState) (old new : Seen F) (rg : ℕ) : Type 0 where
  pub before : List Entry
  pub unit : ℕ
  pub calls : List Call
  pub relocates : Relocates state old new rg (before ++ entries.Erased (record { unit = unit }) ∷ []) calls
  pub well : list_any has_failed calls ≡ false
  pub toil : toil_of new.book.pages.units rg + old.book.config.unit_pages ≤ work old.book.pages rg

-- how the rest of a pass ends
abbrev pub EndsRest : {F : Type 0} → (F → FlashState) → Seen F → Seen F → ℕ → PassEnd → Type 0
EndsRest state old new rg ends.Made = MakesRest state old new rg
EndsRest state old new rg ends.Nothing = ⊥
EndsRest state old new rg ends.Starved = Starves state old new rg
EndsRest state old new rg ends.Fault = FailsInPass state old new rg
