-- What is durable stays so, under calls of data units, as units get pages, and as entries come.
use Rattle.std.proofs.Common.{◌≡◌, ℕ, ◌/◌, ◌<◌, ◌≤◌, inl, inr, Bool, true, false, IsTrue, List, [], ◌∷◌, ◌++◌, Some, refl, sym, ◌∙◌, ap, subst, arith}
use Rattle.std.specs.Prelude.{IsFalse, slice_get}
use Rattle.fdp_base.specs.declared.config.DriveConfig.{DriveConfig}
use Rattle.fdp_base.specs.declared.config.Geometry.{Geometry}
use Rattle.fdp_base.specs.declared.entry.Entry.{Entry}
use Rattle.fdp_base.specs.declared.entry.Spot.{Spot}
use Rattle.fdp_base.specs.Geometry.{data_units}
use Rattle.fdp_base.specs.Placement.{geometry_of}
use Rattle.fdp_readings.specs.fdp_collector.Copying.{IsDataPage}
use Rattle.fdp_durability.specs.Beginnings.{NamesUsed}
use Rattle.fdp_durability.specs.Durable.{IsDurable, KeepsUsed, UnitsMoveOn}
use Rattle.fdp_durability.proofs.Beginnings.{says-grown, says-in, says-less, says-stands}
use Rattle.fdp_flash.specs.declared.cell.Cell.{Cell}
use Rattle.fdp_flash.specs.declared.cell.Cell.TheVariants.{Blank}
use Rattle.fdp_flash.specs.Cells.{EraseMayLeave, ProgramMayLeave}
use Rattle.fdp_flash.specs.Layout.{page_number}
use Rattle.fdp_history.specs.Orderly.{IsOrderly}
use Rattle.fdp_history.specs.Standing.{IsStanding}
use Rattle.fdp_image.specs.Areas.{data_pages}
use Rattle.fdp_image.specs.Kept.{StandsForBeginning}
use Rattle.fdp_image.specs.Reading.{Reading}
use Rattle.fdp_saving.specs.fdp_journal.JournalState.{JournalState}
use Rattle.fdp_pointers.specs.Contents.{leaves_pages}
use Rattle.fdp_readings.specs.Drawn.{drawn}
use Rattle.fdp_readings.specs.Lasting.{leaves_nothing}
use Rattle.fdp_readings.specs.Named.{KeepsNamed, KeepsSystem, NamesNone}
use Rattle.fdp_readings.proofs.Keeping.{erase-named, erase-system, program-named, program-system}
use Rattle.fdp_readings.proofs.Staying.{drawn-still}
use Rattle.fdp_rules.specs.History.{Found, point_of, totals_of}
use Rattle.fdp_rules.specs.Step.{IsStep}
use Rattle.fdp_saving.proofs.Alone.{one_is_read, sure_says}
use Rattle.fdp_saving.proofs.DataPages.{saver_stays, says_stay}
use Rattle.fdp_units.specs.UnitTable.{UnitTable}

-- an image of what is durable stands for a beginning that holds all that is firm
pub durable-stands : (c : DriveConfig) (f : Found) (es : List Entry) (firm : ℕ) (s : JournalState) (t : UnitTable) (cells : List Cell) → IsDurable c f es firm s t cells → StandsForBeginning c f es firm cells
durable-stands c f es firm s t cells h =
    elim (one_is_read c s cells h.own h.tried h.say) [
      | inl own ↦ says-stands c f es firm cells h.own own h.own_says
      | inr tried ↦ says-stands c f es firm cells h.tried tried h.tried_says
    ]

-- while nothing is in doubt, what is tried can be taken for what is said
pub durable-sure : (c : DriveConfig) (f : Found) (es : List Entry) (firm : ℕ) (s : JournalState) (t : UnitTable) (cells : List Cell) → geometry_of c ≡ s.geometry → s.in_doubt ≡ false → IsDurable c f es firm s t cells → IsDurable c f es firm s t cells
durable-sure c f es firm s t cells same sure h = record {
  own = h.own;
  tried = h.own;
  saver = h.saver;
  say = sure_says c s cells h.own h.tried h.own same h.saver sure h.say;
  own_says = h.own_says;
  tried_says = h.own_says;
  own_used = h.own_used;
  tried_used = h.own_used;
  sure = h.sure;
}

-- ---- calls of data units

-- where the system pages stay, and each page that is named
pub durable-in : (c : DriveConfig) (f : Found) (es : List Entry) (firm : ℕ) (s : JournalState) (t : UnitTable) (old new : List Cell) → geometry_of c ≡ s.geometry → 0 < s.stamp.epoch → KeepsSystem c old new
    → (h : IsDurable c f es firm s t old) → KeepsNamed h.own old new → KeepsNamed h.tried old new → IsDurable c f es firm s t new
durable-in c f es firm s t old new same some keeps h own_named tried_named =
    let stays : (page : ℕ) → data_pages s.geometry ≤ page → slice_get new page ≡ slice_get old page = λ page high. keeps page (subst (λ (g : Geometry). data_pages g ≤ page) (sym same) high) in
    record {
      own = h.own;
      tried = h.tried;
      saver = saver_stays s old new stays h.saver;
      say = says_stay c s old new h.own h.tried same some stays h.saver h.say;
      own_says = says-in c f es firm old new h.own own_named h.own_says;
      tried_says = says-in c f es firm old new h.tried tried_named h.tried_says;
      own_used = h.own_used;
      tried_used = h.tried_used;
      sure = h.sure;
    }

-- the program of a blank page
pub durable-program : (c : DriveConfig) (f : Found) (es : List Entry) (firm : ℕ) (s : JournalState) (t : UnitTable) (old new : List Cell) (at : Spot) (spare bytes : List ℕ) → geometry_of c ≡ s.geometry → 0 < s.stamp.epoch
    → IsDataPage (geometry_of c) at → slice_get old (page_number (geometry_of c) at) ≡ Some Blank → ProgramMayLeave (geometry_of c) old at spare bytes new → IsDurable c f es firm s t old → IsDurable c f es firm s t new
durable-program c f es firm s t old new at spare bytes same some is blank left h =
    durable-in c f es firm s t old new same some (program-system c old new at spare bytes is left) h
    (program-named c h.own old new at spare bytes h.own_says.valid blank left)
    (program-named c h.tried old new at spare bytes h.tried_says.valid blank left)

-- what is said names no page of a unit of which the history draws none
own-none : (c : DriveConfig) (f : Found) (es : List Entry) (firm : ℕ) (s : JournalState) (t : UnitTable) (cells : List Cell) (unit : ℕ) → s.in_doubt ≡ false → NamesNone c (drawn c (point_of c f es)) unit → (h : IsDurable c f es firm s t cells) → NamesNone c h.own unit
own-none c f es firm s t cells unit sure none h = subst (λ (r : Reading). NamesNone c r unit) (sym (h.sure sure)) none

-- the erase of a unit of which the history draws no page
pub durable-erase : (c : DriveConfig) (f : Found) (es : List Entry) (firm : ℕ) (s : JournalState) (t : UnitTable) (old new : List Cell) (unit : ℕ) → geometry_of c ≡ s.geometry → 0 < s.stamp.epoch → s.in_doubt ≡ false
    → unit < data_units (geometry_of c) → NamesNone c (drawn c (point_of c f es)) unit → EraseMayLeave (geometry_of c) old unit new → IsDurable c f es firm s t old → IsDurable c f es firm s t new
unfolding durable-sure
durable-erase c f es firm s t old new unit same some sure is none left h =
    let named : KeepsNamed h.own old new = erase-named c h.own old new unit (own-none c f es firm s t old unit sure none h) left in
    durable-in c f es firm s t old new same some (erase-system c old new unit is left) (durable-sure c f es firm s t old same sure h) named named

-- whatever changes no page that was used
pub durable-used : (c : DriveConfig) (f : Found) (es : List Entry) (firm : ℕ) (s : JournalState) (t : UnitTable) (old new : List Cell) → geometry_of c ≡ s.geometry → 0 < s.stamp.epoch → KeepsSystem c old new → KeepsUsed c t old new
    → IsDurable c f es firm s t old → IsDurable c f es firm s t new
durable-used c f es firm s t old new same some keeps used h =
    durable-in c f es firm s t old new same some keeps h
    (λ nsid lba page e. used page (h.own_says.valid.blocks nsid lba page e).data_page (h.own_used nsid lba page e))
    (λ nsid lba page e. used page (h.tried_says.valid.blocks nsid lba page e).data_page (h.tried_used nsid lba page e))

-- ---- the units

used-on : (c : DriveConfig) (f : Found) (es : List Entry) (s : JournalState) (old new : UnitTable) (r : Reading) → (s.in_doubt ≡ false → (unit : ℕ) → NamesNone c (drawn c (point_of c f es)) unit → NamesNone c r unit) → UnitsMoveOn c f es s old new → NamesUsed c old r → NamesUsed c new r
used-on c f es s old new r none on used nsid lba page e =
    elim (on (page / c.unit_pages)) [
      | inl more ↦ (let low = used nsid lba page e in omega (arith, low, more))
      | inr sure ↦ absurd (none sure.0 (page / c.unit_pages) sure.1 nsid lba page e refl)
    ]

pub durable-moves : (c : DriveConfig) (f : Found) (es : List Entry) (firm : ℕ) (s : JournalState) (old new : UnitTable) (cells : List Cell) → geometry_of c ≡ s.geometry → UnitsMoveOn c f es s old new → IsDurable c f es firm s old cells → IsDurable c f es firm s new cells
unfolding durable-sure
durable-moves c f es firm s old new cells same on h =
    (elim s.in_doubt as (λ b. s.in_doubt ≡ b → IsDurable c f es firm s new cells) [
      | true ↦ λ doubt. moved h (λ sure. let bad : true ≡ false = sym doubt ∙ sure in absurd cc)
      | false ↦ λ sure. (let k = durable-sure c f es firm s old cells same sure h in moved k (λ again unit none. own-none c f es firm s old cells unit sure none h))
    ]) refl
  where
    moved : (k : IsDurable c f es firm s old cells) → (s.in_doubt ≡ false → (unit : ℕ) → NamesNone c (drawn c (point_of c f es)) unit → NamesNone c k.tried unit) → IsDurable c f es firm s new cells
    moved k none = record {
      own = k.own;
      tried = k.tried;
      saver = k.saver;
      say = k.say;
      own_says = k.own_says;
      tried_says = k.tried_says;
      own_used = used-on c f es s old new k.own (λ sure unit n. own-none c f es firm s old cells unit sure n k) on k.own_used;
      tried_used = used-on c f es s old new k.tried none on k.tried_used;
      sure = k.sure;
    }

-- ---- the entries

-- fewer entries may be called firm
pub durable-less : (c : DriveConfig) (f : Found) (es : List Entry) (firm less : ℕ) (s : JournalState) (t : UnitTable) (cells : List Cell) → less ≤ firm → IsDurable c f es firm s t cells → IsDurable c f es less s t cells
durable-less c f es firm less s t cells fewer h = record {
  own = h.own;
  tried = h.tried;
  saver = h.saver;
  say = h.say;
  own_says = says-less c f es firm less cells h.own fewer h.own_says;
  tried_says = says-less c f es firm less cells h.tried fewer h.tried_says;
  own_used = h.own_used;
  tried_used = h.tried_used;
  sure = h.sure;
}

-- a history that goes on, where what is drawn at its end is what is said, if nothing is in doubt
grown : (c : DriveConfig) (f : Found) (es more : List Entry) (firm : ℕ) (s : JournalState) (t : UnitTable) (cells : List Cell) → (h : IsDurable c f es firm s t cells)
    → (s.in_doubt ≡ false → h.own ≡ record (drawn c (point_of c f (es ++ more))) { totals = h.own.totals }) → IsDurable c f (es ++ more) firm s t cells
grown c f es more firm s t cells h sure = record {
  own = h.own;
  tried = h.tried;
  saver = h.saver;
  say = h.say;
  own_says = says-grown c f es more firm cells h.own h.own_says;
  tried_says = says-grown c f es more firm cells h.tried h.tried_says;
  own_used = h.own_used;
  tried_used = h.tried_used;
  sure = sure;
}

-- while something is in doubt
pub durable-doubted : (c : DriveConfig) (f : Found) (es more : List Entry) (firm : ℕ) (s : JournalState) (t : UnitTable) (cells : List Cell) → s.in_doubt ≡ true → IsDurable c f es firm s t cells → IsDurable c f (es ++ more) firm s t cells
durable-doubted c f es more firm s t cells doubt h = grown c f es more firm s t cells h (λ sure. let bad : true ≡ false = sym doubt ∙ sure in absurd cc)

-- entries that leave nothing
pub durable-still : (told : Bool) (c : DriveConfig) (f : Found) (es : List Entry) (e : Entry) (firm : ℕ) (s : JournalState) (t : UnitTable) (cells : List Cell) → IsTrue (leaves_nothing e) → IsOrderly c (point_of c f es) → IsStanding c (point_of c f es)
    → (IsFalse (leaves_pages e) → IsStep told c f es e) → IsDurable c f es firm s t cells → IsDurable c f (es ++ e ∷ []) firm s t cells
durable-still told c f es e firm s t cells is orderly standing step h =
    let still : drawn c (point_of c f (es ++ e ∷ [])) ≡ record (drawn c (point_of c f es)) { totals = totals_of f (es ++ e ∷ []) } = drawn-still told c f es e is orderly standing step in
    grown c f es (e ∷ []) firm s t cells h (λ sure. h.sure sure ∙ sym (ap (λ (r : Reading). record r { totals = h.own.totals }) still))
