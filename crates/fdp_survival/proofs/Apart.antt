-- What the areas say is isolated: what calls of data units keep of it, and what it makes of an image.
use Rattle.std.proofs.Common.{◌≡◌, ℕ, ◌-◌, ◌<◌, ◌≤◌, List, [], length, Option, Some, None, sym, ◌∙◌, ap, subst, arith, inl, inr, ⊎_elim}
use Rattle.std.specs.Prelude.{All, option_map}
use Rattle.std.proofs.lemmas.List.{append-nil}
use Rattle.fdp_base.specs.declared.config.DriveConfig.{DriveConfig}
use Rattle.fdp_base.specs.declared.entry.Entry.{Entry}
use Rattle.fdp_base.specs.Placement.{geometry_of}
use Rattle.fdp_durability.specs.fdp_journal.JournalState.{JournalState}
use Rattle.fdp_durability.specs.fdp_readings.Named.{KeepsNamed, KeepsSystem}
use Rattle.fdp_durability.specs.fdp_saving.Said.{AreasSay, AreasSayOneOf, IsTried, ReadsAsOneOf}
use Rattle.fdp_durability.specs.fdp_saving.Saver.{first_saver, other_area}
use Rattle.fdp_durability.specs.Durable.{IsDurable}
use Rattle.fdp_durability.proofs.Beginnings.{among, says-in}
use Rattle.fdp_durability.proofs.fdp_saving.Alone.{one_is_read}
use Rattle.fdp_durability.proofs.fdp_saving.Beginning.{found_says, fresh_says}
use Rattle.fdp_durability.proofs.fdp_saving.DataPages.{says_stay}
use Rattle.fdp_flash.specs.declared.cell.Cell.{Cell}
use Rattle.fdp_image.specs.Areas.{Sealed, area_of, current_area, data_pages, sealed_at, sealed_in}
use Rattle.fdp_image.specs.Reading.{Reading}
use Rattle.fdp_image.specs.Reads.{reads_as, said_by_area}
use Rattle.fdp_image.specs.StandsFor.{StandsFor}
use Rattle.fdp_image.specs.Saving.{SameDataPages}
use Rattle.fdp_image.specs.Valid.{IsValid, state_in}
use Rattle.fdp_isolation.specs.Isolated.{IsIsolatedDrive}
use Rattle.fdp_isolation.specs.Reads.{ReadsApart}
use Rattle.fdp_isolation.proofs.Readings.{fresh-read, reads-kept, reads-left, says-setting}
use Rattle.fdp_isolation.proofs.Stopped.{LeavesApart, PutsNone, isolated-as, none-saved, saved-isolated}
use Rattle.fdp_rules.specs.History.{Found, point_of, state_of}
use Rattle.fdp_survival.specs.Apart.{AreSaidApart, IsApartBy, ReadsIsolated, StandsApart}
use Rattle.fdp_units.specs.UnitTable.{UnitTable}

one : {X : Type 0} {x y : X} → Some x ≡ Some y → x ≡ y
one e = cc

-- ---- the history for which an image stands

-- where whatever an image reads as is isolated, it is so by that history
pub own-apart : (c : DriveConfig) (f : Found) (image : List Cell) (es : List Entry) (stands : StandsFor c f image es) → ReadsIsolated c image → IsApartBy c f image es stands
own-apart c f image es stands reads unit is used =
    let shown = stands.says.shows.lasting_part in
    isolated-as c unit (state_in c image stands.reading) (state_of c f es) image
    (record { enabled = ap (λ l. l.enabled) (sym shown); index = ap (λ l. l.index) (sym shown); generation = ap (λ l. l.generation) (sym shown) })
    ((reads stands.reading stands.read).apart unit is used)

-- ---- the readings of the areas

-- an area that is current, without a journal, says one reading
tried-one : (c : DriveConfig) (area : ℕ) (cells : List Cell) (a b : Reading) → IsTried c area cells a → IsTried c area cells b → a ≡ b
tried-one c area cells a b p q =
    let same : p.sealed ≡ q.sealed = ap (λ (x : ℕ × Sealed). x.1) (one (sym p.current ∙ q.current)) in
    one (sym p.says ∙ ap (said_by_area c) same ∙ q.says)

-- where the area of the saver is current nothing is tried
untried : (c : DriveConfig) (area : ℕ) (cells : List Cell) (r : Reading) → current_area (geometry_of c) cells ≡ sealed_at (geometry_of c) cells area → IsTried c (other_area area) cells r → ⊥
untried c area cells r own is = cases (sealed_in (area_of (geometry_of c) area cells)) (sym own ∙ is.current) where
  cases : (o : Option Sealed) → option_map {U = ℕ × Sealed} (λ (x : Sealed). (area, x)) o ≡ Some (other_area area, is.sealed) → ⊥
  cases None e = cc
  cases (Some x) e = let same : area ≡ 1 - area = ap (λ (y : ℕ × Sealed). y.0) (one e) in omega (arith, same)

-- so what the areas say is isolated, where the readings are
pub said-of : (c : DriveConfig) (s : JournalState) (cells : List Cell) (own tried : Reading) → AreasSay c s cells own tried → ReadsApart c cells own → ReadsApart c cells tried → AreSaidApart c s cells
said-of c s cells own tried say mine other = record {
  own = λ r says. subst (ReadsApart c cells) (one (sym say.own_says ∙ says)) mine;
  tried = λ r is. ⊎_elim
      (λ current. absurd (untried c s.area cells r current is))
      (λ (was : IsTried c (other_area s.area) cells tried). subst (ReadsApart c cells) (tried-one c (other_area s.area) cells tried r was is) other)
      say.current;
}

pub said-one-of : (c : DriveConfig) (s : JournalState) (cells : List Cell) (owns trieds : List Reading) → All (ReadsApart c cells) owns → All (ReadsApart c cells) trieds → AreasSayOneOf c s cells owns trieds → AreSaidApart c s cells
said-one-of c s cells owns trieds mine others says =
    said-of c s cells says.own says.tried says.say (among (ReadsApart c cells) owns says.own mine says.own_among) (among (ReadsApart c cells) trieds says.tried others says.tried_among)

-- what is durable, with readings that are isolated
pub record IsDurableApart (c : DriveConfig) (f : Found) (es : List Entry) (firm : ℕ) (s : JournalState) (t : UnitTable) (cells : List Cell) : Type 0 where
  pub durable : IsDurable c f es firm s t cells
  pub own : ReadsApart c cells durable.own
  pub tried : ReadsApart c cells durable.tried

pub durable-apart : (c : DriveConfig) (f : Found) (es : List Entry) (firm : ℕ) (s : JournalState) (t : UnitTable) (cells : List Cell) → IsDurable c f es firm s t cells → AreSaidApart c s cells → IsDurableApart c f es firm s t cells
durable-apart c f es firm s t cells h said =
    elim h.say.current [
      | inl is ↦ record {
        durable = record {
          own = h.own;
          tried = h.own;
          saver = h.saver;
          say = record { own_says = h.say.own_says; current = inl is };
          own_says = h.own_says;
          tried_says = h.own_says;
          own_used = h.own_used;
          tried_used = h.own_used;
          sure = h.sure;
        };
        own = said.own h.own h.say.own_says;
        tried = said.own h.own h.say.own_says;
      }
      | inr was ↦ record { durable = h; own = said.own h.own h.say.own_says; tried = said.tried h.tried was }
    ]

-- ---- calls of data units

module _ (c : DriveConfig) (f : Found) (es : List Entry) (firm : ℕ) (s : JournalState) (t : UnitTable) (old new : List Cell) (same : geometry_of c ≡ s.geometry) (some : 0 < s.stamp.epoch) (keeps : KeepsSystem c old new) (h : IsDurable c f es firm s t old) (said : AreSaidApart c s old) where
  d : IsDurableApart c f es firm s t old
  d = durable-apart c f es firm s t old h said

  say-still : AreasSay c s new d.durable.own d.durable.tried
  say-still = says_stay c s old new d.durable.own d.durable.tried same some (λ page high. keeps page (subst (λ g. data_pages g ≤ page) (sym same) high)) d.durable.saver d.durable.say

  -- no page was put
  pub said-kept : PutsNone c old new → AreSaidApart c s new
  said-kept none = said-of c s new d.durable.own d.durable.tried say-still (reads-kept c d.durable.own old new none d.own) (reads-kept c d.durable.tried old new none d.tried)

  -- a page was put at most
  pub said-left : ((r : Reading) → IsValid c old r → KeepsNamed r old new) → LeavesApart c (point_of c f es).state old new → AreSaidApart c s new
  said-left named left =
      let own = says-in c f es firm old new d.durable.own (named d.durable.own d.durable.own_says.valid) d.durable.own_says in
      let tried = says-in c f es firm old new d.durable.tried (named d.durable.tried d.durable.tried_says.valid) d.durable.tried_says in
      said-of c s new d.durable.own d.durable.tried say-still
      (reads-left c d.durable.own old new (point_of c f es).state own.valid (λ equal. says-setting c f es own.kept own.lost new d.durable.own own.beginning own.says equal) left d.own)
      (reads-left c d.durable.tried old new (point_of c f es).state tried.valid (λ equal. says-setting c f es tried.kept tried.lost new d.durable.tried tried.beginning tried.says equal) left d.tried)

-- ---- images

-- an image over which all is durable, and what the areas say isolated
pub durable-stands-apart : (c : DriveConfig) (f : Found) (es : List Entry) (firm : ℕ) (s : JournalState) (t : UnitTable) (image : List Cell) → IsDurable c f es firm s t image → AreSaidApart c s image → IsIsolatedDrive c (point_of c f es) es image → StandsApart c f es (length es) image
durable-stands-apart c f es firm s t image h said drive = record {
  kept = es;
  lost = [];
  beginning = record { split = sym (append-nil es) };
  enough = omega arith;
  drive = drive;
  read = λ r reads. record { grouped = drive.grouped; apart = read r reads };
} where
  read : (r : Reading) → reads_as c image ≡ Some r → ReadsApart c image r
  read r reads =
      let d = durable-apart c f es firm s t image h said in
      ⊎_elim
      (λ own. subst (ReadsApart c image) (one (sym own ∙ reads)) d.own)
      (λ tried. subst (ReadsApart c image) (one (sym tried ∙ reads)) d.tried)
      (one_is_read c s image d.durable.own d.durable.tried d.durable.say)

-- an image with the data pages as they were, which reads as one of some readings
pub reads-stand-apart : (c : DriveConfig) (f : Found) (es : List Entry) (old image : List Cell) (rs : List Reading) → All (ReadsApart c old) rs → ReadsAsOneOf c old rs image → IsIsolatedDrive c (point_of c f es) es old → StandsApart c f es (length es) image
reads-stand-apart c f es old image rs all h was = record {
  kept = es;
  lost = [];
  beginning = record { split = sym (append-nil es) };
  enough = omega arith;
  drive = drive;
  read = λ r reads. record { grouped = drive.grouped; apart = subst (ReadsApart c image) (one (sym h.reads ∙ reads)) there };
} where
  drive : IsIsolatedDrive c (point_of c f es) es image
  drive = saved-isolated c (point_of c f es) es old image h.data_pages_same was

  there : ReadsApart c image h.reading
  there = reads-kept c h.reading old image (none-saved c old image h.data_pages_same) (among (ReadsApart c old) rs h.reading all h.among)

-- ---- where a run begins

-- data pages that are as they were
pub reads-apart-in : (c : DriveConfig) (old new : List Cell) (r : Reading) → SameDataPages c old new → ReadsApart c old r → ReadsApart c new r
reads-apart-in c old new r same h = reads-kept c r old new (none-saved c old new same) h

-- the saver of the current area of an image that is isolated by what it reads as
pub said-found : (c : DriveConfig) (area : ℕ) (z : Sealed) (cells : List Cell) (r : Reading) → current_area (geometry_of c) cells ≡ Some (area, z) → reads_as c cells ≡ Some r → ReadsApart c cells r → AreSaidApart c (first_saver (geometry_of c) area z.stamp.epoch) cells
said-found c area z cells r current read apart = said-of c (first_saver (geometry_of c) area z.stamp.epoch) cells r r (found_says c cells area z r current read) apart apart

-- that of a flash without an area
pub said-fresh : (c : DriveConfig) (cells : List Cell) (r : Reading) → current_area (geometry_of c) cells ≡ None → reads_as c cells ≡ Some r → AreSaidApart c (first_saver (geometry_of c) 1 0) cells
said-fresh c cells r none read = let apart = fresh-read c cells r none read in said-of c (first_saver (geometry_of c) 1 0) cells r r (fresh_says c cells r none read) apart apart
