-- A checkpoint over a flash: what it leaves of the saver, and of what the areas say.
use Rattle.std.proofs.Common.{◌≡◌, ℕ, ◌+◌, ◌-◌, ◌≤◌, ◌<◌, ◌⊎◌, IsTrue, List, [], ◌∷◌, length, Some, refl, sym, ap, ◌∙◌, subst, arith, inl, inr}
use Rattle.fdp_base.specs.declared.config.DriveConfig.{DriveConfig}
use Rattle.fdp_base.specs.declared.config.Geometry.{Geometry}
use Rattle.fdp_base.specs.Placement.{geometry_of}
use Rattle.fdp_flash.specs.declared.cell.Cell.{Cell}
use Rattle.fdp_flash.specs.declared.answer.Wrote.{Wrote}
use Rattle.fdp_flash.specs.declared.answer.Wrote.TheVariants.{Done, Failed}
use Rattle.fdp_flash.specs.Failing.{FailsLast}
use Rattle.fdp_flash.specs.FlashState.{Call, FlashState, IsWellFormed}
use Rattle.fdp_flash.specs.Planned.{MakesPlanned}
use Rattle.fdp_flash.specs.Runs.{Holds}
use Rattle.fdp_flash.proofs.Held.{holds_weakened}
use Rattle.fdp_records.specs.declared.spare.Stamp.{Stamp}
use Rattle.fdp_snapshot.specs.declared.state.State.{State}
use Rattle.std.specs.Prelude.{slice_get}
use Rattle.fdp_image.specs.Areas.{Sealed, area_of, current_area, data_pages, sealed_in}
use Rattle.fdp_image.specs.Checkpoint.{reading_of_state}
use Rattle.fdp_image.specs.Reading.{Reading}
use Rattle.fdp_image.specs.Replacing.{MayBeWritten, pages_for}
use Rattle.fdp_image.proofs.NextRecord.{read_by}
use Rattle.fdp_checkpoint.specs.Writing.{IsWritten, checkpoint_calls}
use Rattle.fdp_journal.specs.Journal.{doubted}
use Rattle.fdp_journal.specs.JournalState.{JournalState}
use Rattle.fdp_saving.specs.Calls.{AreCallsOfCheckpoint, AreUpToFailed, MakesSystemCalls, calls_of_checkpoint}
use Rattle.fdp_saving.specs.Said.{AreasSay, AreasSayOneOf, ReadsAsOneOf}
use Rattle.fdp_saving.specs.Saver.{IsSaverIn, behind_checkpoint, other_area}
use Rattle.fdp_saving.specs.Saving.{IsOfDrive, within_checkpoint}
use Rattle.fdp_saving.proofs.Alone.{current_says, one_is_read}
use Rattle.fdp_saving.proofs.Among.{first, second, third}
use Rattle.fdp_saving.proofs.Chosen.{IsBelow, other_later}
use Rattle.fdp_saving.proofs.Made.{all_made, checkpoint_planned, part_made}
use Rattle.fdp_saving.proofs.Replaced.{anew_says, beside_data, own_same, replaced_says}

-- a checkpoint of a state was written, or its writing failed
pub record IsCheckpointing (s : JournalState) (given : State) (area epoch : ℕ) (old new : FlashState) : Type 0 where
  pub two : s.area ≤ 1
  pub area_is : area ≡ other_area s.area
  pub epoch_is : epoch ≡ s.stamp.epoch + 1
  pub geometry : old.geometry ≡ s.geometry
  pub saver : IsTrue old.told → IsSaverIn old.cells s
  pub held : Holds (MayBeWritten old.geometry area epoch given old.cells) old new

pub checkpointing : (s inside : JournalState) (given : State) (area : ℕ) (stamp : Stamp) (old new : FlashState) → inside ≡ s → area ≡ inside.area → area ≤ 1 → stamp ≡ inside.stamp → old.geometry ≡ s.geometry
    → (IsTrue old.told → IsSaverIn old.cells s) → Holds (MayBeWritten old.geometry (1 - area) (stamp.epoch + 1) given old.cells) old new → IsCheckpointing s given (1 - area) (stamp.epoch + 1) old new
checkpointing s inside given area stamp old new same area_is two stamp_is geometry saver held =
    let is : area ≡ s.area = area_is ∙ ap (λ (j : JournalState). j.area) same in
    record {
      two = subst (λ (n : ℕ). n ≤ 1) is two;
      area_is = ap other_area is;
      epoch_is = ap (λ (t : Stamp). t.epoch + 1) (stamp_is ∙ ap (λ (j : JournalState). j.stamp) same);
      geometry = geometry;
      saver = saver;
      held = held;
    }

-- the same by the saver
by_saver : (s : JournalState) (given : State) (area epoch : ℕ) (old new : FlashState) (g : Geometry) → IsCheckpointing s given area epoch old new → g ≡ s.geometry
    → Holds (MayBeWritten g (other_area s.area) (s.stamp.epoch + 1) given old.cells) old new
by_saver s given area epoch old new g h same =
    let one = subst (λ (k : Geometry). Holds (MayBeWritten k area epoch given old.cells) old new) (h.geometry ∙ sym same) h.held in
    let two = subst (λ (a : ℕ). Holds (MayBeWritten g a epoch given old.cells) old new) h.area_is one in
    subst (λ (e : ℕ). Holds (MayBeWritten g (other_area s.area) e given old.cells) old new) h.epoch_is two

-- the saver's area has a lower epoch than the checkpoint
own_below : (s : JournalState) (cells : List Cell) (g : Geometry) → g ≡ s.geometry → IsSaverIn cells s → IsBelow (sealed_in (area_of g s.area cells)) (s.stamp.epoch + 1)
own_below s cells g same saver x e =
    let least = saver.epoch x (subst (λ (k : Geometry). sealed_in (area_of k s.area cells) ≡ Some x) same e) in
    omega (arith, least)

left_says : (c : DriveConfig) (s : JournalState) (own tried : Reading) (given : State) (old new : List Cell) → s.area ≤ 1 → IsOfDrive c s given → IsSaverIn old s → AreasSay c s old own tried
    → MayBeWritten (geometry_of c) (other_area s.area) (s.stamp.epoch + 1) given old new → AreasSay c s new own tried ⊎ AreasSay c s new own (reading_of_state given)
left_says c s own tried given old new two drive saver says may =
    replaced_says c s own tried (s.stamp.epoch + 1) given old new two says (own_below s old (geometry_of c) drive.geometry saver) may.beside may.replaced drive.saved

left_reads : (c : DriveConfig) (s : JournalState) (own tried : Reading) (given : State) (old new : List Cell) → s.area ≤ 1 → IsOfDrive c s given → IsSaverIn old s → AreasSay c s old own tried
    → MayBeWritten (geometry_of c) (other_area s.area) (s.stamp.epoch + 1) given old new → ReadsAsOneOf c old (within_checkpoint own tried given) new
left_reads c s own tried given old new two drive saver says may = elim (left_says c s own tried given old new two drive saver says may) [
  | inl same ↦ elim (one_is_read c s new own tried same) [
    | inl is ↦ record { reading = own; reads = is; among = first own (tried ∷ reading_of_state given ∷ []); data_pages_same = pages }
    | inr is ↦ record { reading = tried; reads = is; among = second own tried (reading_of_state given ∷ []); data_pages_same = pages }
  ]
  | inr anew ↦ elim (one_is_read c s new own (reading_of_state given) anew) [
    | inl is ↦ record { reading = own; reads = is; among = first own (tried ∷ reading_of_state given ∷ []); data_pages_same = pages }
    | inr is ↦ record { reading = reading_of_state given; reads = is; among = third own tried (reading_of_state given) []; data_pages_same = pages }
  ]
]
  where
    pages : (page : ℕ) → page < data_pages (geometry_of c) → slice_get new page ≡ slice_get old page
    pages = beside_data c (other_area s.area) old new may.beside

-- whatever a stop leaves
pub checkpoint_stops : (c : DriveConfig) (s : JournalState) (own tried : Reading) (given : State) (area epoch : ℕ) (old new : FlashState) → IsCheckpointing s given area epoch old new → IsOfDrive c s given
    → (IsTrue old.told → AreasSay c s old.cells own tried) → Holds (ReadsAsOneOf c old.cells (within_checkpoint own tried given)) old new
checkpoint_stops c s own tried given area epoch old new h drive says =
    holds_weakened (MayBeWritten (geometry_of c) (other_area s.area) (s.stamp.epoch + 1) given old.cells) (ReadsAsOneOf c old.cells (within_checkpoint own tried given)) old new
    (by_saver s given area epoch old new (geometry_of c) h drive.geometry)
    (λ told cells may. left_reads c s own tried given old.cells cells h.two drive (h.saver told) (says told) may)

-- ---- the checkpoint failed

-- the saver's area is as it was
own_kept : (s : JournalState) (given : State) (area epoch : ℕ) (old new : FlashState) → IsCheckpointing s given area epoch old new → IsTrue old.told → area_of s.geometry s.area new.cells ≡ area_of s.geometry s.area old.cells
own_kept s given area epoch old new h told =
    own_same s.geometry old.cells new.cells s.area h.two ((by_saver s given area epoch old new s.geometry h refl).cells told).beside

pub failed_stands : (s : JournalState) (given : State) (area epoch : ℕ) (old new : FlashState) → IsCheckpointing s given area epoch old new → IsTrue old.told → IsSaverIn new.cells (doubted s)
failed_stands s given area epoch old new h told =
    let kept = ap sealed_in (own_kept s given area epoch old new h told) in
    let saver = h.saver told in
    record {
      sealed = λ some. let was = saver.sealed some in (was.0, kept ∙ was.1);
      epoch = λ z e. saver.epoch z (sym kept ∙ e);
      sure = λ wrong. absurd cc;
    }

pub failed_says : (c : DriveConfig) (s : JournalState) (own tried : Reading) (given : State) (area epoch : ℕ) (old new : FlashState) → IsCheckpointing s given area epoch old new → IsOfDrive c s given
    → IsTrue old.told → AreasSay c s old.cells own tried → AreasSayOneOf c (doubted s) new.cells (own ∷ []) (tried ∷ reading_of_state given ∷ [])
failed_says c s own tried given area epoch old new h drive told says =
    let may = (by_saver s given area epoch old new (geometry_of c) h drive.geometry).cells told in
    elim (left_says c s own tried given old.cells new.cells h.two drive (h.saver told) says may) [
      | inl same ↦ record { own = own; tried = tried; own_among = first own []; tried_among = first tried (reading_of_state given ∷ []); say = record { own_says = same.own_says; current = same.current } }
      | inr anew ↦ record {
        own = own;
        tried = reading_of_state given;
        own_among = first own [];
        tried_among = second tried (reading_of_state given) [];
        say = record { own_says = anew.own_says; current = anew.current };
      }
    ]

-- ---- the checkpoint is done

-- the area is written
pub record IsDoneAt (s : JournalState) (given : State) (old new : FlashState) : Type 0 where
  pub written : IsTrue old.told → IsWritten s.geometry (other_area s.area) (s.stamp.epoch + 1) given new.cells

pub done_at : (s : JournalState) (given : State) (area epoch : ℕ) (old new : FlashState) → IsCheckpointing s given area epoch old new → (IsTrue old.told → IsWritten old.geometry area epoch given new.cells) → IsDoneAt s given old new
done_at s given area epoch old new h written = record {
  written = λ told.
      let one = subst (λ (k : Geometry). IsWritten k area epoch given new.cells) h.geometry (written told) in
      let two = subst (λ (a : ℕ). IsWritten s.geometry a epoch given new.cells) h.area_is one in
      subst (λ (e : ℕ). IsWritten s.geometry (other_area s.area) e given new.cells) h.epoch_is two;
}

-- so it is the current one
anew_current : (s : JournalState) (given : State) (area epoch : ℕ) (old new : FlashState) → IsCheckpointing s given area epoch old new → IsTrue old.told → (w : IsWritten s.geometry (other_area s.area) (s.stamp.epoch + 1) given new.cells)
    → current_area s.geometry new.cells ≡ Some (other_area s.area, w.sealed.area)
anew_current s given area epoch old new h told w =
    let kept = ap sealed_in (own_kept s given area epoch old new h told) in
    let is : w.sealed.area.stamp.epoch ≡ s.stamp.epoch + 1 = ap (λ (t : Stamp). t.epoch) w.sealed.stamp in
    other_later s.geometry new.cells w.sealed.area s.area h.two w.sealed.sealed
    (λ x e. let least = (h.saver told).epoch x (sym kept ∙ e) in omega (arith, least, is))

pub done_stands : (s : JournalState) (given : State) (area epoch : ℕ) (old new : FlashState) → IsCheckpointing s given area epoch old new → IsDoneAt s given old new → IsTrue old.told → IsSaverIn new.cells (behind_checkpoint s given.summary)
done_stands s given area epoch old new h done told =
    let w = done.written told in
    let z = w.sealed.area in
    let is : z.stamp.epoch ≡ s.stamp.epoch + 1 = ap (λ (t : Stamp). t.epoch) w.sealed.stamp in
    let none : length z.journal ≡ 0 = ap length w.sealed.journal in
    let pages = w.sealed.filled in
    record {
      sealed = λ some. (z, w.sealed.sealed);
      epoch = λ x e.
          let both : Some z ≡ Some x = sym w.sealed.sealed ∙ e in
          let same : z ≡ x = cc in
          let at : z.stamp.epoch ≡ x.stamp.epoch = ap (λ (y : Sealed). y.stamp.epoch) same in
          omega (arith, at, is);
      sure = λ sure. record {
        area = z;
        goes_on = record { current = anew_current s given area epoch old new h told w; blank = λ k lo hi. w.blank k (omega (arith, lo, none, pages)) hi };
        stamp = w.sealed.stamp;
        checkpoint = pages;
        records = none;
      };
    }

pub done_says : (c : DriveConfig) (s : JournalState) (given : State) (area epoch : ℕ) (old new : FlashState) → IsCheckpointing s given area epoch old new → IsDoneAt s given old new → IsOfDrive c s given
    → IsTrue old.told → AreasSay c (behind_checkpoint s given.summary) new.cells (reading_of_state given) (reading_of_state given)
done_says c s given area epoch old new h done drive told =
    let w = done.written told in
    let z = w.sealed.area in
    let current : current_area (geometry_of c) new.cells ≡ Some (other_area s.area, z) =
    subst (λ (k : Geometry). current_area k new.cells ≡ Some (other_area s.area, z)) (sym drive.geometry) (anew_current s given area epoch old new h told w) in
    let block : s.geometry.block ≡ c.block = ap (λ (k : Geometry). k.block) (sym drive.geometry) in
    current_says c (behind_checkpoint s given.summary) new.cells z (reading_of_state given) (reading_of_state given) current
    (read_by c new.cells (other_area s.area) z current ∙ anew_says c s.geometry.block (s.stamp.epoch + 1) given (area_of s.geometry (other_area s.area) new.cells) block w.sealed drive.saved)

-- ---- the calls

planned_same : (s : JournalState) (given : State) (area epoch : ℕ) (old new : FlashState) → IsCheckpointing s given area epoch old new
    → checkpoint_calls old.geometry area (pages_for old.geometry.block given.summary) ≡ calls_of_checkpoint s given.summary
planned_same s given area epoch old new h i = checkpoint_calls (h.geometry i) (h.area_is i) (pages_for (h.geometry i).block given.summary)

pub checkpoint_made : (s : JournalState) (given : State) (area epoch : ℕ) (old new : FlashState) (result : Wrote) → IsCheckpointing s given area epoch old new → IsWellFormed old
    → MakesPlanned old new (checkpoint_calls old.geometry area (pages_for old.geometry.block given.summary)) result → (result ≡ Done → new.faults ≡ old.faults) → (result ≡ Failed → FailsLast old new new.moment)
    → new.programs ≡ old.programs → MakesSystemCalls old new (AreCallsOfCheckpoint s given.summary result)
checkpoint_made s given area epoch old new Done h w made faultless failed programs =
    let planned = checkpoint_calls old.geometry area (pages_for old.geometry.block given.summary) in
    subst (λ (calls : List Call). MakesSystemCalls old new (λ are. are ≡ calls)) (planned_same s given area epoch old new h)
    (all_made old new planned _ w h.held.run made (checkpoint_planned old.geometry area _) (faultless refl) programs)
checkpoint_made s given area epoch old new Failed h w made faultless failed programs =
    let planned = checkpoint_calls old.geometry area (pages_for old.geometry.block given.summary) in
    subst (λ (calls : List Call). MakesSystemCalls old new (AreUpToFailed calls)) (planned_same s given area epoch old new h)
    (part_made old new planned _ w h.held.run made (checkpoint_planned old.geometry area _) (failed refl) programs)
