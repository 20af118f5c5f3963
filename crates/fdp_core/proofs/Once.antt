-- A saving that is one call.
use Rattle.std.proofs.Common.{◌≡◌, ◌<◌, ◌∙◌, ◌++◌, ◌||◌, ◌∷◌, [], Bool, List, ap, false, length, refl, subst, sym, true}
use Rattle.std.specs.Prelude.{nat_le}
use Rattle.std.proofs.lemmas.Bool.{false≢true, lt-leb}
use Rattle.fdp_base.specs.Geometry.{area_pages}
use Rattle.fdp_flash.specs.FlashState.{Call}
use Rattle.fdp_relocation.specs.fdp_journal.Journal.{record_call}
use Rattle.fdp_relocation.specs.fdp_journal.JournalState.{JournalState, next_in}
use Rattle.fdp_relocation.specs.fdp_saving.declared.saved.Saved.{Saved}
use Rattle.fdp_relocation.specs.fdp_saving.declared.saved.Saved.TheVariants as savings
use Rattle.fdp_relocation.specs.fdp_saving.Calls.{AreCallsOfSaving, calls_of_renewal}
use Rattle.fdp_relocation.specs.fdp_saving.Saver.{needs_checkpoint, renewed}
use Rattle.fdp_snapshot.specs.declared.state.Summary.{Summary}

none-needed : (s : JournalState) → s.in_doubt ≡ false → next_in s < area_pages s.geometry → needs_checkpoint s ≡ false
none-needed s sure room = ap (λ (doubt : Bool). doubt || nat_le (area_pages s.geometry) (next_in s)) sure ∙ lt-leb (area_pages s.geometry) (next_in s) room

one-call : (s : JournalState) (summary : Summary) (answer : Saved) (calls : List Call) → needs_checkpoint s ≡ false → AreCallsOfSaving s summary answer calls → length calls ≡ 1
one-call s summary savings.Done calls none is =
    ap length is ∙ subst (λ (w : Bool). length (calls_of_renewal w s summary ++ record_call (renewed w s summary) ∷ []) ≡ 1) (sym none) refl
one-call s summary (savings.Doubtful moment) calls none is =
    ap length is ∙ subst (λ (w : Bool). length (calls_of_renewal w s summary ++ record (record_call (renewed w s summary)) { failed = true } ∷ []) ≡ 1) (sym none) refl
one-call s summary (savings.Unsaved moment) calls none is = absurd (false≢true (sym none ∙ is.0))

pub saves-once : (s : JournalState) (summary : Summary) (answer : Saved) (calls : List Call) → s.in_doubt ≡ false → next_in s < area_pages s.geometry → AreCallsOfSaving s summary answer calls → length calls ≡ 1
saves-once s summary answer calls sure room is = one-call s summary answer calls (none-needed s sure room) is
