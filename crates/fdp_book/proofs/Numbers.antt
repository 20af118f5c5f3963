-- The numbers that a generation and the sums have left.
use Rattle.std.proofs.Common.{◌≡◌, ℕ, ◌+◌, ◌^◌, ◌≤◌, ◌<◌, Bool, true, false, List, [], ◌∷◌, length, refl, ap, sym, ◌∙◌, subst, arith}
use Rattle.std.specs.Prelude.{MatchBool}
use Rattle.fdp_base.specs.declared.command.Command.{Command}
use Rattle.fdp_base.specs.declared.config.DriveConfig.{DriveConfig}
use Rattle.fdp_base.specs.declared.entry.Entry.{Entry}
use Rattle.fdp_base.specs.declared.entry.Totals.{Totals}
use Rattle.fdp_base.specs.CommandKinds.{is_write}
use Rattle.fdp_book.specs.declared.tables.Tables.{Tables}
use Rattle.fdp_book.specs.Forgetting.{EndsIn, Forgets}
use Rattle.fdp_book.specs.Held.{HasNumbers, IsBook, flight_in}
use Rattle.fdp_book.specs.Outlined.{Counts}
use Rattle.fdp_book.specs.Relocating.{CountsTold}
use Rattle.fdp_book.specs.Saving.{AreSmall}
use Rattle.fdp_origin.specs.Opening.{Opening}
use Rattle.fdp_rules.specs.History.{Found, point_of, totals_of}
use Rattle.fdp_rules.specs.Totals.{erases_of, media_blocks_of}
use Rattle.fdp_snapshot.specs.declared.state.Summary.{Summary}
use Rattle.fdp_book.specs.Logged.{IsLogged, Logged}
use Rattle.fdp_book.specs.declared.log.TheConstants.{MOST_STEP_ENTRIES}

-- a step goes on
pub numbers-on : (generation : ℕ) (old new : Logged) → new.spent ≡ old.spent → new.room ≤ old.room → HasNumbers generation old → HasNumbers generation new
numbers-on generation old new spent room h = record {
  few = omega (arith, h.few, spent);
  fewer = λ low. let before : generation < 2 ^ 31 + old.spent = h.fewer (omega (arith, low, room)) in omega (arith, before, spent);
}

-- entries are added, and the generation stays
pub numbers-logged : (generation now : ℕ) (old new : Logged) (es : List Entry) → now ≡ generation → IsLogged old new es → HasNumbers generation old → HasNumbers now new
numbers-logged generation now old new es same logged h =
    subst (λ (n : ℕ). HasNumbers n new) (sym same) (numbers-on generation old new logged.spent_is (omega (arith, logged.room_is)) h)

-- a command changes the setting once at most, as the first that a step does
pub numbers-risen : (generation now : ℕ) (old new : Logged) (e : Entry) → now ≤ generation + 1 → old.room ≡ MOST_STEP_ENTRIES → IsLogged old new (e ∷ []) → HasNumbers generation old → HasNumbers now new
numbers-risen generation now old new e more room logged h =
    let before : generation < 2 ^ 31 + old.spent = h.fewer (omega (arith, room)) in
    record {
      few = omega (arith, more, before, logged.spent_is);
      fewer = λ low. absurd (omega (arith, low, logged.room_is, room));
    }

-- the end of a command that changes nothing leaves the outline
pub ends-outline : (old new : Tables) (queue : ℕ) (command : Command) → EndsIn old new queue command → new.outline ≡ old.outline
ends-outline old new queue command h = by (is_write command) h where
  by : (b : Bool) → MatchBool b (Forgets old new queue (flight_in old.flights.items queue)) (new ≡ old) → new.outline ≡ old.outline
  by true forgets = ap (λ (t : Tables). t.outline) forgets.rest
  by false same = ap (λ (t : Tables). t.outline) same

-- an entry that only counts leaves the generation
pub generation-counted : (pages erased : ℕ) (s new : Summary) → Counts pages erased s new → new.generation ≡ s.generation
generation-counted pages erased s new h = ap (λ (x : Summary). x.generation) h.is

-- so does what tells of relocation
pub numbers-told : (es : List Entry) (s now : Summary) (old new : Logged) → CountsTold es s now → new.spent ≡ old.spent → new.room ≤ old.room → HasNumbers s.generation old → HasNumbers now.generation new
numbers-told [] s now old new counts spent room h = subst (λ (x : Summary). HasNumbers x.generation new) (sym counts) (numbers-on s.generation old new spent room h)
numbers-told (e ∷ es) s now old new counts spent room h =
    subst (λ (n : ℕ). HasNumbers n new) (sym (generation-counted (media_blocks_of e) (erases_of e) s now counts)) (numbers-on s.generation old new spent room h)

position-there : (c : DriveConfig) (f : Found) (es : List Entry) → (point_of c f es).totals.position ≡ f.totals.position + length es
unfolding point_of totals_of
position-there c f es = refl

-- the position and the sums are far below the last values of their counts
pub small-totals : (c : DriveConfig) (opening : Opening) (log : Logged) (t : Tables) (position : ℕ) → IsBook c opening log t → position ≡ log.before + length log.entries → position < 2 ^ 63 → length log.entries ≤ 2 ^ 39 → AreSmall t.outline.totals
small-totals c opening log t position h is low few =
    let at : t.outline.totals ≡ (point_of c opening.found log.entries).totals = h.held.outline_is.totals in
    let place : t.outline.totals.position ≡ log.before + length log.entries = ap (λ (x : Totals). x.position) at ∙ position-there c opening.found log.entries ∙ ap (λ (n : ℕ). n + length log.entries) (sym h.before_is) in
    record {
      position = omega (arith, place, is, low);
      host_blocks = omega (arith, h.held.few.few_host_blocks, few);
      media_blocks = omega (arith, h.held.few.few_media_blocks, few);
      erases = omega (arith, h.held.few.few_erases, few);
    }
