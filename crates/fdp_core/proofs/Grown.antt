-- A step, from its begin on.
use Rattle.std.proofs.Common.{◌≡◌, ℕ, ◌<◌, false, List, [], ◌∷◌, ◌++◌, refl, sym, ◌∙◌, ap, subst, arith}
use Rattle.std.specs.Prelude.{IsTrue}
use Rattle.std.specs.List.{list_any}
use Rattle.std.proofs.lemmas.Bool.{false≢true}
use Rattle.fdp_base.specs.declared.command.Command.{Command}
use Rattle.fdp_base.specs.declared.entry.Entry.{Entry}
use Rattle.fdp_base.specs.declared.entry.Entry.TheVariants as entries
use Rattle.fdp_base.specs.declared.entry.Reply.{Reply}
use Rattle.fdp_relocation.specs.fdp_book.declared.ticket.Done.{Done}
use Rattle.fdp_relocation.specs.fdp_book.Book.{BookSeen, IsLonger, position_in}
use Rattle.fdp_calls.specs.Calls.{FailedAt, counted_more, has_failed}
use Rattle.fdp_calls.proofs.Made.{calls-same, counted_more-none}
use Rattle.fdp_core.specs.Seen.{Seen}
use Rattle.fdp_core.specs.Steps.{Adds, Completes, IsGrown, Matches, steps_of}
use Rattle.fdp_loading.proofs.fdp_ledger.Blank.{ErasesNoUnit, erased-none}
use Rattle.fdp_loading.proofs.fdp_ledger.Emptied.{emptied-none, same-emptied}
use Rattle.fdp_loading.specs.fdp_ledger.Told.{tells_failure}
use Rattle.fdp_core.proofs.Sound.{begun}
use Rattle.fdp_flash.specs.FlashState.{Call, FlashState}
use Rattle.fdp_rules.specs.Change.{is_media_error}
use Rattle.fdp_rules.specs.Totals.{media_blocks}

-- a step that added entries
pub grown : (b d : BookSeen) (es : List Entry) → steps_of es ≡ 1 → 0 < b.spare → IsLonger (begun b) d es → IsGrown b d es
grown b d es one spare longer = record {
  config_is = longer.config_is;
  found_is = longer.found_is;
  opened_is = longer.opened_is;
  entries_are = longer.entries_are;
  spent_is = omega (arith, longer.spent_is, one);
  spare_is = omega (arith, longer.spare_is, one, spare);
}

pub steps-behind : (es : List Entry) (e : Entry) → steps_of (es ++ e ∷ []) ≡ 1
steps-behind [] e = refl
steps-behind (x ∷ es) e = refl

pub adds : {F : Type 0} (state : F → FlashState) (old new : Seen F) (es : List Entry) (calls : List Call) → steps_of es ≡ 1 → 0 < old.book.spare → IsLonger (begun old.book) new.book es → new.handed ≡ old.handed → Matches (state old.flash) (state new.flash) es calls → Adds state old new es calls
adds state old new es calls one spare longer handed matches = record { book = grown old.book new.book es one spare longer; handed_is = handed; matches = matches }

-- ---- what the flash counted

-- no call, and no entry that tells of a page or of a failed call
pub matches-none : {F : Type 0} (state : F → FlashState) (old new : F) (es : List Entry) → new ≡ old → media_blocks es ≡ 0 → list_any tells_failure es ≡ false → ErasesNoUnit es → Matches (state old) (state new) es []
matches-none {F} state old new es same none quiet erases = record {
  made = calls-same state old new same;
  programs = ap (λ (x : F). (state x).programs) same ∙ sym (ap (counted_more (state old).programs) none ∙ counted_more-none (state old).programs);
  failed = λ wrong. absurd (false≢true (sym quiet ∙ wrong));
  erased = λ told. erased-none (state old).geometry (state new).cells es erases;
  emptied = λ told. emptied-none (state old).geometry (state old).cells (state new).cells es (same-emptied (state old).geometry (state old).cells (state new).cells (ap (λ (x : F). (state x).cells) same));
}

-- ---- a command that is completed

abbrev pub host : ℕ → ℕ → Command → Reply → ℕ → Entry
host queue number command reply moment = entries.Host (record { queue = queue; number = number; command = command; reply = reply; moment = moment })

-- how a step came to complete a command
pub record CameTo {F : Type 0} (state : F → FlashState) (old new : Seen F) (before : List Entry) (queue number : ℕ) (command : Command) (reply : Reply) (moment : ℕ) (calls : List Call) (done : Done) : Type 0 where
  pub longer : IsLonger (begun old.book) new.book (before ++ host queue number command reply moment ∷ [])
  pub done_is : done ≡ record { position = position_in new.book; moment = moment; reply = reply }
  pub handed : new.handed ≡ old.handed
  pub matches : Matches (state old.flash) (state new.flash) (before ++ host queue number command reply moment ∷ []) calls
  pub moment_is : is_media_error reply.status ≡ false → moment ≡ (state new.flash).moment
  pub failed : list_any has_failed calls ≡ is_media_error reply.status
  pub media : IsTrue (is_media_error reply.status) → FailedAt (state old.flash) (state new.flash) moment

pub completes : {F : Type 0} (state : F → FlashState) (old new : Seen F) (before : List Entry) (queue number : ℕ) (command : Command) (reply : Reply) (moment : ℕ) (calls : List Call) (done : Done) → 0 < old.book.spare → CameTo state old new before queue number command reply moment calls done → Completes state old new before queue number command calls done
completes state old new before queue number command reply moment calls done spare came =
    subst (λ (d : Done). Completes state old new before queue number command calls d) (sym came.done_is) (record {
      step = adds state old new (before ++ host queue number command reply moment ∷ []) calls (steps-behind before (host queue number command reply moment)) spare came.longer came.handed came.matches;
      position_is = refl;
      moment_is = came.moment_is;
      failed_is = came.failed;
      media = came.media;
    })
