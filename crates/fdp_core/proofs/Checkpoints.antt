-- A group behind a checkpoint, done or failed.
use Rattle.std.proofs.Common.{ℕ, ◌<◌, List, [], refl, sym, subst, arith}
use Rattle.std.specs.Prelude.{IsFalse}
use Rattle.std.proofs.lemmas.Bool.{false≢true}
use Rattle.std.proofs.lemmas.List.{append-nil}
use Rattle.std.proofs.lemmas.List.Elements.{All-nil}
use Rattle.fdp_flash.specs.declared.answer.Wrote.TheVariants as wrote
use Rattle.fdp_relocation.specs.fdp_book.Book.{BookSeen}
use Rattle.fdp_loading.specs.fdp_ledger.declared.counts.Counts.{Counts}
use Rattle.fdp_core.specs.Answers.{FailsToSave, SavesAll}
use Rattle.fdp_flash.specs.FlashState.{FlashState}
use Rattle.fdp_loading.specs.fdp_survival.Books.{IsInOrder, IsSafe, KeepsIsolated}
use Rattle.fdp_core.proofs.Passing.{IsPrefix, prefix-matches, written-prefix}
use Rattle.fdp_core.specs.Sound.{IsWhole}
use Rattle.fdp_relocation.specs.fdp_keeper.Keeper.{KeeperSeen, KeepsDrive}
use Rattle.fdp_core.specs.Stops.{OutlastsStops}
use Rattle.fdp_core.specs.Seen.{Seen}
use Rattle.fdp_core.proofs.Apart.{known-begun, safe-now, sound-isolated}
use Rattle.fdp_core.proofs.Sound.{begun, sound-begun}
use Rattle.fdp_image.specs.Kept.{is_owed}
use Rattle.fdp_core.proofs.Isolating.{data-prefix, leaves-data}
use Rattle.fdp_core.proofs.Kept.{kept-unwritten, kept-written}
use Rattle.fdp_core.proofs.Wholes.{low-faults}
use Rattle.fdp_core.proofs.Outlasting.{outlasts-stops}
use Rattle.fdp_loading.proofs.fdp_survival.Steps.{safe-written, survives-written}
use Rattle.fdp_core.proofs.Relocated.{sound-prefix}
use Rattle.fdp_relocation.proofs.fdp_saving.Failing.{written_failed}
use Rattle.fdp_core.proofs.Roomy.{leaves-checkpoint}

module _ {F : Type 0} (state : F → FlashState) (x y : F) (handed : Counts) (b : BookSeen) (k l : KeeperSeen) (block : List ℕ) (order : IsInOrder b) (whole : IsWhole handed (state x) b k block) where
  abbrev before : Seen F
  before = record { book = b; keeper = k; handed = handed; flash = x }

  apart-before : KeepsIsolated (state x) b
  apart-before = sound-isolated handed (state x) b block order.known whole.sound

  -- ---- it was written

  module _ (keeps : KeepsDrive b k l (state x) (state y) wrote.Done) where
    written : IsPrefix b (state x) (state y) keeps.saves.calls.calls
    written = written-prefix b k.saver l.saver k.firm (state x) (state y) wrote.Done whole.kept.safe keeps.saves

    safe-there : IsSafe b l.saver l.firm (state y)
    safe-there =
        subst (λ (firm : ℕ). IsSafe b l.saver firm (state y)) (sym keeps.firm_is)
        (safe-written b k.saver l.saver k.firm (state x) (state y) wrote.Done order whole.sound.geometry whole.sound.stored apart-before whole.kept.safe keeps.saves)

    pub written-whole : IsWhole handed (state y) (begun b) l block
    written-whole = record {
      sound = sound-begun handed (state y) b block (sound-prefix handed (state x) (state y) b keeps.saves.calls.calls block order.known written whole.sound);
      kept = kept-written handed (state x) (state y) b (begun b) k l wrote.Done order.known.config refl whole.kept (low-faults handed b (state x) whole.sound.ledger) refl refl keeps.saves (record { geometry = keeps.keeper.geometry }) safe-there;
    }

    pub written-stops : OutlastsStops state before (record { book = begun b; keeper = l; handed = handed; flash = y })
    written-stops =
        outlasts-stops state before (record { book = begun b; keeper = l; handed = handed; flash = y }) [] refl refl refl (sym (append-nil b.entries)) whole.kept.safe.at.firm_is (All-nil (λ e. IsFalse (is_owed (state y).moment e)))
        (survives-written b k.saver l.saver k.firm (state x) (state y) wrote.Done order whole.sound.geometry whole.sound.stored apart-before whole.kept.safe keeps.saves) (safe-now handed (state y) (begun b) l block (known-begun b order.known) written-whole)
        (let all = keeps.firm_is in omega (arith, all, whole.kept.safe.at.within))
        (leaves-checkpoint handed (state x) (state y) b k block order.known whole keeps.saves.calls.made.run.faults l.saver wrote.Done keeps.saves)
        (leaves-data b (begun b) (state x) (state y) refl refl refl (data-prefix b (state x) (state y) keeps.saves.calls.calls written) (safe-now handed (state y) (begun b) l block (known-begun b order.known) written-whole).isolated)

    pub saves-all : 0 < b.spare → SavesAll state before (record { book = begun b; keeper = l; handed = handed; flash = y })
    saves-all spare = record {
      summary = keeps.saves.given.summary;
      calls = keeps.saves.calls.calls;
      saved = keeps.saves.calls.are;
      matches = prefix-matches b (state x) (state y) keeps.saves.calls.calls [] whole.sound.geometry refl (λ wrong. absurd (false≢true wrong)) (λ unit. refl) written;
      handed_is = refl;
      book = refl;
      spent_is = refl;
      spare_is = omega (arith, spare);
      firm = keeps.firm_is;
    }

  -- ---- a call of it failed

  module _ (keeps : KeepsDrive b k l (state x) (state y) wrote.Failed) where
    unwritten : IsPrefix b (state x) (state y) keeps.saves.calls.calls
    unwritten = written-prefix b k.saver l.saver k.firm (state x) (state y) wrote.Failed whole.kept.safe keeps.saves

    still-safe : IsSafe b l.saver l.firm (state y)
    still-safe =
        subst (λ (firm : ℕ). IsSafe b l.saver firm (state y)) (sym keeps.firm_is)
        (safe-written b k.saver l.saver k.firm (state x) (state y) wrote.Failed order whole.sound.geometry whole.sound.stored apart-before whole.kept.safe keeps.saves)

    pub unwritten-whole : IsWhole handed (state y) b l block
    unwritten-whole = record {
      sound = sound-prefix handed (state x) (state y) b keeps.saves.calls.calls block order.known unwritten whole.sound;
      kept = kept-unwritten handed (state x) (state y) b k l whole.kept (low-faults handed b (state x) whole.sound.ledger) keeps.saves keeps.keeper still-safe;
    }

    pub unwritten-stops : OutlastsStops state before (record { book = b; keeper = l; handed = handed; flash = y })
    unwritten-stops =
        outlasts-stops state before (record { book = b; keeper = l; handed = handed; flash = y }) [] refl refl refl (sym (append-nil b.entries)) whole.kept.safe.at.firm_is (All-nil (λ e. IsFalse (is_owed (state y).moment e)))
        (survives-written b k.saver l.saver k.firm (state x) (state y) wrote.Failed order whole.sound.geometry whole.sound.stored apart-before whole.kept.safe keeps.saves) (safe-now handed (state y) b l block order.known unwritten-whole)
        (let same = keeps.firm_is in omega (arith, same))
        (leaves-checkpoint handed (state x) (state y) b k block order.known whole keeps.saves.calls.made.run.faults l.saver wrote.Failed keeps.saves)
        (leaves-data b b (state x) (state y) refl refl refl (data-prefix b (state x) (state y) keeps.saves.calls.calls unwritten) (safe-now handed (state y) b l block order.known unwritten-whole).isolated)

    pub fails-to-save : FailsToSave state before (record { book = b; keeper = l; handed = handed; flash = y })
    fails-to-save = record {
      summary = keeps.saves.given.summary;
      calls = keeps.saves.calls.calls;
      saved = keeps.saves.calls.are;
      matches = prefix-matches b (state x) (state y) keeps.saves.calls.calls [] whole.sound.geometry refl (λ wrong. absurd (false≢true wrong)) (λ unit. refl) unwritten;
      fails = written_failed k.saver keeps.saves.given.summary keeps.saves.calls.calls keeps.saves.calls.are;
      handed_is = refl;
      book = refl;
    }
