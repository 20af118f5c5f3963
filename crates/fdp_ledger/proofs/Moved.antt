-- A pass was moved.
use Rattle.std.proofs.Common.{◌≡◌, ◌≢◌, ℕ, false, List, [], ◌∷◌, Option, Some, None, refl, sym, ◌∙◌, ap, subst, ⊎_elim}
use Rattle.std.specs.Prelude.{option_map, slice_index_or, slice_set}
use Rattle.std.specs.Option.{option_map_or}
use Rattle.std.proofs.lemmas.Bool.{cases_eq}
use Rattle.fdp_base.specs.declared.entry.Entry.TheVariants as entries
use Rattle.fdp_book.specs.Book.{BookSeen, point_in, state_in}
use Rattle.fdp_book.specs.Relocating.{MovesPass}
use Rattle.fdp_book.specs.fdp_collector.Step.{IsUncalled}
use Rattle.fdp_flash.specs.declared.cell.Cell.{Cell}
use Rattle.fdp_flash.specs.FlashState.{FlashState}
use Rattle.fdp_flash.specs.Runs.{Runs}
use Rattle.fdp_book.specs.fdp_pages.Joined.{AreJoined}
use Rattle.fdp_book.specs.fdp_pages.PageTables.{no_passes, passes_at}
use Rattle.fdp_book.specs.fdp_pages.Steps.{ended_move}
use Rattle.fdp_book.proofs.fdp_pages.Regrouped.{group-low, passes-here, passes-there}
use Rattle.fdp_passes.specs.GroupPasses.{GroupPasses, Pass, without_copies}
use Rattle.fdp_passes.specs.Place.{has_taken}
use Rattle.fdp_rules.specs.Sites.{moved_blocks}
use Rattle.fdp_units.specs.UnitTable.{IsGroup}
use Rattle.fdp_ledger.specs.declared.counts.Counts.{Counts}
use Rattle.fdp_ledger.specs.Start.{start_of}
use Rattle.fdp_ledger.specs.Ledger.{IsLedger}
use Rattle.fdp_ledger.specs.Told.{is_media_reply}
use Rattle.fdp_ledger.proofs.Called.{after-uncalled}
use Rattle.fdp_ledger.proofs.Entries.{quiet-one}
use Rattle.fdp_ledger.proofs.Ledgers.{KeepsFree, bound-none, still-ledger}
use Rattle.fdp_ledger.proofs.Moments.{passed-later, quiet-media}
use Rattle.fdp_ledger.proofs.Units.{recounts-keep}

-- a pass without its copies took a unit if it had taken one
ended-taken : (p : GroupPasses) → has_taken (ended_move p) ≡ has_taken p
ended-taken p = chosen p.pass where
  chosen : (o : Option Pass) → option_map_or (λ (pass : Pass). pass.took_unit) (option_map without_copies o) false ≡ option_map_or (λ (pass : Pass). pass.took_unit) o false
  chosen None = refl
  chosen (Some pass) = refl

moved-keep : (b new : BookSeen) (rg : ℕ) → AreJoined b.pages → MovesPass b new rg → KeepsFree b.pages new.pages
moved-keep b new rg joined step = record {
  units = recounts-keep b.pages.units new.pages.units new.pages.owners step.units;
  taken = λ k there. ap (λ (ps : List GroupPasses). has_taken (slice_index_or ps k no_passes)) step.passes ∙ ⊎_elim
      (λ (same : k ≡ rg).
      ap (λ (n : ℕ). has_taken (slice_index_or (slice_set b.pages.passes rg (ended_move (passes_at b.pages rg))) n no_passes)) same
      ∙ ap has_taken (passes-here b.pages rg (ended_move (passes_at b.pages rg)) (group-low b.pages rg joined (subst (IsGroup b.pages.units) same there)))
      ∙ ended-taken (passes_at b.pages rg) ∙ ap (λ (n : ℕ). has_taken (passes_at b.pages n)) (sym same))
      (λ (ne : k ≢ rg). ap has_taken (passes-there b.pages rg k (ended_move (passes_at b.pages rg)) ne))
      (cases_eq k rg);
}

pub ledger-moved : (handed : Counts) (b new : BookSeen) (old now : FlashState) (rg : ℕ) (Image : ℕ → List Cell → Type 0) → AreJoined b.pages → MovesPass b new rg → IsUncalled old now → Runs old now Image → IsLedger handed b old → IsLedger handed new now
ledger-moved handed b new old now rg Image joined step flash run was =
    let after = after-uncalled old now Image flash run in
    still-ledger handed b new old now [] (entries.Moved (record { rg = rg; blocks = moved_blocks (point_in b) rg }) ∷ []) step.longer after (λ unit. refl) flash.programs flash.cells
    (record { pages = refl; shut = refl; lost = refl; worn = refl; says = quiet-one (start_of b) b.entries _ (record { filled = refl; erased = refl }) })
    (moved-keep b new rg joined step)
    (bound-none handed was.handed_is is_media_reply b.entries _ old.faults now.faults after.faults was.counted.media_replies refl)
    (passed-later (state_in b).media (state_in new).media old.moment now.moment (quiet-media b new _ step.longer refl) after.moment was.moments)
    was
