-- What a journal that was read into a state makes of an area.
use Rattle.std.proofs.Common.{◌≡◌, ◌⊎◌, ℕ, suc, ◌+◌, length, sym, ap, subst, ◌∙◌, inr}
use Rattle.std.specs.List.{concat}
use Rattle.fdp_base.specs.declared.config.DriveConfig.{DriveConfig}
use Rattle.fdp_base.specs.declared.config.Geometry.{Geometry}
use Rattle.fdp_base.specs.Placement.{geometry_of}
use Rattle.fdp_flash.specs.Layout.{first_page}
use Rattle.fdp_image.specs.Areas.{Sealed, area_unit, record_page}
use Rattle.fdp_image.specs.Checkpoint.{reading_of_state, said_by_checkpoint}
use Rattle.fdp_image.specs.Reading.{Reading}
use Rattle.fdp_state.specs.fdp_replay.Replay.{IsBadAt, IsReplayed, IsUnfitAt}
use Rattle.fdp_snapshot.specs.declared.state.State.{State}
use Rattle.fdp_snapshot.specs.Reading.{state_in}
use Rattle.fdp_image.specs.Fits.{fits}
use Rattle.fdp_recovery.specs.Reading.{SaysNone, SaysSound, SaysState}

-- the state of a checkpoint says what its bytes do
said_first : (z : Sealed) (s : State) (r : Reading) → s ≡ state_in (concat z.checkpoint) → r ≡ reading_of_state s → r ≡ said_by_checkpoint (concat z.checkpoint)
unfolding said_by_checkpoint
said_first z s r state is = is ∙ ap reading_of_state state

pub whole_journal : (c : DriveConfig) (g : Geometry) (z : Sealed) (first last : State) (count : ℕ) (old new : Reading) → SaysState c g z first → old ≡ reading_of_state first → reading_of_state last ≡ new → count ≡ length z.journal
    → IsReplayed fits c z.journal count old new → SaysSound c g z last
whole_journal c g z first last count old new says start end all replayed =
    record {
      keys = says.keys;
      sound = record {
        checkpoint = says.sound;
        journal =
            subst (λ (n : ℕ). IsReplayed fits c z.journal n (said_by_checkpoint (concat z.checkpoint)) (reading_of_state last)) all
            (subst (λ (r : Reading). IsReplayed fits c z.journal count r (reading_of_state last)) (said_first z first old says.state start)
            (subst (λ (r : Reading). IsReplayed fits c z.journal count old r) (sym end) replayed));
      };
    }

pub bad_journal : (c : DriveConfig) (g : Geometry) (area : ℕ) (z : Sealed) (first : State) (number count seen page : ℕ) (old new : Reading) → g ≡ geometry_of c → SaysState c g z first → old ≡ reading_of_state first
    → length z.checkpoint ≡ count → z.before ≡ seen → IsReplayed fits c z.journal number old new → IsBadAt z.journal number ⊎ IsUnfitAt fits c z.journal number new
    → page ≡ first_page g (area_unit g area) + record_page count seen number → SaysNone c g area z page
bad_journal c g area z first number count seen page old new cut says start pages before replayed bad place =
    record {
      keys = says.keys;
      bad = inr (inr (record {
        checkpoint = says.sound;
        number = number;
        said = new;
        before = subst (λ (r : Reading). IsReplayed fits c z.journal number r new) (said_first z first old says.state start) replayed;
        bad = bad;
        place = place ∙ (λ i. first_page (cut i) (area_unit (cut i) area) + record_page (sym pages i) (sym before i) number);
      }));
    }
