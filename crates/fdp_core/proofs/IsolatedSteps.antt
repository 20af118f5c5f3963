-- What a step of relocation leaves of isolation.
use Rattle.std.proofs.Common.{◌≡◌, ℕ, ◌<◌, Bool, true, List, [], refl, ap, not, inl, inr}
use Rattle.std.specs.Prelude.{IsTrue}
use Rattle.fdp_base.specs.Placement.{geometry_of}
use Rattle.fdp_core.specs.Stops.{KeepsPart, RetainsBehind}
use Rattle.fdp_core.proofs.Isolating.{LeavesData, bridge-retained, data-prefix, part-data, part-joined}
use Rattle.fdp_core.proofs.Passing.{prefix-apart, prefix-stands, resting-prefix, runs-saying, saving-prefix, settled-prefix}
use Rattle.fdp_flash.specs.declared.answer.Wrote.TheVariants as wrote
use Rattle.fdp_flash.specs.declared.cell.Cell.{Cell}
use Rattle.fdp_flash.specs.FlashState.{FlashState}
use Rattle.fdp_flash.specs.Runs.{Runs}
use Rattle.fdp_loading.specs.fdp_isolation.Laned.{IsKnown, StandsOver}
use Rattle.fdp_loading.specs.fdp_isolation.Stays.{IsSameSetting, StaysIsolated}
use Rattle.fdp_loading.specs.fdp_survival.Books.{IsSafe, KeepsApart}
use Rattle.fdp_loading.proofs.fdp_isolation.Later.{copied-keeps, left-stays, relocated-first, setting-same, stays-before}
use Rattle.fdp_loading.proofs.fdp_isolation.Stopped.{step-ended, step-left}
use Rattle.fdp_loading.proofs.fdp_survival.Steps.{HoldsBook, stands-over}
use Rattle.fdp_relocation.specs.declared.advance.Advance.{Advance}
use Rattle.fdp_relocation.specs.declared.advance.Advance.TheVariants as advance
use Rattle.fdp_relocation.specs.Collected.{Collects, FailsToSettle, Moves, SavesMove, Stage, Steps, StepsSettled}
use Rattle.fdp_relocation.specs.fdp_book.Book.{BookSeen, state_in}
use Rattle.fdp_relocation.specs.fdp_book.Relocating.{Relocates}
use Rattle.fdp_relocation.specs.fdp_collector.declared.step.Lost.TheVariants as lost
use Rattle.fdp_relocation.specs.fdp_collector.declared.step.Step.{Step}
use Rattle.fdp_relocation.specs.fdp_collector.declared.step.Step.TheVariants as steps
use Rattle.fdp_relocation.specs.fdp_saving.declared.saved.Saved.{Saved}
use Rattle.fdp_relocation.specs.fdp_saving.declared.saved.Saved.TheVariants as savings

-- a step of relocation of a book
module _ (b d : BookSeen) (f n : FlashState) (rg : ℕ) (may : Bool) (known : IsKnown b) (then_known : IsKnown d) (low : rg < b.config.groups) (geometry : f.geometry ≡ geometry_of b.config) (stored : HoldsBook b f) (apart : KeepsApart f b) (setting : IsSameSetting (state_in b) (state_in d)) where
  over : IsTrue f.told → StandsOver b f.cells
  over told = stands-over b f known geometry stored told

  part-relocated : (Image : ℕ → List Cell → Type 0) → Runs f n Image → (step : Step) → Relocates b d f n rg may step → KeepsPart b d f n
  part-relocated Image run step h = record {
    within = λ opened. record {
      images = runs-saying f n Image (λ m image. StaysIsolated b.config (state_in b) f.cells image) run
          (λ told m image above most during. left-stays b.config (state_in b) f.cells image (step-left b d f n rg may told geometry low (over told) (apart told opened).laned step h m image above most during));
      cells = λ told. left-stays b.config (state_in b) f.cells n.cells (step-ended b d f n rg may told geometry low (over told) (apart told opened).laned step h);
    };
    setting = setting;
    first = λ told opened now. relocated-first b d f n rg may told geometry low (over told) (apart told opened).laned then_known now step h;
  }

module _ {F : Type 0} (state : F → FlashState) (old new : Stage F) (rg : ℕ) (known : IsKnown old.book) (then_known : IsKnown new.book) (low : rg < old.book.config.groups) (geometry : (state old.flash).geometry ≡ geometry_of old.book.config) (stored : HoldsBook old.book (state old.flash)) (apart : KeepsApart (state old.flash) old.book)
    (safe : IsSafe old.book old.keeper.saver old.keeper.firm (state old.flash)) (setting : IsSameSetting (state_in old.book) (state_in new.book)) where
  abbrev IsKept : Type 0
  IsKept = KeepsPart old.book new.book (state old.flash) (state new.flash)

  -- a step that called no system unit
  stepped : (step : Step) → Steps state old new rg step → IsKept
  stepped step h = part-relocated old.book new.book (state old.flash) (state new.flash) rg (not old.keeper.saver.in_doubt) known then_known low geometry stored apart setting _ h.run step h.made

  -- a move leaves the pages of data
  moved-data : (answer : Saved) → Moves state old new rg answer → LeavesData old.book.config (state old.flash) (state new.flash)
  moved-data answer h = chosen h.saved where
    chosen : SavesMove state old new rg answer → LeavesData old.book.config (state old.flash) (state new.flash)
    chosen (inl none) = data-prefix old.book (state old.flash) (state new.flash) [] (resting-prefix old.book (state old.flash) (state new.flash) none.3)
    chosen (inr some) = data-prefix old.book (state old.flash) (state new.flash) some.1.saves.calls.calls (saving-prefix old.book _ old.keeper.saver new.keeper.saver old.keeper.firm (state old.flash) (state new.flash) answer safe some.1.saves)

  moved : (answer : Saved) → Moves state old new rg answer → IsKept
  moved answer h = part-data old.book new.book (state old.flash) (state new.flash) h.moved.longer.config_is setting (moved-data answer h)

  -- an erase behind the end of a doubt
  settled : (step : Step) → StepsSettled state old new rg step → IsKept
  settled step h =
      let prefix = settled-prefix old.book old.keeper.saver new.keeper.saver old.keeper.firm (state old.flash) (state h.middle) wrote.Done safe h.settled.saves in
      let saved = data-prefix old.book (state old.flash) (state h.middle) h.settled.saves.calls.calls prefix in
      let stands = prefix-stands old.book (state old.flash) (state h.middle) h.settled.saves.calls.calls (record { known = known; geometry = geometry; stored = stored }) prefix in
      let rest = part-relocated old.book new.book (state h.middle) (state new.flash) rg true known then_known low stands.geometry stands.stored (prefix-apart old.book (state old.flash) (state h.middle) h.settled.saves.calls.calls prefix apart) setting _ h.run step h.made in
      part-joined old.book old.book new.book (state old.flash) (state h.middle) (state new.flash) refl refl refl saved.images.told
      (part-data old.book old.book (state old.flash) (state h.middle) refl (setting-same (state_in old.book)) saved) rest
      (bridge-retained old.book old.book new.book (state old.flash) (state h.middle) h.made.longer.config_is (setting-same (state_in old.book)) setting (λ told opened. stays-before old.book.config (state_in old.book) (state old.flash).cells (state h.middle).cells (saved.cells told)))

  unsettled : FailsToSettle state old new rg → IsKept
  unsettled h =
      part-data old.book new.book (state old.flash) (state new.flash) (ap (λ (b : BookSeen). b.config) h.book) setting
      (data-prefix old.book (state old.flash) (state new.flash) h.failed.saves.calls.calls (settled-prefix old.book old.keeper.saver new.keeper.saver old.keeper.firm (state old.flash) (state new.flash) wrote.Failed safe h.failed.saves))

  -- each answer
  pub keeps-collected : (x : Advance) → Collects state old new rg x → IsKept
  keeps-collected advance.Nothing h = stepped steps.Nothing h
  keeps-collected advance.Copied h = stepped (steps.Copied h.0) h.1
  keeps-collected advance.Moved h = moved savings.Done h
  keeps-collected advance.Erased (unit, inl h) = stepped (steps.Erased unit) h
  keeps-collected advance.Erased (unit, inr h) = settled (steps.Erased unit) h
  keeps-collected advance.Starved h = stepped steps.Starved h
  keeps-collected advance.Fault (inl h) = stepped (steps.Fault h.0) h.1
  keeps-collected advance.Fault (inr (inl h)) = settled (steps.Fault (lost.Retired h.0)) h.1
  keeps-collected advance.Fault (inr (inr (inl h))) = unsettled h
  keeps-collected advance.Fault (inr (inr (inr h))) = moved h.0 h.2

  -- behind a copy and behind a move each whole page stands still
  pub retains-collected : (x : Advance) → Collects state old new rg x → RetainsBehind old.book (state old.flash) (state new.flash) x
  retains-collected advance.Nothing h = tt
  retains-collected advance.Copied h = λ told opened.
      left-stays old.book.config (state_in old.book) (state new.flash).cells (state old.flash).cells
      (inl (copied-keeps old.book new.book (state old.flash) (state new.flash) rg (not old.keeper.saver.in_doubt) told geometry low (stands-over old.book (state old.flash) known geometry stored told) (apart told opened).laned h.0 h.1.made))
  retains-collected advance.Moved h = λ told opened. let saved = moved-data savings.Done h in stays-before old.book.config (state_in old.book) (state old.flash).cells (state new.flash).cells (saved.cells told)
  retains-collected advance.Erased h = tt
  retains-collected advance.Starved h = tt
  retains-collected advance.Fault h = tt
