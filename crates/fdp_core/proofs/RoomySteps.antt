-- Whatever a stop leaves of a step of relocation is roomy, as long as no call failed.
use Rattle.std.proofs.Common.{◌≡◌, ℕ, ◌≤◌, true, List, refl, sym, inl, inr, not, arith}
use Rattle.fdp_base.specs.declared.entry.Entry.TheVariants as entries
use Rattle.fdp_base.specs.Counts.{Rose}
use Rattle.fdp_core.specs.Sound.{IsWhole}
use Rattle.fdp_core.proofs.Roomy.{LeftRoomy, leaves-saving, never-doubt}
use Rattle.fdp_flash.specs.FlashState.{FlashState}
use Rattle.fdp_loading.specs.fdp_isolation.Laned.{IsKnown}
use Rattle.fdp_loading.specs.fdp_ledger.declared.counts.Counts.{Counts}
use Rattle.fdp_loading.specs.fdp_survival.Books.{IsInOrder}
use Rattle.fdp_relocation.specs.declared.advance.Advance.{Advance}
use Rattle.fdp_relocation.specs.declared.advance.Advance.TheVariants as advance
use Rattle.fdp_relocation.specs.Collected.{Collects, Moves, SavesMove, Stage, Steps, StepsSettled}
use Rattle.fdp_relocation.specs.fdp_book.Book.{point_in}
use Rattle.fdp_relocation.specs.fdp_collector.declared.step.Lost.TheVariants as lost
use Rattle.fdp_relocation.specs.fdp_collector.declared.step.Step.{Step}
use Rattle.fdp_relocation.specs.fdp_collector.declared.step.Step.TheVariants as steps
use Rattle.fdp_relocation.specs.fdp_saving.declared.saved.Saved.{Saved}
use Rattle.fdp_relocation.specs.fdp_saving.declared.saved.Saved.TheVariants as savings
use Rattle.fdp_relocation.proofs.Resting.{uncalled-run}
use Rattle.fdp_rules.specs.Sites.{moved_blocks}
use Rattle.fdp_roominess.specs.Run.{IsRoomyImage, KeepsRoom}
use Rattle.fdp_roominess.proofs.Images.{roomy-step}

module _ {F : Type 0} (state : F → FlashState) (old new : Stage F) (rg : ℕ) (handed : Counts) (block : List ℕ) (order : IsInOrder old.book) (whole : IsWhole handed (state old.flash) old.book old.keeper block) (then_known : IsKnown new.book)
    (then_room : KeepsRoom handed.faults (state new.flash).faults (state new.flash).told new.book) where
  abbrev IsLeftSo : Type 0
  IsLeftSo = LeftRoomy handed (state old.flash) (state new.flash) old.book

  -- a step that called no system unit
  stepped : (step : Step) → Steps state old new rg step → IsLeftSo
  stepped step h began well =
      let up = h.run.faults in
      let early : Rose handed.faults (state old.flash).faults → ⊥ = λ rose. well (omega (arith, rose, up)) in
      roomy-step old.book order.known (whole.sound.room.room began early) old.keeper.saver old.keeper.firm old.book.pages.units (sym whole.kept.safe.at.cut) (never-doubt handed (state old.flash) old.book old.keeper whole.kept early)
      (state old.flash) (state new.flash) whole.kept.safe.at.sealed whole.kept.safe.at.durable (not old.keeper.saver.in_doubt) refl order.standing whole.sound.geometry h.run

  -- a move
  moved : (answer : Saved) → Moves state old new rg answer → IsLeftSo
  moved answer h = chosen h.saved where
    chosen : SavesMove state old new rg answer → IsLeftSo
    chosen (inl none) = λ began well. uncalled-run (state old.flash) (state new.flash) (λ m image. IsRoomyImage old.book.config image) none.3
    chosen (inr some) =
        leaves-saving handed (state old.flash) (state new.flash) old.book old.keeper block order.known whole some.1.saves.calls.made.run.faults (entries.Moved (record { rg = rg; blocks = moved_blocks (point_in old.book) rg })) new.book then_known then_room
        some.1.saves.calls.made.run.told h.moved.longer new.keeper.saver answer some.1.saves

  -- a doubt tells of a call that failed
  doubted : old.keeper.saver.in_doubt ≡ true → (state old.flash).faults ≤ (state new.flash).faults → IsLeftSo
  doubted doubt up began well = absurd (well (let rose : Rose handed.faults (state old.flash).faults = whole.kept.doubt doubt in omega (arith, rose, up)))

  settled : (step : Step) → StepsSettled state old new rg step → IsLeftSo
  settled step h = doubted h.doubt (let first = h.settled.saves.calls.made.run.faults in let last = h.run.faults in omega (arith, first, last))

  -- each answer
  pub leaves-collected : (x : Advance) → Collects state old new rg x → IsLeftSo
  leaves-collected advance.Nothing h = stepped steps.Nothing h
  leaves-collected advance.Copied h = stepped (steps.Copied h.0) h.1
  leaves-collected advance.Moved h = moved savings.Done h
  leaves-collected advance.Erased (unit, inl h) = stepped (steps.Erased unit) h
  leaves-collected advance.Erased (unit, inr h) = settled (steps.Erased unit) h
  leaves-collected advance.Starved h = stepped steps.Starved h
  leaves-collected advance.Fault (inl h) = stepped (steps.Fault h.0) h.1
  leaves-collected advance.Fault (inr (inl h)) = settled (steps.Fault (lost.Retired h.0)) h.1
  leaves-collected advance.Fault (inr (inr (inl h))) = doubted h.doubt h.failed.saves.calls.made.run.faults
  leaves-collected advance.Fault (inr (inr (inr h))) = moved h.0 h.2
