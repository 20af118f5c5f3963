-- What the cells read as while nothing is in doubt.
use Rattle.std.proofs.Common.{◌≡◌, ⊎_elim, false, IsTrue, Some, ap, sym, ◌∙◌}
use Rattle.fdp_core.specs.Seen.{ReadsAsEnd}
use Rattle.fdp_core.specs.Sound.{IsKept}
use Rattle.fdp_flash.specs.FlashState.{FlashState}
use Rattle.fdp_loading.specs.fdp_ledger.declared.counts.Counts.{Counts}
use Rattle.fdp_relocation.specs.fdp_book.Book.{BookSeen}
use Rattle.fdp_relocation.specs.fdp_keeper.Keeper.{KeeperSeen}
use Rattle.fdp_relocation.proofs.fdp_saving.Alone.{one_is_read, sure_says}

-- just what the history leaves, but for the sums
pub kept-reads : (handed : Counts) (f : FlashState) (b : BookSeen) (k : KeeperSeen) → IsKept handed f b k → IsTrue f.told → k.saver.in_doubt ≡ false → ReadsAsEnd f b
kept-reads handed f b k kept told sure =
    let h = kept.safe.at.durable told in
    let say = sure_says b.config k.saver f.cells h.own h.tried h.own (sym kept.safe.at.cut) h.saver sure h.say in
    (h.own.totals, ⊎_elim (λ own. own ∙ ap Some (h.sure sure)) (λ own. own ∙ ap Some (h.sure sure)) (one_is_read b.config k.saver f.cells h.own h.own say))
