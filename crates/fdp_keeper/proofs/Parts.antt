-- From what a keeper is seen as to its parts.
use Rattle.std.proofs.Common.{◌≡◌, ℕ, [], ◌∷◌, ap, ◌∙◌, subst, true}
use Rattle.fdp_base.specs.declared.entry.Entry.{Entry}
use Rattle.fdp_book.specs.Book.{BookSeen}
use Rattle.fdp_flash.specs.FlashState.{FlashState}
use Rattle.fdp_durability.specs.fdp_journal.JournalState.{JournalState}
use Rattle.fdp_durability.specs.Saved.{SavesDrive, SavesEntries, SettlesDrive, firm_renewed, firm_with}
use Rattle.fdp_flash.specs.declared.answer.Wrote.{Wrote}
use Rattle.fdp_durability.specs.fdp_saving.declared.saved.Saved.{Saved}
use Rattle.fdp_keeper.specs.Keeper.{CanGive, CanSave, KeeperSeen, KeepsDrive, KeepsEntry, KeepsSettled}

-- the saver of a keeper that can save can be given the drive
pub can-give : (b : BookSeen) (k : KeeperSeen) (saver : JournalState) (firm : ℕ) (state : FlashState) → record { saver = saver; firm = firm } ≡ k → CanSave b k state → CanGive b saver state
can-give b k saver firm state is can = subst (λ (x : KeeperSeen). CanSave b x state → CanGive b saver state) is (λ (h : CanSave b (record { saver = saver; firm = firm }) state). record {
  of_drive = h.keeper.geometry;
  geometry = h.geometry;
  epoch = h.epoch;
  stands = h.saver;
}) can

saver-is : (k : KeeperSeen) (saver : JournalState) (firm : ℕ) → record { saver = saver; firm = firm } ≡ k → saver ≡ k.saver
saver-is k saver firm is = ap (λ (x : KeeperSeen). x.saver) is

pub kept-drive : (b : BookSeen) (k : KeeperSeen) (saver now : JournalState) (firm more : ℕ) (before after : FlashState) (answer : Wrote) → record { saver = saver; firm = firm } ≡ k → CanSave b k before → SavesDrive b.config b.found b.entries saver now before after answer → now.geometry ≡ saver.geometry → more ≡ firm_renewed true b.entries firm answer → KeepsDrive b k (record { saver = now; firm = more }) before after answer
kept-drive b k saver now firm more before after answer is can saves same firm_is = record {
  saves = subst (λ (x : JournalState). SavesDrive b.config b.found b.entries x now before after answer) (saver-is k saver firm is) saves;
  keeper = record { geometry = same ∙ (can-give b k saver firm before is can).of_drive };
  firm_is = firm_is ∙ ap (λ (x : KeeperSeen). firm_renewed true b.entries x.firm answer) is;
}

pub kept-settled : (b : BookSeen) (k : KeeperSeen) (saver now : JournalState) (firm more : ℕ) (before after : FlashState) (answer : Wrote) → record { saver = saver; firm = firm } ≡ k → CanSave b k before → SettlesDrive b.config b.found b.entries saver now before after answer → now.geometry ≡ saver.geometry → more ≡ firm_renewed saver.in_doubt b.entries firm answer → KeepsSettled b k (record { saver = now; firm = more }) before after answer
kept-settled b k saver now firm more before after answer is can saves same firm_is = record {
  saves = subst (λ (x : JournalState). SettlesDrive b.config b.found b.entries x now before after answer) (saver-is k saver firm is) saves;
  keeper = record { geometry = same ∙ (can-give b k saver firm before is can).of_drive };
  firm_is = firm_is ∙ ap (λ (x : KeeperSeen). firm_renewed x.saver.in_doubt b.entries x.firm answer) is;
}

pub kept-entry : (b : BookSeen) (e : Entry) (k : KeeperSeen) (saver now : JournalState) (firm more : ℕ) (before after : FlashState) (answer : Saved) → record { saver = saver; firm = firm } ≡ k → SavesEntries b.config b.found b.entries (e ∷ []) saver now before after answer → now.geometry ≡ saver.geometry → more ≡ firm_with b.entries (e ∷ []) firm answer → KeepsEntry b e k (record { saver = now; firm = more }) before after answer
kept-entry b e k saver now firm more before after answer is saves same firm_is = record {
  saves = subst (λ (x : JournalState). SavesEntries b.config b.found b.entries (e ∷ []) x now before after answer) (saver-is k saver firm is) saves;
  geometry = same ∙ ap (λ (x : JournalState). x.geometry) (saver-is k saver firm is);
  firm_is = firm_is ∙ ap (λ (x : KeeperSeen). firm_with b.entries (e ∷ []) x.firm answer) is;
}
