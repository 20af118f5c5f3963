-- What saves a drive stands for its history behind each step.
use Rattle.std.proofs.Common.{◌≡◌, ℕ, ◌+◌, ◌^◌, ◌≤◌, Bool, true, false, cond, IsTrue, List, [], ◌∷◌, length, refl, sym, ◌∙◌, ap, subst, arith, length-append}
use Rattle.std.specs.Prelude.{count_by}
use Rattle.fdp_base.specs.declared.config.DriveConfig.{DriveConfig}
use Rattle.fdp_base.specs.declared.entry.Entry.{Entry}
use Rattle.fdp_base.specs.declared.entry.Entry.TheVariants as entries
use Rattle.fdp_base.specs.declared.entry.Spot.{Spot}
use Rattle.fdp_base.specs.declared.status.Status.{Status}
use Rattle.fdp_base.specs.Config.{IsValidConfig}
use Rattle.fdp_base.specs.Counts.{Rose}
use Rattle.fdp_base.specs.Placement.{geometry_of}
use Rattle.fdp_relocation.specs.fdp_book.declared.ticket.Done.{Done}
use Rattle.fdp_relocation.specs.fdp_book.declared.ticket.Ticket.{Ticket}
use Rattle.fdp_relocation.specs.fdp_book.Book.{BookSeen, IsLonger}
use Rattle.fdp_relocation.specs.fdp_book.Shutting.{ShutsAndEnds}
use Rattle.fdp_core.specs.Sound.{IsKept}
use Rattle.fdp_core.proofs.Sound.{begun}
use Rattle.fdp_relocation.specs.fdp_durability.Saved.{SavesDrive, SavesEntries, SettlesDrive}
use Rattle.fdp_flash.specs.declared.answer.Wrote.{Wrote}
use Rattle.fdp_flash.specs.declared.answer.Wrote.TheVariants as wrote
use Rattle.fdp_flash.specs.declared.cell.Cell.{Cell}
use Rattle.fdp_flash.specs.FlashState.{FlashState}
use Rattle.fdp_relocation.specs.fdp_journal.JournalState.{JournalState}
use Rattle.fdp_relocation.specs.fdp_keeper.Keeper.{IsKeeperOf, KeepsEntry, KeeperSeen}
use Rattle.fdp_loading.specs.fdp_ledger.declared.counts.Counts.{Counts}
use Rattle.fdp_relocation.specs.fdp_pages.PageTables.{PageTables}
use Rattle.fdp_rules.specs.Answer.{bare}
use Rattle.fdp_rules.specs.History.{Found}
use Rattle.fdp_rules.specs.PlainState.{Going}
use Rattle.fdp_relocation.specs.fdp_saving.declared.saved.Saved.{Saved}
use Rattle.fdp_relocation.specs.fdp_saving.declared.saved.Saved.TheVariants as answers
use Rattle.fdp_relocation.specs.fdp_saving.Saver.{after_checkpoint, after_saving, needs_checkpoint, renewed}
use Rattle.fdp_relocation.specs.fdp_saving.Saving.{EndsCheckpoint, EndsSaving}
use Rattle.fdp_relocation.proofs.fdp_saving.Joined.{ready_sure}
use Rattle.fdp_snapshot.specs.declared.state.Summary.{Summary}
use Rattle.fdp_loading.specs.JournalRoom.{HasSixteen, is_lasting, savings_left}
use Rattle.fdp_loading.proofs.JournalRoom.{saved-left, settled-left, written-left}
use Rattle.fdp_loading.proofs.fdp_ledger.Entries.{count-push}
use Rattle.fdp_loading.specs.fdp_survival.Books.{IsSafe}
use Rattle.fdp_loading.specs.fdp_survival.Safe.{IsSafeApart}

no : true ≡ false → ⊥
no e = cc

-- ---- the keeper

-- of a book of the same configuration, with a saver that is cut as before
keeper-of : (b d : BookSeen) (k l : KeeperSeen) → d.config ≡ b.config → IsKeeperOf b k → l.saver.geometry ≡ k.saver.geometry → IsKeeperOf d l
keeper-of b d k l config kept geometry = record { geometry = geometry ∙ kept.geometry ∙ ap geometry_of (sym config) }

-- ---- faults and epochs

-- a fault that was counted is one since the flash was handed in
rose-on : (handed before now : ℕ) → handed ≤ before → Rose before now → Rose handed now
rose-on handed before now low rose = omega (arith, low, rose)

later-rose : (handed before now : ℕ) → before ≤ now → Rose handed before → Rose handed now
later-rose handed before now later rose = omega (arith, later, rose)

-- a checkpoint takes one epoch more
renewed-epoch : (wanted : Bool) (s : JournalState) (summary : Summary) → (renewed wanted s summary).stamp.epoch ≤ s.stamp.epoch + 1
renewed-epoch true s summary = omega arith
renewed-epoch false s summary = omega arith

saved-epoch : (s : JournalState) (summary : Summary) (answer : Saved) → (after_saving s summary answer).stamp.epoch ≤ s.stamp.epoch + 1
saved-epoch s summary answers.Done = renewed-epoch (needs_checkpoint s) s summary
saved-epoch s summary (answers.Doubtful moment) = renewed-epoch (needs_checkpoint s) s summary
saved-epoch s summary (answers.Unsaved moment) = omega arith

-- behind a saving there is a doubt only where its last call failed
saved-doubt : (s : JournalState) (summary : Summary) (answer : Saved) (f n : FlashState) (handed : ℕ) → handed ≤ f.faults → EndsSaving f n answer → (after_saving s summary answer).in_doubt ≡ true → Rose handed n.faults
saved-doubt s summary answers.Done f n handed low ends doubt = absurd (no (sym doubt ∙ ready_sure s summary))
saved-doubt s summary (answers.Doubtful moment) f n handed low ends doubt = rose-on handed f.faults n.faults low ends.faulted.rose
saved-doubt s summary (answers.Unsaved moment) f n handed low ends doubt = rose-on handed f.faults n.faults low ends.faulted.rose

checkpoint-epoch : (s : JournalState) (summary : Summary) (answer : Wrote) → (after_checkpoint s summary answer).stamp.epoch ≤ s.stamp.epoch + 1
checkpoint-epoch s summary wrote.Done = omega arith
checkpoint-epoch s summary wrote.Failed = omega arith

checkpoint-doubt : (s : JournalState) (summary : Summary) (answer : Wrote) (f n : FlashState) (handed : ℕ) → handed ≤ f.faults → EndsCheckpoint f n answer → (after_checkpoint s summary answer).in_doubt ≡ true → Rose handed n.faults
checkpoint-doubt s summary wrote.Done f n handed low ends doubt = absurd (no (sym doubt))
checkpoint-doubt s summary wrote.Failed f n handed low ends doubt = rose-on handed f.faults n.faults low ends.faulted.rose

-- ---- the pages that are left

-- lasting entries that were added
one-lasting : (e : Entry) → IsTrue (is_lasting e) → 1 ≤ count_by is_lasting (e ∷ [])
one-lasting e is = omega (arith, ap (λ (x : Bool). 0 + cond {A = ℕ} x 1 0) is)

more-lasting : (b d : BookSeen) (es : List Entry) → IsLonger b d es → count_by is_lasting d.entries ≡ count_by is_lasting b.entries + count_by is_lasting es
more-lasting b d es longer = ap (count_by is_lasting) longer.entries_are ∙ count-push is_lasting b.entries es

same-left : (b d : BookSeen) (s : JournalState) → d.config ≡ b.config → savings_left d.config s ≡ savings_left b.config s
same-left b d s config = ap (λ (c : DriveConfig). savings_left c s) config

-- ---- what is kept

-- the keeper stays, while the history goes on
pub kept-on : (handed : Counts) (f n : FlashState) (b d : BookSeen) (es : List Entry) (k : KeeperSeen) → IsKept handed f b k → IsLonger b d es → f.faults ≤ n.faults → IsSafe d k.saver k.firm n → IsKept handed n d k
kept-on handed f n b d es k was longer later safe =
    let size : length d.entries ≡ length b.entries + length es = ap length longer.entries_are ∙ length-append b.entries es in
    record {
      keeper = keeper-of b d k k longer.config_is was.keeper refl;
      safe = safe;
      epochs = omega (arith, was.epochs, size, longer.spent_is);
      doubt = λ doubt. later-rose handed.faults f.faults n.faults later (was.doubt doubt);
      sixteen = omega (arith, was.sixteen, more-lasting b d es longer, same-left b d k.saver longer.config_is);
    }

-- over a flash that was called
pub kept-over : (handed : Counts) (f n : FlashState) (b : BookSeen) (k : KeeperSeen) → IsKept handed f b k → f.faults ≤ n.faults → IsSafe b k.saver k.firm n → IsKept handed n b k
kept-over handed f n b k was later safe = record {
  keeper = was.keeper;
  safe = safe;
  epochs = was.epochs;
  doubt = λ doubt. later-rose handed.faults f.faults n.faults later (was.doubt doubt);
  sixteen = was.sixteen;
}

-- a book with other counts of steps
pub kept-alike : (handed : Counts) (f : FlashState) (b d : BookSeen) (k : KeeperSeen) → d.config ≡ b.config → d.found ≡ b.found → d.opened ≡ b.opened → d.entries ≡ b.entries → d.pages ≡ b.pages → k.saver.stamp.epoch ≤ 2 ^ 62 + length d.entries + d.spent → IsKept handed f b k → IsKept handed f d k
kept-alike handed f b d k config found opened entries_are pages epochs was = record {
  keeper = keeper-of b d k k config was.keeper refl;
  safe =
      subst (λ (t : PageTables). IsSafeApart d.config d.found d.opened d.entries t.units k.saver k.firm f) (sym pages)
      (subst (λ (c : DriveConfig). IsSafeApart c d.found d.opened d.entries b.pages.units k.saver k.firm f) (sym config)
      (subst (λ (x : Found). IsSafeApart b.config x d.opened d.entries b.pages.units k.saver k.firm f) (sym found)
      (subst (λ (cells : List Cell). IsSafeApart b.config b.found cells d.entries b.pages.units k.saver k.firm f) (sym opened)
      (subst (λ (xs : List Entry). IsSafeApart b.config b.found b.opened xs b.pages.units k.saver k.firm f) (sym entries_are) was.safe))));
  epochs = epochs;
  doubt = was.doubt;
  sixteen = omega (arith, was.sixteen, ap (count_by is_lasting) entries_are, same-left b d k.saver config);
}

-- a step that has begun has changed nothing yet
pub kept-begun : (handed : Counts) (f : FlashState) (b : BookSeen) (k : KeeperSeen) → IsKept handed f b k → IsKept handed f (begun b) k
kept-begun handed f b k was = record {
  keeper = record { geometry = was.keeper.geometry };
  safe = was.safe;
  epochs = omega (arith, was.epochs);
  doubt = was.doubt;
  sixteen = was.sixteen;
}

-- ---- savings

-- behind an entry that was saved, and made
saved-kept : (handed : Counts) (f n : FlashState) (b d : BookSeen) (es : List Entry) (e : Entry) (k l : KeeperSeen) (answer : Saved) → IsValidConfig b.config → IsKept handed f b k → handed.faults ≤ f.faults → IsLonger b d es → 1 ≤ count_by is_lasting es → 1 ≤ length es → SavesEntries b.config b.found b.entries (e ∷ []) k.saver l.saver f n answer
    → IsKeeperOf d l → IsSafe d l.saver l.firm n → IsKept handed n d l
saved-kept handed f n b d es e k l answer valid was low longer lasting some saves keeper safe =
    let size : length d.entries ≡ length b.entries + length es = ap length longer.entries_are ∙ length-append b.entries es in
    let epoch : l.saver.stamp.epoch ≤ k.saver.stamp.epoch + 1 = subst (λ (s : JournalState). s.stamp.epoch ≤ k.saver.stamp.epoch + 1) (sym saves.saver_is) (saved-epoch k.saver saves.given.summary answer) in
    record {
      keeper = keeper;
      safe = safe;
      epochs = omega (arith, was.epochs, size, epoch, some, longer.spent_is);
      doubt = λ doubt. saved-doubt k.saver saves.given.summary answer f n handed.faults low saves.ends (sym (ap (λ (s : JournalState). s.in_doubt) saves.saver_is) ∙ doubt);
      sixteen =
          let left : 16 ≤ savings_left b.config l.saver + (count_by is_lasting b.entries + 1) =
          subst (λ (s : JournalState). 16 ≤ savings_left b.config s + (count_by is_lasting b.entries + 1)) (sym saves.saver_is) (saved-left b.config k.saver saves.given valid saves.is_of (count_by is_lasting b.entries) was.sixteen answer) in
          omega (arith, left, lasting, more-lasting b d es longer, same-left b d l.saver longer.config_is);
    }

pub kept-saved : (handed : Counts) (f n : FlashState) (b d : BookSeen) (e : Entry) (k l : KeeperSeen) (answer : Saved) → IsValidConfig b.config → IsTrue (is_lasting e) → IsKept handed f b k → handed.faults ≤ f.faults → IsLonger b d (e ∷ []) → KeepsEntry b e k l f n answer → IsSafe d l.saver l.firm n → IsKept handed n d l
kept-saved handed f n b d e k l answer valid lasting was low longer keeps safe =
    saved-kept handed f n b d (e ∷ []) e k l answer valid was low longer (one-lasting e lasting) (omega arith) keeps.saves (keeper-of b d k l longer.config_is was.keeper keeps.geometry) safe

-- behind an entry that was not saved, and is not made
pub kept-not-saved : (handed : Counts) (f n : FlashState) (b : BookSeen) (e : Entry) (k l : KeeperSeen) (moment : ℕ) → IsKept handed f b k → handed.faults ≤ f.faults → KeepsEntry b e k l f n (answers.Unsaved moment) → IsSafe b l.saver l.firm n → IsKept handed n b l
kept-not-saved handed f n b e k l moment was low keeps safe =
    let epoch : l.saver.stamp.epoch ≡ k.saver.stamp.epoch = ap (λ (s : JournalState). s.stamp.epoch) keeps.saves.saver_is in
    record {
      keeper = record { geometry = keeps.geometry ∙ was.keeper.geometry };
      safe = safe;
      epochs = omega (arith, was.epochs, epoch);
      doubt = λ doubt. rose-on handed.faults f.faults n.faults low keeps.saves.ends.faulted.rose;
      sixteen = subst (λ (s : JournalState). HasSixteen b.config s b.entries) (sym keeps.saves.saver_is) was.sixteen;
    }

-- behind a handle that was shut, and the end of its write
pub kept-shut : (handed : Counts) (f n : FlashState) (b d : BookSeen) (ticket : Ticket) (g : Going) (spot : Spot) (status : Status) (moment : ℕ) (done : Done) (k l : KeeperSeen) (answer : Saved) → IsValidConfig b.config → IsKept handed f b k → handed.faults ≤ f.faults
    → ShutsAndEnds b d ticket g spot status moment done → KeepsEntry b (entries.Shut (record { rg = g.rg; ruh = g.ruh })) k l f n answer → IsSafe d l.saver l.firm n → IsKept handed n d l
kept-shut handed f n b d ticket g spot status moment done k l answer valid was low shuts keeps safe =
    let shut : Entry = entries.Shut (record { rg = g.rg; ruh = g.ruh }) in
    let ended : Entry = entries.Host (record { queue = ticket.queue; number = g.number; command = g.command; reply = bare status false; moment = moment }) in
    saved-kept handed f n b d (shut ∷ ended ∷ []) shut k l answer valid was low shuts.completes.step (omega arith) (omega arith) keeps.saves
    (keeper-of b d k l shuts.completes.step.config_is was.keeper keeps.geometry) safe

-- behind a checkpoint, for which a step is spent
pub kept-written : (handed : Counts) (f n : FlashState) (b d : BookSeen) (k l : KeeperSeen) (answer : Wrote) → IsValidConfig b.config → d.config ≡ b.config → IsKept handed f b k → handed.faults ≤ f.faults → d.entries ≡ b.entries → d.spent ≡ b.spent + 1 → SavesDrive b.config b.found b.entries k.saver l.saver f n answer → IsKeeperOf d l
    → IsSafe d l.saver l.firm n → IsKept handed n d l
kept-written handed f n b d k l answer valid config was low same spent saves keeper safe =
    let size : length d.entries ≡ length b.entries = ap length same in
    let epoch : l.saver.stamp.epoch ≤ k.saver.stamp.epoch + 1 = subst (λ (s : JournalState). s.stamp.epoch ≤ k.saver.stamp.epoch + 1) (sym saves.saver_is) (checkpoint-epoch k.saver saves.given.summary answer) in
    record {
      keeper = keeper;
      safe = safe;
      epochs = omega (arith, was.epochs, size, epoch, spent);
      doubt = λ doubt. checkpoint-doubt k.saver saves.given.summary answer f n handed.faults low saves.ends (sym (ap (λ (s : JournalState). s.in_doubt) saves.saver_is) ∙ doubt);
      sixteen =
          let left : HasSixteen b.config l.saver b.entries =
          subst (λ (s : JournalState). HasSixteen b.config s b.entries) (sym saves.saver_is) (written-left b.config k.saver saves.given valid saves.is_of (count_by is_lasting b.entries) was.sixteen answer) in
          omega (arith, left, ap (count_by is_lasting) same, same-left b d l.saver config);
    }

-- behind a step that came after the end of a doubt, with an entry
pub kept-settled : (handed : Counts) (f middle n : FlashState) (b d : BookSeen) (es : List Entry) (k l : KeeperSeen) → IsValidConfig b.config → IsKept handed f b k → IsLonger b d es → 1 ≤ length es → SettlesDrive b.config b.found b.entries k.saver l.saver f middle wrote.Done → IsKeeperOf d l
    → IsSafe d l.saver l.firm n → IsKept handed n d l
kept-settled handed f middle n b d es k l valid was longer some settled keeper safe =
    let size : length d.entries ≡ length b.entries + length es = ap length longer.entries_are ∙ length-append b.entries es in
    let epoch : l.saver.stamp.epoch ≤ k.saver.stamp.epoch + 1 =
    subst (λ (s : JournalState). s.stamp.epoch ≤ k.saver.stamp.epoch + 1) (sym settled.saver_is) (renewed-epoch k.saver.in_doubt k.saver settled.given.summary) in
    record {
      keeper = keeper;
      safe = safe;
      epochs = omega (arith, was.epochs, size, epoch, some, longer.spent_is);
      doubt = λ doubt. absurd (no (sym doubt ∙ settled.sure refl));
      sixteen =
          let left : HasSixteen b.config l.saver b.entries =
          subst (λ (s : JournalState). HasSixteen b.config s b.entries) (sym settled.saver_is) (settled-left b.config k.saver settled.given valid settled.is_of (count_by is_lasting b.entries) was.sixteen k.saver.in_doubt wrote.Done) in
          omega (arith, left, more-lasting b d es longer, same-left b d l.saver longer.config_is);
    }

-- behind a doubt that could not be ended
pub kept-unsettled : (handed : Counts) (f n : FlashState) (b : BookSeen) (k l : KeeperSeen) → IsKept handed f b k → handed.faults ≤ f.faults → SettlesDrive b.config b.found b.entries k.saver l.saver f n wrote.Failed → IsKeeperOf b l → IsSafe b l.saver l.firm n → IsKept handed n b l
kept-unsettled handed f n b k l was low settled keeper safe =
    let epoch : l.saver.stamp.epoch ≡ k.saver.stamp.epoch = ap (λ (s : JournalState). s.stamp.epoch) settled.saver_is in
    record {
      keeper = keeper;
      safe = safe;
      epochs = omega (arith, was.epochs, epoch);
      doubt = λ doubt. rose-on handed.faults f.faults n.faults low settled.ends.faulted.rose;
      sixteen = subst (λ (s : JournalState). HasSixteen b.config s b.entries) (sym settled.saver_is) was.sixteen;
    }

-- behind a checkpoint that failed
pub kept-unwritten : (handed : Counts) (f n : FlashState) (b : BookSeen) (k l : KeeperSeen) → IsKept handed f b k → handed.faults ≤ f.faults → SavesDrive b.config b.found b.entries k.saver l.saver f n wrote.Failed → IsKeeperOf b l → IsSafe b l.saver l.firm n → IsKept handed n b l
kept-unwritten handed f n b k l was low saves keeper safe =
    let epoch : l.saver.stamp.epoch ≡ k.saver.stamp.epoch = ap (λ (s : JournalState). s.stamp.epoch) saves.saver_is in
    record {
      keeper = keeper;
      safe = safe;
      epochs = omega (arith, was.epochs, epoch);
      doubt = λ doubt. rose-on handed.faults f.faults n.faults low saves.ends.faulted.rose;
      sixteen = subst (λ (s : JournalState). HasSixteen b.config s b.entries) (sym saves.saver_is) was.sixteen;
    }
