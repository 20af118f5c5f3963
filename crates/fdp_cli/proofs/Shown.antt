-- What a run shows.
use Rattle.std.proofs.Common.{◌≡◌, ◌⊎◌, ℕ, ◌-◌, ◌<◌, ◌≤◌, Bool, false, true, get_or, IsTrue, ap, List, [], ◌∷◌, ◌++◌, length, Err, refl, sym, ◌∙◌, subst, arith, inl, inr, ⊎_elim}
use mathlib.Core.List.{IsPrefix}
use Rattle.std.specs.List.{list_any}
use Rattle.std.specs.Prelude.{All, IsFalse, Result, ⊤}
use Rattle.std.proofs.lemmas.List.{append-nil}
use Rattle.std.proofs.lemmas.List.Elements.{All-cons, All-nil, All-tail, All-weaker}
use Rattle.fdp_base.specs.declared.command.Command.{Command}
use Rattle.fdp_base.specs.declared.config.DriveConfig.{DriveConfig}
use Rattle.fdp_base.specs.declared.entry.Entry.{Entry}
use Rattle.fdp_base.specs.declared.entry.Entry.TheVariants as entries
use Rattle.fdp_base.specs.Config.{IsValidConfig}
use Rattle.fdp_base.specs.Counts.{Rose}
use Rattle.fdp_base.specs.Placement.{geometry_of}
use Rattle.fdp_drive.specs.fdp_book.Book.{BookSeen, point_in}
use Rattle.fdp_drive.specs.fdp_core.Loading.{IsLoaded, IsNewDrive, IsNotLoaded, IsOpenedDrive}
use Rattle.fdp_drive.specs.fdp_core.Seen.{HasMoments, HoldsHistory, IsLegalOver, LeavesOpened, ReadsAsEnd, Seen}
use Rattle.fdp_drive.specs.fdp_board.Board.{AreCharged, EmptiedAreTold, HasServedNothing, IsRoomySince, IsSafeSince}
use Rattle.fdp_drive.proofs.fdp_board.Outlasting.{AreLate}
use Rattle.fdp_drive.specs.fdp_crews.Crews.{IsTrace}
use Rattle.fdp_drive.specs.Session.{HoldsTraces, IsSameDrive, IsSession, KeepsOrders}
use Rattle.fdp_drive.specs.fdp_ledger.Counted.{counts_of}
use Rattle.fdp_drive.specs.fdp_workers.declared.ends.End.{End}
use Rattle.fdp_drive.specs.fdp_workers.declared.ends.End.TheVariants as ends
use Rattle.fdp_drive.specs.fdp_workers.declared.receipt.Receipt.{Receipt}
use Rattle.fdp_finding.specs.declared.asked.Form.{Form}
use Rattle.fdp_finding.specs.declared.fault.Fault.{Fault}
use Rattle.fdp_finding.specs.Traced.{IsServable}
use Rattle.fdp_flash.specs.declared.cell.Cell.{Cell}
use Rattle.fdp_flash.specs.FlashState.{FlashState}
use Rattle.fdp_flash.specs.Runs.{Runs}
use Rattle.fdp_image.specs.Kept.{AreFirm, StandsForBeginning, StandsForKept, is_owed}
use Rattle.fdp_io.specs.Sink.{HoldsFront, SinkState}
use Rattle.fdp_drive.specs.fdp_isolation.Begun.{OpenedApart}
use Rattle.fdp_drive.specs.fdp_isolation.Isolated.{IsIsolatedDrive, LeavesUsed}
use Rattle.fdp_drive.specs.fdp_survival.Apart.{ReadsIsolated, StandsApart}
use Rattle.fdp_drive.proofs.fdp_loading.Opens.{beginning-opens}
use Rattle.fdp_drive.proofs.fdp_survival.Apart.{own-apart}
use Rattle.fdp_drive.proofs.fdp_survival.Images.{less-apart}
use Rattle.fdp_drive.specs.fdp_ledger.declared.counts.Counts.{Counts}
use Rattle.fdp_drive.specs.fdp_ledger.Counted.{CountedSince}
use Rattle.fdp_drive.specs.fdp_ledger.Emptied.{OnlyErasesEmpty}
use Rattle.fdp_drive.specs.fdp_ledger.Start.{start_of}
use Rattle.fdp_drive.specs.fdp_ledger.Told.{is_media_reply}
use Rattle.fdp_drive.specs.fdp_workers.Run.{OpensFirst}
use Rattle.fdp_make.specs.Served.{FindsWholeBlocks}
use Rattle.fdp_make.proofs.Agreeing.{all-agree}
use Rattle.fdp_make.proofs.Beginnings.{orderly-whole}
use Rattle.fdp_make.proofs.Forms.{own-trace}
use Rattle.fdp_make.proofs.Loads.{of-load}
use Rattle.fdp_printing.specs.declared.closing.Closing.{Closing}
use Rattle.fdp_printing.specs.declared.pieces.Cut.{Cut}
use Rattle.fdp_printing.specs.declared.pieces.Cut.TheVariants as cuts
use Rattle.fdp_printing.specs.Closing.{IsClosing}
use Rattle.fdp_printing.specs.Printing.{HoldsSome, Prints}
use Rattle.fdp_drive.specs.fdp_recovery.declared.opened.OpenFault.{OpenFault}
use Rattle.fdp_drive.specs.fdp_roominess.Capacity.{exceeds_capacity}
use Rattle.fdp_drive.specs.fdp_roominess.Run.{BeganRoomy, IsRoomyImage, StaysRoomy, WearsByFailure}
use Rattle.fdp_drive.proofs.fdp_core.Loading.{entries-begun, unimaged}
use Rattle.fdp_drive.proofs.fdp_core.Unfailing.{unfailing-fits}
use Rattle.fdp_ranges.specs.Ranged.{IsRanged}
use Rattle.fdp_rules.specs.History.{Found, point_of}
use Rattle.fdp_rules.specs.Legal.{IsLegal}
use Rattle.fdp_rules.specs.Queue.{KeepsQueueOrder}
use Rattle.fdp_rules.specs.Step.{IsQueue}
use Rattle.fdp_cli.specs.Loading.{of_opening}
use Rattle.fdp_cli.specs.Session.{CountsSame, IsRun, StaysIsolated, StaysOpen}
use Rattle.fdp_cli.specs.Refusing.{Refuses}
use Rattle.fdp_cli.specs.Top.{EndsRun, PrintsText, Shows, text_in, text_of}
use Rattle.fdp_base.specs.EntryKinds.{ServesNone}

-- ---- the beginning

-- a trace that is found is one that a session takes
pub trace_served : {X : Type 0} (items : X → List Command) (c d : DriveConfig) (xs : List X) → d ≡ c → All (λ x. IsServable c (items x)) xs → All (λ x. IsTrace d (items x)) xs
trace_served items c d xs same all =
    All-weaker (λ x. IsServable c (items x)) (λ x. IsTrace d (items x))
    (λ x servable. subst (λ (e : DriveConfig). IsTrace e (items x)) (sym same) (record { formed = servable.formed; few = servable.few })) xs all

-- ---- a session

-- a drive that was opened, and what it told of itself when it had served
pub record HasServed {F : Type 0} (state : F → FlashState) (c : DriveConfig) (handed : F) (old new : Seen F) : Type 0 where
  pub loaded : IsLoaded state c handed old
  pub legal : IsLegalOver (state new.flash) new.book
  pub ranged : All IsRanged new.book.entries
  pub cells : HoldsHistory (state new.flash) new.book
  pub apart : IsTrue (state new.flash).told → OpenedApart new.book.config new.book.found new.book.opened → IsIsolatedDrive new.book.config (point_in new.book) new.book.entries (state new.flash).cells
  pub reads : IsTrue (state new.flash).told → OpenedApart new.book.config new.book.found new.book.opened → ReadsIsolated new.book.config (state new.flash).cells
  pub used : LeavesOpened (state new.flash) new.book
  pub counted : CountedSince new.handed (state new.flash) (start_of new.book) new.book.entries
  pub worn : WearsByFailure new.handed.faults (state new.flash).faults (state new.flash).told new.book
  pub roomy : IsTrue (state new.flash).told → StaysRoomy new.handed.faults (state new.flash).faults (state new.flash).told new.book (state new.flash).cells
  pub firm : AreFirm new.book.entries new.keeper.firm
  pub stands : IsTrue (state new.flash).told → StandsForBeginning new.book.config new.book.found new.book.entries new.keeper.firm (state new.flash).cells
  pub sure : IsTrue (state new.flash).told → new.keeper.saver.in_doubt ≡ false → ReadsAsEnd (state new.flash) new.book
  pub doubt : new.keeper.saver.in_doubt ≡ true → Rose new.handed.faults (state new.flash).faults

-- the entries of an opening complete no change
first-late : (m : ℕ) (es : List Entry) → (es ≡ []) ⊎ (es ≡ entries.Reopened ∷ []) → AreLate m es
first-late m es (inl none) = subst (AreLate m) (sym none) (All-nil (λ e. IsFalse (is_owed m e)))
first-late m es (inr one) = subst (AreLate m) (sym one) (All-cons (λ e. IsFalse (is_owed m e)) entries.Reopened [] refl (All-nil (λ e. IsFalse (is_owed m e))))

all_behind : (P : Entry → Type 0) (kept lost : List Entry) → All P (kept ++ lost) → All P lost
all_behind P [] lost all = all
all_behind P (x ∷ kept) lost all = all_behind P kept lost (All-tail P x (kept ++ lost) all)

-- so each beginning of them is kept
kept-first : (c : DriveConfig) (f : Found) (es : List Entry) (m : ℕ) (image : List Cell) → (es ≡ []) ⊎ (es ≡ entries.Reopened ∷ []) → StandsForBeginning c f es 0 image → StandsForKept c f es 0 m image
kept-first c f es m image first s = record {
  beginning = s;
  kept = record { beginning = s.beginning; none_owed = all_behind (λ e. IsFalse (is_owed m e)) s.kept s.lost (subst (AreLate m) s.beginning.split (first-late m es first)) };
}

-- ---- the whole run

-- an opening serves no host
opened-none : (es : List Entry) → (es ≡ []) ⊎ (es ≡ entries.Reopened ∷ []) → All ServesNone es
opened-none es (inl none) = subst (All ServesNone) (sym none) (All-nil ServesNone)
opened-none es (inr one) = subst (All ServesNone) (sym one) (All-cons ServesNone entries.Reopened [] (record { host = refl; started = refl; placed = refl }) (All-nil ServesNone))

-- and it is told first
opened-first : (es : List Entry) → (es ≡ []) ⊎ (es ≡ entries.Reopened ∷ []) → OpensFirst [] es
unfolding OpensFirst
opened-first es (inl none) = subst (OpensFirst []) (sym none) tt
opened-first es (inr one) = subst (OpensFirst []) (sym one) ((λ same. refl), tt)

-- a drive that was opened has served nothing yet
-- what is opened is the image that was handed in
opened-image : {F : Type 0} (state : F → FlashState) (c : DriveConfig) (handed : F) (old : Seen F) → IsLoaded state c handed old → IsTrue (state handed).told → IsTrue old.book.found.is_image → old.book.opened ≡ (state handed).cells
opened-image state c handed old loaded told is_image = ⊎_elim
    (λ (x : IsNewDrive c (state handed) old.book). absurd (let no : true ≡ false = sym is_image ∙ ap (λ (f : Found). f.is_image) x.found_is ∙ unimaged c in cc))
    (λ (x : IsOpenedDrive c (state handed) old.book). x.opened_is told)
    loaded.began

-- the opening emptied no unit
emptied-first : {F : Type 0} (state : F → FlashState) (c : DriveConfig) (handed : F) (old : Seen F) → IsLoaded state c handed old → IsTrue (state handed).told → IsTrue old.book.found.is_image → OnlyErasesEmpty (geometry_of old.book.config) old.book.opened (state old.flash).cells old.book.entries
emptied-first state c handed old loaded told is_image =
    subst (λ (x : DriveConfig). OnlyErasesEmpty (geometry_of x) old.book.opened (state old.flash).cells old.book.entries) (sym loaded.config_is)
    (subst (λ (cells : List Cell). OnlyErasesEmpty (geometry_of c) cells (state old.flash).cells old.book.entries) (sym (opened-image state c handed old loaded told is_image)) (loaded.emptied told))

pub served-nothing : {F : Type 0} (state : F → FlashState) (c : DriveConfig) (handed : F) (old : Seen F) → IsLoaded state c handed old → HasServedNothing state old
served-nothing state c handed old loaded = record {
  opens = opened-first old.book.entries (entries-begun state c handed old loaded);
  none = opened-none old.book.entries (entries-begun state c handed old loaded);
  safe = λ told m image above most there.
      let since = subst (λ (h : Counts). h.moment < m) loaded.handed_is above in
      let stands =
      subst (λ (x : DriveConfig). StandsForKept x old.book.found old.book.entries 0 m image) (sym loaded.config_is)
      (kept-first c old.book.found old.book.entries m image (entries-begun state c handed old loaded) (run.images (sym run.told ∙ told) m image since most there)) in
      let apart =
      subst (λ (x : DriveConfig). OpenedApart x old.book.found old.book.opened → StandsApart x old.book.found old.book.entries 0 image) (sym loaded.config_is)
      (λ opened. less-apart c old.book.found old.book.entries (length old.book.entries) 0 image (omega arith) ((loaded.apart opened).images.images (sym run.told ∙ told) m image since most there)) in
      record {
        stands = stands;
        apart = apart;
        own = λ opened. own-apart old.book.config old.book.found image stands.beginning.kept stands.beginning.stands (apart opened).read;
      };
  roomy = λ told began well m image above most there.
      subst (λ (x : DriveConfig). IsRoomyImage x image) (sym loaded.config_is)
      ((loaded.stays_roomy began).images (sym run.told ∙ told) m image (subst (λ (h : Counts). h.moment < m) loaded.handed_is above) most there);
  steps = omega (arith, loaded.spent_is);
  unfailing = λ reliable. loaded.faults ∙ sym (ap (λ (h : Counts). h.faults) loaded.handed_is);
  emptied = record { cut = loaded.geometry ∙ ap geometry_of (sym loaded.config_is); only = λ told is_image. emptied-first state c handed old loaded (sym run.told ∙ told) is_image };
} where
  run : Runs (state handed) (state old.flash) (λ m image. StandsForBeginning c old.book.found old.book.entries 0 image)
  run = loaded.stops

config-is : {F : Type 0} (state : F → FlashState) (c : DriveConfig) (handed : F) (old new : Seen F) → HasServed state c handed old new → IsSameDrive state old new → new.book.config ≡ c
config-is state c handed old new has same = same.config_is ∙ has.loaded.config_is

handed-is : {F : Type 0} (state : F → FlashState) (c : DriveConfig) (handed : F) (old new : Seen F) → HasServed state c handed old new → IsSameDrive state old new → new.handed ≡ counts_of (state handed)
handed-is state c handed old new has same = same.handed_is ∙ has.loaded.handed_is

-- what it opened keeps data apart where the image did
opened-by : {F : Type 0} (state : F → FlashState) (c : DriveConfig) (handed : F) (old new : Seen F) → HasServed state c handed old new → IsSameDrive state old new → IsTrue (state handed).told → ReadsIsolated new.book.config (state handed).cells → OpenedApart new.book.config new.book.found new.book.opened
opened-by state c handed old new has same told reads =
    let is = config-is state c handed old new has same in
    subst (λ (x : DriveConfig). OpenedApart x new.book.found new.book.opened) (sym is)
    (subst (λ (f : Found). OpenedApart c f new.book.opened) (sym same.found_is)
    (subst (OpenedApart c old.book.found) (sym same.opened_is)
    (has.loaded.opened told (subst (λ (x : DriveConfig). ReadsIsolated x (state handed).cells) is reads))))

-- so what it leaves is isolated where the image was
stays-isolated : {F : Type 0} (state : F → FlashState) (c : DriveConfig) (handed : F) (old new : Seen F) → HasServed state c handed old new → IsSameDrive state old new → IsSafeSince new.handed.moment (state new.flash) new.book → IsTrue (state handed).told → ReadsIsolated new.book.config (state handed).cells
    → StaysIsolated new.book.config (state handed) (state new.flash)
stays-isolated state c handed old new has same safe told reads =
    let opened = opened-by state c handed old new has same told reads in
    let tells : IsTrue (state new.flash).told = same.told_is ∙ has.loaded.stops.told ∙ told in
    record {
      cells = has.reads tells opened;
      images = λ m image above most there. ((safe tells m image (subst (λ (k : Counts). k.moment < m) (sym (handed-is state c handed old new has same)) above) most there).apart opened).read;
    }

-- and what it leaves opens, since it stands for a beginning of its history
stays-open : {F : Type 0} (state : F → FlashState) (c : DriveConfig) (handed : F) (old new : Seen F) → HasServed state c handed old new → IsSameDrive state old new → IsSafeSince new.handed.moment (state new.flash) new.book → StaysOpen new.book.config (state handed) (state new.flash)
stays-open state c handed old new has same safe = record {
  cells = λ told. beginning-opens new.book.config new.book.found new.book.entries new.keeper.firm (state new.flash).cells (has.stands told);
  images = λ told m image above most there.
      let kept = (safe told m image (subst (λ (k : Counts). k.moment < m) (sym (handed-is state c handed old new has same)) above) most there).stands in
      beginning-opens new.book.config new.book.found new.book.entries 0 image kept.beginning;
}

-- each unit that was emptied since has its entry
emptied-since : {F : Type 0} (state : F → FlashState) (c : DriveConfig) (handed : F) (old new : Seen F) → HasServed state c handed old new → IsSameDrive state old new → EmptiedAreTold (state new.flash) new.book → IsTrue (state handed).told → IsTrue new.book.found.is_image
    → OnlyErasesEmpty (geometry_of new.book.config) (state handed).cells (state new.flash).cells new.book.entries
emptied-since state c handed old new has same emptied told is_image =
    let tells : IsTrue (state new.flash).told = same.told_is ∙ has.loaded.stops.told ∙ told in
    let was : IsTrue old.book.found.is_image = ap (λ (f : Found). f.is_image) (sym same.found_is) ∙ is_image in
    subst (λ (cells : List Cell). OnlyErasesEmpty (geometry_of new.book.config) cells (state new.flash).cells new.book.entries) (same.opened_is ∙ opened-image state c handed old has.loaded told was) (emptied.only tells is_image)

-- a unit that had been used by the opening gets no page before it is erased
used-since : {F : Type 0} (state : F → FlashState) (c : DriveConfig) (handed : F) (old new : Seen F) → HasServed state c handed old new → IsSameDrive state old new → IsTrue (state handed).told → IsTrue new.book.found.is_image → ReadsIsolated new.book.config (state handed).cells
    → LeavesUsed new.book.config (state handed).cells new.book.entries (state new.flash).cells
used-since state c handed old new has same told is_image reads =
    let tells : IsTrue (state new.flash).told = same.told_is ∙ has.loaded.stops.told ∙ told in
    let was : IsTrue old.book.found.is_image = ap (λ (f : Found). f.is_image) (sym same.found_is) ∙ is_image in
    subst (λ (cells : List Cell). LeavesUsed new.book.config cells new.book.entries (state new.flash).cells) (same.opened_is ∙ opened-image state c handed old has.loaded told was)
    (has.used tells (opened-by state c handed old new has same told reads))

-- it began with room where the image was roomy
began-by : {F : Type 0} (state : F → FlashState) (c : DriveConfig) (handed : F) (old new : Seen F) → HasServed state c handed old new → IsSameDrive state old new → IsTrue (state handed).told → IsRoomyImage new.book.config (state handed).cells → BeganRoomy (state new.flash).told new.book
began-by state c handed old new has same told roomy =
    let is = config-is state c handed old new has same in
    let tells : (state new.flash).told ≡ (state handed).told = same.told_is ∙ has.loaded.stops.told in
    let was : BeganRoomy (state handed).told old.book = has.loaded.roomy told (subst (λ (x : DriveConfig). IsRoomyImage x (state handed).cells) is roomy) in
    ⊎_elim
    (λ (fresh : IsFalse old.book.found.is_image). inl (ap (λ (f : Found). f.is_image) same.found_is ∙ fresh))
    (λ (image : IsTrue (state handed).told × IsRoomyImage old.book.config old.book.opened).
    inr (tells ∙ told, subst (λ (x : DriveConfig). IsRoomyImage x new.book.opened) (sym same.config_is) (subst (IsRoomyImage old.book.config) (sym same.opened_is) image.1)))
    was

-- with one group each write had room, where it began with room and no call failed
fits-by : {F : Type 0} (state : F → FlashState) (c : DriveConfig) (handed : F) (old new : Seen F) → HasServed state c handed old new → IsSameDrive state old new → IsPrefix old.book.entries new.book.entries
    → new.book.config.groups ≡ 1 → BeganRoomy (state new.flash).told new.book → (Rose new.handed.faults (state new.flash).faults → ⊥) → IsFalse (list_any exceeds_capacity new.book.entries)
fits-by state c handed old new has same goes_on one began well =
    unfailing-fits new.handed (state new.flash) old.book new.book has.loaded.order same.config_is same.found_is (entries-begun state c handed old has.loaded) goes_on.0 goes_on.1 has.legal has.counted has.worn began well one

-- the summary of a generated load counts what is the same
counts-same : {F : Type 0} (state : F → FlashState) (c : DriveConfig) (traces : List (List Command)) (receipts : List (List Receipt)) (end : End) (handed given : F) (old new : Seen F) → length traces ≤ c.queues → HasServed state c handed old new → given ≡ new.flash → IsSession state old new traces receipts end
    → CountsSame (state given) c traces new.book.found new.book.entries
counts-same {F} state c traces receipts end handed given old new few has same served number load told moments =
    all-agree c new.book.found valid.ranges.block whole new.book.entries legal (of-load true c new.book.found number new.book.entries legal (record {
      orders = λ queue within.
          let is : IsQueue c queue = (within.0, omega (arith, within.1, few, four)) in
          subst (λ (t : List Command). KeepsQueueOrder queue t new.book.entries) (ap (λ (ts : List (List Command)). get_or ts (queue - 1) []) load ∙ own-trace number queue within)
          (served.orders queue (subst (λ (x : DriveConfig). IsQueue x queue) (sym config) is));
      others = λ queue high. served.others queue (omega (arith, high, four));
    })) where
      config : new.book.config ≡ c
      config = config-is state c handed old new has served.same

      four : length traces ≡ 4
      four = ap (λ (ts : List (List Command)). length ts) load

      valid : IsValidConfig c
      valid = subst IsValidConfig has.loaded.config_is has.loaded.order.known.config

      whole : FindsWholeBlocks c new.book.found
      whole =
          subst (FindsWholeBlocks c) (sym served.same.found_is)
          (subst (λ (x : DriveConfig). FindsWholeBlocks x old.book.found) has.loaded.config_is
          (orderly-whole old.book.config old.book.found old.book.entries has.loaded.order.known.orderly (entries-begun state c handed old has.loaded)))

      legal : IsLegal true c new.book.found new.book.entries
      legal =
          subst (λ (x : DriveConfig). IsLegal true x new.book.found new.book.entries) config
          (subst (λ (t : Bool). IsLegal t new.book.config new.book.found new.book.entries) (subst (λ (x : F). IsTrue (state x).told) same told)
          (has.legal (subst (λ (x : F). IsTrue (list_any is_media_reply new.book.entries) → HasMoments (state x)) same moments)))

-- its session
run_by : {F : Type 0} (state : F → FlashState) (c : DriveConfig) (traces : List (List Command)) (receipts : List (List Receipt)) (end : End) (handed given : F) (old new : Seen F) → HasServed state c handed old new → given ≡ new.flash → IsSession state old new traces receipts end →
    IsRun state c traces end handed given new.book.found new.book.entries
run_by {F} state c traces receipts end handed given old new has same served =
    let is = handed-is state c handed old new has served.same in
    record {
      old = old;
      new = new;
      receipts = receipts;
      loaded = has.loaded;
      served = served;
      found_is = refl;
      entries_are = refl;
      flash_is = sym same;
      legal = subst (λ (f : F). IsLegalOver (state f) new.book) (sym same) has.legal;
      orders = subst (λ (x : DriveConfig). KeepsOrders x traces new.book.entries) (config-is state c handed old new has served.same) served.orders;
      others = served.others;
      ranged = has.ranged;
      held = record {
        told_is = served.same.told_is ∙ has.loaded.stops.told;
        counted = subst (λ (k : Counts). CountedSince k (state new.flash) (start_of new.book) new.book.entries) is has.counted;
        charged = subst (λ (k : Counts). AreCharged k.moment (state new.flash) new.book.entries) is served.charged;
        unfailing = λ reliable. served.unfailing (served.same.reliable_is ∙ has.loaded.stops.reliable ∙ reliable) ∙ ap (λ (k : Counts). k.faults) is;
        cells = has.cells;
        emptied = emptied-since state c handed old new has served.same served.emptied;
        apart = has.apart;
        opened = opened-by state c handed old new has served.same;
        used = used-since state c handed old new has served.same;
        isolated = stays-isolated state c handed old new has served.same served.safe;
        began = began-by state c handed old new has served.same;
        worn = subst (λ (k : Counts). WearsByFailure k.faults (state new.flash).faults (state new.flash).told new.book) is has.worn;
        roomy = λ told. subst (λ (k : Counts). StaysRoomy k.faults (state new.flash).faults (state new.flash).told new.book (state new.flash).cells) is (has.roomy told);
        stays_roomy = subst (λ (k : Counts). IsRoomySince k (state new.flash) new.book) is served.roomy;
        fits = λ one began well. fits-by state c handed old new has served.same served.goes_on one began (subst (λ (k : Counts). Rose k.faults (state new.flash).faults → ⊥) (sym is) well);
        firm = has.firm;
        stands = has.stands;
        sure = has.sure;
        doubt = λ doubt. subst (λ (k : Counts). Rose k.faults (state new.flash).faults) is (has.doubt doubt);
        stops = subst (λ (k : Counts). IsSafeSince k.moment (state new.flash) new.book) is served.safe;
        opens = stays-open state c handed old new has served.same served.safe;
      };
    }

-- how the run ended whose session ended so, and was shown so
pub ended : {F : Type 0} (state : F → FlashState) (form : Form) (c : DriveConfig) (traces : List (List Command)) (receipts : List (List Receipt)) (count : ℕ) (handed given : F) (old new : Seen F) (end : End) (sink sink' : SinkState) (status : ℕ) → count ≡ length traces → length traces ≤ c.queues → HasServed state c handed old new → given ≡ new.flash →
    IsSession state old new traces receipts end → Shows new.book end form count sink sink' status → EndsRun state form c traces handed given sink sink' status
ended state form c traces receipts count handed given old new ends.Whole sink sink' status is few has same served shows =
    let config = config-is state c handed old new has served.same in
    inl (
      new.book.found,
      new.book.entries,
      record {
        run = run_by state c traces receipts ends.Whole handed given old new has same served;
        whole = subst (λ (x : DriveConfig). HoldsTraces x traces new.book.entries) config served.ended.0;
        same = counts-same state c traces receipts ends.Whole handed given old new few has same served;
      },
      subst (λ (k : ℕ). PrintsText (text_of form c new.book.found k new.book.entries) sink sink' status) is
          (subst (λ (x : DriveConfig). PrintsText (text_of form x new.book.found count new.book.entries) sink sink' status) config shows),
    )
ended state form c traces receipts count handed given old new ends.NoMemory sink sink' status is few has same served shows =
    inr (inl (shows.0, shows.1, (new.book.found, new.book.entries, run_by state c traces receipts ends.NoMemory handed given old new has same served)))
ended state form c traces receipts count handed given old new ends.Turns sink sink' status is few has same served shows =
    inr (inr (inl (shows, (new.book.found, new.book.entries, run_by state c traces receipts ends.Turns handed given old new has same served))))

-- how the run ended that opened no drive
pub not_opened : {F : Type 0} (state : F → FlashState) (form : Form) (c : DriveConfig) (traces : List (List Command)) (handed given : F) (cause : OpenFault) (sink sink' : SinkState) (status : ℕ) (fault : Fault) → IsNotLoaded state c handed (record { flash = given; cause = cause }) → fault ≡ of_opening cause →
    Refuses sink sink' fault status → EndsRun state form c traces handed given sink sink' status
not_opened state form c traces handed given cause sink sink' status fault shown is refused =
    inr (inr (inr (record { cause = cause; shown = shown; refused = subst (λ (x : Fault). Refuses sink sink' x status) is refused })))

-- ---- what was printed

-- the text of the history that the drive has
pub prints_text : (b : BookSeen) (form : Form) (traces : ℕ) (config : DriveConfig) (es : List Entry) (closing : Closing) (old new : SinkState) (result : Result ⊤ Cut) → config ≡ b.config → es ≡ b.entries → IsClosing b.config (point_in b) closing →
    ((f : Found) → IsClosing config (point_of config f es) closing → Prints old new (text_of form config f traces es) result) → Prints old new (text_in form traces b) result
prints_text b form traces config es closing old new result same-config same-entries closes prints =
    subst (λ (c : DriveConfig). Prints old new (text_of form c b.found traces b.entries) result) same-config
    (subst (λ (xs : List Entry). Prints old new (text_of form config b.found traces xs) result) same-entries
    (prints b.found
    (subst (λ (c : DriveConfig). IsClosing c (point_of c b.found es) closing) (sym same-config)
    (subst (λ (xs : List Entry). IsClosing b.config (point_of b.config b.found xs) closing) (sym same-entries) closes))))

-- where memory was wanting
pub printed_some : (old new : SinkState) (text : List ℕ) (cut : Cut) → cut ≡ cuts.NoMemory → Prints old new text (Err cut) → HoldsSome old new text
printed_some old new text cut is prints = subst (λ e. Prints old new text (Err e)) is prints

-- where a write failed
pub printed_front : (old new : SinkState) (text : List ℕ) (cut : Cut) → cut ≡ cuts.Sink → Prints old new text (Err cut) → HoldsFront old new text
printed_front old new text cut is prints = subst (λ e. Prints old new text (Err e)) is prints

-- nothing of a text
pub printed_none : (sink : SinkState) (text : List ℕ) → HoldsSome sink sink text
printed_none sink text = record { count = 0; within = omega arith; front = λ told. sym (append-nil sink.bytes) }
