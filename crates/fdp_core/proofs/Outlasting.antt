-- What a stop may leave of steps that follow one another.
use Rattle.std.proofs.Common.{◌≡◌, ◌∙◌, ℕ, ◌+◌, ◌≤◌, List, [], ◌++◌, length, refl, ap, sym, subst, arith, length-append}
use Rattle.std.specs.Prelude.{All, IsFalse, IsTrue}
use Rattle.std.proofs.lemmas.List.Elements.{All-append, All-nil, All-weaker}
use Rattle.fdp_base.specs.declared.config.DriveConfig.{DriveConfig}
use Rattle.fdp_base.specs.declared.entry.Entry.{Entry}
use Rattle.fdp_relocation.specs.fdp_book.Book.{IsLonger}
use Rattle.fdp_core.specs.Seen.{Seen}
use Rattle.fdp_core.specs.Stops.{IsIsolatedBy, IsSafeNow, KeepsPart, LeavesIsolated, LeavesRoomy, Outlasts, OutlastsStops, Retains, UsesNoMore}
use Rattle.fdp_core.proofs.Isolating.{bridge-retained, opened-longer, part-joined, part-leaves, part-none, retains-joined}
use Rattle.fdp_core.proofs.Looping.{IsPassing}
use Rattle.fdp_core.proofs.Passing.{longer-joined, longer-none}
use Rattle.fdp_relocation.specs.fdp_durability.Firm.{completes}
use Rattle.fdp_relocation.proofs.fdp_durability.Owed.{unowed}
use Rattle.fdp_flash.specs.declared.cell.Cell.{Cell}
use Rattle.fdp_flash.specs.FlashState.{FlashState}
use Rattle.fdp_flash.specs.Runs.{Runs}
use Rattle.fdp_flash.proofs.Runs.{no_run, runs_joined, runs_weakened}
use Rattle.fdp_image.specs.Kept.{AreFirm, IsStopSafe, is_owed}
use Rattle.fdp_rules.specs.History.{Found}
use Rattle.fdp_loading.specs.fdp_isolation.Begun.{OpenedApart}
use Rattle.fdp_loading.specs.fdp_survival.Apart.{IsStopApart}
use Rattle.fdp_loading.specs.fdp_survival.Books.{Survives}
use Rattle.fdp_loading.specs.fdp_survival.Safe.{IsSafeImage}
use Rattle.fdp_loading.proofs.Opens.{safe-opens}
use Rattle.fdp_loading.proofs.fdp_survival.Images.{image-grown, image-less}
use Rattle.fdp_loading.proofs.fdp_survival.Steps.{safe-of-stops, stop-apart}
use Rattle.fdp_base.specs.Counts.{Rose}
use Rattle.fdp_loading.specs.fdp_ledger.declared.counts.Counts.{Counts}
use Rattle.fdp_roominess.specs.Run.{IsRoomyImage}
use Rattle.fdp_roominess.proofs.Runs.{began-later}

-- a pass goes on, and outlasts stops
pub record GoesOn {F : Type 0} (state : F → FlashState) (start now : Seen F) (rg : ℕ) : Type 0 where
  pub passing : IsPassing state start now rg
  pub stops : Outlasts state start now
  pub retains : Retains start.book (state start.flash) (state now.flash)

-- ---- within a step

pub outlasts-none : {F : Type 0} (state : F → FlashState) (s : Seen F) → Outlasts state s s
outlasts-none state s = record {
  es = [];
  longer = longer-none s.book;
  none = All-nil (λ e. IsFalse (completes e));
  images = no_run (state s.flash) (λ m image. IsSafeImage s.book.config s.book.found s.book.opened s.book.entries s.keeper.firm (length s.book.entries) image);
  isolated = part-none s.book (state s.flash);
  handed = refl;
  roomy = λ began well. no_run (state s.flash) (λ m image. IsRoomyImage s.book.config image);
  more = omega arith;
}

-- what survives a part of a step
pub outlasts-part : {F : Type 0} (state : F → FlashState) (old new : Seen F) (es : List Entry) → IsLonger old.book new.book es → All (λ e. IsFalse (completes e)) es → Survives new.book old.keeper.firm (length old.book.entries) (state old.flash) (state new.flash) → old.keeper.firm ≤ new.keeper.firm → new.handed ≡ old.handed → LeavesRoomy state old new → KeepsPart old.book new.book (state old.flash) (state new.flash) → Outlasts state old new
outlasts-part state old new es longer none run more handed roomy isolated = record {
  es = es;
  longer = longer;
  none = none;
  images =
      subst (λ (c : DriveConfig). Runs (state old.flash) (state new.flash) (λ m image. IsSafeImage c old.book.found old.book.opened new.book.entries old.keeper.firm (length old.book.entries) image)) longer.config_is
      (subst (λ (f : Found). Runs (state old.flash) (state new.flash) (λ m image. IsSafeImage new.book.config f old.book.opened new.book.entries old.keeper.firm (length old.book.entries) image)) longer.found_is
      (subst (λ (cells : List Cell). Runs (state old.flash) (state new.flash) (λ m image. IsSafeImage new.book.config new.book.found cells new.book.entries old.keeper.firm (length old.book.entries) image)) longer.opened_is run));
  isolated = isolated;
  handed = handed;
  roomy = roomy;
  more = more;
}

-- one part behind another, where the cells before the first are isolated by the history behind both as soon as those between them are
pub outlasts-joined : {F : Type 0} (state : F → FlashState) (old mid new : Seen F) → Outlasts state old mid → Outlasts state mid new
    → (IsTrue (state old.flash).told → OpenedApart old.book.config old.book.found old.book.opened → IsIsolatedBy new.book (state mid.flash).cells → IsIsolatedBy new.book (state old.flash).cells) → Outlasts state old new
outlasts-joined state old mid new p q bridge = record {
  es = p.es ++ q.es;
  longer = longer-joined old.book mid.book new.book p.es q.es p.longer q.longer;
  none = All-append (λ e. IsFalse (completes e)) p.es q.es p.none q.none;
  images = runs_joined (state old.flash) (state mid.flash) (state new.flash) Image before behind;
  isolated = part-joined old.book mid.book new.book (state old.flash) (state mid.flash) (state new.flash) p.longer.config_is p.longer.found_is p.longer.opened_is p.images.told p.isolated q.isolated bridge;
  handed = q.handed ∙ p.handed;
  roomy = λ began well.
      let up = q.images.faults in
      runs_joined (state old.flash) (state mid.flash) (state new.flash) (λ m image. IsRoomyImage old.book.config image)
      (p.roomy began (λ rose. well (omega (arith, rose, up))))
      (subst (λ (c : DriveConfig). Runs (state mid.flash) (state new.flash) (λ m image. IsRoomyImage c image)) p.longer.config_is
      (q.roomy (began-later (state old.flash).told (state mid.flash).told old.book mid.book p.es p.images.told p.longer began)
      (λ rose. well (subst (λ (h : Counts). Rose h.faults (state new.flash).faults) p.handed rose))));
  more = omega (arith, p.more, q.more);
} where
  Image : ℕ → List Cell → Type 0
  Image = λ m image. IsSafeImage old.book.config old.book.found old.book.opened new.book.entries old.keeper.firm (length old.book.entries) image

  before : Runs (state old.flash) (state mid.flash) (λ m image. IsSafeImage old.book.config old.book.found old.book.opened new.book.entries old.keeper.firm (length old.book.entries) image)
  before =
      runs_weakened (state old.flash) (state mid.flash) (λ m image. IsSafeImage old.book.config old.book.found old.book.opened mid.book.entries old.keeper.firm (length old.book.entries) image)
      (λ m image. IsSafeImage old.book.config old.book.found old.book.opened new.book.entries old.keeper.firm (length old.book.entries) image) p.images
      (λ told m image above most safe.
      subst (λ (xs : List Entry). IsSafeImage old.book.config old.book.found old.book.opened xs old.keeper.firm (length old.book.entries) image) (sym q.longer.entries_are)
      (image-grown old.book.config old.book.found old.book.opened mid.book.entries q.es old.keeper.firm (length old.book.entries) image safe))

  later : (length old.book.entries) ≤ length mid.book.entries
  later = let size : length mid.book.entries ≡ (length old.book.entries) + length p.es = ap length p.longer.entries_are ∙ length-append old.book.entries p.es in omega (arith, size)

  behind : Runs (state mid.flash) (state new.flash) (λ m image. IsSafeImage old.book.config old.book.found old.book.opened new.book.entries old.keeper.firm (length old.book.entries) image)
  behind =
      runs_weakened (state mid.flash) (state new.flash) (λ m image. IsSafeImage mid.book.config mid.book.found mid.book.opened new.book.entries mid.keeper.firm (length mid.book.entries) image)
      (λ m image. IsSafeImage old.book.config old.book.found old.book.opened new.book.entries old.keeper.firm (length old.book.entries) image) q.images
      (λ told m image above most safe.
      subst (λ (c : DriveConfig). IsSafeImage c old.book.found old.book.opened new.book.entries old.keeper.firm (length old.book.entries) image) p.longer.config_is
      (subst (λ (f : Found). IsSafeImage mid.book.config f old.book.opened new.book.entries old.keeper.firm (length old.book.entries) image) p.longer.found_is
      (subst (λ (cells : List Cell). IsSafeImage mid.book.config mid.book.found cells new.book.entries old.keeper.firm (length old.book.entries) image) p.longer.opened_is
      (image-less mid.book.config mid.book.found mid.book.opened new.book.entries mid.keeper.firm old.keeper.firm (length mid.book.entries) (length old.book.entries) image p.more later safe))))

-- behind a part that retains the pages
pub outlasts-behind : {F : Type 0} (state : F → FlashState) (old mid new : Seen F) → Outlasts state old mid → Outlasts state mid new → Retains old.book (state old.flash) (state mid.flash) → Outlasts state old new
outlasts-behind state old mid new p q retains =
    outlasts-joined state old mid new p q (bridge-retained old.book mid.book new.book (state old.flash) (state mid.flash) (q.longer.config_is ∙ p.longer.config_is) p.isolated.setting q.isolated.setting retains)

pub goes-behind : {F : Type 0} (state : F → FlashState) (old mid new : Seen F) → Outlasts state old mid → Retains old.book (state old.flash) (state mid.flash) → Retains mid.book (state mid.flash) (state new.flash) → Retains old.book (state old.flash) (state new.flash)
goes-behind state old mid new p first then' = retains-joined old.book mid.book (state old.flash) (state mid.flash) (state new.flash) p.es p.longer p.images.told p.isolated.setting first then'

-- before entries by which no unit comes into use
pub outlasts-before : {F : Type 0} (state : F → FlashState) (old mid new : Seen F) → Outlasts state old mid → Outlasts state mid new → IsSafeNow (state mid.flash) mid.book mid.keeper → UsesNoMore mid.book new.book (state mid.flash) → Outlasts state old new
outlasts-before state old mid new p q now uses =
    outlasts-joined state old mid new p q
    (λ told opened there.
    let then_told = p.images.told ∙ told in
    let then_opened = opened-longer old.book mid.book p.es p.longer opened in
    uses then_told then_opened (state old.flash).cells (p.isolated.first told opened (now.isolated then_told then_opened)))

-- ---- a whole step

-- none of the entries that were added is owed at the end, and what is firm is safe then
pub outlasts-stops : {F : Type 0} (state : F → FlashState) (old new : Seen F) (es : List Entry) → new.book.config ≡ old.book.config → new.book.found ≡ old.book.found → new.book.opened ≡ old.book.opened → new.book.entries ≡ old.book.entries ++ es → AreFirm old.book.entries old.keeper.firm
    → All (λ e. IsFalse (is_owed (state new.flash).moment e)) es → Survives new.book old.keeper.firm (length old.book.entries) (state old.flash) (state new.flash) → IsSafeNow (state new.flash) new.book new.keeper → old.keeper.firm ≤ new.keeper.firm → LeavesRoomy state old new
    → LeavesIsolated old.book new.book (state old.flash) (state new.flash) → OutlastsStops state old new
outlasts-stops state old new es config_is found_is opened_is entries_are firmed none run now more roomy isolated = record {
  stops = safe;
  apart =
      subst (λ (c : DriveConfig). OpenedApart c old.book.found old.book.opened → IsStopApart c old.book.found new.book.entries (length old.book.entries) (state old.flash) (state new.flash)) config_is
      (subst (λ (f : Found). OpenedApart new.book.config f old.book.opened → IsStopApart new.book.config f new.book.entries (length old.book.entries) (state old.flash) (state new.flash)) found_is
      (subst (λ (cells : List Cell). OpenedApart new.book.config new.book.found cells → IsStopApart new.book.config new.book.found new.book.entries (length old.book.entries) (state old.flash) (state new.flash)) opened_is
      (stop-apart new.book new.keeper.saver old.keeper.firm new.keeper.firm (length old.book.entries) (state old.flash) (state new.flash) run now.safe now.isolated)));
  isolated = isolated;
  opens = safe-opens old.book.config old.book.found new.book.entries old.keeper.firm new.keeper.firm (state old.flash) (state new.flash) safe;
  roomy = roomy;
  more = more;
  firm = now.safe.at.firm_is;
} where
  safe : IsStopSafe old.book.config old.book.found new.book.entries old.keeper.firm new.keeper.firm (state old.flash) (state new.flash)
  safe =
      subst (λ (c : DriveConfig). IsStopSafe c old.book.found new.book.entries old.keeper.firm new.keeper.firm (state old.flash) (state new.flash)) config_is
      (subst (λ (f : Found). IsStopSafe new.book.config f new.book.entries old.keeper.firm new.keeper.firm (state old.flash) (state new.flash)) found_is
      (safe-of-stops old.book new.book es new.keeper.saver old.keeper.firm new.keeper.firm (length old.book.entries) (state old.flash) (state new.flash) entries_are firmed none run now.safe))

-- a step that completes no change
pub outlasts-all : {F : Type 0} (state : F → FlashState) (old new : Seen F) → AreFirm old.book.entries old.keeper.firm → IsSafeNow (state new.flash) new.book new.keeper → Outlasts state old new → OutlastsStops state old new
outlasts-all state old new firmed now h =
    outlasts-stops state old new h.es h.longer.config_is h.longer.found_is h.longer.opened_is h.longer.entries_are firmed
    (All-weaker (λ e. IsFalse (completes e)) (λ e. IsFalse (is_owed (state new.flash).moment e)) (λ e none. unowed (state new.flash).moment e none) h.es h.none)
    (subst (λ (c : DriveConfig). Runs (state old.flash) (state new.flash) (λ m image. IsSafeImage c new.book.found new.book.opened new.book.entries old.keeper.firm (length old.book.entries) image)) (sym h.longer.config_is)
    (subst (λ (f : Found). Runs (state old.flash) (state new.flash) (λ m image. IsSafeImage old.book.config f new.book.opened new.book.entries old.keeper.firm (length old.book.entries) image)) (sym h.longer.found_is)
    (subst (λ (cells : List Cell). Runs (state old.flash) (state new.flash) (λ m image. IsSafeImage old.book.config old.book.found cells new.book.entries old.keeper.firm (length old.book.entries) image)) (sym h.longer.opened_is) h.images)))
    now h.more h.roomy (part-leaves old.book new.book (state old.flash) (state new.flash) h.longer.config_is h.longer.found_is h.longer.opened_is h.isolated now.isolated)
