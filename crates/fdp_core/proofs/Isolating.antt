-- What the parts of a step leave of isolation, and what the whole step leaves.
use Rattle.std.proofs.Common.{◌≡◌, ℕ, List, Some, refl, sym, ◌∙◌, ap, subst, inl}
use Rattle.std.specs.Prelude.{IsTrue, slice_get}
use Rattle.fdp_base.specs.declared.config.DriveConfig.{DriveConfig}
use Rattle.fdp_base.specs.declared.entry.Entry.{Entry}
use Rattle.fdp_base.specs.declared.entry.Spot.{Spot}
use Rattle.fdp_base.specs.Placement.{geometry_of}
use Rattle.fdp_calls.specs.Media.{IsReadFrom}
use Rattle.fdp_core.specs.Stops.{IsIsolatedBy, KeepsPart, LeavesIsolated, Retains, StaysWithin}
use Rattle.fdp_core.proofs.Passing.{IsPrefix, runs-saying}
use Rattle.fdp_flash.specs.declared.cell.Cell.{Cell}
use Rattle.fdp_flash.specs.declared.cell.Cell.TheVariants.{Blank}
use Rattle.fdp_flash.specs.Cells.{ProgramMayLeave}
use Rattle.fdp_flash.specs.FlashState.{Call, FlashState}
use Rattle.fdp_flash.specs.Layout.{page_number}
use Rattle.fdp_flash.specs.Runs.{Runs}
use Rattle.fdp_flash.proofs.Runs.{no_run, runs_joined, runs_weakened}
use Rattle.fdp_image.specs.Saving.{SameDataPages}
use Rattle.fdp_loading.specs.fdp_isolation.Begun.{OpenedApart}
use Rattle.fdp_loading.specs.fdp_isolation.Isolated.{IsIsolatedDrive}
use Rattle.fdp_loading.specs.fdp_isolation.Stays.{IsSameSetting, StaysIsolated}
use Rattle.fdp_loading.specs.fdp_survival.Books.{KeepsIsolated}
use Rattle.fdp_loading.proofs.fdp_isolation.Later.{left-stays, program-keeps, setting-back, setting-joined, setting-same, stays-saved}
use Rattle.fdp_loading.proofs.fdp_isolation.Stopped.{LeavesApart, left-isolated, saved-isolated}
use Rattle.fdp_relocation.specs.fdp_book.Book.{BookSeen, IsLonger, point_in, state_in}
use Rattle.fdp_rules.specs.History.{Found}
use Rattle.fdp_rules.specs.PlainState.{PlainState}

-- ---- calls that leave the pages of data

-- each page of data is as it was, behind them and in whatever a stop in one leaves
pub record LeavesData (c : DriveConfig) (old new : FlashState) : Type 0 where
  pub images : Runs old new (λ m image. SameDataPages c old.cells image)
  pub cells : IsTrue old.told → SameDataPages c old.cells new.cells

-- no call was made
pub data-none : (c : DriveConfig) (f : FlashState) → LeavesData c f f
data-none c f = record { images = no_run f (λ m image. SameDataPages c f.cells image); cells = λ told page low. refl }

-- calls that read
pub data-read : (c : DriveConfig) (f n : FlashState) → IsReadFrom f n → LeavesData c f n
data-read c f n read = record {
  images = runs_weakened f n (λ m image. image ≡ f.cells) (λ m image. SameDataPages c f.cells image) read.stops (λ told m image above most same. same-data image same);
  cells = λ told. same-data n.cells (read.cells told);
} where
  same-data : (cells : List Cell) → cells ≡ f.cells → SameDataPages c f.cells cells
  same-data cells same page low = ap (λ (xs : List Cell). slice_get xs page) same

-- calls in the system units
pub data-prefix : (b : BookSeen) (f n : FlashState) (calls : List Call) → IsPrefix b f n calls → LeavesData b.config f n
data-prefix b f n calls h = record { images = runs-saying f n (λ m image. Unit {0}) (λ m image. SameDataPages b.config f.cells image) h.made.run h.stopped; cells = h.same }

-- ---- books that go on

-- a run began as it goes on
pub opened-as : (b d : BookSeen) → d.config ≡ b.config → d.found ≡ b.found → d.opened ≡ b.opened → OpenedApart b.config b.found b.opened → OpenedApart d.config d.found d.opened
opened-as b d config found cells opened =
    subst (λ (c : DriveConfig). OpenedApart c d.found d.opened) (sym config)
    (subst (λ (f : Found). OpenedApart b.config f d.opened) (sym found)
    (subst (OpenedApart b.config b.found) (sym cells) opened))

pub opened-longer : (b d : BookSeen) (es : List Entry) → IsLonger b d es → OpenedApart b.config b.found b.opened → OpenedApart d.config d.found d.opened
opened-longer b d es longer = opened-as b d longer.config_is longer.found_is longer.opened_is

-- what is isolated by the history of a book, with the configuration of another one
by-config : (d : BookSeen) (c : DriveConfig) (cells : List Cell) → d.config ≡ c → IsIsolatedBy d cells → IsIsolatedDrive c (point_in d) d.entries cells
by-config d c cells same h = subst (λ (x : DriveConfig). IsIsolatedDrive x (point_in d) d.entries cells) same h

by-own : (d : BookSeen) (c : DriveConfig) (cells : List Cell) → d.config ≡ c → IsIsolatedDrive c (point_in d) d.entries cells → IsIsolatedBy d cells
by-own d c cells same h = subst (λ (x : DriveConfig). IsIsolatedDrive x (point_in d) d.entries cells) (sym same) h

-- calls that leave the pages of data: whatever a stop in one leaves is isolated as the cells behind them
pub leaves-data : (b d : BookSeen) (f n : FlashState) → d.config ≡ b.config → d.found ≡ b.found → d.opened ≡ b.opened → LeavesData b.config f n → KeepsIsolated n d → LeavesIsolated b d f n
leaves-data b d f n config found cells same now opened =
    runs-saying f n (λ m image. SameDataPages b.config f.cells image) (λ m image. IsIsolatedBy d image) same.images
    (λ told m image above most during.
    let here = same.images.images told m image above most during in
    let there = same.cells told in
    by-own d b.config image config
    (saved-isolated b.config (point_in d) d.entries n.cells image (λ page low. here page low ∙ sym (there page low)) (by-config d b.config n.cells config (now (same.images.told ∙ told) (opened-as b d config found cells opened)))))

-- ---- parts

module _ (c : DriveConfig) (s : PlainState) where
  pub within-data : (f n : FlashState) → LeavesData c f n → StaysWithin c s f n
  within-data f n same = record {
    images = runs_weakened f n (λ m image. SameDataPages c f.cells image) (λ m image. StaysIsolated c s f.cells image) same.images (λ told m image above most same. stays-saved c s f.cells image same);
    cells = λ told. stays-saved c s f.cells n.cells (same.cells told);
  }

  pub within-joined : (f m n : FlashState) → StaysWithin c s f m → StaysWithin c s m n → StaysWithin c s f n
  within-joined f m n p q = record {
    images = runs_joined f m n (λ at image. StaysIsolated c s f.cells image) p.images
        (runs-saying m n (λ at image. StaysIsolated c s m.cells image) (λ at image. StaysIsolated c s f.cells image) q.images
        (λ told at image above most during point es same h. q.images.images told at image above most during point es same (p.cells (sym p.images.told ∙ told) point es same h)));
    cells = λ told point es same h. q.cells (p.images.told ∙ told) point es same (p.cells told point es same h);
  }

  -- by the state before an earlier part
  stays-as : (d : DriveConfig) (t : PlainState) (old new : List Cell) → d ≡ c → IsSameSetting s t → StaysIsolated d t old new → StaysIsolated c s old new
  stays-as d t old new is setting h p es same was =
      subst (λ (x : DriveConfig). IsIsolatedDrive x p es new) is
      (h p es (setting-joined t s p.state (setting-back s t setting) same) (subst (λ (x : DriveConfig). IsIsolatedDrive x p es old) (sym is) was))

  within-as : (d : DriveConfig) (t : PlainState) (f n : FlashState) → d ≡ c → IsSameSetting s t → StaysWithin d t f n → StaysWithin c s f n
  within-as d t f n is setting h = record {
    images = runs_weakened f n (λ m image. StaysIsolated d t f.cells image) (λ m image. StaysIsolated c s f.cells image) h.images (λ told m image above most stays. stays-as d t f.cells image is setting stays);
    cells = λ told. stays-as d t f.cells n.cells is setting (h.cells told);
  }

-- no part
pub part-none : (b : BookSeen) (f : FlashState) → KeepsPart b b f f
part-none b f = record { within = λ opened. within-data b.config (state_in b) f f (data-none b.config f); setting = setting-same (state_in b); first = λ told opened h. h }

-- a part that leaves the pages of data
pub part-data : (b d : BookSeen) (f n : FlashState) → d.config ≡ b.config → IsSameSetting (state_in b) (state_in d) → LeavesData b.config f n → KeepsPart b d f n
part-data b d f n config setting same = record {
  within = λ opened. within-data b.config (state_in b) f n same;
  setting = setting;
  first = λ told opened now. by-own d b.config f.cells config (saved-isolated b.config (point_in d) d.entries n.cells f.cells (λ page low. sym (same.cells told page low)) (by-config d b.config n.cells config now));
}

-- a part that programs a page which was blank, and puts together nothing that is kept apart
pub part-page : (b d : BookSeen) (f n : FlashState) (spot : Spot) (spare bytes : List ℕ) → d.config ≡ b.config → IsSameSetting (state_in b) (state_in d)
    → (IsTrue f.told → slice_get f.cells (page_number (geometry_of b.config) spot) ≡ Some Blank)
    → Runs f n (λ m image. ProgramMayLeave (geometry_of b.config) f.cells spot spare bytes image) → (IsTrue f.told → ProgramMayLeave (geometry_of b.config) f.cells spot spare bytes n.cells)
    → ((image : List Cell) → IsTrue f.told → OpenedApart b.config b.found b.opened → ProgramMayLeave (geometry_of b.config) f.cells spot spare bytes image → LeavesApart b.config (state_in b) f.cells image) → KeepsPart b d f n
part-page b d f n spot spare bytes config setting blank run left apart = record {
  within = λ opened. record {
    images = runs-saying f n (λ m image. ProgramMayLeave (geometry_of b.config) f.cells spot spare bytes image) (λ m image. StaysIsolated b.config (state_in b) f.cells image) run
        (λ told m image above most during. left-stays b.config (state_in b) f.cells image (apart image told opened (run.images told m image above most during)));
    cells = λ told. left-stays b.config (state_in b) f.cells n.cells (apart n.cells told opened (left told));
  };
  setting = setting;
  first = λ told opened now.
      by-own d b.config f.cells config (left-isolated b.config (point_in d) d.entries n.cells f.cells (inl (program-keeps b.config f.cells n.cells spot spare bytes (blank told) (left told))) (by-config d b.config n.cells config now));
}

-- one part behind another, where the cells before the first are isolated by the history behind both as soon as those between them are
pub part-joined : (b m d : BookSeen) (f h n : FlashState) → m.config ≡ b.config → m.found ≡ b.found → m.opened ≡ b.opened → h.told ≡ f.told → KeepsPart b m f h → KeepsPart m d h n → (IsTrue f.told → OpenedApart b.config b.found b.opened → IsIsolatedBy d h.cells → IsIsolatedBy d f.cells) → KeepsPart b d f n
part-joined b m d f h n config found cells told_is p q bridge = record {
  within = λ opened. within-joined b.config (state_in b) f h n (p.within opened) (within-as b.config (state_in b) m.config (state_in m) h n config p.setting (q.within (opened-as b m config found cells opened)));
  setting = setting-joined (state_in b) (state_in m) (state_in d) p.setting q.setting;
  first = λ told opened now. bridge told opened (q.first (told_is ∙ told) (opened-as b m config found cells opened) now);
}

-- the first one retains the pages
pub bridge-retained : (b m d : BookSeen) (f h : FlashState) → d.config ≡ b.config → IsSameSetting (state_in b) (state_in m) → IsSameSetting (state_in m) (state_in d) → Retains b f h → IsTrue f.told → OpenedApart b.config b.found b.opened → IsIsolatedBy d h.cells → IsIsolatedBy d f.cells
bridge-retained b m d f h config p q retains told opened there =
    by-own d b.config f.cells config (retains told opened (point_in d) d.entries (setting-joined (state_in b) (state_in m) (state_in d) p q) (by-config d b.config h.cells config there))

-- parts that retain the pages, one behind another
pub retains-none : (b : BookSeen) (f : FlashState) → Retains b f f
retains-none b f told opened p es same h = h

pub retains-joined : (b m : BookSeen) (f h n : FlashState) (es : List Entry) → IsLonger b m es → h.told ≡ f.told → IsSameSetting (state_in b) (state_in m) → Retains b f h → Retains m h n → Retains b f n
retains-joined b m f h n es longer told_is setting p q told opened point xs same was =
    p told opened point xs same (stays-as b.config (state_in b) m.config (state_in m) n.cells h.cells longer.config_is setting (q (told_is ∙ told) (opened-longer b m es longer opened)) point xs same was)

-- ---- the whole step

-- no call was made
pub leaves-nothing : (b d : BookSeen) (f : FlashState) → LeavesIsolated b d f f
leaves-nothing b d f opened = no_run f (λ m image. IsIsolatedBy d image)

-- whatever a stop in a step leaves is isolated by the history at its exit
pub part-leaves : (b d : BookSeen) (f n : FlashState) → d.config ≡ b.config → d.found ≡ b.found → d.opened ≡ b.opened → KeepsPart b d f n → KeepsIsolated n d → LeavesIsolated b d f n
part-leaves b d f n config found cells part now opened =
    let within = part.within opened in
    runs-saying f n (λ m image. StaysIsolated b.config (state_in b) f.cells image) (λ m image. IsIsolatedBy d image) within.images
    (λ told m image above most during.
    let first = part.first told opened (now (within.images.told ∙ told) (opened-as b d config found cells opened)) in
    by-own d b.config image config (within.images.images told m image above most during (point_in d) d.entries part.setting (by-config d b.config f.cells config first)))
