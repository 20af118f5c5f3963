-- Steps of relocation within a step of a group, one after another.
use Rattle.std.proofs.Common.{◌≡◌, ℕ, ◌≤◌, ◌<◌, Bool, true, false, ◌||◌, List, [], ◌∷◌, ◌++◌, refl, sym, ◌∙◌, ap, subst, arith, append_assoc, length-append}
use Rattle.std.specs.Prelude.{IsTrue}
use Rattle.std.specs.List.{list_any}
use Rattle.std.proofs.lemmas.Bool.{false≢true}
use Rattle.std.proofs.lemmas.List.{append-nil}
use Rattle.std.proofs.lemmas.List.Elements.{All-append, All-nil}
use Rattle.std.proofs.lemmas.List.Folds.{list_any-append}
use Rattle.std.proofs.lemmas.List.Sums.{sum_by-append}
use Rattle.fdp_base.specs.declared.config.DriveConfig.{DriveConfig}
use Rattle.fdp_base.specs.declared.config.Geometry.{Geometry}
use Rattle.fdp_base.specs.declared.entry.Entry.{Entry}
use Rattle.fdp_relocation.specs.fdp_book.Book.{BookSeen, IsLonger, state_in, written_in}
use Rattle.fdp_relocation.specs.fdp_book.Relocating.{told_by}
use Rattle.fdp_relocation.specs.fdp_book.Relocating as book
use Rattle.fdp_calls.specs.Calls.{MakesCalls, counted_more, erase_at, fetch_at, has_failed, program_at}
use Rattle.fdp_calls.proofs.Made.{calls-joined, calls-none, counted_more-add, counted_more-none, counted_more-one}
use Rattle.fdp_relocation.specs.fdp_collector.declared.step.Lost.TheVariants as lost
use Rattle.fdp_relocation.specs.fdp_collector.declared.step.Step.{Step}
use Rattle.fdp_relocation.specs.fdp_collector.declared.step.Step.TheVariants as steps
use Rattle.fdp_relocation.specs.fdp_collector.Step.{IsUncalled}
use Rattle.fdp_core.specs.Passes.{Relocates}
use Rattle.fdp_core.specs.Seen.{Seen, Stands}
use Rattle.fdp_core.specs.Steps.{Matches}
use Rattle.fdp_flash.specs.declared.cell.Cell.{Cell}
use Rattle.fdp_flash.specs.FlashState.{Call, FlashState}
use Rattle.fdp_flash.specs.Runs.{Runs}
use Rattle.fdp_loading.specs.fdp_isolation.Laned.{IsKnown}
use Rattle.fdp_loading.specs.fdp_ledger.declared.counts.Counts.{Counts}
use Rattle.fdp_loading.specs.fdp_ledger.Emptied.{ErasedAreBlank, OnlyErasesEmpty}
use Rattle.fdp_loading.specs.fdp_ledger.Ledger.{IsLedger}
use Rattle.fdp_loading.specs.fdp_ledger.Told.{tells_failure}
use Rattle.fdp_loading.specs.fdp_ledger.WornOut.{IsWornOut}
use Rattle.fdp_loading.proofs.fdp_ledger.Promised.{worn-out}
use Rattle.fdp_rules.specs.History.{Found, point_of, state_of}
use Rattle.fdp_base.specs.Placement.{geometry_of}
use Rattle.fdp_base.specs.EntryKinds.{empties}
use Rattle.fdp_loading.proofs.fdp_ledger.Blank.{none-free_starved, ErasesNoUnit, erased-behind, erased-none, erased-relocated}
use Rattle.fdp_loading.proofs.fdp_ledger.Emptied.{emptied-joined, emptied-none, same-emptied}
use Rattle.fdp_loading.proofs.fdp_ledger.Relocated.{emptied-relocated}
use Rattle.fdp_relocation.specs.Collected.{StaysUncalled}
use Rattle.fdp_relocation.specs.Entries.{AreRelocationIn, IsRelocationIn}
use Rattle.fdp_relocation.proofs.Keeping.{keeps-self, keeps-then}
use Rattle.fdp_rules.specs.Totals.{media_blocks, media_blocks_of}
use Rattle.fdp_relocation.specs.fdp_saving.Calls.{FailAtEnd}
use Rattle.fdp_loading.proofs.fdp_ledger.System.{AreBehindData, emptied-system}
use Rattle.fdp_relocation.specs.fdp_locations.Stored.{HoldsWritten}
use Rattle.fdp_relocation.specs.fdp_collector.declared.step.Lost.{Lost}
use Rattle.fdp_relocation.specs.fdp_durability.Saved.{SavesDrive, SavesEntries, SettlesDrive}
use Rattle.fdp_relocation.specs.fdp_journal.JournalState.{JournalState}
use Rattle.fdp_loading.specs.fdp_survival.Books.{IsSafe, KeepsApart}
use Rattle.fdp_image.specs.Saving.{SameDataPages}
use Rattle.fdp_loading.proofs.fdp_survival.Savings.{checkpoint-same, checkpoint-stopped, saving-same, saving-stopped, settling-same, settling-stopped}
use Rattle.fdp_relocation.specs.fdp_saving.declared.saved.Saved.{Saved}
use Rattle.fdp_flash.specs.declared.answer.Wrote.{Wrote}
use Rattle.fdp_relocation.proofs.Resting.{uncalled-calls, uncalled-same}
use Rattle.fdp_base.specs.Geometry.{data_units}
use Rattle.fdp_loading.proofs.fdp_isolation.Apart as isolation
use Rattle.fdp_loading.proofs.fdp_isolation.Saved.{holds-saved}

-- ---- no call

-- a run, with what is known of each image of a stop in it
pub runs-saying : (f n : FlashState) (Image Other : ℕ → List Cell → Type 0) → Runs f n Image → (IsTrue f.told → (m : ℕ) (image : List Cell) → f.moment < m → m ≤ n.moment → n.during m image → Other m image) → Runs f n Other
runs-saying f n Image Other run said = record {
  geometry = run.geometry;
  reliable = run.reliable;
  told = run.told;
  tells_images = run.tells_images;
  later = run.later;
  faults = run.faults;
  no_fault = run.no_fault;
  programs = run.programs;
  images = said;
  earlier = run.earlier;
  kept = run.kept;
  listed_before = run.listed_before;
  listed = run.listed;
}

-- a run, of which nothing is said of what a stop leaves
pub runs-plain : (f n : FlashState) (Image : ℕ → List Cell → Type 0) → Runs f n Image → Runs f n (λ m image. Unit {0})
runs-plain f n Image run = runs-saying f n Image (λ m image. Unit {0}) run (λ told m image above most during. tt)

-- a run in which no call was made
pub uncalled-made : (f n : FlashState) (Image : ℕ → List Cell → Type 0) → Runs f n Image → IsUncalled f n → MakesCalls f n []
uncalled-made f n Image run none = record {
  run = runs-plain f n Image run;
  moment = none.moment ∙ sym (counted_more-none f.moment);
  listed = λ tells. none.calls tells ∙ sym (append-nil f.calls);
  fault = λ wrong. absurd (false≢true wrong);
  no_fault = λ _. none.faults;
}

-- ---- the calls of a step, with what they tell

quiet : (f n : FlashState) (Image : ℕ → List Cell → Type 0) (es : List Entry) → media_blocks es ≡ 0 → list_any tells_failure es ≡ false → ErasesNoUnit es → Runs f n Image → IsUncalled f n → Matches f n es []
quiet f n Image es none fine erases run uncalled = record {
  made = uncalled-made f n Image run uncalled;
  programs = uncalled.programs ∙ sym (ap (counted_more f.programs) none ∙ counted_more-none f.programs);
  failed = λ wrong. absurd (false≢true (sym fine ∙ wrong));
  erased = λ told. erased-none f.geometry n.cells es erases;
  emptied = λ told. emptied-none f.geometry f.cells n.cells es (same-emptied f.geometry f.cells n.cells (uncalled.cells told));
}

-- the calls of a step of relocation that was due in a group
unfoldable pub calls_by : (b d : BookSeen) (f n : FlashState) (rg : ℕ) (may : Bool) (step : Step) → book.Relocates b d f n rg may step → List Call
calls_by b d f n rg may steps.Nothing h = []
calls_by b d f n rg may (steps.Copied copy) h = fetch_at h.is.from false ∷ program_at h.is.to false ∷ []
calls_by b d f n rg may steps.ReadyToMove h = []
calls_by b d f n rg may (steps.Erased unit) h = erase_at unit false ∷ []
calls_by b d f n rg may steps.EraseDue h = []
calls_by b d f n rg may steps.Starved h = []
calls_by b d f n rg may (steps.Fault lost.None) h = fetch_at h.is.from false ∷ program_at h.is.to true ∷ []
calls_by b d f n rg may (steps.Fault (lost.Aside unit)) h = fetch_at h.is.from true ∷ []
calls_by b d f n rg may (steps.Fault (lost.Retired unit)) h = erase_at unit true ∷ []

module _ (b d : BookSeen) (f n : FlashState) (rg : ℕ) (may : Bool) (Image : ℕ → List Cell → Type 0) (stands : Stands f b) (low : rg < b.config.groups) (run : Runs f n Image) where
  -- a step leaves no unit all blank but one that it erased
  emptied-by : (step : Step) → book.Relocates b d f n rg may step → IsTrue f.told → OnlyErasesEmpty f.geometry f.cells n.cells (told_by rg step)
  emptied-by step h = emptied-relocated b d f n rg may step Image low stands.known.joined stands.known.units stands.geometry stands.stored h run

  pub matches-by : (step : Step) (h : book.Relocates b d f n rg may step) → Matches f n (told_by rg step) (calls_by b d f n rg may step h)
  unfolding calls_by
  matches-by steps.Nothing h = quiet f n Image [] refl refl (λ unit. refl) run h.is.1.flash
  matches-by (steps.Copied copy) h = record {
    made = h.is.ended.2.made;
    programs = h.is.ended.2.programs refl ∙ sym (counted_more-one f.programs);
    failed = λ wrong. absurd (false≢true wrong);
    erased = λ told. erased-none f.geometry n.cells _ (λ unit. refl);
    emptied = emptied-by (steps.Copied copy) h;
  }
  matches-by steps.ReadyToMove h = quiet f n Image [] refl refl (λ unit. refl) run h.is.1.flash
  matches-by (steps.Erased unit) h = record {
    made = h.is.2.made;
    programs = h.is.2.flash.programs ∙ sym (counted_more-none f.programs);
    failed = λ wrong. absurd (false≢true wrong);
    erased = erased-relocated b d f n rg may unit h;
    emptied = emptied-by (steps.Erased unit) h;
  }
  matches-by steps.EraseDue h = quiet f n Image [] refl refl (λ unit. refl) run h.is.2.flash
  matches-by steps.Starved h = quiet f n Image _ refl refl (λ unit. refl) run h.is.flash
  matches-by (steps.Fault lost.None) h = record {
    made = h.is.ended.1.made;
    programs = h.is.ended.1.not_done refl ∙ sym (counted_more-none f.programs);
    failed = λ _. refl;
    erased = λ told. erased-none f.geometry n.cells _ (λ unit. refl);
    emptied = emptied-by (steps.Fault lost.None) h;
  }
  matches-by (steps.Fault (lost.Aside unit)) h = record {
    made = h.is.flash.made;
    programs = h.is.flash.read.programs ∙ sym (counted_more-none f.programs);
    failed = λ _. refl;
    erased = λ told. erased-none f.geometry n.cells _ (λ other. refl);
    emptied = emptied-by (steps.Fault (lost.Aside unit)) h;
  }
  matches-by (steps.Fault (lost.Retired unit)) h = record {
    made = h.is.2.made;
    programs = h.is.2.flash.programs ∙ sym (counted_more-none f.programs);
    failed = λ _. refl;
    erased = λ told. erased-none f.geometry n.cells _ (λ other. refl);
    emptied = emptied-by (steps.Fault (lost.Retired unit)) h;
  }

  -- the last call of a step that failed, and no other
  pub fails-by : (which : Lost) (h : book.Relocates b d f n rg may (steps.Fault which)) → FailAtEnd (calls_by b d f n rg may (steps.Fault which) h)
  unfolding calls_by
  fails-by lost.None h = record { before = fetch_at h.is.from false ∷ []; last = program_at h.is.to true; calls_are = refl; well = refl; failed = refl }
  fails-by (lost.Aside unit) h = record { before = []; last = fetch_at h.is.from true; calls_are = refl; well = refl; failed = refl }
  fails-by (lost.Retired unit) h = record { before = []; last = erase_at unit true; calls_are = refl; well = refl; failed = refl }

-- a step that found no free unit leaves a group that is worn out
pub worn-made : (handed : Counts) (b d : BookSeen) (f n : FlashState) (rg : ℕ) (may : Bool) (Image : ℕ → List Cell → Type 0) → Runs f n Image → Stands f b → rg < b.config.groups → IsKnown d → IsLedger handed d n → book.Relocates b d f n rg may steps.Starved → IsWornOut handed n (state_in d).is_lost rg
worn-made handed b d f n rg may Image run stands low known ledger h =
    worn-out handed d n rg (subst (λ (c : DriveConfig). rg < c.groups) (sym h.longer.config_is) low) known.units (run.geometry ∙ stands.geometry ∙ ap geometry_of (sym h.longer.config_is)) (none-free_starved b d f n rg may h) ledger

-- by the history before it and its entries
pub worn-told : (handed : Counts) (n : FlashState) (b d : BookSeen) (es : List Entry) (rg : ℕ) → IsLonger b d es → IsWornOut handed n (state_in d).is_lost rg → IsWornOut handed n (state_of b.config b.found (b.entries ++ es)).is_lost rg
unfolding state_of point_of
worn-told handed n b d es rg longer worn =
    subst (λ (xs : List Entry). IsWornOut handed n (state_of b.config b.found xs).is_lost rg) longer.entries_are
    (subst (λ (x : Found). IsWornOut handed n (state_of b.config x d.entries).is_lost rg) longer.found_is
    (subst (λ (c : DriveConfig). IsWornOut handed n (state_of c d.found d.entries).is_lost rg) longer.config_is worn))

-- ---- calls in the system units

-- calls in the units behind those of data: no page of data changed, nor does one in what a stop leaves
pub record IsPrefix (b : BookSeen) (old now : FlashState) (calls : List Call) : Type 0 where
  pub made : MakesCalls old now calls
  pub behind : AreBehindData old.geometry calls
  pub programs : now.programs ≡ old.programs
  pub same : IsTrue old.told → SameDataPages b.config old.cells now.cells
  pub stopped : IsTrue old.told → (m : ℕ) (image : List Cell) → old.moment < m → m ≤ now.moment → now.during m image → SameDataPages b.config old.cells image

-- so are those of a saving
pub saving-prefix : (b : BookSeen) (e : Entry) (s now : JournalState) (firm : ℕ) (f n : FlashState) (answer : Saved) → IsSafe b s firm f → (h : SavesEntries b.config b.found b.entries (e ∷ []) s now f n answer) → IsPrefix b f n h.calls.calls
saving-prefix b e s now firm f n answer safe h = record { made = h.calls.made; behind = h.calls.system; programs = h.calls.programs; same = saving-same b.config b.found b.entries e b.pages.units s now firm f n answer safe.at h; stopped = saving-stopped b.config b.found b.entries e b.pages.units s now firm f n answer safe.at h }

-- of a checkpoint
pub written-prefix : (b : BookSeen) (s now : JournalState) (firm : ℕ) (f n : FlashState) (answer : Wrote) → IsSafe b s firm f → (h : SavesDrive b.config b.found b.entries s now f n answer) → IsPrefix b f n h.calls.calls
written-prefix b s now firm f n answer safe h = record { made = h.calls.made; behind = h.calls.system; programs = h.calls.programs; same = checkpoint-same b.config b.found b.entries b.pages.units s now firm f n answer safe.at h; stopped = checkpoint-stopped b.config b.found b.entries b.pages.units s now firm f n answer safe.at h }

-- and of one that ends a doubt
pub settled-prefix : (b : BookSeen) (s now : JournalState) (firm : ℕ) (f n : FlashState) (answer : Wrote) → IsSafe b s firm f → (h : SettlesDrive b.config b.found b.entries s now f n answer) → IsPrefix b f n h.calls.calls
settled-prefix b s now firm f n answer safe h = record { made = h.calls.made; behind = h.calls.system; programs = h.calls.programs; same = settling-same b.config b.found b.entries b.pages.units s now firm f n answer safe.at h; stopped = settling-stopped b.config b.found b.entries b.pages.units s now firm f n answer safe.at h }

-- no call is such
pub resting-prefix : (b : BookSeen) (f n : FlashState) → StaysUncalled f n → IsPrefix b f n []
resting-prefix b f n h = record { made = uncalled-calls f n h; behind = All-nil (λ (call : Call). data_units f.geometry ≤ call.at.unit); programs = h.uncalled.programs; same = uncalled-same b.config f n h; stopped = λ told m image above most during. absurd (h.run.images told m image above most during) }

-- they are such by a book that goes on, too
pub prefix-as : (b d : BookSeen) (f n : FlashState) (calls : List Call) → d.config ≡ b.config → IsPrefix b f n calls → IsPrefix d f n calls
prefix-as b d f n calls config h = record {
  made = h.made;
  behind = h.behind;
  programs = h.programs;
  same = λ told. subst (λ (c : DriveConfig). SameDataPages c f.cells n.cells) (sym config) (h.same told);
  stopped = λ told m image above most during. subst (λ (c : DriveConfig). SameDataPages c f.cells image) (sym config) (h.stopped told m image above most during);
}

-- beside entries that tell of no page and no erase, and of a failure only where a call failed
pub prefix-matches : (b : BookSeen) (f n : FlashState) (calls : List Call) (es : List Entry) → f.geometry ≡ geometry_of b.config → media_blocks es ≡ 0 → (list_any tells_failure es ≡ true → list_any has_failed calls ≡ true) → ErasesNoUnit es → IsPrefix b f n calls → Matches f n es calls
prefix-matches b f n calls es geometry none fails erases h = record {
  made = h.made;
  programs = h.programs ∙ sym (ap (counted_more f.programs) none ∙ counted_more-none f.programs);
  failed = fails;
  erased = λ told. erased-none f.geometry n.cells es erases;
  emptied = emptied-system b f n calls geometry h.behind h.programs h.same es;
}

-- a book stands behind them as it did
pub prefix-stands : (b : BookSeen) (f n : FlashState) (calls : List Call) → Stands f b → IsPrefix b f n calls → Stands n b
prefix-stands b f n calls stands h = record {
  known = stands.known;
  geometry = h.made.run.geometry ∙ stands.geometry;
  stored = λ tells.
      let told : IsTrue f.told = sym h.made.run.told ∙ tells in
      subst (λ (g : Geometry). HoldsWritten g n.cells (written_in b) b.pages.units) (sym (h.made.run.geometry ∙ stands.geometry))
      (holds-saved b f.cells n.cells (h.same told) (record { known = stands.known; holds = subst (λ (g : Geometry). HoldsWritten g f.cells (written_in b) b.pages.units) stands.geometry (stands.stored told) })).holds;
}

-- and keeps data apart as it did
pub prefix-apart : (b : BookSeen) (f n : FlashState) (calls : List Call) → IsPrefix b f n calls → KeepsApart f b → KeepsApart n b
prefix-apart b f n calls h apart tells opened = let told : IsTrue f.told = sym h.made.run.told ∙ tells in isolation.saved b f.cells n.cells (h.same told) (apart told opened)

-- entries that tell of no erase, one behind another
pub erases-none : (es fs : List Entry) → ErasesNoUnit es → ErasesNoUnit fs → ErasesNoUnit (es ++ fs)
erases-none es fs p q unit = list_any-append (empties unit) es fs ∙ ap (λ (k : Bool). k || list_any (empties unit) fs) (p unit) ∙ q unit

pub matches-joined : (a b c : FlashState) (es fs : List Entry) (xs ys : List Call) → ErasesNoUnit es → Matches a b es xs → Matches b c fs ys → Matches a c (es ++ fs) (xs ++ ys)
matches-joined a b c es fs xs ys none p q = record {
  made = calls-joined a b c xs ys p.made q.made;
  programs = q.programs ∙ ap (λ (k : ℕ). counted_more k (media_blocks fs)) p.programs ∙ counted_more-add a.programs (media_blocks es) (media_blocks fs) ∙ ap (counted_more a.programs) (sym (sum_by-append media_blocks_of es fs));
  failed = λ some. list_any-append has_failed xs ys ∙ either (list_any tells_failure es) (list_any tells_failure fs) (list_any has_failed xs) (list_any has_failed ys) p.failed q.failed (sym (list_any-append tells_failure es fs) ∙ some);
  erased = λ told. erased-behind a.geometry c.cells es fs none (subst (λ (g : Geometry). ErasedAreBlank g c.cells fs) p.made.run.geometry (q.erased (p.made.run.told ∙ told)));
  emptied = λ told. emptied-joined a.geometry a.cells b.cells c.cells es fs (p.emptied told) (subst (λ (g : Geometry). OnlyErasesEmpty g b.cells c.cells fs) p.made.run.geometry (q.emptied (p.made.run.told ∙ told)));
}
  where
    or-true : (k : Bool) → k || true ≡ true
    or-true true = refl
    or-true false = refl

    either : (x y u v : Bool) → (IsTrue x → IsTrue u) → (IsTrue y → IsTrue v) → x || y ≡ true → u || v ≡ true
    either true y u v first second e = ap (λ (k : Bool). k || v) (first refl)
    either false y u v first second e = ap (λ (k : Bool). u || k) (second e) ∙ or-true u

pub longer-none : (b : BookSeen) → IsLonger b b []
longer-none b = record { config_is = refl; found_is = refl; opened_is = refl; entries_are = sym (append-nil b.entries); spare_is = refl; spent_is = refl; room_is = omega arith }

pub longer-joined : (a b c : BookSeen) (es fs : List Entry) → IsLonger a b es → IsLonger b c fs → IsLonger a c (es ++ fs)
longer-joined a b c es fs p q = record {
  config_is = q.config_is ∙ p.config_is;
  found_is = q.found_is ∙ p.found_is;
  opened_is = q.opened_is ∙ p.opened_is;
  entries_are = q.entries_are ∙ ap (λ (xs : List Entry). xs ++ fs) p.entries_are ∙ append_assoc a.entries es fs;
  spare_is = q.spare_is ∙ p.spare_is;
  spent_is = q.spent_is ∙ p.spent_is;
  room_is = omega (arith, p.room_is, q.room_is, length-append es fs);
}

pub relocates-joined : {F : Type 0} (state : F → FlashState) (a b c : Seen F) (rg : ℕ) (es fs : List Entry) (xs ys : List Call) → ErasesNoUnit es → Relocates state a b rg es xs → Relocates state b c rg fs ys → Relocates state a c rg (es ++ fs) (xs ++ ys)
relocates-joined state a b c rg es fs xs ys none p q = record {
  extends = record {
    book = longer-joined a.book b.book c.book es fs p.extends.book q.extends.book;
    handed_is = q.extends.handed_is ∙ p.extends.handed_is;
    matches = matches-joined (state a.flash) (state b.flash) (state c.flash) es fs xs ys none p.extends.matches q.extends.matches;
  };
  inside = All-append (IsRelocationIn a.book.config rg) es fs p.inside (subst (λ (k : DriveConfig). AreRelocationIn k rg fs) p.extends.book.config_is q.inside);
  kept = keeps-then (state_in a.book) (state_in b.book) (state_in c.book) p.kept q.kept;
}

pub relocates-none : {F : Type 0} (state : F → FlashState) (s : Seen F) (rg : ℕ) → Relocates state s s rg [] []
relocates-none state s rg = record {
  extends = record {
    book = record { config_is = refl; found_is = refl; opened_is = refl; entries_are = sym (append-nil s.book.entries); spare_is = refl; spent_is = refl; room_is = omega arith };
    handed_is = refl;
    matches = record {
      made = calls-none (state s.flash);
      programs = sym (counted_more-none (state s.flash).programs);
      failed = λ wrong. absurd (false≢true wrong);
      erased = λ told. erased-none (state s.flash).geometry (state s.flash).cells [] (λ unit. refl);
      emptied = λ told. emptied-none (state s.flash).geometry (state s.flash).cells (state s.flash).cells [] (same-emptied (state s.flash).geometry (state s.flash).cells (state s.flash).cells refl);
    };
  };
  inside = All-nil (IsRelocationIn s.book.config rg);
  kept = keeps-self (state_in s.book);
}
