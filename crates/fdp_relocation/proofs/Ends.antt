-- What a step of relocation came to, behind a step that rests.
use Rattle.std.proofs.Common.{◌≡◌, ℕ, ◌+◌, ◌≤◌, Bool, not, IsTrue, List, [], ◌∷◌, length, inl, inr, refl, sym, ◌∙◌, ap, subst, arith}
use Rattle.fdp_base.specs.declared.entry.BlockName.{BlockName}
use Rattle.fdp_base.specs.declared.entry.Entry.{Entry}
use Rattle.fdp_base.specs.declared.entry.Entry.TheVariants as entries
use Rattle.fdp_base.specs.Placement.{geometry_of}
use Rattle.fdp_keeper.specs.fdp_book.Book.{BookSeen, point_in, state_in, written_in}
use Rattle.fdp_keeper.specs.fdp_book.Relocating.{MovesPass, Relocates}
use Rattle.fdp_keeper.specs.fdp_collector.declared.step.Lost.TheVariants as lost
use Rattle.fdp_keeper.specs.fdp_collector.declared.step.Step.{Step}
use Rattle.fdp_keeper.specs.fdp_collector.declared.step.Step.TheVariants as steps
use Rattle.fdp_keeper.specs.fdp_collector.Leaving.{StepMayLeave}
use Rattle.fdp_flash.specs.declared.answer.Wrote.{Wrote}
use Rattle.fdp_flash.specs.declared.cell.Cell.{Cell}
use Rattle.fdp_flash.specs.FlashState.{FlashState}
use Rattle.fdp_flash.specs.Runs.{Runs}
use Rattle.fdp_flash.proofs.Runs.{no_run, runs_joined}
use Rattle.fdp_keeper.specs.fdp_journal.JournalState.{JournalState}
use Rattle.fdp_keeper.specs.Keeper.{IsKeeperOf, KeeperSeen, KeepsEntry, KeepsSettled}
use Rattle.fdp_keeper.specs.fdp_locations.Located.{AreUnitsOf}
use Rattle.fdp_keeper.specs.fdp_locations.Stored.{HoldsWritten}
use Rattle.fdp_keeper.specs.fdp_pages.PageTables.{passes_at}
use Rattle.fdp_passes.specs.declared.due.Due.TheVariants as due
use Rattle.fdp_passes.specs.Due.{IsDue}
use Rattle.fdp_relocation.specs.declared.advance.Advance.{Advance}
use Rattle.fdp_relocation.specs.declared.advance.Advance.TheVariants as advance
use Rattle.fdp_relocation.specs.Collected.{AreasTell, Collects, EndsDoubt, EndsMove, FailsToSettle, Moves, SavesMove, Stage, StaysUncalled, Steps, StepsSettled}
use Rattle.fdp_relocation.proofs.Kept.{keeper-of, more-entries, saved-epoch}
use Rattle.fdp_relocation.proofs.Moving.{held-moved}
use Rattle.fdp_relocation.proofs.Resting.{rests-book, saves-earlier, settles-earlier, uncalled-of}
use Rattle.fdp_relocation.proofs.Storing.{held-on, move-same}
use Rattle.fdp_rules.specs.Sites.{moved_blocks}
use Rattle.fdp_keeper.specs.fdp_saving.declared.saved.Saved.{Saved}
use Rattle.fdp_keeper.specs.fdp_saving.declared.saved.Saved.TheVariants as saved

-- the entry of a move
abbrev pub moved_entry : BookSeen → ℕ → Entry
moved_entry b rg = entries.Moved (record { rg = rg; blocks = moved_blocks (point_in b) rg })

-- ---- behind a step that rests

module _ (b : BookSeen) (k l : KeeperSeen) (f m n : FlashState) (rests : StaysUncalled f m) where
  made-earlier : (e : Entry) (answer : Saved) → KeepsEntry b e k l m n answer → KeepsEntry b e k l f n answer
  made-earlier e answer h = record {
    saves = saves-earlier f m n rests b.config b.found b.entries k.saver l.saver e answer h.saves;
    geometry = h.geometry;
    firm_is = h.firm_is;
  }

  settled-earlier : (answer : Wrote) → KeepsSettled b k l m n answer → KeepsSettled b k l f n answer
  settled-earlier answer h = record {
    saves = settles-earlier f m n rests b.config b.found b.entries k.saver l.saver answer h.saves;
    keeper = h.keeper;
    firm_is = h.firm_is;
  }

-- no call behind no call
uncalled-joined : (a b c : FlashState) → StaysUncalled a b → StaysUncalled b c → StaysUncalled a c
uncalled-joined a b c p q = record {
  uncalled = record {
    moment = q.uncalled.moment ∙ p.uncalled.moment;
    faults = q.uncalled.faults ∙ p.uncalled.faults;
    programs = q.uncalled.programs ∙ p.uncalled.programs;
    cells = λ told. q.uncalled.cells (p.run.told ∙ told) ∙ p.uncalled.cells told;
    calls = λ tells. q.uncalled.calls tells ∙ p.uncalled.calls (q.run.listed_before tells);
  };
  run = runs_joined a b c (λ m image. ⊥) p.run q.run;
}

module _ {F : Type 0} (state : F → FlashState) (b : BookSeen) (k : KeeperSeen) (f m : F) (new : Stage F) (rg : ℕ) (rests : StaysUncalled (state f) (state m)) where
  abbrev start : Stage F
  start = record { book = b; keeper = k; flash = f }

  abbrev middle : Stage F
  middle = record { book = b; keeper = k; flash = m }

  saves-move : (answer : Saved) → SavesMove state middle new rg answer → SavesMove state start new rg answer
  saves-move answer h = elim h [
    | inl none ↦ inl (none.0, none.1, none.2, uncalled-joined (state f) (state m) (state new.flash) rests none.3)
    | inr some ↦ inr (some.0, made-earlier b k new.keeper (state f) (state m) (state new.flash) rests (moved_entry b rg) answer some.1)
  ]

  moves : (answer : Saved) → Moves state middle new rg answer → Moves state start new rg answer
  moves answer h = record { due = h.due; saved = saves-move answer h.saved; moved = h.moved }

  steps-settled : (step : Step) → StepsSettled state middle new rg step → StepsSettled state start new rg step
  steps-settled step h = record {
    middle = h.middle;
    doubt = h.doubt;
    settled = settled-earlier b k new.keeper (state f) (state m) (state h.middle) rests _ h.settled;
    made = h.made;
    run = h.run;
  }

  fails-to-settle : FailsToSettle state middle new rg → FailsToSettle state start new rg
  fails-to-settle h = record {
    unit = h.unit;
    due = h.due;
    doubt = h.doubt;
    failed = settled-earlier b k new.keeper (state f) (state m) (state new.flash) rests _ h.failed;
    book = h.book;
  }

  pub move-ends : (x : Advance) → EndsMove state middle new rg x → Collects state start new rg x
  move-ends advance.Nothing h = absurd h
  move-ends advance.Copied h = absurd h
  move-ends advance.Moved h = moves saved.Done h
  move-ends advance.Erased h = absurd h
  move-ends advance.Starved h = absurd h
  move-ends advance.Fault h = inr (inr (inr (h.0, h.1, moves h.0 h.2)))

  pub doubt-ends : (x : Advance) → EndsDoubt state middle new rg x → Collects state start new rg x
  doubt-ends advance.Nothing h = absurd h
  doubt-ends advance.Copied h = absurd h
  doubt-ends advance.Moved h = absurd h
  doubt-ends advance.Erased h = (h.0, inr (steps-settled (steps.Erased h.0) h.1))
  doubt-ends advance.Starved h = absurd h
  doubt-ends advance.Fault h = elim h [
    | inl erased ↦ inr (inl (erased.0, steps-settled (steps.Fault (lost.Retired erased.0)) erased.1))
    | inr fails ↦ inr (inr (inl (fails-to-settle fails)))
  ]

-- ---- the parts of a step, in order

module _ (b d : BookSeen) (f m : FlashState) (rg : ℕ) (may : Bool) (Image : ℕ → List Cell → Type 0) (run : Runs f m Image) where
  pub move-rests : Relocates b d f m rg may steps.ReadyToMove → (d ≡ b) × StaysUncalled f m
  move-rests h = (rests-book b d f m rg may steps.ReadyToMove h h.longer h.is.1.group, uncalled-of f m Image h.is.1.flash run)

  pub erase-rests : Relocates b d f m rg may steps.EraseDue → (d ≡ b) × StaysUncalled f m
  erase-rests h = (rests-book b d f m rg may steps.EraseDue h h.longer h.is.2.group, uncalled-of f m Image h.is.2.flash run)

  -- the erase that was due before a step that rests is due behind it
  pub still-due : (step : Step) → step ≡ steps.EraseDue → Relocates b d f m rg may step → (unit : ℕ) × IsDue (passes_at d.pages rg) d.pages.units d.pages.owners rg (due.Erase unit)
  still-due step is made =
      let h : Relocates b d f m rg may steps.EraseDue = subst (λ (x : Step). Relocates b d f m rg may x) is made in
      subst (λ (x : BookSeen). (unit : ℕ) × IsDue (passes_at x.pages rg) x.pages.units x.pages.owners rg (due.Erase unit)) (sym (erase-rests h).0) h.is.0

module _ {F : Type 0} (state : F → FlashState) (b d : BookSeen) (k : KeeperSeen) (f m : F) (new : Stage F) (rg : ℕ) (may : Bool) (Image : ℕ → List Cell → Type 0) (run : Runs (state f) (state m) Image) (x : Advance) where
  pub collects-move : (step : Step) → step ≡ steps.ReadyToMove → Relocates b d (state f) (state m) rg may step → EndsMove state (record { book = d; keeper = k; flash = m }) new rg x → Collects state (record { book = b; keeper = k; flash = f }) new rg x
  collects-move step is made ends =
      let rests = move-rests b d (state f) (state m) rg may Image run (subst (λ (x : Step). Relocates b d (state f) (state m) rg may x) is made) in
      move-ends state b k f m new rg rests.1 x (subst (λ (y : BookSeen). EndsMove state (record { book = y; keeper = k; flash = m }) new rg x) rests.0 ends)

  pub collects-doubt : (step : Step) → step ≡ steps.EraseDue → Relocates b d (state f) (state m) rg may step → EndsDoubt state (record { book = d; keeper = k; flash = m }) new rg x → Collects state (record { book = b; keeper = k; flash = f }) new rg x
  collects-doubt step is made ends =
      let rests = erase-rests b d (state f) (state m) rg may Image run (subst (λ (x : Step). Relocates b d (state f) (state m) rg may x) is made) in
      doubt-ends state b k f m new rg rests.1 x (subst (λ (y : BookSeen). EndsDoubt state (record { book = y; keeper = k; flash = m }) new rg x) rests.0 ends)

-- a step of the book, while what saves the drive stays
pub steps-of : {F : Type 0} (state : F → FlashState) (b d : BookSeen) (k : KeeperSeen) (f n : F) (rg : ℕ) (may : Bool) (step other : Step) → may ≡ not k.saver.in_doubt → Relocates b d (state f) (state n) rg may step
    → Runs (state f) (state n) (λ m image. StepMayLeave may (state f).geometry b.pages.units b.pages.owners (state f).cells image) → step ≡ other → Steps state (record { book = b; keeper = k; flash = f }) (record { book = d; keeper = k; flash = n }) rg other
steps-of state b d k f n rg may step other is made run same = subst (λ (x : Step). Steps state (record { book = b; keeper = k; flash = f }) (record { book = d; keeper = k; flash = n }) rg x) same (record {
  made = subst (λ (x : Bool). Relocates b d (state f) (state n) rg x step) is made;
  run = subst (λ (x : Bool). Runs (state f) (state n) (λ m image. StepMayLeave x (state f).geometry b.pages.units b.pages.owners (state f).cells image)) is run;
  keeper = refl;
})

-- ---- a move

no-block : (x : BlockName) (xs : List BlockName) → x ∷ xs ≡ [] → ⊥
no-block x xs e = cc

same-flash : {F : Type 0} (state : F → FlashState) (f n : F) → n ≡ f → StaysUncalled (state f) (state n)
same-flash {F} state f n same = subst (λ (x : F). StaysUncalled (state f) (state x)) (sym same) (record {
  uncalled = record { moment = refl; faults = refl; programs = refl; cells = λ told. refl; calls = λ tells. refl };
  run = no_run (state f) (λ m image. ⊥);
})

module _ {F : Type 0} (state : F → FlashState) (old new : Stage F) (rg : ℕ) (answer : Saved)
    (none : moved_blocks (point_in old.book) rg ≡ [] → (answer ≡ saved.Done) × (new.keeper ≡ old.keeper) × (new.flash ≡ old.flash))
    (some : (moved_blocks (point_in old.book) rg ≡ [] → ⊥) → KeepsEntry old.book (moved_entry old.book rg) old.keeper new.keeper (state old.flash) (state new.flash) answer) where
  pub saves-of : SavesMove state old new rg answer
  saves-of = by (moved_blocks (point_in old.book) rg) refl where
    by : (xs : List BlockName) → moved_blocks (point_in old.book) rg ≡ xs → SavesMove state old new rg answer
    by [] is = let x = none is in inl (is, x.0, x.1, same-flash state old.flash new.flash x.2)
    by (x ∷ xs) is = let not : moved_blocks (point_in old.book) rg ≡ [] → ⊥ = λ e. no-block x xs (sym is ∙ e) in inr (not, some not)

  pub moves-of : IsDue (passes_at old.book.pages rg) old.book.pages.units old.book.pages.owners rg due.Move → MovesPass old.book new.book rg → Moves state old new rg answer
  moves-of due moved = record { due = due; saved = saves-of; moved = moved }

-- ---- the keeper behind a move

module _ {F : Type 0} (state : F → FlashState) (old new : Stage F) (rg : ℕ) (answer : Saved) (h : Moves state old new rg answer) where
  pub move-keeper : IsKeeperOf old.book old.keeper → IsKeeperOf new.book new.keeper
  move-keeper kept = keeper-of old.book new.book (moved_entry old.book rg ∷ []) old.keeper new.keeper h.moved.longer same kept where
    same : new.keeper.saver.geometry ≡ old.keeper.saver.geometry
    same = elim h.saved [ inl none ↦ ap (λ (k : KeeperSeen). k.saver.geometry) none.2 | inr some ↦ some.1.geometry ]

  pub move-stored : AreUnitsOf old.book.config (state_in old.book) old.book.pages → (state old.flash).geometry ≡ geometry_of old.book.config → (IsTrue (state old.flash).told → AreasTell old.book old.keeper (state old.flash).cells)
      → (IsTrue (state old.flash).told → HoldsWritten (state old.flash).geometry (state old.flash).cells (written_in old.book) old.book.pages.units) → IsTrue (state old.flash).told
      → HoldsWritten (state old.flash).geometry (state new.flash).cells (written_in new.book) new.book.pages.units
  move-stored units cut said stored told =
      held-moved (state old.flash).geometry (state new.flash).cells old.book new.book rg h.moved
      (held-on old.book (state old.flash).geometry (state old.flash).cells (state new.flash).cells cut units (move-same state old new rg answer said h.saved told) (stored told))

  pub move-epoch : new.keeper.saver.stamp.epoch + length old.book.entries ≤ old.keeper.saver.stamp.epoch + length new.book.entries
  move-epoch = elim h.saved [
    | inl none ↦
        let size = more-entries old.book new.book (moved_entry old.book rg ∷ []) h.moved.longer in
        let same : new.keeper.saver.stamp.epoch ≡ old.keeper.saver.stamp.epoch = ap (λ (k : KeeperSeen). k.saver.stamp.epoch) none.2 in
        omega (arith, size, same)
    | inr some ↦
        let size = more-entries old.book new.book (moved_entry old.book rg ∷ []) h.moved.longer in
        let saves = some.1.saves in
        let epoch : new.keeper.saver.stamp.epoch ≤ old.keeper.saver.stamp.epoch + 1 = subst (λ (s : JournalState). s.stamp.epoch ≤ old.keeper.saver.stamp.epoch + 1) (sym saves.saver_is) (saved-epoch old.keeper.saver saves.given.summary answer) in
        omega (arith, size, epoch)
  ]
