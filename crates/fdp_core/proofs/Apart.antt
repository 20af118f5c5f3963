-- Data stands apart behind each step.
use Rattle.std.proofs.Common.{◌≡◌, ℕ, ◌<◌, Bool, true, false, List, [], Some, sym, ◌∙◌, subst}
use Rattle.std.specs.Prelude.{IsTrue}
use Rattle.fdp_base.specs.declared.command.Command.{Command}
use Rattle.fdp_base.specs.declared.command.Write.{Write}
use Rattle.fdp_base.specs.declared.config.Geometry.{Geometry}
use Rattle.fdp_base.specs.declared.entry.Reply.{Reply}
use Rattle.fdp_base.specs.declared.entry.Spot.{Spot}
use Rattle.fdp_base.specs.declared.status.Status.{Status}
use Rattle.fdp_base.specs.CommandKinds.{is_setting, is_write, write_of}
use Rattle.fdp_base.specs.Placement.{geometry_of}
use Rattle.fdp_base.specs.Spare.{data_spare}
use Rattle.fdp_relocation.specs.fdp_book.declared.ticket.Done.{Done}
use Rattle.fdp_relocation.specs.fdp_book.declared.ticket.Ticket.{Ticket}
use Rattle.fdp_relocation.specs.fdp_book.Book.{BookSeen, IsLed, point_in, state_in, written_in, IsLonger}
use Rattle.fdp_relocation.specs.fdp_book.Relocating.{MovesPass, Relocates}
use Rattle.fdp_relocation.specs.fdp_book.Shutting.{ShutsAndEnds}
use Rattle.fdp_relocation.specs.fdp_book.Steps.{Completes, Places, Starts}
use Rattle.fdp_relocation.specs.fdp_book.Tickets.{IsNextSpot, IsTicketOf}
use Rattle.fdp_relocation.specs.fdp_collector.declared.step.Step.{Step}
use Rattle.fdp_core.specs.Seen.{HoldsHistory}
use Rattle.fdp_core.specs.Sound.{IsSound, IsWhole}
use Rattle.fdp_core.specs.Stops.{IsSafeNow}
use Rattle.fdp_core.proofs.Sound.{IsSameFlash, begun, same-flash}
use Rattle.fdp_flash.specs.Cells.{ProgramMayLeave}
use Rattle.fdp_flash.specs.FlashState.{FlashState}
use Rattle.fdp_loading.specs.fdp_survival.Books.{KeepsApart, KeepsIsolated}
use Rattle.fdp_loading.specs.fdp_isolation.Apart.{AreApart}
use Rattle.fdp_loading.specs.fdp_isolation.Laned.{IsKnown, StandsOver}
use Rattle.fdp_loading.proofs.fdp_isolation.Apart as isolation
use Rattle.fdp_loading.proofs.fdp_isolation.Keeping.{FillsNoMore, FillsNone}
use Rattle.fdp_loading.proofs.fdp_isolation.LeftAlone.{KeepsShut}
use Rattle.fdp_loading.specs.fdp_survival.Apart.{ReadsIsolated}
use Rattle.fdp_loading.proofs.fdp_survival.Steps.{cells-apart, keeps-isolated}
use Rattle.fdp_loading.specs.fdp_ledger.declared.counts.Counts.{Counts}
use Rattle.fdp_relocation.specs.fdp_keeper.Keeper.{KeeperSeen}
use Rattle.fdp_relocation.specs.fdp_locations.Stored.{HoldsWritten}
use Rattle.fdp_relocation.specs.fdp_locations.Written.{next_spare}
use Rattle.fdp_relocation.specs.fdp_pages.Steps.{ChangesOwners}
use Rattle.fdp_rules.specs.PlainState.{Going}
use Rattle.fdp_base.specs.declared.entry.Entry.{Entry}
use Rattle.fdp_loading.specs.fdp_isolation.Begun.{OpenedApart}
use Rattle.fdp_rules.specs.Step.{MaySucceed}
use Rattle.fdp_rules.specs.Answer.{bare}
use Rattle.fdp_base.specs.declared.config.DriveConfig.{DriveConfig}
use Rattle.fdp_rules.specs.History.{Found}

-- ---- a step that has begun

pub known-begun : (b : BookSeen) → IsKnown b → IsKnown (begun b)
known-begun b k = record { config = k.config; orderly = k.orderly; units = k.units; joined = k.joined; led = record { at = k.led.at; led = k.led.led }; generation = k.generation }

-- ---- a step that calls no flash, or reads from it

-- a run goes on as it began
pub opened-back : (b d : BookSeen) (es : List Entry) → IsLonger b d es → OpenedApart d.config d.found d.opened → OpenedApart b.config b.found b.opened
opened-back b d es longer opened =
    subst (λ (c : DriveConfig). OpenedApart c b.found b.opened) longer.config_is
    (subst (λ (f : Found). OpenedApart d.config f b.opened) longer.found_is
    (subst (OpenedApart d.config d.found) longer.opened_is opened))

moved-along : (f n : FlashState) (b d : BookSeen) (es : List Entry) → IsSameFlash f n → IsLonger b d es → (AreApart b f.cells → AreApart d f.cells) → KeepsApart f b → KeepsApart n d
moved-along f n b d es same longer step h tells opened =
    let told : IsTrue f.told = sym same.told ∙ tells in
    subst (AreApart d) (sym (same.cells told)) (step (h told (opened-back b d es longer opened)))

pub apart-answered : (f n : FlashState) (b d : BookSeen) (queue number : ℕ) (command : Command) (reply : Reply) (moment : ℕ) (done : Done) → IsKnown b → IsLed d → IsSameFlash f n →
    Completes b d [] queue number command reply moment done → ChangesOwners b.pages d.pages → reply.applied ≡ false → KeepsApart f b → KeepsApart n d
apart-answered f n b d queue number command reply moment done known led same ends owners unapplied h =
    moved-along f n b d _ same ends.step (λ apart. isolation.answered b d queue number command reply moment done f.cells known led ends owners unapplied apart) h

-- a command was made that is neither a write nor a setting, whether it was told to be saved or not
pub apart-commanded : (f : FlashState) (b d : BookSeen) (queue number : ℕ) (command : Command) (reply : Reply) (moment : ℕ) (done : Done) → IsKnown b → IsLed d →
    Completes b d [] queue number command reply moment done → FillsNoMore b.pages d.pages → KeepsShut b.pages d.pages → is_write command ≡ false → is_setting command ≡ false → KeepsApart f b → KeepsApart f d
apart-commanded f b d queue number command reply moment done known led ends fills keeps other unset h =
    moved-along f f b d _ (same-flash f) ends.step (λ apart. isolation.commanded b d queue number command reply moment done f.cells known led ends fills keeps other unset apart) h

-- a placement setting was made
pub apart-set : (f : FlashState) (b d : BookSeen) (queue number : ℕ) (command : Command) (reply : Reply) (moment : ℕ) (done : Done) → IsKnown b → IsLed d →
    Completes b d [] queue number command reply moment done → FillsNone d.pages → KeepsShut b.pages d.pages → is_setting command ≡ true → reply.applied ≡ true → KeepsApart f b → KeepsApart f d
apart-set f b d queue number command reply moment done known led ends none keeps sets made h =
    moved-along f f b d _ (same-flash f) ends.step (λ apart. isolation.set b d queue number command reply moment done f.cells known led ends none keeps sets made apart) h

-- a write was made, whether it was told to be saved or not
pub apart-committed : (f : FlashState) (b d : BookSeen) (queue moment : ℕ) (g : Going) (status : Status) (done : Done) → IsKnown b → IsLed d → (state_in b).going queue ≡ Some g → MaySucceed b.config (point_in b) g →
    Completes b d [] queue g.number g.command (bare status true) moment done → ChangesOwners b.pages d.pages → KeepsApart f b → KeepsApart f d
apart-committed f b d queue moment g status done known led going may ends owners h =
    moved-along f f b d _ (same-flash f) ends.step (λ apart. isolation.committed b d queue moment g status done f.cells known led going may ends owners apart) h

pub apart-started : (f : FlashState) (b d : BookSeen) (queue number : ℕ) (command : Command) (ticket : Ticket) → IsKnown b → IsLed d → Starts b d queue number command ticket → ChangesOwners b.pages d.pages → KeepsApart f b → KeepsApart f d
apart-started f b d queue number command ticket known led starts owners h =
    moved-along f f b d _ (same-flash f) starts.step (λ apart. isolation.started b d queue number command ticket f.cells known led starts owners apart) h

-- a move calls no flash
pub apart-moved : (f : FlashState) (b d : BookSeen) (rg : ℕ) → IsKnown b → MovesPass b d rg → KeepsApart f b → KeepsApart f d
apart-moved f b d rg known moves h = moved-along f f b d _ (same-flash f) moves.longer (λ apart. isolation.moved b d rg f.cells known moves apart) h

-- ---- what it says

stands : (f : FlashState) (b : BookSeen) → f.geometry ≡ geometry_of b.config → IsKnown b → HoldsHistory f b → IsTrue f.told → StandsOver b f.cells
stands f b geometry known stored tells = record { known = known; holds = subst (λ (g : Geometry). HoldsWritten g f.cells (written_in b) b.pages.units) geometry (stored tells) }

pub sound-isolated : (handed : Counts) (f : FlashState) (b : BookSeen) (block : List ℕ) → IsKnown b → IsSound handed f b block → KeepsIsolated f b
sound-isolated handed f b block known so = keeps-isolated b f known so.geometry so.stored so.apart

-- what a whole group promises of stops
pub safe-now : (handed : Counts) (f : FlashState) (b : BookSeen) (k : KeeperSeen) (block : List ℕ) → IsKnown b → IsWhole handed f b k block → IsSafeNow f b k
safe-now handed f b k block known whole = record { safe = whole.kept.safe; isolated = sound-isolated handed f b block known whole.sound }

-- whatever the cells read as, they are an isolated image
pub whole-reads : (handed : Counts) (f : FlashState) (b : BookSeen) (k : KeeperSeen) (block : List ℕ) → IsKnown b → IsWhole handed f b k block → IsTrue f.told → OpenedApart b.config b.found b.opened → ReadsIsolated b.config f.cells
whole-reads handed f b k block known whole told opened =
    (cells-apart b k.saver k.firm f whole.kept.safe (sound-isolated handed f b block known whole.sound) told opened).read

-- ---- a page of a write

module _ (f n : FlashState) (b d : BookSeen) (ticket : Ticket) (g : Going) (w : Write) (spot : Spot) (bytes : List ℕ) (geometry : f.geometry ≡ geometry_of b.config) (known : IsKnown b) (led : IsLed d) (stored : HoldsHistory f b)
    (is : IsTicketOf (state_in b) ticket g) (write : write_of g.command ≡ Some w) (next : IsNextSpot b ticket g spot)
    (told : n.told ≡ f.told) (left : IsTrue f.told → ProgramMayLeave f.geometry f.cells spot (data_spare (next_spare (state_in b) g w)) bytes n.cells) (h : KeepsApart f b) where
  left-there : IsTrue f.told → ProgramMayLeave (geometry_of b.config) f.cells spot (data_spare (next_spare (state_in b) g w)) bytes n.cells
  left-there tells = subst (λ (x : Geometry). ProgramMayLeave x f.cells spot (data_spare (next_spare (state_in b) g w)) bytes n.cells) geometry (left tells)

  pub apart-placed : (last : Bool) → Places b d ticket g spot last → KeepsApart n d
  apart-placed last places tells opened =
      let here : IsTrue f.told = sym told ∙ tells in
      isolation.placed b d ticket g w spot last bytes f.cells n.cells (stands f b geometry known stored here) led is write next places (left-there here) (h here (opened-back b d _ places.step opened))

  pub apart-shut : (status : Status) (moment : ℕ) (done : Done) → ShutsAndEnds b d ticket g spot status moment done → KeepsApart n d
  apart-shut status moment done shuts tells opened =
      let here : IsTrue f.told = sym told ∙ tells in
      isolation.shut-and-ended b d ticket g w spot status moment done bytes f.cells n.cells (stands f b geometry known stored here) led is write next shuts (left-there here) (h here (opened-back b d _ shuts.completes.step opened))

-- ---- a step of relocation

module _ (f n : FlashState) (b d : BookSeen) (rg : ℕ) (low : rg < b.config.groups) (geometry : f.geometry ≡ geometry_of b.config) (known : IsKnown b) (stored : HoldsHistory f b) (told : n.told ≡ f.told) (h : KeepsApart f b) where
  pub apart-relocated : (may_erase : Bool) (step : Step) → Relocates b d f n rg may_erase step → KeepsApart n d
  apart-relocated may_erase step relocates tells opened =
      let here : IsTrue f.told = sym told ∙ tells in
      isolation.relocated b d f n rg may_erase step here geometry low (stands f b geometry known stored here) relocates (h here (opened-back b d _ relocates.longer opened))
