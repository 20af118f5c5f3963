-- Each step keeps the pages apart, and leaves alone what had been used when the run began.
use Rattle.std.proofs.Common.{◌≡◌, ℕ, ◌<◌, Bool, true, false, List, [], Some, refl, sym, subst}
use Rattle.std.specs.Prelude.{IsTrue}
use Rattle.fdp_base.specs.declared.command.Command.{Command}
use Rattle.fdp_base.specs.declared.command.Write.{Write}
use Rattle.fdp_base.specs.declared.entry.Entry.{Entry}
use Rattle.fdp_base.specs.declared.entry.Reply.{Reply}
use Rattle.fdp_base.specs.declared.entry.Spot.{Spot}
use Rattle.fdp_base.specs.declared.config.DriveConfig.{DriveConfig}
use Rattle.fdp_base.specs.declared.status.Status.{Status}
use Rattle.fdp_base.specs.Config.{IsValidConfig}
use Rattle.fdp_base.specs.Placement.{geometry_of}
use Rattle.fdp_base.specs.Spare.{data_spare}
use Rattle.fdp_base.specs.CommandKinds.{is_setting, is_write, write_of}
use Rattle.fdp_book.specs.declared.ticket.Done.{Done}
use Rattle.fdp_book.specs.declared.ticket.Ticket.{Ticket}
use Rattle.fdp_book.specs.Book.{BookSeen, IsFirst, IsLed, point_in, state_in}
use Rattle.fdp_book.specs.Relocating.{MovesPass, Relocates}
use Rattle.fdp_book.specs.Reopened.{IsReopened}
use Rattle.fdp_book.specs.Shutting.{ShutsAndEnds}
use Rattle.fdp_book.specs.Steps.{Completes, Places, Starts}
use Rattle.fdp_book.specs.Tickets.{IsNextSpot, IsTicketOf}
use Rattle.fdp_book.specs.fdp_collector.declared.step.Step.{Step}
use Rattle.fdp_book.specs.fdp_locations.Written.{next_spare}
use Rattle.fdp_book.specs.fdp_pages.Steps.{ChangesOwners}
use Rattle.fdp_flash.specs.declared.cell.Cell.{Cell}
use Rattle.fdp_flash.specs.Cells.{IsBlankUnit, ProgramMayLeave}
use Rattle.fdp_flash.specs.FlashState.{FlashState}
use Rattle.fdp_image.specs.Reading.{Reading}
use Rattle.fdp_image.specs.Saving.{SameDataPages}
use Rattle.fdp_image.specs.Valid.{IsValid}
use Rattle.fdp_isolation.specs.Alone.{AreLeftAlone}
use Rattle.fdp_isolation.specs.Apart.{AreApart}
use Rattle.fdp_isolation.specs.Begun.{OpenedApart}
use Rattle.fdp_isolation.specs.Laned.{IsKnown, StandsOver}
use Rattle.fdp_isolation.proofs.Alike.{laned-alike}
use Rattle.fdp_isolation.proofs.Answered.{laned-answered, laned-commanded, laned-committed, laned-set}
use Rattle.fdp_isolation.proofs.Found.{alone-found, laned-found}
use Rattle.fdp_isolation.proofs.Keeping.{FillsNoMore, FillsNone}
use Rattle.fdp_isolation.proofs.Leaving.{alone-alike, alone-run, alone-unused}
use Rattle.fdp_isolation.proofs.LeftAlone.{KeepsShut, alone-ended, alone-moved, alone-placed, alone-shut, alone-started, owners-shut}
use Rattle.fdp_isolation.proofs.LeftByRelocation.{alone-relocated}
use Rattle.fdp_isolation.proofs.Moved.{laned-moved}
use Rattle.fdp_isolation.proofs.Placed.{laned-placed, laned-shut}
use Rattle.fdp_isolation.proofs.Promised.{laned-fresh}
use Rattle.fdp_isolation.proofs.Relocated.{laned-relocated}
use Rattle.fdp_isolation.proofs.Saved.{alone-saved, laned-saved}
use Rattle.fdp_isolation.proofs.Started.{laned-started}
use Rattle.fdp_rules.specs.Answer.{bare}
use Rattle.fdp_rules.specs.PlainState.{Going}
use Rattle.fdp_rules.specs.Step.{IsDataUnit, MaySucceed}

-- ---- a run begins

pub fresh : (c : DriveConfig) (b : BookSeen) (cells : List Cell) → IsKnown b → IsFirst c b → ((unit : ℕ) → IsDataUnit c unit → IsBlankUnit (geometry_of c) cells unit) → AreApart b cells
fresh c b cells known first blank = record { laned = laned-fresh c b cells known first blank; alone = alone-unused c b cells first }

pub found : (c : DriveConfig) (r : Reading) (b : BookSeen) (cells : List Cell) → IsValidConfig c → IsValid c b.opened r → IsReopened c b.opened r b → OpenedApart c b.found b.opened → SameDataPages c b.opened cells → AreApart b cells
found c r b cells config valid begun apart same = record { laned = laned-found c b.opened r b cells config valid begun apart same; alone = alone-found c b.opened r b cells begun same }

-- ---- nothing is done

pub alike : (b d : BookSeen) (cells : List Cell) → d.config ≡ b.config → d.found ≡ b.found → d.opened ≡ b.opened → d.entries ≡ b.entries → d.pages ≡ b.pages → AreApart b cells → AreApart d cells
alike b d cells config found opened entries pages h = record {
  laned = laned-alike b d cells config found entries pages h.laned;
  alone = subst (λ (first : List Cell). AreLeftAlone first d.entries d cells) (sym opened)
      (subst (λ (es : List Entry). AreLeftAlone b.opened es d cells) (sym entries) (alone-alike b.opened b.entries b d cells config pages h.alone));
}

pub saved : (b : BookSeen) (old new : List Cell) → SameDataPages b.config old new → AreApart b old → AreApart b new
saved b old new same h = record { laned = laned-saved b old new same h.laned; alone = alone-saved b old new same b.opened b.entries h.alone }

-- ---- a command ended

module _ (old new : BookSeen) (queue number : ℕ) (command : Command) (reply : Reply) (moment : ℕ) (done : Done) (cells : List Cell) (known : IsKnown old) (led : IsLed new)
    (completes : Completes old new [] queue number command reply moment done) where
  shut : KeepsShut old.pages new.pages → AreLeftAlone old.opened old.entries old cells → AreLeftAlone new.opened new.entries new cells
  shut keeps h = alone-run old new _ cells completes.step (alone-ended old.opened old.entries old new queue number command reply moment done cells completes keeps h)

  pub answered : ChangesOwners old.pages new.pages → reply.applied ≡ false → AreApart old cells → AreApart new cells
  answered changes unmade h = record {
    laned = laned-answered old new queue number command reply moment done cells known led completes changes unmade h.laned;
    alone = shut (owners-shut old.pages new.pages changes) h.alone;
  }

  pub commanded : FillsNoMore old.pages new.pages → KeepsShut old.pages new.pages → is_write command ≡ false → is_setting command ≡ false → AreApart old cells → AreApart new cells
  commanded fills keeps other unset h = record {
    laned = laned-commanded old new queue number command reply moment done cells known led completes fills other unset h.laned;
    alone = shut keeps h.alone;
  }

  pub set : FillsNone new.pages → KeepsShut old.pages new.pages → is_setting command ≡ true → reply.applied ≡ true → AreApart old cells → AreApart new cells
  set none keeps sets made h = record {
    laned = laned-set old new queue number command reply moment done cells known led completes none sets made h.laned;
    alone = shut keeps h.alone;
  }

pub committed : (old new : BookSeen) (queue moment : ℕ) (g : Going) (status : Status) (done : Done) (cells : List Cell) → IsKnown old → IsLed new → (state_in old).going queue ≡ Some g → MaySucceed old.config (point_in old) g
    → Completes old new [] queue g.number g.command (bare status true) moment done → ChangesOwners old.pages new.pages → AreApart old cells → AreApart new cells
committed old new queue moment g status done cells known led going may completes changes h = record {
  laned = laned-committed old new queue moment g status done cells known led going may completes changes h.laned;
  alone = shut old new queue g.number g.command (bare status true) moment done cells known led completes (owners-shut old.pages new.pages changes) h.alone;
}

-- ---- the steps of a write

pub started : (old new : BookSeen) (queue number : ℕ) (command : Command) (ticket : Ticket) (cells : List Cell) → IsKnown old → IsLed new → Starts old new queue number command ticket → ChangesOwners old.pages new.pages → AreApart old cells → AreApart new cells
started old new queue number command ticket cells known led starts changes h = record {
  laned = laned-started old new queue number command ticket cells known led starts changes h.laned;
  alone = alone-run old new _ cells starts.step (alone-started old.opened old.entries old new _ cells starts.step (λ unit. refl) changes h.alone);
}

pub placed : (old new : BookSeen) (ticket : Ticket) (g : Going) (w : Write) (spot : Spot) (last : Bool) (bytes : List ℕ) (cells now : List Cell) → StandsOver old cells → IsLed new
    → IsTicketOf (state_in old) ticket g → write_of g.command ≡ Some w → IsNextSpot old ticket g spot → Places old new ticket g spot last
    → ProgramMayLeave (geometry_of old.config) cells spot (data_spare (next_spare (state_in old) g w)) bytes now → AreApart old cells → AreApart new now
placed old new ticket g w spot last bytes cells now kept led is write next places left h = record {
  laned = laned-placed old new ticket g w spot last bytes cells now kept led is write next places left h.laned;
  alone = alone-run old new _ now places.step (alone-placed old.opened old.entries old new ticket g w spot last bytes cells now kept.known is next places left h.alone);
}

pub shut-and-ended : (old new : BookSeen) (ticket : Ticket) (g : Going) (w : Write) (spot : Spot) (status : Status) (moment : ℕ) (done : Done) (bytes : List ℕ) (cells now : List Cell) → StandsOver old cells → IsLed new
    → IsTicketOf (state_in old) ticket g → write_of g.command ≡ Some w → IsNextSpot old ticket g spot → ShutsAndEnds old new ticket g spot status moment done
    → ProgramMayLeave (geometry_of old.config) cells spot (data_spare (next_spare (state_in old) g w)) bytes now → AreApart old cells → AreApart new now
shut-and-ended old new ticket g w spot status moment done bytes cells now kept led is write next shuts left h = record {
  laned = laned-shut old new ticket g w spot status moment done bytes cells now kept led is write next shuts left h.laned;
  alone = alone-run old new _ now shuts.completes.step (alone-shut old.opened old.entries old new ticket g w spot status moment done bytes cells now kept.known is next shuts left h.alone);
}

-- ---- relocation

pub moved : (old new : BookSeen) (rg : ℕ) (cells : List Cell) → IsKnown old → MovesPass old new rg → AreApart old cells → AreApart new cells
moved old new rg cells known moves h = record {
  laned = laned-moved old new rg cells known moves h.laned;
  alone = alone-run old new _ cells moves.longer (alone-moved old.opened old.entries old new rg cells moves h.alone);
}

pub relocated : (old new : BookSeen) (before after : FlashState) (rg : ℕ) (may_erase : Bool) (step : Step) → IsTrue before.told → before.geometry ≡ geometry_of old.config → rg < old.config.groups
    → StandsOver old before.cells → Relocates old new before after rg may_erase step → AreApart old before.cells → AreApart new after.cells
relocated old new before after rg may_erase step told geometry low kept relocates h = record {
  laned = laned-relocated old new before after rg may_erase step told geometry low kept relocates h.laned;
  alone = alone-run old new _ after.cells relocates.longer (alone-relocated old.opened old.entries old new before after rg may_erase step told geometry low kept h.laned relocates h.alone);
}
