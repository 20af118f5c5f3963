-- Each step of a host, and the move of a pass, leaves alone what had been used.
use Rattle.std.proofs.Common.{◌≡◌, ◌≢◌, ℕ, ◌*◌, ◌<◌, Bool, false, List, [], ◌∷◌, ◌++◌, refl, sym, ◌∙◌, ap, subst, inl, ne_eqb, ⊎_elim}
use Rattle.std.specs.Prelude.{◌||◌, IsTrue}
use Rattle.std.specs.List.{list_any}
use Rattle.fdp_base.specs.declared.command.Command.{Command}
use Rattle.fdp_base.specs.declared.command.Write.{Write}
use Rattle.fdp_base.specs.declared.config.DriveConfig.{DriveConfig}
use Rattle.fdp_base.specs.declared.entry.Entry.{Entry}
use Rattle.fdp_base.specs.declared.entry.Entry.TheVariants as entries
use Rattle.fdp_base.specs.declared.entry.Reply.{Reply}
use Rattle.fdp_base.specs.declared.entry.Spot.{Spot}
use Rattle.fdp_base.specs.declared.status.Status.{Status}
use Rattle.fdp_base.specs.Placement.{geometry_of}
use Rattle.fdp_base.specs.Spare.{data_spare}
use Rattle.fdp_base.specs.EntryKinds.{puts_into}
use Rattle.fdp_book.specs.declared.ticket.Done.{Done}
use Rattle.fdp_book.specs.declared.ticket.Ticket.{Ticket}
use Rattle.fdp_book.specs.Book.{BookSeen, IsLonger, point_in, state_in}
use Rattle.fdp_book.specs.Relocating.{MovesPass}
use Rattle.fdp_book.specs.Shutting.{ShutsAndEnds}
use Rattle.fdp_book.specs.Steps.{Completes, Places}
use Rattle.fdp_book.specs.Tickets.{IsNextSpot, IsTicketOf}
use Rattle.fdp_book.proofs.fdp_collector.Kept.{changed-other}
use Rattle.fdp_flash.specs.declared.cell.Cell.{Cell}
use Rattle.fdp_flash.specs.Cells.{ProgramMayLeave}
use Rattle.fdp_flash.proofs.Pages.{program_other_unit}
use Rattle.fdp_isolation.specs.Alone.{AreLeftAlone, gets_none}
use Rattle.fdp_isolation.specs.Isolated.{IsWornDown}
use Rattle.fdp_isolation.specs.Laned.{IsKnown, StandsOver}
use Rattle.fdp_isolation.proofs.Entries.{no}
use Rattle.fdp_isolation.proofs.Keeping.{FillsNone, nothing}
use Rattle.fdp_isolation.proofs.Leaving.{LeavesUnit, alone-first, alone-step}
use Rattle.fdp_isolation.proofs.Placed.{next-write}
use Rattle.fdp_book.specs.fdp_locations.Written.{next_spare}
use Rattle.fdp_owners.specs.OwnerTable.{OwnerTable}
use Rattle.fdp_book.specs.fdp_pages.Joined.{AreJoined}
use Rattle.fdp_book.specs.fdp_pages.PageTables.{PageTables}
use Rattle.fdp_book.specs.fdp_pages.Steps.{ChangesOwners, LeavesUnits, Recounts}
use Rattle.fdp_book.proofs.fdp_pages.Next.{next-page}
use Rattle.fdp_rules.specs.Answer.{bare}
use Rattle.fdp_rules.specs.PlainState.{Going}
use Rattle.fdp_rules.specs.Sites.{moved_blocks}
use Rattle.fdp_units.specs.declared.data_unit.DataUnit.{DataUnit}
use Rattle.fdp_units.specs.declared.state.UnitState.{UnitState}
use Rattle.fdp_units.specs.declared.state.UnitState.TheVariants.{Free, Referenced, Target, Closed, Retired, Aside}
use Rattle.fdp_units.specs.DataUnits.{is_free, is_open, is_referenced}
use Rattle.fdp_units.specs.UnitTable.{Changes, Cut, IsUnit, UnitTable, group_in, state_at, unit_at}
use Rattle.fdp_units.proofs.Tables.{group-there}

-- where no unit is filled by a handle, or gets copies, none is open
unopened : (t : PageTables) → AreJoined t → FillsNone t → (unit : ℕ) → IsUnit t.units unit → is_open (state_at t.units unit) ≡ false
unopened t joined none unit there = by (state_at t.units unit) refl where
  by : (state : UnitState) → state_at t.units unit ≡ state → is_open state ≡ false
  by Free is = refl
  by Referenced is = let filled = joined.filled.filled unit there is in absurd (nothing unit (sym (none.filled (group_in t.units unit) filled.0) ∙ filled.2))
  by Target is =
      let target = (joined.groups (group_in t.units unit) (group-there t.units unit there)).targeted.targeted unit (record { is_unit = there; group = refl; stands = is }) in
      absurd (nothing unit (sym (none.targets (group_in t.units unit) target.0) ∙ target.1))
  by Closed is = refl
  by Retired is = refl
  by Aside is = refl

-- ---- no page is put

-- each unit that gets no page gets none still
abbrev pub KeepsShut : PageTables → PageTables → Type 0
KeepsShut t now = (unit : ℕ) → IsTrue (gets_none (state_at t.units unit)) → IsTrue (gets_none (state_at now.units unit))

recounted : (t now : UnitTable) (o : OwnerTable) (unit : ℕ) → Recounts t now o → IsTrue (gets_none (state_at t unit)) → IsTrue (gets_none (state_at now unit))
recounted t now o unit h full = ap (λ (x : DataUnit). gets_none x.state) (h.kept unit) ∙ full

-- where only owners change
pub owners-shut : (t now : PageTables) → ChangesOwners t now → KeepsShut t now
owners-shut t now changes unit full = recounted t.units now.units now.owners unit changes.units full

-- and where units were left, and closed
pub left-shut : (t now : PageTables) → LeavesUnits t now → KeepsShut t now
left-shut t now leaves unit full = ⊎_elim
    (λ (same : unit_at now.units unit ≡ unit_at t.units unit). ap (λ (x : DataUnit). gets_none x.state) same ∙ full)
    (λ closed. ap (λ (x : DataUnit). gets_none x.state) closed.1)
    (leaves.units unit)

owners-leave : (c : DriveConfig) (t now : PageTables) (es : List Entry) (cells : List Cell) (unit : ℕ) → Recounts t.units now.units now.owners → list_any (puts_into unit) es ≡ false → IsTrue (gets_none (state_at t.units unit)) → LeavesUnit c t now es cells cells unit
owners-leave c t now es cells unit recounts none full = record { none = none; stands = λ kept. recounted t.units now.units now.owners unit recounts full; worn = λ kept page low. inl refl }

-- a command ended
pub alone-ended : (first : List Cell) (since : List Entry) (old new : BookSeen) (queue number : ℕ) (command : Command) (reply : Reply) (moment : ℕ) (done : Done) (cells : List Cell) → Completes old new [] queue number command reply moment done → KeepsShut old.pages new.pages
    → AreLeftAlone first since old cells → AreLeftAlone first (since ++ entries.Host (record { queue = queue; number = number; command = command; reply = reply; moment = moment }) ∷ []) new cells
alone-ended first since old new queue number command reply moment done cells completes stays h =
    alone-step first since old new _ cells cells completes.step (λ unit full. record { none = refl; stands = λ kept. stays unit full; worn = λ kept page low. inl refl }) h

-- where another configuration came in force units are left alone from then on, too
pub alone-set : (new : BookSeen) (cells : List Cell) → FillsNone new.pages → StandsOver new cells → AreLeftAlone cells [] new cells
alone-set new cells none stands =
    alone-first cells new stands (λ unit is. unopened new.pages stands.known.joined none unit (subst (λ (k : Cut). unit < k.groups * k.group_units) (sym stands.known.units.cut) is))

pub alone-started : (first : List Cell) (since : List Entry) (old new : BookSeen) (es : List Entry) (cells : List Cell) → IsLonger old new es → ((unit : ℕ) → list_any (puts_into unit) es ≡ false) → ChangesOwners old.pages new.pages
    → AreLeftAlone first since old cells → AreLeftAlone first (since ++ es) new cells
alone-started first since old new es cells longer none changes h =
    alone-step first since old new es cells cells longer (λ unit full. owners-leave old.config old.pages new.pages es cells unit changes.units (none unit) full) h

pub alone-moved : (first : List Cell) (since : List Entry) (old new : BookSeen) (rg : ℕ) (cells : List Cell) → MovesPass old new rg
    → AreLeftAlone first since old cells → AreLeftAlone first (since ++ entries.Moved (record { rg = rg; blocks = moved_blocks (point_in old) rg }) ∷ []) new cells
alone-moved first since old new rg cells moves h =
    alone-step first since old new _ cells cells moves.longer (λ unit full. owners-leave old.config old.pages new.pages _ cells unit moves.units refl full) h

-- ---- a page of a host

-- a unit that gets no page is neither free nor filled by a handle
none-apart : (state : UnitState) → IsTrue (gets_none state) → IsTrue (is_free state || is_referenced state) → ⊥
none-apart Free full opened = no (sym full)
none-apart Referenced full opened = no (sym full)
none-apart Target full opened = no (sym opened)
none-apart Closed full opened = no (sym opened)
none-apart Retired full opened = no (sym opened)
none-apart Aside full opened = no (sym opened)

module _ (old : BookSeen) (ticket : Ticket) (g : Going) (w : Write) (spot : Spot) (bytes : List ℕ) (cells now : List Cell) (known : IsKnown old) (is : IsTicketOf (state_in old) ticket g) (next : IsNextSpot old ticket g spot) (left : ProgramMayLeave (geometry_of old.config) cells spot (data_spare (next_spare (state_in old) g w)) bytes now) (unit : ℕ) (full : IsTrue (gets_none (state_at old.pages.units unit))) where
  pub other-unit : unit ≢ spot.unit
  other-unit same = none-apart (state_at old.pages.units unit) full (ap (λ (u : ℕ). is_free (state_at old.pages.units u) || is_referenced (state_at old.pages.units u)) same ∙ (next-page old.pages g.rg g.ruh spot known.joined next.may).state)

  pub other-worn : IsWornDown (geometry_of old.config) unit cells now
  other-worn page low = inl (program_other_unit (geometry_of old.config) cells spot (data_spare (next_spare (state_in old) g w)) bytes now unit left (next-write old ticket g w spot known is next).inside (λ same. other-unit (sym same)) page low)

  pub other-stands : (t : UnitTable) (x : DataUnit) → Changes old.pages.units t spot.unit x → IsTrue (gets_none (state_at t unit))
  other-stands t x change = ap (λ (y : DataUnit). gets_none y.state) (changed-other old.pages.units t spot.unit unit x change other-unit) ∙ full

pub alone-placed : (first : List Cell) (since : List Entry) (old new : BookSeen) (ticket : Ticket) (g : Going) (w : Write) (spot : Spot) (last : Bool) (bytes : List ℕ) (cells now : List Cell) → IsKnown old
    → IsTicketOf (state_in old) ticket g → IsNextSpot old ticket g spot → Places old new ticket g spot last
    → ProgramMayLeave (geometry_of old.config) cells spot (data_spare (next_spare (state_in old) g w)) bytes now
    → AreLeftAlone first since old cells → AreLeftAlone first (since ++ entries.Placed (record { ticket = ticket.position; index = g.placed; unit = spot.unit; page = spot.page }) ∷ []) new now
alone-placed first since old new ticket g w spot last bytes cells now known is next places left h =
    alone-step first since old new (entries.Placed (record { ticket = ticket.position; index = g.placed; unit = spot.unit; page = spot.page }) ∷ []) cells now places.step (λ unit full. record {
      none = ap (λ (b : Bool). b || false) (ne_eqb spot.unit unit (λ same. other-unit old ticket g w spot bytes cells now known is next left unit full (sym same)));
      stands = λ kept. other-stands old ticket g w spot bytes cells now known is next left unit full new.pages.units _ places.puts.unit;
      worn = λ kept. other-worn old ticket g w spot bytes cells now known is next left unit full;
    }) h

pub alone-shut : (first : List Cell) (since : List Entry) (old new : BookSeen) (ticket : Ticket) (g : Going) (w : Write) (spot : Spot) (status : Status) (moment : ℕ) (done : Done) (bytes : List ℕ) (cells now : List Cell) → IsKnown old
    → IsTicketOf (state_in old) ticket g → IsNextSpot old ticket g spot → ShutsAndEnds old new ticket g spot status moment done
    → ProgramMayLeave (geometry_of old.config) cells spot (data_spare (next_spare (state_in old) g w)) bytes now
    → AreLeftAlone first since old cells → AreLeftAlone first (since ++ entries.Shut (record { rg = g.rg; ruh = g.ruh }) ∷ entries.Host (record { queue = ticket.queue; number = g.number; command = g.command; reply = bare status false; moment = moment }) ∷ []) new now
alone-shut first since old new ticket g w spot status moment done bytes cells now known is next shuts left h =
    alone-step first since old new _ cells now shuts.completes.step (λ unit full. record {
      none = refl;
      stands = λ kept. recounted shuts.middle.units new.pages.units new.pages.owners unit shuts.left.units (other-stands old ticket g w spot bytes cells now known is next left unit full shuts.middle.units _ shuts.shut.unit);
      worn = λ kept. other-worn old ticket g w spot bytes cells now known is next left unit full;
    }) h
