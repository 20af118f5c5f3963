-- The next page of a going write: its place, its block, and what its program leaves.
use Rattle.std.proofs.Common.{◌≡◌, ℕ, ◌+◌, ◌*◌, ◌<◌, ◌≤◌, Bool, true, false, List, [], ◌∷◌, ◌++◌, length, Option, Some, None, take, drop, refl, sym, ◌∙◌, ap, subst, arith, length-append}
use Rattle.std.specs.Prelude.{IsTrue, is_some, option_and_then, option_map, slice_set}
use Rattle.std.proofs.lemmas.Bool.{false≢true}
use Rattle.std.proofs.lemmas.List.{length-drop, length-take}
use Rattle.std.proofs.lemmas.Nat.{mul-le}
use Rattle.fdp_base.specs.declared.command.Command.{Command}
use Rattle.fdp_base.specs.declared.command.Write.{Write}
use Rattle.fdp_base.specs.declared.config.DriveConfig.{DriveConfig}
use Rattle.fdp_base.specs.declared.config.Geometry.{Geometry}
use Rattle.fdp_base.specs.declared.entry.Entry.TheVariants as entries
use Rattle.fdp_base.specs.declared.entry.Spot.{Spot}
use Rattle.fdp_base.specs.declared.payload.Payload.{Payload}
use Rattle.fdp_base.specs.declared.payload.Payload.TheVariants as payloads
use Rattle.fdp_base.specs.declared.status.Status.{Status}
use Rattle.fdp_base.specs.CommandKinds.{IsPayloadOf, IsWellFormed, blocks_written, is_write, write_of}
use Rattle.fdp_base.specs.Geometry.{data_units}
use Rattle.fdp_base.specs.Pattern.{HasBlock, payload_block}
use Rattle.fdp_base.specs.Placement.{geometry_of}
use Rattle.fdp_base.specs.Spare.{data_spare}
use Rattle.fdp_relocation.specs.fdp_book.declared.ticket.Done.{Done}
use Rattle.fdp_relocation.specs.fdp_book.declared.ticket.Ticket.{Ticket}
use Rattle.fdp_relocation.specs.fdp_book.Book.{BookSeen, IsLed, point_in, state_in, written_in}
use Rattle.fdp_relocation.specs.fdp_book.Shutting.{ShutsAndEnds}
use Rattle.fdp_relocation.specs.fdp_book.Steps as book
use Rattle.fdp_relocation.specs.fdp_book.Tickets.{IsNextSpot, IsTicketOf}
use Rattle.fdp_calls.specs.Calls.{MakesCalls, program_at}
use Rattle.fdp_calls.proofs.Made.{kept-made}
use Rattle.fdp_calls.specs.Media.{IsProgrammedTo}
use Rattle.fdp_relocation.specs.fdp_collector.Copying.{IsDataPage}
use Rattle.fdp_relocation.specs.fdp_collector.Ready.{IsBlankBehind}
use Rattle.fdp_core.specs.Seen.{HasMoments, HoldsHistory}
use Rattle.fdp_core.specs.Sound.{IsSound}
use Rattle.fdp_core.proofs.Pushed.{legal-one, legal-two}
use Rattle.fdp_core.proofs.Apart.{apart-placed, apart-shut, known-begun}
use Rattle.fdp_core.proofs.Sound.{apart-begun, begun, room-begun}
use Rattle.fdp_core.proofs.Storing.{blank-used, free-page, holds-put, holds-unput}
use Rattle.fdp_flash.specs.declared.cell.Cell.TheVariants.{Whole}
use Rattle.fdp_flash.specs.Cells.{IsBlankFrom, ProgramMayLeave}
use Rattle.fdp_flash.specs.FlashState.{FlashState}
use Rattle.fdp_flash.specs.Layout.{IsIn, page_number}
use Rattle.fdp_flash.proofs.Pages.{programmed_may_leave}
use Rattle.fdp_history.specs.Orderly.{IsOrderly}
use Rattle.fdp_history.proofs.Placing.{going_with-is}
use Rattle.fdp_loading.specs.fdp_isolation.Laned.{IsKnown}
use Rattle.fdp_loading.specs.fdp_ledger.declared.counts.Counts.{Counts}
use Rattle.fdp_loading.proofs.fdp_ledger.Alike.{ledger-alike}
use Rattle.fdp_loading.proofs.fdp_ledger.Placed.{ledger-placed}
use Rattle.fdp_loading.proofs.fdp_ledger.Shutting.{FailsToProgram, ledger-shut}
use Rattle.fdp_relocation.specs.fdp_locations.Stored.{HoldsWritten}
use Rattle.fdp_relocation.specs.fdp_locations.Written.{Written, next_page, next_spare, page_of_ticket, with_written}
use Rattle.fdp_relocation.proofs.Moving.{blank-recounted}
use Rattle.fdp_rules.specs.Answer.{bare}
use Rattle.fdp_rules.specs.Change.{is_media_error}
use Rattle.fdp_rules.specs.Next.{next}
use Rattle.fdp_rules.specs.PlainState.{Going, PlainState}
use Rattle.fdp_rules.specs.Step.{Follows, IsPlaced}
use Rattle.fdp_relocation.proofs.fdp_book.Longer.{written-one, written-two}
use Rattle.fdp_roominess.proofs.Placed.{room-placed}
use Rattle.fdp_roominess.proofs.Runs.{keeps-failed, keeps-well}
use Rattle.fdp_base.proofs.Writes.{write-is}

-- ---- the place

-- the next page may be placed
next-placed : (b : BookSeen) (ticket : Ticket) (g : Going) (spot : Spot) → IsNextSpot b ticket g spot → IsPlaced b.config (point_in b) ticket.position g.placed spot.unit spot.page
unfolding Follows
next-placed b ticket g spot h = h.follows true

-- its place is one of the flash, in a unit of data
pub next-in : (f : FlashState) (b : BookSeen) (ticket : Ticket) (g : Going) (spot : Spot) → f.geometry ≡ geometry_of b.config → IsNextSpot b ticket g spot → IsIn f.geometry spot × (spot.unit < data_units f.geometry)
next-in f b ticket g spot geometry h =
    let page = (next-placed b ticket g spot h).spot in
    subst (λ (x : Geometry). IsIn x spot × (spot.unit < data_units x)) (sym geometry) (record { unit = omega (arith, page.0); page = page.1 }, page.0)

data-page : (g : Geometry) (b : BookSeen) (ticket : Ticket) (going : Going) (spot : Spot) → g ≡ geometry_of b.config → IsNextSpot b ticket going spot → IsDataPage g spot
data-page g b ticket going spot geometry h =
    let page = (next-placed b ticket going spot h).spot in
    subst (λ (x : Geometry). IsDataPage x spot) (sym geometry) (record { unit = page.0; page = page.1 })

-- it and what lies behind it is blank
pub next-blank : (f : FlashState) (b : BookSeen) (ticket : Ticket) (g : Going) (spot : Spot) → HoldsHistory f b → IsTrue f.told → IsNextSpot b ticket g spot → IsBlankFrom f.geometry f.cells spot
next-blank f b ticket g spot stored tells h =
    subst (λ (page : ℕ). IsBlankFrom f.geometry f.cells (record { unit = spot.unit; page = page })) (sym h.fresh) ((stored tells).blank spot.unit h.is_unit h.kept)

-- ---- its block

has-payload : (c : DriveConfig) (count i : ℕ) (payload : Payload) → IsPayloadOf c count payload → i < count → HasBlock c.block payload i
has-payload c count i (payloads.Pattern seed) fits below = tt
has-payload c count i (payloads.Bytes bytes) fits below =
    let rest : (i + 1) * c.block ≤ count * c.block = mul-le (i + 1) c.block count c.block (omega (arith, below)) (omega arith) in
    omega (arith, rest, fits)

-- a write has each of its blocks
pub has-block : (c : DriveConfig) (command : Command) (w : Write) (i : ℕ) → write_of command ≡ Some w → IsWellFormed c command → i < blocks_written command → HasBlock c.block w.payload i
has-block c command w i e =
    subst (λ (x : Command). IsWellFormed c x → i < blocks_written x → HasBlock c.block w.payload i) (sym (write-is command w e)) (λ formed below. has-payload c w.count i w.payload formed.1 below)

-- what a write puts
pub as-write : (command : Command) → IsTrue (is_write command) → (w : Write) × (write_of command ≡ Some w)
as-write command write = of-write (write_of command) refl
  where
    of-write : (o : Option Write) → write_of command ≡ o → (w : Write) × (write_of command ≡ Some w)
    of-write None e = absurd (false≢true (sym (ap is_some e) ∙ write))
    of-write (Some w) e = (w, e)

-- the payload of a going write has its next block
pub next-block : (b : BookSeen) (block : List ℕ) (ticket : Ticket) (g : Going) (payload : Payload) (index : ℕ) →
    IsOrderly b.config (point_in b) → length block ≡ b.config.block → IsTicketOf (state_in b) ticket g → g.placed < blocks_written g.command → index ≡ g.placed →
    ((w : Write) → write_of g.command ≡ Some w → payload ≡ w.payload) → HasBlock (length block) payload index
next-block b block ticket g payload index all buffer is asked at carries =
    let orderly = all.state.writes ticket.queue g is.going_is in
    let w = as-write g.command orderly.write in
    subst (λ n. HasBlock n payload index) (sym buffer) (subst (HasBlock b.config.block payload) (sym at)
    (subst (λ (p : Payload). HasBlock b.config.block p g.placed) (sym (carries w.0 w.1)) (has-block b.config g.command w.0 g.placed w.1 orderly.formed asked)))

-- a buffer that was filled has its length
pub filled-buffer : (len : ℕ) (items xs : List ℕ) → length items ≡ len → length xs ≡ length items → length (take len (xs ++ drop (length xs) items)) ≡ length items
filled-buffer len items xs all same =
    omega (arith, length-take len (xs ++ drop (length xs) items), length-append xs (drop (length xs) items), length-drop (length xs) items, all, same)

pub asked-as : (s : PlainState) (ticket : Ticket) (g h : Going) → IsTicketOf s ticket g → IsTicketOf s ticket h → g.placed < blocks_written g.command → h.placed < blocks_written h.command
asked-as s ticket g h p q asked =
    let same : g ≡ h = some-same g h (sym p.going_is ∙ q.going_is) in
    subst (λ (x : Going). x.placed < blocks_written x.command) same asked
  where
    some-same : (x y : Going) → Some x ≡ Some y → x ≡ y
    some-same x y e = cc

-- ---- the page

some-bytes : (o : Option Write) (w : Write) (f : Write → List ℕ) (spare : List ℕ) → o ≡ Some w → option_map f o ≡ Some spare → f w ≡ spare
some-bytes o w f spare e h = let h' : Some (f w) ≡ Some spare = ap (option_map f) (sym e) ∙ h in cc

-- a page is the next one of a going write, with this block of its payload and these spare bytes
pub record IsNextPage (b : BookSeen) (ticket : Ticket) (g : Going) (spot : Spot) (index : ℕ) (spare : List ℕ) (payload : Payload) : Type 0 where
  pub ticket_is : IsTicketOf (state_in b) ticket g
  pub next : IsNextSpot b ticket g spot
  pub at : index ≡ g.placed
  pub spare_is : option_map (λ (w : Write). data_spare (next_spare (state_in b) g w)) (write_of g.command) ≡ Some spare
  pub carries : (w : Write) → write_of g.command ≡ Some w → payload ≡ w.payload

-- what it is by the history
pub record IsWrittenPage (b : BookSeen) (ticket : Ticket) (g : Going) (spare bytes : List ℕ) : Type 0 where
  pub w : Write
  pub write : write_of g.command ≡ Some w
  pub page : Written
  pub page_is : page ≡ next_page b.config (state_in b) g w
  pub placed : page_of_ticket b.config (state_in b) ticket.position ≡ Some page
  pub spare_is : data_spare page.spare ≡ spare
  pub bytes_are : page.bytes ≡ bytes

pub written-page : (b : BookSeen) (block : List ℕ) (ticket : Ticket) (g : Going) (spot : Spot) (index : ℕ) (spare : List ℕ) (payload : Payload) → IsOrderly b.config (point_in b) → length block ≡ b.config.block → IsNextPage b ticket g spot index spare payload → IsWrittenPage b ticket g spare (payload_block (length block) payload index)
written-page b block ticket g spot index spare payload all buffer is =
    let c = b.config in
    let orderly = all.state.writes ticket.queue g is.ticket_is.going_is in
    let w = as-write g.command orderly.write in
    let going = going_with-is c (state_in b) ticket.queue ticket.position g all.state orderly.queue_is.0 orderly.queue_is.1 is.ticket_is.going_is is.ticket_is.position_is in
    record {
      w = w.0;
      write = w.1;
      page = next_page c (state_in b) g w.0;
      page_is = refl;
      placed = ap (λ (o : Option Going). option_and_then (λ (x : Going). option_map (next_page c (state_in b) x) (write_of x.command)) o) going ∙ ap (option_map (next_page c (state_in b) g)) w.1;
      spare_is = some-bytes (write_of g.command) w.0 (λ (x : Write). data_spare (next_spare (state_in b) g x)) spare w.1 is.spare_is;
      bytes_are = sym (ap (λ (n : ℕ). payload_block n payload index) buffer ∙ ap (λ (p : Payload). payload_block c.block p index) (is.carries w.0 w.1) ∙ ap (payload_block c.block w.0.payload) is.at);
    }

-- the next page is the same once a step has begun
pub spot-begun : (b : BookSeen) (ticket : Ticket) (g : Going) (spot : Spot) → IsNextSpot b ticket g spot → IsNextSpot (begun b) ticket g spot
spot-begun b ticket g spot h = record {
  follows = h.follows;
  there = h.there;
  may = h.may;
  fresh = h.fresh;
  is_unit = h.is_unit;
  kept = h.kept;
  taken = λ none. let t = h.taken none in record { lowest = t.lowest; three = t.three };
}

-- its spare bytes
spare-of : {b : BookSeen} {ticket : Ticket} {g : Going} {spare bytes : List ℕ} (page : IsWrittenPage b ticket g spare bytes) → data_spare (next_spare (state_in b) g page.w) ≡ spare
spare-of page = ap (λ (x : Written). data_spare x.spare) (sym page.page_is) ∙ page.spare_is

-- the page was programmed
pub sound-placed : (handed : Counts) (f n : FlashState) (b d : BookSeen) (block now : List ℕ) (ticket : Ticket) (g : Going) (spot : Spot) (index : ℕ) (spare : List ℕ) (payload : Payload) (last : Bool) →
    IsSound handed f b block → IsKnown b → IsLed d → IsNextPage b ticket g spot index spare payload →
    IsProgrammedTo f n (page_number f.geometry spot) (Whole spare (payload_block (length block) payload index)) → MakesCalls f n (program_at spot false ∷ []) →
    length now ≡ length block → book.Places (begun b) d ticket g spot last → IsSound handed n d now
sound-placed handed f n b d block now ticket g spot index spare payload last so joined led is programmed made size placed =
    let e = entries.Placed (record { ticket = ticket.position; index = g.placed; unit = spot.unit; page = spot.page }) in
    let page = written-page b block ticket g spot index spare payload joined.orderly so.buffer is in
    let there = data-page f.geometry b ticket g spot so.geometry is.next in
    record {
      geometry = programmed.kept.geometry ∙ so.geometry ∙ ap geometry_of (sym placed.step.config_is);
      legal = legal-one f n (begun b) d e placed.step programmed.kept.told programmed.kept.moment so.legal (λ _. is.next.follows n.told);
      stored = λ tells.
          let told : IsTrue f.told = sym programmed.kept.told ∙ tells in
          let was = so.stored told in
          let cells : n.cells ≡ slice_set f.cells (page_number f.geometry spot) (Whole (data_spare page.page.spare) page.page.bytes) =
          programmed.cells told ∙ ap (λ (xs : List ℕ). slice_set f.cells (page_number f.geometry spot) (Whole xs (payload_block (length block) payload index))) (sym page.spare_is)
          ∙ ap (λ (xs : List ℕ). slice_set f.cells (page_number f.geometry spot) (Whole (data_spare page.page.spare) xs)) (sym page.bytes_are) in
          let blank : IsBlankBehind f.geometry n.cells d.pages.units =
          blank-used f.geometry f.cells n.cells b.pages.units d.pages.units spot _ (data_spare page.page.spare) page.page.bytes was.blank there.page is.next.is_unit is.next.kept is.next.fresh (ap (λ (k : ℕ). k + 1) (sym is.next.fresh)) placed.puts.unit
          (programmed_may_leave f.geometry f.cells spot (data_spare page.page.spare) page.page.bytes n.cells cells) in
          let free = free-page f.geometry f.cells b.pages.units spot was.blank there.page is.next.is_unit is.next.kept is.next.fresh in
          let written : written_in d ≡ with_written (written_in b) spot (Some page.page) = written-one (begun b) d e placed.step ∙ ap (with_written (written_in b) spot) page.placed in
          subst (λ (x : Geometry). HoldsWritten x n.cells (written_in d) d.pages.units) (sym programmed.kept.geometry)
          (subst (λ (x : Spot → Option Written). HoldsWritten f.geometry n.cells x d.pages.units) (sym written)
          (holds-put f.geometry f.cells n.cells (written_in b) b.pages.units d.pages.units blank was spot free page.page there cells));
      apart = apart-placed f n (begun b) d ticket g page.w spot (payload_block (length block) payload index) so.geometry (known-begun b joined) led so.stored is.ticket_is page.write (spot-begun b ticket g spot is.next) programmed.kept.told
          (λ tells. programmed_may_leave f.geometry f.cells spot (data_spare (next_spare (state_in b) g page.w)) (payload_block (length block) payload index) n.cells
          (programmed.cells tells ∙ ap (λ (xs : List ℕ). slice_set f.cells (page_number f.geometry spot) (Whole xs (payload_block (length block) payload index))) (sym (spare-of page))))
          (apart-begun f b so.apart) last placed;
      ledger = ledger-placed handed (begun b) d f n ticket g spot last spare (payload_block (length block) payload index) joined.joined joined.units so.geometry so.stored
          (spot-begun b ticket g spot is.next) placed programmed made (ledger-alike handed b (begun b) f refl refl refl refl refl so.ledger);
      room = keeps-well handed.faults f.faults n.faults f.told n.told (begun b) d (e ∷ []) placed.step programmed.kept.told made.run.faults (room-begun handed f b so.room) refl
          (room-placed (begun b) d ticket g spot last (known-begun b joined) (spot-begun b ticket g spot is.next) placed);
      buffer = size ∙ so.buffer ∙ ap (λ (c : DriveConfig). c.block) (sym placed.step.config_is);
    }

-- its program failed
pub sound-shut : (handed : Counts) (f n : FlashState) (b d : BookSeen) (block now : List ℕ) (ticket : Ticket) (g : Going) (spot : Spot) (spare bytes : List ℕ) (status : Status) (moment : ℕ) (done : Done) →
    IsSound handed f b block → IsKnown b → IsLed d → IsTicketOf (state_in b) ticket g → IsNextSpot b ticket g spot → option_map (λ (w : Write). data_spare (next_spare (state_in b) g w)) (write_of g.command) ≡ Some spare → FailsToProgram f n spot spare bytes → moment ≡ n.moment →
    ((IsTrue (is_media_error status) → HasMoments n) → Follows n.told b.config (next b.config (point_in b) (entries.Shut (record { rg = g.rg; ruh = g.ruh }))) (entries.Host (record { queue = ticket.queue; number = g.number; command = g.command; reply = bare status false; moment = moment }))) →
    length now ≡ length block → ShutsAndEnds (begun b) d ticket g spot status moment done → IsSound handed n d now
sound-shut handed f n b d block now ticket g spot spare bytes status moment done so joined led ticket_is is spare_is failed moment_is may size shuts =
    let kept = kept-made f n (program_at spot true ∷ []) failed.made in
    let shut = entries.Shut (record { rg = g.rg; ruh = g.ruh }) in
    let host = entries.Host (record { queue = ticket.queue; number = g.number; command = g.command; reply = bare status false; moment = moment }) in
    let there = data-page f.geometry b ticket g spot so.geometry is in
    let w = as-write g.command (joined.orderly.state.writes ticket.queue g ticket_is.going_is).write in
    let own : data_spare (next_spare (state_in b) g w.0) ≡ spare = some-bytes (write_of g.command) w.0 (λ (x : Write). data_spare (next_spare (state_in b) g x)) spare w.1 spare_is in
    record {
      geometry = kept.geometry ∙ so.geometry ∙ ap geometry_of (sym shuts.completes.step.config_is);
      legal = legal-two f n (begun b) d shut host shuts.completes.step kept.told kept.moment so.legal (λ _. shuts.follows n.told) may;
      stored = λ tells.
          let told : IsTrue f.told = sym kept.told ∙ tells in
          let was = so.stored told in
          let left = failed.left told in
          let middle : IsBlankBehind f.geometry n.cells shuts.middle.units =
          blank-used f.geometry f.cells n.cells b.pages.units shuts.middle.units spot _ spare bytes was.blank there.page is.is_unit is.kept is.fresh (ap (λ (k : ℕ). k + 1) (sym is.fresh)) shuts.shut.unit left in
          let blank : IsBlankBehind f.geometry n.cells d.pages.units = blank-recounted f.geometry n.cells shuts.middle.units d.pages.units d.pages.owners shuts.left.units middle in
          let free = free-page f.geometry f.cells b.pages.units spot was.blank there.page is.is_unit is.kept is.fresh in
          let written : written_in d ≡ written_in b = written-two (begun b) d shut host shuts.completes.step in
          subst (λ (x : Geometry). HoldsWritten x n.cells (written_in d) d.pages.units) (sym kept.geometry)
          (subst (λ (x : Spot → Option Written). HoldsWritten f.geometry n.cells x d.pages.units) (sym written)
          (holds-unput f.geometry f.cells n.cells (written_in b) b.pages.units d.pages.units blank was spot free spare bytes left));
      apart = apart-shut f n (begun b) d ticket g w.0 spot bytes so.geometry (known-begun b joined) led so.stored ticket_is w.1 (spot-begun b ticket g spot is) kept.told
          (λ tells. subst (λ (xs : List ℕ). ProgramMayLeave f.geometry f.cells spot xs bytes n.cells) (sym own) (failed.left tells)) (apart-begun f b so.apart) status moment done shuts;
      ledger = ledger-shut handed (begun b) d f n ticket g spot status moment done spare bytes joined.joined joined.units so.geometry so.stored
          (spot-begun b ticket g spot is) shuts failed moment_is (ledger-alike handed b (begun b) f refl refl refl refl refl so.ledger);
      room = keeps-failed handed.faults f.faults n.faults f.told n.told (begun b) d (shut ∷ host ∷ []) shuts.completes.step kept.told failed.made.run.faults (room-begun handed f b so.room) (failed.made.fault refl).rose;
      buffer = size ∙ so.buffer ∙ ap (λ (c : DriveConfig). c.block) (sym shuts.completes.step.config_is);
    }
