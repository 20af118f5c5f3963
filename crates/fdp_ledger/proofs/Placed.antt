-- A page of a write was placed.
use Rattle.std.proofs.Common.{◌≡◌, ◌≢◌, ℕ, ◌+◌, ◌<◌, ◌≤◌, Bool, false, List, [], ◌∷◌, Option, Some, None, refl, sym, ◌∙◌, ap, subst, arith, ⊎_elim}
use Rattle.std.specs.Prelude.{IsTrue, MatchOption, slice_get}
use Rattle.std.proofs.lemmas.Bool.{cases_eq}
use Rattle.fdp_base.specs.declared.config.Geometry.{Geometry}
use Rattle.fdp_base.specs.declared.entry.Entry.TheVariants as entries
use Rattle.fdp_base.specs.declared.entry.Spot.{Spot}
use Rattle.fdp_base.specs.Placement.{geometry_of}
use Rattle.fdp_base.specs.EntryKinds.{is_shut, loses_unit}
use Rattle.fdp_book.specs.declared.ticket.Ticket.{Ticket}
use Rattle.fdp_book.specs.Book.{BookSeen, state_in, written_in}
use Rattle.fdp_book.specs.Steps.{Places}
use Rattle.fdp_book.specs.Tickets.{IsNextSpot}
use Rattle.fdp_calls.specs.Calls.{MakesCalls, program_at}
use Rattle.fdp_calls.specs.Media.{IsProgrammedTo}
use Rattle.fdp_calls.proofs.Made.{counted_more-one}
use Rattle.fdp_flash.specs.declared.cell.Cell.TheVariants.{Blank, Whole}
use Rattle.fdp_flash.specs.Cells.{IsBlankUnit}
use Rattle.fdp_flash.specs.FlashState.{FlashState}
use Rattle.fdp_flash.specs.Layout.{page_number}
use Rattle.fdp_book.specs.fdp_locations.Located.{AreUnitsOf}
use Rattle.fdp_book.specs.fdp_locations.Stored.{HoldsWritten}
use Rattle.fdp_book.specs.fdp_pages.Joined.{AreJoined}
use Rattle.fdp_book.specs.fdp_pages.PageTables.{left_of, passes_at, unit_of}
use Rattle.fdp_book.proofs.fdp_pages.Next.{IsNextPage, next-page}
use Rattle.fdp_passes.specs.GroupPasses.{GroupPasses}
use Rattle.fdp_passes.specs.Place.{has_taken}
use Rattle.fdp_rules.specs.PlainState.{Going, Reference}
use Rattle.fdp_units.specs.DataUnits.{is_free}
use Rattle.fdp_units.specs.UnitTable.{Cut, IsFreeUnit, count_in, group_in, state_at, unit_at}
use Rattle.fdp_ledger.specs.declared.counts.Counts.{Counts}
use Rattle.fdp_ledger.specs.Start.{start_of}
use Rattle.fdp_ledger.specs.Ledger.{HasFreeUnits, IsLedger}
use Rattle.fdp_ledger.specs.Told.{is_media_reply}
use Rattle.fdp_ledger.proofs.Accounted.{accounted-filled}
use Rattle.fdp_ledger.proofs.Called.{after-made}
use Rattle.fdp_ledger.proofs.Emptied.{programmed-emptied, programmed-whole, whole-unblank}
use Rattle.fdp_ledger.proofs.Free.{free-elsewhere, free-had, free-three}
use Rattle.fdp_ledger.proofs.Ledgers.{bound-none, group-was, ledger-of, more-programs, no-rose, still-worn}
use Rattle.fdp_ledger.proofs.Worn.{still-worn-out}
use Rattle.fdp_ledger.proofs.Moments.{passed-later, quiet-media}
use Rattle.fdp_ledger.proofs.Units.{FillsUnit, puts-fill}

-- the page that a handle uses next is one of its unit
pub next-within : (b : BookSeen) (g : Geometry) (rg ruh : ℕ) (spot : Spot) → AreUnitsOf b.config (state_in b) b.pages → g ≡ geometry_of b.config → IsNextPage b.pages rg ruh spot → spot.page < g.unit_pages
next-within b g rg ruh spot units geometry next =
    let pages : b.pages.units.unit_pages ≡ b.config.unit_pages = ap (λ (k : Cut). k.unit_pages) units.cut in
    let size : g.unit_pages ≡ b.config.unit_pages = ap (λ (x : Geometry). x.unit_pages) geometry in
    let left : (unit_at b.pages.units spot.unit).next + left_of b.pages rg ruh ≡ b.pages.units.unit_pages = next.left in
    let some : 1 ≤ left_of b.pages rg ruh = next.some_left in
    let page : spot.page ≡ (unit_at b.pages.units spot.unit).next = next.page in
    omega (arith, pages, size, left, some, page)

-- it is blank
pub next-blank : (b : BookSeen) (now : FlashState) (ticket : Ticket) (g : Going) (spot : Spot) → AreJoined b.pages → AreUnitsOf b.config (state_in b) b.pages → now.geometry ≡ geometry_of b.config → (IsTrue now.told → HoldsWritten now.geometry now.cells (written_in b) b.pages.units) → IsNextSpot b ticket g spot → IsTrue now.told → slice_get now.cells (page_number now.geometry spot) ≡ Some Blank
next-blank b now ticket g spot joined units geometry stored next told =
    let at = next-page b.pages g.rg g.ruh spot joined next.may in
    ((stored told).blank spot.unit next.is_unit next.kept).blank spot.page (omega (arith, at.page)) (next-within b now.geometry g.rg g.ruh spot units geometry at)

module _ (b new : BookSeen) (ticket : Ticket) (g : Going) (spot : Spot) (last : Bool) (joined : AreJoined b.pages) (units : AreUnitsOf b.config (state_in b) b.pages) (next : IsNextSpot b ticket g spot) (step : Places b new ticket g spot last) where
  at : IsNextPage b.pages g.rg g.ruh spot
  at = next-page b.pages g.rg g.ruh spot joined next.may

  fills : FillsUnit b.pages.units new.pages.units spot.unit
  fills = puts-fill b.pages new.pages g.rg g.ruh spot joined next.may step.puts.unit

  taken : (rg : ℕ) → has_taken (passes_at new.pages rg) ≡ has_taken (passes_at b.pages rg)
  taken rg = ap (λ (ps : List GroupPasses). has_taken (passes_at (record b.pages { passes = ps }) rg)) step.puts.passes

  -- its group has free units still
  placed-free : (rg : ℕ) → HasFreeUnits b.pages rg → HasFreeUnits new.pages rg
  placed-free rg was = ⊎_elim
      (λ (same : group_in b.pages.units spot.unit ≡ rg). here same (unit_of b.pages g.rg g.ruh) refl next.may.page)
      (λ (ne : group_in b.pages.units spot.unit ≢ rg). free-elsewhere b.pages new.pages rg spot.unit fills.cut fills.others ne (taken rg) was)
      (cases_eq (group_in b.pages.units spot.unit) rg) where
        here : group_in b.pages.units spot.unit ≡ rg → (o : Option ℕ) → unit_of b.pages g.rg g.ruh ≡ o → MatchOption o (IsFreeUnit b.pages.units g.rg spot.unit × (spot.page ≡ 0)) (λ unit. (spot.unit ≡ unit) × (spot.page + left_of b.pages g.rg g.ruh ≡ b.pages.units.unit_pages)) → HasFreeUnits new.pages rg
        here same None none free =
            let takes = next.taken (ap (λ (r : Reference). r.unit) (units.references g.rg g.ruh) ∙ none) in
            free-three b.pages new.pages rg spot.unit fills same (subst (λ (k : ℕ). 3 ≤ count_in b.pages.units k is_free) (sym at.group ∙ same) takes.three)
        here same (Some unit) some own =
            let stands = (joined.filled.fills g.rg g.ruh unit some).stands.stands in
            free-had b.pages new.pages rg spot.unit fills (ap (λ (u : ℕ). is_free (state_at b.pages.units u)) own.0 ∙ ap is_free stands) (taken rg) was

pub ledger-placed : (handed : Counts) (b new : BookSeen) (old now : FlashState) (ticket : Ticket) (g : Going) (spot : Spot) (last : Bool) (spare bytes : List ℕ) → AreJoined b.pages → AreUnitsOf b.config (state_in b) b.pages → old.geometry ≡ geometry_of b.config → (IsTrue old.told → HoldsWritten old.geometry old.cells (written_in b) b.pages.units)
    → IsNextSpot b ticket g spot → Places b new ticket g spot last → IsProgrammedTo old now (page_number old.geometry spot) (Whole spare bytes) → MakesCalls old now (program_at spot false ∷ []) → IsLedger handed b old → IsLedger handed new now
ledger-placed handed b new old now ticket g spot last spare bytes joined units geometry stored next step done made was =
    let after = after-made old now (program_at spot false ∷ []) made in
    let is = at b new ticket g spot last joined units next step in
    let fills = fills b new ticket g spot last joined units next step in
    ledger-of handed b new old now (program_at spot false ∷ []) (entries.Placed (record { ticket = ticket.position; index = g.placed; unit = spot.unit; page = spot.page }) ∷ []) step.step after (record {
      programs = more-programs handed.programs old.programs now.programs b.entries _ was.counted.programs (done.programs ∙ sym (counted_more-one old.programs));
      media_replies = bound-none handed was.handed_is is_media_reply b.entries _ old.faults now.faults after.faults was.counted.media_replies refl;
      shut = bound-none handed was.handed_is is_shut b.entries _ old.faults now.faults after.faults was.counted.shut refl;
      lost = bound-none handed was.handed_is loses_unit b.entries _ old.faults now.faults after.faults was.counted.lost refl;
      worn = λ fresh. still-worn handed.faults old.faults now.faults b.entries _ after.faults refl (was.counted.worn fresh);
      worn_out = still-worn-out handed (start_of b) old now (program_at spot false ∷ []) after was.listed b.entries _ refl was.counted.worn_out;
      units = accounted-filled handed (start_of b) b.pages.units new.pages.units b.entries old now (program_at spot false ∷ []) was.handed_is was.listed after was.units _ spot.unit fills (record { filled = refl; erased = refl }) (λ unit. refl)
          (λ told blank. whole-unblank old.geometry now.cells spot spare bytes (next-within b old.geometry g.rg g.ruh spot units geometry is)
          (programmed-whole old.geometry old.cells now.cells spot spare bytes (next-blank b old ticket g spot joined units geometry stored next told) (done.cells told))
          (subst (λ (k : Geometry). IsBlankUnit k now.cells spot.unit) after.geometry blank))
          (λ told. programmed-emptied old.geometry old.cells now.cells spot spare bytes (next-blank b old ticket g spot joined units geometry stored next told) (done.cells told));
      free = λ fresh well rg there. placed-free b new ticket g spot last joined units next step rg (was.free fresh (no-rose handed.faults old.faults now.faults after.faults well) rg (group-was b.pages.units new.pages.units rg fills.cut there));
      moments = passed-later (state_in b).media (state_in new).media old.moment now.moment (quiet-media b new _ step.step refl) after.moment was.moments;
    }) was
