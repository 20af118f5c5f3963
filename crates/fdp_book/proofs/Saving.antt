-- What saves the changes of a drive looks up.
use Rattle.std.proofs.Common.{◌≡◌, ℕ, ◌+◌, ◌<◌, List, length, slice_get, Option, Some, None, refl, sym, ◌∙◌, ap, subst, arith}
use Rattle.std.specs.Prelude.{IfSome, IsTrue, option_map}
use Rattle.std.proofs.lemmas.Nat.{mul-le}
use Rattle.fdp_base.specs.declared.config.Geometry.{Geometry}
use Rattle.fdp_base.specs.declared.entry.Spot.{Spot}
use Rattle.fdp_base.specs.Geometry.{data_units}
use Rattle.fdp_base.specs.CommandKinds.{blocks_written}
use Rattle.fdp_book.specs.declared.flight.Flight.{Flight}
use Rattle.fdp_book.specs.declared.tables.Tables.{Tables}
use Rattle.fdp_book.specs.declared.ticket.Ticket.{Ticket}
use Rattle.fdp_book.specs.Book.{BookSeen, first_in, point_in, state_in}
use Rattle.fdp_book.specs.Flown.{IsFlightAt}
use Rattle.fdp_book.specs.Held.{IsHeld, going_of}
use Rattle.fdp_book.specs.Steps.{IsReady}
use Rattle.fdp_book.specs.Tickets.{IsTicketOf}
use Rattle.fdp_book.proofs.Placing.Nexts.{one-going}
use Rattle.fdp_flash.specs.Layout.{page_number}
use Rattle.fdp_image.specs.Areas.{data_pages}
use Rattle.fdp_readings.specs.fdp_locations.Located.{next_in}
use Rattle.fdp_map.specs.declared.mapped.Mapped.{Mapped}
use Rattle.fdp_map.specs.MapTable.{IsPlaced, MapTable, mapped_at}
use Rattle.fdp_map.specs.PageLists.{page_of}
use Rattle.fdp_pointers.proofs.Tables.{block-at}
use Rattle.fdp_pointers.specs.Pointers.{Pointer.of_block}
use Rattle.fdp_readings.specs.Changes.{AreItsPages}
use Rattle.fdp_readings.specs.Drawn.{drawn}
use Rattle.fdp_rules.specs.PlainState.{Going, PageName.written}
use Rattle.fdp_rules.specs.Sites.{is_there, site_of}

-- ---- the map

numbers-are : (g : Geometry) (o : Option Mapped) → option_map (page_of g) o ≡ option_map (page_number g) (option_map (λ (m : Mapped). m.spot) o)
numbers-are g None = refl
numbers-are g (Some m) = refl

-- the map tells the page where a block stands
pub lists-drawn : (b : BookSeen) (t : Tables) → IsHeld b.config b.found (first_in b) b.entries t → (nsid lba : ℕ) → option_map (page_of t.map.geometry) (mapped_at t.map nsid lba) ≡ (drawn b.config (point_in b)).pages nsid lba
lists-drawn b t h nsid lba =
    let number : Option Spot → Option ℕ = option_map (page_number t.map.geometry) in
    numbers-are t.map.geometry (mapped_at t.map nsid lba)
    ∙ ap number (sym (h.pages_are.leads (of_block nsid lba)))
    ∙ ap number (sym (block-at b.config (point_in b) (next_in t.pages.units) h.pages_are.at h.pages_are.led.table nsid lba))
    ∙ ap (λ (g : Geometry). option_map (page_number g) (site_of (point_in b) nsid lba)) h.map_is.geometry

number-within : (g : Geometry) (o : Option Mapped) → IfSome o (IsPlaced g) → IfSome (option_map (page_of g) o) (λ page. page < data_pages g)
number-within g None is = tt
number-within g (Some m) is =
    let whole = mul-le (m.spot.unit + 1) g.unit_pages (data_units g) g.unit_pages (omega (arith, is.page.unit)) (omega arith) in
    omega (arith, whole, is.page.page)

-- on a data page
pub lists-within : (t : MapTable) (g : Geometry) (nsid lba : ℕ) → t.geometry ≡ g → IfSome (mapped_at t nsid lba) (IsPlaced t.geometry) → IfSome (option_map (page_of t.geometry) (mapped_at t nsid lba)) (λ page. page < data_pages g)
lists-within t g nsid lba same is = subst (λ (x : Geometry). IfSome (option_map (page_of t.geometry) (mapped_at t nsid lba)) (λ page. page < data_pages x)) same (number-within t.geometry (mapped_at t nsid lba) is)

-- ---- the pages of a write

pub its-pages-are : (b : BookSeen) (ticket : Ticket) (f : Flight) (spots : List Spot) → IsFlightAt b ticket f → IsReady b ticket → spots ≡ f.pages.items → (g : Going) → IsTicketOf (state_in b) ticket g → IsTrue (is_there (state_in b) g) → AreItsPages (point_in b) g spots
its-pages-are b ticket f spots at ready same g is there =
    let mine : going_of f ≡ g = one-going (state_in b) ticket (going_of f) g at.going is in
    let own : ready.going ≡ g = one-going (state_in b) ticket ready.going g ready.ticket_is is in
    let placed : g.placed ≡ blocks_written g.command = subst (λ (x : Going). x.placed ≡ blocks_written x.command) own ready.placed in
    record {
      size = ap (λ (xs : List Spot). length xs) same ∙ ap (λ (x : Going). x.placed) mine ∙ placed;
      sites = λ index spot e.
          ap (λ (x : Going). (point_in b).trail.site (written x.ticket index)) (sym mine)
          ∙ at.pages (subst (λ (x : Going). IsTrue (is_there (state_in b) x)) (sym mine) there) index spot (ap (λ (xs : List Spot). slice_get xs index) (sym same) ∙ e);
    }
