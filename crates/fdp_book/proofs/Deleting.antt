-- A namespace that is deleted: what its parts make of the tables together.
use Rattle.std.proofs.Common.{◌≡◌, ◌≢◌, ⊎_elim, ℕ, ◌≤◌, Bool, true, false, List, length, Option, Some, None, refl, sym, ◌∙◌, ap, subst, arith, cond, eq-eqb, ne_eqb}
use Rattle.std.specs.Prelude.{◌==◌, ◌&&◌, if◌then◌else◌, nat_lt, option_and_then, option_map}
use Rattle.std.proofs.lemmas.Bool.{cases_eq, ltb-false}
use Rattle.std.proofs.lemmas.Bool.Decides.{nat_tests}
use Rattle.std.proofs.lemmas.Grind.{common_steps}
use Rattle.fdp_base.specs.Numbers.{is_among, with_at}
use Rattle.fdp_book.specs.declared.flight.Flight.{Flight}
use Rattle.fdp_book.specs.declared.tables.Tables.{Tables}
use Rattle.fdp_book.specs.Clearing.{AreMapped, Clears, HasPointers, without_mapped}
use Rattle.fdp_book.specs.Commanded.{LetsGo}
use Rattle.fdp_book.specs.Namespaces.{AreFlown, ArePointed, Deletes, Releases, is_apart, is_away}
use Rattle.fdp_book.proofs.Clearing.{lets-on, only-out}
use Rattle.fdp_book.proofs.Releasing.{apart-all}
use Rattle.fdp_map.specs.declared.mapped.Mapped.{Mapped}
use Rattle.fdp_map.specs.MapTable.{MapTable, mapped_at, size_in}
use Rattle.fdp_map.proofs.Tables.{block_past}
use Rattle.fdp_owners.specs.Owned.{AreOwners}
use Rattle.fdp_owners.specs.OwnerTable.{owner_at}
use Rattle.fdp_readings.specs.fdp_pages.PageTables.{PageTables}
use Rattle.fdp_pointers.specs.Facts.{Page}
use Rattle.fdp_pointers.specs.Pointers.{Behind, Pointer, Pointer.of_block, Pointer.of_flight, is_outside, only, renamed}

-- ---- after the pages of the writes are let go

-- the pointers without those of the writes to a namespace
abbrev apart : List (Option Flight) → ℕ → Behind Page → Behind Page
apart flights nsid at = renamed (only (is_apart flights nsid (length flights))) at

apart-mapped : (t : Tables) (nsid : ℕ) (now : PageTables) (at : Behind Page) → AreMapped at t.map t.pages → AreFlown at t.outline t.flights.items t.pages → Releases t.outline t.flights.items nsid (length t.flights.items) t.pages now → AreMapped (apart t.flights.items nsid at) t.map now
apart-mapped t nsid now at mapped flown h = record { owned = h.owners at flown; mapped = mapped.mapped }

pub apart-pointers : (t : Tables) (nsid : ℕ) (now : PageTables) → ArePointed t → Releases t.outline t.flights.items nsid (length t.flights.items) t.pages now → HasPointers t.map now
apart-pointers t nsid now pointed h = record { at = apart t.flights.items nsid pointed.at; are = apart-mapped t nsid now pointed.at pointed.mapped pointed.flown h }

-- ---- after the blocks are taken away

among-below : (size lba : ℕ) → is_among 0 size lba ≡ nat_lt lba size
among-below size lba = grind (arith, common_steps, nat_tests)

no-page : (o : Option Page) → option_map (λ (y : Page). y.spot) o ≡ None → o ≡ None
no-page None e = refl
no-page (Some y) e = absurd cc

-- a block past the end of its namespace has no page
past-none : (map : MapTable) (t : PageTables) (at : Behind Page) (nsid lba : ℕ) → AreMapped at map t → size_in map nsid ≤ lba → at (of_block nsid lba) ≡ None
past-none map t at nsid lba are past = no-page (at (of_block nsid lba)) (are.mapped nsid lba ∙ ap (option_map (λ (m : Mapped). m.spot)) (block_past map nsid lba past))

block-away : (map : MapTable) (t : PageTables) (at : Behind Page) (nsid n lba : ℕ) → AreMapped at map t → (if n == nsid && is_among 0 (size_in map nsid) lba then None else at (of_block n lba)) ≡ (if n == nsid then None else at (of_block n lba))
block-away map t at nsid n lba are =
    ⊎_elim
    (λ (e : n ≡ nsid).
    let own : (if n == nsid then None else at (of_block n lba)) ≡ None = ap (λ (b : Bool). if b then None else at (of_block n lba)) (eq-eqb n nsid e) in
    let by : (b : Bool) → nat_lt lba (size_in map nsid) ≡ b → (if n == nsid && is_among 0 (size_in map nsid) lba then None else at (of_block n lba)) ≡ None = λ b is.
    ap (λ (x : Bool). if x && is_among 0 (size_in map nsid) lba then None else at (of_block n lba)) (eq-eqb n nsid e)
    ∙ ap (λ (x : Bool). if x then None else at (of_block n lba)) (among-below (size_in map nsid) lba ∙ is)
    ∙ (elim b as (λ x. nat_lt lba (size_in map nsid) ≡ x → (if x then None else at (of_block n lba)) ≡ None) [
      | true ↦ λ _. refl
      | false ↦ λ past. ap (λ (k : ℕ). at (of_block k lba)) e ∙ past-none map t at nsid lba are (ltb-false lba (size_in map nsid) past)
    ]) is in
    by (nat_lt lba (size_in map nsid)) refl ∙ sym own)
    (λ (ne : n ≢ nsid).
    ap (λ (b : Bool). if b && is_among 0 (size_in map nsid) lba then None else at (of_block n lba)) (ne_eqb n nsid ne) ∙ sym (ap (λ (b : Bool). if b then None else at (of_block n lba)) (ne_eqb n nsid ne)))
    (cases_eq n nsid)

-- without these and those the pointers are away
both-away : (t : Tables) (nsid : ℕ) (at : Behind Page) → AreMapped at t.map t.pages → (p : Pointer) → renamed (only (is_outside nsid (is_among 0 (size_in t.map nsid)))) (apart t.flights.items nsid at) p ≡ renamed (only (is_away t.flights.items nsid)) at p
both-away t nsid at are (of_block n lba) =
    only-out (n == nsid && is_among 0 (size_in t.map nsid) lba) (of_block n lba) (apart t.flights.items nsid at)
    ∙ block-away t.map t.pages at nsid n lba are
    ∙ sym (only-out (n == nsid) (of_block n lba) at)
both-away t nsid at are (of_flight q i) = ap (λ (b : Bool). option_and_then at (if b then Some (of_flight q i) else None)) (apart-all t.flights.items nsid q i)

-- ---- the map without the namespace

gone-other : (table : ℕ → ℕ → Option Mapped) (nsid n lba : ℕ) → n ≢ nsid → with_at table nsid (λ l. None) n lba ≡ table n lba
gone-other table nsid n lba ne =
    let gone : ℕ → Option Mapped = λ l. None in
    ap (λ (b : Bool). cond b gone (table n) lba) (ne_eqb n nsid ne)

gone-blocks : (table : ℕ → ℕ → Option Mapped) (nsid : ℕ) (test : ℕ → Bool) (n lba : ℕ) → with_at (without_mapped table nsid test) nsid (λ l. None) n lba ≡ with_at table nsid (λ l. None) n lba
gone-blocks table nsid test n lba =
    ⊎_elim
    (λ (e : n ≡ nsid). rw (eq-eqb n nsid e) refl)
    (λ (ne : n ≢ nsid). gone-other (without_mapped table nsid test) nsid n lba ne ∙ ap (λ (b : Bool). if b && test lba then None else table n lba) (ne_eqb n nsid ne) ∙ sym (gone-other table nsid n lba ne))
    (cases_eq n nsid)

pub deletes : (t : Tables) (nsid count : ℕ) (mid last : MapTable) (let_go now : PageTables) → count ≡ size_in t.map nsid →
    Releases t.outline t.flights.items nsid (length t.flights.items) t.pages let_go → Clears nsid (is_among 0 count) t.map mid let_go now →
    mapped_at last ≡ with_at (mapped_at mid) nsid (λ lba. None) → size_in last ≡ with_at (size_in mid) nsid 0 → last.geometry ≡ mid.geometry →
    (new : Tables) → new.map ≡ last → new.pages ≡ now → new ≡ record t { map = new.map; pages = new.pages } →
    Deletes t new nsid
deletes t nsid count mid last let_go now whole releases clears blocks sizes geometry new map_is pages_is rest = record {
  blocks = ap mapped_at map_is ∙ blocks ∙ ap (λ (f : ℕ → ℕ → Option Mapped). with_at f nsid (λ (l : ℕ). None)) clears.blocks ∙ (λ e n lba. gone-blocks (mapped_at t.map) nsid (is_among 0 count) n lba e);
  sizes = ap size_in map_is ∙ sizes ∙ ap (λ (f : ℕ → ℕ). with_at f nsid 0) clears.sizes;
  geometry = ap (λ (m : MapTable). m.geometry) map_is ∙ geometry ∙ clears.geometry;
  owners = λ at mapped flown.
      let owned : AreOwners (owner_at now.owners) (renamed (only (is_outside nsid (is_among 0 count))) (apart t.flights.items nsid at)) = clears.owners (apart t.flights.items nsid at) (apart-mapped t nsid let_go at mapped flown releases) in
      subst (λ (x : PageTables). AreOwners (owner_at x.owners) (renamed (only (is_away t.flights.items nsid)) at)) (sym pages_is)
      (subst (λ (x : Behind Page). AreOwners (owner_at now.owners) x) (λ e p. both-away t nsid at mapped p e)
      (subst (λ (k : ℕ). AreOwners (owner_at now.owners) (renamed (only (is_outside nsid (is_among 0 k))) (apart t.flights.items nsid at))) whole owned));
  pages = subst (λ (x : PageTables). LetsGo t.pages x) (sym pages_is) (lets-on t.pages let_go now releases.pages clears.pages);
  rest = rest;
}
