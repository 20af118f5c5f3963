-- The page of a block that is read.
use Rattle.std.proofs.Common.{◌≡◌, ℕ, zero, suc, ◌<◌, true, false, List, [], ◌∷◌, length, Option, Some, None, refl, sym, ◌∙◌, ap, subst, arith}
use Rattle.std.specs.Prelude.{if◌then◌else◌, nat_lt, option_map, slice_index_or}
use Rattle.std.proofs.lemmas.Bool.{ltb-true}
use Rattle.fdp_base.specs.declared.entry.Spot.{Spot}
use Rattle.fdp_base.specs.Spare.{data_spare}
use Rattle.fdp_book.specs.declared.tables.Tables.{Tables}
use Rattle.fdp_book.specs.Book.{BookSeen, point_in, state_in, written_in, first_in}
use Rattle.fdp_book.specs.Held.{IsHeld}
use Rattle.fdp_book.specs.Reading.{StandsAt}
use Rattle.fdp_book.proofs.Leading.{led-page}
use Rattle.fdp_readings.specs.fdp_locations.Located.{next_in}
use Rattle.fdp_map.specs.declared.mapped.Mapped.{Mapped}
use Rattle.fdp_map.specs.MapTable.{mapped_at}
use Rattle.fdp_owners.specs.declared.owner.Owner.{Owner}
use Rattle.fdp_owners.specs.OwnerTable.{IsPlace, OwnerTable, owner_at, page_number}
use Rattle.fdp_readings.specs.fdp_pages.Joined.{AreJoined}
use Rattle.fdp_pointers.specs.Contents.{PageContent}
use Rattle.fdp_pointers.specs.Facts.{Page}
use Rattle.fdp_pointers.specs.Pointers.{Pointer.of_block}
use Rattle.fdp_pointers.proofs.Tables.{from-block, site-at}
use Rattle.fdp_rules.specs.PlainState.{Block}
use Rattle.fdp_rules.specs.Step.{IsPage}

-- ---- a page with an owner is there

index-there : (xs : List (Option Owner)) (n : ℕ) (x : Owner) → slice_index_or xs n None ≡ Some x → n < length xs
index-there [] zero x e = absurd cc
index-there [] (suc n) x e = absurd cc
index-there (y ∷ ys) zero x e = omega arith
index-there (y ∷ ys) (suc n) x e = let within : n < length ys = index-there ys n x e in omega (arith, within)

pub owner-place : (t : OwnerTable) (spot : Spot) (x : Owner) → owner_at t spot ≡ Some x → IsPlace t spot
owner-place t spot x e =
    (elim (nat_lt spot.page t.unit_pages) as (λ b. nat_lt spot.page t.unit_pages ≡ b → (if b then slice_index_or t.pages (page_number t.unit_pages spot) None else None) ≡ Some x → IsPlace t spot) [
      | true ↦ λ low is. record { page = ltb-true spot.page t.unit_pages low; number = index-there t.pages (page_number t.unit_pages spot) x is }
      | false ↦ λ low is. absurd cc
    ]) refl e

-- ---- the page of a block

-- a block's place has an owner, which is the block
pub record IsOwnPage (b : BookSeen) (t : Tables) (held : IsHeld b.config b.found (first_in b) b.entries t) (nsid lba : ℕ) (m : Mapped) : Type 0 where
  pub page : Page
  pub leads : held.pages_are.at (of_block nsid lba) ≡ Some page
  pub spot_is : page.spot ≡ m.spot
  pub owner : Owner
  pub is_owner : owner_at t.pages.owners m.spot ≡ Some owner
  pub spare_is : owner.spare ≡ page.spare
  pub place : IsPlace t.pages.owners m.spot

pub own-page : (b : BookSeen) (t : Tables) (nsid lba : ℕ) (m : Mapped) → (held : IsHeld b.config b.found (first_in b) b.entries t) → AreJoined t.pages → mapped_at t.map nsid lba ≡ Some m → IsOwnPage b t held nsid lba m
own-page b t nsid lba m held joined is =
    let led = led-page (held.pages_are.at (of_block nsid lba)) m.spot (held.pages_are.leads (of_block nsid lba) ∙ ap (option_map (λ (x : Mapped). x.spot)) is) in
    let own = held.pages_are.led.owned.owned (of_block nsid lba) led.0 led.1 in
    let owned : owner_at t.pages.owners m.spot ≡ Some own.owner = ap (owner_at t.pages.owners) (sym led.2) ∙ own.is_owner in
    record { page = led.0; leads = led.1; spot_is = led.2; owner = own.owner; is_owner = owned; spare_is = own.spare; place = owner-place t.pages.owners m.spot own.owner owned }

pub stands-at : (b : BookSeen) (t : Tables) (nsid lba : ℕ) (m : Mapped) (spare : List ℕ) → (held : IsHeld b.config b.found (first_in b) b.entries t) → (own : IsOwnPage b t held nsid lba m) → data_spare own.owner.spare ≡ spare → StandsAt b ((state_in b).blocks nsid lba) (Some (record { spot = m.spot; spare = spare }))
stands-at b t nsid lba m spare held own is =
    let at = held.pages_are.at in
    let content = site-at b.config (point_in b) (next_in t.pages.units) at held.pages_are.led.table (of_block nsid lba) own.page own.leads in
    let block = from-block ((state_in b).blocks nsid lba) content.0 content.1 in
    let site : (point_in b).trail.site block.0.page ≡ Some m.spot = ap (λ (x : PageContent). (point_in b).trail.site x.name) block.2 ∙ content.2 ∙ ap Some own.spot_is in
    let stands = held.standing.blocks nsid lba block.0 block.1 in
    let both : Some stands.spot ≡ Some m.spot = sym stands.site ∙ site in
    let same : stands.spot ≡ m.spot = cc in
    let holds = held.pages_are.led.holds (of_block nsid lba) own.page content.0 own.leads content.1 in
    subst (λ (o : Option Block). StandsAt b o (Some (record { spot = m.spot; spare = spare }))) (sym block.1) (record {
      site = site;
      place = subst (IsPage b.config) same stands.page;
      written = record { spare = own.page.spare; bytes = content.0.bytes };
      holds = ap (written_in b) (sym own.spot_is) ∙ holds;
      bytes = ap (λ (x : PageContent). x.bytes) (sym block.2);
      spare = ap data_spare (sym own.spare_is) ∙ is;
    })
