-- What the history put into the pages that have an owner.
use Rattle.std.proofs.Common.{◌≡◌, List, Option, Some, None, refl, sym, ◌∙◌, ap, subst}
use Rattle.std.specs.Prelude.{option_map}
use Rattle.fdp_base.specs.declared.config.DriveConfig.{DriveConfig}
use Rattle.fdp_base.specs.declared.config.Geometry.{Geometry}
use Rattle.fdp_base.specs.declared.entry.Spot.{Spot}
use Rattle.fdp_base.specs.declared.spare.DataSpare.{DataSpare}
use Rattle.fdp_base.specs.Spare.{data_spare}
use Rattle.fdp_pages.specs.fdp_collector.Copying.{Holds}
use Rattle.fdp_pages.specs.fdp_collector.Ready.{IsStored}
use Rattle.fdp_flash.specs.declared.cell.Cell.{Cell}
use Rattle.fdp_history.specs.OrderlyState.{IsOrderlyState}
use Rattle.fdp_locations.specs.Located.{AreLed}
use Rattle.fdp_locations.specs.Stored.{HoldsWritten}
use Rattle.fdp_locations.specs.Written.{Written}
use Rattle.fdp_locations.proofs.Grouped.{HasNone, empty-content}
use Rattle.fdp_owners.specs.declared.owner.Owner.{Owner}
use Rattle.fdp_owners.specs.Owned.{page_of}
use Rattle.fdp_owners.specs.OwnerTable.{owner_at, pointer_of}
use Rattle.fdp_pages.specs.PageTables.{PageTables}
use Rattle.fdp_pointers.specs.Contents.{PageContent, content_at}
use Rattle.fdp_pointers.specs.Facts.{Page}
use Rattle.fdp_pointers.specs.Pointers.{Behind}
use Rattle.fdp_rules.specs.PlainState.{PageName}
use Rattle.fdp_rules.specs.Point.{Point}
use Rattle.fdp_rules.specs.Sites.{group_of}

-- what is pointed to has content
content-there : (site : PageName → Option Spot) (o : Option PageContent) (a : Option Page) (y : Page) → option_map (λ (x : PageContent). site x.name) o ≡ option_map (λ (z : Page). Some z.spot) a → a ≡ Some y → (x : PageContent) × (o ≡ Some x)
content-there site (Some x) a y same is = (x, refl)
content-there site None a y same is = let none : None ≡ Some (Some y.spot) = same ∙ ap (option_map (λ (z : Page). Some z.spot)) is in absurd cc

-- what a page holds that has an owner: the spare that this knows
pub record IsOwnedPage (written : Spot → Option Written) (spot : Spot) (x : Owner) : Type 0 where
  pub page : Written
  pub is : written spot ≡ Some page
  pub spare : page.spare ≡ x.spare

pub owned-written : (c : DriveConfig) (p : Point) (written : Spot → Option Written) (at : Behind Page) (t : PageTables) → AreLed c p written at t → (spot : Spot) (x : Owner) → owner_at t.owners spot ≡ Some x → IsOwnedPage written spot x
owned-written c p written at t h spot x e =
    let leads : at (pointer_of x) ≡ Some (page_of spot x) = h.owned.led spot x e in
    let content = content-there p.trail.site (content_at c p.state (pointer_of x)) (at (pointer_of x)) (page_of spot x) (h.table.follows (pointer_of x)) leads in
    record {
      page = record { spare = x.spare; bytes = content.0.bytes };
      is = h.holds (pointer_of x) (page_of spot x) content.0 leads content.1;
      spare = refl;
    }

-- the spare that an owner knows names the generation in force, and the group of the unit
pub owned-units : (c : DriveConfig) (p : Point) (written : Spot → Option Written) (at : Behind Page) (t : PageTables) → AreLed c p written at t → (spot : Spot) (x : Owner) → owner_at t.owners spot ≡ Some x → (x.spare.generation ≡ p.state.generation) × (x.spare.rg ≡ group_of c spot.unit)
owned-units c p written at t h spot x e = h.units (pointer_of x) (page_of spot x) (h.owned.led spot x e)

-- where no namespace is there no page has an owner
pub unowned-none : (c : DriveConfig) (p : Point) (written : Spot → Option Written) (at : Behind Page) (t : PageTables) → IsOrderlyState c p.state → HasNone p.state → AreLed c p written at t → (spot : Spot) → owner_at t.owners spot ≡ None
unowned-none c p written at t orderly none h spot = is (owner_at t.owners spot) refl where
  is : (o : Option Owner) → owner_at t.owners spot ≡ o → o ≡ None
  is None e = refl
  is (Some x) e =
      let content = content-there p.trail.site (content_at c p.state (pointer_of x)) (at (pointer_of x)) (page_of spot x) (h.table.follows (pointer_of x)) (h.owned.led spot x e) in
      let no : None ≡ Some content.0 = sym (empty-content c p.state (pointer_of x) orderly none) ∙ content.1 in
      absurd cc

-- live pages hold their data where the flash holds what was written
pub stored-before : (c : DriveConfig) (p : Point) (written : Spot → Option Written) (at : Behind Page) (t : PageTables) (g : Geometry) (cells : List Cell) → AreLed c p written at t → HoldsWritten g cells written t.units → IsStored g cells t.owners t.units
stored-before c p written at t g cells h held = record {
  live = λ spot x e.
      let own = owned-written c p written at t h spot x e in
      (own.page.bytes, subst (λ (s : DataSpare). Holds g cells spot (data_spare s) own.page.bytes) own.spare (held.whole spot own.page own.is));
  blank = held.blank;
}
