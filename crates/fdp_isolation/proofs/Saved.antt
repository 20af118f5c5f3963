-- Calls that leave the data pages alone keep apart what was: so it is while changes are saved.
use Rattle.std.proofs.Common.{◌≡◌, ℕ, ◌+◌, ◌*◌, ◌<◌, List, sym, ◌∙◌, arith, inl, inr, ⊎_elim, slice_get}
use Rattle.std.proofs.lemmas.Nat.{mul-le}
use Rattle.fdp_base.specs.declared.config.DriveConfig.{DriveConfig}
use Rattle.fdp_base.specs.declared.entry.Entry.{Entry}
use Rattle.fdp_base.specs.Placement.{geometry_of}
use Rattle.fdp_book.specs.Book.{BookSeen, state_in}
use Rattle.fdp_flash.specs.declared.cell.Cell.{Cell}
use Rattle.fdp_flash.specs.Layout.{page_number}
use Rattle.fdp_image.specs.Areas.{data_pages}
use Rattle.fdp_image.specs.Roomy.{page_in}
use Rattle.fdp_image.specs.Saving.{SameDataPages}
use Rattle.fdp_isolation.specs.Alone.{AreLeftAlone}
use Rattle.fdp_isolation.specs.Laned.{AreLaned, StandsOver}
use Rattle.fdp_isolation.proofs.Pages.{KeepsPages, each-kept}
use Rattle.fdp_book.proofs.fdp_locations.Others.{data-unit}
use Rattle.fdp_rules.specs.Step.{IsDataUnit}

-- a page of a data unit is a data page
pub data-page : (c : DriveConfig) (unit page : ℕ) → IsDataUnit c unit → page < c.unit_pages → page_number (geometry_of c) (page_in unit page) < data_pages (geometry_of c)
data-page c unit page is low =
    let whole = mul-le (unit + 1) c.unit_pages (c.groups * c.units) c.unit_pages (omega (arith, is)) (omega arith) in
    omega (arith, whole, low)

module _ (b : BookSeen) (old new : List Cell) (same : SameDataPages b.config old new) where
  same-page : (unit page : ℕ) → IsDataUnit b.config unit → page < b.config.unit_pages → slice_get new (page_number (geometry_of b.config) (page_in unit page)) ≡ slice_get old (page_number (geometry_of b.config) (page_in unit page))
  same-page unit page is low = same (page_number (geometry_of b.config) (page_in unit page)) (data-page b.config unit page is low)

  pub holds-saved : StandsOver b old → StandsOver b new
  holds-saved h = record {
    known = h.known;
    holds = record {
      lie = h.holds.lie;
      whole = λ spot x e. let lies = h.holds.lie spot x e in same-page spot.unit spot.page lies.unit lies.page ∙ h.holds.whole spot x e;
      blank = λ unit there kept.
          let is = data-unit b.config (state_in b) b.pages unit h.known.units there in
          let was = h.holds.blank unit there kept in
          record { blank = λ page low within. same-page unit page is within ∙ was.blank page low within };
    };
  }

  pub laned-saved : AreLaned b old → AreLaned b new
  laned-saved h = record {
    laned = record {
      units = λ unit is.
          let own = h.laned.units unit is in
          record {
            group = record { generation = own.group.generation; pages = each-kept b.config unit old new _ (keeps unit is) own.group.pages };
            past = own.past;
            way = λ taken force. let way = own.way taken force in (way.0, each-kept b.config unit old new _ (keeps unit is) way.1);
          };
      filled = λ rg ruh unit is e. each-kept b.config unit old new _ (keeps unit is) (h.laned.filled rg ruh unit is e);
      targets = λ rg unit lane is e. each-kept b.config unit old new _ (keeps unit is) (h.laned.targets rg unit lane is e);
      put = λ unit is put. each-kept b.config unit old new _ (keeps unit is) (h.laned.put unit is put);
    };
    placed = h.placed;
  } where
    keeps : (unit : ℕ) → IsDataUnit b.config unit → KeepsPages b.config old new unit
    keeps unit is page spare bytes low whole = sym (same-page unit page is low) ∙ whole

  pub alone-saved : (first : List Cell) (es : List Entry) → AreLeftAlone first es b old → AreLeftAlone first es b new
  alone-saved first es h unit is used =
      let was = h unit is used in
      record {
        none = record {
          none_put = was.none.none_put;
          none_programmed = λ kept page low. ⊎_elim
              (λ unchanged. inl (same-page unit page is low ∙ unchanged))
              (⊎_elim (λ blank. inr (inl (same-page unit page is low ∙ blank))) (λ torn. inr (inr (same-page unit page is low ∙ torn))))
              (was.none.none_programmed kept page low);
        };
        stands = was.stands;
      }
