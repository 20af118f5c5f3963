-- Two books with one history and one state of the pages keep the same apart.
use Rattle.std.proofs.Common.{◌≡◌, List, sym, subst}
use Rattle.fdp_base.specs.declared.config.DriveConfig.{DriveConfig}
use Rattle.fdp_base.specs.declared.entry.Entry.{Entry}
use Rattle.fdp_book.specs.Book.{BookSeen}
use Rattle.fdp_flash.specs.declared.cell.Cell.{Cell}
use Rattle.fdp_isolation.specs.Isolated.{since_setting}
use Rattle.fdp_isolation.specs.Laned.{AreLaned, IsLaned}
use Rattle.fdp_book.specs.fdp_pages.PageTables.{PageTables}
use Rattle.fdp_pointers.specs.Facts.{HasOnlyPlaced}
use Rattle.fdp_rules.specs.History.{Found, point_of}

-- what is kept apart, by the parts of a book
pub record IsLanedBy (cells : List Cell) (c : DriveConfig) (found : Found) (es : List Entry) (t : PageTables) : Type 0 where
  pub laned : IsLaned c (point_of c found es).state.generation es (since_setting es) t cells
  pub placed : HasOnlyPlaced (point_of c found es)

pub laned-by : (b : BookSeen) (cells : List Cell) (c : DriveConfig) (found : Found) (es : List Entry) → b.config ≡ c → b.found ≡ found → b.entries ≡ es → IsLanedBy cells c found es b.pages → AreLaned b cells
laned-by b cells c found es config is entries h =
    let now : IsLanedBy cells b.config b.found b.entries b.pages =
    subst (λ (d : DriveConfig). IsLanedBy cells d b.found b.entries b.pages) (sym config)
    (subst (λ (f : Found). IsLanedBy cells c f b.entries b.pages) (sym is)
    (subst (λ (xs : List Entry). IsLanedBy cells c found xs b.pages) (sym entries) h)) in
    record { laned = now.laned; placed = now.placed }

pub laned-alike : (b d : BookSeen) (cells : List Cell) → d.config ≡ b.config → d.found ≡ b.found → d.entries ≡ b.entries → d.pages ≡ b.pages → AreLaned b cells → AreLaned d cells
laned-alike b d cells config found entries pages h =
    laned-by d cells b.config b.found b.entries config found entries
    (subst (λ (t : PageTables). IsLanedBy cells b.config b.found b.entries t) (sym pages) (record { laned = h.laned; placed = h.placed }))
