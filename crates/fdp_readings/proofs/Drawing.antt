-- What a point of a history draws is valid, and says what the history gives.
use Rattle.std.proofs.Common.{◌≡◌, ℕ, ◌+◌, ◌*◌, ◌/◌, ◌<◌, ◌≤◌, Bool, true, List, [], Option, Some, None, refl, sym, ◌∙◌, ap, subst, arith, eq-eqb}
use Rattle.std.specs.Prelude.{Contains, if◌then◌else◌, nat_le, nat_lt, option_and_then, option_map, slice_get}
use Rattle.std.specs.Option.{option_map_or}
use Rattle.std.proofs.lemmas.Bool.{and_from, le-leb, lt-ltb}
use Rattle.std.proofs.lemmas.Nat.{div-mul-add, row_fits}
use Rattle.fdp_base.specs.declared.config.DriveConfig.{DriveConfig}
use Rattle.fdp_base.specs.declared.entry.Entry.{Entry}
use Rattle.fdp_base.specs.declared.entry.Spot.{Spot}
use Rattle.fdp_base.specs.declared.spare.DataSpare.{DataSpare}
use Rattle.fdp_base.specs.Placement.{geometry_of}
use Rattle.fdp_flash.specs.declared.cell.Cell.{Cell}
use Rattle.fdp_flash.specs.declared.cell.Cell.TheVariants.{Whole}
use Rattle.fdp_flash.specs.Layout.{page_number}
use Rattle.fdp_history.specs.Listed.{IsListed}
use Rattle.fdp_history.specs.Orderly.{IsOrderly}
use Rattle.fdp_history.specs.Standing.{IsStanding}
use Rattle.fdp_image.specs.Areas.{data_pages}
use Rattle.fdp_image.specs.Outline.{state_with}
use Rattle.fdp_image.specs.Reading.{Reading, group_of_page, spot_of}
use Rattle.fdp_image.specs.StandsFor.{Says}
use Rattle.fdp_image.specs.Valid.{IsGoodBlock, IsValid, block_by, block_from, block_read, is_named, state_in}
use Rattle.fdp_pointers.specs.Facts.{IsTableOf, Page}
use Rattle.fdp_pointers.specs.Pointers.{Behind, Pointer.of_block}
use Rattle.fdp_pointers.proofs.Tables.{block-at}
use Rattle.fdp_readings.specs.Drawn.{drawn}
use Rattle.fdp_readings.specs.Holding.{HoldsBlock, HoldsBlocks}
use Rattle.fdp_records.specs.Spares.{said_by_data}
use Rattle.fdp_rules.specs.History.{Found, point_of}
use Rattle.fdp_rules.specs.PlainState.{Block, Namespace, PageName.found, PlainState, content_of}
use Rattle.fdp_rules.specs.Point.{Point}
use Rattle.fdp_rules.specs.Room.{size_of}
use Rattle.fdp_rules.specs.Sites.{group_of}
use Rattle.fdp_rules.specs.Step.{IsPage}

-- ---- the page of a block

-- where the table leads
pub drawn-led : (c : DriveConfig) (p : Point) (pages : ℕ → ℕ) (at : Behind Page) → IsTableOf c p pages at → (nsid lba : ℕ) → (drawn c p).pages nsid lba ≡ option_map (λ (y : Page). page_number (geometry_of c) y.spot) (at (of_block nsid lba))
drawn-led c p pages at h nsid lba = ap (option_map (page_number (geometry_of c))) (block-at c p pages at h nsid lba) ∙ both (at (of_block nsid lba)) where
  both : (o : Option Page) → option_map (page_number (geometry_of c)) (option_map (λ (y : Page). y.spot) o) ≡ option_map (λ (y : Page). page_number (geometry_of c) y.spot) o
  both None = refl
  both (Some y) = refl

-- a page that is drawn is that of a block that is there
pub record IsDrawnBlock (c : DriveConfig) (p : Point) (nsid lba page : ℕ) : Type 0 where
  pub block : Block
  pub there : p.state.blocks nsid lba ≡ Some block
  pub spot : Spot
  pub site : p.trail.site block.page ≡ Some spot
  pub number : page_number (geometry_of c) spot ≡ page

pub drawn-block : (c : DriveConfig) (p : Point) (nsid lba page : ℕ) → (drawn c p).pages nsid lba ≡ Some page → IsDrawnBlock c p nsid lba page
drawn-block c p nsid lba page e = cases (p.state.blocks nsid lba) refl e where
  sited : (b : Block) → p.state.blocks nsid lba ≡ Some b → (o : Option Spot) → p.trail.site b.page ≡ o → option_map (page_number (geometry_of c)) o ≡ Some page → IsDrawnBlock c p nsid lba page
  sited b there None is e = absurd cc
  sited b there (Some spot) is e = let same : page_number (geometry_of c) spot ≡ page = cc in record { block = b; there = there; spot = spot; site = is; number = same }

  cases : (o : Option Block) → p.state.blocks nsid lba ≡ o → option_map (page_number (geometry_of c)) (option_and_then (λ (b : Block). p.trail.site b.page) o) ≡ Some page → IsDrawnBlock c p nsid lba page
  cases None there e = absurd cc
  cases (Some b) there e = sited b there (p.trail.site b.page) refl e

-- a block that is there is drawn where it stands
pub block-drawn : (c : DriveConfig) (p : Point) (nsid lba : ℕ) (b : Block) (spot : Spot) → p.state.blocks nsid lba ≡ Some b → p.trail.site b.page ≡ Some spot → (drawn c p).pages nsid lba ≡ Some (page_number (geometry_of c) spot)
block-drawn c p nsid lba b spot there site =
    ap (λ (o : Option Block). option_map (page_number (geometry_of c)) (option_and_then (λ (x : Block). p.trail.site x.page) o)) there
    ∙ ap (option_map (page_number (geometry_of c))) site

-- ---- what its cell holds

pub unit-of : (c : DriveConfig) (spot : Spot) → spot.page < c.unit_pages → page_number (geometry_of c) spot / c.unit_pages ≡ spot.unit
unit-of c spot low = div-mul-add spot.unit c.unit_pages spot.page low

-- a block as its page gives it
abbrev read_as : DriveConfig → Block → Spot → Block
read_as c b spot = record { bytes = b.bytes; rg = b.rg; ruh = b.ruh; page = found (spot_of c (page_number (geometry_of c) spot)) }

module _ (c : DriveConfig) (p : Point) (cells : List Cell) (nsid lba : ℕ) (b : Block) (spot : Spot) (standing : group_of c spot.unit ≡ b.rg) (low : spot.page < c.unit_pages) (h : HoldsBlock c cells p.state.generation nsid lba b spot) where
  names : is_named c (drawn c p) nsid lba (page_number (geometry_of c) spot) h.said ≡ true
  names =
      let group : h.said.rg ≡ group_of_page c (page_number (geometry_of c) spot) = h.rg_is ∙ sym standing ∙ ap (group_of c) (sym (unit-of c spot low)) in
      rw (eq-eqb h.said.nsid nsid h.nsid_is, eq-eqb h.said.lba lba h.lba_is, eq-eqb h.said.rg (group_of_page c (page_number (geometry_of c) spot)) group, eq-eqb h.said.generation p.state.generation h.generation_is) refl

  pub read-block : (drawn c p).pages nsid lba ≡ Some (page_number (geometry_of c) spot) → block_read c cells (drawn c p) nsid lba ≡ Some (read_as c b spot)
  read-block drawn_is =
      let n : ℕ = page_number (geometry_of c) spot in
      let r : Reading = drawn c p in
      ap (option_and_then (λ (page : ℕ). option_and_then (block_from c r nsid lba page) (slice_get cells page))) drawn_is
      ∙ ap (option_and_then (block_from c r nsid lba n)) h.whole
      ∙ ap (option_and_then (block_by c r nsid lba n b.bytes)) h.says
      ∙ ap (λ (t : Bool). if t then Some (record { bytes = b.bytes; rg = h.said.rg; ruh = h.said.ruh; page = found (spot_of c n) }) else None) names
      ∙ (λ i. Some (record { bytes = b.bytes; rg = h.rg_is i; ruh = h.ruh_is i; page = found (spot_of c n) }))

-- ---- it is valid

pub space-there : (s : PlainState) (nsid lba : ℕ) → lba < size_of s nsid → (n : Namespace) × (s.namespaces nsid ≡ Some n)
space-there s nsid lba low = cases (s.namespaces nsid) refl low where
  cases : (o : Option Namespace) → s.namespaces nsid ≡ o → lba < option_map_or (λ (x : Namespace). x.size) o 0 → (n : Namespace) × (s.namespaces nsid ≡ Some n)
  cases None e low = absurd (omega (arith, low))
  cases (Some n) e low = (n, e)

pub data-page : (c : DriveConfig) (spot : Spot) → IsPage c spot → page_number (geometry_of c) spot < data_pages (geometry_of c)
data-page c spot is = let fits = row_fits spot.unit c.unit_pages (c.groups * c.units) c.unit_pages is.0 (omega arith) in omega (arith, fits, is.1)

-- two data pages that are one cell name one block
one-name : (a b : DataSpare) → Some a ≡ Some b → (a.nsid ≡ b.nsid) × (a.lba ≡ b.lba)
one-name a b e = let same : a ≡ b = cc in (ap (λ (x : DataSpare). x.nsid) same, ap (λ (x : DataSpare). x.lba) same)

one-spare : (s t bytes other : List ℕ) → Some (Whole s bytes) ≡ Some (Whole t other) → s ≡ t
one-spare s t bytes other e = cc

module _ (c : DriveConfig) (p : Point) (cells : List Cell) (orderly : IsOrderly c p) (standing : IsStanding c p) (holds : HoldsBlocks c p cells) where
  good-block : IsListed c p.state → (nsid lba page : ℕ) → (drawn c p).pages nsid lba ≡ Some page → IsGoodBlock c cells (drawn c p) nsid lba page
  good-block listed nsid lba page e =
      let at = drawn-block c p nsid lba page e in
      let stands = standing.blocks nsid lba at.block at.there in
      let held = holds nsid lba at.block stands.spot at.there stands.site in
      let one : Some at.spot ≡ Some stands.spot = sym at.site ∙ stands.site in
      let same : at.spot ≡ stands.spot = cc in
      let number : page_number (geometry_of c) stands.spot ≡ page = ap (page_number (geometry_of c)) (sym same) ∙ at.number in
      let space = space-there p.state nsid lba (orderly.state.blocks nsid lba at.block at.there).address in
      record {
        data_page = subst (λ (n : ℕ). n < data_pages (geometry_of c)) number (data-page c stands.spot stands.page);
        namespace = space.0;
        there = space.1;
        within = subst (λ (o : Option Namespace). lba < option_map_or (λ (x : Namespace). x.size) o 0) space.1 (orderly.state.blocks nsid lba at.block at.there).address;
        block = read_as c at.block stands.spot;
        held = read-block c p cells nsid lba at.block stands.spot stands.group stands.page.1 held (e ∙ ap (λ (n : ℕ). Some n) (sym number));
        listed = subst (λ (o : Option Namespace). Contains (option_map_or (λ (x : Namespace). x.handles) o []) at.block.ruh) space.1 (listed.blocks nsid lba at.block at.there);
      }

  apart : (nsid lba n l page : ℕ) → (drawn c p).pages nsid lba ≡ Some page → (drawn c p).pages n l ≡ Some page → (nsid ≡ n) × (lba ≡ l)
  apart nsid lba n l page e f =
      let a = drawn-block c p nsid lba page e in
      let b = drawn-block c p n l page f in
      let x = holds nsid lba a.block a.spot a.there a.site in
      let y = holds n l b.block b.spot b.there b.site in
      let cell : Some (Whole x.spare a.block.bytes) ≡ Some (Whole y.spare b.block.bytes) = sym x.whole ∙ ap (slice_get cells) (a.number ∙ sym b.number) ∙ y.whole in
      let spare : x.spare ≡ y.spare = one-spare x.spare y.spare a.block.bytes b.block.bytes cell in
      let name = one-name x.said y.said (sym x.says ∙ ap said_by_data spare ∙ y.says) in
      (sym x.nsid_is ∙ name.0 ∙ y.nsid_is, sym x.lba_is ∙ name.1 ∙ y.lba_is)

  pub drawn-valid : IsListed c p.state → IsValid c cells (drawn c p)
  unfolding state_with
  drawn-valid listed = record {
    index = orderly.state.index;
    identifiers = λ nsid x e.
        let is = (orderly.state.namespaces nsid x e).identifier in
        and_from (nat_le 1 nsid) (nat_lt nsid (1 + 16)) (le-leb 1 nsid is.0) (lt-ltb nsid (1 + 16) (omega (arith, is.1)));
    namespaces = λ nsid x e.
        let is = orderly.state.namespaces nsid x e in
        record {
          some_blocks = omega (arith, is.size);
          list = record { number = is.number; known = is.handles; distinct = listed.handles nsid x e };
          born = subst (λ (n : ℕ). x.birth ≤ n) (sym orderly.positions) is.birth;
        };
    room = listed.room;
    blocks = good-block listed;
    apart = apart;
  }

  -- ---- it says what the history gives

  content : (nsid lba : ℕ) → option_map content_of (block_read c cells (drawn c p) nsid lba) ≡ option_map content_of (p.state.blocks nsid lba)
  content nsid lba = cases (p.state.blocks nsid lba) refl where
    cases : (o : Option Block) → p.state.blocks nsid lba ≡ o → option_map content_of (block_read c cells (drawn c p) nsid lba) ≡ option_map content_of o
    cases None none =
        ap (λ (o : Option Block). option_map content_of (option_and_then (λ (page : ℕ). option_and_then (block_from c (drawn c p) nsid lba page) (slice_get cells page)) (option_map (page_number (geometry_of c)) (option_and_then (λ (x : Block). p.trail.site x.page) o)))) none
    cases (Some b) there =
        let stands = standing.blocks nsid lba b there in
        ap (option_map content_of) (read-block c p cells nsid lba b stands.spot stands.group stands.page.1 (holds nsid lba b stands.spot there stands.site) (block-drawn c p nsid lba b stands.spot there stands.site))

pub drawn-says : (c : DriveConfig) (f : Found) (es : List Entry) (cells : List Cell) → IsOrderly c (point_of c f es) → IsStanding c (point_of c f es) → HoldsBlocks c (point_of c f es) cells → Says c f cells es (drawn c (point_of c f es))
unfolding point_of state_in state_with
drawn-says c f es cells orderly standing holds =
    let p : Point = point_of c f es in
    record {
      shows = record {
        lasting_part = λ i. record {
          enabled = p.state.enabled;
          index = p.state.index;
          generation = p.state.generation;
          reports = p.state.reports;
          namespaces = p.state.namespaces;
          blocks = λ nsid lba. content c p cells orderly standing holds nsid lba i;
        };
        host_events = refl;
        controller_events = refl;
      };
      totals = refl;
    }
