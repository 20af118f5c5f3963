-- What the change of a move makes of what a point draws: that of the entry of the move.
use Rattle.std.proofs.Common.{◌≡◌, ℕ, ◌<◌, Bool, true, false, List, [], ◌∷◌, ◌++◌, Option, Some, None, refl, sym, ◌∙◌, ap, subst, eq-eqb, ne_eqb}
use Rattle.std.specs.Prelude.{◌==◌, All, filter, find, flat_map, if◌then◌else◌, map, not, option_and_then, option_map, zip}
use Rattle.std.specs.Option.{option_map_or}
use Rattle.std.proofs.lemmas.List.Elements.{All-append, All-cons, All-head, All-map, All-nil, All-tail, filter-append}
use Rattle.fdp_base.specs.declared.config.DriveConfig.{DriveConfig}
use Rattle.fdp_base.specs.declared.entry.BlockName.{BlockName}
use Rattle.fdp_base.specs.declared.entry.Copied.{Copied}
use Rattle.fdp_base.specs.declared.entry.Entry.TheVariants as entries
use Rattle.fdp_base.specs.declared.entry.Spot.{Spot}
use Rattle.fdp_base.specs.declared.event.Event.{Event}
use Rattle.fdp_base.specs.Numbers.{numbers_below}
use Rattle.fdp_base.specs.Placement.{geometry_of}
use Rattle.fdp_flash.specs.Layout.{page_number}
use Rattle.fdp_flash.proofs.Pages.{page_number-injective}
use Rattle.fdp_history.specs.Orderly.{IsOrderly}
use Rattle.fdp_history.specs.Standing.{IsStanding}
use Rattle.fdp_image.specs.Applied.{applied}
use Rattle.fdp_image.specs.Changed.{moved_to, page_numbers}
use Rattle.fdp_image.specs.ChangeEvents.{events_of_change, kept_of_change, moved_of_handle}
use Rattle.fdp_image.specs.Outline.{state_with}
use Rattle.fdp_image.specs.Reading.{blocks_on, has_page}
use Rattle.fdp_owners.proofs.Tables.{is_spot-same}
use Rattle.fdp_pointers.proofs.Copies.{same-spot}
use Rattle.fdp_readings.specs.Changes.{MoveBlocks, NamesCopies, IsPlacedBy}
use Rattle.fdp_readings.specs.Drawn.{drawn, page_of_block}
use Rattle.fdp_readings.proofs.Saving.{position-is}
use Rattle.fdp_records.specs.declared.change.Change.TheVariants as changes
use Rattle.fdp_records.specs.declared.change.UnitPages.{UnitPages}
use Rattle.fdp_records.specs.Records.{target_or_none}
use Rattle.fdp_rules.specs.Change.{after, changed_by}
use Rattle.fdp_rules.specs.Events.{events_of_entry, is_host_event, is_of_handle, kept_of_entry, latest, reallocated}
use Rattle.fdp_rules.specs.Next.{next, totals_with}
use Rattle.fdp_rules.specs.PlainState.{Block}
use Rattle.fdp_rules.specs.Point.{Copy, Point}
use Rattle.fdp_rules.specs.Room.{handles_in_force, namespace_ids, size_of}
use Rattle.fdp_rules.specs.Sites.{blocks_at, blocks_in, is_spot, moved_blocks, moved_by, pass_in, site_of, stands_at, traced_by}
use Rattle.fdp_locations.specs.fdp_trails.Followed.{copy_of}

-- ---- numbers of pages and pages

-- two pages of units are one where their numbers are
same-number : (c : DriveConfig) (a b : Spot) → a.page < c.unit_pages → b.page < c.unit_pages → (page_number (geometry_of c) a == page_number (geometry_of c) b) ≡ is_spot b a
same-number c a b low high = cases (is_spot b a) refl where
  cases : (t : Bool) → is_spot b a ≡ t → (page_number (geometry_of c) a == page_number (geometry_of c) b) ≡ t
  cases true e = eq-eqb (page_number (geometry_of c) a) (page_number (geometry_of c) b) (ap (page_number (geometry_of c)) (sym (same-spot b a e)))
  cases false e =
      ne_eqb (page_number (geometry_of c) a) (page_number (geometry_of c) b)
      (λ same.
      let one = page_number-injective (geometry_of c) a b low high same in
      let spot : b ≡ a = λ i. record { unit = sym one.0 i; page = sym one.1 i } in
      let never : true ≡ false = sym (is_spot-same a) ∙ ap (λ (x : Spot). is_spot x a) (sym spot) ∙ e in
      absurd cc)

-- where a block stands
pub record IsSited (c : DriveConfig) (p : Point) (nsid lba : ℕ) (spot : Spot) : Type 0 where
  pub block : Block
  pub there : p.state.blocks nsid lba ≡ Some block
  pub site : p.trail.site block.page ≡ Some spot
  pub inside : spot.page < c.unit_pages

pub sited : (c : DriveConfig) (p : Point) (nsid lba : ℕ) (spot : Spot) → IsStanding c p → site_of p nsid lba ≡ Some spot → IsSited c p nsid lba spot
sited c p nsid lba spot standing e = cases (p.state.blocks nsid lba) refl e where
  cases : (o : Option Block) → p.state.blocks nsid lba ≡ o → option_and_then (λ (b : Block). p.trail.site b.page) o ≡ Some spot → IsSited c p nsid lba spot
  cases None there e = absurd cc
  cases (Some b) there e =
      let stands = standing.blocks nsid lba b there in
      let one : Some spot ≡ Some stands.spot = sym e ∙ stands.site in
      let same : spot ≡ stands.spot = cc in
      record { block = b; there = there; site = e; inside = subst (λ (x : Spot). x.page < c.unit_pages) (sym same) stands.page.1 }

-- ---- the pages of the blocks

-- where the moves put a page
put-by : (c : DriveConfig) (copies : List Copied) (spot : Spot) → spot.page < c.unit_pages → All (λ (x : Copied). x.from.page < c.unit_pages) copies
    → moved_to (zip (map (λ (x : Copied). page_number (geometry_of c) x.from) copies) (map (λ (x : Copied). page_number (geometry_of c) x.to) copies)) (page_number (geometry_of c) spot) ≡ page_number (geometry_of c) (moved_by (map copy_of copies) spot)
put-by c [] spot low inside = refl
put-by c (x ∷ xs) spot low inside =
    let P : Copied → Type 0 = λ y. y.from.page < c.unit_pages in
    let number : Spot → ℕ = page_number (geometry_of c) in
    let rest : List (ℕ × ℕ) = zip (map (λ (y : Copied). number y.from) xs) (map (λ (y : Copied). number y.to) xs) in
    let flipped : (number x.from == number spot) ≡ is_spot x.from spot = flip (is_spot x.from spot) refl in
    ap (λ (b : Bool). option_map_or (λ (y : ℕ × ℕ). y.1) (if b then Some (number x.from, number x.to) else find (λ (y : ℕ × ℕ). y.0 == number spot) rest) (number spot)) flipped
    ∙ (elim (is_spot x.from spot) as (λ b. option_map_or (λ (y : ℕ × ℕ). y.1) (if b then Some (number x.from, number x.to) else find (λ (y : ℕ × ℕ). y.0 == number spot) rest) (number spot)
    ≡ number (option_map_or (λ (y : Copy). y.to) (if b then Some (copy_of x) else find (λ (y : Copy). is_spot y.from spot) (map copy_of xs)) spot)) [
      | true ↦ refl
      | false ↦ put-by c xs spot low (All-tail P x xs inside)
    ])
  where
    flip : (b : Bool) → is_spot x.from spot ≡ b → (page_number (geometry_of c) x.from == page_number (geometry_of c) spot) ≡ b
    flip true e = eq-eqb (page_number (geometry_of c) x.from) (page_number (geometry_of c) spot) (ap (page_number (geometry_of c)) (same-spot x.from spot e))
    flip false e =
        ne_eqb (page_number (geometry_of c) x.from) (page_number (geometry_of c) spot)
        (λ same.
        let one = page_number-injective (geometry_of c) x.from spot (All-head (λ (y : Copied). y.from.page < c.unit_pages) x xs inside) low same in
        let spot_is : x.from ≡ spot = λ i. record { unit = one.0 i; page = one.1 i } in
        let never : true ≡ false = sym (is_spot-same spot) ∙ ap (λ (y : Spot). is_spot y spot) (sym spot_is) ∙ e in
        absurd cc)

-- ---- lists of blocks

-- a test that all elements answer alike
filter-each : (test : BlockName → Bool) (t : Bool) (xs : List BlockName) → All (λ y. test y ≡ t) xs → filter test xs ≡ (if t then xs else [])
filter-each test true [] h = refl
filter-each test false [] h = refl
filter-each test true (x ∷ xs) h =
    ap (λ (b : Bool). if b then x ∷ filter test xs else filter test xs) (All-head (λ y. test y ≡ true) x xs h)
    ∙ ap (λ (ys : List BlockName). x ∷ ys) (filter-each test true xs (All-tail (λ y. test y ≡ true) x xs h))
filter-each test false (x ∷ xs) h =
    ap (λ (b : Bool). if b then x ∷ filter test xs else filter test xs) (All-head (λ y. test y ≡ false) x xs h)
    ∙ filter-each test false xs (All-tail (λ y. test y ≡ false) x xs h)

-- what holds of all that pass a test
passing : (test : ℕ → Bool) (R : ℕ → Type 0) → ((n : ℕ) → test n ≡ true → R n) → (xs : List ℕ) → All R (filter test xs)
passing test R each [] = All-nil R
passing test R each (x ∷ xs) =
    (elim (test x) as (λ b. test x ≡ b → All R (if b then x ∷ filter test xs else filter test xs)) [
      | true ↦ λ e. All-cons R x (filter test xs) (each x e) (passing test R each xs)
      | false ↦ λ e. passing test R each xs
    ]) refl

each-piece : (R : BlockName → Type 0) (f : ℕ → List BlockName) → ((n : ℕ) → All R (f n)) → (xs : List ℕ) → All R (flat_map f xs)
each-piece R f each [] = All-nil R
each-piece R f each (x ∷ xs) = All-append R (f x) (flat_map f xs) (each x) (each-piece R f each xs)

-- what holds of the blocks that stand at a page
each-at : (p : Point) (spot : Spot) (R : BlockName → Type 0) → ((nsid lba : ℕ) → stands_at (site_of p nsid lba) spot ≡ true → R (record { nsid = nsid; lba = lba })) → All R (blocks_at p spot)
each-at p spot R each =
    each-piece R (blocks_in p spot)
    (λ nsid. All-map R (λ (lba : ℕ). record { nsid = nsid; lba = lba }) (filter (λ lba. stands_at (site_of p nsid lba) spot) (numbers_below (size_of p.state nsid)))
    (passing (λ lba. stands_at (site_of p nsid lba) spot) (λ lba. R (record { nsid = nsid; lba = lba })) (each nsid) (numbers_below (size_of p.state nsid))))
    namespace_ids

stands-there : (o : Option Spot) (spot : Spot) → stands_at o spot ≡ true → o ≡ Some spot
stands-there None spot e = absurd cc
stands-there (Some z) spot e = ap (λ (x : Spot). Some x) (sym (same-spot spot z e))

module _ (c : DriveConfig) (p : Point) (rg : ℕ) (copies : List Copied) (ruh_of : Copied → ℕ) (victim first : UnitPages) (second : Option UnitPages) (handles : List ℕ) (orderly : IsOrderly c p) (standing : IsStanding c p) (move : MoveBlocks p rg copies) (named : NamesCopies c p rg copies ruh_of victim first second handles) where
  moves-are : zip (page_numbers c victim) (page_numbers c first ++ page_numbers c (target_or_none second)) ≡ zip (map (λ (x : Copied). page_number (geometry_of c) x.from) copies) (map (λ (x : Copied). page_number (geometry_of c) x.to) copies)
  moves-are = λ i. zip (named.old i) (named.new i)

  move-page : (nsid lba : ℕ) → option_map (moved_to (zip (page_numbers c victim) (page_numbers c first ++ page_numbers c (target_or_none second)))) (page_of_block c p nsid lba)
      ≡ option_map (page_number (geometry_of c)) (option_and_then (λ (b : Block). option_map (moved_by (pass_in p.trail rg)) (p.trail.site b.page)) (p.state.blocks nsid lba))
  move-page nsid lba =
      ap (λ (ms : List (ℕ × ℕ)). option_map (moved_to ms) (page_of_block c p nsid lba)) moves-are
      ∙ cases (site_of p nsid lba) refl
      ∙ sym (ap (option_map (page_number (geometry_of c))) (inner (p.state.blocks nsid lba)))
    where
      inner : (o : Option Block) → option_and_then (λ (b : Block). option_map (moved_by (pass_in p.trail rg)) (p.trail.site b.page)) o ≡ option_map (moved_by (pass_in p.trail rg)) (option_and_then (λ (b : Block). p.trail.site b.page) o)
      inner None = refl
      inner (Some b) = refl

      cases : (o : Option Spot) → site_of p nsid lba ≡ o
          → option_map (moved_to (zip (map (λ (x : Copied). page_number (geometry_of c) x.from) copies) (map (λ (x : Copied). page_number (geometry_of c) x.to) copies))) (option_map (page_number (geometry_of c)) o)
          ≡ option_map (page_number (geometry_of c)) (option_map (moved_by (pass_in p.trail rg)) o)
      cases None e = refl
      cases (Some spot) e =
          let at = sited c p nsid lba spot standing e in
          ap (λ (n : ℕ). Some n) (put-by c copies spot at.inside named.inside ∙ ap (page_number (geometry_of c)) (sym (move.moves nsid lba spot e)))

  -- ---- the events

  -- the blocks that a reading has on a page are those that stand there
  page-same : (spot : Spot) → spot.page < c.unit_pages → (nsid lba : ℕ) → has_page (drawn c p) (page_number (geometry_of c) spot) nsid lba ≡ stands_at (site_of p nsid lba) spot
  page-same spot low nsid lba = cases (site_of p nsid lba) refl where
    cases : (o : Option Spot) → site_of p nsid lba ≡ o → option_map_or (λ x. x == page_number (geometry_of c) spot) (option_map (page_number (geometry_of c)) o) false ≡ stands_at o spot
    cases None e = refl
    cases (Some z) e = same-number c z spot (sited c p nsid lba z standing e).inside low

  blocks-same : (spot : Spot) → spot.page < c.unit_pages → blocks_on (drawn c p) (page_number (geometry_of c) spot) ≡ blocks_at p spot
  unfolding blocks_on
  blocks-same spot low = λ i. flat_map (λ nsid. map (λ lba. record { nsid = nsid; lba = lba }) (filter (λ lba. page-same spot low nsid lba i) (numbers_below (size_of p.state nsid)))) namespace_ids

  -- the blocks at the old page of a copy are of its handle
  of-handle : (x : Copied) → IsPlacedBy p x.from (ruh_of x) → (ruh : ℕ) → filter (is_of_handle p.state ruh) (blocks_at p x.from) ≡ (if ruh_of x == ruh then blocks_at p x.from else [])
  of-handle x placed ruh =
      filter-each (is_of_handle p.state ruh) (ruh_of x == ruh) (blocks_at p x.from)
      (each-at p x.from (λ y. is_of_handle p.state ruh y ≡ (ruh_of x == ruh))
      (λ nsid lba e.
      let at = sited c p nsid lba x.from standing (stands-there (site_of p nsid lba) x.from e) in
      ap (λ (o : Option Block). option_map_or (λ (b : Block). b.ruh == ruh) o false) at.there ∙ ap (λ (k : ℕ). k == ruh) (placed nsid lba at.block at.there at.site)))

  handle-blocks : (ruh : ℕ) (xs : List Copied) → All (λ (x : Copied). x.from.page < c.unit_pages) xs → All (λ (x : Copied). IsPlacedBy p x.from (ruh_of x)) xs
      → flat_map (λ (x : ℕ × ℕ). blocks_on (drawn c p) x.0) (filter (λ (x : ℕ × ℕ). x.1 == ruh) (zip (map (λ (x : Copied). page_number (geometry_of c) x.from) xs) (map ruh_of xs)))
      ≡ filter (is_of_handle p.state ruh) (flat_map (λ (x : Copied). blocks_at p x.from) xs)
  handle-blocks ruh [] inside placed = refl
  handle-blocks ruh (x ∷ xs) inside placed =
      let P : Copied → Type 0 = λ y. y.from.page < c.unit_pages in
      let Q : Copied → Type 0 = λ y. IsPlacedBy p y.from (ruh_of y) in
      let number : Copied → ℕ = λ y. page_number (geometry_of c) y.from in
      let pairs : List (ℕ × ℕ) = filter (λ (y : ℕ × ℕ). y.1 == ruh) (zip (map number xs) (map ruh_of xs)) in
      let rest = handle-blocks ruh xs (All-tail P x xs inside) (All-tail Q x xs placed) in
      let own = of-handle x (All-head Q x xs placed) ruh in
      (elim (ruh_of x == ruh) as (λ b. flat_map (λ (y : ℕ × ℕ). blocks_on (drawn c p) y.0) (if b then (number x, ruh_of x) ∷ pairs else pairs) ≡ (if b then blocks_at p x.from else []) ++ filter (is_of_handle p.state ruh) (flat_map (λ (y : Copied). blocks_at p y.from) xs)) [
        | true ↦ λ i. blocks-same x.from (All-head P x xs inside) i ++ rest i
        | false ↦ rest
      ])
      ∙ ap (λ (ys : List BlockName). ys ++ filter (is_of_handle p.state ruh) (flat_map (λ (y : Copied). blocks_at p y.from) xs)) (sym own)
      ∙ sym (filter-append (is_of_handle p.state ruh) (blocks_at p x.from) (flat_map (λ (y : Copied). blocks_at p y.from) xs))

  -- of each handle the change takes along the blocks that the entry moves
  pub lists : (ruh : ℕ) → moved_of_handle c (drawn c p) victim handles ruh ≡ filter (is_of_handle p.state ruh) (moved_blocks p rg)
  lists ruh =
      (λ i. flat_map (λ (x : ℕ × ℕ). blocks_on (drawn c p) x.0) (filter (λ (x : ℕ × ℕ). x.1 == ruh) (zip (named.old i) (named.handles_are i))))
      ∙ handle-blocks ruh copies named.inside named.placed
      ∙ ap (filter (is_of_handle p.state ruh)) (sym move.listed)

  -- ---- all of it

  move-drawn : applied c (drawn c p) (changes.Moved victim first second handles, totals_with p.totals (entries.Moved (record { rg = rg; blocks = moved_blocks p rg }))) ≡ drawn c (next c p (entries.Moved (record { rg = rg; blocks = moved_blocks p rg })))
  unfolding applied kept_of_change events_of_change state_with next after changed_by traced_by kept_of_entry events_of_entry
  move-drawn =
      let position = position-is c p orderly in
      λ i. record {
        totals = totals_with p.totals (entries.Moved (record { rg = rg; blocks = moved_blocks p rg }));
        enabled = p.state.enabled;
        index = p.state.index;
        generation = p.state.generation;
        reports = p.state.reports;
        namespaces = p.state.namespaces;
        pages = λ n l. move-page n l i;
        host_events = latest (p.host_events ++ filter is_host_event (filter (λ (x : Event). p.state.reports x.ruh x.kind) (flat_map (λ ruh. reallocated (record p.state { position = position i }) (named.group i) ruh (lists ruh i)) (numbers_below (handles_in_force c p.state)))));
        controller_events = latest (p.controller_events ++ filter (λ e. not (is_host_event e)) (filter (λ (x : Event). p.state.reports x.ruh x.kind) (flat_map (λ ruh. reallocated (record p.state { position = position i }) (named.group i) ruh (lists ruh i)) (numbers_below (handles_in_force c p.state)))));
      }

pub drawn-moved : (c : DriveConfig) (p : Point) (rg : ℕ) (copies : List Copied) (ruh_of : Copied → ℕ) (victim first : UnitPages) (second : Option UnitPages) (handles : List ℕ) → IsOrderly c p → IsStanding c p → MoveBlocks p rg copies → NamesCopies c p rg copies ruh_of victim first second handles
    → applied c (drawn c p) (changes.Moved victim first second handles, totals_with p.totals (entries.Moved (record { rg = rg; blocks = moved_blocks p rg }))) ≡ drawn c (next c p (entries.Moved (record { rg = rg; blocks = moved_blocks p rg })))
drawn-moved c p rg copies ruh_of victim first second handles orderly standing move named = move-drawn c p rg copies ruh_of victim first second handles orderly standing move named
