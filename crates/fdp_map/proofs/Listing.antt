-- The lists of page numbers as rows of places.
use Rattle.std.proofs.Common.{◌≡◌, ℕ, zero, suc, ◌+◌, ◌-◌, ◌*◌, ◌/◌, ◌%◌, ◌<◌, ◌≤◌, true, false, List, [], ◌∷◌, length, map, replicate, set, get_or, slice_get, Option, Some, None, refl, ap, sym, ◌∙◌, arith, ⊎_elim}
use Rattle.std.specs.Prelude.{IfSome, if◌then◌else◌, option_map}
use Rattle.std.specs.Option.{option_and_then, option_flatten, option_map_or}
use Rattle.std.proofs.Math.ListN.{get_or-map}
use Rattle.std.proofs.Math.Nat.{div-lt_iff_lt-mul, mod-lt, mul-le-mul_right}
use Rattle.std.proofs.lemmas.Bool.{cases_lt}
use Rattle.std.proofs.lemmas.Bool.Decides.{nat_tests}
use Rattle.std.proofs.lemmas.List.{get_or_past, length-map, map-set}
use Rattle.std.proofs.lemmas.Nat.{div-add-mod', div-mul-add, mod-mul-add}
use Rattle.std.proofs.lemmas.Option.{slice_get-get_or, slice_get-map}
use Rattle.fdp_base.specs.declared.config.Geometry.{Geometry}
use Rattle.fdp_base.specs.declared.entry.Spot.{Spot}
use Rattle.fdp_base.specs.Geometry.{data_units}
use Rattle.fdp_base.specs.Numbers.{is_among}
use Rattle.fdp_map.specs.declared.mapped.Mapped.{Mapped}
use Rattle.fdp_map.specs.MapTable.{IsCounted, IsCut, IsPageOf, IsPlaced, MapTable, block_in, mapped_at, mapped_on, row, size_in}
use Rattle.fdp_map.specs.PageLists.{data_pages, number_of, page_at, page_of, placed_on, places_of, size_at, table_of}
use Rattle.fdp_map.proofs.Tables.{put_in, with_row}

-- the row of an identifier is its list
pub row_listed : (g : Geometry) (lists : List (List (Option ℕ))) (place : ℕ) → row (table_of g lists) (suc place) ≡ places_of g (get_or lists place [])
row_listed g lists place = get_or-map (places_of g) lists place []

-- a block of a list
pub block_listed : (g : Geometry) (list : List (Option ℕ)) (lba : ℕ) → block_in (places_of g list) lba ≡ option_map (placed_on g) (option_flatten (slice_get list lba))
block_listed g list lba = ap option_flatten (slice_get-map (option_map (placed_on g)) list lba) ∙ flat (slice_get list lba) where
  flat : (o : Option (Option ℕ)) → option_flatten (option_map (option_map (placed_on g)) o) ≡ option_map (placed_on g) (option_flatten o)
  flat None = refl
  flat (Some x) = refl

-- another list is another row
pub table_set : (g : Geometry) (lists : List (List (Option ℕ))) (place : ℕ) (list : List (Option ℕ)) → table_of g (set lists place list) ≡ with_row (table_of g lists) (suc place) (places_of g list)
table_set g lists place list = ap (λ (rows : List (List (Option Mapped))). record { geometry = g; rows = [] ∷ rows }) (map-set (places_of g) lists place list)

-- the page with the number of a page
pub number_back : (g : Geometry) (page : ℕ) → page_of g (placed_on g page) ≡ page
number_back g page = div-add-mod' page g.unit_pages

pub list_back : (g : Geometry) (list : List (Option ℕ)) → map (option_map (page_of g)) (places_of g list) ≡ list
list_back g [] = refl
list_back g (None ∷ xs) = ap (λ ys. None ∷ ys) (list_back g xs)
list_back g (Some x ∷ xs) = ap (λ y. Some y ∷ map (option_map (page_of g)) (places_of g xs)) (number_back g x) ∙ ap (λ ys. Some x ∷ ys) (list_back g xs)

pub lists_back : (g : Geometry) (lists : List (List (Option ℕ))) → map (map (option_map (page_of g))) (map (places_of g) lists) ≡ lists
lists_back g [] = refl
lists_back g (x ∷ xs) = ap (λ y. y ∷ map (map (option_map (page_of g))) (map (places_of g) xs)) (list_back g x) ∙ ap (λ ys. x ∷ ys) (lists_back g xs)

-- a page of the flash lies in one of its data units
pub page_placed : (g : Geometry) → IsCut g → (page : ℕ) → page < data_pages g → IsPlaced g (placed_on g page)
page_placed g cut page within =
    let some : 0 < g.unit_pages = omega (arith, cut.valid.unit_pages.0) in
    record {
      page = record {
        unit = (div-lt_iff_lt-mul {k = g.unit_pages} {x = page} {y = data_units g} some).1 within;
        page = mod-lt page some;
      };
      group = refl;
    }

pub page_within : (g : Geometry) → IsCut g → (page : ℕ) → IsPlaced g (placed_on g page) → page < data_pages g
page_within g cut page h =
    let some : 0 < g.unit_pages = omega (arith, cut.valid.unit_pages.0) in
    (div-lt_iff_lt-mul {k = g.unit_pages} {x = page} {y = data_units g} some).0 h.page.unit

pub pages_placed : (g : Geometry) → IsCut g → (o : Option ℕ) → IfSome o (λ page. page < data_pages g) → IfSome (option_map (placed_on g) o) (IsPlaced g)
pages_placed g cut None h = tt
pages_placed g cut (Some page) h = page_placed g cut page h

pub pages_within : (g : Geometry) → IsCut g → (o : Option ℕ) → IfSome (option_map (placed_on g) o) (IsPlaced g) → IfSome o (λ page. page < data_pages g)
pages_within g cut None h = tt
pages_within g cut (Some page) h = page_within g cut page h

-- the number of a page leads back to the page
pub spot_back : (g : Geometry) (spot : Spot) → spot.page < g.unit_pages → placed_on g (number_of g spot) ≡ mapped_on g spot
spot_back g spot within =
    let some : 0 < g.unit_pages = omega (arith, within) in
    let unit : number_of g spot / g.unit_pages ≡ spot.unit = div-mul-add spot.unit g.unit_pages spot.page within in
    let page : number_of g spot % g.unit_pages ≡ spot.page = mod-mul-add spot.unit g.unit_pages spot.page within in
    ap (λ (u : ℕ). mapped_on g (record { unit = u; page = number_of g spot % g.unit_pages })) unit
    ∙ ap (λ (p : ℕ). mapped_on g (record { unit = spot.unit; page = p })) page

pub number_within : (g : Geometry) (spot : Spot) → IsPageOf g spot → number_of g spot < data_pages g
number_within g spot h =
    let next : (spot.unit + 1) * g.unit_pages ≤ data_units g * g.unit_pages = mul-le-mul_right g.unit_pages (omega (arith, h.unit)) in
    let product : (spot.unit + 1) * g.unit_pages ≡ spot.unit * g.unit_pages + g.unit_pages = omega arith in
    omega (arith, next, product, h.page)

-- the list of an identifier
abbrev pub list_of : List (List (Option ℕ)) → ℕ → List (Option ℕ)
list_of lists nsid = get_or lists (nsid - 1) []

pub row_is : (g : Geometry) (lists : List (List (Option ℕ))) (nsid : ℕ) → 1 ≤ nsid → row (table_of g lists) nsid ≡ places_of g (list_of lists nsid)
row_is g lists zero low = absurd (omega (arith, low))
row_is g lists (suc place) low =
    let back : place ≡ suc place - 1 = omega arith in
    row_listed g lists place ∙ ap (λ (k : ℕ). places_of g (get_or lists k [])) back

pub table_put : (g : Geometry) (lists : List (List (Option ℕ))) (nsid : ℕ) (list : List (Option ℕ)) → 1 ≤ nsid → table_of g (set lists (nsid - 1) list) ≡ with_row (table_of g lists) nsid (places_of g list)
table_put g lists zero list low = absurd (omega (arith, low))
table_put g lists (suc place) list low =
    let back : suc place - 1 ≡ place = omega arith in
    ap (λ (k : ℕ). table_of g (set lists k list)) back ∙ table_set g lists place list

pub mapped_is : (g : Geometry) (lists : List (List (Option ℕ))) (nsid lba : ℕ) → 1 ≤ nsid → mapped_at (table_of g lists) nsid lba ≡ option_map (placed_on g) (option_flatten (slice_get (list_of lists nsid) lba))
mapped_is g lists nsid lba low = ap (λ (places : List (Option Mapped)). block_in places lba) (row_is g lists nsid low) ∙ block_listed g (list_of lists nsid) lba

pub size_is : (g : Geometry) (lists : List (List (Option ℕ))) (nsid : ℕ) → 1 ≤ nsid → size_in (table_of g lists) nsid ≡ length (list_of lists nsid)
size_is g lists nsid low = ap length (row_is g lists nsid low) ∙ length-map (list_of lists nsid) (option_map (placed_on g))

same_flat : (o : Option (Option ℕ)) → option_and_then (λ (page : Option ℕ). page) o ≡ option_flatten o
same_flat None = refl
same_flat (Some x) = refl

-- what stands in a list by identifier, whether there is one or not
pub listed_cases : (lists : List (List (Option ℕ))) → length lists ≡ 16 → (X : Type 0) (f : List (Option ℕ) → X) (d : X) → f [] ≡ d → (nsid : ℕ) → 1 ≤ nsid → (if is_among 1 16 nsid then option_map_or f (slice_get lists (nsid - 1)) d else d) ≡ f (list_of lists nsid)
listed_cases lists rows X f d empty nsid low =
    ⊎_elim
    (λ (within : nsid < 17).
    let there : nsid - 1 < length lists = omega (arith, low, within, rows) in
    let test : is_among 1 16 nsid ≡ true = grind (arith, nat_tests) in
    ap (λ b. if b then option_map_or f (slice_get lists (nsid - 1)) d else d) test
    ∙ ap (λ (o : Option (List (Option ℕ))). option_map_or f o d) (slice_get-get_or lists (nsid - 1) [] there))
    (λ (past : 17 ≤ nsid).
    let none : length lists ≤ nsid - 1 = omega (arith, past, rows) in
    let test : is_among 1 16 nsid ≡ false = grind (arith, nat_tests) in
    ap (λ b. if b then option_map_or f (slice_get lists (nsid - 1)) d else d) test
    ∙ sym (ap f (get_or_past lists (nsid - 1) [] none) ∙ empty))
    (cases_lt nsid 17)

pub size_listed : (lists : List (List (Option ℕ))) → length lists ≡ 16 → (nsid : ℕ) → 1 ≤ nsid → size_at lists nsid ≡ length (list_of lists nsid)
size_listed lists rows nsid low = listed_cases lists rows ℕ length 0 refl nsid low

pub page_listed : (lists : List (List (Option ℕ))) → length lists ≡ 16 → (nsid lba : ℕ) → 1 ≤ nsid → page_at lists nsid lba ≡ option_flatten (slice_get (list_of lists nsid) lba)
page_listed lists rows nsid lba low =
    let f : List (Option ℕ) → Option ℕ = λ list. option_flatten (slice_get list lba) in
    let each : (o : Option (List (Option ℕ))) → option_and_then (λ (list : List (Option ℕ)). option_and_then (λ (page : Option ℕ). page) (slice_get list lba)) o ≡ option_map_or f o None = flat lba in
    ap (λ (x : Option ℕ). if is_among 1 16 nsid then x else None) (each (slice_get lists (nsid - 1)))
    ∙ listed_cases lists rows (Option ℕ) f None refl nsid low
  where
    flat : (lba : ℕ) (o : Option (List (Option ℕ))) → option_and_then (λ (list : List (Option ℕ)). option_and_then (λ (page : Option ℕ). page) (slice_get list lba)) o ≡ option_map_or (λ (list : List (Option ℕ)). option_flatten (slice_get list lba)) o None
    flat lba None = refl
    flat lba (Some list) = same_flat (slice_get list lba)

-- the lists tell what the table tells
pub sizes_are : (g : Geometry) (lists : List (List (Option ℕ))) → length lists ≡ 16 → (nsid : ℕ) → size_in (table_of g lists) nsid ≡ size_at lists nsid
sizes_are g lists rows zero = refl
sizes_are g lists rows (suc place) = size_is g lists (suc place) (omega arith) ∙ sym (size_listed lists rows (suc place) (omega arith))

pub blocks_are : (g : Geometry) (lists : List (List (Option ℕ))) → length lists ≡ 16 → (nsid lba : ℕ) → mapped_at (table_of g lists) nsid lba ≡ option_map (placed_on g) (page_at lists nsid lba)
blocks_are g lists rows zero lba = refl
blocks_are g lists rows (suc place) lba = mapped_is g lists (suc place) lba (omega arith) ∙ sym (ap (option_map (placed_on g)) (page_listed lists rows (suc place) lba (omega arith)))

page_back : (g : Geometry) (o : Option ℕ) → option_map (page_of g) (option_map (placed_on g) o) ≡ o
page_back g None = refl
page_back g (Some page) = ap Some (number_back g page)

pub pages_are : (g : Geometry) (lists : List (List (Option ℕ))) → length lists ≡ 16 → (nsid lba : ℕ) → page_at lists nsid lba ≡ option_map (page_of g) (mapped_at (table_of g lists) nsid lba)
pages_are g lists rows nsid lba = sym (ap (option_map (page_of g)) (blocks_are g lists rows nsid lba) ∙ page_back g (page_at lists nsid lba))

-- so many places without a block
pub vacant_places : (g : Geometry) (size : ℕ) → places_of g (replicate size None) ≡ replicate size None
vacant_places g zero = refl
vacant_places g (suc size) = ap (λ ys. None ∷ ys) (vacant_places g size)

pub list_size : (g : Geometry) (lists : List (List (Option ℕ))) (place : ℕ) → size_in (table_of g lists) (suc place) ≡ length (get_or lists place [])
list_size g lists place = ap length (row_listed g lists place) ∙ length-map (get_or lists place []) (option_map (placed_on g))

-- another page of a block is another block of the table
pub page_put : (g : Geometry) (lists : List (List (Option ℕ))) (nsid lba : ℕ) (page : Option ℕ) → 1 ≤ nsid → table_of g (set lists (nsid - 1) (set (list_of lists nsid) lba page)) ≡ put_in (table_of g lists) nsid lba (option_map (placed_on g) page)
page_put g lists nsid lba page low =
    let m : MapTable = table_of g lists in
    table_put g lists nsid (set (list_of lists nsid) lba page) low
    ∙ ap (with_row m nsid) (map-set (option_map (placed_on g)) (list_of lists nsid) lba page)
    ∙ ap (λ (r : List (Option Mapped)). with_row m nsid (set r lba (option_map (placed_on g) page))) (sym (row_is g lists nsid low))

pub lists_counted : (g : Geometry) (lists : List (List (Option ℕ))) (counts : List ℕ) → IsCounted (table_of g lists) counts → length lists ≡ 16
lists_counted g lists counts h =
    let rows : length (map (places_of g) lists) ≡ length lists = length-map lists (places_of g) in
    omega (arith, h.rows, rows)
