-- What a checkpoint has room for stays so with each change that fits.
use Rattle.std.proofs.Common.{◌≡◌, ℕ, ◌+◌, ◌-◌, ◌*◌, ◌^◌, ◌<◌, ◌≤◌, ◌++◌, ◌⊎◌, Bool, true, false, List, [], ◌∷◌, length, zero, suc, Option, None, Some, refl, ap, ◌∙◌, arith, inl, inr}
use Rattle.std.specs.Prelude.{◌==◌, ◌&&◌, if◌then◌else◌, nat_lt, slice_get, find, zip, option_map}
use Rattle.std.specs.List.{list_all}
use Rattle.std.specs.Option.{option_map_or}
use Rattle.std.proofs.lemmas.Bool.{and_parts, lt-ltb, ltb-true}
use Rattle.std.proofs.lemmas.List.Folds.{list_all-append}
use Rattle.std.proofs.Math.Nat.{mul-le-mul_right}
use Rattle.fdp_base.specs.declared.config.DriveConfig.{DriveConfig}
use Rattle.fdp_base.specs.declared.entry.Totals.{Totals}
use Rattle.fdp_base.specs.Config.{IsInRange}
use Rattle.fdp_base.specs.Geometry.{data_units}
use Rattle.fdp_base.specs.Numbers.{is_among}
use Rattle.fdp_base.specs.Placement.{geometry_of}
use Rattle.fdp_rules.specs.Effect.{is_in_ranges}
use Rattle.fdp_records.specs.declared.change.Change.{Change}
use Rattle.fdp_records.specs.declared.change.Change.TheVariants as changes
use Rattle.fdp_records.specs.declared.change.UnitPages.{UnitPages}
use Rattle.fdp_records.specs.Records.{target_or_none}
use Rattle.fdp_image.specs.Applied.{applied}
use Rattle.fdp_image.specs.Areas.{data_pages}
use Rattle.fdp_image.specs.Changed.{moved_to, moves_of, page_numbers, pages_after}
use Rattle.fdp_image.specs.Reading.{Reading}
use Rattle.fdp_image.specs.Fits.{are_data_pages, are_of_data_unit, are_unit_pages, fits, names_what_is}
use Rattle.fdp_state.specs.Good.{IsSayable}
use Rattle.fdp_state.proofs.Moving.{no_pages}
use Rattle.fdp_outline.proofs.Naming.{left, right, write_pages}

-- ---- numbers of pages

-- an element of a list whose elements are below a bound
below-at : (bound : ℕ) (xs : List ℕ) (k x : ℕ) → list_all (λ n. nat_lt n bound) xs ≡ true → slice_get xs k ≡ Some x → x < bound
below-at bound [] k x all at = cc
below-at bound (y ∷ ys) zero x all at = let same : y ≡ x = cc in let here = ltb-true y bound (left (nat_lt y bound) (list_all (λ n. nat_lt n bound) ys) all) in omega (arith, same, here)
below-at bound (y ∷ ys) (suc k) x all at = below-at bound ys k x (right (nat_lt y bound) (list_all (λ n. nat_lt n bound) ys) all) at

-- a bound that is higher
higher : (low high : ℕ) (xs : List ℕ) → low ≤ high → list_all (λ n. nat_lt n low) xs ≡ true → list_all (λ n. nat_lt n high) xs ≡ true
higher low high [] le all = refl
higher low high (x ∷ xs) le all =
    let h = and_parts (nat_lt x low) (list_all (λ n. nat_lt n low) xs) all in
    let here = ltb-true x low h.0 in
    let good : nat_lt x high ≡ true = lt-ltb x high (omega (arith, here, le)) in
    ap (λ (b : Bool). b && list_all (λ n. nat_lt n high) xs) good ∙ higher low high xs le h.1

-- where a page is after moves to pages below a bound
moved-below : (bound : ℕ) (from to : List ℕ) (page : ℕ) → list_all (λ n. nat_lt n bound) to ≡ true → (moved_to (zip from to) page < bound) ⊎ (moved_to (zip from to) page ≡ page)
moved-below bound [] to page all = inr refl
moved-below bound (x ∷ xs) [] page all = inr refl
moved-below bound (x ∷ xs) (y ∷ ys) page all = of_test (moved-below bound xs ys page (right (nat_lt y bound) (list_all (λ n. nat_lt n bound) ys) all)) (x == page) where
  of_test : (moved_to (zip xs ys) page < bound) ⊎ (moved_to (zip xs ys) page ≡ page) → (b : Bool) → (option_map_or (λ (z : ℕ × ℕ). z.1) (if b then Some (x, y) else find (λ (z : ℕ × ℕ). z.0 == page) (zip xs ys)) page < bound)
      ⊎ (option_map_or (λ (z : ℕ × ℕ). z.1) (if b then Some (x, y) else find (λ (z : ℕ × ℕ). z.0 == page) (zip xs ys)) page ≡ page)
  of_test rest true = inl (ltb-true y bound (left (nat_lt y bound) (list_all (λ n. nat_lt n bound) ys) all))
  of_test rest false = rest

module _ (c : DriveConfig) where
  -- pages of a data unit are data pages
  unit-pages : (x : UnitPages) → are_of_data_unit c x ≡ true → list_all (λ n. nat_lt n (data_pages (geometry_of c))) (page_numbers c x) ≡ true
  unit-pages x e =
      let h = and_parts (nat_lt x.unit (data_units (geometry_of c))) (list_all (λ n. nat_lt n ((x.unit + 1) * c.unit_pages)) (page_numbers c x)) e in
      let unit = ltb-true x.unit (data_units (geometry_of c)) h.0 in
      let le : x.unit + 1 ≤ data_units (geometry_of c) = omega (arith, unit) in
      higher ((x.unit + 1) * c.unit_pages) (data_pages (geometry_of c)) (page_numbers c x) (mul-le-mul_right c.unit_pages le) h.1

  second-pages : (second : Option UnitPages) → option_map_or (are_of_data_unit c) second true ≡ true → list_all (λ n. nat_lt n (data_pages (geometry_of c))) (page_numbers c (target_or_none second)) ≡ true
  second-pages None e = ap (list_all (λ n. nat_lt n (data_pages (geometry_of c)))) (no_pages c)
  second-pages (Some x) e = unit-pages x e

  -- the pages that a move takes blocks to
  target-pages : (victim first : UnitPages) (second : Option UnitPages) → are_unit_pages c victim first second ≡ true
      → list_all (λ n. nat_lt n (data_pages (geometry_of c))) (page_numbers c first ++ page_numbers c (target_or_none second)) ≡ true
  target-pages victim first second e =
      let a = and_parts (are_of_data_unit c victim && are_of_data_unit c first) (option_map_or (are_of_data_unit c) second true) e in
      let b = and_parts (are_of_data_unit c victim) (are_of_data_unit c first) a.0 in
      let p : ℕ → Bool = λ n. nat_lt n (data_pages (geometry_of c)) in
      list_all-append p (page_numbers c first) (page_numbers c (target_or_none second))
      ∙ ap (λ (x : Bool). x && list_all p (page_numbers c (target_or_none second))) (unit-pages first b.1)
      ∙ second-pages second a.1

  -- there are few data pages
  few-pages : IsInRange c → data_pages (geometry_of c) ≤ 262144
  few-pages h = let all = h.pages in let few : data_units (geometry_of c) * c.unit_pages ≤ c.unit_pages * (data_units (geometry_of c) + 2 * c.area_units) = grind arith in omega (arith, all, few)

-- ---- any change that fits

module _ (c : DriveConfig) (r : Reading) (ranges : IsInRange c) (h : IsSayable r) where
  written-few : (nsid slba : ℕ) (pages : List ℕ) → are_data_pages c pages ≡ true → (n lba page : ℕ)
      → (if n == nsid && is_among slba (length pages) lba then slice_get pages (lba - slba) else r.pages n lba) ≡ Some page → page + 1 < 2 ^ 32
  written-few nsid slba pages e n lba page = of_test (n == nsid && is_among slba (length pages) lba) where
    of_test : (b : Bool) → (if b then slice_get pages (lba - slba) else r.pages n lba) ≡ Some page → page + 1 < 2 ^ 32
    of_test true at = let low = below-at (data_pages (geometry_of c)) pages (lba - slba) page e at in omega (arith, low, few-pages c ranges)
    of_test false at = h.pages n lba page at

  none-few : (b : Bool) (n lba page : ℕ) → (if b then None else r.pages n lba) ≡ Some page → page + 1 < 2 ^ 32
  none-few true n lba page at = cc
  none-few false n lba page at = h.pages n lba page at

  moved-few : (victim first : UnitPages) (second : Option UnitPages) → are_unit_pages c victim first second ≡ true → (n lba page : ℕ)
      → option_map (moved_to (moves_of c victim first second)) (r.pages n lba) ≡ Some page → page + 1 < 2 ^ 32
  moved-few victim first second e n lba page = of_page (r.pages n lba) refl where
    of_page : (o : Option ℕ) → r.pages n lba ≡ o → option_map (moved_to (moves_of c victim first second)) o ≡ Some page → page + 1 < 2 ^ 32
    of_page None is at = cc
    of_page (Some old) is at =
        let same : moved_to (moves_of c victim first second) old ≡ page = cc in
        let was = h.pages n lba old is in
        elim (moved-below (data_pages (geometry_of c)) (page_numbers c victim) (page_numbers c first ++ page_numbers c (target_or_none second)) old (target-pages c victim first second e)) [
          | inl low ↦ omega (arith, low, same, few-pages c ranges)
          | inr kept ↦ omega (arith, kept, same, was)
        ]

  pages-few : (change : Change) → names_what_is c r change ≡ true → (n lba page : ℕ) → pages_after c r change n lba ≡ Some page → page + 1 < 2 ^ 32
  unfolding names_what_is
  pages-few (changes.Write nsid slba pid invalid pages) e n lba page at = written-few nsid slba pages (write_pages c r nsid slba pid invalid pages e) n lba page at
  pages-few (changes.Clear nsid ranges) e n lba page at = none-few (n == nsid && is_in_ranges ranges lba) n lba page at
  pages-few (changes.Update nsid closed pids) e n lba page at = h.pages n lba page at
  pages-few (changes.Create nsid size given handles) e n lba page at = h.pages n lba page at
  pages-few (changes.Delete nsid) e n lba page at = none-few (n == nsid) n lba page at
  pages-few (changes.SetFdp enabled index generation) e n lba page at = h.pages n lba page at
  pages-few (changes.SetEvents ruh on mask) e n lba page at = h.pages n lba page at
  pages-few (changes.Moved victim first second handles) e n lba page at = moved-few victim first second e n lba page at
  pages-few (changes.Shut rg ruh) e n lba page at = h.pages n lba page at

  pub sayable-applied : (x : Change × Totals) → fits c r x ≡ true → IsSayable (applied c r x)
  unfolding applied
  sayable-applied x e = record { pages = pages-few x.0 ((and_parts _ (names_what_is c r x.0) e).1) }
