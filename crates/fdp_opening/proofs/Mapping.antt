-- The map of a state that was found.
use Rattle.std.proofs.Common.{◌≡◌, ℕ, ◌+◌, ◌-◌, ◌*◌, ◌<◌, ◌≤◌, Bool, false, length, Option, None, Some, refl, ap, arith, ⊎_elim}
use Rattle.std.specs.Prelude.{IfSome, if◌then◌else◌, slice_get}
use Rattle.std.specs.Option.{option_map_or}
use Rattle.std.proofs.lemmas.Bool.{cases_lt}
use Rattle.std.proofs.lemmas.Bool.Decides.{nat_tests}
use Rattle.std.proofs.lemmas.Nat.{mul-le}
use Rattle.fdp_base.specs.declared.config.DriveConfig.{DriveConfig}
use Rattle.fdp_base.specs.Config.{IsInRange}
use Rattle.fdp_base.specs.Geometry.{all_units}
use Rattle.fdp_base.specs.Numbers.{is_among}
use Rattle.fdp_base.specs.Placement.{budget_of, full_budget, geometry_of}
use Rattle.fdp_base.proofs.Sums.{sum_from, sum_from-cut, sum_from-last}
use Rattle.fdp_image.specs.Checkpoint.{reading_of_state}
use Rattle.fdp_map.specs.PageLists.{data_pages, page_at, size_at}
use Rattle.fdp_recovery.specs.Blocks.{StandApart}
use Rattle.fdp_snapshot.specs.declared.state.State.{State}
use Rattle.fdp_image.specs.Fits.{handles_in}
use Rattle.fdp_recovery.specs.fdp_state.Loaded.{IsDriveState}
use Rattle.fdp_recovery.specs.fdp_state.Parts.{listed}
use Rattle.fdp_recovery.proofs.fdp_state.Loadable.{loadable}
use Rattle.fdp_opening.proofs.Looking.{all-listed}

-- all blocks together are no more than there are pages
budget-few : (c : DriveConfig) → IsInRange c → (handles : ℕ) → full_budget c handles ≤ 262144
budget-few c range handles =
    let pages = mul-le c.unit_pages (c.units - 0 - 2 * handles - 3) c.unit_pages c.units (omega arith) (omega arith) in
    let one : budget_of c handles 0 ≤ c.unit_pages * c.units = omega (arith, pages) in
    let all = mul-le c.groups (budget_of c handles 0) c.groups (c.unit_pages * c.units) (omega arith) one in
    let units : c.groups * c.units ≤ all_units (geometry_of c) = omega arith in
    let whole = mul-le c.unit_pages (c.groups * c.units) c.unit_pages (all_units (geometry_of c)) (omega arith) units in
    let turned : c.groups * (c.unit_pages * c.units) ≡ c.unit_pages * (c.groups * c.units) = omega arith in
    omega (arith, all, turned, whole, range.pages)

-- a namespace has no more blocks than all have
one-of-all : (f : ℕ → ℕ) (nsid : ℕ) → 1 ≤ nsid → nsid < 17 → f nsid ≤ sum_from f 1 16
one-of-all f nsid low high =
    let cut = sum_from-cut f 1 nsid (16 - nsid) in
    let all : nsid + (16 - nsid) ≡ 16 = omega (arith, high) in
    let count : nsid ≡ nsid - 1 + 1 = omega (arith, low) in
    let last = sum_from-last f 1 (nsid - 1) in
    let here : 1 + (nsid - 1) ≡ nsid = omega (arith, low) in
    omega (arith, cut, ap (sum_from f 1) all, ap (sum_from f 1) count, last, ap f here)

pub sizes-few : (c : DriveConfig) (s : State) → IsInRange c → IsDriveState c s → (nsid : ℕ) → size_at s.pages nsid ≤ 262144
sizes-few c s range h nsid =
    ⊎_elim
    (λ (least : nsid < 1). let none : is_among 1 16 nsid ≡ false = grind (arith, nat_tests) in let zero_is : size_at s.pages nsid ≡ 0 = ap (λ (b : Bool). if b then option_map_or length (slice_get s.pages (nsid - 1)) 0 else 0) none in omega (arith, zero_is))
    (λ (low : 1 ≤ nsid).
    ⊎_elim
    (λ (high : nsid < 17). omega (arith, one-of-all (listed s.pages) nsid low high, all-listed s (loadable s h.writable), h.good.room, budget-few c range (handles_in c (reading_of_state s))))
    (λ (past : 17 ≤ nsid). let none : is_among 1 16 nsid ≡ false = grind (arith, nat_tests) in let zero_is : size_at s.pages nsid ≡ 0 = ap (λ (b : Bool). if b then option_map_or length (slice_get s.pages (nsid - 1)) 0 else 0) none in omega (arith, zero_is))
    (cases_lt nsid 17))
    (cases_lt nsid 1)

pub pages-within : (c : DriveConfig) (s : State) → StandApart c (reading_of_state s) → (nsid lba : ℕ) → IfSome (page_at s.pages nsid lba) (λ page. page < data_pages (geometry_of c))
unfolding reading_of_state
pages-within c s h nsid lba = cases (page_at s.pages nsid lba) refl where
  cases : (o : Option ℕ) → page_at s.pages nsid lba ≡ o → IfSome o (λ page. page < data_pages (geometry_of c))
  cases None e = tt
  cases (Some page) e = h.places nsid lba page e

pub pages-are : (s : State) (nsid lba : ℕ) → page_at s.pages nsid lba ≡ (reading_of_state s).pages nsid lba
unfolding reading_of_state
pages-are s nsid lba = refl
