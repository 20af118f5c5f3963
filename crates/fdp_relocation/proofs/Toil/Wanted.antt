-- How many live pages a pass has still to copy.
use Rattle.std.proofs.Common.{◌≡◌, ℕ, suc, ◌+◌, ◌-◌, ◌≤◌, ◌<◌, Bool, true, false, Option, Some, None, ap, ◌∙◌, arith, cond, ⊎_elim}
use Rattle.std.specs.Prelude.{is_some}
use Rattle.std.proofs.lemmas.Bool.{cases_lt}
use Rattle.fdp_base.specs.declared.entry.Spot.{Spot}
use Rattle.fdp_base.proofs.Sums.{count_from, count_from-step, counting, sum_from-cut, sum_from-zero}
use Rattle.fdp_owners.specs.declared.owner.Owner.{Owner}
use Rattle.fdp_owners.specs.OwnerTable.{OwnerTable, live_in, owner_at}
use Rattle.fdp_passes.specs.Due.{HasNoLive, IsFirstLive}
use Rattle.fdp_passes.specs.GroupPasses.{GroupPasses, Pass}
use Rattle.fdp_passes.specs.Room.{live_among, wanted_in}

as_number : Bool → ℕ
as_number b = cond b 1 0

-- where the first numbers fail a test and the next one passes it, that and those behind it are all that do
first-counted : (test : ℕ → Bool) (first more count : ℕ) → ((i : ℕ) → first ≤ i → i < first + more → test i ≡ false) → test (first + more) ≡ true → count_from test first (more + suc count) ≡ count_from test (first + more + 1) count + 1
first-counted test first more count none some =
    let here : counting test (first + more) ≡ 1 = ap (λ (b : Bool). cond b 1 0) some in
    omega (arith, sum_from-cut (counting test) first more (suc count), sum_from-zero (counting test) first more (λ i low high. ap (λ (b : Bool). cond b 1 0) (none i low high)), count_from-step test (first + more) count, here)

-- behind the first live page one less is live
pub less-live : (o : OwnerTable) (first : ℕ) (spot : Spot) → IsFirstLive o first spot → spot.page < o.unit_pages → live_among o spot.unit (spot.page + 1) (o.unit_pages - (spot.page + 1)) + 1 ≡ live_among o spot.unit first (o.unit_pages - first)
less-live o first spot h within =
    let test : ℕ → Bool = λ k. is_some (owner_at o (record { unit = spot.unit; page = k })) in
    let more : ℕ = spot.page - first in
    let count : ℕ = o.unit_pages - (spot.page + 1) in
    let low : first ≤ spot.page = h.behind in
    let at : first + more ≡ spot.page = omega (arith, low) in
    let size : more + suc count ≡ o.unit_pages - first = omega (arith, low, within) in
    let here : test (first + more) ≡ true = ap test at ∙ h.live in
    let one = first-counted test first more count (λ i from to. ap is_some (h.none i from (omega (arith, to, at)))) here in
    let behind : count_from test (first + more + 1) count ≡ count_from test (spot.page + 1) count = ap (λ (k : ℕ). count_from test (k + 1) count) at in
    let all : count_from test first (more + suc count) ≡ count_from test first (o.unit_pages - first) = ap (count_from test first) size in
    omega (arith, one, behind, all)

-- where no page is live from a first one on, none is counted
pub none-live : (o : OwnerTable) (unit first count : ℕ) → HasNoLive o unit first → live_among o unit first count ≡ 0
none-live o unit first count none = sum_from-zero (counting (λ k. is_some (owner_at o (record { unit = unit; page = k })))) first count (λ i low high. ap (λ (x : Option Owner). cond (is_some x) 1 0) (none i low))

-- the live pages from a page on are live pages of the unit
pub some-live : (o : OwnerTable) (unit first : ℕ) → live_among o unit first (o.unit_pages - first) ≤ live_in o unit
some-live o unit first =
    let test : ℕ → Bool = λ k. is_some (owner_at o (record { unit = unit; page = k })) in
    ⊎_elim
    (λ (inside : first < o.unit_pages).
    let size : first + (o.unit_pages - first) ≡ o.unit_pages = omega (arith, inside) in
    let cut = sum_from-cut (counting test) 0 first (o.unit_pages - first) in
    let all : count_from test 0 (first + (o.unit_pages - first)) ≡ live_in o unit = ap (count_from test 0) size in
    let at : count_from test (0 + first) (o.unit_pages - first) ≡ count_from test first (o.unit_pages - first) = ap (λ (k : ℕ). count_from test k (o.unit_pages - first)) (omega arith) in
    omega (arith, cut, all, at))
    (λ (behind : o.unit_pages ≤ first).
    let size : o.unit_pages - first ≡ 0 = omega (arith, behind) in
    let none : count_from test first (o.unit_pages - first) ≡ 0 = ap (count_from test first) size ∙ sum_from-zero (counting test) first 0 (λ i low high. absurd (omega (arith, low, high))) in
    omega (arith, none))
    (cases_lt first o.unit_pages)

-- what a pass wants, by its victim and the page at which it goes on
pub wanted-by : (p : GroupPasses) (o : OwnerTable) (pass : Pass) → p.pass ≡ Some pass → wanted_in p o ≡ live_among o pass.victim pass.next (o.unit_pages - pass.next)
wanted-by p o pass is = ap (λ (q : Option Pass). wanted_in (record p { pass = q }) o) is

-- without a pass nothing is wanted
pub wanted-none : (p : GroupPasses) (o : OwnerTable) → p.pass ≡ None → wanted_in p o ≡ 0
wanted-none p o is = ap (λ (q : Option Pass). wanted_in (record p { pass = q }) o) is
