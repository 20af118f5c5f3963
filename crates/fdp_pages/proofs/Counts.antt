-- What is counted of a group stays, or falls.
use Rattle.std.proofs.Common.{◌≡◌, ℕ, zero, suc, ◌+◌, ◌-◌, ◌≤◌, Bool, true, false, cond, Option, Some, None, refl, ap, sym, ◌∙◌, arith}
use Rattle.std.specs.Prelude.{IsSome, is_some, if◌then◌else◌}
use Rattle.std.specs.Option.{option_map_or}
use Rattle.fdp_base.proofs.Sums.{count_from, count_from-none, count_from-step, counting}
use Rattle.fdp_owners.specs.OwnerTable.{OwnerTable, live_in, owner_at}
use Rattle.fdp_pages.proofs.Places.{no}
use Rattle.fdp_passes.specs.declared.lane.Lane.{Lane}
use Rattle.fdp_passes.specs.GroupPasses.{GroupPasses, Pass, target_at}
use Rattle.fdp_passes.specs.Place.{has_taken}
use Rattle.fdp_passes.specs.Room.{left_in, live_among, room_in, wanted_in}
use Rattle.fdp_units.specs.UnitTable.{UnitTable, unit_at}

at-most : (a b : Bool) → (a ≡ true → b ≡ true) → cond a 1 0 ≤ cond b 1 0
at-most false b h = omega arith
at-most true true h = omega arith
at-most true false h = absurd (no (h refl))

-- where a test is passed by fewer numbers, fewer are counted
pub fewer-counted : (f g : ℕ → Bool) (first count : ℕ) → ((i : ℕ) → f i ≡ true → g i ≡ true) → count_from f first count ≤ count_from g first count
fewer-counted f g first zero h = omega (arith, count_from-none f first, count_from-none g first)
fewer-counted f g first (suc count) h =
    let rest : count_from f (first + 1) count ≤ count_from g (first + 1) count = fewer-counted f g (first + 1) count h in
    let here : counting f first ≤ counting g first = at-most (f first) (g first) (h first) in
    omega (arith, rest, here, count_from-step f first count, count_from-step g first count)

-- a unit has no more live pages where no more of its pages are live
pub fewer-live : (o new : OwnerTable) (unit : ℕ) → new.unit_pages ≡ o.unit_pages → ((page : ℕ) → IsSome (owner_at new (record { unit = unit; page = page })) → IsSome (owner_at o (record { unit = unit; page = page }))) → live_in new unit ≤ live_in o unit
fewer-live o new unit pages h =
    let size : live_in new unit ≡ count_from (λ page. is_some (owner_at new (record { unit = unit; page = page }))) 0 o.unit_pages = ap (count_from (λ page. is_some (owner_at new (record { unit = unit; page = page }))) 0) pages in
    let fewer = fewer-counted (λ page. is_some (owner_at new (record { unit = unit; page = page }))) (λ page. is_some (owner_at o (record { unit = unit; page = page }))) 0 o.unit_pages h in
    omega (arith, size, fewer)

-- a pass has no more to copy where no more pages of its victim are live
pub wanted-fewer : (p : GroupPasses) (o new : OwnerTable) → new.unit_pages ≡ o.unit_pages → ((pass : Pass) (page : ℕ) → p.pass ≡ Some pass → IsSome (owner_at new (record { unit = pass.victim; page = page })) → IsSome (owner_at o (record { unit = pass.victim; page = page }))) → wanted_in p new ≤ wanted_in p o
wanted-fewer p o new pages h = cases p.pass refl where
  cases : (q : Option Pass) → p.pass ≡ q → wanted_in p new ≤ wanted_in p o
  cases None e =
      let now : wanted_in p new ≡ 0 = ap (λ (q : Option Pass). wanted_in (record p { pass = q }) new) e in
      omega (arith, now)
  cases (Some pass) e =
      let now : wanted_in p new ≡ live_among new pass.victim pass.next (new.unit_pages - pass.next) = ap (λ (q : Option Pass). wanted_in (record p { pass = q }) new) e in
      let was : wanted_in p o ≡ live_among o pass.victim pass.next (o.unit_pages - pass.next) = ap (λ (q : Option Pass). wanted_in (record p { pass = q }) o) e in
      let size : live_among new pass.victim pass.next (new.unit_pages - pass.next) ≡ live_among new pass.victim pass.next (o.unit_pages - pass.next) = ap (λ (k : ℕ). live_among new pass.victim pass.next (k - pass.next)) pages in
      let fewer : live_among new pass.victim pass.next (o.unit_pages - pass.next) ≤ live_among o pass.victim pass.next (o.unit_pages - pass.next) = fewer-counted
      (λ page. is_some (owner_at new (record { unit = pass.victim; page = page })))
      (λ page. is_some (owner_at o (record { unit = pass.victim; page = page })))
      pass.next (o.unit_pages - pass.next) (λ page. h pass page e) in
      omega (arith, now, was, size, fewer)

-- a lane has the same room where its target goes on at the same page
pub room-kept : (p : GroupPasses) (t new : UnitTable) (lane : Lane) → new.unit_pages ≡ t.unit_pages → ((unit : ℕ) → target_at p lane ≡ Some unit → (unit_at new unit).next ≡ (unit_at t unit).next) → room_in p new lane ≡ room_in p t lane
room-kept p t new lane pages next =
    let rest : (if has_taken p then 0 else new.unit_pages) ≡ (if has_taken p then 0 else t.unit_pages) = ap (λ (k : ℕ). if has_taken p then 0 else k) pages in
    let left : left_in p new lane ≡ left_in p t lane = cases (target_at p lane) refl in
    omega (arith, rest, left) where
      cases : (o : Option ℕ) → target_at p lane ≡ o → left_in p new lane ≡ left_in p t lane
      cases None e = ap (λ (o : Option ℕ). option_map_or (λ (unit : ℕ). new.unit_pages - (unit_at new unit).next) o 0) e ∙ sym (ap (λ (o : Option ℕ). option_map_or (λ (unit : ℕ). t.unit_pages - (unit_at t unit).next) o 0) e)
      cases (Some unit) e =
          let now : left_in p new lane ≡ new.unit_pages - (unit_at new unit).next = ap (λ (o : Option ℕ). option_map_or (λ (unit : ℕ). new.unit_pages - (unit_at new unit).next) o 0) e in
          let was : left_in p t lane ≡ t.unit_pages - (unit_at t unit).next = ap (λ (o : Option ℕ). option_map_or (λ (unit : ℕ). t.unit_pages - (unit_at t unit).next) o 0) e in
          omega (arith, now, was, pages, next unit e)
