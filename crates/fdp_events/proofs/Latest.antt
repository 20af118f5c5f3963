-- The latest events of a class.
use Rattle.std.proofs.Common.{◌≡◌, ◌-◌, ◌≤◌, List, [], ◌++◌, length, drop, sym, ◌∙◌, ap, arith}
use Rattle.std.proofs.lemmas.List.{append-nil, length-drop}
use Rattle.fdp_base.specs.declared.event.Event.{Event}
use Rattle.fdp_rules.specs.Events.{latest}

-- the latest of few are all
all-latest : (xs : List Event) → length xs ≤ 32 → latest xs ≡ xs
all-latest xs few = let none : length xs - 32 ≡ 0 = omega (arith, few) in ap (λ n. drop n xs) none

pub latest-few : (xs : List Event) → length xs ≤ 32 → xs ≡ latest (xs ++ [])
latest-few xs few = sym (ap latest (append-nil xs) ∙ all-latest xs few)

pub few-latest : (xs : List Event) → length (latest xs) ≤ 32
few-latest xs = omega (arith, length-drop (length xs - 32) xs)
