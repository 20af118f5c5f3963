-- The usage of the handles, by the places of the namespaces.
use Rattle.std.specs.Prelude.{ℕ, Bool, false, ◌&&◌, ◌==◌, ◌∷◌, ◌++◌, List, Option, flat_map, if◌then◌else◌}
use Rattle.std.specs.Int.{to_le_bytes, w16}
use Rattle.std.specs.List.{list_any}
use Rattle.std.specs.Option.{option_map_or}
use Rattle.fdp_base.specs.Numbers.{numbers_below}
use Rattle.fdp_rules.specs.LogPages.{zeros}
use Rattle.fdp_snapshot.specs.declared.space.Space.{Space}

-- a namespace stands in this place that lists a handle
abbrev pub lists : ℕ → Option Space → Bool
lists ruh place = option_map_or (λ (x : Space). list_any (λ listed. listed == ruh) x.handles) place false

-- and the host gave that list
abbrev pub gives : ℕ → Option Space → Bool
gives ruh place = option_map_or (λ (x : Space). x.given && list_any (λ listed. listed == ruh) x.handles) place false

-- 1: a host specified the handle; 2: the controller did; 0: no namespace uses it
abbrev pub usage_in : List (Option Space) → ℕ → ℕ
usage_in places ruh = if list_any (gives ruh) places then 1 else if list_any (lists ruh) places then 2 else 0

-- the log of so many handles
abbrev pub usages_log : ℕ → List (Option Space) → List ℕ
usages_log handles places = to_le_bytes w16 handles ++ zeros 6 ++ flat_map (λ ruh. usage_in places ruh ∷ zeros 7) (numbers_below handles)
