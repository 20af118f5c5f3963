-- The blocks that stand in one unit, each with its page.
use Rattle.std.specs.Prelude.{ℕ, ◌≡◌, ◌<◌, ◌≤◌, ◌⊎◌, ◌==◌, true, List, [], ◌∷◌, Some, Contains, if◌then◌else◌}
use Rattle.std.specs.Option.{option_map_or}
use Rattle.fdp_base.specs.declared.entry.BlockName.{BlockName}
use Rattle.fdp_base.specs.declared.entry.Spot.{Spot}
use Rattle.fdp_rules.specs.Point.{Point}
use Rattle.fdp_rules.specs.Sites.{is_spot, site_of}

-- a block with its page, where that lies in the unit
abbrev pub in_unit : Point → ℕ → ℕ → ℕ → List (BlockName × Spot)
in_unit p unit nsid lba = option_map_or (λ (spot : Spot). if spot.unit == unit then (record { nsid = nsid; lba = lba }, spot) ∷ [] else []) (site_of p nsid lba) []

-- a block stands where it is said to stand
abbrev pub StandsThere : Point → BlockName × Spot → Type 0
StandsThere p x = site_of p x.0.nsid x.0.lba ≡ Some x.1

-- all blocks of the namespaces from 1 on, and below this one, that stand in the unit, and no block that does not
pub record AreInUnit (p : Point) (unit below : ℕ) (list : List (BlockName × Spot)) : Type 0 where
  pub there : (x : BlockName × Spot) → Contains list x → StandsThere p x
  pub spaces : (x : BlockName × Spot) → Contains list x → (1 ≤ x.0.nsid) × (x.0.nsid < below)
  pub all : (nsid lba : ℕ) (spot : Spot) → 1 ≤ nsid → nsid < below → site_of p nsid lba ≡ Some spot → spot.unit ≡ unit → Contains list (record { nsid = nsid; lba = lba }, spot)

-- to these blocks those of a namespace are added that stand in the unit
pub record TakesSpace (p : Point) (unit nsid : ℕ) (old new : List (BlockName × Spot)) : Type 0 where
  pub kept : (x : BlockName × Spot) → Contains old x → Contains new x
  pub there : (x : BlockName × Spot) → Contains new x → Contains old x ⊎ ((x.0.nsid ≡ nsid) × StandsThere p x)
  pub all : (lba : ℕ) (spot : Spot) → site_of p nsid lba ≡ Some spot → spot.unit ≡ unit → Contains new (record { nsid = nsid; lba = lba }, spot)

-- a block of these stands at the page
abbrev pub StandsAmong : List (BlockName × Spot) → Spot → BlockName → Type 0
StandsAmong list spot block = (site : Spot) × Contains list (block, site) × (is_spot spot site ≡ true)
