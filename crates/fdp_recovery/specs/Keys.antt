-- The values that a flash is made for, and the first of them that a configuration gives otherwise.
use Rattle.std.specs.Prelude.{ℕ, Bool, true, ◌&&◌, ◌+◌, List, [], ◌∷◌, nat_lt, ◌==◌, length, map, zip, Option, Some, None, if◌then◌else◌}
use Rattle.std.specs.List.{concat}
use Rattle.std.specs.Option.{option_and_then}
use Rattle.fdp_base.specs.declared.config.DriveConfig.{DriveConfig}
use Rattle.fdp_base.specs.declared.config.Geometry.{Geometry}
use Rattle.fdp_config.specs.declared.key.Key.{Key}
use Rattle.fdp_config.specs.declared.key.Key.TheVariants as key_of
use Rattle.fdp_flash.specs.declared.cell.Cell.{Cell}
use Rattle.fdp_snapshot.specs.declared.keys.Keys.{Keys}
use Rattle.fdp_snapshot.specs.Checkpoint.{checkpoint_size, is_checkpoint}
use Rattle.fdp_snapshot.specs.Reading.{keys_in, summary_in}
use Rattle.fdp_image.specs.Areas.{Sealed, current_area}
use Rattle.fdp_image.specs.CheckpointFields.{same_keys}

-- the keys that are compared, in their order
abbrev pub compared_keys : List Key
compared_keys =
    key_of.Block ∷ key_of.UnitPages ∷ key_of.Groups ∷ key_of.Units ∷ key_of.AreaUnits ∷ key_of.Queues ∷ key_of.BlocksPerCommand ∷ key_of.Fdp ∷ []

-- whether a flash is cut as the configuration asks, key by key; of the last three it says nothing
abbrev pub same_cut : DriveConfig → Geometry → List Bool
same_cut c g =
    (g.block == c.block) ∷ (g.unit_pages == c.unit_pages) ∷ (g.groups == c.groups) ∷ (g.units == c.units) ∷ (g.area_units == c.area_units)
    ∷ true ∷ true ∷ true ∷ []

-- both hold, place by place
abbrev pub both : List Bool → List Bool → List Bool
both xs ys = map (λ (x : Bool × Bool). x.0 && x.1) (zip xs ys)

-- the first key that differs
abbrev pub first_other : List (Key × Bool) → Option Key
first_other [] = None
first_other (x ∷ xs) = if x.1 then first_other xs else Some x.0

-- the first key whose value differs from the flash, or from the checkpoint that it holds, if it holds one
abbrev pub other_key : DriveConfig → Geometry → Option Keys → Option Key
other_key c g None = first_other (zip compared_keys (same_cut c g))
other_key c g (Some k) = first_other (zip compared_keys (both (same_cut c g) (same_keys c k)))

-- the bytes are a checkpoint that just fills its pages
abbrev pub fills_pages : ℕ → ℕ → List ℕ → Bool
fills_pages version block bytes = is_checkpoint version bytes && nat_lt (length bytes) (checkpoint_size (summary_in bytes) + block)

-- the values that a sealed area names, if its pages hold a checkpoint
unfoldable pub keys_of_area : ℕ → Sealed → Option Keys
keys_of_area block z = let bytes = concat z.checkpoint in if fills_pages z.stamp.version block bytes then Some (keys_in bytes) else None

-- the values that a flash names in its current area
unfoldable pub keys_on : Geometry → List Cell → Option Keys
keys_on g cells = option_and_then (λ (x : ℕ × Sealed). keys_of_area g.block x.1) (current_area g cells)
