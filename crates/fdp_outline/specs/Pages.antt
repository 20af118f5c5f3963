-- The pages of the blocks beside an outline, one list for each namespace.
use Rattle.std.specs.Prelude.{◌≡◌, ℕ, ◌-◌, ◌<◌, ◌^◌, ◌+◌, IfSome, List, Option, if◌then◌else◌, length, slice_get}
use Rattle.std.specs.Option.{option_map_or}
use Rattle.fdp_image.specs.Checkpoint.{page_in_lists}
use Rattle.fdp_image.specs.CheckpointRows.{is_namespace_id}
use Rattle.fdp_image.specs.Reading.{Reading, size_in}

-- how many blocks the list of a namespace has
abbrev pub size_in_lists : List (List (Option ℕ)) → ℕ → ℕ
size_in_lists lists nsid = if is_namespace_id nsid then option_map_or length (slice_get lists (nsid - 1)) 0 else 0

-- the lists are those of what an image says: sixteen, each as long as its namespace has blocks, with the page of each; their numbers have room
pub record ArePagesOf (r : Reading) (lists : List (List (Option ℕ))) : Type 0 where
  pub places : length lists ≡ 16
  pub sizes : (nsid : ℕ) → size_in_lists lists nsid ≡ size_in r nsid
  pub pages : (nsid lba : ℕ) → page_in_lists lists nsid lba ≡ r.pages nsid lba
  pub fit : (nsid lba : ℕ) → IfSome (page_in_lists lists nsid lba) (λ page. page + 1 < 2 ^ 32)
