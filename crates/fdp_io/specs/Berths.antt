-- The flashes of a bench in memory, by the bytes of their names. The berth of a flash that is out is empty.
use Rattle.std.specs.Prelude.{◌≡◌, ℕ, Bool, true, false, List, Option, Some, None, bytes_eq, String}
use Rattle.std.specs.BTreeMap.{BTreeMap, get_by_text}
use Rattle.std.specs.Option.{option_flatten, option_map_or}
use Rattle.std.specs.declared.alloc.Global.{Global}
use Rattle.fdp_flash.specs.declared.memory.FlashMem.{FlashMem}
use Rattle.fdp_flash.specs.FlashMem.{state_of}
use Rattle.fdp_io.specs.Bench.{Image}

abbrev pub Berths : Type 0
Berths = BTreeMap (String Global) (Option FlashMem)

-- whether a berth is empty
abbrev pub is_empty : Option FlashMem → Bool
is_empty None = true
is_empty (Some flash) = false

-- whether the flash of a name is out
abbrev pub is_out_of : Berths → List ℕ → Bool
is_out_of berths name = option_map_or is_empty (get_by_text berths name) false

-- the flash that lies there under a name
abbrev pub flash_in : Berths → List ℕ → Option FlashMem
flash_in berths name = option_flatten (get_by_text berths name)

-- a flash as it lies there
abbrev pub image_of : FlashMem → Image
image_of flash = record { geometry = (state_of flash).geometry; cells = (state_of flash).cells }

-- the berth of a name holds this, and all others what they held
pub record SetsBerth (old new : Berths) (name : List ℕ) (berth : Option FlashMem) : Type 0 where
  pub here : get_by_text new name ≡ Some berth
  pub elsewhere : (other : List ℕ) → bytes_eq name other ≡ false → get_by_text new other ≡ get_by_text old other
