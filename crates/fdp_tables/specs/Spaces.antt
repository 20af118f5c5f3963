-- The blocks of a namespace, as its table has them.
use Rattle.std.specs.Prelude.{◌≡◌, ℕ, ◌<◌, Bool, ◌&&◌, nat_lt, List, length, Option, None, Some, option_and_then, option_map}
use Rattle.std.specs.Option.{option_map_or}
use Rattle.fdp_base.specs.declared.payload.Payload.{Payload}
use Rattle.fdp_rules.specs.Effect.{chosen_handles}
use Rattle.fdp_base.specs.Pattern.{payload_block}
use Rattle.fdp_rules.specs.PlainState.{Block, Going, Namespace, PageName.written}
use Rattle.fdp_tables.specs.declared.state.KeptBlock.{KeptBlock}
use Rattle.fdp_tables.specs.declared.state.Space.{Space}
use Rattle.fdp_tables.specs.State.{block_of, namespace_of, row}

-- the block at an address of a namespace that may be absent
abbrev pub block_in : Option Space → ℕ → Option Block
block_in space lba = option_map block_of (option_and_then (λ x. row x.blocks lba) space)

-- the size of a namespace in blocks, 0 where it is absent
abbrev pub size_in : Option Space → ℕ
size_in space = option_map_or (λ x. length x.blocks) space 0

-- a created namespace: its size, its handles, whether the host gave them, and its position; its blocks are absent
pub record IsMade (space : Space) (size : ℕ) (given : Bool) (list : List ℕ) (birth : ℕ) : Type 0 where
  pub namespace : namespace_of space ≡ (let made : Namespace = record { size = size; handles = chosen_handles list; given = given && nat_lt 0 (length list); birth = birth } in made)
  pub empty : (lba : ℕ) → row space.blocks lba ≡ None

-- a block of a going write, with blocks of so many bytes
abbrev pub written_block : ℕ → Payload → Going → ℕ → Block
written_block block payload g index = record { bytes = payload_block block payload index; rg = g.rg; ruh = g.ruh; page = written g.ticket index }

-- the blocks of a going write, in their order
pub record AreMade (block : ℕ) (payload : Payload) (g : Going) (count : ℕ) (made : List (Option KeptBlock)) : Type 0 where
  pub count_is : length made ≡ count
  pub each : (index : ℕ) → index < count → option_map block_of (row made index) ≡ Some (written_block block payload g index)
