-- What a read of blocks leaves of its buffers and of the flash.
use Rattle.std.specs.Prelude.{◌≡◌, ℕ, ◌*◌, Bool, false, IsTrue, List, MatchBool, flat_map, length}
use Rattle.fdp_base.specs.declared.status.TheConstants.Status as statuses
use Rattle.fdp_rules.specs.Answer.{bare, read_block}
use Rattle.fdp_base.specs.Numbers.{numbers_from}
use Rattle.fdp_flash.specs.FlashState.{FlashState}
use Rattle.fdp_base.specs.declared.command.Read.{Read}
use Rattle.fdp_relocation.specs.fdp_book.declared.room.Replies.{Replies}
use Rattle.fdp_relocation.specs.fdp_book.Book.{BookSeen, state_in}
use Rattle.fdp_relocation.specs.fdp_book.Room.{IsTwice, read_reply}
use Rattle.fdp_calls.specs.Media.{IsReadFrom}
use Rattle.fdp_core.specs.Fetches.{MakesFetches}

-- so many blocks of a namespace, from an address on, one behind another
abbrev pub blocks_from : BookSeen → ℕ → ℕ → ℕ → List ℕ
blocks_from b nsid slba count = flat_map (read_block b.config (state_in b) nsid) (numbers_from slba count)

-- both replies have the blocks that a read asks for, as far as the cells are told
pub record HasBlocks (old : FlashState) (b : BookSeen) (x : Read) (replies : Replies) : Type 0 where
  pub bytes : List ℕ
  pub size : length bytes ≡ x.count * b.config.block
  pub blocks : IsTrue old.told → bytes ≡ blocks_from b x.nsid x.slba x.count
  pub twice : IsTwice (read_reply bytes) replies

-- the replies to a read: its blocks, or that a fetch failed
abbrev pub Reads : FlashState → BookSeen → Read → Replies → Bool → Type 0
Reads old b x replies failed = MatchBool failed (IsTwice (bare statuses.UNRECOVERED_READ_ERROR false) replies) (HasBlocks old b x replies)

-- a read of blocks: whether or not a fetch failed
pub record ReadsAll (old new : FlashState) (b : BookSeen) (x : Read) (replies : Replies) : Type 0 where
  pub failed : Bool
  pub read : IsReadFrom old new
  pub told : Reads old b x replies failed
  pub fetches : MakesFetches old new b x failed
