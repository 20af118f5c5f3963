-- Which pages a read fetches.
use Rattle.std.specs.Prelude.{◌≡◌, ℕ, ◌+◌, ◌<◌, Bool, true, false, List, [], ◌∷◌, ◌++◌, Option, Some, MatchBool, map, option_and_then}
use Rattle.std.specs.List.{filter_map}
use Rattle.fdp_base.specs.declared.entry.Spot.{Spot}
use Rattle.fdp_base.specs.Numbers.{numbers_from}
use Rattle.fdp_rules.specs.PlainState.{Block}
use Rattle.fdp_flash.specs.FlashState.{Call, FlashState}
use Rattle.fdp_base.specs.declared.command.Read.{Read}
use Rattle.fdp_relocation.specs.fdp_book.Book.{BookSeen, point_in, state_in}
use Rattle.fdp_calls.specs.Calls.{MakesCalls, fetch_at}

-- the page at which a block stands, if it is there
abbrev pub page_of : BookSeen → ℕ → ℕ → Option Spot
page_of b nsid lba = option_and_then (λ (x : Block). (point_in b).trail.site x.page) ((state_in b).blocks nsid lba)

-- the pages of so many blocks from an address on, of those that are there
abbrev pub pages_of : BookSeen → ℕ → ℕ → ℕ → List Spot
pages_of b nsid slba count = filter_map (page_of b nsid) (numbers_from slba count)

-- a fetch of each of these pages, of which none failed
abbrev pub fetches_of : List Spot → List Call
fetches_of pages = map (λ (at : Spot). fetch_at at false) pages

-- the one call was a fetch of the page of a block, and failed
pub record FailsToFetch (old new : FlashState) (b : BookSeen) (nsid lba : ℕ) : Type 0 where
  pub page : Spot
  pub page_is : page_of b nsid lba ≡ Some page
  pub made : MakesCalls old new (fetch_at page true ∷ [])

-- the fetches of a read of which one failed: those of the blocks before it, and that one
pub record IsCutShort (b : BookSeen) (x : Read) (calls : List Call) : Type 0 where
  pub index : ℕ
  pub within : index < x.count
  pub page : Spot
  pub page_is : page_of b x.nsid (x.slba + index) ≡ Some page
  pub calls_are : calls ≡ fetches_of (pages_of b x.nsid x.slba index) ++ fetch_at page true ∷ []

-- the fetches of a read: of the page of each block that is there, in order, up to one that fails
abbrev pub Fetches : BookSeen → Read → List Call → Bool → Type 0
Fetches b x calls failed = MatchBool failed (IsCutShort b x calls) (calls ≡ fetches_of (pages_of b x.nsid x.slba x.count))

-- they were made, and no other call
pub record MakesFetches (old new : FlashState) (b : BookSeen) (x : Read) (failed : Bool) : Type 0 where
  pub calls : List Call
  pub made : MakesCalls old new calls
  pub fetches : Fetches b x calls failed
