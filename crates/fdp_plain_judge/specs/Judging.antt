-- What is looked for in the tables when an entry is judged.
use Rattle.std.specs.Prelude.{◌≡◌, ◌≢◌, ◌<◌, ℕ, Bool, true, IsTrue, IsFalse, Contains, slice_index, List, Some, IfSome, slice_get}
use Rattle.fdp_base.specs.declared.entry.Reply.{Reply}
use Rattle.fdp_base.specs.declared.entry.Spot.{Spot}
use Rattle.fdp_base.specs.declared.status.TheConstants.Status as statuses
use Rattle.fdp_rules.specs.Answer.{bare}
use Rattle.fdp_rules.specs.PlainState.{Going}
use Rattle.fdp_rules.specs.Point.{Point}
use Rattle.fdp_rules.specs.Room.{handles_of, roomiest}
use Rattle.fdp_rules.specs.Sites.{group_of, is_there, site_of}
use Rattle.fdp_rules.specs.Step.{IsNextPage}
use Rattle.fdp_tables.specs.declared.state.Kept.{Kept}
use Rattle.fdp_tables.specs.declared.state.KeptReference.{KeptReference}
use Rattle.fdp_tables.specs.State.{plain_of}
use Rattle.fdp_base.specs.CommandKinds.{blocks_written}

-- it holds of each element
abbrev pub EachIn : {X : Type 0} → (X → Type 0) → List X → Type 0
EachIn {X} P xs = (i : ℕ) (x : X) → slice_get xs i ≡ Some x → P x

-- a handle does not reference a unit
abbrev pub IsFreeOf : ℕ → KeptReference → Type 0
IsFreeOf unit x = x.unit ≢ Some unit

-- a block does not stand in a unit
abbrev pub IsOutside : Point → ℕ → ℕ → ℕ → Type 0
IsOutside p unit nsid lba = IfSome (site_of p nsid lba) (λ (spot : Spot). spot.unit ≢ unit)

-- no block stands in a unit
abbrev pub IsEmptyUnit : Point → ℕ → Type 0
IsEmptyUnit p unit = (nsid lba : ℕ) → IsOutside p unit nsid lba

-- a block is the next one of a going write
abbrev pub IsNextBlock : ℕ → Going → Type 0
IsNextBlock index g = (index ≡ g.placed) × (index < blocks_written g.command)

-- a page is the next one of the handle of a going write, and not lost
pub record IsNextSpot (k : Kept) (spot : Spot) (g : Going) : Type 0 where
  pub group : group_of k.config spot.unit ≡ g.rg
  pub kept : IsFalse ((plain_of k).is_lost spot.unit)
  pub place : IsNextPage k.config (plain_of k) ((plain_of k).references g.rg g.ruh) spot.unit spot.page

-- a page is the next one of a going write with this ticket
pub record IsNextOf (k : Kept) (ticket index : ℕ) (spot : Spot) (g : Going) : Type 0 where
  pub same : g.ticket ≡ ticket
  pub there : IsTrue (is_there (plain_of k) g)
  pub block : IsNextBlock index g
  pub spot_is : IsNextSpot k spot g

-- a page is the next one of the write that is going in a queue, which has this ticket
abbrev pub IsNextIn : Kept → ℕ → ℕ → Spot → ℕ → Type 0
IsNextIn k ticket index spot queue = (g : Going) × ((plain_of k).going queue ≡ Some g) × IsNextOf k ticket index spot g

-- the reply to a write whose change is made
abbrev pub IsWritten : Reply → Type 0
IsWritten reply = reply ≡ bare statuses.SUCCESS true

-- a valid placement identifier leads to a handle of the namespace, another to its first handle in the roomiest group
pub record IsPlaceFor (k : Kept) (nsid rg ruh : ℕ) (pid_valid : Bool) : Type 0 where
  pub listed : IsTrue pid_valid → Contains (handles_of (plain_of k) nsid) ruh
  pub default : IsFalse pid_valid → (rg ≡ roomiest k.config (plain_of k)) × (ruh ≡ slice_index (handles_of (plain_of k) nsid) 0)
