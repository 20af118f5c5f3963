-- What is true of the tables of every plain machine.
use Rattle.std.specs.Prelude.{ℕ, ◌≡◌, ◌+◌, ◌*◌, ◌^◌, ◌<◌, ◌≤◌, IsTrue, IfSome, Some, length, slice_get, slice_index}
use Rattle.std.specs.Option.{IsSomeAnd}
use Rattle.fdp_rules.specs.Change.{birth_of}
use Rattle.fdp_base.specs.CommandKinds.{blocks_written, write_of}
use Rattle.fdp_base.specs.Config.{IsValidConfig}
use Rattle.fdp_base.specs.declared.entry.Spot.{Spot}
use Rattle.fdp_rules.specs.PlainState.{Block, Going, PageName.found}
use Rattle.fdp_rules.specs.Room.{handles_of, size_of}
use Rattle.fdp_rules.specs.Sites.{is_there}
use Rattle.fdp_tables.specs.declared.state.Kept.{Kept}
use Rattle.fdp_tables.specs.Starts.{start_of}
use Rattle.fdp_tables.specs.State.{plain_of, site_at, table_site}
use Rattle.fdp_base.specs.declared.command.Write.{Write}

-- a going write: its handle has a place in its group; it is not older than the history; no more pages were counted than it
-- has blocks, and each has a place for its site; its blocks lie in its namespace, where that is still there
pub record IsSoundGoing (k : Kept) (g : Going) : Type 0 where
  pub handle : g.ruh < 16
  pub group : g.rg < k.config.groups
  pub ticket : g.ticket ≤ length k.entries.items
  pub birth : g.birth ≤ length k.entries.items
  pub blocks : blocks_written g.command ≤ 64
  pub placed : g.placed ≤ blocks_written g.command
  pub pages : IsSomeAnd (slice_get k.sites.rows g.ticket) (λ pages. length pages ≡ blocks_written g.command)
  pub range : IsTrue (is_there (plain_of k) g) → IfSome (write_of g.command) (λ (w : Write). w.slba + w.count ≤ size_of (plain_of k) w.nsid)

-- the table tells of each block at a page that was found where that page stands
abbrev pub KnowsFound : Kept → Type 0
KnowsFound k = (nsid lba : ℕ) (b : Block) (spot : Spot) → (plain_of k).blocks nsid lba ≡ Some b → b.page ≡ found spot → table_site k (found spot) ≡ site_at k (found spot)

-- each table has its rows: an identifier, a queue and a group may be looked up
pub record IsSound (k : Kept) : Type 0 where
  pub config : IsValidConfig k.config
  pub start : start_of k.starts.items ≤ length k.entries.items
  pub index : k.index < length k.config.fdp
  pub generation : k.generation ≤ 2 ^ 31 + length k.entries.items
  pub spaces : length k.spaces.items ≡ 17
  pub handles : (nsid : ℕ) → length (handles_of (plain_of k) nsid) ≤ 16
  pub known : (nsid i : ℕ) → slice_index (handles_of (plain_of k) nsid) i < 16
  pub births : (nsid : ℕ) → birth_of (plain_of k) nsid ≤ length k.entries.items
  pub reports : length k.reports.items ≡ 16
  pub references : length k.references.items ≡ 16 * k.config.groups
  pub going : length k.going.items ≡ k.config.queues + 1
  pub writes : (queue : ℕ) (g : Going) → (plain_of k).going queue ≡ Some g → IsSoundGoing k g
  pub tickets : (a b : ℕ) (g h : Going) → (plain_of k).going a ≡ Some g → (plain_of k).going b ≡ Some h → g.ticket ≡ h.ticket → a ≡ b
  pub lost : length k.lost.items ≡ k.config.groups * k.config.units
  pub worn : length k.worn.items ≡ k.config.groups
  pub sites : length k.sites.rows ≡ length k.entries.items + 1
  pub found_pages : KnowsFound k
  pub copies : length k.copies.items ≡ k.config.groups
  pub host_blocks : k.host_blocks ≤ 64 * length k.entries.items
  pub media_blocks : k.media_blocks ≤ length k.entries.items
  pub erases : k.erases ≤ length k.entries.items
