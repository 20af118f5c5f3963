-- The plain state of a drive, in the standard's words: no page map, unit states, journal or collector.
use Rattle.std.specs.Prelude.{ℕ, Bool, List, Option}
use Rattle.std.specs.Option.{option_map}
use Rattle.fdp_base.specs.declared.command.Command.{Command}
use Rattle.fdp_base.specs.declared.entry.Spot.{Spot}
use Rattle.fdp_base.specs.declared.event.EventKind.{EventKind}

-- a namespace: its size in blocks, the reclaim unit handle of each placement handle, whether the host gave that list, and
-- the position of its creation, 0 for those that the drive was made with
pub record Namespace : Type 0 where
  pub size : ℕ
  pub handles : List ℕ
  pub given : Bool
  pub birth : ℕ

-- a page as it is followed through the history: by the ticket of its write and its index there, or by where it stood when
-- the image was opened
pub data PageName : Type 0 where
  written : ℕ → ℕ → PageName
  found : Spot → PageName

-- a block: its bytes, the reclaim group and the handle that it was placed by, and the page that holds it
pub record Block : Type 0 where
  pub bytes : List ℕ
  pub rg : ℕ
  pub ruh : ℕ
  pub page : PageName

-- the reclaim unit that a handle references in a group, if any, and how many blocks may still be written to it
pub record Reference : Type 0 where
  pub unit : Option ℕ
  pub left : ℕ

-- a write that was started and has not ended; its ticket is the position of its Started entry, `birth` that of its
-- namespace, `roomiest` the group that had most room then, `placed` how many of its pages were programmed
pub record Going : Type 0 where
  pub number : ℕ
  pub command : Command
  pub ticket : ℕ
  pub birth : ℕ
  pub rg : ℕ
  pub ruh : ℕ
  pub pid_valid : Bool
  pub roomiest : ℕ
  pub placed : ℕ

pub record PlainState : Type 0 where
  -- the position of the last entry
  pub position : ℕ
  -- whether placement is enabled, and the index of its configuration
  pub enabled : Bool
  pub index : ℕ
  -- how often Set Features changed them
  pub generation : ℕ
  -- whether events of a kind are kept for a handle
  pub reports : ℕ → EventKind → Bool
  -- the namespaces by identifier
  pub namespaces : ℕ → Option Namespace
  -- the blocks by identifier and address; an absent one reads as zeros
  pub blocks : ℕ → ℕ → Option Block
  -- what each handle references, by group and handle
  pub references : ℕ → ℕ → Reference
  -- the write that is going in a queue
  pub going : ℕ → Option Going
  -- the units that are out of use
  pub is_lost : ℕ → Bool
  -- the groups in which relocation found no free unit
  pub is_worn : ℕ → Bool
  -- the moments of the media errors of this run
  pub media : List ℕ

-- a block without the page that holds it
pub record Content : Type 0 where
  pub bytes : List ℕ
  pub rg : ℕ
  pub ruh : ℕ

abbrev pub content_of : Block → Content
content_of b = record { bytes = b.bytes; rg = b.rg; ruh = b.ruh }

-- what an image keeps of a state
pub record LastingState : Type 0 where
  pub enabled : Bool
  pub index : ℕ
  pub generation : ℕ
  pub reports : ℕ → EventKind → Bool
  pub namespaces : ℕ → Option Namespace
  pub blocks : ℕ → ℕ → Option Content

abbrev pub lasting : PlainState → LastingState
lasting s = record {
  enabled = s.enabled;
  index = s.index;
  generation = s.generation;
  reports = s.reports;
  namespaces = s.namespaces;
  blocks = λ nsid lba. option_map content_of (s.blocks nsid lba);
}
