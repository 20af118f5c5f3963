-- The changes by which the entries of a history are saved.
use Rattle.std.specs.Prelude.{◌≡◌, ℕ, ◌+◌, ◌<◌, ◌++◌, All, Bool, false, IsTrue, List, [], ◌∷◌, Option, Some, filter, flat_map, is_some, length, map, not, slice_get}
use Rattle.std.specs.Option.{option_map_or}
use Rattle.fdp_base.specs.declared.command.Command.{Command}
use Rattle.fdp_base.specs.declared.command.Write.{Write}
use Rattle.fdp_base.specs.declared.config.DriveConfig.{DriveConfig}
use Rattle.fdp_base.specs.declared.entry.Copied.{Copied}
use Rattle.fdp_base.specs.declared.entry.Entry.{Entry}
use Rattle.fdp_base.specs.declared.entry.Entry.TheVariants as entries
use Rattle.fdp_base.specs.declared.entry.Reply.{Reply}
use Rattle.fdp_base.specs.declared.entry.Spot.{Spot}
use Rattle.fdp_base.specs.CommandKinds.{blocks_written}
use Rattle.fdp_base.specs.Placement.{geometry_of}
use Rattle.fdp_flash.specs.Layout.{page_number}
use Rattle.fdp_image.specs.Applied.{applied}
use Rattle.fdp_image.specs.Bits.{has_bit, pages_of_set}
use Rattle.fdp_image.specs.Changed.{page_numbers}
use Rattle.fdp_image.specs.Fits.{fits}
use Rattle.fdp_owners.specs.declared.owner.Owner.{Owner}
use Rattle.fdp_readings.specs.Drawn.{drawn}
use Rattle.fdp_records.specs.declared.change.Change.{Change}
use Rattle.fdp_records.specs.declared.change.Change.TheVariants as changes
use Rattle.fdp_records.specs.declared.change.UnitPages.{UnitPages}
use Rattle.fdp_records.specs.Records.{target_or_none}
use Rattle.fdp_rules.specs.Effect.{References, is_partly_written, updated_by}
use Rattle.fdp_rules.specs.Next.{next, totals_with}
use Rattle.fdp_rules.specs.PlainState.{Block, Going, PageName.written, PlainState}
use Rattle.fdp_rules.specs.Point.{Point}
use Rattle.fdp_rules.specs.Sites.{blocks_at, group_of, moved_blocks, moved_by, pass_in, site_of}
use Rattle.fdp_rules.specs.Step.{IsDataUnit}
use Rattle.fdp_rules.specs.Target.{named_by}
use Rattle.fdp_locations.specs.fdp_trails.Followed.{copy_of}
use Rattle.fdp_locations.specs.fdp_trails.Moves.{name_at}

-- a command was completed
abbrev pub completed : ℕ → ℕ → Command → Reply → ℕ → Entry
completed queue number command reply moment = entries.Host (record { queue = queue; number = number; command = command; reply = reply; moment = moment })

-- a change saves an entry: with it what was drawn before the entry is what is drawn after it, with the sums that the entry leaves
abbrev pub Saves : DriveConfig → Point → Change → Entry → Type 0
Saves c p change e = applied c (drawn c p) (change, totals_with p.totals e) ≡ drawn c (next c p e)

-- a change fits what is drawn before the entry that it saves
abbrev pub FitsDrawn : DriveConfig → Point → Change → Entry → Type 0
FitsDrawn c p change e = IsTrue (fits c (drawn c p) (change, totals_with p.totals e))

-- a data unit, and pages of it
pub record ArePagesOfUnit (c : DriveConfig) (x : UnitPages) : Type 0 where
  pub unit : IsDataUnit c x.unit
  pub pages : All (λ page. page < c.unit_pages) (pages_of_set x.pages)

-- the pages of a going write, one for each of its blocks
pub record AreItsPages (p : Point) (g : Going) (spots : List Spot) : Type 0 where
  pub size : length spots ≡ blocks_written g.command
  pub sites : (index : ℕ) (spot : Spot) → slice_get spots index ≡ Some spot → p.trail.site (written g.ticket index) ≡ Some spot

-- the change of a going write that succeeds with these pages
abbrev pub change_of_write : DriveConfig → Write → Going → List Spot → Change
change_of_write c w g spots = changes.Write w.nsid w.slba w.dspec (not g.pid_valid) (map (page_number (geometry_of c)) spots)

-- these copies move the blocks of a group as its pass does: each block to where the pass takes it, and they are listed in the same order
pub record MoveBlocks (p : Point) (rg : ℕ) (copies : List Copied) : Type 0 where
  pub moves : (nsid lba : ℕ) (spot : Spot) → site_of p nsid lba ≡ Some spot → moved_by (pass_in p.trail rg) spot ≡ moved_by (map copy_of copies) spot
  pub listed : moved_blocks p rg ≡ flat_map (λ (x : Copied). blocks_at p x.from) copies

-- the copies of blocks, by the owners of their old pages
abbrev pub copies_of_blocks : (Spot → Option Owner) → List Copied → List Copied
copies_of_blocks owners copies = filter (λ (x : Copied). is_some (name_at owners x.from)) copies

-- the handle that the owner of a page knows from its spare
abbrev pub known_handle : (Spot → Option Owner) → Spot → ℕ
known_handle owners spot = option_map_or (λ (x : Owner). x.spare.ruh) (owners spot) 0

-- a block that stands at a page was placed by this handle
abbrev pub IsPlacedBy : Point → Spot → ℕ → Type 0
IsPlacedBy p spot ruh = (nsid lba : ℕ) (b : Block) → p.state.blocks nsid lba ≡ Some b → p.trail.site b.page ≡ Some spot → b.ruh ≡ ruh

-- The change of a move names these copies in a group: their old pages, the new ones in the same order, and the handle of each.
pub record NamesCopies (c : DriveConfig) (p : Point) (rg : ℕ) (copies : List Copied) (ruh_of : Copied → ℕ) (victim first : UnitPages) (second : Option UnitPages) (handles : List ℕ) : Type 0 where
  pub old : page_numbers c victim ≡ map (λ (x : Copied). page_number (geometry_of c) x.from) copies
  pub new : page_numbers c first ++ page_numbers c (target_or_none second) ≡ map (λ (x : Copied). page_number (geometry_of c) x.to) copies
  pub handles_are : handles ≡ map ruh_of copies
  pub group : group_of c victim.unit ≡ rg
  pub inside : All (λ (x : Copied). x.from.page < c.unit_pages) copies
  pub placed : All (λ (x : Copied). IsPlacedBy p x.from (ruh_of x)) copies

-- an update of a placement identifier closes the unit of its handle
abbrev pub closes_unit : DriveConfig → PlainState → ℕ → References → ℕ → Bool
closes_unit c s nsid references pid = option_map_or (λ t. is_partly_written c (references t.rg t.ruh)) (named_by c s nsid pid) false

-- the bits from one on tell of each identifier in turn whether it closes a unit
unfoldable pub TellsClosed : DriveConfig → PlainState → ℕ → ℕ → ℕ → References → List ℕ → Type 0
TellsClosed c s nsid closed first references [] = Unit {0}
TellsClosed c s nsid closed first references (pid ∷ pids) =
    (has_bit closed first ≡ closes_unit c s nsid references pid) × TellsClosed c s nsid closed (first + 1) (updated_by c s nsid references pid) pids
