-- What a history put into the pages of data.
use Rattle.std.specs.Prelude.{◌≡◌, ℕ, ◌+◌, ◌==◌, List, [], ◌∷◌, Option, Some, None, if◌then◌else◌, option_and_then, option_map}
use Rattle.fdp_base.specs.declared.command.Write.{Write}
use Rattle.fdp_base.specs.declared.config.DriveConfig.{DriveConfig}
use Rattle.fdp_base.specs.declared.entry.Entry.{Entry}
use Rattle.fdp_base.specs.declared.entry.Entry.TheVariants as entries
use Rattle.fdp_base.specs.declared.entry.Spot.{Spot}
use Rattle.fdp_base.specs.declared.spare.DataSpare.{DataSpare}
use Rattle.fdp_base.specs.CommandKinds.{write_of}
use Rattle.fdp_base.specs.Pattern.{payload_block}
use Rattle.fdp_rules.specs.Change.{after, going_with}
use Rattle.fdp_rules.specs.History.{Found, first_state}
use Rattle.fdp_rules.specs.PlainState.{Going, PlainState}
use Rattle.fdp_rules.specs.Sites.{is_spot}

-- a page: what its spare says, and its block
pub record Written : Type 0 where
  pub spare : DataSpare
  pub bytes : List ℕ

-- what the spare of a going write's next page says
abbrev pub next_spare : PlainState → Going → Write → DataSpare
next_spare s g w = record {
  ruh = g.ruh;
  rg = g.rg;
  generation = s.generation;
  ticket = g.ticket;
  nsid = w.nsid;
  index = g.placed;
  lba = w.slba + g.placed;
}

-- the next page of a going write: its spare, and its next block
abbrev pub next_page : DriveConfig → PlainState → Going → Write → Written
next_page c s g w = record { spare = next_spare s g w; bytes = payload_block c.block w.payload g.placed }

-- the next page of the going write with a ticket
abbrev pub page_of_ticket : DriveConfig → PlainState → ℕ → Option Written
page_of_ticket c s ticket = option_and_then (λ (g : Going). option_map (next_page c s g) (write_of g.command)) (going_with c s ticket)

-- what pages hold, with another one at a page
abbrev pub with_written : (Spot → Option Written) → Spot → Option Written → Spot → Option Written
with_written pages spot x at = if is_spot at spot then x else pages at

-- what pages hold, without those of a unit
abbrev pub without_unit : (Spot → Option Written) → ℕ → Spot → Option Written
without_unit pages unit at = if at.unit == unit then None else pages at

-- What pages hold after an entry: a Placed entry puts the next page of its write, a Copied entry what its old page holds; a unit
-- that was erased, or was to be, holds nothing.
abbrev pub written_after : DriveConfig → PlainState → (Spot → Option Written) → Entry → Spot → Option Written
written_after c s pages (entries.Host h) = pages
written_after c s pages (entries.Started started) = pages
written_after c s pages (entries.Placed p) = with_written pages (record { unit = p.unit; page = p.page }) (page_of_ticket c s p.ticket)
written_after c s pages (entries.Copied copied) = with_written pages copied.to (pages copied.from)
written_after c s pages (entries.Moved m) = pages
written_after c s pages (entries.Erased e) = without_unit pages e.unit
written_after c s pages (entries.Retired r) = without_unit pages r.unit
written_after c s pages (entries.Aside a) = pages
written_after c s pages (entries.Shut shut) = pages
written_after c s pages (entries.Worn w) = pages
written_after c s pages entries.Reopened = pages

-- what pages hold after the entries that follow a state
unfoldable pub written_from : DriveConfig → PlainState → (Spot → Option Written) → List Entry → Spot → Option Written
written_from c s pages [] = pages
written_from c s pages (e ∷ es) = written_from c (after c s e) (written_after c s pages e) es

-- what pages hold by a history that began with these
abbrev pub written_by : DriveConfig → Found → (Spot → Option Written) → List Entry → Spot → Option Written
written_by c found first es = written_from c (first_state c found) first es

-- a page holds this spare and this block
abbrev pub IsWritten : (Spot → Option Written) → Spot → DataSpare → List ℕ → Type 0
IsWritten pages spot spare bytes = pages spot ≡ Some (record { spare = spare; bytes = bytes })
