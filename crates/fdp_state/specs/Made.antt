-- The pages of the blocks in a loaded state that a change was made in.
use Rattle.std.specs.Prelude.{◌≡◌, ℕ, length}
use Rattle.fdp_base.specs.declared.config.DriveConfig.{DriveConfig}
use Rattle.fdp_records.specs.declared.change.Change.{Change}
use Rattle.fdp_image.specs.Changed.{changed, pages_after}
use Rattle.fdp_image.specs.Checkpoint.{page_in_lists}
use Rattle.fdp_image.specs.Reading.{size_in}
use Rattle.fdp_state.specs.declared.parts.Parts.{Parts}
use Rattle.fdp_state.specs.Owners.{AreOwners, Pages}
use Rattle.fdp_state.specs.Parts.{IsSound, listed, reading_of}

-- the blocks have these pages, and nothing else was changed
pub record HasPages (old new : Parts) (pages : Pages) : Type 0 where
  pub rest : new ≡ record old { pages = new.pages; owners = new.owners }
  pub said : (nsid lba : ℕ) → page_in_lists new.pages.items nsid lba ≡ pages nsid lba
  pub sizes : (nsid : ℕ) → listed new.pages.items nsid ≡ listed old.pages.items nsid
  pub sound : IsSound new

-- the blocks have the pages that a change gives them, in lists as long as the namespaces have blocks behind it, and nothing else was changed
pub record HasPagesAfter (c : DriveConfig) (change : Change) (old new : Parts) : Type 0 where
  pub rest : new ≡ record old { pages = new.pages; owners = new.owners }
  pub said : (nsid lba : ℕ) → page_in_lists new.pages.items nsid lba ≡ pages_after c (reading_of old) change nsid lba
  pub sizes : (position nsid : ℕ) → listed new.pages.items nsid ≡ size_in (changed c (reading_of old) position change) nsid
  pub lists : length new.pages.items ≡ 16
  pub owners : AreOwners (page_in_lists new.pages.items) new.owners.items
