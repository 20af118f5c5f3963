-- What an entry leaves in the tables, but for its change.
use Rattle.std.specs.Prelude.{◌≡◌, ℕ, ◌+◌, ◌<◌, ◌++◌, ◌∷◌, [], List, Some, length}
use Rattle.fdp_base.specs.declared.entry.Entry.{Entry}
use Rattle.fdp_base.specs.declared.event.Event.{Event}
use Rattle.fdp_base.specs.declared.entry.Spot.{Spot}
use Rattle.fdp_rules.specs.PlainState.{PageName.found, PageName.written}
use Rattle.fdp_rules.specs.Sites.{traced_by}
use Rattle.fdp_rules.specs.Totals.{erases_of, host_blocks_of, media_blocks_of}
use Rattle.fdp_tables.specs.declared.state.Kept.{Kept}
use Rattle.fdp_plain_trail.specs.Rows.{places_of}
use Rattle.fdp_tables.specs.State.{copies_at, point_kept, site_at, table_site, table_trail}

-- where the pages stand that were found is what an entry leaves of that, by the tables
abbrev pub TracesFound : Kept → Kept → Entry → Type 0
TracesFound old new e = (spot : Spot) → table_site new (found spot) ≡ (traced_by old.config (table_trail old) e).site (found spot)

-- sites and copies are what an entry leaves of them; so many pages more have places, under the next ticket
pub record IsTraced (old new : Kept) (e : Entry) (pages : ℕ) : Type 0 where
  pub sites : (ticket index : ℕ) → site_at new (written ticket index) ≡ (traced_by old.config (point_kept old).trail e).site (written ticket index)
  pub copies : copies_at new ≡ (traced_by old.config (point_kept old).trail e).copies
  pub rest : new ≡ record old { sites = new.sites; found = new.found; copies = new.copies }
  pub site_rows : length new.sites.rows ≡ length old.sites.rows + 1
  pub copy_rows : length new.copies.items ≡ length old.copies.items
  pub earlier : (ticket : ℕ) → ticket < length old.sites.rows → places_of new ticket ≡ places_of old ticket
  pub latest : places_of new (length old.sites.rows) ≡ Some pages

-- the sums, the events and the entries have an entry more
pub record IsLonger (old new : Kept) (e : Entry) (kept : List Event) : Type 0 where
  pub host_blocks : new.host_blocks ≡ old.host_blocks + host_blocks_of e
  pub media_blocks : new.media_blocks ≡ old.media_blocks + media_blocks_of e
  pub erases : new.erases ≡ old.erases + erases_of e
  pub events : new.events.items ≡ old.events.items ++ kept
  pub entries : new.entries.items ≡ old.entries.items ++ e ∷ []
  pub rest : new ≡ record old { host_blocks = new.host_blocks; media_blocks = new.media_blocks; erases = new.erases; events = new.events; entries = new.entries }
