-- The spare room that an entry takes.
use Rattle.std.specs.Prelude.{◌≡◌, ℕ, ◌+◌, ◌<◌, ◌≤◌, Option, None, Some, map}
use Rattle.std.specs.Option.{IfSome}
use Rattle.std.specs.Vec.{vec_capacity, vec_items, vec_len}
use Rattle.fdp_base.specs.declared.entry.Entry.{Entry}
use Rattle.fdp_base.specs.declared.entry.Entry.TheVariants as entries
use Rattle.fdp_tables.specs.declared.state.Kept.{Kept}
use Rattle.fdp_plain_trail.specs.Places.{HasCopyRoom, HasGroupOf}

-- the unit from which an entry copies a page
abbrev pub copied_unit : Entry → Option ℕ
copied_unit (entries.Host h) = None
copied_unit (entries.Started s) = None
copied_unit (entries.Placed p) = None
copied_unit (entries.Copied c) = Some c.from.unit
copied_unit (entries.Moved m) = None
copied_unit (entries.Erased e) = None
copied_unit (entries.Retired r) = None
copied_unit (entries.Aside a) = None
copied_unit (entries.Shut s) = None
copied_unit (entries.Worn w) = None
copied_unit entries.Reopened = None

-- the group in which an entry copies a page is there
abbrev pub HasCopyGroup : Kept → Entry → Type 0
HasCopyGroup k e = IfSome (copied_unit e) (HasGroupOf k)

-- there is spare room for a copy where an entry makes one
abbrev pub HasCopySpare : Kept → Entry → Type 0
HasCopySpare k e = IfSome (copied_unit e) (HasCopyRoom k)

-- there is spare room for the moment of an error
abbrev pub HasMomentSpare : Kept → Type 0
HasMomentSpare k = vec_len k.media < vec_capacity k.media

-- there is spare room for an entry and for so many events
pub record HasSpare (k : Kept) (e : Entry) (count : ℕ) : Type 0 where
  pub entries : vec_len k.entries < vec_capacity k.entries
  pub events : vec_len k.events + count ≤ vec_capacity k.events
  pub moment : HasMomentSpare k
  pub rows : 0 < k.sites.row_room
  pub copy : HasCopySpare k e

-- all lists hold the same; only their spare room may be another
pub record IsSame (old new : Kept) : Type 0 where
  pub entries : new.entries.items ≡ old.entries.items
  pub media : new.media.items ≡ old.media.items
  pub sites : new.sites.rows ≡ old.sites.rows
  pub copies : map vec_items new.copies.items ≡ map vec_items old.copies.items
  pub events : new.events.items ≡ old.events.items
  pub rest : new ≡ record old { entries = new.entries; media = new.media; sites = new.sites; copies = new.copies; events = new.events }
