-- The rows that an entry changes among the sites and the copies.
use Rattle.std.specs.Prelude.{ℕ, ◌/◌, ◌<◌, length, slice_get}
use Rattle.std.specs.Option.{IfSome}
use Rattle.std.specs.Vec.{vec_capacity, vec_len}
use Rattle.fdp_base.specs.declared.entry.Entry.{Entry}
use Rattle.fdp_base.specs.declared.entry.Entry.TheVariants as entries
use Rattle.fdp_tables.specs.declared.state.Kept.{Kept}

-- the page of a write has a place for its site
pub record HasPage (k : Kept) (ticket index : ℕ) : Type 0 where
  pub ticket_is : ticket < length k.sites.rows
  pub index_is : IfSome (slice_get k.sites.rows ticket) (λ pages. index < length pages)

-- a group has its list of copies
abbrev pub HasGroup : Kept → ℕ → Type 0
HasGroup k rg = rg < length k.copies.items

-- the group of a unit has its list of copies
pub record HasGroupOf (k : Kept) (unit : ℕ) : Type 0 where
  pub units : 0 < k.config.units
  pub group : HasGroup k (unit / k.config.units)

-- there is memory for a copy more in the group of a unit
pub record HasCopyRoom (k : Kept) (unit : ℕ) : Type 0 where
  pub group : HasGroupOf k unit
  pub room : IfSome (slice_get k.copies.items (unit / k.config.units)) (λ copies. vec_len copies < vec_capacity copies)

-- the rows that an entry changes are there
abbrev pub HasPlaces : Kept → Entry → Type 0
HasPlaces k (entries.Host h) = Unit {0}
HasPlaces k (entries.Started s) = Unit {0}
HasPlaces k (entries.Placed p) = HasPage k p.ticket p.index
HasPlaces k (entries.Copied c) = HasCopyRoom k c.from.unit
HasPlaces k (entries.Moved m) = HasGroup k m.rg
HasPlaces k (entries.Erased e) = HasGroupOf k e.unit
HasPlaces k (entries.Retired r) = HasGroupOf k r.unit
HasPlaces k (entries.Aside a) = HasGroupOf k a.unit
HasPlaces k (entries.Shut s) = Unit {0}
HasPlaces k (entries.Worn w) = HasGroup k w.rg
HasPlaces k entries.Reopened = Unit {0}
