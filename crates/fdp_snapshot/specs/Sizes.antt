-- Numbers of a state that have the width of their fields.
use Rattle.std.specs.Prelude.{◌≡◌, ℕ, ◌^◌, ◌<◌, length, All, Option, Some, None}
use Rattle.fdp_base.specs.declared.event.Event.{Event}
use Rattle.fdp_records.specs.Sizes.{TotalsFit}
use Rattle.fdp_snapshot.specs.declared.keys.HandleRow.{HandleRow}
use Rattle.fdp_snapshot.specs.declared.keys.Keys.{Keys}
use Rattle.fdp_snapshot.specs.declared.space.Space.{Space}
use Rattle.fdp_snapshot.specs.declared.state.Summary.{Summary}

abbrev pub AnyPage : Option ℕ → Type 0
AnyPage page = Unit {0}

abbrev pub AnyRow : HandleRow → Type 0
AnyRow x = Unit {0}

abbrev pub RowFits : HandleRow → Type 0
RowFits x = x.persistent < 2 ^ 16

abbrev pub AnyEvent : Event → Type 0
AnyEvent e = Unit {0}

pub record EventFits (e : Event) : Type 0 where
  pub pid : e.pid < 2 ^ 16
  pub position : e.position < 2 ^ 64
  pub nsid : e.nsid < 2 ^ 32
  pub moved : e.moved < 2 ^ 16
  pub lba : e.lba < 2 ^ 64
  pub rg : e.rg < 2 ^ 16

abbrev pub SpaceFits : Option Space → Type 0
SpaceFits None = Unit {0}
SpaceFits (Some x) = (x.size < 2 ^ 64) × (x.birth < 2 ^ 64)

pub record KeysFit (k : Keys) : Type 0 where
  pub block : k.block < 2 ^ 32
  pub unit_pages : k.unit_pages < 2 ^ 32
  pub groups : k.groups < 2 ^ 32
  pub units : k.units < 2 ^ 32
  pub area_units : k.area_units < 2 ^ 32
  pub queues : k.queues < 2 ^ 32
  pub blocks_per_command : k.blocks_per_command < 2 ^ 32
  pub configurations : All RowFits k.configurations

pub record HeadFits (s : Summary) : Type 0 where
  pub totals : TotalsFit s.totals
  pub generation : s.generation < 2 ^ 32

pub record ListsFit (s : Summary) : Type 0 where
  pub masks : length s.masks ≡ 16
  pub spaces : All SpaceFits s.spaces
  pub host_events : All EventFits s.host_events
  pub controller_events : All EventFits s.controller_events

pub record SummaryFits (s : Summary) : Type 0 where
  pub head : HeadFits s
  pub keys : KeysFit s.keys
  pub lists : ListsFit s
