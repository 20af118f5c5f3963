-- What is made for an entry before anything changes.
use Rattle.std.specs.Option.{option_map_or}
use Rattle.std.specs.Prelude.{◌≡◌, ℕ, None, replicate}
use Rattle.fdp_base.specs.declared.entry.Entry.{Entry}
use Rattle.fdp_base.specs.EntryKinds.{started_of}
use Rattle.fdp_tables.specs.declared.state.Kept.{Kept}
use Rattle.fdp_plain_effects.specs.Ready.{IsChangeReady}
use Rattle.fdp_plain.specs.declared.prepare.Prepared.{Prepared}
use Rattle.fdp_base.specs.CommandKinds.{blocks_written}

-- how many pages are to be written for an entry: those of a write that it lets go
abbrev pub pages_of : Entry → ℕ
pages_of e = option_map_or (λ s. blocks_written s.command) (started_of e) 0

-- what the change of an entry needs, and a place for each page that is to be written for it
pub record IsPrepared (k : Kept) (x : Prepared) : Type 0 where
  pub ready : IsChangeReady k x.entry x.made.blocks.items x.made.space x.made.going
  pub pages : x.pages.items ≡ replicate (pages_of x.entry) None
