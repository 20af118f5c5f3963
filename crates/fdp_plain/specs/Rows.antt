-- Which rows the tables of a plain drive have.
use Rattle.std.specs.Prelude.{◌≡◌, ℕ, ◌+◌, ◌*◌, Some, length}
use Rattle.fdp_rules.specs.PlainState.{Going}
use Rattle.fdp_tables.specs.declared.state.Kept.{Kept}
use Rattle.fdp_plain_trail.specs.Rows.{places_of}
use Rattle.fdp_tables.specs.State.{plain_of}
use Rattle.fdp_base.specs.CommandKinds.{blocks_written}

-- each table has its rows, and each page of a going write a place for its site
pub record HasRows (k : Kept) : Type 0 where
  pub spaces : length k.spaces.items ≡ 17
  pub reports : length k.reports.items ≡ 16
  pub references : length k.references.items ≡ 16 * k.config.groups
  pub going : length k.going.items ≡ k.config.queues + 1
  pub lost : length k.lost.items ≡ k.config.groups * k.config.units
  pub worn : length k.worn.items ≡ k.config.groups
  pub sites : length k.sites.rows ≡ length k.entries.items + 1
  pub copies : length k.copies.items ≡ k.config.groups
  pub pages : (queue : ℕ) (g : Going) → (plain_of k).going queue ≡ Some g → places_of k g.ticket ≡ Some (blocks_written g.command)
