use Rattle.std.proofs.Common.{◌≡◌, ◌∙◌, [], ◌+◌, ◌*◌, ◌<◌, ℕ, None, replicate, ap, false, subst, sym}
use Rattle.fdp_base.specs.declared.config.DriveConfig.{DriveConfig}
use Rattle.fdp_base.specs.declared.config.Geometry.{Geometry}
use Rattle.fdp_base.specs.declared.entry.Spot.{Spot}
use Rattle.fdp_base.specs.Geometry.{data_units}
use Rattle.fdp_base.specs.Placement.{geometry_of}
use Rattle.fdp_handles.specs.HandleTable.{blank, reference_at}
use Rattle.fdp_owners.specs.OwnerTable.{owner_at}
use Rattle.fdp_readings.specs.fdp_pages.PageTables.{PageTables, no_targets}
use Rattle.fdp_units.specs.DataUnits.{free_unit}
use Rattle.fdp_units.specs.UnitTable.{is_worn_at, unit_at}
use Rattle.fdp_book.specs.Book.{AreUnused}
use Rattle.fdp_rules.specs.History.{first_state, fresh, point_of, state_of}
use Rattle.fdp_book.proofs.Outlining.{generation-said}
use Rattle.fdp_book.proofs.Held.Fresh.{held-fresh}
use Rattle.fdp_book.proofs.book.fresh.configured_tables.Goals as goal

unused : (c : DriveConfig) (g : Geometry) (t : PageTables) → g ≡ geometry_of c → ((rg ruh : ℕ) → reference_at t.handles rg ruh ≡ blank g.unit_pages) → ((unit : ℕ) → unit < data_units g → unit_at t.units unit ≡ free_unit) →
    ((rg : ℕ) → is_worn_at t.units rg ≡ false) → ((spot : Spot) → owner_at t.owners spot ≡ None) → t.passes ≡ replicate g.groups (no_targets g.unit_pages) → AreUnused c t
unused c g t is references units worn owners passes = record {
  references = λ rg ruh. references rg ruh ∙ ap (λ (x : Geometry). blank x.unit_pages) is;
  units = λ unit low. units unit (subst (λ (x : Geometry). unit < x.groups * x.units) (sym is) low);
  worn = worn;
  owners = owners;
  passes = passes ∙ ap (λ (x : Geometry). replicate x.groups (no_targets x.unit_pages)) is;
}

pub returns-clause-held : goal.returns-clause-held
returns-clause-held c =
    let config = c.args.config.now in
    let geometry : c.geometry.result ≡ geometry_of config = c.geometry.ensures.value in
    let pages = c.in_ok-pages.ensures in
    held-fresh config c.requires _
    c.in_ok-configured_outline.ensures
    (record {
      joined = c.joined.ensures;
      classes = pages.classes ∙ c.classes-classes.ensures;
      cut = pages.cut ∙ ap (λ (g : Geometry). record { unit_pages = g.unit_pages; group_units = g.units; groups = g.groups }) geometry;
      unused = unused config c.geometry.result c.in_ok-pages.pages geometry pages.handles pages.units pages.worn pages.owners pages.passes;
    })
    c.in_ok-configured_map.ensures
    (c.in_ok-no_flights.ensures ∙ ap (λ (n : ℕ). replicate (n + 1) None) c.from.ensures)

pub returns-clause-unused : goal.returns-clause-unused
returns-clause-unused c =
    let pages = c.in_ok-pages.ensures in
    unused c.args.config.now c.geometry.result c.in_ok-pages.pages c.geometry.ensures.value pages.handles pages.units pages.worn pages.owners pages.passes

pub returns-clause-generation : goal.returns-clause-generation
unfolding point_of state_of first_state fresh
returns-clause-generation c = let config = c.args.config.now in sym (generation-said config (point_of config (fresh config) []) _ c.in_ok-configured_outline.ensures)
