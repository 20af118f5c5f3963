-- What a placement setting leaves of the handles and the units.
use Rattle.std.proofs.Common.{◌≡◌, ℕ, sym, ◌∙◌, ap}
use Rattle.fdp_base.specs.declared.config.DriveConfig.{DriveConfig}
use Rattle.fdp_base.specs.Placement.{classes_of}
use Rattle.fdp_handles.specs.HandleTable.{HandleTable, blank}
use Rattle.fdp_locations.specs.Located.{AreUnitsOf}
use Rattle.fdp_locations.proofs.Left.{left-alike}
use Rattle.fdp_locations.proofs.Units.{agrees-alike}
use Rattle.fdp_pages.specs.PageTables.{PageTables}
use Rattle.fdp_pages.specs.Steps.{SetsClasses}
use Rattle.fdp_rules.specs.Effect.{no_reference}
use Rattle.fdp_rules.specs.PlainState.{PlainState}
use Rattle.fdp_units.specs.UnitTable.{Cut}

-- the classes of the handles become others, and no handle has a unit
pub units-set : (c : DriveConfig) (s n : PlainState) (t now : PageTables) → n.is_lost ≡ s.is_lost → n.is_worn ≡ s.is_worn → ((rg ruh : ℕ) → n.references rg ruh ≡ no_reference c) → SetsClasses t now (classes_of c n.enabled n.index) → AreUnitsOf c s t → AreUnitsOf c n now
units-set c s n t now lost worn none sets h =
    let alike = left-alike t now sets.leaves in
    let pages : t.units.unit_pages ≡ c.unit_pages = ap (λ (x : Cut). x.unit_pages) h.cut in
    record {
      cut = alike.cut ∙ h.cut;
      agrees = agrees-alike c s n t.units now.units lost worn alike h.agrees;
      unit_pages = h.unit_pages ∙ sym (ap (λ (y : HandleTable). y.unit_pages) sets.handles);
      groups = h.groups ∙ sym (ap (λ (y : HandleTable). y.groups) sets.handles);
      classes = sym (ap (λ (y : HandleTable). y.classes) sets.handles);
      references = λ rg ruh. none rg ruh ∙ sym (sets.references rg ruh ∙ ap blank pages);
    }
