-- The tables that an opening makes stand for the point at which the run begins.
use Rattle.std.proofs.Common.{◌≡◌, ℕ, ◌*◌, ◌<◌, List, [], Option, Some, None, refl, sym, ◌∙◌, ap, subst, arith, ⊎_elim}
use Rattle.std.specs.Prelude.{Contains, option_map}
use Rattle.std.specs.Option.{option_map_or}
use Rattle.fdp_base.specs.declared.config.DriveConfig.{DriveConfig}
use Rattle.fdp_base.specs.declared.entry.Copied.{Copied}
use Rattle.fdp_base.specs.declared.entry.Spot.{Spot}
use Rattle.fdp_base.specs.Config.{IsValidConfig}
use Rattle.fdp_base.specs.Placement.{geometry_of}
use Rattle.fdp_flash.specs.declared.cell.Cell.{Cell}
use Rattle.fdp_flash.specs.declared.cell.Cell.TheVariants.{Blank, Whole}
use Rattle.fdp_found.specs.Beginning.{CanBegin}
use Rattle.fdp_found.specs.Finding.{found_in}
use Rattle.fdp_found.specs.Opened.{AreOpened, led_in, spare_found}
use Rattle.fdp_found.proofs.Leading.{led-none, led-some, held-on, stands-on}
use Rattle.fdp_found.proofs.Paging.{blank-unit, held-of}
use Rattle.fdp_found.proofs.Pointing.{led-apart, led-block, led-carries, led-handled, led-owners, led-units}
use Rattle.fdp_found.proofs.Stating.{state-found}
use Rattle.fdp_image.specs.Reading.{Reading, spot_of}
use Rattle.fdp_image.specs.Valid.{IsValid}
use Rattle.fdp_locations.specs.Held.{pages_held}
use Rattle.fdp_locations.specs.Located.{AreHandled, AreLed, AreUnitsOf, next_in}
use Rattle.fdp_locations.specs.Stored.{HoldsWritten}
use Rattle.fdp_locations.specs.Written.{IsWritten, Written}
use Rattle.fdp_owners.specs.declared.owner.Owner.{Owner}
use Rattle.fdp_owners.specs.Owned.{AreOwners}
use Rattle.fdp_locations.specs.fdp_pages.PageTables.{PageTables, passes_at}
use Rattle.fdp_passes.specs.Due.{copies_in}
use Rattle.fdp_passes.specs.GroupPasses.{GroupPasses, Pass}
use Rattle.fdp_pointers.specs.Contents.{content_at}
use Rattle.fdp_pointers.specs.Facts.{Carries, IsBelow, Page}
use Rattle.fdp_pointers.specs.Pointers.{Pointer.of_block}
use Rattle.fdp_pointers.proofs.Opening.{table-first}
use Rattle.fdp_records.proofs.SpareTold.{said_is_spelled}
use Rattle.fdp_rules.specs.History.{first_state, point_of, state_of}
use Rattle.fdp_rules.specs.PlainState.{PlainState}
use Rattle.fdp_rules.specs.Step.{IsDataUnit}
use Rattle.fdp_locations.proofs.fdp_trails.Following.{pass-ended}
use Rattle.fdp_units.specs.DataUnits.{is_lost}
use Rattle.fdp_units.specs.UnitTable.{Cut, IsUnit}

-- ---- units

there : (c : DriveConfig) (cells : List Cell) (r : Reading) (t : PageTables) → AreOpened c cells r t → (unit : ℕ) → IsUnit t.units unit → IsDataUnit c unit
there c cells r t h unit is = subst (λ (k : Cut). unit < k.groups * k.group_units) h.cut is

-- a page that holds something is one of those that were used
pub used-next : (c : DriveConfig) (cells : List Cell) (r : Reading) (t : PageTables) → AreOpened c cells r t → (spot : Spot) (x : Written) → pages_held c cells spot ≡ Some x → spot.page < next_in t.units spot.unit
used-next c cells r t h spot x held =
    let is = held-of c cells spot x held in
    ⊎_elim
    (λ free.
    let both : Some Blank ≡ Some (Whole is.spare x.bytes) = sym ((blank-unit (geometry_of c) cells spot.unit free.2).blank spot.page is.page.1) ∙ is.cell in
    absurd cc)
    (λ closed. omega (arith, is.page.1, closed.1))
    (h.units spot.unit is.page.0)

pub holds-opened : (c : DriveConfig) (cells : List Cell) (r : Reading) (t : PageTables) → AreOpened c cells r t → HoldsWritten (geometry_of c) cells (pages_held c cells) t.units
holds-opened c cells r t h = record {
  lie = λ spot x held. let is = held-of c cells spot x held in record { unit = is.page.0; page = is.page.1 };
  whole = λ spot x held.
      let is = held-of c cells spot x held in
      is.cell ∙ ap (λ (spare : List ℕ). Some (Whole spare x.bytes)) (sym (said_is_spelled is.spare x.spare is.says));
  blank = λ unit is kept.
      ⊎_elim
      (λ free.
      let all = blank-unit (geometry_of c) cells unit free.2 in
      record { blank = λ page low within. all.blank page within })
      (λ closed. record { blank = λ page low within. absurd (omega (arith, low, within, closed.1)) })
      (h.units unit (there c cells r t h unit is));
}

pub units-opened : (c : DriveConfig) (cells : List Cell) (r : Reading) (t : PageTables) → AreOpened c cells r t → AreUnitsOf c (point_of c (found_in c cells r) []).state t
unfolding point_of state_of first_state
units-opened c cells r t h = record {
  cut = h.cut;
  agrees = record {
    units = sym (ap (λ (k : Cut). k.group_units) h.cut);
    lost = λ unit is.
        ⊎_elim
        (λ free. sym (ap is_lost free.0))
        (λ closed. sym (ap is_lost closed.0))
        (h.units unit (there c cells r t h unit is));
    worn = λ rg. sym (h.worn rg);
  };
  unit_pages = h.handles.unit_pages;
  groups = h.handles.groups;
  classes = h.handles.classes;
  references = λ rg ruh. sym (h.handles.references rg ruh);
}

-- ---- pointers

no-copy : (p : GroupPasses) (copy : Copied) → p.pass ≡ None → Contains (copies_in p) copy → ⊥
no-copy p copy none has =
    let empty : copies_in p ≡ [] = ap (λ (o : Option Pass). option_map_or (λ (pass : Pass). pass.copies) o []) none in
    let has_none : Contains [] copy = subst (λ (xs : List Copied). Contains xs copy) empty has in
    omega (arith, has_none.1)

pub leads-opened : (c : DriveConfig) (cells : List Cell) (r : Reading) (nsid lba : ℕ) → IsValidConfig c → IsValid c cells r → option_map (λ (y : Page). y.spot) (led_in c cells r (of_block nsid lba)) ≡ option_map (spot_of c) (r.pages nsid lba)
leads-opened c cells r nsid lba config valid = of (r.pages nsid lba) refl where
  of : (o : Option ℕ) → r.pages nsid lba ≡ o → option_map (λ (y : Page). y.spot) (led_in c cells r (of_block nsid lba)) ≡ option_map (spot_of c) (r.pages nsid lba)
  of None none = ap (option_map (λ (y : Page). y.spot)) (led-none c cells r valid nsid lba none) ∙ sym (ap (option_map (spot_of c)) none)
  of (Some page) at =
      ap (option_map (λ (y : Page). y.spot)) (led-some c cells r valid config nsid lba page at (stands-on c cells r valid nsid lba page at)) ∙ sym (ap (option_map (spot_of c)) at)

module _ (c : DriveConfig) (cells : List Cell) (r : Reading) (t : PageTables) (config : IsValidConfig c) (valid : IsValid c cells r) (can : CanBegin r) (h : AreOpened c cells r t) where
  below : IsBelow (next_in t.units) (led_in c cells r)
  below p y e =
      let a = led-block c cells r valid config p y e in
      used-next c cells r t h y.spot _ (ap (λ (z : Page). pages_held c cells z.spot) a.is ∙ held-on c cells r valid config a.nsid a.lba a.page a.on)

  pub led-opened : AreLed c (point_of c (found_in c cells r) []) (pages_held c cells) (led_in c cells r) t
  unfolding point_of state_of first_state
  led-opened = record {
    table = table-first c (found_in c cells r) (spare_found c cells r) (next_in t.units) (led-apart c cells r valid config) below;
    owned = subst (λ (o : Spot → Option Owner). AreOwners o (led_in c cells r)) (λ d spot. sym (h.owners spot) d) (led-owners c cells r valid config);
    named = λ queue index g w y going write e. absurd cc;
    handled = subst (λ (s : PlainState). AreHandled s (led_in c cells r)) (sym (state-found c cells r valid can)) (led-handled c cells r valid config);
    units = led-units c cells r valid config;
    holds = subst (λ (s : PlainState). Carries (IsWritten (pages_held c cells)) (content_at c s) (led_in c cells r)) (sym (state-found c cells r valid can)) (led-carries c cells r valid config);
    below = used-next c cells r t h;
    passes = λ rg low. pass-ended (led_in c cells r) (point_of c (found_in c cells r) []).trail rg (passes_at t rg) (ap (λ (o : Option Pass). option_map_or (λ (pass : Pass). pass.copies) o []) (h.passes rg).pass);
    copies = λ rg low copy has. absurd (no-copy (passes_at t rg) copy (h.passes rg).pass has);
  }
