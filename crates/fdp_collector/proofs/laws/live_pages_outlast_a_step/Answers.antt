use Rattle.std.proofs.Common.{◌≡◌, ◌∙◌, ℕ, ◌≤◌, Bool, List, Option, Some, None, refl, ap, arith, inl, inr}
use Rattle.std.specs.Prelude.{is_some, slice_get}
use Rattle.fdp_base.specs.declared.config.Class.{Class}
use Rattle.fdp_base.specs.declared.config.Geometry.{Geometry}
use Rattle.fdp_base.specs.declared.entry.Spot.{Spot}
use Rattle.fdp_collector.specs.Leaving.{StepMayLeave}
use Rattle.fdp_collector.specs.Ready.{AreOfFlash, IsReady, KeepsLive, Relocation}
use Rattle.fdp_collector.proofs.Copied.{left-same}
use Rattle.fdp_collector.proofs.Readied.{erase-keeps-live}
use Rattle.fdp_collector.proofs.Stored.{other-kept}
use Rattle.fdp_flash.specs.declared.cell.Cell.{Cell}
use Rattle.fdp_flash.specs.Layout.{page_number}
use Rattle.fdp_owners.specs.declared.owner.Owner.{Owner}
use Rattle.fdp_owners.specs.OwnerTable.{OwnerTable, owner_at}
use Rattle.fdp_units.specs.UnitTable.{unit_at}
use Rattle.fdp_collector.proofs.laws.live_pages_outlast_a_step.Goals as goal

-- a page that was not used has no owner
unowned : (s : Relocation) (o : OwnerTable) (classes : List Class) (rg : ℕ) (spot : Spot) → IsReady s o classes rg → (unit_at s.units spot.unit).next ≤ spot.page → owner_at o spot ≡ None
unowned s o classes rg spot ready unused = cases (owner_at o spot) refl where
  cases : (x : Option Owner) → owner_at o spot ≡ x → owner_at o spot ≡ None
  cases None e = e
  cases (Some x) e = absurd (omega (arith, ready.live.used spot (ap is_some e), unused))

kept : (s : Relocation) (o : OwnerTable) (classes : List Class) (rg : ℕ) (may_erase : Bool) (g : Geometry) (old image : List Cell) → IsReady s o classes rg → AreOfFlash s.units g → StepMayLeave may_erase g s.units o old image → KeepsLive g o old image
kept s o classes rg may_erase g old image ready cut (inl same) spot live = ap (λ (cs : List Cell). slice_get cs (page_number g spot)) same
kept s o classes rg may_erase g old image ready cut (inr (inl h)) spot live = other-kept g o h.at old image (ready.cut.owners ∙ cut.unit_pages) h.page.page (unowned s o classes rg h.at ready h.unused) (left-same g h.at h.spare h.bytes old image h.left) spot live
kept s o classes rg may_erase g old image ready cut (inr (inr h)) spot live = erase-keeps-live s o classes rg h.1.unit g old image ready cut h.1.empty h.1.left spot live

pub returns : goal.returns
returns c = record { kept = kept }
