-- What an image says does not depend on the keys that are not compared.
use Rattle.std.proofs.Common.{◌≡◌, Bool, List, [], ◌∷◌, Some, refl, ap, ◌∙◌}
use Rattle.std.specs.Prelude.{◌&&◌, fold}
use Rattle.std.specs.List.{concat}
use Rattle.fdp_base.specs.declared.config.DriveConfig.{DriveConfig}
use Rattle.fdp_base.specs.declared.entry.Totals.{Totals}
use Rattle.fdp_records.specs.declared.change.Change.{Change}
use Rattle.fdp_records.specs.declared.change.Change.TheVariants as changes
use Rattle.fdp_image.specs.Applied.{applied, with_changes}
use Rattle.fdp_image.specs.Areas.{Sealed}
use Rattle.fdp_image.specs.BadFields.{bad_field, bad_row}
use Rattle.fdp_image.specs.ChangeEvents.{events_of_change, kept_of_change}
use Rattle.fdp_image.specs.Checkpoint.{said_by_checkpoint}
use Rattle.fdp_image.specs.CheckpointFields.{same_keys}
use Rattle.fdp_image.specs.Fits.{all_fit, are_born, fits, names_what_is}
use Rattle.fdp_image.specs.Outline.{state_with}
use Rattle.fdp_image.specs.Reading.{Reading}
use Rattle.fdp_image.specs.Reads.{is_checkpoint_of, is_sound_checkpoint, said_by_area}
use Rattle.fdp_image.proofs.Fitting.{said_by-made, said_by-parts}
use Rattle.fdp_recovery.specs.Taken.{HasSameKeys}

-- a configuration with the compared keys of another
abbrev pub with_keys : DriveConfig → DriveConfig → DriveConfig
with_keys c d = record d {
  block = c.block;
  unit_pages = c.unit_pages;
  groups = c.groups;
  units = c.units;
  area_units = c.area_units;
  queues = c.queues;
  blocks_per_command = c.blocks_per_command;
  fdp = c.fdp;
}

pub same-drive : (c d : DriveConfig) → HasSameKeys c d → d ≡ with_keys c d
same-drive c d h = λ i. record d {
  block = h.block i;
  unit_pages = h.unit_pages i;
  groups = h.groups i;
  units = h.units i;
  area_units = h.area_units i;
  queues = h.queues i;
  blocks_per_command = h.blocks_per_command i;
  fdp = h.fdp i;
}

-- ---- changes

names-same : (c d : DriveConfig) (r : Reading) (change : Change) → names_what_is (with_keys c d) r change ≡ names_what_is c r change
unfolding names_what_is
names-same c d r (changes.Write nsid slba pid pid_invalid pages) = refl
names-same c d r (changes.Clear nsid ranges) = refl
names-same c d r (changes.Update nsid closed pids) = refl
names-same c d r (changes.Create nsid size given handles) = refl
names-same c d r (changes.Delete nsid) = refl
names-same c d r (changes.SetFdp enabled index generation) = refl
names-same c d r (changes.SetEvents ruh on mask) = refl
names-same c d r (changes.Moved victim first second handles) = refl
names-same c d r (changes.Shut rg ruh) = refl

applied-same : (c d : DriveConfig) (r : Reading) (change : Change) (totals : Totals) → applied (with_keys c d) r (change, totals) ≡ applied c r (change, totals)
unfolding applied kept_of_change events_of_change state_with
applied-same c d r (changes.Write nsid slba pid pid_invalid pages) totals = refl
applied-same c d r (changes.Clear nsid ranges) totals = refl
applied-same c d r (changes.Update nsid closed pids) totals = refl
applied-same c d r (changes.Create nsid size given handles) totals = refl
applied-same c d r (changes.Delete nsid) totals = refl
applied-same c d r (changes.SetFdp enabled index generation) totals = refl
applied-same c d r (changes.SetEvents ruh on mask) totals = refl
applied-same c d r (changes.Moved victim first second handles) totals = refl
applied-same c d r (changes.Shut rg ruh) totals = refl

fold-same : (c d : DriveConfig) (r : Reading) (xs : List (Change × Totals)) → with_changes (with_keys c d) r xs ≡ with_changes c r xs
fold-same c d r xs = ap (λ (f : Reading → Change × Totals → Reading). fold f r xs) (λ i s x. applied-same c d s x.0 x.1 i)

all_fit-same : (c d : DriveConfig) (r : Reading) (xs : List (Change × Totals)) → all_fit fits (with_keys c d) r xs ≡ all_fit fits c r xs
unfolding all_fit
all_fit-same c d r [] = refl
all_fit-same c d r (x ∷ xs) =
    ap (λ (b : Bool). are_born r x.1.position && b && all_fit fits (with_keys c d) (applied (with_keys c d) r x) xs) (names-same c d r x.0)
    ∙ ap (λ (s : Reading). fits c r x && all_fit fits (with_keys c d) s xs) (applied-same c d r x.0 x.1)
    ∙ ap (λ (b : Bool). fits c r x && b) (all_fit-same c d (applied c r x) xs)

-- ---- areas

sound-same : (c d : DriveConfig) (z : Sealed) → is_sound_checkpoint (with_keys c d) z ≡ is_sound_checkpoint c z
unfolding is_sound_checkpoint is_checkpoint_of same_keys bad_field bad_row
sound-same c d z = refl

-- an area says the same
pub said-same : (c d : DriveConfig) (z : Sealed) (r : Reading) → said_by_area c z ≡ Some r → said_by_area (with_keys c d) z ≡ Some r
said-same c d z r said =
    let h = said_by-parts c z r said in
    let first = said_by_checkpoint (concat z.checkpoint) in
    said_by-made (with_keys c d) z r (record {
      sound = sound-same c d z ∙ h.sound;
      changes = h.changes;
      told = h.told;
      after = record { fit = all_fit-same c d first h.changes ∙ h.after.fit; said = fold-same c d first h.changes ∙ h.after.said };
    })
