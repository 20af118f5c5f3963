-- What is told of an area, as an opening tells it.
use Rattle.std.proofs.Common.{◌≡◌, ◌⊎◌, ℕ, List, Option, Some, None, Err, sym, ap, subst, ◌∙◌, inl, inr}
use Rattle.std.specs.Option.{option_and_then}
use Rattle.std.specs.List.{concat}
use Rattle.fdp_checkpoint.specs.fdp_areas.declared.seal.Current.{Current}
use Rattle.fdp_checkpoint.specs.fdp_areas.Seals.{IsCurrentSeal, IsSealOf}
use Rattle.fdp_base.specs.declared.config.DriveConfig.{DriveConfig}
use Rattle.fdp_base.specs.declared.config.Geometry.{Geometry}
use Rattle.fdp_base.specs.Placement.{geometry_of}
use Rattle.fdp_checkpoint.specs.Pages.{IsBadIn}
use Rattle.fdp_flash.specs.declared.cell.Cell.{Cell}
use Rattle.fdp_image.specs.Areas.{Sealed, current_area}
use Rattle.fdp_image.specs.Checkpoint.{reading_of_state}
use Rattle.fdp_records.specs.declared.spare.Stamp.{Stamp}
use Rattle.fdp_snapshot.specs.declared.keys.Keys.{Keys}
use Rattle.fdp_snapshot.specs.declared.state.State.{State}
use Rattle.fdp_recovery.specs.declared.opened.OpenFault.{OpenFault}
use Rattle.fdp_recovery.specs.declared.opened.OpenFault.TheVariants as faults
use Rattle.fdp_state.specs.Good.{IsGood}
use Rattle.fdp_recovery.specs.Bad.{HasBadField, IsBadPage, IsBadRecord}
use Rattle.fdp_recovery.specs.Blocks.{TellsBlocks}
use Rattle.fdp_recovery.specs.Keys.{keys_of_area, keys_on, other_key}
use Rattle.fdp_recovery.specs.Opened.{IsBadImage, IsCurrent, IsLeft, TellsOpened}
use Rattle.fdp_recovery.specs.Reading.{HasSameKeys, SaysNone, SaysSound, TellsArea, TellsCheckpoint}
use Rattle.fdp_recovery.proofs.SameKeys.{same_both, same_flash}
use Rattle.fdp_recovery.proofs.Sound.{sound_reads}
use Rattle.fdp_recovery.proofs.Valid.{valid-of}

-- without a current area a flash names no values
pub no_area_keys : (g : Geometry) (cells : List Cell) → current_area g cells ≡ None → keys_on g cells ≡ None
unfolding keys_on
no_area_keys g cells none = ap (option_and_then (λ (x : ℕ × Sealed). keys_of_area g.block x.1)) none

-- else those of that area
pub area_keys : (g : Geometry) (cells : List Cell) (area : ℕ) (z : Sealed) → current_area g cells ≡ Some (area, z) → keys_on g cells ≡ keys_of_area g.block z
unfolding keys_on
area_keys g cells area z current = ap (option_and_then (λ (x : ℕ × Sealed). keys_of_area g.block x.1)) current

-- where no key differs, the flash is cut as the configuration asks
pub cut_of : (c : DriveConfig) (g : Geometry) (z : Sealed) → HasSameKeys c g z → g ≡ geometry_of c
cut_of c g z h = of_keys (keys_of_area g.block z) h.same where
  of_keys : (o : Option Keys) → other_key c g o ≡ None → g ≡ geometry_of c
  of_keys None none = same_flash c g none
  of_keys (Some k) none = (same_both c g k none).cut

-- the current area is sealed so
pub current_seal : (g : Geometry) (cells : List Cell) (x : Current) (z : Sealed) → IsCurrentSeal g cells x → current_area g cells ≡ Some (x.area, z) → IsSealOf x.seal z
current_seal g cells x z is current =
    let both : Some (x.area, is.area) ≡ Some (x.area, z) = sym is.current ∙ current in
    let pair : (x.area, is.area) ≡ (x.area, z) = cc in
    let one : is.area ≡ z = ap (λ (p : ℕ × Sealed). p.1) pair in
    subst (IsSealOf x.seal) one is.seal_is

-- a fault of the checkpoint is one of the area
pub fault_of_area : (c : DriveConfig) (g : Geometry) (area : ℕ) (z : Sealed) (fault : OpenFault) → TellsCheckpoint c g area z (Err fault) → TellsArea c g area z (Err fault)
fault_of_area c g area z (faults.OtherConfig key) h = h
fault_of_area c g area z faults.NotADrive h = h
fault_of_area c g area z (faults.BadImage page) h = record { keys = h.keys; bad = of_bad h.bad } where
  of_bad : IsBadIn g area z.stamp.version (concat z.checkpoint) page ⊎ HasBadField c area z page → IsBadIn g area z.stamp.version (concat z.checkpoint) page ⊎ HasBadField c area z page ⊎ IsBadRecord c area z page
  of_bad (inl bad) = inl bad
  of_bad (inr bad) = inr (inl bad)
fault_of_area c g area z (faults.FlashFault moment) h = tt
fault_of_area c g area z faults.Spent h = h
fault_of_area c g area z faults.NoMemory h = tt

current_is : (c : DriveConfig) (g : Geometry) (cells : List Cell) (area : ℕ) (z : Sealed) → current_area g cells ≡ Some (area, z) → HasSameKeys c g z → IsCurrent c g cells area z
current_is c g cells area z current keys = record { current = current; same = ap (other_key c g) (area_keys g cells area z current) ∙ keys.same }

bad_page : (c : DriveConfig) (g : Geometry) (cells : List Cell) (area : ℕ) (z : Sealed) (page : ℕ) → SaysNone c g area z page → IsBadPage c cells area z page
bad_page c g cells area z page h = of_bad h.bad where
  of_bad : IsBadIn g area z.stamp.version (concat z.checkpoint) page ⊎ HasBadField c area z page ⊎ IsBadRecord c area z page → IsBadPage c cells area z page
  of_bad (inl bad) = inl (subst (λ (x : Geometry). IsBadIn x area z.stamp.version (concat z.checkpoint) page) (cut_of c g z h.keys) bad)
  of_bad (inr (inl bad)) = inr (inl bad)
  of_bad (inr (inr bad)) = inr (inr (inl bad))

-- a fault of the current area is one of the opening
pub fault_opened : (c : DriveConfig) (g : Geometry) (cells : List Cell) (area : ℕ) (z : Sealed) (fault : OpenFault) → current_area g cells ≡ Some (area, z) → TellsArea c g area z (Err fault) → TellsOpened c g cells (Err fault)
fault_opened c g cells area z (faults.OtherConfig key) current h = ap (other_key c g) (area_keys g cells area z current) ∙ h
fault_opened c g cells area z faults.NotADrive current h = absurd h
fault_opened c g cells area z (faults.BadImage page) current h = record { area = area; z = z; current = current_is c g cells area z current h.keys; bad = bad_page c g cells area z page h }
fault_opened c g cells area z (faults.FlashFault moment) current h = tt
fault_opened c g cells area z faults.Spent current h = absurd h
fault_opened c g cells area z faults.NoMemory current h = tt

-- blocks that are kept in a sound area
pub left_so : (c : DriveConfig) (g : Geometry) (cells : List Cell) (x : Current) (z : Sealed) (s : State) → IsGood c (reading_of_state s) → IsCurrentSeal g cells x → current_area g cells ≡ Some (x.area, z) → SaysSound c g z s
    → TellsBlocks c cells (reading_of_state s) None → IsLeft c g cells s x.area x.seal.stamp.epoch
left_so c g cells x z s good is current says blocks =
    let cut = cut_of c g z says.keys in
    record {
      z = z;
      current = current_is c g cells x.area z current says.keys;
      epoch_is = sym (ap (λ (t : Stamp). t.epoch) (current_seal g cells x z is current).stamp);
      sound = record { area = says.sound; blocks = blocks };
      reads = sound_reads c cells x.area z (reading_of_state s) (ap (λ (y : Geometry). current_area y cells) (sym cut) ∙ current) says.sound;
      valid = valid-of c cells (reading_of_state s) good blocks;
    }

-- and one that is not
pub bad_block : (c : DriveConfig) (g : Geometry) (cells : List Cell) (area : ℕ) (z : Sealed) (s : State) (page : ℕ) → current_area g cells ≡ Some (area, z) → SaysSound c g z s
    → TellsBlocks c cells (reading_of_state s) (Some page) → IsBadImage c g cells page
bad_block c g cells area z s page current says first =
    record {
      area = area;
      z = z;
      current = current_is c g cells area z current says.keys;
      bad = inr (inr (inr (record { said = reading_of_state s; area = says.sound; first = first })));
    }
