-- What a checkpoint is judged by.
use Rattle.std.proofs.Common.{◌≡◌, ℕ, ◌+◌, ◌*◌, ◌/◌, ◌<◌, ◌≤◌, Bool, true, false, IsTrue, length, Option, Some, None, refl, sym, ap, subst, ◌∙◌, arith, inl, inr}
use Rattle.std.specs.Prelude.{if◌then◌else◌, nat_lt}
use Rattle.std.specs.List.{concat}
use Rattle.std.proofs.lemmas.Bool.Decides.{nat_tests}
use Rattle.fdp_base.specs.declared.config.DriveConfig.{DriveConfig}
use Rattle.fdp_base.specs.declared.config.Geometry.{Geometry}
use Rattle.fdp_base.specs.Placement.{handle_count}
use Rattle.fdp_checkpoint.specs.Pages.{IsBadIn}
use Rattle.fdp_checkpoint.proofs.OfImage.{sizes_found}
use Rattle.fdp_checkpoint.specs.fdp_areas.declared.seal.Current.{Current}
use Rattle.fdp_checkpoint.specs.fdp_areas.Seals.{LiesIn}
use Rattle.fdp_base.specs.Geometry.{IsBlockSize, IsValidGeometry, area_pages}
use Rattle.fdp_checkpoint.proofs.Telling.{size_least, summary_told}
use Rattle.fdp_image.proofs.Spots.{unit_below}
use Rattle.std.proofs.Math.Nat.{mul_comm}
use Rattle.fdp_config.specs.declared.key.Key.{Key}
use Rattle.fdp_flash.specs.Layout.{first_page}
use Rattle.fdp_image.specs.Areas.{Sealed, area_unit}
use Rattle.fdp_image.specs.Reads.{is_checkpoint_of}
use Rattle.fdp_image.specs.Replacing.{IsCheckpointOf}
use Rattle.fdp_snapshot.specs.declared.state.State.{State}
use Rattle.fdp_snapshot.specs.declared.state.Summary.{Summary}
use Rattle.fdp_snapshot.specs.Checkpoint.{IsState, checkpoint_size}
use Rattle.fdp_state.proofs.Loadable.{loadable}
use Rattle.fdp_image.specs.BadFields.{bad_field, bad_row}
use Rattle.fdp_recovery.specs.Keys.{keys_of_area, other_key}
use Rattle.fdp_recovery.specs.Reading.{HasSameKeys, SaysNoCheckpoint, SaysState}
use Rattle.fdp_recovery.specs.Ready.{IsReady}
use Rattle.fdp_recovery.proofs.Fielded.{field-good, rows-good}
use Rattle.fdp_recovery.proofs.SameKeys.{keys_held, none_held, same_both}

-- a key that differs is that of the area
pub key_differs : (c : DriveConfig) (g : Geometry) (z : Sealed) (s : State) (key : Option Key) → IsCheckpointOf z.stamp.version g.block (concat z.checkpoint) s → key ≡ other_key c g (Some s.summary.keys)
    → other_key c g (keys_of_area g.block z) ≡ key
key_differs c g z s key h e = ap (other_key c g) (keys_held g.block z s h) ∙ sym e

same_keys_of : (c : DriveConfig) (g : Geometry) (z : Sealed) (s : State) → IsCheckpointOf z.stamp.version g.block (concat z.checkpoint) s → other_key c g (Some s.summary.keys) ≡ None → HasSameKeys c g z
same_keys_of c g z s h none = record { same = key_differs c g z s None h (sym none) }

whole_of : (c : DriveConfig) (g : Geometry) (z : Sealed) (s : State) → IsCheckpointOf z.stamp.version g.block (concat z.checkpoint) s → other_key c g (Some s.summary.keys) ≡ None → IsTrue (is_checkpoint_of c z)
whole_of c g z s h none =
    let same = same_both c g s.summary.keys none in
    let there = subst (λ (x : Geometry). IsCheckpointOf z.stamp.version x.block (concat z.checkpoint) s) same.cut h in
    sizes_found c z s there ∙ same.keys

-- a checkpoint that names the drive's sizes, and has no bad field, is sound
pub judged_sound : (c : DriveConfig) (g : Geometry) (z : Sealed) (s : State) → IsCheckpointOf z.stamp.version g.block (concat z.checkpoint) s → other_key c g (Some s.summary.keys) ≡ None
    → bad_field c s.summary ≡ None → SaysState c g z s
judged_sound c g z s h none good =
    record {
      keys = same_keys_of c g z s h none;
      sound = record { whole = whole_of c g z s h none; fields = ap (bad_field c) (sym (summary_told s (concat z.checkpoint) h.state)) ∙ good };
      state = h.state;
    }

-- one with a bad field is not
pub judged_bad : (c : DriveConfig) (g : Geometry) (area : ℕ) (z : Sealed) (s : State) (at page : ℕ) → IsCheckpointOf z.stamp.version g.block (concat z.checkpoint) s → other_key c g (Some s.summary.keys) ≡ None
    → bad_field c s.summary ≡ Some at → page ≡ first_page g (area_unit g area) + at / g.block → SaysNoCheckpoint c g area z page
judged_bad c g area z s at page h none bad place =
    let same = same_both c g s.summary.keys none in
    record {
      keys = same_keys_of c g z s h none;
      bad = inr (record {
        whole = whole_of c g z s h none;
        at = at;
        field = ap (bad_field c) (sym (summary_told s (concat z.checkpoint) h.state)) ∙ bad;
        place = place ∙ ap (λ (x : Geometry). first_page x (area_unit x area) + at / x.block) same.cut;
      });
    }

-- pages that hold no checkpoint
pub judged_none : (c : DriveConfig) (g : Geometry) (area : ℕ) (z : Sealed) (page : ℕ) → IsBadIn g area z.stamp.version (concat z.checkpoint) page → other_key c g None ≡ None → SaysNoCheckpoint c g area z page
judged_none c g area z page bad none = record { keys = record { same = ap (other_key c g) (none_held g area z page bad) ∙ none }; bad = inl bad }

pub key_differs_flash : (c : DriveConfig) (g : Geometry) (area : ℕ) (z : Sealed) (page : ℕ) (key : Option Key) → IsBadIn g area z.stamp.version (concat z.checkpoint) page → key ≡ other_key c g None
    → other_key c g (keys_of_area g.block z) ≡ key
key_differs_flash c g area z page key bad e = ap (other_key c g) (none_held g area z page bad) ∙ sym e

-- without a bad field the index is one of the configuration's
index_good : (c : DriveConfig) (s : Summary) → bad_field c s ≡ None → s.index < length c.fdp
unfolding bad_field
index_good c s none = of_test (nat_lt s.index (length c.fdp)) refl none where
  of_test : (b : Bool) → nat_lt s.index (length c.fdp) ≡ b → (if b then bad_row c (handle_count c s.enabled s.index) s else Some 49) ≡ None → s.index < length c.fdp
  of_test true is none = grind (arith, nat_tests)
  of_test false is none = absurd cc

some_block : (block : ℕ) → IsBlockSize block → 0 < block
some_block block is = grind (arith, nat_tests)

pub judged_ready : (c : DriveConfig) (g : Geometry) (s : State) → IsState s → other_key c g (Some s.summary.keys) ≡ None → bad_field c s.summary ≡ None → IsReady c g s
judged_ready c g s is none good =
    let same = same_both c g s.summary.keys none in
    record { cut = same.cut; state = record { writable = is; keys = same.keys; good = field-good c s is (index_good c s.summary good) good; rows = rows-good c s.summary good }; loadable = loadable s is }

-- a field of the fixed part stands within the area
pub page_within : (g : Geometry) (x : Current) (s : Summary) (at : ℕ) → IsValidGeometry g → LiesIn g x → checkpoint_size s ≤ x.seal.checkpoint * g.block → at < 5120 → at / g.block < area_pages g
page_within g x s at valid inside holds small =
    let block : 0 < g.block = some_block g.block valid.block in
    let within : at < g.block * x.seal.checkpoint = omega (arith, mul_comm g.block x.seal.checkpoint, size_least s, holds, small) in
    omega (arith, unit_below at g.block x.seal.checkpoint block within, inside.pages)
