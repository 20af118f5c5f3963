-- What a loaded state says once a change was made in it.
use Rattle.std.proofs.Common.{◌≡◌, ℕ, true, List, refl, ap, sym, ◌∙◌, subst}
use Rattle.std.specs.Prelude.{◌&&◌, Bool}
use Rattle.fdp_base.specs.declared.config.DriveConfig.{DriveConfig}
use Rattle.fdp_base.specs.declared.entry.Totals.{Totals}
use Rattle.fdp_records.specs.declared.change.Change.{Change}
use Rattle.fdp_snapshot.specs.declared.state.Summary.{Summary}
use Rattle.fdp_image.specs.Applied.{applied}
use Rattle.fdp_image.specs.Changed.{changed, pages_after}
use Rattle.fdp_image.specs.Checkpoint.{reading_of_state}
use Rattle.fdp_image.specs.Fits.{are_born, fits, names_what_is}
use Rattle.fdp_image.specs.Reading.{Reading, size_in}
use Rattle.fdp_outline.specs.declared.moved_block.MovedBlock.{MovedBlock}
use Rattle.fdp_outline.specs.Events.{ListsMoved}
use Rattle.fdp_outline.specs.Outline.{IsOutlineOf}
use Rattle.fdp_outline.proofs.Saying.{says-reading}
use Rattle.fdp_state.specs.declared.parts.Parts.{Parts}
use Rattle.fdp_state.specs.Good.{IsGood, IsSayable}
use Rattle.fdp_state.specs.Loaded.{IsLoaded}
use Rattle.fdp_state.specs.Made.{HasPages, HasPagesAfter}
use Rattle.fdp_state.specs.Owners.{Pages}
use Rattle.fdp_state.specs.Parts.{IsSound, reading_of}
use Rattle.fdp_state.proofs.Keeping.{good-applied}
use Rattle.fdp_state.proofs.Putting.{put-size}
use Rattle.fdp_state.proofs.Sayable.{sayable-applied}

-- only the pages of the blocks were changed
pub made-pages : (c : DriveConfig) (change : Change) (old new : Parts) (pages : Pages) → HasPages old new pages → ((position : ℕ) → changed c (reading_of old) position change ≡ reading_of old)
    → ((n lba : ℕ) → pages n lba ≡ pages_after c (reading_of old) change n lba) → HasPagesAfter c change old new
made-pages c change old new pages h same said = record {
  rest = h.rest;
  said = λ n lba. h.said n lba ∙ said n lba;
  sizes = λ position n. h.sound.sizes n ∙ put-size old new h.rest n ∙ sym (ap (λ (r : Reading). size_in r n) (same position));
  lists = h.sound.lists;
  owners = h.sound.owners;
}

-- no page was changed
pub made-none : (c : DriveConfig) (change : Change) (s : Parts) → IsSound s → ((position n : ℕ) → size_in (changed c (reading_of s) position change) n ≡ size_in (reading_of s) n)
    → ((n lba : ℕ) → pages_after c (reading_of s) change n lba ≡ (reading_of s).pages n lba) → HasPagesAfter c change s s
unfolding reading_of_state
made-none c change s h same said = record {
  rest = refl;
  said = λ n lba. sym (said n lba);
  sizes = λ position n. h.sizes n ∙ sym (same position n);
  lists = h.lists;
  owners = h.owners;
}

-- what was made in an outline, of a change and of blocks that were lent
pub made-outline : (c : DriveConfig) (r : Reading) (before old now : Summary) (lent change : Change) (totals : Totals) (given blocks : List MovedBlock) → old ≡ before → lent ≡ change → given ≡ blocks → IsOutlineOf c r before → ListsMoved c r change blocks
    → (IsOutlineOf c r old → ListsMoved c r lent given → IsOutlineOf c (applied c r (lent, totals)) now) → IsOutlineOf c (applied c r (change, totals)) now
made-outline c r before old now lent change totals given blocks same is are h lists made =
    subst (λ (x : Change). IsOutlineOf c (applied c r (x, totals)) now) is
    (made (subst (IsOutlineOf c r) (sym same) h) (subst (λ (x : Change). ListsMoved c r x given) (sym is) (subst (ListsMoved c r change) (sym are) lists)))

-- the change was made in the outline too
module _ (c : DriveConfig) (old mid : Parts) (outline : Summary) (change : Change) (totals : Totals) (made : HasPagesAfter c change old mid)
    (said : IsOutlineOf c (applied c (reading_of old) (change, totals)) outline) (at : outline.totals ≡ totals) where
  abbrev new : Parts
  new = record mid { outline = outline }

  pub whole_reading : reading_of new ≡ applied c (reading_of old) (change, totals)
  unfolding applied
  whole_reading = says-reading c (applied c (reading_of old) (change, totals)) outline mid.pages.items said at made.said

  whole_size : (n : ℕ) → size_in (changed c (reading_of old) totals.position change) n ≡ size_in (reading_of new) n
  unfolding applied
  whole_size n = sym (ap (λ (r : Reading). size_in r n) whole_reading)

  whole_sound : IsSound new
  whole_sound = record { lists = made.lists; sizes = λ n. made.sizes totals.position n ∙ whole_size n; owners = made.owners }

  pub whole_loaded : IsLoaded c old → are_born (reading_of old) totals.position ≡ true → names_what_is c (reading_of old) change ≡ true → IsLoaded c new
  whole_loaded h born fit =
      let fits_it : fits c (reading_of old) (change, totals) ≡ true = ap (λ (b : Bool). b && names_what_is c (reading_of old) change) born ∙ fit in
      record {
        config = h.config;
        sound = whole_sound;
        good = subst (IsGood c) (sym whole_reading) (good-applied c (reading_of old) (change, totals) h.good fits_it);
        sayable = subst IsSayable (sym whole_reading) (sayable-applied c (reading_of old) h.config h.sayable (change, totals) fits_it);
        outline = subst (λ (r : Reading). IsOutlineOf c r outline) (sym whole_reading) said;
      }
