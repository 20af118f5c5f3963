-- An opening takes each image that reads as something and is valid.
use Rattle.std.proofs.Common.{◌≡◌, ◌⊎◌, ℕ, Bool, true, false, List, [], ◌∷◌, length, take, Option, Some, None, refl, sym, ap, subst, ◌∙◌, arith, inl, inr}
use Rattle.std.specs.Prelude.{◌&&◌, ◌+◌, ◌==◌, if◌then◌else◌, nat_lt, zip}
use Rattle.std.specs.List.{concat, list_all}
use Rattle.std.specs.Option.{option_and_then}
use Rattle.std.proofs.lemmas.Bool.{and_parts}
use Rattle.std.proofs.lemmas.Bool.Decides.{nat_tests}
use Rattle.fdp_base.specs.declared.config.DriveConfig.{DriveConfig}
use Rattle.fdp_base.specs.Placement.{geometry_of}
use Rattle.fdp_config.specs.declared.key.Key.{Key}
use Rattle.fdp_flash.specs.declared.cell.Cell.{Cell}
use Rattle.fdp_image.specs.Areas.{Sealed, current_area, data_pages}
use Rattle.fdp_image.specs.Checkpoint.{reading_of_state}
use Rattle.fdp_image.specs.CheckpointFields.{same_keys}
use Rattle.fdp_image.specs.Reading.{Reading}
use Rattle.fdp_image.specs.Reads.{fresh_reading, is_blank, is_checkpoint_of, is_spent, reads_as, said_by_area, said_by_current}
use Rattle.fdp_image.specs.Valid.{IsValid}
use Rattle.fdp_image.proofs.NextRecord.{read_by}
use Rattle.fdp_snapshot.specs.declared.state.State.{State}
use Rattle.fdp_snapshot.specs.Checkpoint.{checkpoint_size, is_checkpoint}
use Rattle.fdp_snapshot.specs.Reading.{keys_in, summary_in}
use Rattle.fdp_recovery.specs.Blocks.{AreKept}
use Rattle.fdp_recovery.specs.Keys.{both, compared_keys, fills_pages, first_other, keys_of_area, keys_on, other_key, same_cut}
use Rattle.fdp_recovery.specs.Opened.{IsBadImage, IsLeft, IsSpent}
use Rattle.fdp_recovery.specs.Sound.{IsSoundImage}
use Rattle.fdp_recovery.specs.Taken.{HasSameKeys, IsTakenImage, IsUsedUp}
use Rattle.fdp_recovery.proofs.SameDrive.{said-same, same-drive, with_keys}
use Rattle.fdp_recovery.proofs.Sound.{no_bad_page, sound_said}
use Rattle.fdp_recovery.proofs.Valid.{kept-of}

one : {X : Type 0} {x y : X} → Some x ≡ Some y → x ≡ y
one e = cc

both-true : (a b : Bool) → a ≡ true → b ≡ true → (a && b) ≡ true
both-true a b e h = rw (e, h) refl

abbrev all : List Bool → Bool
all xs = list_all (λ (same : Bool). same) xs

-- ---- keys

-- where each is the same, no key differs
none-other : (keys : List Key) (sames : List Bool) → all sames ≡ true → first_other (zip keys sames) ≡ None
none-other [] sames e = refl
none-other (k ∷ ks) [] e = refl
none-other (k ∷ ks) (true ∷ bs) e = none-other ks bs e
none-other (k ∷ ks) (false ∷ bs) e = absurd cc

all-both : (xs ys : List Bool) → all xs ≡ true → all ys ≡ true → all (both xs ys) ≡ true
all-both [] ys a b = refl
all-both (x ∷ xs) [] a b = refl
all-both (true ∷ xs) (true ∷ ys) a b = all-both xs ys a b
all-both (true ∷ xs) (false ∷ ys) a b = absurd cc
all-both (false ∷ xs) (y ∷ ys) a b = absurd cc

equal : (n : ℕ) → (n == n) ≡ true
equal n = grind (arith, nat_tests)

own-cut : (c : DriveConfig) → all (same_cut c (geometry_of c)) ≡ true
own-cut c = rw (equal c.block, equal c.unit_pages, equal c.groups, equal c.units, equal c.area_units) refl

pub unsealed-keys : (c : DriveConfig) → other_key c (geometry_of c) None ≡ None
unsealed-keys c = none-other compared_keys (same_cut c (geometry_of c)) (own-cut c)

-- a checkpoint of the configuration names its keys
area-keys : (c : DriveConfig) (z : Sealed) → is_checkpoint_of c z ≡ true → other_key c (geometry_of c) (keys_of_area c.block z) ≡ None
unfolding is_checkpoint_of keys_of_area
area-keys c z whole =
    let bytes = concat z.checkpoint in
    let filled : Bool = nat_lt (length bytes) (checkpoint_size (summary_in bytes) + c.block) in
    let a = and_parts (is_checkpoint z.stamp.version bytes && all (same_keys c (keys_in bytes))) filled whole in
    let b = and_parts (is_checkpoint z.stamp.version bytes) (all (same_keys c (keys_in bytes))) a.0 in
    let fills : fills_pages z.stamp.version c.block bytes ≡ true = both-true (is_checkpoint z.stamp.version bytes) filled b.0 a.1 in
    ap (λ (t : Bool). other_key c (geometry_of c) (if t then Some (keys_in bytes) else None)) fills
    ∙ none-other compared_keys (both (same_cut c (geometry_of c)) (same_keys c (keys_in bytes))) (all-both (same_cut c (geometry_of c)) (same_keys c (keys_in bytes)) (own-cut c) b.1)

-- ---- what an image reads as

-- an area is current, and says this
record IsSaidIn (c : DriveConfig) (cells : List Cell) (r : Reading) : Type 0 where
  pub area : ℕ
  pub z : Sealed
  pub current : current_area (geometry_of c) cells ≡ Some (area, z)
  pub said : said_by_area c z ≡ Some r

-- none is sealed, and the data pages are blank
record IsUnwritten (c : DriveConfig) (cells : List Cell) : Type 0 where
  pub none : current_area (geometry_of c) cells ≡ None
  pub blank : list_all is_blank (take (data_pages (geometry_of c)) cells) ≡ true

by-area : (c : DriveConfig) (cells : List Cell) (r : Reading) → reads_as c cells ≡ Some r → IsUnwritten c cells ⊎ IsSaidIn c cells r
unfolding reads_as said_by_current
by-area c cells r read = of_current (current_area (geometry_of c) cells) refl read where
  of_test : current_area (geometry_of c) cells ≡ None → (b : Bool) → list_all is_blank (take (data_pages (geometry_of c)) cells) ≡ b → (if b then Some (fresh_reading c) else None) ≡ Some r → IsUnwritten c cells ⊎ IsSaidIn c cells r
  of_test none true is e = inl (record { none = none; blank = is })
  of_test none false is e = absurd cc

  of_current : (o : Option (ℕ × Sealed)) → current_area (geometry_of c) cells ≡ o → said_by_current c cells o ≡ Some r → IsUnwritten c cells ⊎ IsSaidIn c cells r
  of_current None is e = of_test is (list_all is_blank (take (data_pages (geometry_of c)) cells)) refl e
  of_current (Some x) is e = inr (record { area = x.0; z = x.1; current = is; said = e })

-- ---- an image of a new drive

unwritten-taken : (c : DriveConfig) (cells : List Cell) (r : Reading) → IsUnwritten c cells → IsTakenImage c cells r
unfolding keys_on
unwritten-taken c cells r h = record {
  keys = ap (λ (o : Option (ℕ × Sealed)). other_key c (geometry_of c) (option_and_then (λ (x : ℕ × Sealed). keys_of_area c.block x.1) o)) h.none ∙ unsealed-keys c;
  fresh = λ none. record { unsealed = record { none = none; cut = unsealed-keys c }; blank = h.blank };
  drive = λ none. let e : true ≡ false = sym h.blank ∙ none.used in cc;
  pages = λ page bad. let e : None ≡ Some (bad.area, bad.z) = sym h.none ∙ bad.current.current in cc;
  spent = λ spent. let e : None ≡ Some (spent.area, spent.left.z) = sym h.none ∙ spent.left.current.current in absurd cc;
}

-- ---- an image of a drive that was saved

-- the state that an opening of another configuration of the drive finds is what the image reads as
pub left-says : (c d : DriveConfig) (cells : List Cell) (r : Reading) (s : State) (area epoch : ℕ) → reads_as c cells ≡ Some r → IsLeft (with_keys c d) (geometry_of c) cells s area epoch → reading_of_state s ≡ r
left-says c d cells r s area epoch read left =
    let other : said_by_area (with_keys c d) left.z ≡ Some (reading_of_state s) = sym (read_by (with_keys c d) cells area left.z left.current.current) ∙ left.reads in
    let this : said_by_area c left.z ≡ Some r = sym (read_by c cells area left.z left.current.current) ∙ read in
    one (sym other ∙ said-same c d left.z r this)

module _ (c d : DriveConfig) (cells : List Cell) (r : Reading) (read : reads_as c cells ≡ Some r) (h : IsSaidIn c cells r) (kept : AreKept c cells r) where
  sound : IsSoundImage (with_keys c d) cells h.z r
  sound = record { area = sound_said (with_keys c d) h.z r (said-same c d h.z r h.said); blocks = kept }

  no-bad-page : (page : ℕ) → IsBadImage (with_keys c d) (geometry_of c) cells page → ⊥
  no-bad-page page bad =
      let e : (h.area, h.z) ≡ (bad.area, bad.z) = one (sym h.current ∙ bad.current.current) in
      let same : h.z ≡ bad.z = ap (λ (x : ℕ × Sealed). x.1) e in
      no_bad_page (with_keys c d) cells bad.area bad.z page r bad.bad (subst (λ (z : Sealed). IsSoundImage (with_keys c d) cells z r) same sound)

  used-up : IsSpent (with_keys c d) (geometry_of c) cells → IsUsedUp (with_keys c d) cells r
  used-up spent =
      let l = spent.left in
      let same : reading_of_state spent.state ≡ r = left-says c d cells r spent.state spent.area spent.epoch read l in
      record {
        area = spent.area;
        z = l.z;
        current = l.current.current;
        spent = ap (λ (x : Reading). is_spent x l.z.stamp.epoch) (sym same) ∙ ap (is_spent (reading_of_state spent.state)) (sym l.epoch_is) ∙ spent.spent;
      }

  sealed-taken : IsTakenImage (with_keys c d) cells r
  unfolding keys_on
  sealed-taken = record {
    keys =
        ap (λ (o : Option (ℕ × Sealed)). other_key (with_keys c d) (geometry_of c) (option_and_then (λ (x : ℕ × Sealed). keys_of_area c.block x.1) o)) h.current
        ∙ area-keys (with_keys c d) h.z sound.area.checkpoint.whole;
    fresh = λ none. let e : None ≡ Some (h.area, h.z) = sym none ∙ h.current in absurd cc;
    drive = λ none. let e : None ≡ Some (h.area, h.z) = sym none.unsealed.none ∙ h.current in cc;
    pages = no-bad-page;
    spent = used-up;
  }

-- ---- by each configuration of the drive

pub taken-with : (c d : DriveConfig) (cells : List Cell) (r : Reading) → reads_as c cells ≡ Some r → IsValid c cells r → IsTakenImage (with_keys c d) cells r
taken-with c d cells r read valid = of_area (by-area c cells r read) where
  of_area : IsUnwritten c cells ⊎ IsSaidIn c cells r → IsTakenImage (with_keys c d) cells r
  of_area (inl new) = unwritten-taken (with_keys c d) cells r (record { none = new.none; blank = new.blank })
  of_area (inr h) = sealed-taken c d cells r read h (kept-of c cells r valid)

pub taken-by : (c d : DriveConfig) (cells : List Cell) (r : Reading) → reads_as c cells ≡ Some r → IsValid c cells r → HasSameKeys c d → IsTakenImage d cells r
taken-by c d cells r read valid same = subst (λ (x : DriveConfig). IsTakenImage x cells r) (sym (same-drive c d same)) (taken-with c d cells r read valid)
