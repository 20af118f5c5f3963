-- The copies of blocks in the pass of a group move the blocks as the pass does.
use Rattle.std.proofs.Common.{◌≡◌, ℕ, true, false, List, [], ◌∷◌, ◌++◌, Option, Some, None, refl, sym, ◌∙◌, ap, subst, ⊎_elim, ◌<◌}
use Rattle.std.specs.Prelude.{All, IfSome, flat_map, if◌then◌else◌, is_some, map, option_and_then, option_map}
use Rattle.std.specs.Option.{option_map_or}
use Rattle.std.proofs.lemmas.Grind.{flat_map-append}
use Rattle.std.proofs.lemmas.List.Elements.{All-cons, All-head, All-nil, All-tail}
use Rattle.std.proofs.lemmas.List.Folds.{flat_map-map}
use Rattle.fdp_base.specs.declared.config.DriveConfig.{DriveConfig}
use Rattle.fdp_base.specs.declared.entry.BlockName.{BlockName}
use Rattle.fdp_base.specs.declared.entry.Copied.{Copied}
use Rattle.fdp_base.specs.declared.entry.Spot.{Spot}
use Rattle.fdp_base.specs.declared.spare.DataSpare.{DataSpare}
use Rattle.fdp_history.specs.Orderly.{IsOrderly}
use Rattle.fdp_history.specs.Standing.{IsStanding}
use Rattle.fdp_locations.specs.Located.{AreLed, next_in}
use Rattle.fdp_locations.specs.Written.{Written}
use Rattle.fdp_owners.specs.declared.owner.Holder.{Holder}
use Rattle.fdp_owners.specs.declared.owner.Holder.TheVariants as holders
use Rattle.fdp_owners.specs.declared.owner.Owner.{Owner}
use Rattle.fdp_owners.specs.Owned.{AreOwners, page_of}
use Rattle.fdp_owners.specs.OwnerTable.{owner_at, pointer_in}
use Rattle.fdp_locations.specs.fdp_pages.PageTables.{PageTables}
use Rattle.fdp_passes.specs.Due.{copies_in}
use Rattle.fdp_passes.specs.GroupPasses.{GroupPasses, Pass}
use Rattle.fdp_pointers.specs.Facts.{IsTableOf, Page}
use Rattle.fdp_pointers.specs.Pointers.{Behind, Pointer.of_block}
use Rattle.fdp_pointers.proofs.Live.{no-blocks}
use Rattle.fdp_pointers.proofs.Tables.{block-at}
use Rattle.fdp_readings.specs.Changes.{IsPlacedBy, MoveBlocks, copies_of_blocks, known_handle}
use Rattle.fdp_readings.proofs.Leading.{led-to}
use Rattle.fdp_readings.proofs.Moving.{sited}
use Rattle.fdp_rules.specs.PlainState.{Block}
use Rattle.fdp_rules.specs.Point.{Copy, Point}
use Rattle.fdp_rules.specs.Sites.{blocks_at, moved_by, site_of}
use Rattle.fdp_locations.specs.fdp_trails.Followed.{FollowsPass, IsDead, IsFollowed, IsPassOf, copy_of}
use Rattle.fdp_locations.specs.fdp_trails.Moves.{name_at, name_in, name_of}
use Rattle.fdp_locations.proofs.fdp_trails.Moving.{cases_spot, moved-back, moved-here, moved-there}

-- the pass under way follows the trail
follows-pass : (at : Behind Page) (p : Point) (rg : ℕ) (passes : GroupPasses) → IsPassOf at p.trail rg passes → (copies_in passes ≡ [] → ⊥) → FollowsPass at p.trail rg (copies_in passes)
follows-pass at p rg passes h some = cases passes.pass refl h where
  cases : (o : Option Pass) → passes.pass ≡ o → IfSome o (IsFollowed at p.trail rg) → FollowsPass at p.trail rg (copies_in passes)
  cases None e f = absurd (some (ap (λ (o : Option Pass). option_map_or (λ (pass : Pass). pass.copies) o []) e))
  cases (Some pass) e f =
      let same : copies_in passes ≡ pass.copies = ap (λ (o : Option Pass). option_map_or (λ (q : Pass). q.copies) o []) e in
      subst (FollowsPass at p.trail rg) (sym same) (f.follows (λ none. some (same ∙ none)))

-- an owner that is a block's has a name
named-block : (h : Holder) (s : DataSpare) (nsid lba : ℕ) → pointer_in h s ≡ of_block nsid lba → is_some (name_in h s) ≡ true
named-block holders.Block s nsid lba e = refl
named-block (holders.Flight queue) s nsid lba e = absurd cc

module _ (c : DriveConfig) (p : Point) (pages : ℕ → ℕ) (at : Behind Page) (owners : Spot → Option Owner) (orderly : IsOrderly c p) (table : IsTableOf c p pages at) (owned : AreOwners owners at) where
  -- a page to which a block leads has a name
  name-there : (nsid lba : ℕ) (y : Page) → at (of_block nsid lba) ≡ Some y → is_some (name_at owners y.spot) ≡ true
  name-there nsid lba y e =
      let o = owned.owned (of_block nsid lba) y e in
      ap (λ (x : Option Owner). is_some (option_and_then name_of x)) o.is_owner ∙ named-block o.owner.holder o.owner.spare nsid lba o.points

  -- where there is none, no block stands
  no-name : (spot : Spot) → is_some (name_at owners spot) ≡ false → blocks_at p spot ≡ []
  no-name spot none =
      no-blocks c p pages at orderly.state table spot
      (λ nsid lba y e same.
      let never : true ≡ false = sym (name-there nsid lba y e) ∙ ap (λ (x : Spot). is_some (name_at owners x)) same ∙ none in
      cc)

  moves-named : (xs : List Copied) (spot : Spot) → is_some (name_at owners spot) ≡ true → moved_by (map copy_of xs) spot ≡ moved_by (map copy_of (copies_of_blocks owners xs)) spot
  moves-named [] spot named = refl
  moves-named (x ∷ xs) spot named =
      (elim (is_some (name_at owners x.from)) as (λ b. is_some (name_at owners x.from) ≡ b → moved_by (map copy_of (x ∷ xs)) spot ≡ moved_by (map copy_of (if b then x ∷ copies_of_blocks owners xs else copies_of_blocks owners xs)) spot) [
        | true ↦ λ e. ⊎_elim
            (λ (same : x.from ≡ spot). moved-here (copy_of x) (map copy_of xs) spot same ∙ sym (moved-here (copy_of x) (map copy_of (copies_of_blocks owners xs)) spot same))
            (λ ne. moved-there (copy_of x) (map copy_of xs) spot ne ∙ moves-named xs spot named ∙ sym (moved-there (copy_of x) (map copy_of (copies_of_blocks owners xs)) spot ne))
            (cases_spot x.from spot)
        | false ↦ λ e.
            moved-there (copy_of x) (map copy_of xs) spot (λ (same : x.from ≡ spot). let never : true ≡ false = sym named ∙ ap (λ (y : Spot). is_some (name_at owners y)) (sym same) ∙ e in absurd cc)
            ∙ moves-named xs spot named
      ]) refl

  listed-named : (xs : List Copied) → flat_map (λ (x : Copied). blocks_at p x.from) xs ≡ flat_map (λ (x : Copied). blocks_at p x.from) (copies_of_blocks owners xs)
  listed-named [] = refl
  listed-named (x ∷ xs) =
      (elim (is_some (name_at owners x.from)) as (λ b. is_some (name_at owners x.from) ≡ b → blocks_at p x.from ++ flat_map (λ (y : Copied). blocks_at p y.from) xs ≡ flat_map (λ (y : Copied). blocks_at p y.from) (if b then x ∷ copies_of_blocks owners xs else copies_of_blocks owners xs)) [
        | true ↦ λ e. ap (λ (ys : List BlockName). blocks_at p x.from ++ ys) (listed-named xs)
        | false ↦ λ e. ap (λ (ys : List BlockName). ys ++ flat_map (λ (y : Copied). blocks_at p y.from) xs) (no-name x.from e) ∙ listed-named xs
      ]) refl

  listed-dead : (xs : List Copy) → All (IsDead at) xs → flat_map (λ (x : Copy). blocks_at p x.from) xs ≡ []
  listed-dead [] h = refl
  listed-dead (x ∷ xs) h =
      let here : blocks_at p x.from ≡ [] = no-blocks c p pages at orderly.state table x.from (λ nsid lba y e. All-head (IsDead at) x xs h (of_block nsid lba) y e) in
      ap (λ (ys : List BlockName). ys ++ flat_map (λ (y : Copy). blocks_at p y.from) xs) here ∙ listed-dead xs (All-tail (IsDead at) x xs h)

pub pass-moves : (c : DriveConfig) (p : Point) (rg : ℕ) (pages : ℕ → ℕ) (at : Behind Page) (owners : Spot → Option Owner) (passes : GroupPasses) → IsOrderly c p → IsTableOf c p pages at → AreOwners owners at → IsPassOf at p.trail rg passes → (copies_in passes ≡ [] → ⊥)
    → MoveBlocks p rg (copies_of_blocks owners (copies_in passes))
pass-moves c p rg pages at owners passes orderly table owned pass some =
    let follows = follows-pass at p rg passes pass some in
    let copies : List Copied = copies_in passes in
    record {
      moves = λ nsid lba spot e.
          let to = led-to (at (of_block nsid lba)) spot (sym e ∙ block-at c p pages at table nsid lba) in
          ap (λ (xs : List Copy). moved_by xs spot) follows.listed
          ∙ moved-back follows.stale (map copy_of copies) spot (λ k d low same. follows.dead k d low (of_block nsid lba) to.0 to.1 (to.2 ∙ sym same))
          ∙ moves-named c p pages at owners orderly table owned copies spot (ap (λ (x : Spot). is_some (name_at owners x)) (sym to.2) ∙ name-there c p pages at owners orderly table owned nsid lba to.0 to.1);
      listed =
          ap (flat_map (λ (x : Copy). blocks_at p x.from)) follows.listed
          ∙ flat_map-append (λ (x : Copy). blocks_at p x.from) follows.stale (map copy_of copies)
          ∙ ap (λ (ys : List BlockName). ys ++ flat_map (λ (x : Copy). blocks_at p x.from) (map copy_of copies)) (listed-dead c p pages at owners orderly table owned follows.stale follows.dead)
          ∙ flat_map-map (λ (x : Copy). blocks_at p x.from) copy_of copies
          ∙ listed-named c p pages at owners orderly table owned copies;
    }

-- ---- the handles of the copies of blocks

-- the old page of a copy of a block: an owner knows it, and the block that stands there
record IsOfBlock (p : Point) (owners : Spot → Option Owner) (spot : Spot) : Type 0 where
  owner : Owner
  is_owner : owners spot ≡ Some owner
  block : owner.holder ≡ holders.Block

of-block : (p : Point) (owners : Spot → Option Owner) (spot : Spot) → is_some (name_at owners spot) ≡ true → IsOfBlock p owners spot
of-block p owners spot e = cases (owners spot) refl e where
  cases : (o : Option Owner) → owners spot ≡ o → is_some (option_and_then name_of o) ≡ true → IsOfBlock p owners spot
  cases None is e = absurd cc
  cases (Some x) is e = held x.holder refl e where
    held : (h : Holder) → x.holder ≡ h → is_some (name_in h x.spare) ≡ true → IsOfBlock p owners spot
    held holders.Block same e = record { owner = x; is_owner = is; block = same }
    held (holders.Flight queue) same e = absurd cc

module _ (c : DriveConfig) (p : Point) (written : Spot → Option Written) (at : Behind Page) (t : PageTables) (standing : IsStanding c p) (led : AreLed c p written at t) where
  leads : (spot : Spot) (own : IsOfBlock p (owner_at t.owners) spot) → at (of_block own.owner.spare.nsid own.owner.spare.lba) ≡ Some (page_of spot own.owner)
  leads spot own = ap (λ (h : Holder). at (pointer_in h own.owner.spare)) (sym own.block) ∙ led.owned.led spot own.owner own.is_owner

  inside-one : (spot : Spot) → is_some (name_at (owner_at t.owners) spot) ≡ true → spot.page < c.unit_pages
  inside-one spot e =
      let own = of-block p (owner_at t.owners) spot e in
      let site : site_of p own.owner.spare.nsid own.owner.spare.lba ≡ Some spot = block-at c p (next_in t.units) at led.table own.owner.spare.nsid own.owner.spare.lba ∙ ap (option_map (λ (y : Page). y.spot)) (leads spot own) in
      (sited c p own.owner.spare.nsid own.owner.spare.lba spot standing site).inside

  placed-one : (spot : Spot) → is_some (name_at (owner_at t.owners) spot) ≡ true → IsPlacedBy p spot (known_handle (owner_at t.owners) spot)
  placed-one spot e nsid lba b there site =
      let own = of-block p (owner_at t.owners) spot e in
      let stands : site_of p nsid lba ≡ Some spot = ap (option_and_then (λ (x : Block). p.trail.site x.page)) there ∙ site in
      let to = led-to (at (of_block nsid lba)) spot (sym stands ∙ block-at c p (next_in t.units) at led.table nsid lba) in
      let o = led.owned.owned (of_block nsid lba) to.0 to.1 in
      let both : Some o.owner ≡ Some own.owner = sym o.is_owner ∙ ap (owner_at t.owners) to.2 ∙ own.is_owner in
      let one : o.owner ≡ own.owner = cc in
      let handle : to.0.spare.ruh ≡ b.ruh = led.handled (of_block nsid lba) to.0 b.ruh to.1 (ap (option_map (λ (x : Block). x.ruh)) there) in
      sym handle ∙ ap (λ (s : DataSpare). s.ruh) (sym o.spare) ∙ ap (λ (x : Owner). x.spare.ruh) one ∙ sym (ap (λ (x : Option Owner). option_map_or (λ (y : Owner). y.spare.ruh) x 0) own.is_owner)

  each-kept : (R : Copied → Type 0) → ((x : Copied) → is_some (name_at (owner_at t.owners) x.from) ≡ true → R x) → (xs : List Copied) → All R (copies_of_blocks (owner_at t.owners) xs)
  each-kept R each [] = All-nil R
  each-kept R each (x ∷ xs) =
      (elim (is_some (name_at (owner_at t.owners) x.from)) as (λ b. is_some (name_at (owner_at t.owners) x.from) ≡ b → All R (if b then x ∷ copies_of_blocks (owner_at t.owners) xs else copies_of_blocks (owner_at t.owners) xs)) [
        | true ↦ λ e. All-cons R x (copies_of_blocks (owner_at t.owners) xs) (each x e) (each-kept R each xs)
        | false ↦ λ e. each-kept R each xs
      ]) refl

pub copies-inside : (c : DriveConfig) (p : Point) (written : Spot → Option Written) (at : Behind Page) (t : PageTables) (copies : List Copied) → IsStanding c p → AreLed c p written at t → All (λ (x : Copied). x.from.page < c.unit_pages) (copies_of_blocks (owner_at t.owners) copies)
copies-inside c p written at t copies standing led = each-kept c p written at t standing led (λ (x : Copied). x.from.page < c.unit_pages) (λ x e. inside-one c p written at t standing led x.from e) copies

pub copies-placed : (c : DriveConfig) (p : Point) (written : Spot → Option Written) (at : Behind Page) (t : PageTables) (copies : List Copied) → IsStanding c p → AreLed c p written at t → All (λ (x : Copied). IsPlacedBy p x.from (known_handle (owner_at t.owners) x.from)) (copies_of_blocks (owner_at t.owners) copies)
copies-placed c p written at t copies standing led = each-kept c p written at t standing led (λ (x : Copied). IsPlacedBy p x.from (known_handle (owner_at t.owners) x.from)) (λ x e. placed-one c p written at t standing led x.from e) copies
