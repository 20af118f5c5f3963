-- What the move of a pass under way comes to: its copies may be moved, which blocks it lists, and where pointers and owners lead then.
use Rattle.std.proofs.Common.{◌≡◌, ◌≢◌, ℕ, ◌<◌, true, List, [], ◌∷◌, ◌++◌, Option, Some, None, refl, sym, ◌∙◌, ap, subst, map, get_or, arith, ◌⊎◌, ⊎_elim, inl, inr, zero, suc}
use Rattle.std.specs.Prelude.{All, AllPairs, IfSome, flat_map, option_and_then, option_to_list, Contains}
use Rattle.std.specs.List.{cons_option}
use Rattle.std.specs.Option.{option_map_or}
use Rattle.std.proofs.lemmas.Grind.{flat_map-append}
use Rattle.std.proofs.lemmas.List.Elements.{All-cons, All-head, All-nil, All-tail, All-weaker}
use Rattle.std.proofs.lemmas.List.Folds.{flat_map-map}
use Rattle.fdp_base.specs.declared.config.DriveConfig.{DriveConfig}
use Rattle.fdp_base.specs.declared.entry.BlockName.{BlockName}
use Rattle.fdp_base.specs.declared.entry.Copied.{Copied}
use Rattle.fdp_base.specs.declared.entry.Spot.{Spot}
use Rattle.fdp_base.specs.declared.spare.DataSpare.{DataSpare}
use Rattle.fdp_rules.specs.Point.{Copy, Point, Trail}
use Rattle.fdp_rules.specs.Sites.{ascends, blocks_at, moved_blocks, moved_by, pass_in, site_of}
use Rattle.fdp_history.specs.OrderlyState.{IsOrderlyState}
use Rattle.fdp_history.proofs.Trails.{all-last_run}
use Rattle.fdp_pointers.specs.Facts.{AreCopies, IsFree, IsTableOf, Page, put_at}
use Rattle.fdp_pointers.specs.Pointers.{Behind, Pointer, Pointer.of_block, Pointer.of_flight, moved}
use Rattle.fdp_pointers.proofs.Live.{no-blocks, one-block}
use Rattle.fdp_pointers.proofs.Tables.{free-empty}
use Rattle.fdp_owners.specs.declared.owner.Holder.{Holder}
use Rattle.fdp_owners.specs.declared.owner.Holder.TheVariants.{Block, Flight}
use Rattle.fdp_owners.specs.declared.owner.Owner.{Owner}
use Rattle.fdp_owners.specs.Owned.{AreOwners, page_of}
use Rattle.fdp_owners.specs.OwnerTable.{OwnerTable, live_in, owner_at, pointer_of}
use Rattle.fdp_owners.proofs.Owned.{unit-unled}
use Rattle.fdp_owners.proofs.Tables.{unowned-unit}
use Rattle.fdp_passes.specs.Due.{HasNoLive, copies_in}
use Rattle.fdp_passes.specs.GroupPasses.{GroupPasses, Pass}
use Rattle.fdp_trails.specs.Followed.{FollowsPass, IsCopyOf, IsDead, IsFollowed, IsPassOf, copy_of}
use Rattle.fdp_trails.specs.Moves.{AreMovable, AreTwo, name_at, name_in, name_of, names_of, owners_moved}
use Rattle.fdp_trails.proofs.Following.{all-back}
use Rattle.fdp_trails.proofs.Moving.{moved-back, moved-here, moved-same, moved-there, owners-moved, pairs-cons, pairs-none, stays, cases_spot}
use Rattle.fdp_trails.proofs.Runs.{IsBefore, ascends-back, ascends-tail, first-before, run-ascends}

all-unmap : (P : Copy → Type 0) (xs : List Copied) → All P (map copy_of xs) → All (λ (x : Copied). P (copy_of x)) xs
all-unmap P [] h = All-nil (λ (x : Copied). P (copy_of x))
all-unmap P (x ∷ xs) h = All-cons (λ (z : Copied). P (copy_of z)) x xs (All-head P (copy_of x) (map copy_of xs) h) (all-unmap P xs (All-tail P (copy_of x) (map copy_of xs) h))

-- ---- the copies of a pass

-- what holds of the copies of a group holds of those of its pass
part : (at : Behind Page) (t : Trail) (rg : ℕ) (copies : List Copied) → FollowsPass at t rg copies → (P : Copy → Type 0) → All P (t.copies rg) → All (λ (x : Copied). P (copy_of x)) copies
part at t rg copies h P all = all-unmap P copies (all-back P h.stale (map copy_of copies) (subst (All P) h.listed (all-last_run P (t.copies rg) all)))

copies-ascend : (at : Behind Page) (t : Trail) (rg : ℕ) (copies : List Copied) → FollowsPass at t rg copies → ascends (map copy_of copies) ≡ true
copies-ascend at t rg copies h = ascends-back h.stale (map copy_of copies) (subst (λ (l : List Copy). ascends l ≡ true) h.listed (run-ascends (t.copies rg)))

-- two copies of which one goes before the other have two old pages
later : (x z : Copied) → IsBefore (copy_of x) (copy_of z) → x.from ≡ z.from → ⊥
later x z before same =
    let page : x.from.page ≡ z.from.page = ap (λ (s : Spot). s.page) same in
    let low : x.from.page < z.from.page = before.page in
    omega (arith, page, low)

-- copies of one unit that ascend, of which no two go to one page, share none
pairs-two : (copies : List Copied) → ascends (map copy_of copies) ≡ true → All (λ (x : Copied). All (λ (z : Copied). x.to ≡ z.to → copy_of x ≡ copy_of z) copies) copies → AllPairs AreTwo copies
pairs-two [] e h = pairs-none AreTwo
pairs-two (x ∷ xs) e h =
    let before : All (λ (z : Copied). IsBefore (copy_of x) (copy_of z)) xs = all-unmap (IsBefore (copy_of x)) xs (first-before (copy_of x) (map copy_of xs) e) in
    let own : All (λ (z : Copied). x.to ≡ z.to → copy_of x ≡ copy_of z) xs = All-tail (λ (z : Copied). x.to ≡ z.to → copy_of x ≡ copy_of z) x xs (All-head (λ (v : Copied). All (λ (z : Copied). v.to ≡ z.to → copy_of v ≡ copy_of z) (x ∷ xs)) x xs h) in
    pairs-cons AreTwo x xs
    (λ k d low. (λ same. later x (get_or xs k d) (before k d low) same, λ same. later x (get_or xs k d) (before k d low) (ap (λ (c : Copy). c.from) (own k d low same))))
    (pairs-two xs (ascends-tail (copy_of x) (map copy_of xs) e)
    (All-weaker (λ (v : Copied). All (λ (z : Copied). v.to ≡ z.to → copy_of v ≡ copy_of z) (x ∷ xs)) (λ (v : Copied). All (λ (z : Copied). v.to ≡ z.to → copy_of v ≡ copy_of z) xs)
    (λ v all. All-tail (λ (z : Copied). v.to ≡ z.to → copy_of v ≡ copy_of z) x xs all)
    xs
    (All-tail (λ (v : Copied). All (λ (z : Copied). v.to ≡ z.to → copy_of v ≡ copy_of z) (x ∷ xs)) x xs h)))

-- no owner has a page to which no pointer leads
none-owned : (owners : Spot → Option Owner) (at : Behind Page) (spot : Spot) → AreOwners owners at → ((p : Pointer) (y : Page) → at p ≡ Some y → y.spot ≢ spot) → owners spot ≡ None
none-owned owners at spot h unled = cases (owners spot) refl where
  cases : (o : Option Owner) → owners spot ≡ o → owners spot ≡ None
  cases None e = e
  cases (Some w) e = absurd (unled (pointer_of w) (page_of spot w) (h.led spot w e) refl)

movable-none : (owners : Spot → Option Owner) → AreMovable owners []
movable-none owners = record { unowned = All-nil (λ (x : Copied). owners x.to ≡ None); fresh = All-nil (λ (x : Copied). All (λ (z : Copied). z.from ≢ x.to) []); apart = pairs-none AreTwo }

movable-some : (pages : ℕ → ℕ) (at : Behind Page) (t : Trail) (rg : ℕ) (owners : Spot → Option Owner) (pass : Pass) → AreCopies pages at (t.copies rg) → AreOwners owners at → All (IsCopyOf pass) pass.copies → FollowsPass at t rg pass.copies → AreMovable owners pass.copies
movable-some pages at t rg owners pass table h copies follows =
    let P : Copy → Type 0 = λ (x : Copy). All (λ (z : Copy). x.to ≡ z.to → x ≡ z) (t.copies rg) in
    record {
      unowned = λ k d low. none-owned owners at (get_or pass.copies k d).to h (λ p y e. part at t rg pass.copies follows (λ (x : Copy). y.spot ≢ x.to) (table.unled p y e) k d low);
      fresh = All-weaker (IsCopyOf pass) (λ (x : Copied). All (λ (z : Copied). z.from ≢ x.to) pass.copies)
          (λ x is. All-weaker (IsCopyOf pass) (λ (z : Copied). z.from ≢ x.to) (λ z other same. is.new_unit (ap (λ (s : Spot). s.unit) (sym same) ∙ other.old_unit)) pass.copies copies)
          pass.copies
          copies;
      apart = pairs-two pass.copies (copies-ascend at t rg pass.copies follows)
          (All-weaker (λ (x : Copied). P (copy_of x)) (λ (x : Copied). All (λ (z : Copied). x.to ≡ z.to → copy_of x ≡ copy_of z) pass.copies)
          (λ x all. part at t rg pass.copies follows (λ (z : Copy). x.to ≡ z.to → copy_of x ≡ z) all)
          pass.copies
          (part at t rg pass.copies follows P table.apart));
    }

-- ---- the move of a pass with copies

-- the copies of a pass, with what follows them
record IsMoving (at : Behind Page) (t : Trail) (rg : ℕ) (passes : GroupPasses) : Type 0 where
  pass : Pass
  copies : copies_in passes ≡ pass.copies
  each : All (IsCopyOf pass) pass.copies
  follows : FollowsPass at t rg pass.copies

moving : (at : Behind Page) (t : Trail) (rg : ℕ) (passes : GroupPasses) → IsPassOf at t rg passes → (copies_in passes ≡ [] → ⊥) → IsMoving at t rg passes
moving at t rg passes h some = cases passes.pass refl h where
  cases : (o : Option Pass) → passes.pass ≡ o → IfSome o (IsFollowed at t rg) → IsMoving at t rg passes
  cases None e f = absurd (some (ap (λ (o : Option Pass). option_map_or (λ (pass : Pass). pass.copies) o []) e))
  cases (Some pass) e f =
      let same : copies_in passes ≡ pass.copies = ap (λ (o : Option Pass). option_map_or (λ (q : Pass). q.copies) o []) e in
      record { pass = pass; copies = same; each = f.copies; follows = f.follows (λ none. some (same ∙ none)) }

pub copies-movable : (c : DriveConfig) (p : Point) (rg : ℕ) (pages : ℕ → ℕ) (at : Behind Page) (owners : Spot → Option Owner) (passes : GroupPasses) → IsTableOf c p pages at → AreOwners owners at → IsPassOf at p.trail rg passes → AreMovable owners (copies_in passes)
copies-movable c p rg pages at owners passes table h follows = cases (copies_in passes) refl where
  cases : (copies : List Copied) → copies_in passes ≡ copies → AreMovable owners (copies_in passes)
  cases [] e = subst (AreMovable owners) (sym e) (movable-none owners)
  cases (z ∷ zs) e =
      let m = moving at p.trail rg passes follows (λ none. cc) in
      subst (AreMovable owners) (sym m.copies) (movable-some pages at p.trail rg owners m.pass (table.copies rg) h m.each m.follows)

-- the blocks at dead pages
flat-dead : (c : DriveConfig) (p : Point) (pages : ℕ → ℕ) (at : Behind Page) → IsOrderlyState c p.state → IsTableOf c p pages at → (xs : List Copy) → All (IsDead at) xs → flat_map (λ (x : Copy). blocks_at p x.from) xs ≡ []
flat-dead c p pages at orderly table [] h = refl
flat-dead c p pages at orderly table (x ∷ xs) h =
    let here : blocks_at p x.from ≡ [] = no-blocks c p pages at orderly table x.from (λ nsid lba y e. All-head (IsDead at) x xs h (of_block nsid lba) y e) in
    ap (λ (l : List BlockName). l ++ flat_map (λ (z : Copy). blocks_at p z.from) xs) here ∙ flat-dead c p pages at orderly table xs (All-tail (IsDead at) x xs h)

module _ (c : DriveConfig) (p : Point) (pages : ℕ → ℕ) (at : Behind Page) (owners : Spot → Option Owner) (orderly : IsOrderlyState c p.state) (table : IsTableOf c p pages at) (h : AreOwners owners at) where
  -- a page of this owner
  name-held : (spot : Spot) (holder : Holder) (spare : DataSpare) → owners spot ≡ Some (record { holder = holder; spare = spare }) → blocks_at p spot ≡ option_to_list (name_in holder spare)
  name-held spot Block spare e = one-block c p pages at orderly table spare.nsid spare.lba (page_of spot (record { holder = Block; spare = spare })) (h.led spot (record { holder = Block; spare = spare }) e)
  name-held spot (Flight queue) spare e =
      no-blocks c p pages at orderly table spot
      (λ nsid lba y is same.
      let o = h.owned (of_block nsid lba) y is in
      let both : Some (record { holder = Flight queue; spare = spare }) ≡ Some o.owner = sym e ∙ ap owners (sym same) ∙ o.is_owner in
      let one : record { holder = Flight queue; spare = spare } ≡ o.owner = cc in
      let points : of_flight queue spare.index ≡ of_block nsid lba = ap pointer_of one ∙ o.points in
      cc)

  -- the block that stands at a page is that of its owner
  names-at : (spot : Spot) → blocks_at p spot ≡ option_to_list (name_at owners spot)
  names-at spot = cases (owners spot) refl where
    cases : (o : Option Owner) → owners spot ≡ o → blocks_at p spot ≡ option_to_list (name_at owners spot)
    cases None e =
        no-blocks c p pages at orderly table spot (λ nsid lba y is same. let o = h.owned (of_block nsid lba) y is in let both : None ≡ Some o.owner = sym e ∙ ap owners (sym same) ∙ o.is_owner in cc)
        ∙ ap (λ (o : Option Owner). option_to_list (option_and_then name_of o)) (sym e)
    cases (Some w) e = name-held spot w.holder w.spare e ∙ ap (λ (o : Option Owner). option_to_list (option_and_then name_of o)) (sym e)

  listed-own : (copies : List Copied) → flat_map (λ (x : Copied). blocks_at p x.from) copies ≡ names_of owners copies
  listed-own [] = refl
  listed-own (x ∷ xs) =
      ap (λ (l : List BlockName). l ++ flat_map (λ (z : Copied). blocks_at p z.from) xs) (names-at x.from)
      ∙ ap (λ (l : List BlockName). option_to_list (name_at owners x.from) ++ l) (listed-own xs)
      ∙ in-front (name_at owners x.from) (names_of owners xs) where
        in-front : (o : Option BlockName) (l : List BlockName) → option_to_list o ++ l ≡ cons_option o l
        in-front None l = refl
        in-front (Some b) l = refl

pub pass-listed : (c : DriveConfig) (p : Point) (rg : ℕ) (pages : ℕ → ℕ) (at : Behind Page) (owners : Spot → Option Owner) (passes : GroupPasses) → IsOrderlyState c p.state → IsTableOf c p pages at → AreOwners owners at → IsPassOf at p.trail rg passes → (copies_in passes ≡ [] → ⊥) → moved_blocks p rg ≡ names_of owners (copies_in passes)
pass-listed c p rg pages at owners passes orderly table h follows some =
    let m = moving at p.trail rg passes follows some in
    ap (flat_map (λ (x : Copy). blocks_at p x.from)) m.follows.listed
    ∙ flat_map-append (λ (x : Copy). blocks_at p x.from) m.follows.stale (map copy_of m.pass.copies)
    ∙ ap (λ (l : List BlockName). l ++ flat_map (λ (x : Copy). blocks_at p x.from) (map copy_of m.pass.copies)) (flat-dead c p pages at orderly table m.follows.stale m.follows.dead)
    ∙ flat_map-map (λ (x : Copy). blocks_at p x.from) copy_of m.pass.copies
    ∙ listed-own c p pages at owners orderly table h m.pass.copies
    ∙ ap (names_of owners) (sym m.copies)

-- ---- where the pointers lead then

-- the pass of the trail moves a page that is pointed to as the copies of the pass do
moves-own : (at : Behind Page) (t : Trail) (rg : ℕ) (copies : List Copied) (follows : FollowsPass at t rg copies) (q : Pointer) (y : Page) → at q ≡ Some y → moved_by (pass_in t rg) y.spot ≡ moved_by (map copy_of copies) y.spot
moves-own at t rg copies follows q y e =
    ap (λ (l : List Copy). moved_by l y.spot) follows.listed
    ∙ moved-back follows.stale (map copy_of copies) y.spot (All-weaker (IsDead at) (λ (x : Copy). x.from ≢ y.spot) (λ x dead same. dead q y e (sym same)) follows.stale follows.dead)

-- copies whose old pages ascend: each moves its own
moves-each : (copies : List Copied) (spot : Spot) → ascends (map copy_of copies) ≡ true → All (λ (x : Copied). x.from ≡ spot → moved_by (map copy_of copies) spot ≡ x.to) copies
moves-each [] spot e = All-nil (λ (x : Copied). x.from ≡ spot → moved_by (map copy_of []) spot ≡ x.to)
moves-each (x ∷ xs) spot e =
    let before : All (λ (z : Copied). IsBefore (copy_of x) (copy_of z)) xs = all-unmap (IsBefore (copy_of x)) xs (first-before (copy_of x) (map copy_of xs) e) in
    let rest : All (λ (z : Copied). z.from ≡ spot → moved_by (map copy_of xs) spot ≡ z.to) xs = moves-each xs spot (ascends-tail (copy_of x) (map copy_of xs) e) in
    All-cons (λ (z : Copied). z.from ≡ spot → moved_by (map copy_of (x ∷ xs)) spot ≡ z.to) x xs
    (λ same. moved-here (copy_of x) (map copy_of xs) spot same)
    (λ k d low same. moved-there (copy_of x) (map copy_of xs) spot (λ is. later x (get_or xs k d) (before k d low) (is ∙ sym same)) ∙ rest k d low same)

pub pass-to_copies : (c : DriveConfig) (p : Point) (rg : ℕ) (pages : ℕ → ℕ) (at : Behind Page) (passes : GroupPasses) → IsTableOf c p pages at → IsPassOf at p.trail rg passes → (copies_in passes ≡ [] → ⊥) → (q : Pointer) (y : Page) → at q ≡ Some y → All (λ (x : Copied). x.from ≡ y.spot → moved_by (pass_in p.trail rg) y.spot ≡ x.to) (copies_in passes)
pass-to_copies c p rg pages at passes table follows some q y e =
    let m = moving at p.trail rg passes follows some in
    subst (All (λ (x : Copied). x.from ≡ y.spot → moved_by (pass_in p.trail rg) y.spot ≡ x.to)) (sym m.copies)
    (All-weaker (λ (x : Copied). x.from ≡ y.spot → moved_by (map copy_of m.pass.copies) y.spot ≡ x.to) (λ (x : Copied). x.from ≡ y.spot → moved_by (pass_in p.trail rg) y.spot ≡ x.to)
    (λ x to same. moves-own at p.trail rg m.pass.copies m.follows q y e ∙ to same)
    m.pass.copies
    (moves-each m.pass.copies y.spot (copies-ascend at p.trail rg m.pass.copies m.follows)))

pub pass-elsewhere : (c : DriveConfig) (p : Point) (rg : ℕ) (pages : ℕ → ℕ) (at : Behind Page) (passes : GroupPasses) → IsTableOf c p pages at → IsPassOf at p.trail rg passes → (copies_in passes ≡ [] → ⊥) → (q : Pointer) (y : Page) → at q ≡ Some y → All (λ (x : Copied). x.from ≢ y.spot) (copies_in passes) → moved_by (pass_in p.trail rg) y.spot ≡ y.spot
pass-elsewhere c p rg pages at passes table follows some q y e none =
    let m = moving at p.trail rg passes follows some in
    moves-own at p.trail rg m.pass.copies m.follows q y e ∙ stays m.pass.copies y.spot (subst (All (λ (x : Copied). x.from ≢ y.spot)) m.copies none)

-- a page of no copy stays, and one of a copy goes there
moves-cases : (copies : List Copied) (spot : Spot) → (moved_by (map copy_of copies) spot ≡ spot) ⊎ ((x : Copied) × Contains copies x × (x.from ≡ spot) × (moved_by (map copy_of copies) spot ≡ x.to))
moves-cases [] spot = inl refl
moves-cases (x ∷ xs) spot =
    ⊎_elim
    (λ (same : x.from ≡ spot). inr (x, (zero, omega arith, refl), same, moved-here (copy_of x) (map copy_of xs) spot same))
    (λ ne.
    let there = moved-there (copy_of x) (map copy_of xs) spot ne in
    ⊎_elim
    (λ still. inl (there ∙ still))
    (λ goes. inr (goes.0, (suc goes.1.0, omega (arith, goes.1.1), goes.1.2), goes.2, there ∙ goes.3))
    (moves-cases xs spot))
    (cases_spot x.from spot)

pub pass-page : (c : DriveConfig) (p : Point) (rg : ℕ) (pages : ℕ → ℕ) (at : Behind Page) (passes : GroupPasses) → IsTableOf c p pages at → IsPassOf at p.trail rg passes → (copies_in passes ≡ [] → ⊥) → (q : Pointer) (y : Page) → at q ≡ Some y
    → (moved_by (pass_in p.trail rg) y.spot ≡ y.spot) ⊎ ((x : Copied) × Contains (copies_in passes) x × (x.from ≡ y.spot) × (moved_by (pass_in p.trail rg) y.spot ≡ x.to))
pass-page c p rg pages at passes table follows some q y e =
    let m = moving at p.trail rg passes follows some in
    let own = moves-own at p.trail rg m.pass.copies m.follows q y e in
    ⊎_elim
    (λ still. inl (own ∙ still))
    (λ goes. inr (goes.0, subst (λ (l : List Copied). Contains l goes.0) (sym m.copies) goes.1, goes.2, own ∙ goes.3))
    (moves-cases m.pass.copies y.spot)

pub pass-owners : (c : DriveConfig) (p : Point) (rg : ℕ) (pages : ℕ → ℕ) (at : Behind Page) (owners : Spot → Option Owner) (passes : GroupPasses) → IsTableOf c p pages at → AreOwners owners at → IsPassOf at p.trail rg passes → (copies_in passes ≡ [] → ⊥) → AreOwners (owners_moved owners (copies_in passes)) (moved (put_at (moved_by (pass_in p.trail rg))) at)
pass-owners c p rg pages at owners passes table h follows some =
    let m = moving at p.trail rg passes follows some in
    subst (λ (copies : List Copied). AreOwners (owners_moved owners copies) (moved (put_at (moved_by (pass_in p.trail rg))) at)) (sym m.copies)
    (subst (AreOwners (owners_moved owners m.pass.copies)) (sym (moved-same (moved_by (pass_in p.trail rg)) (moved_by (map copy_of m.pass.copies)) at (λ q y e. moves-own at p.trail rg m.pass.copies m.follows q y e)))
    (owners-moved owners at m.pass.copies h (movable-some pages at p.trail rg owners m.pass (table.copies rg) h m.each m.follows)))

-- ---- a unit without a live page

pub unit-free : (o : OwnerTable) (at : Behind Page) (unit : ℕ) → AreOwners (owner_at o) at → live_in o unit ≡ 0 → IsFree unit at
unit-free o at unit h none = unit-unled (owner_at o) at unit h (unowned-unit o unit none)

pub unit-empty : (o : OwnerTable) (at : Behind Page) (unit : ℕ) → AreOwners (owner_at o) at → HasNoLive o unit 0 → IsFree unit at
unit-empty o at unit h none =
    unit-unled (owner_at o) at unit h
    (λ spot x e same.
    let place : spot ≡ record { unit = unit; page = spot.page } = λ i. record { unit = same i; page = spot.page } in
    let both : None ≡ Some x = sym (none spot.page (omega arith)) ∙ ap (owner_at o) (sym place) ∙ e in
    cc)

pub unit-erasable : (c : DriveConfig) (p : Point) (pages : ℕ → ℕ) (at : Behind Page) (o : OwnerTable) (unit : ℕ) → IsTableOf c p pages at → AreOwners (owner_at o) at → HasNoLive o unit 0 → (nsid lba : ℕ) → IfSome (site_of p nsid lba) (λ (spot : Spot). spot.unit ≢ unit)
unit-erasable c p pages at o unit table h none nsid lba = free-empty c p pages at table unit (unit-empty o at unit h none) nsid lba
