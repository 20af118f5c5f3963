-- The copies of blocks of a pass: in which order they lie, which blocks they move, and what the entry of the move makes known.
use Rattle.std.proofs.Common.{◌≡◌, ℕ, suc, ◌+◌, ◌<◌, ◌≤◌, Bool, true, false, List, [], ◌∷◌, map, filter, Option, Some, None, refl, ap, sym, ◌∙◌, subst, arith}
use Rattle.std.specs.Prelude.{All, ◌==◌, if◌then◌else◌, is_some, option_and_then, option_map, slice_get}
use Rattle.std.specs.Option.{option_map_or}
use Rattle.std.specs.List.{cons_option}
use Rattle.std.proofs.lemmas.List.Elements.{All-cons, All-head, All-nil, All-tail}
use Rattle.fdp_base.specs.declared.spare.DataSpare.{DataSpare}
use Rattle.fdp_base.specs.declared.config.DriveConfig.{DriveConfig}
use Rattle.fdp_base.specs.declared.entry.BlockName.{BlockName}
use Rattle.fdp_base.specs.declared.entry.Copied.{Copied}
use Rattle.fdp_base.specs.declared.entry.Spot.{Spot}
use Rattle.fdp_history.specs.Standing.{IsStanding}
use Rattle.fdp_keeper.specs.Moves.{OldInOrder, moved_by_owner, moved_of}
use Rattle.fdp_durability.specs.fdp_locations.Located.{AreLed, next_in}
use Rattle.fdp_durability.specs.fdp_locations.Written.{Written}
use Rattle.fdp_outline.specs.declared.moved_block.MovedBlock.{MovedBlock}
use Rattle.fdp_outline.specs.Events.{names_of_handle}
use Rattle.fdp_owners.specs.declared.owner.Holder.{Holder}
use Rattle.fdp_owners.specs.declared.owner.Holder.TheVariants as holders
use Rattle.fdp_owners.specs.declared.owner.Owner.{Owner}
use Rattle.fdp_owners.specs.Owned.{page_of}
use Rattle.fdp_owners.specs.OwnerTable.{owner_at, pointer_in}
use Rattle.fdp_durability.specs.fdp_pages.Joined.{LieInOrder}
use Rattle.fdp_durability.specs.fdp_pages.PageTables.{PageTables}
use Rattle.fdp_pointers.specs.Facts.{Page}
use Rattle.fdp_pointers.specs.Pointers.{Behind, Pointer.of_block}
use Rattle.fdp_pointers.proofs.Tables.{block-at}
use Rattle.fdp_durability.specs.fdp_readings.Changes.{IsPlacedBy, copies_of_blocks, known_handle}
use Rattle.fdp_durability.proofs.fdp_readings.Passing.{copies-placed}
use Rattle.fdp_rules.specs.Events.{is_of_handle}
use Rattle.fdp_rules.specs.PlainState.{Block, PlainState}
use Rattle.fdp_rules.specs.Point.{Point}
use Rattle.fdp_rules.specs.Sites.{site_of}
use Rattle.fdp_durability.specs.fdp_trails.Moves.{name_at, name_in, name_of, names_of}

-- ---- order, where some are left out

lower-new : (unit low high : ℕ) (xs : List Copied) → low ≤ high → LieInOrder unit high xs → LieInOrder unit low xs
lower-new unit low high [] less h = tt
lower-new unit low high (x ∷ xs) less h = (h.0, omega (arith, less, h.1), h.2)

pub filter-new : (test : Copied → Bool) (unit first : ℕ) (xs : List Copied) → LieInOrder unit first xs → LieInOrder unit first (filter test xs)
filter-new test unit first [] h = tt
filter-new test unit first (x ∷ xs) h = cases (test x) (filter-new test unit (x.to.page + 1) xs h.2) where
  cases : (b : Bool) → LieInOrder unit (x.to.page + 1) (filter test xs) → LieInOrder unit first (if b then x ∷ filter test xs else filter test xs)
  cases true rest = (h.0, h.1, rest)
  cases false rest = lower-new unit first (x.to.page + 1) (filter test xs) (omega (arith, h.1)) rest

lower-old : (unit low high : ℕ) (xs : List Copied) → low ≤ high → OldInOrder unit high xs → OldInOrder unit low xs
lower-old unit low high [] less h = tt
lower-old unit low high (x ∷ xs) less h = (h.0, omega (arith, less, h.1), h.2)

pub filter-old : (test : Copied → Bool) (unit first : ℕ) (xs : List Copied) → OldInOrder unit first xs → OldInOrder unit first (filter test xs)
filter-old test unit first [] h = tt
filter-old test unit first (x ∷ xs) h = cases (test x) (filter-old test unit (x.from.page + 1) xs h.2) where
  cases : (b : Bool) → OldInOrder unit (x.from.page + 1) (filter test xs) → OldInOrder unit first (if b then x ∷ filter test xs else filter test xs)
  cases true rest = (h.0, h.1, rest)
  cases false rest = lower-old unit first (x.from.page + 1) (filter test xs) (omega (arith, h.1)) rest

-- pages that ascend lie in order
pub ascending-old : (unit first : ℕ) (xs : List Copied) → ((i : ℕ) (a : Copied) → slice_get xs i ≡ Some a → a.from.unit ≡ unit) → ((a : Copied) → slice_get xs 0 ≡ Some a → first ≤ a.from.page) → ((i j : ℕ) (a b : Copied) → i < j → slice_get xs i ≡ Some a → slice_get xs j ≡ Some b → a.from.page < b.from.page) → OldInOrder unit first xs
ascending-old unit first [] units low ascend = tt
ascending-old unit first (x ∷ xs) units low ascend = (
  units 0 x refl,
  low x refl,
  ascending-old unit (x.from.page + 1) xs (λ i a is. units (suc i) a is) (λ a is. (let less : x.from.page < a.from.page = ascend 0 1 x a (omega arith) refl is in omega (arith, less))) (λ i j a b less e f. ascend (suc i) (suc j) a b (omega (arith, less)) e f),
)

-- ---- names

held-name : (h : Holder) (s : DataSpare) (name : BlockName) → name_in h s ≡ Some name → record { nsid = s.nsid; lba = s.lba } ≡ name
held-name holders.Block s name e = cc
held-name (holders.Flight queue) s name e = absurd cc

of-name : (o : Option Owner) (name : BlockName) → option_and_then name_of o ≡ Some name → (moved_by_owner o).name ≡ name
of-name None name e = absurd cc
of-name (Some x) name e = held-name x.holder x.spare name e

-- the blocks of the copies are those that the owners name
pub names-listed : (owners : Spot → Option Owner) (xs : List Copied) → names_of owners xs ≡ map (λ (x : MovedBlock). x.name) (map (moved_of owners) (copies_of_blocks owners xs))
names-listed owners [] = refl
names-listed owners (x ∷ xs) = cases (name_at owners x.from) refl (names-listed owners xs) where
  cases : (n : Option BlockName) → name_at owners x.from ≡ n → names_of owners xs ≡ map (λ (y : MovedBlock). y.name) (map (moved_of owners) (copies_of_blocks owners xs)) → names_of owners (x ∷ xs) ≡ map (λ (y : MovedBlock). y.name) (map (moved_of owners) (copies_of_blocks owners (x ∷ xs)))
  cases None e rest =
      ap (λ (m : Option BlockName). cons_option m (names_of owners xs)) e ∙ rest
      ∙ ap (λ (b : Bool). map (λ (y : MovedBlock). y.name) (map (moved_of owners) (if b then x ∷ copies_of_blocks owners xs else copies_of_blocks owners xs))) (sym (ap is_some e))
  cases (Some name) e rest =
      ap (λ (m : Option BlockName). cons_option m (names_of owners xs)) e
      ∙ ap (λ (ns : List BlockName). name ∷ ns) rest
      ∙ ap (λ (n : BlockName). n ∷ map (λ (y : MovedBlock). y.name) (map (moved_of owners) (copies_of_blocks owners xs))) (sym (of-name (owners x.from) name e))
      ∙ ap (λ (b : Bool). map (λ (y : MovedBlock). y.name) (map (moved_of owners) (if b then x ∷ copies_of_blocks owners xs else copies_of_blocks owners xs))) (sym (ap is_some e))

-- ---- handles

-- a block that is moved is of the handle that its owner knows
abbrev IsKnown : PlainState → ℕ → MovedBlock → Type 0
IsKnown s ruh b = is_of_handle s ruh b.name ≡ (b.ruh == ruh)

named-sifted : (s : PlainState) (ruh : ℕ) (bs : List MovedBlock) → All (IsKnown s ruh) bs → names_of_handle bs ruh ≡ filter (is_of_handle s ruh) (map (λ (x : MovedBlock). x.name) bs)
named-sifted s ruh [] h = refl
named-sifted s ruh (b ∷ bs) h = cases (b.ruh == ruh) refl (named-sifted s ruh bs (All-tail (IsKnown s ruh) b bs h)) where
  pick : (t : Bool) → names_of_handle bs ruh ≡ filter (is_of_handle s ruh) (map (λ (x : MovedBlock). x.name) bs) → map (λ (x : MovedBlock). x.name) (if t then b ∷ filter (λ (x : MovedBlock). x.ruh == ruh) bs else filter (λ (x : MovedBlock). x.ruh == ruh) bs) ≡ (if t then b.name ∷ filter (is_of_handle s ruh) (map (λ (x : MovedBlock). x.name) bs) else filter (is_of_handle s ruh) (map (λ (x : MovedBlock). x.name) bs))
  pick true rest = ap (λ (ns : List BlockName). b.name ∷ ns) rest
  pick false rest = rest

  cases : (t : Bool) → (b.ruh == ruh) ≡ t → names_of_handle bs ruh ≡ filter (is_of_handle s ruh) (map (λ (x : MovedBlock). x.name) bs) → names_of_handle (b ∷ bs) ruh ≡ filter (is_of_handle s ruh) (map (λ (x : MovedBlock). x.name) (b ∷ bs))
  cases t e rest =
      let both : is_of_handle s ruh b.name ≡ t = All-head (IsKnown s ruh) b bs h ∙ e in
      ap (λ (k : Bool). map (λ (x : MovedBlock). x.name) (if k then b ∷ filter (λ (x : MovedBlock). x.ruh == ruh) bs else filter (λ (x : MovedBlock). x.ruh == ruh) bs)) e
      ∙ pick t rest
      ∙ ap (λ (k : Bool). if k then b.name ∷ filter (is_of_handle s ruh) (map (λ (x : MovedBlock). x.name) bs) else filter (is_of_handle s ruh) (map (λ (x : MovedBlock). x.name) bs)) (sym both)

each-moved : (owners : Spot → Option Owner) (R : MovedBlock → Type 0) → ((x : Copied) → is_some (name_at owners x.from) ≡ true → R (moved_of owners x)) → (xs : List Copied) → All R (map (moved_of owners) (copies_of_blocks owners xs))
each-moved owners R each [] = All-nil R
each-moved owners R each (x ∷ xs) = cases (is_some (name_at owners x.from)) refl (each-moved owners R each xs) where
  cases : (b : Bool) → is_some (name_at owners x.from) ≡ b → All R (map (moved_of owners) (copies_of_blocks owners xs)) → All R (map (moved_of owners) (if b then x ∷ copies_of_blocks owners xs else copies_of_blocks owners xs))
  cases true e rest = All-cons R (moved_of owners x) (map (moved_of owners) (copies_of_blocks owners xs)) (each x e) rest
  cases false e rest = rest

-- the old page of a copy of a block: an owner knows it
record IsBlocks (owners : Spot → Option Owner) (spot : Spot) : Type 0 where
  owner : Owner
  is_owner : owners spot ≡ Some owner
  block : owner.holder ≡ holders.Block

is-blocks : (owners : Spot → Option Owner) (spot : Spot) → is_some (name_at owners spot) ≡ true → IsBlocks owners spot
is-blocks owners spot e = cases (owners spot) refl e where
  held : (x : Owner) (h : Holder) → x.holder ≡ h → is_some (name_in h x.spare) ≡ true → x.holder ≡ holders.Block
  held x holders.Block same e = same
  held x (holders.Flight queue) same e = absurd cc

  cases : (o : Option Owner) → owners spot ≡ o → is_some (option_and_then name_of o) ≡ true → IsBlocks owners spot
  cases None is e = absurd cc
  cases (Some x) is e = record { owner = x; is_owner = is; block = held x x.holder refl e }

module _ (c : DriveConfig) (p : Point) (written : Spot → Option Written) (at : Behind Page) (t : PageTables) (standing : IsStanding c p) (led : AreLed c p written at t) where
  known-one : (ruh : ℕ) (x : Copied) → is_some (name_at (owner_at t.owners) x.from) ≡ true → IsKnown p.state ruh (moved_of (owner_at t.owners) x)
  known-one ruh x e =
      let own = is-blocks (owner_at t.owners) x.from e in
      let o : Owner = own.owner in
      let leads : at (of_block o.spare.nsid o.spare.lba) ≡ Some (page_of x.from o) = ap (λ (h : Holder). at (pointer_in h o.spare)) (sym own.block) ∙ led.owned.led x.from o own.is_owner in
      let site : site_of p o.spare.nsid o.spare.lba ≡ Some x.from = block-at c p (next_in t.units) at led.table o.spare.nsid o.spare.lba ∙ ap (option_map (λ (y : Page). y.spot)) leads in
      let one : copies_of_blocks (owner_at t.owners) (x ∷ []) ≡ x ∷ [] = ap (λ (b : Bool). if b then x ∷ [] else []) e in
      let placed : IsPlacedBy p x.from (known_handle (owner_at t.owners) x.from) = All-head (λ (y : Copied). IsPlacedBy p y.from (known_handle (owner_at t.owners) y.from)) x [] (subst (λ (ys : List Copied). All (λ (y : Copied). IsPlacedBy p y.from (known_handle (owner_at t.owners) y.from)) ys) one (copies-placed c p written at t (x ∷ []) standing led)) in
      let known : known_handle (owner_at t.owners) x.from ≡ o.spare.ruh = ap (λ (m : Option Owner). option_map_or (λ (y : Owner). y.spare.ruh) m 0) own.is_owner in
      subst (λ (m : Option Owner). IsKnown p.state ruh (moved_by_owner m)) (sym own.is_owner)
      (found (p.state.blocks o.spare.nsid o.spare.lba) refl site (λ b there where_. placed o.spare.nsid o.spare.lba b there where_ ∙ known)) where
        found : {nsid lba handle : ℕ} (m : Option Block) → p.state.blocks nsid lba ≡ m → option_and_then (λ (b : Block). p.trail.site b.page) (p.state.blocks nsid lba) ≡ Some x.from → ((b : Block) → p.state.blocks nsid lba ≡ Some b → p.trail.site b.page ≡ Some x.from → b.ruh ≡ handle) → option_map_or (λ (b : Block). b.ruh == ruh) (p.state.blocks nsid lba) false ≡ (handle == ruh)
        found {nsid} {lba} {handle} None is site each = absurd (never (sym (ap (option_and_then (λ (b : Block). p.trail.site b.page)) is) ∙ site)) where
          never : None ≡ Some x.from → ⊥
          never f = cc
        found {nsid} {lba} {handle} (Some b) is site each = ap (λ (m : Option Block). option_map_or (λ (y : Block). y.ruh == ruh) m false) is ∙ ap (λ (n : ℕ). n == ruh) (each b is (sym (ap (option_and_then (λ (y : Block). p.trail.site y.page)) is) ∙ site))

  -- of each handle the event names the blocks that the entry does
  pub handles-named : (ruh : ℕ) (xs : List Copied) → names_of_handle (map (moved_of (owner_at t.owners)) (copies_of_blocks (owner_at t.owners) xs)) ruh ≡ filter (is_of_handle p.state ruh) (names_of (owner_at t.owners) xs)
  handles-named ruh xs =
      named-sifted p.state ruh (map (moved_of (owner_at t.owners)) (copies_of_blocks (owner_at t.owners) xs)) (each-moved (owner_at t.owners) (IsKnown p.state ruh) (known-one ruh) xs)
      ∙ ap (filter (is_of_handle p.state ruh)) (sym (names-listed (owner_at t.owners) xs))
