-- A namespace is put in its place with its page list, or taken away.
use Rattle.std.proofs.Common.{◌≡◌, ◌≢◌, ℕ, zero, suc, ◌∷◌, ◌+◌, ◌-◌, ◌<◌, ◌≤◌, Bool, true, false, List, [], length, Option, None, Some, refl, ap, sym, ◌∙◌, arith, ⊎_elim}
use Rattle.std.specs.Prelude.{◌==◌, ◌&&◌, ◌||◌, if◌then◌else◌, is_some, option_map, slice_get}
use Rattle.std.specs.List.{list_all}
use Rattle.std.specs.Option.{option_and_then, option_map_or}
use Rattle.std.proofs.lemmas.Bool.{eqb-true, leb-true}
use Rattle.std.proofs.lemmas.Bool.Decides.{eqb_tells, nat_tests}
use Rattle.fdp_base.specs.declared.command.Range.{Range}
use Rattle.fdp_base.specs.declared.config.DriveConfig.{DriveConfig}
use Rattle.fdp_base.specs.Numbers.{is_among}
use Rattle.fdp_rules.specs.PlainState.{Namespace}
use Rattle.fdp_records.specs.declared.change.Change.{Change}
use Rattle.fdp_snapshot.specs.declared.space.Space.{Space}
use Rattle.fdp_image.specs.Changed.{changed, pages_after}
use Rattle.fdp_image.specs.Checkpoint.{namespace_of, page_in_lists, reading_of_state}
use Rattle.fdp_image.specs.CheckpointRows.{is_namespace_id}
use Rattle.fdp_image.specs.Reading.{Reading, size_in}
use Rattle.fdp_state.specs.declared.parts.Parts.{Parts}
use Rattle.fdp_image.specs.Fits.{has_namespace, is_range_within, lie_within, lies_within}
use Rattle.fdp_state.specs.Made.{HasPagesAfter}
use Rattle.fdp_state.specs.Owners.{AreOwners, with_row}
use Rattle.fdp_state.specs.Parts.{IsSound, listed, reading_of, row}
use Rattle.fdp_state.proofs.Listing.{listed-within}
use Rattle.fdp_outline.proofs.Naming.{left, right}

-- a namespace that is not there has no block
pub absent_size : (r : Reading) (nsid : ℕ) → has_namespace r nsid ≡ false → size_in r nsid ≡ 0
absent_size r nsid none = of_namespace (r.namespaces nsid) none where
  of_namespace : (o : Option Namespace) → is_some o ≡ false → option_map_or (λ (x : Namespace). x.size) o 0 ≡ 0
  of_namespace None e = refl
  of_namespace (Some x) e = cc

empty_list : (list : List (Option ℕ)) (lba : ℕ) → length list ≡ 0 → row list lba ≡ None
empty_list [] lba e = refl
empty_list (x ∷ xs) lba e = absurd (omega arith)

-- nor a page
pub listed_none : (lists : List (List (Option ℕ))) (nsid lba : ℕ) → listed lists nsid ≡ 0 → page_in_lists lists nsid lba ≡ None
listed_none lists nsid lba none = of_id (is_namespace_id nsid) none where
  of_list : (o : Option (List (Option ℕ))) → option_map_or length o 0 ≡ 0 → option_and_then (λ (x : List (Option ℕ)). row x lba) o ≡ None
  of_list None e = refl
  of_list (Some list) e = empty_list list lba e

  of_id : (b : Bool) → (if b then option_map_or length (slice_get lists (nsid - 1)) 0 else 0) ≡ 0
      → (if b then option_and_then (λ (x : List (Option ℕ)). row x lba) (slice_get lists (nsid - 1)) else None) ≡ None
  of_id true e = of_list (slice_get lists (nsid - 1)) e
  of_id false e = refl

-- blocks that lie within a namespace have a place in its page list
pub within_list : (s : Parts) (nsid slba count : ℕ) → IsSound s → lies_within (reading_of s) nsid slba count ≡ true → slba + count ≤ listed s.pages.items nsid
within_list s nsid slba count h e =
    let fits : slba + count ≤ size_in (reading_of s) nsid = leb-true (slba + count) (size_in (reading_of s) nsid) (right (has_namespace (reading_of s) nsid) _ e) in
    omega (arith, fits, h.sizes nsid)

-- a range with a block in it lies within the namespace
some_within : (r : Reading) (nsid : ℕ) (x : Range) → 0 < x.length → is_range_within r nsid x ≡ true → lies_within r nsid x.slba x.length ≡ true
some_within r nsid x some e = of_test (x.length == 0) refl e where
  of_test : (b : Bool) → (x.length == 0) ≡ b → (b || lies_within r nsid x.slba x.length) ≡ true → lies_within r nsid x.slba x.length ≡ true
  of_test true is e = absurd (omega (arith, some, eqb-true x.length 0 is))
  of_test false is e = e

all_at : {X : Type 0} (p : X → Bool) (xs : List X) (k : ℕ) (x : X) → list_all p xs ≡ true → slice_get xs k ≡ Some x → p x ≡ true
all_at p [] k x all at = cc
all_at p (y ∷ ys) zero x all at = let same : y ≡ x = cc in ap p (sym same) ∙ left (p y) (list_all p ys) all
all_at p (y ∷ ys) (suc k) x all at = all_at p ys k x (right (p y) (list_all p ys) all) at

pub ranges_within : (s : Parts) (nsid : ℕ) (ranges : List Range) → IsSound s → lie_within (reading_of s) nsid ranges ≡ true
    → (x : Range) (k : ℕ) → slice_get ranges k ≡ Some x → 0 < x.length → x.slba + x.length ≤ listed s.pages.items nsid
ranges_within s nsid ranges h all x k at some =
    within_list s nsid x.slba x.length h (some_within (reading_of s) nsid x some (all_at (is_range_within (reading_of s) nsid) ranges k x all at))

-- the size of the one namespace or the other
pub size-if : (b : Bool) (x y : Option Namespace) → option_map_or (λ (z : Namespace). z.size) (if b then x else y) 0
    ≡ (if b then option_map_or (λ (z : Namespace). z.size) x 0 else option_map_or (λ (z : Namespace). z.size) y 0)
size-if true x y = refl
size-if false x y = refl

pub space_size : (space : Option Space) → option_map_or (λ (x : Namespace). x.size) (option_map namespace_of space) 0 ≡ option_map_or (λ (x : Space). x.size) space 0
space_size None = refl
space_size (Some x) = refl

-- the page list of a namespace was put in its place, and none of its blocks has a page
module _ (old new : Parts) (rest : new ≡ record old { pages = new.pages; owners = new.owners }) (nsid size : ℕ) (sound : IsSound old) (lists : length new.pages.items ≡ 16)
    (pages : (n lba : ℕ) → page_in_lists new.pages.items n lba ≡ (if n == nsid then None else page_in_lists old.pages.items n lba))
    (sizes : (n : ℕ) → listed new.pages.items n ≡ (if n == nsid then size else listed old.pages.items n))
    (owners : AreOwners (page_in_lists new.pages.items) new.owners.items) where
  pub placed_pages : (c : DriveConfig) (change : Change) → ((position n : ℕ) → size_in (changed c (reading_of old) position change) n ≡ (if n == nsid then size else size_in (reading_of old) n))
      → ((n lba : ℕ) → pages_after c (reading_of old) change n lba ≡ (if n == nsid then None else (reading_of old).pages n lba)) → HasPagesAfter c change old new
  unfolding reading_of_state
  placed_pages c change same after = record {
    rest = rest;
    said = λ n lba. pages n lba ∙ sym (after n lba);
    sizes = λ position n. sizes n ∙ ap (λ (k : ℕ). if n == nsid then size else k) (sound.sizes n) ∙ sym (same position n);
    lists = lists;
    owners = owners;
  }

-- a page list that is put in a place, where no address has a page
pub empty_pages : (list : List (Option ℕ)) (new old : List (List (Option ℕ))) (nsid n lba : ℕ) → page_in_lists new n lba ≡ (if n == nsid then row list lba else page_in_lists old n lba)
    → ((l : ℕ) → row list l ≡ None) → page_in_lists new n lba ≡ (if n == nsid then None else page_in_lists old n lba)
empty_pages list new old nsid n lba e none = e ∙ ap (λ (o : Option ℕ). if n == nsid then o else page_in_lists old n lba) (none lba)

-- a namespace that was not there has no page to lose
pub none_before : (s : Parts) (nsid : ℕ) → IsSound s → has_namespace (reading_of s) nsid ≡ false → (n lba : ℕ)
    → (reading_of s).pages n lba ≡ (if n == nsid then None else (reading_of s).pages n lba)
unfolding reading_of_state
none_before s nsid h absent n lba =
    ⊎_elim
    (λ (e : (n == nsid ≡ true) × (n ≡ nsid)).
    let zero_size : listed s.pages.items nsid ≡ 0 = h.sizes nsid ∙ absent_size (reading_of s) nsid absent in
    ap (λ (k : ℕ). page_in_lists s.pages.items k lba) e.1
    ∙ listed_none s.pages.items nsid lba zero_size
    ∙ sym (ap (λ (b : Bool). if b then None else page_in_lists s.pages.items n lba) e.0))
    (λ (e : (n == nsid ≡ false) × (n ≢ nsid)). sym (ap (λ (b : Bool). if b then None else page_in_lists s.pages.items n lba) e.0))
    (eqb_tells n nsid)

-- a namespace whose pages were all taken away
pub cleared_all : (s : Parts) (nsid size : ℕ) → IsSound s → size ≡ size_in (reading_of s) nsid → (n lba : ℕ)
    → with_row (λ (l : ℕ). None) (page_in_lists s.pages.items) nsid 0 size n lba ≡ (if n == nsid then None else page_in_lists s.pages.items n lba)
cleared_all s nsid size h is n lba =
    ⊎_elim
    (λ (e : (n == nsid ≡ true) × (n ≡ nsid)).
    ap (λ (b : Bool). if b && is_among 0 size lba then None else page_in_lists s.pages.items n lba) e.0
    ∙ of_place e.1 (is_among 0 size lba) refl
    ∙ sym (ap (λ (b : Bool). if b then None else page_in_lists s.pages.items n lba) e.0))
    (λ (e : (n == nsid ≡ false) × (n ≢ nsid)).
    ap (λ (b : Bool). if b && is_among 0 size lba then None else page_in_lists s.pages.items n lba) e.0
    ∙ sym (ap (λ (b : Bool). if b then None else page_in_lists s.pages.items n lba) e.0))
    (eqb_tells n nsid)
  where
    of_page : n ≡ nsid → size ≤ lba → (o : Option ℕ) → page_in_lists s.pages.items n lba ≡ o → page_in_lists s.pages.items n lba ≡ None
    of_page same high None at = at
    of_page same high (Some page) at = let low = listed-within s.pages.items n lba page at in absurd (omega (arith, high, low, is, h.sizes nsid, ap (listed s.pages.items) same))

    of_place : n ≡ nsid → (b : Bool) → is_among 0 size lba ≡ b → (if b then None else page_in_lists s.pages.items n lba) ≡ None
    of_place same true test = refl
    of_place same false test = let high : size ≤ lba = grind (arith, nat_tests) in of_page same high (page_in_lists s.pages.items n lba) refl

pub twice_none : (b : Bool) (o : Option ℕ) → (if b then None else (if b then None else o)) ≡ (if b then None else o)
twice_none true o = refl
twice_none false o = refl
