-- Blocks by their page, and what a move makes of them.
use Rattle.std.proofs.Common.{◌≡◌, ◌≢◌, ℕ, zero, suc, ◌+◌, ◌<◌, ◌≤◌, ◌++◌, Bool, true, false, List, [], ◌∷◌, get_or, map, filter, flat_map, Option, Some, None, refl, sym, ap, subst, ◌∙◌, arith, ⊎_elim}
use Rattle.std.specs.Prelude.{◌==◌, ◌&&◌, ◌||◌, All, find, if◌then◌else◌, option_map}
use Rattle.std.specs.List.{list_any}
use Rattle.std.specs.Option.{option_map_or}
use Rattle.std.proofs.lemmas.Bool.{eq-eqb, eqb-true, ne_eqb}
use Rattle.std.proofs.lemmas.Bool.Decides.{eqb_tells, nat_tests}
use Rattle.std.proofs.lemmas.List.{append-nil}
use Rattle.std.proofs.lemmas.List.Elements.{All-append, All-cons, All-filter, All-map, All-nil}
use Rattle.std.proofs.lemmas.List.Folds.{list_any-append}
use Rattle.std.proofs.lemmas.List.Sums.{fold-append}
use Rattle.fdp_base.specs.declared.entry.BlockName.{BlockName}
use Rattle.fdp_base.specs.Numbers.{is_among, numbers_below, numbers_from}
use Rattle.fdp_rules.specs.Room.{namespace_ids}
use Rattle.fdp_image.specs.Changed.{moved_to}
use Rattle.fdp_image.specs.Checkpoint.{page_in_lists, reading_of_state}
use Rattle.fdp_image.specs.CheckpointRows.{is_namespace_id}
use Rattle.fdp_image.specs.Reading.{Reading, blocks_in, blocks_on, has_page, size_in}
use Rattle.fdp_state.specs.declared.owners.Owner.TheVariants as owned
use Rattle.fdp_state.specs.declared.parts.Parts.{Parts}
use Rattle.fdp_state.specs.Parts.{IsSound, listed, reading_of}
use Rattle.fdp_state.specs.Owners.{IsOwner, Pages, StandsAlone, moved_blocks, with_page, with_pages}
use Rattle.fdp_state.proofs.Places.{id_is}
use Rattle.fdp_state.proofs.Listing.{listed-id, listed-within}

-- what holds of each piece
each-piece : {X Y : Type 0} (P : Y → Type 0) (f : X → List Y) → ((x : X) → All P (f x)) → (xs : List X) → All P (flat_map f xs)
each-piece P f each [] = All-nil P
each-piece P f each (x ∷ xs) = All-append P (f x) (flat_map f xs) (each x) (each-piece P f each xs)

-- a block is this one
abbrev is_this : ℕ → ℕ → BlockName → Bool
is_this n l b = n == b.nsid && l == b.lba

or_false : (b : Bool) → (b || false) ≡ b
or_false true = refl
or_false false = refl

and_false : (b : Bool) → (b && false) ≡ false
and_false true = refl
and_false false = refl

-- ---- a number in a row

among-none : (first n : ℕ) → is_among first 0 n ≡ false
among-none first n = grind (arith, nat_tests)

among-first : (first count : ℕ) → is_among first (suc count) first ≡ true
among-first first count = grind (arith, nat_tests)

among-past : (first count : ℕ) → is_among (first + 1) count first ≡ false
among-past first count = grind (arith, nat_tests)

among-rest : (first count n : ℕ) → n ≢ first → is_among first (suc count) n ≡ is_among (first + 1) count n
among-rest first count n ne = grind (arith, nat_tests)

-- one number of a row passes a test of its own
any-one : (n : ℕ) (q : ℕ → Bool) (first count : ℕ) → list_any (λ k. n == k && q k) (numbers_from first count) ≡ (is_among first count n && q n)
unfolding numbers_from
any-one n q first zero = sym (ap (λ (b : Bool). b && q n) (among-none first n))
any-one n q first (suc count) =
    ap (λ (b : Bool). (n == first && q first) || b) (any-one n q (first + 1) count)
    ∙ ⊎_elim
    (λ (e : (n == first ≡ true) × (n ≡ first)).
    ap (λ (b : Bool). (b && q first) || (is_among (first + 1) count n && q n)) e.0
    ∙ ap (λ (k : ℕ). q first || (is_among (first + 1) count k && q k)) e.1
    ∙ ap (λ (b : Bool). q first || (b && q first)) (among-past first count)
    ∙ or_false (q first)
    ∙ sym (ap (λ (k : ℕ). is_among first (suc count) k && q k) e.1 ∙ ap (λ (b : Bool). b && q first) (among-first first count)))
    (λ (e : (n == first ≡ false) × (n ≢ first)).
    ap (λ (b : Bool). (b && q first) || (is_among (first + 1) count n && q n)) e.0
    ∙ sym (ap (λ (b : Bool). b && q n) (among-rest first count n e.1)))
    (eqb_tells n first)

-- a number is one of those of a row that pass a test
any-chosen : (l : ℕ) (t : ℕ → Bool) (first count : ℕ) → list_any (λ k. l == k) (filter t (numbers_from first count)) ≡ (is_among first count l && t l)
unfolding numbers_from
any-chosen l t first zero = sym (ap (λ (b : Bool). b && t l) (among-none first l))
any-chosen l t first (suc count) = of_test (any-chosen l t (first + 1) count) (t first) refl where
  of_test : list_any (λ k. l == k) (filter t (numbers_from (first + 1) count)) ≡ (is_among (first + 1) count l && t l) → (b : Bool) → t first ≡ b
      → list_any (λ k. l == k) (if b then first ∷ filter t (numbers_from (first + 1) count) else filter t (numbers_from (first + 1) count)) ≡ (is_among first (suc count) l && t l)
  of_test rest true is =
      ap (λ (b : Bool). l == first || b) rest
      ∙ ⊎_elim
      (λ (e : (l == first ≡ true) × (l ≡ first)).
      ap (λ (b : Bool). b || (is_among (first + 1) count l && t l)) e.0
      ∙ sym (ap (λ (k : ℕ). is_among first (suc count) k && t k) e.1 ∙ ap (λ (b : Bool). b && t first) (among-first first count) ∙ is))
      (λ (e : (l == first ≡ false) × (l ≢ first)).
      ap (λ (b : Bool). b || (is_among (first + 1) count l && t l)) e.0 ∙ sym (ap (λ (b : Bool). b && t l) (among-rest first count l e.1)))
      (eqb_tells l first)
  of_test rest false is =
      rest
      ∙ ⊎_elim
      (λ (e : (l == first ≡ true) × (l ≡ first)).
      let off : t l ≡ false = ap t e.1 ∙ is in
      ap (λ (b : Bool). is_among (first + 1) count l && b) off
      ∙ and_false (is_among (first + 1) count l)
      ∙ sym (ap (λ (b : Bool). is_among first (suc count) l && b) off ∙ and_false (is_among first (suc count) l)))
      (λ (e : (l == first ≡ false) × (l ≢ first)). sym (ap (λ (b : Bool). b && t l) (among-rest first count l e.1)))
      (eqb_tells l first)

-- ---- a block is one of those on a page

any-flat : {X : Type 0} (p : X → Bool) (g : ℕ → List X) (first count : ℕ) → list_any p (flat_map g (numbers_from first count)) ≡ list_any (λ k. list_any p (g k)) (numbers_from first count)
unfolding numbers_from
any-flat p g first zero = refl
any-flat p g first (suc count) =
    list_any-append p (g first) (flat_map g (numbers_from (first + 1) count)) ∙ ap (λ (b : Bool). list_any p (g first) || b) (any-flat p g (first + 1) count)

any-mapped : (n l id : ℕ) (xs : List ℕ) → list_any (is_this n l) (map (λ lba. record { nsid = id; lba = lba }) xs) ≡ (n == id && list_any (λ k. l == k) xs)
any-mapped n l id [] = sym (and_false (n == id))
any-mapped n l id (x ∷ xs) = ap (λ (b : Bool). (n == id && l == x) || b) (any-mapped n l id xs) ∙ of_test (n == id) where
  of_test : (b : Bool) → ((b && l == x) || (b && list_any (λ k. l == k) xs)) ≡ (b && (l == x || list_any (λ k. l == k) xs))
  of_test true = refl
  of_test false = refl

any-as : (p q : ℕ → Bool) (xs : List ℕ) → ((k : ℕ) → p k ≡ q k) → list_any p xs ≡ list_any q xs
any-as p q [] same = refl
any-as p q (x ∷ xs) same = ap (λ (b : Bool). b || list_any p xs) (same x) ∙ ap (λ (b : Bool). q x || b) (any-as p q xs same)

module _ (r : Reading) (page : ℕ) where
  any-in : (n l id : ℕ) → list_any (is_this n l) (blocks_in r page id) ≡ (n == id && (is_among 0 (size_in r id) l && has_page r page id l))
  any-in n l id =
      any-mapped n l id (filter (has_page r page id) (numbers_below (size_in r id)))
      ∙ ap (λ (b : Bool). n == id && b) (any-chosen l (has_page r page id) 0 (size_in r id))

  any-on : (n l : ℕ) → list_any (is_this n l) (blocks_on r page) ≡ (is_among 1 16 n && (is_among 0 (size_in r n) l && has_page r page n l))
  unfolding blocks_on namespace_ids
  any-on n l =
      any-flat (is_this n l) (blocks_in r page) 1 16
      ∙ any-as (λ id. list_any (is_this n l) (blocks_in r page id)) (λ id. n == id && (is_among 0 (size_in r id) l && has_page r page id l)) (numbers_from 1 16) (any-in n l)
      ∙ any-one n (λ id. is_among 0 (size_in r id) l && has_page r page id l) 1 16

-- a block with a page stands in its namespace
pub record LieWithin (r : Reading) : Type 0 where
  pub ids : (n l page : ℕ) → r.pages n l ≡ Some page → is_namespace_id n ≡ true
  pub places : (n l page : ℕ) → r.pages n l ≡ Some page → l < size_in r n

-- so it is in a loaded state
pub sound-within : (s : Parts) → IsSound s → LieWithin (reading_of s)
unfolding reading_of_state
sound-within s h = record {
  ids = λ n l page at. listed-id s.pages.items n l page at;
  places = λ n l page at. omega (arith, listed-within s.pages.items n l page at, h.sizes n);
}

on-page : (r : Reading) (page n l : ℕ) → LieWithin r → list_any (is_this n l) (blocks_on r page) ≡ has_page r page n l
on-page r page n l within = any-on r page n l ∙ of_page (r.pages n l) refl where
  of_page : (o : Option ℕ) → r.pages n l ≡ o → (is_among 1 16 n && (is_among 0 (size_in r n) l && option_map_or (λ x. x == page) o false)) ≡ option_map_or (λ x. x == page) o false
  of_page None is = ap (λ (b : Bool). is_among 1 16 n && b) (and_false (is_among 0 (size_in r n) l)) ∙ and_false (is_among 1 16 n)
  of_page (Some x) is =
      let low = within.places n l x is in
      let there : is_among 0 (size_in r n) l ≡ true = grind (arith, nat_tests) in
      ap (λ (b : Bool). b && (is_among 0 (size_in r n) l && x == page)) (within.ids n l x is) ∙ ap (λ (b : Bool). b && x == page) there

-- ---- the blocks on a page that has one, or none

has-it : (r : Reading) (page n l : ℕ) → has_page r page n l ≡ true → r.pages n l ≡ Some page
has-it r page n l e = of_page (r.pages n l) refl e where
  of_page : (o : Option ℕ) → r.pages n l ≡ o → option_map_or (λ x. x == page) o false ≡ true → r.pages n l ≡ Some page
  of_page None is e = cc
  of_page (Some x) is e = is ∙ ap Some (eqb-true x page e)

has-not : (r : Reading) (page n l : ℕ) → r.pages n l ≢ Some page → has_page r page n l ≡ false
has-not r page n l other = of_test (has_page r page n l) refl where
  of_test : (b : Bool) → has_page r page n l ≡ b → b ≡ false
  of_test true is = absurd (other (has-it r page n l is))
  of_test false is = refl

has-is : (r : Reading) (page n l : ℕ) → r.pages n l ≡ Some page → has_page r page n l ≡ true
has-is r page n l e = ap (λ (o : Option ℕ). option_map_or (λ x. x == page) o false) e ∙ eq-eqb page page refl

chosen-none : (t : ℕ → Bool) (first count : ℕ) → ((k : ℕ) → t k ≡ false) → filter t (numbers_from first count) ≡ []
unfolding numbers_from
chosen-none t first zero off = refl
chosen-none t first (suc count) off =
    ap (λ (b : Bool). if b then first ∷ filter t (numbers_from (first + 1) count) else filter t (numbers_from (first + 1) count)) (off first) ∙ chosen-none t (first + 1) count off

chosen-past : (t : ℕ → Bool) (x first count : ℕ) → ((k : ℕ) → k ≢ x → t k ≡ false) → x < first → filter t (numbers_from first count) ≡ []
unfolding numbers_from
chosen-past t x first zero off past = refl
chosen-past t x first (suc count) off past =
    ap (λ (b : Bool). if b then first ∷ filter t (numbers_from (first + 1) count) else filter t (numbers_from (first + 1) count)) (off first (λ (e : first ≡ x). omega (arith, e, past)))
    ∙ chosen-past t x (first + 1) count off (omega (arith, past))

chosen-one : (t : ℕ → Bool) (x first count : ℕ) → ((k : ℕ) → k ≢ x → t k ≡ false) → t x ≡ true → first ≤ x → x < first + count → filter t (numbers_from first count) ≡ x ∷ []
unfolding numbers_from
chosen-one t x first zero off on low high = absurd (omega (arith, low, high))
chosen-one t x first (suc count) off on low high =
    ⊎_elim
    (λ (e : (first == x ≡ true) × (first ≡ x)).
    let here : t first ≡ true = ap t e.1 ∙ on in
    ap (λ (b : Bool). if b then first ∷ filter t (numbers_from (first + 1) count) else filter t (numbers_from (first + 1) count)) here
    ∙ ap (λ (ks : List ℕ). first ∷ ks) (chosen-past t x (first + 1) count off (omega (arith, e.1)))
    ∙ ap (λ (k : ℕ). k ∷ []) e.1)
    (λ (e : (first == x ≡ false) × (first ≢ x)).
    ap (λ (b : Bool). if b then first ∷ filter t (numbers_from (first + 1) count) else filter t (numbers_from (first + 1) count)) (off first e.1)
    ∙ chosen-one t x (first + 1) count off on (omega (arith, low, e.1)) (omega (arith, high)))
    (eqb_tells first x)

flat-none : {X : Type 0} (g : ℕ → List X) (x first count : ℕ) → ((k : ℕ) → k ≢ x → g k ≡ []) → x < first → flat_map g (numbers_from first count) ≡ []
unfolding numbers_from
flat-none g x first zero off past = refl
flat-none g x first (suc count) off past =
    ap (λ (xs : List _). xs ++ flat_map g (numbers_from (first + 1) count)) (off first (λ (e : first ≡ x). omega (arith, e, past))) ∙ flat-none g x (first + 1) count off (omega (arith, past))

flat-one : {X : Type 0} (g : ℕ → List X) (x first count : ℕ) → ((k : ℕ) → k ≢ x → g k ≡ []) → first ≤ x → x < first + count → flat_map g (numbers_from first count) ≡ g x
unfolding numbers_from
flat-one g x first zero off low high = absurd (omega (arith, low, high))
flat-one g x first (suc count) off low high =
    ⊎_elim
    (λ (e : (first == x ≡ true) × (first ≡ x)).
    ap (λ (xs : List _). g first ++ xs) (flat-none g x (first + 1) count off (omega (arith, e.1))) ∙ append-nil (g first) ∙ ap g e.1)
    (λ (e : (first == x ≡ false) × (first ≢ x)).
    ap (λ (xs : List _). xs ++ flat_map g (numbers_from (first + 1) count)) (off first e.1) ∙ flat-one g x (first + 1) count off (omega (arith, low, e.1)) (omega (arith, high)))
    (eqb_tells first x)

flat-empty : {X : Type 0} (g : ℕ → List X) (first count : ℕ) → ((k : ℕ) → g k ≡ []) → flat_map g (numbers_from first count) ≡ []
unfolding numbers_from
flat-empty g first zero off = refl
flat-empty g first (suc count) off = ap (λ (xs : List _). xs ++ flat_map g (numbers_from (first + 1) count)) (off first) ∙ flat-empty g (first + 1) count off

abbrev named : ℕ → ℕ → BlockName
named id lba = record { nsid = id; lba = lba }

pub free-blocks : (r : Reading) (page : ℕ) → IsOwner r.pages page owned.Free → blocks_on r page ≡ []
unfolding blocks_on namespace_ids
free-blocks r page none = flat-empty (blocks_in r page) 1 16 (λ id. ap (map (named id)) (chosen-none (has_page r page id) 0 (size_in r id) (λ lba. has-not r page id lba (none id lba))))

pub held-blocks : (r : Reading) (page : ℕ) (b : BlockName) → LieWithin r → StandsAlone r.pages page b → blocks_on r page ≡ b ∷ []
unfolding blocks_on namespace_ids
held-blocks r page b within h =
    let id = id_is b.nsid (within.ids b.nsid b.lba page h.there) in
    let others : (k : ℕ) → k ≢ b.nsid → blocks_in r page k ≡ [] =
    λ k ne. ap (map (named k)) (chosen-none (has_page r page k) 0 (size_in r k) (λ lba. has-not r page k lba (λ (e : r.pages k lba ≡ Some page). ne ((h.alone k lba e).0)))) in
    flat-one (blocks_in r page) b.nsid 1 16 others id.0 (omega (arith, id.1))
    ∙ ap (map (named b.nsid))
    (chosen-one (has_page r page b.nsid) b.lba 0 (size_in r b.nsid) (λ lba ne. has-not r page b.nsid lba (λ (e : r.pages b.nsid lba ≡ Some page). ne ((h.alone b.nsid lba e).1)))
    (has-is r page b.nsid b.lba h.there) (omega arith) (omega (arith, within.places b.nsid b.lba page h.there)))

-- ---- blocks that get another page

given-all : (pages : Pages) (bs : List BlockName) (to n l : ℕ) → with_pages pages (map (λ (b : BlockName). (b, to)) bs) n l ≡ (if list_any (is_this n l) bs then Some to else pages n l)
given-all pages [] to n l = refl
given-all pages (b ∷ bs) to n l = given-all (with_page pages b (Some to)) bs to n l ∙ of_tests (is_this n l b) (list_any (is_this n l) bs) where
  of_tests : (here rest : Bool) → (if rest then Some to else (if here then Some to else pages n l)) ≡ (if here || rest then Some to else pages n l)
  of_tests true true = refl
  of_tests true false = refl
  of_tests false true = refl
  of_tests false false = refl

same-page : (o : Option ℕ) → option_map (moved_to []) o ≡ o
same-page None = refl
same-page (Some x) = refl

-- a block is given the page that its page was moved to
moved-entry : (x : ℕ × ℕ) (xs : List (ℕ × ℕ)) (o : Option ℕ) → (if option_map_or (λ y. y == x.0) o false then Some x.1 else option_map (moved_to xs) o) ≡ option_map (moved_to (x ∷ xs)) o
moved-entry x xs None = refl
moved-entry x xs (Some p) =
    ⊎_elim
    (λ (e : (p == x.0 ≡ true) × (p ≡ x.0)).
    let back : (x.0 == p) ≡ true = eq-eqb x.0 p (sym e.1) in
    ap (λ (b : Bool). if b then Some x.1 else Some (moved_to xs p)) e.0
    ∙ sym (ap (λ (b : Bool). Some (option_map_or (λ (y : ℕ × ℕ). y.1) (if b then Some x else find (λ (y : ℕ × ℕ). y.0 == p) xs) p)) back))
    (λ (e : (p == x.0 ≡ false) × (p ≢ x.0)).
    let back : (x.0 == p) ≡ false = ne_eqb x.0 p (λ (k : x.0 ≡ p). e.1 (sym k)) in
    ap (λ (b : Bool). if b then Some x.1 else Some (moved_to xs p)) e.0
    ∙ sym (ap (λ (b : Bool). Some (option_map_or (λ (y : ℕ × ℕ). y.1) (if b then Some x else find (λ (y : ℕ × ℕ). y.0 == p) xs) p)) back))
    (eqb_tells p x.0)

pub moved-all : (r : Reading) (moves : List (ℕ × ℕ)) → LieWithin r → (n l : ℕ) → with_pages r.pages (moved_blocks r moves) n l ≡ option_map (moved_to moves) (r.pages n l)
unfolding moved_blocks
moved-all r [] within n l = sym (same-page (r.pages n l))
moved-all r (x ∷ xs) within n l =
    let first : Pages = with_pages r.pages (moved_blocks r xs) in
    ap (λ (f : Pages). f n l) (fold-append (λ (f : Pages) (y : BlockName × ℕ). with_page f y.0 (Some y.1)) r.pages (moved_blocks r xs) (map (λ (b : BlockName). (b, x.1)) (blocks_on r x.0)))
    ∙ given-all first (blocks_on r x.0) x.1 n l
    ∙ ap (λ (b : Bool). if b then Some x.1 else first n l) (on-page r x.0 n l within)
    ∙ ap (λ (o : Option ℕ). if has_page r x.0 n l then Some x.1 else o) (moved-all r xs within n l)
    ∙ moved-entry x xs (r.pages n l)

-- ---- each block lies within its namespace

below-row : (bound first count : ℕ) → first + count ≤ bound → All (λ k. k < bound) (numbers_from first count)
unfolding numbers_from
below-row bound first zero fits = All-nil (λ k. k < bound)
below-row bound first (suc count) fits = All-cons (λ k. k < bound) first (numbers_from (first + 1) count) (omega (arith, fits)) (below-row bound (first + 1) count (omega (arith, fits)))

within-in : (r : Reading) (page id : ℕ) → All (λ (b : BlockName). b.lba < size_in r b.nsid) (blocks_in r page id)
within-in r page id =
    All-map (λ (b : BlockName). b.lba < size_in r b.nsid) (named id) (filter (has_page r page id) (numbers_below (size_in r id)))
    (All-filter (has_page r page id) (λ lba. lba < size_in r id) (numbers_below (size_in r id)) (below-row (size_in r id) 0 (size_in r id) (omega arith)))

within-on : (r : Reading) (page : ℕ) → All (λ (b : BlockName). b.lba < size_in r b.nsid) (blocks_on r page)
unfolding blocks_on
within-on r page = each-piece (λ (b : BlockName). b.lba < size_in r b.nsid) (blocks_in r page) (within-in r page) namespace_ids

pub moved-within : (r : Reading) (moves : List (ℕ × ℕ)) → All (λ (x : BlockName × ℕ). x.0.lba < size_in r x.0.nsid) (moved_blocks r moves)
unfolding moved_blocks
moved-within r [] = All-nil (λ (x : BlockName × ℕ). x.0.lba < size_in r x.0.nsid)
moved-within r (x ∷ xs) =
    All-append (λ (y : BlockName × ℕ). y.0.lba < size_in r y.0.nsid) (moved_blocks r xs) (map (λ (b : BlockName). (b, x.1)) (blocks_on r x.0)) (moved-within r xs)
    (All-map (λ (y : BlockName × ℕ). y.0.lba < size_in r y.0.nsid) (λ (b : BlockName). (b, x.1)) (blocks_on r x.0) (within-on r x.0))

-- ---- the same in a loaded state

pub moved-listed : (s : Parts) (moves : List (ℕ × ℕ)) (xs : List (BlockName × ℕ)) → IsSound s → xs ≡ moved_blocks (reading_of s) moves → All (λ (x : BlockName × ℕ). x.0.lba < listed s.pages.items x.0.nsid) xs
moved-listed s moves xs h is k d there =
    let low = subst (All (λ (x : BlockName × ℕ). x.0.lba < size_in (reading_of s) x.0.nsid)) (sym is) (moved-within (reading_of s) moves) k d there in
    omega (arith, low, h.sizes (get_or xs k d).0.nsid)

pub moved-said : (s : Parts) (moves : List (ℕ × ℕ)) (xs : List (BlockName × ℕ)) → IsSound s → xs ≡ moved_blocks (reading_of s) moves → (n l : ℕ)
    → with_pages (page_in_lists s.pages.items) xs n l ≡ option_map (moved_to moves) (page_in_lists s.pages.items n l)
unfolding reading_of_state
moved-said s moves xs h is n l = ap (λ (ys : List (BlockName × ℕ)). with_pages (page_in_lists s.pages.items) ys n l) is ∙ moved-all (reading_of s) moves (sound-within s h) n l
