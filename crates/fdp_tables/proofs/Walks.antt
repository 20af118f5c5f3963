-- Walks over a table from its front: rows that are changed one by one, and searches among copies.
use Rattle.std.proofs.Common.{◌≡◌, ℕ, suc, ◌+◌, ◌-◌, ◌<◌, ◌≤◌, Bool, true, false, List, [], ◌∷◌, ◌++◌, length, set, take, drop, get_or, slice_get, Option, None, Some, refl, ap, sym, ◌∙◌, arith, cond, subst, find, map, ◌≢◌, eq-eqb, ne_eqb, below_more, ⊎_elim}
use Rattle.std.specs.Prelude.{◌==◌, ◌&&◌, nat_lt, option_and_then, option_map}
use Rattle.std.specs.Option.{option_flatten, option_map_or}
use Rattle.std.proofs.lemmas.Bool.{cases_lt}
use Rattle.std.proofs.lemmas.Option.{slice_get-map, slice_get_past, slice_get_read}
use Rattle.std.proofs.lemmas.List.{append-nil, append_assoc, drop_all, drop_more, take_all, take_more, map-append, set_at, length-map, length-set, length-take-le, get_or_at, length-drop}
use Rattle.fdp_rules.specs.Point.{Copy}
use Rattle.fdp_rules.specs.Sites.{ascends, last_run}
use Rattle.fdp_base.specs.declared.entry.Spot.{Spot}
use Rattle.fdp_base.specs.Numbers.{numbers_from, with_at}
use Rattle.fdp_tables.specs.Copies.{copy_of}
use Rattle.fdp_tables.specs.State.{row}
use Rattle.fdp_tables.specs.PageSites.{site_in}
use Rattle.fdp_tables.proofs.Tables.{read-set}

-- the rows before place i are changed, and the others are not
pub record IsMapped {X : Type 0} (f : X → X) (xs : List X) (i : ℕ) (ys : List X) : Type 0 where
  pub value : ys ≡ map f (take i xs) ++ drop i xs

module _ {X : Type 0} (f : X → X) where
  pub mapped_start : (xs : List X) → IsMapped f xs 0 xs
  mapped_start xs = record { value = refl }

  before : (xs : List X) (i : ℕ) → i < length xs → length (map f (take i xs)) ≡ i
  before xs i below = let le : i ≤ length xs = omega arith in length-map (take i xs) f ∙ length-take-le i xs le

  split : (xs : List X) (i : ℕ) (ys : List X) (d : X) → i < length xs → IsMapped f xs i ys → ys ≡ map f (take i xs) ++ get_or xs i d ∷ drop (i + 1) xs
  split xs i ys d below h = h.value ∙ ap (λ (zs : List X). map f (take i xs) ++ zs) (drop_more xs i d below)

  pub mapped_here : (xs : List X) (i : ℕ) (ys : List X) (d : X) → i < length xs → IsMapped f xs i ys → get_or ys i d ≡ get_or xs i d
  mapped_here xs i ys d below h =
      ap (λ (zs : List X). get_or zs i d) (split xs i ys d below h)
      ∙ get_or_at (map f (take i xs)) (get_or xs i d) (drop (i + 1) xs) d i (before xs i below)

  pub mapped_next : (xs : List X) (i : ℕ) (ys : List X) (d y : X) → i < length xs → IsMapped f xs i ys → y ≡ f (get_or xs i d) → IsMapped f xs (i + 1) (set ys i y)
  mapped_next xs i ys d y below h e = record {
    value =
        ap (λ (zs : List X). set zs i y) (split xs i ys d below h)
        ∙ set_at (map f (take i xs)) (get_or xs i d) (drop (i + 1) xs) y i (before xs i below)
        ∙ ap (λ (z : X). map f (take i xs) ++ z ∷ drop (i + 1) xs) e
        ∙ sym (append_assoc (map f (take i xs)) (f (get_or xs i d) ∷ []) (drop (i + 1) xs))
        ∙ ap (λ (zs : List X). zs ++ drop (i + 1) xs) (sym (map-append f (take i xs) (get_or xs i d ∷ [])) ∙ ap (map f) (sym (take_more xs i d below)));
  }

  pub mapped_end : (xs : List X) (i : ℕ) (ys : List X) → length xs ≤ i → IsMapped f xs i ys → ys ≡ map f xs
  mapped_end xs i ys past h =
      h.value
      ∙ ap (λ (zs : List X). map f zs ++ drop i xs) (take_all i xs past)
      ∙ ap (λ (zs : List X). map f xs ++ zs) (drop_all i xs past)
      ∙ append-nil (map f xs)

-- the first of the rest of these copies that passes is the first of all
pub record IsSeekingCopy (test : Copy → Bool) (xs : List (Spot × Spot)) (i : ℕ) : Type 0 where
  pub rest : find test (map copy_of (drop i xs)) ≡ find test (map copy_of xs)

module _ (test : Copy → Bool) (xs : List (Spot × Spot)) (i : ℕ) (x : Spot × Spot) where
  here : i < length xs → x ≡ get_or xs i x → find test (map copy_of (drop i xs)) ≡ cond (test (copy_of x)) (Some (copy_of x)) (find test (map copy_of (drop (i + 1) xs)))
  here below at =
      ap (λ zs. find test (map copy_of zs)) (drop_more xs i x below)
      ∙ ap (λ z. cond (test (copy_of z)) (Some (copy_of z)) (find test (map copy_of (drop (i + 1) xs)))) (sym at)

  pub seeking_copy_next : i < length xs → x ≡ get_or xs i x → test (copy_of x) ≡ false → IsSeekingCopy test xs i → IsSeekingCopy test xs (i + 1)
  seeking_copy_next below at fails h = record {
    rest = sym (ap (λ b. cond b (Some (copy_of x)) (find test (map copy_of (drop (i + 1) xs)))) fails) ∙ sym (here below at) ∙ h.rest;
  }

  pub seeking_copy_found : i < length xs → x ≡ get_or xs i x → test (copy_of x) ≡ true → IsSeekingCopy test xs i → find test (map copy_of xs) ≡ Some (copy_of x)
  seeking_copy_found below at passes h = sym h.rest ∙ here below at ∙ ap (λ b. cond b (Some (copy_of x)) (find test (map copy_of (drop (i + 1) xs)))) passes

pub seeking_copy_end : (test : Copy → Bool) (xs : List (Spot × Spot)) (i : ℕ) → length xs ≤ i → IsSeekingCopy test xs i → find test (map copy_of xs) ≡ None
seeking_copy_end test xs i past h = sym h.rest ∙ ap (λ zs. find test (map copy_of zs)) (drop_all i xs past)

-- a page lies behind another in its unit
abbrev pub is_behind : Spot × Spot → Spot × Spot → Bool
is_behind a b = (a.0.unit == b.0.unit) && nat_lt a.0.page b.0.page

-- the copies ascend where those from the last that was looked at do
pub record IsAscending (xs : List (Spot × Spot)) (next : ℕ) : Type 0 where
  pub rest : ascends (map copy_of (drop (next - 1) xs)) ≡ ascends (map copy_of xs)

ascends_here : (xs : List (Spot × Spot)) (i : ℕ) (d : Spot × Spot) → i + 1 < length xs → ascends (map copy_of (drop i xs)) ≡ (is_behind (get_or xs i d) (get_or xs (i + 1) d) && ascends (map copy_of (drop (i + 1) xs)))
ascends_here xs i d below =
    let first : drop i xs ≡ get_or xs i d ∷ drop (i + 1) xs = drop_more xs i d (omega arith) in
    let second : drop (i + 1) xs ≡ get_or xs (i + 1) d ∷ drop (i + 1 + 1) xs = drop_more xs (i + 1) d below in
    ap (λ zs. ascends (map copy_of zs)) (first ∙ ap (λ zs. get_or xs i d ∷ zs) second)
    ∙ ap (λ zs. is_behind (get_or xs i d) (get_or xs (i + 1) d) && ascends (map copy_of zs)) (sym second)

ascending_at : (xs : List (Spot × Spot)) (i next : ℕ) (d : Spot × Spot) → i + 1 ≡ next → next < length xs → ascends (map copy_of (drop (next - 1) xs)) ≡ (is_behind (get_or xs (next - 1) d) (get_or xs next d) && ascends (map copy_of (drop (next + 1 - 1) xs)))
ascending_at xs i next d e below =
    let P : ℕ → ℕ → ℕ → Type 0 = λ low n more. ascends (map copy_of (drop low xs)) ≡ (is_behind (get_or xs low d) (get_or xs n d) && ascends (map copy_of (drop more xs))) in
    let low : i ≡ next - 1 = omega arith in
    let more : i + 1 ≡ next + 1 - 1 = omega arith in
    subst (λ k. P k next (next + 1 - 1)) low (subst (λ k. P i next k) more (subst (λ k. P i k (i + 1)) e (ascends_here xs i d (omega arith))))

pub ascending_next : (xs : List (Spot × Spot)) (next : ℕ) (d : Spot × Spot) → 1 ≤ next → next < length xs → is_behind (get_or xs (next - 1) d) (get_or xs next d) ≡ true → IsAscending xs next → IsAscending xs (next + 1)
ascending_next xs next d low below behind h = record {
  rest = sym (ap (λ b. b && ascends (map copy_of (drop (next + 1 - 1) xs))) behind) ∙ sym (ascending_at xs (next - 1) next d (omega arith) below) ∙ h.rest;
}

pub ascending_fails : (xs : List (Spot × Spot)) (next : ℕ) (d : Spot × Spot) → 1 ≤ next → next < length xs → is_behind (get_or xs (next - 1) d) (get_or xs next d) ≡ false → IsAscending xs next → ascends (map copy_of xs) ≡ false
ascending_fails xs next d low below behind h = sym h.rest ∙ ascending_at xs (next - 1) next d (omega arith) below ∙ ap (λ b. b && ascends (map copy_of (drop (next + 1 - 1) xs))) behind

ascends_short : (xs : List (Spot × Spot)) → length xs ≤ 1 → ascends (map copy_of xs) ≡ true
ascends_short [] le = refl
ascends_short (x ∷ []) le = refl
ascends_short (x ∷ y ∷ xs) le = absurd (omega arith)

pub ascending_end : (xs : List (Spot × Spot)) (next : ℕ) → length xs ≤ next → IsAscending xs next → ascends (map copy_of xs) ≡ true
ascending_end xs next past h = sym h.rest ∙ ascends_short (drop (next - 1) xs) (omega (arith, length-drop (next - 1) xs))

-- the last run is that of the rest of these copies
pub record IsShortening (xs : List (Spot × Spot)) (i : ℕ) : Type 0 where
  pub rest : last_run (map copy_of (drop i xs)) ≡ last_run (map copy_of xs)

run_here : (x : Copy) (xs : List Copy) (b : Bool) → ascends (x ∷ xs) ≡ b → last_run (x ∷ xs) ≡ cond b (x ∷ xs) (last_run xs)
run_here x xs b e = ap (λ c. cond c (x ∷ xs) (last_run xs)) e

pub shortening_next : (xs : List (Spot × Spot)) (i : ℕ) (d : Spot × Spot) → i < length xs → ascends (map copy_of (drop i xs)) ≡ false → IsShortening xs i → IsShortening xs (i + 1)
shortening_next xs i d below fails h =
    let e : drop i xs ≡ get_or xs i d ∷ drop (i + 1) xs = drop_more xs i d below in
    let f : ascends (map copy_of (get_or xs i d ∷ drop (i + 1) xs)) ≡ false = ap (λ zs. ascends (map copy_of zs)) (sym e) ∙ fails in
    record { rest = sym (run_here (copy_of (get_or xs i d)) (map copy_of (drop (i + 1) xs)) false f) ∙ sym (ap (λ zs. last_run (map copy_of zs)) e) ∙ h.rest }

pub shortening_found : (xs : List (Spot × Spot)) (i : ℕ) (d : Spot × Spot) → i < length xs → ascends (map copy_of (drop i xs)) ≡ true → IsShortening xs i → map copy_of (drop i xs) ≡ last_run (map copy_of xs)
shortening_found xs i d below holds h =
    let e : drop i xs ≡ get_or xs i d ∷ drop (i + 1) xs = drop_more xs i d below in
    let f : ascends (map copy_of (get_or xs i d ∷ drop (i + 1) xs)) ≡ true = ap (λ zs. ascends (map copy_of zs)) (sym e) ∙ holds in
    ap (map copy_of) e ∙ sym (run_here (copy_of (get_or xs i d)) (map copy_of (drop (i + 1) xs)) true f) ∙ sym (ap (λ zs. last_run (map copy_of zs)) e) ∙ h.rest

pub shortening_end : (xs : List (Spot × Spot)) (i : ℕ) → length xs ≤ i → IsShortening xs i → [] ≡ last_run (map copy_of xs)
shortening_end xs i past h = sym (ap (λ zs. last_run (map copy_of zs)) (drop_all i xs past)) ∙ h.rest

-- a place of the rows is changed
module _ {X : Type 0} (f : X → X) where
  pub mapped_step : (xs : List X) (i : ℕ) (ys : List X) (d y : X) → i < length xs → IsMapped f xs i ys → y ≡ f (get_or ys i d) → IsMapped f xs (i + 1) (set ys i y)
  mapped_step xs i ys d y below h e = mapped_next f xs i ys d y below h (e ∙ ap f (mapped_here f xs i ys d below h))

-- a row of a table whose rows were all changed
pub row-map : {X : Type 0} (f : Option X → Option X) (xs : List (Option X)) (i : ℕ) → f None ≡ None → row (map f xs) i ≡ f (row xs i)
row-map {X} f xs i none =
    ap option_flatten (slice_get-map f xs i)
    ∙ elim (slice_get xs i) as (λ x. option_flatten (option_map f x) ≡ f (option_flatten x)) [ None ↦ sym none | Some y ↦ refl ]

-- where a page stands once the sites of all pages were changed
pub site-changed : (f : Option Spot → Option Spot) (rows : List (List (Option Spot))) (ticket index : ℕ) → f None ≡ None → site_in (map (map f) rows) ticket index ≡ f (site_in rows ticket index)
site-changed f rows ticket index none =
    ap (option_and_then (λ pages. row pages index)) (slice_get-map (map f) rows ticket)
    ∙ elim (slice_get rows ticket) as (λ x. option_and_then (λ pages. row pages index) (option_map (map f) x) ≡ f (option_and_then (λ pages. row pages index) x)) [ None ↦ sym none | Some pages ↦ row-map f pages index none ]

-- the copies of a group, read from a table
abbrev pub copies_of : {V : Type 0} → (V → List (Spot × Spot)) → List V → ℕ → List Copy
copies_of read vs rg = option_map_or (λ v. map copy_of (read v)) (slice_get vs rg) []

pub added_copy : {V : Type 0} (read : V → List (Spot × Spot)) (vs : List V) (rg : ℕ) (v w : V) (x : Spot × Spot) → rg < length vs → v ≡ get_or vs rg v → read w ≡ read v ++ x ∷ [] → (i : ℕ) → copies_of read (set vs rg w) i ≡ with_at (copies_of read vs) rg (copies_of read vs rg ++ copy_of x ∷ []) i
added_copy read vs rg v w x there at e i =
    let before : slice_get vs rg ≡ Some v = slice_get_read vs (length vs) rg v refl there at in
    let old : copies_of read vs rg ≡ map copy_of (read v) = ap (λ o. option_map_or (λ u. map copy_of (read u)) o []) before in
    let new : map copy_of (read w) ≡ copies_of read vs rg ++ copy_of x ∷ [] =
    ap (map copy_of) e ∙ map-append copy_of (read v) (x ∷ []) ∙ ap (λ (cs : List Copy). cs ++ copy_of x ∷ []) (sym old) in
    read-set (λ o. option_map_or (λ u. map copy_of (read u)) o []) vs rg w there i
    ∙ ap (λ cs. with_at (copies_of read vs) rg cs i) new

-- the first queue of the rest that passes is the first of all
pub record IsSeekingQueue (test : ℕ → Bool) (queues i : ℕ) : Type 0 where
  pub rest : find test (numbers_from 1 queues) ≡ find test (numbers_from (i + 1) (queues - i))

queue_here : (test : ℕ → Bool) (queues i : ℕ) → i < queues → find test (numbers_from (i + 1) (queues - i)) ≡ cond (test (i + 1)) (Some (i + 1)) (find test (numbers_from (i + 1 + 1) (queues - (i + 1))))
unfolding numbers_from
queue_here test queues i below =
    let more : queues - i ≡ suc (queues - (i + 1)) = omega arith in
    rw more

module _ (test : ℕ → Bool) (queues i : ℕ) where
  pub seeking_queue_next : i < queues → test (i + 1) ≡ false → IsSeekingQueue test queues i → IsSeekingQueue test queues (i + 1)
  seeking_queue_next below fails h = record {
    rest = h.rest ∙ queue_here test queues i below ∙ ap (λ b. cond b (Some (i + 1)) (find test (numbers_from (i + 1 + 1) (queues - (i + 1))))) fails;
  }

  pub seeking_queue_found : i < queues → test (i + 1) ≡ true → IsSeekingQueue test queues i → find test (numbers_from 1 queues) ≡ Some (i + 1)
  seeking_queue_found below passes h = h.rest ∙ queue_here test queues i below ∙ ap (λ b. cond b (Some (i + 1)) (find test (numbers_from (i + 1 + 1) (queues - (i + 1))))) passes

  pub seeking_queue_end : queues ≤ i → IsSeekingQueue test queues i → find test (numbers_from 1 queues) ≡ None
  unfolding numbers_from
  seeking_queue_end past h =
      let none : queues - i ≡ 0 = omega arith in
      h.rest ∙ ap (λ n. find test (numbers_from (i + 1) n)) none

-- rows that are changed by their place, before place i
pub record IsPut {X : Type 0} (f : ℕ → Option X → Option X) (xs : List (Option X)) (i : ℕ) (ys : List (Option X)) : Type 0 where
  pub before : (k : ℕ) → k < i → row ys k ≡ f k (row xs k)
  pub behind : (k : ℕ) → i ≤ k → row ys k ≡ row xs k
  pub size : length ys ≡ length xs

module _ {X : Type 0} (f : ℕ → Option X → Option X) (xs : List (Option X)) where
  pub put_start : IsPut f xs 0 xs
  put_start = record { before = λ k below. absurd (omega arith); behind = λ k past. refl; size = refl }

  row-set : (ys : List (Option X)) (i : ℕ) (y : Option X) → i < length ys → (k : ℕ) → row (set ys i y) k ≡ with_at (row ys) i y k
  row-set ys i y there k = read-set option_flatten ys i y there k

  placed_here : (ys : List (Option X)) (i : ℕ) (y : Option X) → with_at (row ys) i y i ≡ y
  placed_here ys i y = ap (λ b. cond b y (row ys i)) (eq-eqb i i refl)

  placed_other : (ys : List (Option X)) (i : ℕ) (y : Option X) (k : ℕ) → k ≢ i → with_at (row ys) i y k ≡ row ys k
  placed_other ys i y k ne = ap (λ b. cond b y (row ys k)) (ne_eqb k i ne)

  pub put_next : (ys : List (Option X)) (i : ℕ) (y : Option X) → i < length ys → y ≡ f i (row xs i) → IsPut f xs i ys → IsPut f xs (i + 1) (set ys i y)
  put_next ys i y there e h = record {
    before =
        below_more (λ k. row (set ys i y) k ≡ f k (row xs k)) i
        (λ k below. let ne : k ≢ i = omega arith in row-set ys i y there k ∙ placed_other ys i y k ne ∙ h.before k below)
        (row-set ys i y there i ∙ placed_here ys i y ∙ e);
    behind = λ k past. let ne : k ≢ i = omega arith in row-set ys i y there k ∙ placed_other ys i y k ne ∙ h.behind k (omega arith);
    size = length-set ys i y ∙ h.size;
  }

  pub put_skip : (ys : List (Option X)) (i : ℕ) → f i (row xs i) ≡ row xs i → IsPut f xs i ys → IsPut f xs (i + 1) ys
  put_skip ys i e h = record {
    before = below_more (λ k. row ys k ≡ f k (row xs k)) i h.before (h.behind i (omega arith) ∙ sym e);
    behind = λ k past. h.behind k (omega arith);
    size = h.size;
  }

  pub put_end : (ys : List (Option X)) (i : ℕ) → length xs ≤ i → ((k : ℕ) → f k None ≡ None) → IsPut f xs i ys → (k : ℕ) → row ys k ≡ f k (row xs k)
  put_end ys i past none h k =
      let within : k < i → row ys k ≡ f k (row xs k) = h.before k in
      let outside : i ≤ k → row ys k ≡ f k (row xs k) = λ le.
      let absent : row xs k ≡ None = ap option_flatten (slice_get_past xs k (omega arith)) in
      h.behind k le ∙ absent ∙ sym (ap (f k) absent ∙ none k) in
      ⊎_elim within outside (cases_lt k i)
