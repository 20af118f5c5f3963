-- Places in strips of sixteen, read as one list.
use Rattle.std.proofs.Common.{◌≡◌, ◌≢◌, ℕ, zero, suc, ◌*◌, ◌/◌, ◌%◌, ◌<◌, ◌≤◌, true, false, List, ◌∷◌, length, replicate, set, Option, None, Some, refl, ap, sym, ◌∙◌, arith, cond, get_or, eq-eqb, ne_eqb, ⊎_elim}
use Rattle.std.specs.Prelude.{◌==◌, is_some}
use Rattle.std.specs.Option.{option_flatten}
use Rattle.std.proofs.lemmas.Bool.{cases_eq, cases_lt}
use Rattle.std.proofs.lemmas.Option.{slice_get-get_or, slice_get_past}
use Rattle.fdp_base.specs.Numbers.{with_at}
use Rattle.fdp_tables.specs.State.{row}
use Rattle.fdp_tables.specs.Strips.{in_strip, in_strips, table_of}
use Rattle.fdp_tables.proofs.Spaces.{row_absent}
use Rattle.fdp_tables.proofs.Tables.{read-set}

-- ---- what a function says of the numbers below a bound

pub length_table : {X : Type 0} (f : ℕ → X) (n : ℕ) → length (table_of f n) ≡ n
unfolding table_of
length_table f zero = refl
length_table f (suc n) = omega (arith, length_table (λ i. f (suc i)) n)

pub row_table : {X : Type 0} (f : ℕ → Option X) (n i : ℕ) → i < n → row (table_of f n) i ≡ f i
unfolding table_of
row_table f zero i low = absurd (omega (arith, low))
row_table f (suc n) zero low = refl
row_table f (suc n) (suc i) low = row_table (λ k. f (suc k)) n i (omega (arith, low))

pub table_same : {X : Type 0} (f g : ℕ → X) (n : ℕ) → ((i : ℕ) → i < n → f i ≡ g i) → table_of f n ≡ table_of g n
unfolding table_of
table_same f g zero h = refl
table_same f g (suc n) h =
    let first : f 0 ≡ g 0 = h 0 (omega arith) in
    let rest : table_of (λ i. f (suc i)) n ≡ table_of (λ i. g (suc i)) n = table_same (λ i. f (suc i)) (λ i. g (suc i)) n (λ i low. h (suc i) (omega (arith, low))) in
    λ d. first d ∷ rest d

pub table_absent : {X : Type 0} (f : ℕ → X) (n : ℕ) (x : X) → ((i : ℕ) → i < n → f i ≡ x) → table_of f n ≡ replicate n x
unfolding table_of
table_absent f zero x h = refl
table_absent f (suc n) x h =
    let first : f 0 ≡ x = h 0 (omega arith) in
    let rest : table_of (λ i. f (suc i)) n ≡ replicate n x = table_absent (λ i. f (suc i)) n x (λ i low. h (suc i) (omega (arith, low))) in
    λ d. first d ∷ rest d

pub table_set : {X : Type 0} (f g : ℕ → X) (n at : ℕ) (x : X) → at < n → g at ≡ x → ((i : ℕ) → i ≢ at → g i ≡ f i) → table_of g n ≡ set (table_of f n) at x
unfolding table_of
table_set f g zero at x low here others = absurd (omega (arith, low))
table_set f g (suc n) zero x low here others =
    let rest : table_of (λ i. g (suc i)) n ≡ table_of (λ i. f (suc i)) n = table_same (λ i. g (suc i)) (λ i. f (suc i)) n (λ i below. others (suc i) (λ e. absurd (omega (arith, e)))) in
    λ d. here d ∷ rest d
table_set f g (suc n) (suc at) x low here others =
    let first : g 0 ≡ f 0 = others 0 (λ e. absurd (omega (arith, e))) in
    let rest : table_of (λ i. g (suc i)) n ≡ set (table_of (λ i. f (suc i)) n) at x = table_set (λ i. f (suc i)) (λ i. g (suc i)) n at x (omega (arith, low)) here (λ i ne. others (suc i) (λ e. ne (omega (arith, e)))) in
    λ d. first d ∷ rest d

-- ---- strips

module _ {X : Type 0} (strips : List (Option (List (Option X)))) (size place : ℕ) (low : place < size) (fits : size ≤ 16 * length strips) where
  pub strip_there : place / 16 < length strips
  strip_there = omega (arith, low, fits)

  -- a strip is put there: its own places, and the others
  pub strip_here : (strip : Option (List (Option X))) (i : ℕ) → i / 16 ≡ place / 16 → in_strips (set strips (place / 16) strip) i ≡ in_strip strip (i % 16)
  strip_here strip i same =
      read-set (λ o. in_strip (option_flatten o) (i % 16)) strips (place / 16) strip strip_there (i / 16)
      ∙ ap (λ b. cond b (in_strip strip (i % 16)) (in_strips strips i)) (eq-eqb (i / 16) (place / 16) same)

  pub strip_other : (strip : Option (List (Option X))) (i : ℕ) → i / 16 ≢ place / 16 → in_strips (set strips (place / 16) strip) i ≡ in_strips strips i
  strip_other strip i other =
      read-set (λ o. in_strip (option_flatten o) (i % 16)) strips (place / 16) strip strip_there (i / 16)
      ∙ ap (λ b. cond b (in_strip strip (i % 16)) (in_strips strips i)) (ne_eqb (i / 16) (place / 16) other)

  -- the strip that was there
  pub strip_was : (old : Option (List (Option X))) → old ≡ get_or strips (place / 16) old → row strips (place / 16) ≡ old
  strip_was old is = ap option_flatten (slice_get-get_or strips (place / 16) old strip_there) ∙ sym is

  pub strips_row : (old : Option (List (Option X))) (now : List (Option X)) → old ≡ get_or strips (place / 16) old → table_of (in_strips strips) size ≡ now → row now place ≡ in_strip old (place % 16)
  strips_row old now is view = ap (λ xs. row xs place) (sym view) ∙ row_table (in_strips strips) size place low ∙ ap (λ o. in_strip o (place % 16)) (strip_was old is)

  -- another strip, which differs in one place
  pub strips_put : (old strip : Option (List (Option X))) (x : Option X) (now : List (Option X)) → old ≡ get_or strips (place / 16) old → ((i : ℕ) → in_strip strip i ≡ with_at (in_strip old) (place % 16) x i) → table_of (in_strips strips) size ≡ now
      → table_of (in_strips (set strips (place / 16) strip)) size ≡ set now place x
  strips_put old strip x now is put view =
      table_set (in_strips strips) (in_strips (set strips (place / 16) strip)) size place x low (strip_here strip place refl ∙ put (place % 16) ∙ ap (λ b. cond b x (in_strip old (place % 16))) (eq-eqb (place % 16) (place % 16) refl)) each
      ∙ ap (λ xs. set xs place x) view where
        each : (i : ℕ) → i ≢ place → in_strips (set strips (place / 16) strip) i ≡ in_strips strips i
        each i ne = ⊎_elim
            (λ (same : i / 16 ≡ place / 16).
            let apart : i % 16 ≢ place % 16 = λ e. ne (omega (arith, same, e)) in
            strip_here strip i same ∙ put (i % 16) ∙ ap (λ b. cond b x (in_strip old (i % 16))) (ne_eqb (i % 16) (place % 16) apart) ∙ ap (λ o. in_strip o (i % 16)) (sym (strip_was old is)) ∙ ap (λ q. in_strip (row strips q) (i % 16)) (sym same))
            (λ other. strip_other strip i other)
            (cases_eq (i / 16) (place / 16))

  -- a strip in which nothing stands goes
  pub strips_without : (now : List (Option X)) → table_of (in_strips strips) size ≡ now → ((k : ℕ) → k / 16 ≡ place / 16 → row now k ≡ None) → table_of (in_strips (set strips (place / 16) None)) size ≡ now
  strips_without now view empty =
      table_same (in_strips (set strips (place / 16) None)) (in_strips strips) size (λ i below. ⊎_elim
      (λ same. strip_here None i same ∙ sym (sym (row_table (in_strips strips) size i below) ∙ ap (λ xs. row xs i) view ∙ empty i same))
      (λ other. strip_other None i other)
      (cases_eq (i / 16) (place / 16)))
      ∙ view

  -- where a strip is left out its places have nothing
  pub strip_left_out : (old : Option (List (Option X))) (now : List (Option X)) → old ≡ get_or strips (place / 16) old → old ≡ None → table_of (in_strips strips) size ≡ now → (k : ℕ) → k / 16 ≡ place / 16 → row now k ≡ None
  strip_left_out old now is none view k same = ⊎_elim
      (λ (below : k < size). ap (λ xs. row xs k) (sym view) ∙ row_table (in_strips strips) size k below ∙ ap (λ q. in_strip (row strips q) (k % 16)) same ∙ ap (λ o. in_strip o (k % 16)) (strip_was old is ∙ none))
      (λ (past : size ≤ k).
      let many : length now ≡ size = ap length (sym view) ∙ length_table (in_strips strips) size in
      ap option_flatten (slice_get_past now k (omega (arith, past, many))))
      (cases_lt k size)

-- a place of the list is one of the places
pub below_size : {X : Type 0} (f : ℕ → X) (size place : ℕ) (now : List X) → table_of f size ≡ now → place < length now → place < size
below_size f size place now view there =
    let many : length now ≡ size = ap length (sym view) ∙ length_table f size in
    omega (arith, there, many)

-- where each strip is left out nothing stands anywhere
pub strips_absent : {X : Type 0} (strips : List (Option (List (Option X)))) (count size : ℕ) → strips ≡ replicate count None → table_of (in_strips strips) size ≡ replicate size None
strips_absent {X} strips count size e = table_absent (in_strips strips) size None (λ i low. ap (λ xs. in_strips xs i) e ∙ ap (λ o. in_strip o (i % 16)) (row_absent {X = List (Option X)} count (i / 16)))

-- nothing is put where nothing stands
pub left_out : {X : Type 0} (at i : ℕ) → with_at (in_strip {X = X} None) at None i ≡ None
left_out {X} at i = elim (i == at) as (λ b. cond {A = Option X} b None None ≡ None) [ true ↦ refl | false ↦ refl ]

pub none_there : {X : Type 0} (o : Option X) → is_some o ≡ false → o ≡ None
none_there None e = refl
none_there (Some x) e = cc

-- a place of a strip
pub strip_put : {X : Type 0} (places : List (Option X)) (at : ℕ) (x : Option X) → length places ≡ 16 → at < 16 → (i : ℕ) → row (set places at x) i ≡ with_at (row places) at x i
strip_put places at x many low i = read-set option_flatten places at x (omega (arith, many, low)) i

-- what is put into an empty strip
pub first_put : {X : Type 0} (strip : Option (List (Option X))) (own : List (Option X)) (at : ℕ) (x : Option X) (new : List (Option X)) → own ≡ replicate 16 None → strip ≡ None → ((i : ℕ) → row new i ≡ with_at (row own) at x i) → (i : ℕ) → row new i ≡ with_at (in_strip strip) at x i
first_put {X} strip own at x new e none put i = put i ∙ ap (λ o. cond (i == at) x o) (ap (λ xs. row xs i) e ∙ row_absent {X = X} 16 i ∙ ap (λ o. in_strip o i) (sym none))
