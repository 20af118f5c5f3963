-- A namespace that is put into the table of the namespaces, or whose blocks become absent.
use Rattle.std.proofs.Common.{◌≡◌, ◌-◌, arith, ℕ, find, [], ◌∷◌, zero, suc, replicate, ◌<◌, ◌≤◌, Bool, true, false, List, length, set, get_or, Option, None, Some, refl, ap, sym, ◌∙◌, cond, subst, eq-eqb, ne_eqb, ⊎_elim}
use Rattle.std.specs.Prelude.{is_none, ◌==◌, ◌&&◌, if◌then◌else◌, option_map}
use Rattle.std.specs.Option.{option_flatten}
use Rattle.std.proofs.lemmas.Bool.{cases_eq}
use Rattle.std.proofs.lemmas.Option.{slice_get-get_or, slice_get_past}
use Rattle.fdp_rules.specs.Effect.{without_blocks}
use Rattle.std.proofs.lemmas.Bool.Decides.{nat_tests}
use Rattle.fdp_base.specs.Numbers.{is_among, with_at}
use Rattle.fdp_rules.specs.PlainState.{Block, Namespace, PlainState}
use Rattle.fdp_tables.specs.declared.state.Space.{Space}
use Rattle.fdp_tables.specs.Spaces.{block_in}
use Rattle.fdp_tables.specs.State.{namespace_of, row}
use Rattle.fdp_tables.proofs.Tables.{read-set}

abbrev pub none_of : (X : Type 0) → Option X
none_of X = None

module _ {X : Type 0} (table : ℕ → X) (place : ℕ) where
  -- a table in which a place keeps its value
  pub with_at_same : (i : ℕ) → with_at table place (table place) i ≡ table i
  with_at_same i =
      ⊎_elim
      (λ (e : i ≡ place). subst (λ p. with_at table p (table p) i ≡ table i) e (ap (λ b. cond b (table i) (table i)) (eq-eqb i i refl)))
      (λ ne. ap (λ b. cond b (table place) (table i)) (ne_eqb i place ne))
      (cases_eq i place)

either_way : {X : Type 0} (b : Bool) (x : X) → x ≡ cond b x x
either_way true x = refl
either_way false x = refl

-- another value at a place where a test passes
pub with_at_if : {X : Type 0} (table : ℕ → X) (place : ℕ) (value : X) (r : Bool) (i : ℕ) → with_at table place (if r then value else table place) i ≡ (if i == place && r then value else table i)
with_at_if table place value true i = elim (i == place) as (λ b. cond b value (table i) ≡ cond (b && true) value (table i)) [ true ↦ refl | false ↦ refl ]
with_at_if table place value false i =
    with_at_same table place i
    ∙ elim (i == place) as (λ b. table i ≡ cond (b && false) value (table i)) [ true ↦ refl | false ↦ refl ]

-- the namespaces of a table, and their blocks
abbrev pub namespaces_in : List (Option Space) → ℕ → Option Namespace
namespaces_in xs n = option_map namespace_of (row xs n)

abbrev pub blocks_in : List (Option Space) → ℕ → ℕ → Option Block
blocks_in xs n lba = block_in (row xs n) lba

module _ (s : PlainState) (xs : List (Option Space)) (place : ℕ) (y : Option Space) (there : place < length xs) where
  namespaces_put : namespaces_in (set xs place y) ≡ with_at (namespaces_in xs) place (option_map namespace_of y)
  namespaces_put = λ d n. read-set (λ o. option_map namespace_of (option_flatten o)) xs place y there n d

  blocks_put : (n lba : ℕ) → blocks_in (set xs place y) n lba ≡ (if n == place then block_in y lba else blocks_in xs n lba)
  blocks_put n lba = read-set (λ o. block_in (option_flatten o) lba) xs place y there n

  -- a namespace is put there with its blocks
  pub space_put : (let now : PlainState = record s { namespaces = namespaces_in (set xs place y); blocks = blocks_in (set xs place y) } in now)
      ≡ record s { namespaces = with_at (namespaces_in xs) place (option_map namespace_of y); blocks = λ n lba. if n == place then block_in y lba else blocks_in xs n lba }
  space_put =
      ap (λ f. let t : PlainState = record s { namespaces = f; blocks = blocks_in (set xs place y) } in t) namespaces_put
      ∙ (λ d. record s { namespaces = with_at (namespaces_in xs) place (option_map namespace_of y); blocks = λ n lba. blocks_put n lba d })

  -- a namespace stays, and its blocks change where a test passes
  pub space_changed : (test : ℕ → Bool) (value : ℕ → Option Block) (e : Option Space) → option_map namespace_of y ≡ option_map namespace_of (get_or xs place e) → ((lba : ℕ) → block_in y lba ≡ (if test lba then value lba else block_in (get_or xs place e) lba))
      → (let now : PlainState = record s { namespaces = namespaces_in (set xs place y); blocks = blocks_in (set xs place y) } in now)
      ≡ record s { namespaces = namespaces_in xs; blocks = λ n lba. if n == place && test lba then value lba else blocks_in xs n lba }
  space_changed test value e same put =
      let before : row xs place ≡ get_or xs place e = ap option_flatten (slice_get-get_or xs place e there) in
      let names : with_at (namespaces_in xs) place (option_map namespace_of y) ≡ namespaces_in xs = λ d n.
      (ap (λ v. with_at (namespaces_in xs) place v n) (same ∙ ap (option_map namespace_of) (sym before)) ∙ with_at_same (namespaces_in xs) place n) d in
      let blocks : (n lba : ℕ) → (if n == place then block_in y lba else blocks_in xs n lba) ≡ (if n == place && test lba then value lba else blocks_in xs n lba) = λ n lba.
      ap (λ b. with_at (λ m. blocks_in xs m lba) place b n) (put lba ∙ ap (λ z. if test lba then value lba else block_in z lba) (sym before)) ∙ with_at_if (λ m. blocks_in xs m lba) place (value lba) (test lba) n in
      space_put
      ∙ ap (λ f. let t : PlainState = record s { namespaces = f; blocks = λ n lba. if n == place then block_in y lba else blocks_in xs n lba } in t) names
      ∙ (λ d. record s { namespaces = namespaces_in xs; blocks = λ n lba. blocks n lba d })

-- the blocks of a namespace that is not there are absent
pub space_absent : (s : PlainState) (xs : List (Option Space)) (place : ℕ) (test : ℕ → Bool) → length xs ≤ place
    → (let now : PlainState = record s { namespaces = namespaces_in xs; blocks = blocks_in xs } in now)
    ≡ without_blocks (record s { namespaces = namespaces_in xs; blocks = blocks_in xs }) place test
space_absent s xs place test past =
    let absent : row xs place ≡ None = ap option_flatten (slice_get_past xs place past) in
    let none : (lba : ℕ) → block_in (row xs place) lba ≡ (if test lba then None else block_in (row xs place) lba) = λ lba.
    subst (λ o. block_in o lba ≡ (if test lba then None else block_in o lba)) (sym absent) (either_way (test lba) None) in
    let blocks : (n lba : ℕ) → blocks_in xs n lba ≡ (if n == place && test lba then None else blocks_in xs n lba) = λ n lba.
    sym (with_at_same (λ m. blocks_in xs m lba) place n)
    ∙ ap (λ b. with_at (λ m. blocks_in xs m lba) place b n) (none lba)
    ∙ with_at_if (λ m. blocks_in xs m lba) place None (test lba) n in
    λ d. record s { namespaces = namespaces_in xs; blocks = λ n lba. blocks n lba d }

-- a row of a table in which each row is empty
pub row_absent : {X : Type 0} (n i : ℕ) → row (replicate n (none_of X)) i ≡ none_of X
row_absent zero i = refl
row_absent (suc n) zero = refl
row_absent {X} (suc n) (suc i) = row_absent {X = X} n i

-- a namespace that is not there has no blocks
pub absent_row : (space : Option Space) → is_none (option_map namespace_of space) ≡ true → (lba : ℕ) → block_in space lba ≡ none_of Block
absent_row None e lba = refl
absent_row (Some x) e lba = cc

passes : {X : Type 0} (p : X → Bool) (y x : X) (rest : Option X) (b : Bool) → p y ≡ b → cond b (Some y) rest ≡ Some x → (rest ≡ Some x → p x ≡ true) → p x ≡ true
passes p y x rest true e f g = let same : y ≡ x = cc in subst (λ z. p z ≡ true) same e
passes p y x rest false e f g = g f

-- what is found passes
pub find_passes : {X : Type 0} (p : X → Bool) (xs : List X) (x : X) → find p xs ≡ Some x → p x ≡ true
find_passes p [] x e = cc
find_passes p (y ∷ ys) x e = passes p y x (find p ys) (p y) refl e (λ f. find_passes p ys x f)

-- a choice where the values agree if the test holds
pub if_same : {X : Type 0} (a t : Bool) (x y z : X) → (t ≡ true → x ≡ y) → cond (a && t) x z ≡ cond (a && t) y z
if_same true true x y z h = h refl
if_same true false x y z h = refl
if_same false true x y z h = refl
if_same false false x y z h = refl

-- how far an address lies behind the first of so many
pub offset_among : (slba count lba : ℕ) → is_among slba count lba ≡ true → lba - slba < count
offset_among slba count lba e = grind (arith, nat_tests)
