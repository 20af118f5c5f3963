-- A block that is put into the table, and places that are made or taken away: the rest is as it was.
use Rattle.std.proofs.Common.{◌≡◌, ℕ, zero, suc, ◌<◌, ◌≤◌, true, false, List, [], length, set, replicate, get_or, slice_get, Option, Some, None, refl, ap, ◌∙◌, subst, arith, cond, eq-eqb, ne_eqb, ⊎_elim}
use Rattle.std.specs.Prelude.{◌==◌, if◌then◌else◌}
use Rattle.std.specs.Option.{option_flatten}
use Rattle.std.proofs.Math.ListN.{length-set}
use Rattle.std.proofs.lemmas.Bool.{cases_eq, cases_lt}
use Rattle.std.proofs.lemmas.Bool.Decides.{nat_tests}
use Rattle.std.proofs.lemmas.Grind.{common_steps}
use Rattle.std.proofs.lemmas.List.{get_or_past}
use Rattle.std.proofs.lemmas.Option.{gets, slice_get_past}
use Rattle.fdp_base.specs.Numbers.{with_at}
use Rattle.fdp_map.specs.declared.mapped.Mapped.{Mapped}
use Rattle.fdp_map.specs.MapTable.{MapTable, block_in, mapped_at, row, size_in, with_mapped}

-- a block, or none, at a place of a row
abbrev pub put_in : MapTable → ℕ → ℕ → Option Mapped → MapTable
put_in m nsid lba x = record m { rows = set m.rows nsid (set (row m nsid) lba x) }

-- another row
abbrev pub with_row : MapTable → ℕ → List (Option Mapped) → MapTable
with_row m nsid r = record m { rows = set m.rows nsid r }

-- a word of what a table has at a place
with_at_read : {X Y : Type 0} (f : X → Y) (table : ℕ → X) (place : ℕ) (value : X) (i : ℕ) → f (with_at table place value i) ≡ with_at (λ k. f (table k)) place (f value) i
with_at_read f table place value i =
    elim (i == place) as (λ b. f (if b then value else table i) ≡ (if b then f value else f (table i))) [ true ↦ refl | false ↦ refl ]

-- a table in which a place keeps its value
pub with_at_same : {X : Type 0} (table : ℕ → X) (place i : ℕ) → with_at table place (table place) i ≡ table i
with_at_same table place i =
    ⊎_elim
    (λ (e : i ≡ place). subst (λ p. with_at table p (table p) i ≡ table i) e (ap (λ b. cond b (table i) (table i)) (eq-eqb i i refl)))
    (λ ne. ap (λ b. cond b (table place) (table i)) (ne_eqb i place ne))
    (cases_eq i place)

get_or-put : {X : Type 0} (xs : List X) (place : ℕ) (y d : X) → place < length xs → (i : ℕ) → get_or (set xs place y) i d ≡ with_at (λ k. get_or xs k d) place y i
get_or-put xs place y d there i = grind (arith, common_steps, nat_tests)

slice_get-put : {X : Type 0} (xs : List X) (place : ℕ) (y : X) → place < length xs → (i : ℕ) → slice_get (set xs place y) i ≡ with_at (slice_get xs) place (Some y) i
slice_get-put xs place y there i = grind (arith, common_steps, gets, nat_tests)

-- where a namespace has a place, the table has its row
pub row_there : (m : MapTable) (nsid lba : ℕ) → lba < size_in m nsid → nsid < length m.rows
row_there m nsid lba within =
    ⊎_elim
    (λ (there : nsid < length m.rows). there)
    (λ past.
    let none : size_in m nsid ≡ 0 = ap length (get_or_past m.rows nsid [] past) in
    absurd (omega (arith, none, within)))
    (cases_lt nsid (length m.rows))

-- the rows with another
pub rows_with : (m : MapTable) (nsid : ℕ) (r : List (Option Mapped)) → nsid < length m.rows → (n : ℕ) → row (with_row m nsid r) n ≡ with_at (row m) nsid r n
rows_with m nsid r there n = get_or-put m.rows nsid r [] there n

pub sizes_with : (m : MapTable) (nsid : ℕ) (r : List (Option Mapped)) → nsid < length m.rows → (n : ℕ) → size_in (with_row m nsid r) n ≡ with_at (size_in m) nsid (length r) n
sizes_with m nsid r there n = ap length (rows_with m nsid r there n) ∙ with_at_read length (row m) nsid r n

pub blocks_with : (m : MapTable) (nsid : ℕ) (r : List (Option Mapped)) → nsid < length m.rows → (n lba : ℕ) → mapped_at (with_row m nsid r) n lba ≡ with_at (λ k. mapped_at m k lba) nsid (block_in r lba) n
blocks_with m nsid r there n lba =
    ap (λ (x : List (Option Mapped)). block_in x lba) (rows_with m nsid r there n)
    ∙ with_at_read (λ (x : List (Option Mapped)). block_in x lba) (row m) nsid r n

-- a block that is put keeps the sizes
pub sizes_put : (m : MapTable) (nsid lba : ℕ) (x : Option Mapped) → nsid < length m.rows → (n : ℕ) → size_in (put_in m nsid lba x) n ≡ size_in m n
sizes_put m nsid lba x there n =
    let same : length (set (row m nsid) lba x) ≡ length (row m nsid) = length-set (row m nsid) lba x in
    sizes_with m nsid (set (row m nsid) lba x) there n
    ∙ ap (λ (size : ℕ). with_at (size_in m) nsid size n) same
    ∙ with_at_same (size_in m) nsid n

-- a table of tables with another value at one place
two_deep : {X : Type 0} (table : ℕ → ℕ → X) (nsid lba : ℕ) (x : X) (n b : ℕ) → with_at (λ k. table k b) nsid (with_at (table nsid) lba x b) n ≡ with_at table nsid (with_at (table nsid) lba x) n b
two_deep table nsid lba x n b = elim (n == nsid) as (λ t. (if t then with_at (table nsid) lba x b else table n b) ≡ (if t then with_at (table nsid) lba x else table n) b) [ true ↦ refl | false ↦ refl ]

-- a block that is put is the one that changes
pub blocks_put : (m : MapTable) (nsid lba : ℕ) (x : Option Mapped) → nsid < length m.rows → lba < size_in m nsid → (n b : ℕ) → mapped_at (put_in m nsid lba x) n b ≡ with_mapped (mapped_at m) nsid lba x n b
blocks_put m nsid lba x there within n b =
    let one : block_in (set (row m nsid) lba x) b ≡ with_at (mapped_at m nsid) lba x b = ap option_flatten (slice_get-put (row m nsid) lba x within b) ∙ with_at_read option_flatten (slice_get (row m nsid)) lba (Some x) b in
    blocks_with m nsid (set (row m nsid) lba x) there n b
    ∙ ap (λ (y : Option Mapped). with_at (λ k. mapped_at m k b) nsid y n) one
    ∙ two_deep (mapped_at m) nsid lba x n b

-- behind the last place there is no block
pub block_past : (m : MapTable) (nsid lba : ℕ) → size_in m nsid ≤ lba → mapped_at m nsid lba ≡ None
block_past m nsid lba past = ap option_flatten (slice_get_past (row m nsid) lba past)

-- places without blocks
pub vacant_blocks : (size lba : ℕ) → block_in (replicate size None) lba ≡ None
vacant_blocks zero lba = refl
vacant_blocks (suc size) zero = refl
vacant_blocks (suc size) (suc lba) = vacant_blocks size lba
