-- Which identifiers of an update close a unit.
use Rattle.std.proofs.Common.{◌≡◌, ◌≢◌, ℕ, zero, suc, ◌+◌, ◌*◌, ◌/◌, ◌^◌, ◌<◌, ◌≤◌, Bool, true, false, not, List, [], ◌∷◌, length, Option, Some, None, replicate, refl, ap, sym, ◌∙◌, subst, arith, add-one, ⊎_elim, get_or, get_or-set_other, set}
use Rattle.std.specs.Prelude.{◌==◌, ◌&&◌, ◌||◌, All, if◌then◌else◌, nat_lt, option_map, slice_get, slice_index_or}
use Rattle.std.specs.Option.{option_map_or}
use Rattle.std.specs.Int.{bit_at}
use Rattle.std.proofs.lemmas.Bool.{cases_lt, eq-eqb, ne_eqb}
use Rattle.std.proofs.lemmas.Bool.Decides.{eqb_tells, nat_tests}
use Rattle.std.proofs.lemmas.List.{get_or-set_same}
use Rattle.std.proofs.lemmas.List.Elements.{All-nil}
use Rattle.std.proofs.lemmas.Nat.Bits.{bit_at-suc, bit_at_lowest}
use Rattle.std.proofs.lemmas.Option.{slice_get-get_or, slice_get_past}
use Rattle.std.proofs.Math.Nat.{pow-suc}
use Rattle.std.proofs.Math.Pow.{pow_mono}
use Rattle.fdp_base.specs.declared.config.DriveConfig.{DriveConfig}
use Rattle.fdp_base.specs.Config.{IsValidConfig}
use Rattle.fdp_base.specs.Numbers.{with_at}
use Rattle.fdp_history.specs.OrderlyState.{IsOrderlyState}
use Rattle.fdp_history.proofs.Bounds.{handles-in_force}
use Rattle.fdp_image.specs.Bits.{has_bit}
use Rattle.fdp_book.specs.Changes.{AreMarked}
use Rattle.fdp_passes.proofs.Counted.{as_number}
use Rattle.fdp_readings.specs.Changes.{TellsClosed, closes_unit}
use Rattle.fdp_rules.specs.Effect.{References, is_partly_written, no_reference, updated_at, updated_by, with_reference}
use Rattle.fdp_rules.specs.PlainState.{Namespace, PlainState, Reference}
use Rattle.fdp_rules.specs.Room.{handles_in_force, handles_of}
use Rattle.fdp_rules.specs.Target.{Target, group_of_pid, handle_of_pid, named_by}

-- ---- bits

low-bit : (b : Bool) → as_number b < 2
low-bit true = omega arith
low-bit false = omega arith

halved : (b : Bool) (rest : ℕ) → (as_number b + 2 * rest) / 2 ≡ rest
halved true rest = omega arith
halved false rest = omega arith

lowest : (b : Bool) (rest : ℕ) → has_bit (as_number b + 2 * rest) 0 ≡ b
lowest true rest = let odd : bit_at (1 + 2 * rest) 0 ≡ 1 = bit_at_lowest (1 + 2 * rest) ∙ omega arith in ap (λ (n : ℕ). n == 1) odd
lowest false rest = let even : bit_at (0 + 2 * rest) 0 ≡ 0 = bit_at_lowest (0 + 2 * rest) ∙ omega arith in ap (λ (n : ℕ). n == 1) even

next-bit : (b : Bool) (rest k : ℕ) → has_bit (as_number b + 2 * rest) (k + 1) ≡ has_bit rest k
next-bit b rest k =
    ap (λ (j : ℕ). has_bit (as_number b + 2 * rest) j) (add-one k)
    ∙ ap (λ (n : ℕ). n == 1) (bit_at-suc (as_number b + 2 * rest) k)
    ∙ ap (λ (n : ℕ). has_bit n k) (halved b rest)

-- one bit more below the others
tells-next : (c : DriveConfig) (s : PlainState) (nsid rest first : ℕ) (b : Bool) (references : References) (pids : List ℕ) → TellsClosed c s nsid rest first references pids → TellsClosed c s nsid (as_number b + 2 * rest) (first + 1) references pids
unfolding TellsClosed
tells-next c s nsid rest first b references [] h = tt
tells-next c s nsid rest first b references (pid ∷ pids) h = (next-bit b rest first ∙ h.0, tells-next c s nsid rest (first + 1) b (updated_by c s nsid references pid) pids h.1)

pub tells-more : (c : DriveConfig) (s : PlainState) (nsid rest pid : ℕ) (b : Bool) (references : References) (pids all : List ℕ) → all ≡ pid ∷ pids → b ≡ closes_unit c s nsid references pid
    → TellsClosed c s nsid rest 0 (updated_by c s nsid references pid) pids → TellsClosed c s nsid (as_number b + 2 * rest) 0 references all
unfolding TellsClosed
tells-more c s nsid rest pid b references pids all is closes h =
    subst (TellsClosed c s nsid (as_number b + 2 * rest) 0 references) (sym is)
    (let here : has_bit (as_number b + 2 * rest) 0 ≡ closes_unit c s nsid references pid = lowest b rest ∙ closes in
    (here, tells-next c s nsid rest 0 b (updated_by c s nsid references pid) pids h))

pub tells-none : (c : DriveConfig) (s : PlainState) (nsid : ℕ) (references : References) (all : List ℕ) → length all ≡ 0 → TellsClosed c s nsid 0 0 references all
unfolding TellsClosed
tells-none c s nsid references [] none = tt
tells-none c s nsid references (pid ∷ pids) none = absurd (omega (arith, none))

pub bits-more : (b : Bool) (rest n : ℕ) → rest < 2 ^ n → as_number b + 2 * rest < 2 ^ (n + 1)
bits-more b rest n low =
    let power : 2 ^ (n + 1) ≡ 2 * 2 ^ n = ap (λ (k : ℕ). 2 ^ k) (add-one n) ∙ pow-suc 2 n ∙ omega arith in
    omega (arith, low, power, low-bit b)

pub bits-small : (rest n : ℕ) → rest < 2 ^ n → n + 1 ≤ 64 → 2 * rest + 2 ≤ 2 ^ 64
bits-small rest n low few =
    let less : n ≤ 63 = omega (arith, few) in
    let power : 2 ^ n ≤ 2 ^ 63 = pow_mono less in
    let double : 2 ^ 64 ≡ 2 * 2 ^ 63 = omega arith in
    omega (arith, low, power)

-- ---- marks

none-partly : (n : ℕ) → (nat_lt 0 n && nat_lt n n) ≡ false
none-partly n = grind (arith, nat_tests)

-- whether a handle is closed, by its mark and by what it references
pub closes-is : (c : DriveConfig) (s : PlainState) (marks : List Bool) (references : References) (rg ruh : ℕ) (marked partly closes : Bool) → AreMarked c s marks references → ruh < 16
    → slice_index_or marks (16 * rg + ruh) false ≡ marked → partly ≡ is_partly_written c (s.references rg ruh) → closes ≡ (not marked && partly) → closes ≡ is_partly_written c (references rg ruh)
closes-is c s marks references rg ruh true partly closes h low is own all =
    all ∙ sym (ap (is_partly_written c) (h.each rg ruh low ∙ ap (λ (b : Bool). if b then no_reference c else s.references rg ruh) is) ∙ none-partly c.unit_pages)
closes-is c s marks references rg ruh false partly closes h low is own all =
    all ∙ own ∙ sym (ap (is_partly_written c) (h.each rg ruh low ∙ ap (λ (b : Bool). if b then no_reference c else s.references rg ruh) is))

-- what an update leaves at the handle, and at another one
update-here : (c : DriveConfig) (references : References) (rg ruh : ℕ) (b : Bool) → (if b then with_reference references rg ruh (no_reference c) else references) rg ruh ≡ (if b then no_reference c else references rg ruh)
update-here c references rg ruh true =
    ap (λ (x : Bool). (if x then with_at (references rg) ruh (no_reference c) else references rg) ruh) (eq-eqb rg rg refl) ∙ ap (λ (x : Bool). if x then no_reference c else references rg ruh) (eq-eqb ruh ruh refl)
update-here c references rg ruh false = refl

other-row : (c : DriveConfig) (references : References) (rg ruh r h : ℕ) → (r == rg) ≡ false → with_reference references rg ruh (no_reference c) r h ≡ references r h
other-row c references rg ruh r h apart = ap (λ (x : Bool). (if x then with_at (references rg) ruh (no_reference c) else references r) h) apart

other-place : (c : DriveConfig) (references : References) (rg ruh r h : ℕ) (x : Bool) → (r == rg) ≡ x → r ≡ rg → (h == ruh) ≡ false → (if x then with_at (references rg) ruh (no_reference c) else references r) h ≡ references r h
other-place c references rg ruh r h true test same apart = ap (λ (y : Bool). if y then no_reference c else references rg h) apart ∙ ap (λ (k : ℕ). references k h) (sym same)
other-place c references rg ruh r h false test same apart = refl

update-other : (c : DriveConfig) (references : References) (rg ruh r h : ℕ) (b : Bool) → ((r ≡ rg) × (h ≡ ruh) → ⊥) → (if b then with_reference references rg ruh (no_reference c) else references) r h ≡ references r h
update-other c references rg ruh r h false apart = refl
update-other c references rg ruh r h true apart =
    ⊎_elim
    (λ (e : (r == rg ≡ true) × (r ≡ rg)). other-place c references rg ruh r h (r == rg) refl e.1 (ne_eqb h ruh (λ (same : h ≡ ruh). apart (e.1, same))))
    (λ (e : (r == rg ≡ false) × (r ≢ rg)). other-row c references rg ruh r h e.0)
    (eqb_tells r rg)

joined : (c : DriveConfig) (old own : Reference) (marked b : Bool) → old ≡ (if marked then no_reference c else own) → (if b then no_reference c else old) ≡ (if marked || b then no_reference c else own)
joined c old own true true is = refl
joined c old own true false is = is
joined c old own false true is = refl
joined c old own false false is = is

-- the marks behind an update of a handle
pub marked-more : (c : DriveConfig) (s : PlainState) (marks now : List Bool) (references : References) (rg ruh : ℕ) (closes : Bool) (t : Target) → AreMarked c s marks references → ruh < 16 → 16 * rg + ruh < length marks
    → closes ≡ is_partly_written c (references rg ruh) → now ≡ set marks (16 * rg + ruh) (slice_index_or marks (16 * rg + ruh) false || closes) → t.rg ≡ rg → t.ruh ≡ ruh → AreMarked c s now (updated_at c references t)
marked-more c s marks now references rg ruh closes t h low there is set_ at_rg at_ruh =
    subst (λ (xs : List Bool). AreMarked c s xs (updated_at c references t)) (sym set_)
    (subst (λ (r : ℕ). AreMarked c s (set marks at_ mark) (if is_partly_written c (references r t.ruh) then with_reference references r t.ruh (no_reference c) else references)) (sym at_rg)
    (subst (λ (k : ℕ). AreMarked c s (set marks at_ mark) (if is_partly_written c (references rg k) then with_reference references rg k (no_reference c) else references)) (sym at_ruh)
    (subst (λ (b : Bool). AreMarked c s (set marks at_ mark) (if b then with_reference references rg ruh (no_reference c) else references)) is
    (record {
      each = λ r k small. ⊎_elim
          (λ (e : (r == rg ≡ true) × (r ≡ rg)). ⊎_elim
          (λ (f : (k == ruh ≡ true) × (k ≡ ruh)). here r k e.1 f.1)
          (λ (f : (k == ruh ≡ false) × (k ≢ ruh)). other r k small (λ (both : (r ≡ rg) × (k ≡ ruh)). f.1 both.1))
          (eqb_tells k ruh))
          (λ (e : (r == rg ≡ false) × (r ≢ rg)). other r k small (λ (both : (r ≡ rg) × (k ≡ ruh)). e.1 both.0))
          (eqb_tells r rg);
    })))) where
      at_ : ℕ
      at_ = 16 * rg + ruh

      mark : Bool
      mark = slice_index_or marks (16 * rg + ruh) false || closes

      own : (if closes then with_reference references rg ruh (no_reference c) else references) rg ruh ≡ (if slice_index_or (set marks (16 * rg + ruh) (slice_index_or marks (16 * rg + ruh) false || closes)) (16 * rg + ruh) false then no_reference c else s.references rg ruh)
      own =
          update-here c references rg ruh closes
          ∙ joined c (references rg ruh) (s.references rg ruh) (slice_index_or marks (16 * rg + ruh) false) closes (h.each rg ruh low)
          ∙ ap (λ (b : Bool). if b then no_reference c else s.references rg ruh) (sym (get_or-set_same marks (16 * rg + ruh) (slice_index_or marks (16 * rg + ruh) false || closes) false there))

      here : (r k : ℕ) → r ≡ rg → k ≡ ruh → (if closes then with_reference references rg ruh (no_reference c) else references) r k ≡ (if slice_index_or (set marks (16 * rg + ruh) (slice_index_or marks (16 * rg + ruh) false || closes)) (16 * r + k) false then no_reference c else s.references r k)
      here r k same_r same_k =
          subst (λ (x : ℕ). (if closes then with_reference references rg ruh (no_reference c) else references) x k ≡ (if slice_index_or (set marks (16 * rg + ruh) (slice_index_or marks (16 * rg + ruh) false || closes)) (16 * x + k) false then no_reference c else s.references x k)) (sym same_r)
          (subst (λ (x : ℕ). (if closes then with_reference references rg ruh (no_reference c) else references) rg x ≡ (if slice_index_or (set marks (16 * rg + ruh) (slice_index_or marks (16 * rg + ruh) false || closes)) (16 * rg + x) false then no_reference c else s.references rg x)) (sym same_k) own)

      other : (r k : ℕ) → k < 16 → ((r ≡ rg) × (k ≡ ruh) → ⊥) → (if closes then with_reference references rg ruh (no_reference c) else references) r k ≡ (if slice_index_or (set marks (16 * rg + ruh) (slice_index_or marks (16 * rg + ruh) false || closes)) (16 * r + k) false then no_reference c else s.references r k)
      other r k small apart =
          let places : 16 * r + k ≢ 16 * rg + ruh = λ (same : 16 * r + k ≡ 16 * rg + ruh). apart (omega (arith, same, small, low), omega (arith, same, small, low)) in
          update-other c references rg ruh r k closes apart
          ∙ h.each r k small
          ∙ ap (λ (b : Bool). if b then no_reference c else s.references r k) (sym (get_or-set_other marks (16 * rg + ruh) (16 * r + k) (slice_index_or marks (16 * rg + ruh) false || closes) false places))

-- no mark at first
none-marked : (n k : ℕ) → ◌≡◌ {A = Bool} (get_or (replicate n false) k false) false
none-marked zero k = refl
none-marked (suc n) zero = refl
none-marked (suc n) (suc k) = none-marked n k

pub unmarked : (c : DriveConfig) (s : PlainState) (n : ℕ) → AreMarked c s (replicate n false) s.references
unmarked c s n = record { each = λ rg ruh low. sym (ap (λ (b : Bool). if b then no_reference c else s.references rg ruh) (none-marked n (16 * rg + ruh))) }

-- ---- what an identifier names

handle-low : (bound : ℕ) (handles : List ℕ) (rg at : ℕ) (t : Target) → All (λ ruh. ruh < bound) handles → option_map (λ ruh. record { rg = rg; ruh = ruh; valid = true }) (slice_get handles at) ≡ Some t → t.ruh < bound
handle-low bound handles rg at t all is =
    ⊎_elim
    (λ (low : at < length handles).
    let found : Some (record { rg = rg; ruh = get_or handles at 0; valid = true }) ≡ Some t = sym (ap (option_map (λ ruh. record { rg = rg; ruh = ruh; valid = true })) (slice_get-get_or handles at 0 low)) ∙ is in
    subst (λ (x : ℕ). x < bound) (ap (λ (o : Option Target). option_map_or (λ (x : Target). x.ruh) o 0) found) (all at 0 low))
    (λ (past : length handles ≤ at).
    let none : None ≡ Some t = sym (ap (option_map (λ ruh. record { rg = rg; ruh = ruh; valid = true })) (slice_get_past handles at past)) ∙ is in absurd (no-target t none))
    (cases_lt at (length handles))
  where
    no-target : (x : Target) → None ≡ Some x → ⊥
    no-target x e = cc

all-handles : (c : DriveConfig) (s : PlainState) (nsid : ℕ) → IsOrderlyState c s → All (λ ruh. ruh < handles_in_force c s) (handles_of s nsid)
all-handles c s nsid h =
    let P : Option Namespace → Type 0 = λ o. s.namespaces nsid ≡ o → All (λ ruh. ruh < handles_in_force c s) (option_map_or (λ x. x.handles) o []) in
    elim (s.namespaces nsid) as P [ None ↦ λ _. All-nil (λ ruh. ruh < handles_in_force c s) | Some n ↦ λ e. (h.namespaces nsid n e).handles ] refl

-- a handle that is named is one of sixteen
pub named-low : (c : DriveConfig) (s : PlainState) (nsid pid : ℕ) (t : Target) → IsValidConfig c → IsOrderlyState c s → named_by c s nsid pid ≡ Some t → t.ruh < 16
named-low c s nsid pid t valid orderly is = of_group (nat_lt (group_of_pid c pid) c.groups) is where
  of_group : (b : Bool) → (if b then option_map (λ ruh. record { rg = group_of_pid c pid; ruh = ruh; valid = true }) (slice_get (handles_of s nsid) (handle_of_pid c pid)) else None) ≡ Some t → t.ruh < 16
  of_group true e =
      let low : t.ruh < handles_in_force c s = handle-low (handles_in_force c s) (handles_of s nsid) (group_of_pid c pid) (handle_of_pid c pid) t (all-handles c s nsid orderly) e in
      omega (arith, low, (handles-in_force c s valid orderly).1)
  of_group false e = absurd (no-target t e) where
    no-target : (x : Target) → None ≡ Some x → ⊥
    no-target x e = cc
