-- The blocks of a unit, found at the addresses where they may be.
use Rattle.std.proofs.Common.{◌≡◌, ◌≢◌, inl, inr, ⊎_elim, ℕ, zero, suc, ◌+◌, ◌<◌, ◌≤◌, Bool, true, false, cond, List, [], ◌∷◌, ◌++◌, Option, None, Some, flat_map, slice_get, refl, sym, ◌∙◌, ap, arith, subst, eq-eqb}
use Rattle.std.specs.Prelude.{◌==◌, ◌||◌, Contains, Decides, IsTrue}
use Rattle.std.specs.Option.{IsSomeAnd, option_map_or}
use Rattle.std.proofs.lemmas.Bool.{cases_eq, eqb-true, false≢true}
use Rattle.std.proofs.lemmas.List.Elements.{Contains-append_cases, Contains-append_left, Contains-append_right}
use Rattle.fdp_base.specs.declared.entry.BlockName.{BlockName}
use Rattle.fdp_base.specs.declared.entry.Spot.{Spot}
use Rattle.fdp_rules.specs.Point.{Point}
use Rattle.fdp_rules.specs.Sites.{site_of}
use Rattle.fdp_tables.specs.Index.{is_listed}
use Rattle.fdp_plain_judge.specs.Judging.{EachIn, IsOutside}
use Rattle.fdp_plain_judge.specs.Passes.{AreInUnit, StandsThere, TakesSpace, in_unit}

nothing : {X : Type 0} (x : X) → Contains [] x → ⊥
nothing x h = let below : h.0 < 0 = h.1 in absurd (omega (arith, below))

alone : {X : Type 0} (y x : X) → Contains (y ∷ []) x → y ≡ x
alone y x (zero, below, e) = e
alone y x (suc k, below, e) = absurd (omega (arith, below))

-- a listed number has a place in the list
listed_at : (x : ℕ) (xs : List ℕ) → is_listed x xs ≡ true → (i : ℕ) × (slice_get xs i ≡ Some x)
listed_at x [] e = absurd (false≢true e)
listed_at x (y ∷ xs) e =
    let P : Bool → Type 0 = λ b. (y == x) ≡ b → (i : ℕ) × (slice_get (y ∷ xs) i ≡ Some x) in
    (elim (y == x) as P [
      | true ↦ λ same. (0, ap Some (eqb-true y x same))
      | false ↦ λ other. let rest : (i : ℕ) × (slice_get xs i ≡ Some x) = listed_at x xs (sym (ap (λ b. b || is_listed x xs) other) ∙ e) in (suc rest.0, rest.1)
    ]) refl

-- the pieces of listed numbers are among all pieces
piece_there : {Y : Type 0} (g : ℕ → List Y) (xs : List ℕ) (x : ℕ) (y : Y) → is_listed x xs ≡ true → Contains (g x) y → Contains (flat_map g xs) y
piece_there g [] x y e h = absurd (false≢true e)
piece_there {Y} g (a ∷ xs) x y e h =
    let P : Bool → Type 0 = λ b. (a == x) ≡ b → Contains (flat_map g (a ∷ xs)) y in
    (elim (a == x) as P [
      | true ↦ λ same. Contains-append_left (g a) (flat_map g xs) y (subst (λ n. Contains (g n) y) (sym (eqb-true a x same)) h)
      | false ↦ λ other. Contains-append_right (g a) (flat_map g xs) y (piece_there g xs x y (sym (ap (λ b. b || is_listed x xs) other) ∙ e) h)
    ]) refl

some_piece : {Y : Type 0} (g : ℕ → List Y) (xs : List ℕ) (y : Y) → Contains (flat_map g xs) y → (x : ℕ) × Contains (g x) y
some_piece g [] y h = absurd (nothing y h)
some_piece g (a ∷ xs) y h = ⊎_elim (λ here. (a, here)) (λ there. some_piece g xs y there) (Contains-append_cases (g a) (flat_map g xs) y h)

module _ (p : Point) (unit nsid : ℕ) where
  abbrev Piece : ℕ → Spot → List (BlockName × Spot)
  Piece lba spot = cond (spot.unit == unit) ((record { nsid = nsid; lba = lba }, spot) ∷ []) []

  -- a block that stands in the unit is its piece
  in-piece : (lba : ℕ) (spot : Spot) → site_of p nsid lba ≡ Some spot → spot.unit ≡ unit → Contains (in_unit p unit nsid lba) (record { nsid = nsid; lba = lba }, spot)
  in-piece lba spot e same =
      let x : BlockName × Spot = (record { nsid = nsid; lba = lba }, spot) in
      subst (λ o. Contains (option_map_or (Piece lba) o []) x) (sym e) (subst (λ b. Contains (cond b (x ∷ []) []) x) (sym (eq-eqb spot.unit unit same)) (0, omega arith, refl))

  -- and nothing else is
  of-piece : (lba : ℕ) (x : BlockName × Spot) → Contains (in_unit p unit nsid lba) x → (x.0.nsid ≡ nsid) × StandsThere p x
  of-piece lba x h = of_site (site_of p nsid lba) refl h where
    of_unit : (spot : Spot) (b : Bool) → site_of p nsid lba ≡ Some spot → Contains (cond b ((record { nsid = nsid; lba = lba }, spot) ∷ []) []) x → (x.0.nsid ≡ nsid) × StandsThere p x
    of_unit spot true e h =
        let y : BlockName × Spot = (record { nsid = nsid; lba = lba }, spot) in
        subst (λ (z : BlockName × Spot). (z.0.nsid ≡ nsid) × StandsThere p z) (alone y x h) (refl, e)
    of_unit spot false e h = absurd (nothing x h)

    of_site : (o : Option Spot) → site_of p nsid lba ≡ o → Contains (option_map_or (Piece lba) o []) x → (x.0.nsid ≡ nsid) × StandsThere p x
    of_site None e h = absurd (nothing x h)
    of_site (Some spot) e h = of_unit spot (spot.unit == unit) e h

  -- the pieces of all addresses where a block may stand in the unit
  pub took_space : (places : List ℕ) (old new : List (BlockName × Spot)) → new ≡ old ++ flat_map (in_unit p unit nsid) places
      → ((lba : ℕ) → IsSomeAnd (site_of p nsid lba) (λ spot. spot.unit ≡ unit) → IsTrue (is_listed lba places)) → TakesSpace p unit nsid old new
  took_space places old new e listed =
      let pieces : List (BlockName × Spot) = flat_map (in_unit p unit nsid) places in
      record {
        kept = λ x h. subst (λ xs. Contains xs x) (sym e) (Contains-append_left old pieces x h);
        there = λ x h.
            ⊎_elim inl
            (λ piece. let one : (lba : ℕ) × Contains (in_unit p unit nsid lba) x = some_piece (in_unit p unit nsid) places x piece in inr (of-piece one.0 x one.1))
            (Contains-append_cases old pieces x (subst (λ xs. Contains xs x) e h));
        all = λ lba spot site same.
            let is : IsTrue (is_listed lba places) = listed lba (subst (λ o. IsSomeAnd o (λ (s : Spot). s.unit ≡ unit)) (sym site) same) in
            subst (λ xs. Contains xs (record { nsid = nsid; lba = lba }, spot)) (sym e) (Contains-append_right old pieces _ (piece_there (in_unit p unit nsid) places lba _ is (in-piece lba spot site same)));
      }

  -- no block stands in the unit exactly where none of these does
  pub outside_decides : (places : List ℕ) (b : Bool) → ((lba : ℕ) → IsSomeAnd (site_of p nsid lba) (λ spot. spot.unit ≡ unit) → IsTrue (is_listed lba places)) → Decides b (EachIn (IsOutside p unit nsid) places)
      → Decides b ((lba : ℕ) → IsOutside p unit nsid lba)
  outside_decides places b listed d = (λ e lba. of_site (d.0 e) lba (site_of p nsid lba) refl, λ all. d.1 (λ i lba e. all lba)) where
    of_site : EachIn (IsOutside p unit nsid) places → (lba : ℕ) (o : Option Spot) → site_of p nsid lba ≡ o → IsOutside p unit nsid lba
    of_site each lba None e = rw e tt
    of_site each lba (Some spot) e =
        rw e (λ same.
        let at : (i : ℕ) × (slice_get places i ≡ Some lba) = listed_at lba places (listed lba (subst (λ o. IsSomeAnd o (λ (s : Spot). s.unit ≡ unit)) (sym e) same)) in
        let out : IsOutside p unit nsid lba = each at.0 lba at.1 in
        let out_there : spot.unit ≢ unit = subst (λ (o : Option Spot). Rattle.std.specs.Option.IfSome o (λ (s : Spot). s.unit ≢ unit)) e out in
        out_there same)

-- with the blocks of one namespace more
pub in_unit_next : (p : Point) (unit nsid : ℕ) (old new : List (BlockName × Spot)) → 1 ≤ nsid → AreInUnit p unit nsid old → TakesSpace p unit nsid old new → AreInUnit p unit (nsid + 1) new
in_unit_next p unit nsid old new first h took = record {
  there = λ x is. ⊎_elim (h.there x) (λ one. one.1) (took.there x is);
  spaces = λ x is.
      let before : Contains old x → (1 ≤ x.0.nsid) × (x.0.nsid < nsid + 1) = λ was. let s : (1 ≤ x.0.nsid) × (x.0.nsid < nsid) = h.spaces x was in (s.0, omega (arith, s.1)) in
      let now : ((x.0.nsid ≡ nsid) × StandsThere p x) → (1 ≤ x.0.nsid) × (x.0.nsid < nsid + 1) = λ one. let same : x.0.nsid ≡ nsid = one.0 in (omega (arith, same, first), omega (arith, same)) in
      ⊎_elim before now (took.there x is);
  all = λ n lba spot low high site same.
      let here : n ≡ nsid → Contains new (record { nsid = n; lba = lba }, spot) = λ is.
      subst (λ m. Contains new (record { nsid = m; lba = lba }, spot)) (sym is) (took.all lba spot (subst (λ m. site_of p m lba ≡ Some spot) is site) same) in
      let other : n ≢ nsid → Contains new (record { nsid = n; lba = lba }, spot) = λ ne. took.kept _ (h.all n lba spot low (omega (arith, high, ne)) site same) in
      ⊎_elim here other (cases_eq n nsid);
}
