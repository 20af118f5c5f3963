-- The groups that were worn, after entries and calls more.
use Rattle.std.proofs.Common.{◌≡◌, ◌⊎◌, ℕ, ◌+◌, ◌*◌, ◌^◌, ◌<◌, ◌≤◌, Bool, true, false, not, ◌||◌, List, [], ◌∷◌, ◌++◌, length, length-append, refl, sym, ◌∙◌, ap, subst, arith, append_assoc, inl, inr, ⊎_elim}
use Rattle.std.specs.Prelude.{IsFalse, IsTrue}
use Rattle.std.specs.List.{list_any}
use Rattle.std.proofs.lemmas.List.Folds.{list_any-append}
use Rattle.fdp_base.specs.declared.config.Geometry.{Geometry}
use Rattle.fdp_base.specs.declared.entry.Entry.{Entry}
use Rattle.fdp_base.specs.declared.entry.Entry.TheVariants as entries
use Rattle.fdp_base.specs.declared.entry.Worn.{Worn}
use Rattle.fdp_base.specs.Numbers.{count_below}
use Rattle.fdp_base.specs.EntryKinds.{wears_group}
use Rattle.fdp_base.proofs.Sums.{count_from}
use Rattle.fdp_calls.specs.Calls.{counted_more}
use Rattle.fdp_flash.specs.FlashState.{Call, FlashState}
use Rattle.fdp_units.specs.DataUnits.{is_free}
use Rattle.fdp_units.specs.UnitTable.{HasNoFree, IsGroup, UnitTable, state_at}
use Rattle.fdp_units.proofs.Tables.{group-of-place, unit-there}
use Rattle.fdp_ledger.specs.declared.counts.Counts.{Counts}
use Rattle.fdp_ledger.specs.Ledger.{AreAccounted, is_vain}
use Rattle.fdp_ledger.specs.Start.{KnowsUnits}
use Rattle.fdp_ledger.specs.Uses.{RunStart, idle_erases, used_by}
use Rattle.fdp_ledger.specs.WornOut.{HadFailedIn, WasWornOut, WereWornOut, calls_since}
use Rattle.fdp_ledger.proofs.Called.{IsAfter, since-more}
use Rattle.fdp_ledger.proofs.Counting.{still-bound}
use Rattle.fdp_ledger.proofs.Vain.{row-vain, unfree-vain, units_of}

no : true ≡ false → ⊥
no e = cc

-- ---- where an entry of a kind stands

-- in none of these
pub never-there : (p : Entry → Bool) (es before after : List Entry) (e : Entry) → list_any p es ≡ false → p e ≡ true → es ≡ before ++ e ∷ after → ⊥
never-there p es before after e none is eq = no (
    sym (or-true (list_any p before))
    ∙ ap (λ (b : Bool). list_any p before || (b || list_any p after)) (sym is)
    ∙ sym (list_any-append p before (e ∷ after))
    ∙ sym (ap (list_any p) eq)
    ∙ none) where
      or-true : (b : Bool) → (b || true) ≡ true
      or-true true = refl
      or-true false = refl

-- in the first ones, where none of the further ones is of that kind
split : (p : Entry → Bool) (es xs before after : List Entry) (e : Entry) → list_any p xs ≡ false → p e ≡ true → es ++ xs ≡ before ++ e ∷ after → (rest : List Entry) × (es ≡ before ++ e ∷ rest)
split p [] xs before after e none is eq = absurd (never-there p xs before after e none is eq)
split p (x ∷ es) xs [] after e none is eq = let head : x ≡ e = cc in (es, ap (λ (y : Entry). y ∷ es) head)
split p (x ∷ es) xs (y ∷ before) after e none is eq =
    let head : x ≡ y = cc in
    let tail : es ++ xs ≡ before ++ e ∷ after = cc in
    let found = split p es xs before after e none is tail in
    (found.0, ap (λ (z : Entry). z ∷ es) head ∙ ap (λ (zs : List Entry). y ∷ zs) found.1)

-- in the first ones, or as the last one
split-last : (es before after : List Entry) (a e : Entry) → es ++ a ∷ [] ≡ before ++ e ∷ after → ((rest : List Entry) × (es ≡ before ++ e ∷ rest)) ⊎ ((before ≡ es) × (e ≡ a))
split-last [] [] after a e eq = let head : e ≡ a = cc in inr (refl, head)
split-last [] (y ∷ before) after a e eq = let tail : [] ≡ before ++ e ∷ after = cc in absurd (omega (arith, ap length tail, length-append before (e ∷ after)))
split-last (x ∷ es) [] after a e eq = let head : x ≡ e = cc in inl (es, ap (λ (y : Entry). y ∷ es) head)
split-last (x ∷ es) (y ∷ before) after a e eq =
    let head : x ≡ y = cc in
    let tail : es ++ a ∷ [] ≡ before ++ e ∷ after = cc in
    ⊎_elim
    (λ (found : (rest : List Entry) × (es ≡ before ++ e ∷ rest)). inl (found.0, ap (λ (z : Entry). z ∷ es) head ∙ ap (λ (zs : List Entry). y ∷ zs) found.1))
    (λ (last : (before ≡ es) × (e ≡ a)). inr (ap (λ (zs : List Entry). y ∷ zs) last.0 ∙ ap (λ (z : Entry). z ∷ es) (sym head), last.1))
    (split-last es before after a e tail)

-- ---- a group that was worn

-- of a group without a free unit: each unit of it that got no page was taken in vain
pub worn-now : (handed : Counts) (start : RunStart) (t : UnitTable) (es : List Entry) (now : FlashState) (rg : ℕ) → handed.faults < 2 ^ 64 → now.geometry.units ≡ t.group_units → IsGroup t rg → HasNoFree t rg → AreAccounted handed start t es now → KnowsUnits now.told start → WasWornOut handed now start es rg
worn-now handed start t es now rg small size there none units knows = record {
  few = subst (λ (k : ℕ). counted_more handed.faults (count_below k (λ i. not (used_by start es (rg * k + i)))) ≤ now.faults) (sym size)
      (still-bound handed.faults (idle_erases start es + count_from (is_vain start t es) 0 (units_of t)) _ now.faults now.faults small
      (let most = row-vain start t es rg (λ unit. not (used_by start es unit)) there (λ i low h. vain i low (unused (used_by start es (rg * t.group_units + i)) h)) in omega (arith, most)) (omega arith) (units.vain knows));
  failed = λ tells. subst (λ (k : ℕ). (i : ℕ) → i < k → IsFalse (used_by start es (rg * k + i)) → HadFailedIn (rg * k + i) (calls_since handed now)) (sym size)
      (λ i low h. (calls_since handed now, ([], append-none (calls_since handed now)), units.failed knows tells (rg * t.group_units + i) (unit-there t rg i there low) (vain i low h)));
} where
  unused : (b : Bool) → not b ≡ true → b ≡ false
  unused true e = absurd (no (sym e))
  unused false e = refl

  append-none : (xs : List Call) → xs ++ [] ≡ xs
  append-none [] = refl
  append-none (x ∷ xs) = ap (λ (ys : List Call). x ∷ ys) (append-none xs)

  unfree : (i : ℕ) → i < t.group_units → (b : Bool) → is_free (state_at t (rg * t.group_units + i)) ≡ b → b ≡ false
  unfree i low true is = absurd (none (rg * t.group_units + i) (record { is_unit = unit-there t rg i there low; group = group-of-place t rg i low; free = is }))
  unfree i low false is = refl

  vain : (i : ℕ) → i < t.group_units → used_by start es (rg * t.group_units + i) ≡ false → is_vain start t es (rg * t.group_units + i) ≡ true
  vain i low h = unfree-vain start t es (rg * t.group_units + i) (unfree i low (is_free (state_at t (rg * t.group_units + i))) refl) h

module _ (handed : Counts) (start : RunStart) (old now : FlashState) (calls : List Call) (after : IsAfter old now calls) (since : IsTrue old.tells_calls → handed.moment ≤ length old.calls) where
  still-failed : IsTrue now.tells_calls → (unit : ℕ) → HadFailedIn unit (calls_since handed old) → HadFailedIn unit (calls_since handed now)
  still-failed tells unit h = (
    h.0,
    (
      h.1.0 ++ calls,
      sym (append_assoc h.0 h.1.0 calls) ∙ ap (λ (xs : List Call). xs ++ calls) h.1.1 ∙ sym (since-more handed old now calls after since tells),
    ),
    h.2,
  )

  still-out : (es : List Entry) (rg : ℕ) → WasWornOut handed old start es rg → WasWornOut handed now start es rg
  still-out es rg h = record {
    few = subst (λ (k : ℕ). counted_more handed.faults (count_below k (λ i. not (used_by start es (rg * k + i)))) ≤ now.faults) (sym size) (let few = h.few in omega (arith, few, after.faults));
    failed = λ tells. subst (λ (k : ℕ). (i : ℕ) → i < k → IsFalse (used_by start es (rg * k + i)) → HadFailedIn (rg * k + i) (calls_since handed now)) (sym size)
        (λ i low none. still-failed tells (rg * old.geometry.units + i) (h.failed (after.tells tells) i low none));
  } where
    size : now.geometry.units ≡ old.geometry.units
    size = ap (λ (g : Geometry). g.units) after.geometry

  known : KnowsUnits now.told start → KnowsUnits old.told start
  known knows = subst (λ (told : Bool). KnowsUnits told start) after.told knows

  -- by entries more, of which none tells of a worn group
  pub still-worn-out : (es xs : List Entry) → list_any wears_group xs ≡ false → (KnowsUnits old.told start → WereWornOut handed old start es) → KnowsUnits now.told start → WereWornOut handed now start (es ++ xs)
  still-worn-out es xs none was knows before behind rg eq =
      let found = split wears_group es xs before behind (entries.Worn (record { rg = rg })) none refl eq in
      still-out before rg (was (known knows) before found.0 rg found.1)

  -- and by the entry of one that is worn
  pub worn-out-more : (es : List Entry) (rg : ℕ) → (KnowsUnits old.told start → WasWornOut handed old start es rg) → (KnowsUnits old.told start → WereWornOut handed old start es) → KnowsUnits now.told start → WereWornOut handed now start (es ++ entries.Worn (record { rg = rg }) ∷ [])
  worn-out-more es rg here was knows before behind group eq = ⊎_elim
      (λ (found : (rest : List Entry) × (es ≡ before ++ entries.Worn (record { rg = group }) ∷ rest)). still-out before group (was (known knows) before found.0 group found.1))
      (λ (last : (before ≡ es) × (entries.Worn (record { rg = group }) ≡ entries.Worn (record { rg = rg }))).
      let one : ◌≡◌ {A = Worn} (record { rg = group }) (record { rg = rg }) = cc in
      let same : group ≡ rg = ap (λ (w : Worn). w.rg) one in
      still-out before group (subst (λ (xs : List Entry). WasWornOut handed old start xs group) (sym last.0) (subst (WasWornOut handed old start es) (sym same) (here (known knows)))))
      (split-last es before behind (entries.Worn (record { rg = rg })) (entries.Worn (record { rg = group })) eq)
