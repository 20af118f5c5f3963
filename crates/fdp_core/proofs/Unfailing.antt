-- A run in which no call failed: nothing is lost, and with one group no command ends with Capacity Exceeded.
use Rattle.std.proofs.Common.{◌≡◌, ◌⊎◌, ℕ, ◌+◌, ◌≤◌, Bool, true, false, ◌||◌, List, [], ◌∷◌, ◌++◌, refl, sym, ◌∙◌, ap, subst, arith, suc}
use Rattle.std.specs.Prelude.{if◌then◌else◌}
use Rattle.std.specs.List.{count_by, list_any}
use Rattle.std.proofs.lemmas.List.Sums.{sum_by-cons}
use Rattle.fdp_base.specs.declared.config.DriveConfig.{DriveConfig}
use Rattle.fdp_base.specs.declared.entry.Entry.{Entry}
use Rattle.fdp_base.specs.declared.entry.Entry.TheVariants as entries
use Rattle.fdp_base.specs.Counts.{Rose}
use Rattle.fdp_base.specs.EntryKinds.{loses_unit, wears_group}
use Rattle.fdp_calls.specs.Calls.{counted_more}
use Rattle.fdp_calls.proofs.Made.{rose-more}
use Rattle.fdp_relocation.specs.fdp_book.Book.{BookSeen}
use Rattle.fdp_core.specs.Seen.{IsLegalOver}
use Rattle.fdp_flash.specs.FlashState.{FlashState}
use Rattle.fdp_loading.specs.fdp_ledger.declared.counts.Counts.{Counts}
use Rattle.fdp_loading.specs.fdp_ledger.Counted.{CountedSince}
use Rattle.fdp_loading.specs.fdp_ledger.Start.{start_of}
use Rattle.fdp_loading.specs.fdp_ledger.Told.{is_media_reply}
use Rattle.fdp_loading.specs.fdp_survival.Books.{IsInOrder}
use Rattle.fdp_roominess.specs.Capacity.{exceeds_capacity, tells_loss}
use Rattle.fdp_roominess.specs.Run.{BeganRoomy, WearsByFailure}
use Rattle.fdp_roominess.proofs.Capacity.{begun-clean}
use Rattle.fdp_rules.specs.History.{Found}
use Rattle.fdp_rules.specs.Legal.{IsLegal}

no : true ≡ false → ⊥
no e = cc

-- ---- entries that were counted

-- a kind of entry that is there is counted
some-counted : (p : Entry → Bool) (es : List Entry) → list_any p es ≡ true → (k : ℕ) × (count_by p es ≡ suc k)
some-counted p [] h = absurd (no (sym h))
some-counted p (x ∷ es) h = by (p x) refl (some-counted p es) where
  here : (b : Bool) → p x ≡ b → count_by p (x ∷ es) ≡ (if b then 1 else 0) + count_by p es
  here b e = sum_by-cons (λ y. if p y then 1 else 0) x es ∙ ap (λ (c : Bool). (if c then 1 else 0) + count_by p es) e

  by : (b : Bool) → p x ≡ b → (list_any p es ≡ true → (k : ℕ) × (count_by p es ≡ suc k)) → (k : ℕ) × (count_by p (x ∷ es) ≡ suc k)
  by true e rest = let first = here true e in (count_by p es, omega (arith, first))
  by false e rest =
      let later = rest (ap (λ (c : Bool). c || list_any p es) (sym e) ∙ h) in
      let same = here false e in
      (later.0, omega (arith, same, later.1))

-- where no fault was counted, there is no entry of a kind that tells of one
none-counted : (p : Entry → Bool) (handed now : ℕ) (es : List Entry) → counted_more handed (count_by p es) ≤ now → (Rose handed now → ⊥) → list_any p es ≡ false
none-counted p handed now es bound well = by (list_any p es) refl where
  by : (b : Bool) → list_any p es ≡ b → list_any p es ≡ false
  by false e = e
  by true e =
      let some = some-counted p es e in
      let reached : counted_more handed (suc some.0) ≤ now = subst (λ (n : ℕ). counted_more handed n ≤ now) some.1 bound in
      let rose = rose-more handed some.0 in
      absurd (well (omega (arith, reached, rose)))

neither : (p q : Entry → Bool) (es : List Entry) → list_any p es ≡ false → list_any q es ≡ false → list_any (λ e. p e || q e) es ≡ false
neither p q [] a b = refl
neither p q (x ∷ es) a b = by (p x) (q x) (list_any p es) (list_any q es) a b (neither p q es) where
  by : (u v r s : Bool) → (u || r) ≡ false → (v || s) ≡ false → (r ≡ false → s ≡ false → list_any (λ e. p e || q e) es ≡ false) → ((u || v) || list_any (λ e. p e || q e) es) ≡ false
  by true v r s a b rest = absurd (no a)
  by false true r s a b rest = absurd (no b)
  by false false r s a b rest = rest a b

-- ---- a run

-- one that began in order and with room, with one group, over a flash on which no call failed since it was handed in
module _ (handed : Counts) (f : FlashState) (old b : BookSeen) (order : IsInOrder old) (config : b.config ≡ old.config) (found : b.found ≡ old.found) (opening : (old.entries ≡ []) ⊎ (old.entries ≡ entries.Reopened ∷ [])) (more : List Entry) (goes_on : old.entries ++ more ≡ b.entries)
    (legal : IsLegalOver f b) (counted : CountedSince handed f (start_of b) b.entries) (worn : WearsByFailure handed.faults f.faults f.told b) (began : BeganRoomy f.told b) (well : Rose handed.faults f.faults → ⊥) where
  -- no unit was lost, and no group worn
  nothing-lost : list_any tells_loss b.entries ≡ false
  nothing-lost = neither loses_unit wears_group b.entries (none-counted loses_unit handed.faults f.faults b.entries counted.lost well) (unworn (list_any wears_group b.entries) refl) where
    unworn : (w : Bool) → list_any wears_group b.entries ≡ w → list_any wears_group b.entries ≡ false
    unworn true e = absurd (well (worn began e))
    unworn false e = e

  legal-now : IsLegal f.told old.config old.found (old.entries ++ more)
  legal-now =
      subst (λ (c : DriveConfig). IsLegal f.told c old.found (old.entries ++ more)) config
      (subst (λ (g : Found). IsLegal f.told b.config g (old.entries ++ more)) found
      (subst (IsLegal f.told b.config b.found) (sym goes_on)
      (legal (λ media. absurd (no (sym media ∙ none-counted is_media_reply handed.faults f.faults b.entries counted.media_replies well))))))

  pub unfailing-fits : b.config.groups ≡ 1 → list_any exceeds_capacity b.entries ≡ false
  unfailing-fits one =
      ap (list_any exceeds_capacity) (sym goes_on)
      ∙ begun-clean f.told old.config old.found order.known.config (ap (λ (c : DriveConfig). c.groups) (sym config) ∙ one) old.entries more opening order.known.orderly order.listed legal-now
      (ap (list_any tells_loss) goes_on ∙ nothing-lost)
