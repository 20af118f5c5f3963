-- What a history tells that relocation copied was put into units.
use Rattle.std.proofs.Common.{◌≡◌, ℕ, Bool, true, false, List, [], ◌∷◌, ◌++◌, refl, sym, ◌∙◌, ap, subst, eq-eqb}
use Rattle.std.specs.Prelude.{All, ◌||◌, IsTrue, fold}
use Rattle.std.specs.List.{list_any}
use Rattle.std.proofs.lemmas.List.{append_assoc, append-nil}
use Rattle.std.proofs.lemmas.List.Elements.{All-append, All-cons, All-nil, All-weaker}
use Rattle.std.proofs.lemmas.List.Folds.{list_any-append}
use Rattle.fdp_base.specs.declared.config.DriveConfig.{DriveConfig}
use Rattle.fdp_base.specs.declared.entry.Entry.{Entry}
use Rattle.fdp_base.specs.declared.entry.Entry.TheVariants as entries
use Rattle.fdp_base.specs.EntryKinds.{puts_into}
use Rattle.fdp_base.specs.Numbers.{with_at}
use Rattle.fdp_history.proofs.Tables.{with_at-each}
use Rattle.fdp_rules.specs.Point.{Copy, Trail}
use Rattle.fdp_rules.specs.Sites.{first_trail, group_of, trail_of, traced_by}

-- an entry put the page of a copy there
abbrev pub WasPut : List Entry → Copy → Type 0
WasPut es x = IsTrue (list_any (puts_into x.to.unit) es)

abbrev pub WerePut : List Entry → Trail → Type 0
WerePut es t = (rg : ℕ) → All (WasPut es) (t.copies rg)

put-first : (unit : ℕ) (es more : List Entry) → IsTrue (list_any (puts_into unit) es) → IsTrue (list_any (puts_into unit) (es ++ more))
put-first unit es more put = list_any-append (puts_into unit) es more ∙ ap (λ (b : Bool). b || list_any (puts_into unit) more) put

put-last : (unit : ℕ) (es : List Entry) (e : Entry) → IsTrue (puts_into unit e) → IsTrue (list_any (puts_into unit) (es ++ e ∷ []))
put-last unit es e put = list_any-append (puts_into unit) es (e ∷ []) ∙ ap (λ (b : Bool). list_any (puts_into unit) es || (b || false)) put ∙ either (list_any (puts_into unit) es) where
  either : (b : Bool) → (b || true) ≡ true
  either true = refl
  either false = refl

module _ (c : DriveConfig) (es : List Entry) (t : Trail) (h : WerePut es t) where
  more : (e : Entry) (rg : ℕ) → All (WasPut (es ++ e ∷ [])) (t.copies rg)
  more e rg = All-weaker (WasPut es) (WasPut (es ++ e ∷ [])) (λ x put. put-first x.to.unit es (e ∷ []) put) (t.copies rg) (h rg)

  ended : (e : Entry) (rg : ℕ) → (k : ℕ) → All (WasPut (es ++ e ∷ [])) (with_at t.copies rg [] k)
  ended e rg = with_at-each t.copies rg [] (λ k xs. All (WasPut (es ++ e ∷ [])) xs) (All-nil (WasPut (es ++ e ∷ []))) (λ k ne. more e k)

  were-next : (e : Entry) → WerePut (es ++ e ∷ []) (traced_by c t e)
  unfolding traced_by
  were-next (entries.Host x) = more (entries.Host x)
  were-next (entries.Started x) = more (entries.Started x)
  were-next (entries.Placed x) = more (entries.Placed x)
  were-next (entries.Copied x) =
      with_at-each t.copies (group_of c x.from.unit) _ (λ k xs. All (WasPut (es ++ entries.Copied x ∷ [])) xs)
      (All-append (WasPut (es ++ entries.Copied x ∷ [])) (t.copies (group_of c x.from.unit)) _ (more (entries.Copied x) (group_of c x.from.unit))
      (All-cons (WasPut (es ++ entries.Copied x ∷ [])) _ [] (put-last x.to.unit es (entries.Copied x) (eq-eqb x.to.unit x.to.unit refl)) (All-nil (WasPut (es ++ entries.Copied x ∷ [])))))
      (λ k ne. more (entries.Copied x) k)
  were-next (entries.Moved x) = ended (entries.Moved x) x.rg
  were-next (entries.Erased x) = ended (entries.Erased x) (group_of c x.unit)
  were-next (entries.Retired x) = ended (entries.Retired x) (group_of c x.unit)
  were-next (entries.Aside x) = ended (entries.Aside x) (group_of c x.unit)
  were-next (entries.Shut x) = more (entries.Shut x)
  were-next (entries.Worn x) = ended (entries.Worn x) x.rg
  were-next entries.Reopened = more entries.Reopened

were-put : (c : DriveConfig) (before es : List Entry) (t : Trail) → WerePut before t → WerePut (before ++ es) (fold (traced_by c) t es)
were-put c before [] t h = subst (λ (xs : List Entry). WerePut xs t) (sym (append-nil before)) h
were-put c before (e ∷ es) t h = subst (λ (xs : List Entry). WerePut xs (fold (traced_by c) (traced_by c t e) es)) (append_assoc before (e ∷ []) es) (were-put c (before ++ e ∷ []) es (traced_by c t e) (were-next c before t h e))

-- each copy of a run was put by an entry of it
pub copies-put : (c : DriveConfig) (es : List Entry) → WerePut es (trail_of c es)
unfolding trail_of
copies-put c es = were-put c [] es first_trail (λ rg. All-nil (WasPut []))
