-- What further entries leave of the generation in force, and what they tell of units.
use Rattle.std.proofs.Common.{◌≡◌, ◌⊎◌, ℕ, Bool, true, false, ◌||◌, List, [], ◌∷◌, ◌++◌, refl, sym, ◌∙◌, ap, subst, inl, inr}
use Rattle.std.specs.Prelude.{◌&&◌, IsTrue, if◌then◌else◌}
use Rattle.std.specs.List.{list_any}
use Rattle.std.proofs.lemmas.List.Folds.{list_any-append}
use Rattle.fdp_base.specs.declared.command.Command.{Command}
use Rattle.fdp_base.specs.declared.config.DriveConfig.{DriveConfig}
use Rattle.fdp_base.specs.declared.entry.Entry.{Entry}
use Rattle.fdp_base.specs.declared.entry.Entry.TheVariants as entries
use Rattle.fdp_base.specs.declared.entry.Reply.{Reply}
use Rattle.fdp_base.specs.CommandKinds.{is_write}
use Rattle.fdp_book.specs.Book.{BookSeen, IsLonger, point_in, state_in}
use Rattle.fdp_base.specs.EntryKinds.{empties, puts_into}
use Rattle.fdp_history.specs.Orderly.{IsOrderly}
use Rattle.fdp_history.proofs.Effects.{fewer-going}
use Rattle.fdp_isolation.specs.Isolated.{before_erase, sets_placement, since_setting}
use Rattle.fdp_book.proofs.fdp_locations.Grouped.{generation-next}
use Rattle.fdp_pointers.specs.Facts.{HasOnlyPlaced}
use Rattle.fdp_pointers.proofs.Unplaced.{only-placed-next}
use Rattle.fdp_rules.specs.Change.{after, changed_by}
use Rattle.fdp_rules.specs.Next.{next}
use Rattle.fdp_rules.specs.Point.{Point}
use Rattle.fdp_rules.specs.Sites.{traced_by}
use Rattle.fdp_rules.specs.Step.{Follows}
use Rattle.fdp_book.proofs.Longer.{point-none, point-one}

pub no : true ≡ false → ⊥
no e = cc

pub and-false : (b : Bool) → (b && false) ≡ false
and-false true = refl
and-false false = refl

-- ---- the entries since another configuration came in force

-- no entry of these puts another configuration in force
abbrev pub AreQuiet : List Entry → Type 0
AreQuiet es = list_any sets_placement es ≡ false

since-quiet : (es : List Entry) → AreQuiet es → since_setting es ≡ es
unfolding since_setting
since-quiet [] quiet = refl
since-quiet (e ∷ es) quiet = ap (λ (b : Bool). if b then since_setting es else e ∷ es) quiet

-- further ones that put none in force stand behind those since
pub since-more : (es more : List Entry) → AreQuiet more → since_setting (es ++ more) ≡ since_setting es ++ more
unfolding since_setting
since-more [] more quiet = since-quiet more quiet
since-more (e ∷ es) more quiet =
    let same : list_any sets_placement ((e ∷ es) ++ more) ≡ list_any sets_placement (e ∷ es) =
    list_any-append sets_placement (e ∷ es) more ∙ ap (λ (b : Bool). list_any sets_placement (e ∷ es) || b) quiet ∙ or-false (list_any sets_placement (e ∷ es)) in
    ap (λ (b : Bool). if b then since_setting (es ++ more) else e ∷ es ++ more) same ∙ cases (since-more es more quiet) (list_any sets_placement (e ∷ es)) where
      or-false : (b : Bool) → (b || false) ≡ b
      or-false true = refl
      or-false false = refl

      cases : since_setting (es ++ more) ≡ since_setting es ++ more → (b : Bool) → (if b then since_setting (es ++ more) else e ∷ es ++ more) ≡ (if b then since_setting es else e ∷ es) ++ more
      cases rest true = rest
      cases rest false = refl

pub or-true : (a b : Bool) → b ≡ true → (a || b) ≡ true
or-true true b e = refl
or-true false b e = e

-- behind an entry that puts one in force there are none
pub since-set : (es : List Entry) (e : Entry) → sets_placement e ≡ true → since_setting (es ++ e ∷ []) ≡ []
unfolding since_setting
since-set [] e set = ap (λ (b : Bool). if b || false then [] else e ∷ []) set
since-set (x ∷ xs) e set =
    let some : list_any sets_placement ((x ∷ xs) ++ e ∷ []) ≡ true =
    list_any-append sets_placement (x ∷ xs) (e ∷ []) ∙ or-true (list_any sets_placement (x ∷ xs)) (list_any sets_placement (e ∷ [])) (ap (λ (b : Bool). b || false) set) in
    ap (λ (b : Bool). if b then since_setting (xs ++ e ∷ []) else x ∷ xs ++ e ∷ []) some ∙ since-set xs e set

-- ---- a book with further entries

pub since-longer : (old new : BookSeen) (es : List Entry) → IsLonger old new es → AreQuiet es → since_setting new.entries ≡ since_setting old.entries ++ es
since-longer old new es h quiet = ap since_setting h.entries_are ∙ since-more old.entries es quiet

-- ---- what entries tell of a unit

pub put-before : (unit : ℕ) (es more : List Entry) → list_any (puts_into unit) more ≡ false → IsTrue (list_any (puts_into unit) (es ++ more)) → IsTrue (list_any (puts_into unit) es)
put-before unit es more none put = cases (list_any (puts_into unit) es) (sym (list_any-append (puts_into unit) es more ∙ ap (λ (b : Bool). list_any (puts_into unit) es || b) none) ∙ put) where
  cases : (b : Bool) → (b || false) ≡ true → b ≡ true
  cases true e = refl
  cases false e = absurd (no (sym e))

-- an entry since is one of the run
pub put-whole : (unit : ℕ) (es : List Entry) → IsTrue (list_any (puts_into unit) (since_setting es)) → IsTrue (list_any (puts_into unit) es)
unfolding since_setting
put-whole unit [] put = put
put-whole unit (e ∷ es) put = cases (put-whole unit es) (list_any sets_placement (e ∷ es)) put where
  behind : (b : Bool) → list_any (puts_into unit) es ≡ true → (b || list_any (puts_into unit) es) ≡ true
  behind true some = refl
  behind false some = some

  cases : (IsTrue (list_any (puts_into unit) (since_setting es)) → IsTrue (list_any (puts_into unit) es)) → (b : Bool) → list_any (puts_into unit) (if b then since_setting es else e ∷ es) ≡ true → list_any (puts_into unit) (e ∷ es) ≡ true
  cases rest true since = behind (puts_into unit e) (rest since)
  cases rest false all = all

pub put-cases : (unit : ℕ) (es : List Entry) (e : Entry) → IsTrue (list_any (puts_into unit) (es ++ e ∷ [])) → IsTrue (list_any (puts_into unit) es) ⊎ IsTrue (puts_into unit e)
put-cases unit es e put = cases (list_any (puts_into unit) es) (puts_into unit e) (sym (list_any-append (puts_into unit) es (e ∷ [])) ∙ put) where
  cases : (a b : Bool) → (a || (b || false)) ≡ true → (a ≡ true) ⊎ (b ≡ true)
  cases true b h = inl refl
  cases false true h = inr refl
  cases false false h = absurd (no (sym h))

pub emptied-before : (unit : ℕ) (es more : List Entry) → list_any (empties unit) (es ++ more) ≡ false → list_any (empties unit) es ≡ false
emptied-before unit es more none = cases (list_any (empties unit) es) (sym (list_any-append (empties unit) es more) ∙ none) where
  cases : (b : Bool) → (b || list_any (empties unit) more) ≡ false → b ≡ false
  cases true e = absurd (no e)
  cases false e = refl

-- the entries before the erase of a unit, with further ones: of a unit that was not erased, and of one that was
pub before-none : (unit : ℕ) (es more : List Entry) → list_any (empties unit) es ≡ false → before_erase unit (es ++ more) ≡ es ++ before_erase unit more
unfolding before_erase
before-none unit [] more none = refl
before-none unit (e ∷ es) more none = step (before-none unit es more) (empties unit e) refl where
  step : (list_any (empties unit) es ≡ false → before_erase unit (es ++ more) ≡ es ++ before_erase unit more) → (b : Bool) → empties unit e ≡ b → (if empties unit e then [] else e ∷ before_erase unit (es ++ more)) ≡ e ∷ es ++ before_erase unit more
  step rest true is = absurd (no (sym (ap (λ (b : Bool). b || list_any (empties unit) es) is) ∙ none))
  step rest false is =
      ap (λ (b : Bool). if b then [] else e ∷ before_erase unit (es ++ more)) is
      ∙ ap (λ (xs : List Entry). e ∷ xs) (rest (sym (ap (λ (b : Bool). b || list_any (empties unit) es) is) ∙ none))

pub before-some : (unit : ℕ) (es more : List Entry) → list_any (empties unit) es ≡ true → before_erase unit (es ++ more) ≡ before_erase unit es
unfolding before_erase
before-some unit [] more some = absurd (no (sym some))
before-some unit (e ∷ es) more some = step (before-some unit es more) (empties unit e) refl where
  step : (list_any (empties unit) es ≡ true → before_erase unit (es ++ more) ≡ before_erase unit es) → (b : Bool) → empties unit e ≡ b → (if empties unit e then [] else e ∷ before_erase unit (es ++ more)) ≡ (if empties unit e then [] else e ∷ before_erase unit es)
  step rest true is = ap (λ (b : Bool). if b then [] else e ∷ before_erase unit (es ++ more)) is ∙ sym (ap (λ (b : Bool). if b then [] else e ∷ before_erase unit es) is)
  step rest false is =
      ap (λ (b : Bool). if b then [] else e ∷ before_erase unit (es ++ more)) is
      ∙ ap (λ (xs : List Entry). e ∷ xs) (rest (sym (ap (λ (b : Bool). b || list_any (empties unit) es) is) ∙ some))
      ∙ sym (ap (λ (b : Bool). if b then [] else e ∷ before_erase unit es) is)

-- ---- pages of going writes

-- after the end of a command, whatever it answers, each page of a going write that stands somewhere was placed
pub only-placed-host : (c : DriveConfig) (p : Point) (queue number : ℕ) (command : Command) (reply : Reply) (moment : ℕ) → HasOnlyPlaced p → HasOnlyPlaced (next c p (entries.Host (record { queue = queue; number = number; command = command; reply = reply; moment = moment })))
unfolding next after changed_by traced_by
only-placed-host c p queue number command reply moment h = λ k i g spot going site. h k i g spot (fewer-going p.state queue (is_write command) k g going) site

-- ---- a step

-- these entries put no other configuration in force, and leave the generation; each page of a going write that stands was placed
pub record IsQuietStep (old new : BookSeen) (es : List Entry) : Type 0 where
  pub longer : IsLonger old new es
  pub quiet : AreQuiet es
  pub generation : (state_in new).generation ≡ (state_in old).generation
  pub placed : HasOnlyPlaced (point_in new)

pub quiet-none : (old new : BookSeen) → IsLonger old new [] → HasOnlyPlaced (point_in old) → IsQuietStep old new []
quiet-none old new longer placed = record {
  longer = longer;
  quiet = refl;
  generation = ap (λ (p : Point). p.state.generation) (point-none old new longer);
  placed = subst HasOnlyPlaced (sym (point-none old new longer)) placed;
}

pub quiet-one : (told : Bool) (old new : BookSeen) (e : Entry) → IsLonger old new (e ∷ []) → sets_placement e ≡ false → IsOrderly old.config (point_in old) → Follows told old.config (point_in old) e → HasOnlyPlaced (point_in old) → IsQuietStep old new (e ∷ [])
quiet-one told old new e longer none orderly follows placed = record {
  longer = longer;
  quiet = ap (λ (b : Bool). b || false) none;
  generation = ap (λ (p : Point). p.state.generation) (point-one old new e longer) ∙ generation-next old.config (point_in old) e none;
  placed = subst HasOnlyPlaced (sym (point-one old new e longer)) (only-placed-next told old.config (point_in old) e orderly follows placed);
}
