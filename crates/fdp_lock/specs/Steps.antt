-- What each step tells the seat that makes it.
use Rattle.std.specs.Prelude.{◌≡◌, ◌≢◌, ℕ, ◌+◌, ◌-◌, List, [], ◌∷◌, ◌++◌, length, drop, map, Option, Some, None}
use mathlib.Core.List.{IsPrefix}
use Rattle.atomic_table.specs.Table.{Me, Step}
use Rattle.fdp_base.specs.declared.recorded.Mark.{Mark}
use Rattle.fdp_base.specs.Records.{carrying, longer}
use Rattle.fdp_lock.specs.declared.view.View.{View}
use Rattle.fdp_lock.specs.declared.view.Stage.TheVariants.{Idle, Holding}
use Rattle.fdp_lock.specs.Rule.{AllMade}

abbrev pub Place : Type 0 → Type 0 → Type 0 → Type 0
Place S O I = Me (Option S) (View O I)

-- the new entries under their numbers
abbrev pub adds : {I : Type 0} → (I → Mark) → List I → List (ℕ × List I) → List (ℕ × List I)
adds mark new ms = map (λ m. (m.0, m.1 ++ carrying mark m.0 new)) ms

module _ {O I : Type 0} where
  abbrev pub holding : List I → View O I → View O I
  holding log v = record v { stage = Holding; seen = log }

  abbrev pub telling : (I → Mark) → List I → View O I → View O I
  telling mark log v = record v { seen = log; made = adds mark (drop (length v.seen) log) v.made }

  abbrev pub resting : View O I → View O I
  resting v = record v { stage = Idle }

  abbrev pub naming : ℕ → View O I → View O I
  naming q v = record v { next = q }

  abbrev pub learning : View O I → View O I
  learning v = record v { seen = longer v.seen v.told; told = [] }

  -- a seat gives one part and the number that it named
  abbrev pub giver : View O I → View O I
  giver v = record v { parts = v.parts - 1; given = v.next }

  abbrev pub newcomer : View O I → View O I
  newcomer v = record { stage = Idle; parts = 1; given = 0; next = 0; origin = v.origin; seen = v.seen; told = []; made = (v.next, []) ∷ [] }

  -- what a seat tells another
  abbrev pub note : View O I → View O I
  note v = record { stage = Idle; parts = 0; given = 0; next = 0; origin = None; seen = v.seen; told = []; made = [] }

  abbrev pub spent : View O I
  spent = record { stage = Idle; parts = 0; given = 0; next = 0; origin = None; seen = []; told = []; made = [] }

  abbrev pub joined : View O I → View O I → View O I
  joined v w = record v { parts = v.parts + w.parts; given = v.given + w.given; told = w.seen; made = w.made ++ v.made }

-- the value goes on from all that was seen, and has of each number just the entries that were made
pub record Finds {S O I : Type 0} (origin : S → O) (entries : S → List I) (mark : I → Mark) (x : S) (v : View O I) : Type 0 where
  pub seen : IsPrefix v.seen (entries x)
  pub made : AllMade mark (entries x) v.made
  pub origin_is : v.origin ≡ Some (origin x)

-- of each step: the seat before, the number found and the seat after
module _ {S O I : Type 0} where
  -- the value was at home, and the seat has it; or it was out
  abbrev pub Takes : (S → O) → (S → List I) → (I → Mark) → Step (Option S) → Place S O I → ℕ → Place S O I → Type 0
  Takes origin entries mark st m r n = (r ≡ 0 → (x : S) × (n ≡ (holding (entries x) m.0, (0, Some x) ∷ m.1)) × Finds origin entries mark x m.0) × (r ≢ 0 → n ≡ m)

  abbrev pub Gives : (S → List I) → (I → Mark) → Step (Option S) → Place S O I → ℕ → Place S O I → Type 0
  Gives entries mark st m r n = (x : S) → m.1 ≡ (0, Some x) ∷ [] → n ≡ (resting (telling mark (entries x) m.0), [])

  abbrev pub Names : Step (Option S) → Place S O I → ℕ → Place S O I → Type 0
  Names st m r n = n ≡ (naming st.first m.0, m.1)

  abbrev pub Learns : Step (Option S) → Place S O I → ℕ → Place S O I → Type 0
  Learns st m r n = (n ≡ (learning m.0, m.1)) × IsPrefix m.0.seen (longer m.0.seen m.0.told) × IsPrefix m.0.told (longer m.0.seen m.0.told)
