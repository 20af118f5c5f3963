-- What contracts say of a seat and of its lock.
use Rattle.std.specs.Prelude.{◌≡◌, ◌≢◌, ℕ, List, [], ◌∷◌, Some, None}
use mathlib.Core.List.{IsPrefix}
use Rattle.fdp_base.specs.declared.recorded.Mark.{Mark}
use Rattle.fdp_base.specs.Records.{carrying}
use Rattle.fdp_lock.specs.declared.lock.GroupLock.{GroupLock}
use Rattle.fdp_lock.specs.declared.seat.Seat.{Seat}
use Rattle.fdp_lock.specs.declared.view.Stage.TheVariants.{Idle, Holding}
use Rattle.fdp_lock.specs.Rule.{own}

module _ {S O I : Type 0} {g : _} where
  -- how many turns the seat has had
  abbrev pub turns_of : Seat S O I g → ℕ
  turns_of s = s.turns

  abbrev pub number_of : Seat S O I g → ℕ
  number_of s = s.number

  abbrev pub parts_of : Seat S O I g → ℕ
  parts_of s = s.parts

  -- the number that the seat gave last, or 0
  abbrev pub given_of : Seat S O I g → ℕ
  given_of s = s.given

  -- the entries that the seat has seen
  abbrev pub seen_of : Seat S O I g → List I
  seen_of s = s.token.me.0.seen

  -- the entries with its number that it made
  abbrev pub made_of : Seat S O I g → List I
  made_of s = own s.token.me.0.made

  -- the value of the seat's lock has this origin
  abbrev pub HasOrigin : Seat S O I g → O → Type 0
  HasOrigin s o = s.token.me.0.origin ≡ Some o

  abbrev pub HoldsNoTurn : Seat S O I g → Type 0
  HoldsNoTurn s = (s.token.me.0.stage ≡ Idle) × (s.token.me.1 ≡ [])

  abbrev pub HoldsTurn : Seat S O I g → Type 0
  HoldsTurn s = (s.token.me.0.stage ≡ Holding) × (s.token.me.1 ≡ (0, None) ∷ [])

-- how many parts the seats of the lock have together
abbrev pub seats_of : {S O I : Type 0} → GroupLock S O I → ℕ
seats_of lock = lock.table.shared.key.seats

-- the origin of the value that the lock was made with
abbrev pub lock_origin : {S O I : Type 0} → (S → O) → GroupLock S O I → O
lock_origin origin lock = origin lock.table.shared.key.value.value

-- the seat is one of the lock
abbrev pub IsSeatOf : {S O I : Type 0} {g : _} → (S → O) → GroupLock S O I → Seat S O I g → Type 0
IsSeatOf origin lock s = (s.token.table_id ≡ lock.table.shared.table_id) × HasOrigin s (lock_origin origin lock)

-- the value goes on from all that the seat has seen, and has of its number just the entries that it made
pub record GoesOn {S O I : Type 0} {g : _} (origin : S → O) (entries : S → List I) (mark : I → Mark) (seat : Seat S O I g) (value : S) : Type 0 where
  pub origin_is : HasOrigin seat (origin value)
  pub seen : IsPrefix (seen_of seat) (entries value)
  pub made : number_of seat ≢ 0 → carrying mark (number_of seat) (entries value) ≡ made_of seat

-- the first seat of a new lock
pub record IsFirst {S O I : Type 0} {g : _} (origin : S → O) (entries : S → List I) (lock : GroupLock S O I) (value : S) (seats : ℕ) (s : Seat S O I g) : Type 0 where
  pub of_lock : IsSeatOf origin lock s
  pub origin_is : HasOrigin s (origin value)
  pub number : number_of s ≡ 0
  pub parts : parts_of s ≡ seats
  pub turns : turns_of s ≡ 0
  pub given : given_of s ≡ 0
  pub seen : seen_of s ≡ entries value
  pub made : made_of s ≡ []
  pub no_turn : HoldsNoTurn s

-- the seat has the same lock, origin, number, parts and last number given
pub record KeepsPlace {S O I : Type 0} {g : _} (old new : Seat S O I g) : Type 0 where
  pub lock : new.token.table_id ≡ old.token.table_id
  pub origin_is : new.token.me.0.origin ≡ old.token.me.0.origin
  pub number : number_of new ≡ number_of old
  pub parts : parts_of new ≡ parts_of old
  pub given : given_of new ≡ given_of old

-- a new seat with a number, which has seen what another has
pub record IsNew {S O I : Type 0} {g : _} (origin : S → O) (lock : GroupLock S O I) (number : ℕ) (giver s : Seat S O I g) : Type 0 where
  pub of_lock : IsSeatOf origin lock s
  pub number_is : number_of s ≡ number
  pub parts : parts_of s ≡ 1
  pub turns : turns_of s ≡ 0
  pub given : given_of s ≡ 0
  pub seen : seen_of s ≡ seen_of giver
  pub made : made_of s ≡ []
  pub no_turn : HoldsNoTurn s

-- the seat has the same lock, origin, number, turns and entries, and still holds no turn
pub record IsUnchanged {S O I : Type 0} {g : _} (old new : Seat S O I g) : Type 0 where
  pub lock : new.token.table_id ≡ old.token.table_id
  pub origin_is : new.token.me.0.origin ≡ old.token.me.0.origin
  pub number : number_of new ≡ number_of old
  pub turns : turns_of new ≡ turns_of old
  pub seen : seen_of new ≡ seen_of old
  pub made : made_of new ≡ made_of old
  pub no_turn : HoldsNoTurn new
