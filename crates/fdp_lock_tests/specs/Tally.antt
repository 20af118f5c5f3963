-- A list of numbers as a record.
use Rattle.std.specs.Prelude.{◌≡◌, ℕ, List}
use Rattle.fdp_base.specs.declared.recorded.Mark.{Mark}
use Rattle.fdp_lock.specs.declared.lock.GroupLock.{GroupLock}
use Rattle.fdp_lock.specs.declared.seat.Seat.{Seat}
use Rattle.fdp_lock.specs.Seats.{turns_of, number_of, parts_of, HoldsNoTurn, IsSeatOf}
use Rattle.fdp_lock_tests.specs.declared.tally.Tally.{Tally}

-- the name of a tally
abbrev pub name_of : Tally → ℕ
name_of t = t.name

-- its numbers, in order
abbrev pub numbers_of : Tally → List ℕ
numbers_of t = t.numbers.items

-- a number is the mark of its own seat
abbrev pub mark_of : ℕ → Mark
mark_of n = record { number = n; host_blocks = 0; media_blocks = 0; erases = 0 }

-- a seat of the lock that has had no turn
abbrev pub IsFresh : {g : _} → GroupLock Tally ℕ ℕ → Seat Tally ℕ ℕ g → Type 0
IsFresh lock s = IsSeatOf name_of lock s × HoldsNoTurn s × (turns_of s ≡ 0)

-- the seat after its turns
pub record IsBack {g : _} (lock : GroupLock Tally ℕ ℕ) (old new : Seat Tally ℕ ℕ g) : Type 0 where
  pub of_lock : IsSeatOf name_of lock new
  pub no_turn : HoldsNoTurn new
  pub number : number_of new ≡ number_of old
  pub parts : parts_of new ≡ parts_of old
