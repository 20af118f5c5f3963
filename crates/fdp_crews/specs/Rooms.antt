-- The memory that is taken before a lock is made, and the first seat while it gives parts to others.
use Rattle.std.specs.Prelude.{◌≡◌, ℕ, ◌+◌, ◌≤◌, List, [], vec_capacity}
use Rattle.fdp_lock.specs.declared.lock.GroupLock.{GroupLock}
use Rattle.fdp_lock.specs.declared.seat.Seat.{Seat}
use Rattle.fdp_lock.specs.Seats.{number_of, parts_of, given_of, seen_of, HoldsNoTurn, IsSeatOf}
use Rattle.fdp_crews.specs.declared.rooms.Rooms.{Rooms}

module _ {S O I : Type 0} {g : _} where
  -- empty lists with room for so many hosts and collectors
  pub record HasRooms (hosts collectors : ℕ) (r : Rooms S O I g) : Type 0 where
    pub workers : r.workers.items ≡ []
    pub sweepers : r.sweepers.items ≡ []
    pub seats : r.seats.items ≡ []
    pub receipts : r.receipts.items ≡ []
    pub room_for_workers : hosts ≤ vec_capacity r.workers
    pub room_for_sweepers : collectors ≤ vec_capacity r.sweepers
    pub room_for_seats : hosts + collectors + 1 ≤ vec_capacity r.seats
    pub room_for_receipts : hosts ≤ vec_capacity r.receipts

  -- the first seat of a lock, which has these entries seen, this many parts left, and gave no number above this
  pub record IsHead (origin : S → O) (lock : GroupLock S O I) (seen : List I) (given parts : ℕ) (s : Seat S O I g) : Type 0 where
    pub of_lock : IsSeatOf origin lock s
    pub no_turn : HoldsNoTurn s
    pub number_is : number_of s ≡ 0
    pub parts_are : parts_of s ≡ parts
    pub given_is : given_of s ≤ given
    pub seen_is : seen_of s ≡ seen
