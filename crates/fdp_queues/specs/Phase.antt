-- The phase tag of a completion queue.
use Rattle.std.specs.Prelude.{ℕ, ◌/◌, ◌%◌, Bool, ◌==◌}

-- the tag of the completion that comes after so many, in a ring of so many slots: it starts at 1 and inverts on each wrap
abbrev pub phase_tag : ℕ → ℕ → Bool
phase_tag depth posts = posts / depth % 2 == 0
