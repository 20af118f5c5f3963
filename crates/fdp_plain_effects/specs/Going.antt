-- The page that is counted of a going write.
use Rattle.std.specs.Prelude.{◌≡◌, ℕ, ◌+◌, ◌*◌, ◌^◌, ◌<◌, ◌==◌, Option, length, if◌then◌else◌, option_map}
use Rattle.std.specs.Option.{IfSome}
use Rattle.fdp_rules.specs.PlainState.{Going}
use Rattle.fdp_tables.specs.declared.state.Kept.{Kept}
use Rattle.fdp_tables.specs.declared.state.KeptGoing.{KeptGoing}

-- a page more of the write with this ticket
abbrev pub counted_one : ℕ → KeptGoing → KeptGoing
counted_one ticket g = record g { placed = if g.ticket == ticket then g.placed + 1 else g.placed }

abbrev pub counted : ℕ → Option KeptGoing → Option KeptGoing
counted ticket going = option_map (counted_one ticket) going

-- a page more of the write with this ticket can be counted in 32 bits
abbrev pub HasRoomFor : ℕ → Option KeptGoing → Type 0
HasRoomFor ticket going = IfSome going (λ g. g.ticket ≡ ticket → g.placed + 1 < 2 ^ 32)

-- the handle and the group of a going write have a row among the references
abbrev pub IsHandlePlace : Kept → Going → Type 0
IsHandlePlace k g = (g.ruh < 16) × (16 * g.rg + g.ruh < length k.references.items)
