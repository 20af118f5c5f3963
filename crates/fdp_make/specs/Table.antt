-- The table of last writes: the contracts of the summary's private steps cite it, and no public one does.
use Rattle.std.specs.Prelude.{◌≡◌, ℕ, List, Option, option_map}
use Rattle.std.specs.Ordering.{nat_cmp, ordering_then}
use Rattle.std.specs.declared.cmp.Ordering.{Ordering}
use Rattle.std.specs.BTreeMap.{BTreeMap, get}
use Rattle.fdp_base.specs.declared.command.Write.{Write}
use Rattle.fdp_base.specs.declared.entry.Entry.{Entry}
use Rattle.fdp_make.specs.Summary.{last_write}
use Rattle.std.specs.Borrow.{Bor}

-- an address, a namespace and a queue
abbrev pub TablePlace : Type 0
TablePlace = ℕ × ℕ × ℕ

-- the order of places
abbrev pub place_cmp : TablePlace → TablePlace → Ordering
place_cmp a b = ordering_then (ordering_then (nat_cmp a.0 b.0) (nat_cmp a.1 b.1)) (nat_cmp a.2 b.2)

-- the write that a table has for a place
abbrev pub write_for : BTreeMap TablePlace (Bor Write) → ℕ → ℕ → ℕ → Option Write
write_for table queue nsid lba = option_map (λ w. w.now) (get place_cmp table (lba, nsid, queue))

-- the table has the last applied write of each queue to each block, and no other
abbrev pub Tells : BTreeMap TablePlace (Bor Write) → List Entry → Type 0
Tells table es = (queue nsid lba : ℕ) → write_for table queue nsid lba ≡ last_write queue nsid lba es
