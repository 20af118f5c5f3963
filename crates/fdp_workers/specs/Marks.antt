-- A history as a record: each entry with its mark.
use Rattle.std.specs.Prelude.{List, [], ◌∷◌, ◌++◌, length}
use Rattle.fdp_base.specs.declared.entry.Entry.{Entry}
use Rattle.fdp_base.specs.declared.recorded.Mark.{Mark}
use Rattle.fdp_base.specs.declared.recorded.Snapshot.{Snapshot}
use Rattle.fdp_rules.specs.History.{Found}
use Rattle.fdp_rules.specs.Seats.{mark_of}
use Rattle.fdp_rules.specs.Totals.{erases, host_blocks, media_blocks}

-- entries that follow these, each with its mark, which looks at those before it alone
unfoldable pub marked_after : Found → List Entry → List Entry → List (Entry × Mark)
marked_after f before [] = []
marked_after f before (e ∷ es) = (e, mark_of f before e) ∷ marked_after f (before ++ e ∷ []) es

-- the entries of a history with their marks
abbrev pub marked_of : Found → List Entry → List (Entry × Mark)
marked_of f es = marked_after f [] es

-- the entry of an item, and its mark
abbrev pub entry_in : Entry × Mark → Entry
entry_in x = x.0

abbrev pub mark_in : Entry × Mark → Mark
mark_in x = x.1

-- the length of a history, the blocks of its applied writes, its pages that were placed or copied, and its units that were erased
abbrev pub counts_of : List Entry → Snapshot
counts_of es = record { length = length es; host_blocks = host_blocks es; media_blocks = media_blocks es; erases = erases es }
