-- A write with an invalid placement identifier, and what is printed of it.
use Rattle.std.specs.Prelude.{ℕ, true, false, [], ◌∷◌, List, codes}
use Rattle.fdp_base.specs.declared.command.Command.TheVariants as commands
use Rattle.fdp_base.specs.declared.entry.Entry.{Entry}
use Rattle.fdp_base.specs.declared.entry.Entry.TheVariants as entries
use Rattle.fdp_worked.specs.Words.{done, lines, write_to}

-- events of kind 03h are kept for placement handle 0, which is handle 2; then a write names placement handle 2 of group 1, and
-- there is none: it goes to handle 2 in group 0
abbrev pub entries_of_invalid_identifier : List Entry
entries_of_invalid_identifier =
    done 0 (commands.SetEvents (record { nsid = 1; handle = 0; enable = true; types = 3 ∷ [] }))
    ∷ entries.Started (record { queue = 1; number = 1; command = write_to 0x8002 0 1 1; rg = 0; ruh = 2; pid_valid = false })
    ∷ entries.Placed (record { ticket = 2; index = 0; unit = 0; page = 0 })
    ∷ done 1 (write_to 0x8002 0 1 1)
    ∷ []

abbrev pub text_of_invalid_identifier : List ℕ
text_of_invalid_identifier = lines (
    codes "queue 1"
    ∷ codes "0 set-events 0/00 00000000"
    ∷ codes "1 write 0/00 00000000"
    ∷ codes "stats 512 512 0"
    ∷ codes "ruh 0 1"
    ∷ codes "ruh 1 0"
    ∷ codes "ruh 2 1"
    ∷ codes "event host 03 07 8002 4 1 0 0 0 2"
    ∷ [])
