-- Updates, of which only the one that closes a partly written unit makes an event, and what is printed of them.
use Rattle.std.specs.Prelude.{ℕ, ◌+◌, true, [], ◌∷◌, ◌++◌, List, codes, replicate}
use Rattle.fdp_base.specs.declared.command.Command.{Command}
use Rattle.fdp_base.specs.declared.command.Command.TheVariants as commands
use Rattle.fdp_base.specs.declared.entry.Entry.{Entry}
use Rattle.fdp_base.specs.declared.entry.Entry.TheVariants as entries
use Rattle.fdp_worked.specs.Words.{done, lines, told, write}

-- an update of placement identifier 0
abbrev pub update : Command
update = commands.Update (record { nsid = 1; mo = 1; pids = 0 ∷ [] })

-- four blocks of a write with this ticket are placed from a page on
abbrev pub four_pages : ℕ → ℕ → ℕ → List Entry
four_pages ticket unit page =
    entries.Placed (record { ticket = ticket; index = 0; unit = unit; page = page }) ∷ entries.Placed (record { ticket = ticket; index = 1; unit = unit; page = page + 1 }) ∷ entries.Placed (record { ticket = ticket; index = 2; unit = unit; page = page + 2 }) ∷ entries.Placed (record { ticket = ticket; index = 3; unit = unit; page = page + 3 }) ∷ []

-- one descriptor: placement identifier 0, handle 0, and 8 blocks that may still be written
abbrev pub handle_status_of_one : List ℕ
handle_status_of_one = replicate 14 0 ++ 1 ∷ 0 ∷ replicate 8 0 ++ 8 ∷ replicate 7 0 ++ replicate 16 0

-- events of kind 00h are kept; an update before any write; three blocks, and an update that closes their unit; a whole unit, and
-- an update that closes nothing
abbrev pub entries_of_closed_units : List Entry
entries_of_closed_units =
    done 0 (commands.SetEvents (record { nsid = 1; handle = 0; enable = true; types = 0 ∷ [] }))
    ∷ done 1 update
    ∷ entries.Started (record { queue = 1; number = 2; command = write 0 3 0; rg = 0; ruh = 0; pid_valid = true })
    ∷ entries.Placed (record { ticket = 3; index = 0; unit = 0; page = 0 }) ∷ entries.Placed (record { ticket = 3; index = 1; unit = 0; page = 1 }) ∷ entries.Placed (record { ticket = 3; index = 2; unit = 0; page = 2 })
    ∷ done 2 (write 0 3 0)
    ∷ done 3 update
    ∷ entries.Started (record { queue = 1; number = 4; command = write 0 4 0; rg = 0; ruh = 0; pid_valid = true })
    ∷ four_pages 9 1 0
    ++ done 4 (write 0 4 0)
    ∷ entries.Started (record { queue = 1; number = 5; command = write 4 4 0; rg = 0; ruh = 0; pid_valid = true })
    ∷ four_pages 15 1 4
    ++ done 5 (write 4 4 0)
    ∷ done 6 update
    ∷ told 7 (commands.Status (record { nsid = 1; mo = 1; dwords = 12 })) handle_status_of_one
    ∷ []

abbrev pub text_of_closed_units : List ℕ
text_of_closed_units = lines (
    codes "queue 1"
    ∷ codes "0 set-events 0/00 00000000"
    ∷ codes "1 update 0/00 00000000"
    ∷ codes "2 write 0/00 00000000"
    ∷ codes "3 update 0/00 00000000"
    ∷ codes "4 write 0/00 00000000"
    ∷ codes "5 write 0/00 00000000"
    ∷ codes "6 update 0/00 00000000"
    ∷ codes "7 status 0/00 00000000"
    ∷ codes "  0000000000000000000000000000010000000000000000000800000000000000"
    ∷ codes "  00000000000000000000000000000000"
    ∷ codes "stats 5632 5632 0"
    ∷ codes "ruh 0 1"
    ∷ codes "event host 00 07 0000 8 1 0 0 0 0"
    ∷ [])
