-- A run over an image: what was found, and a history of it.
use Rattle.std.specs.Prelude.{ℕ, true, [], ◌∷◌, List, codes}
use Rattle.fdp_base.specs.declared.command.Command.TheVariants as commands
use Rattle.fdp_base.specs.declared.entry.Entry.{Entry}
use Rattle.fdp_base.specs.declared.entry.Entry.TheVariants as entries
use Rattle.fdp_base.specs.declared.entry.Spot.{Spot}
use Rattle.fdp_base.specs.declared.event.EventKind.TheVariants as kinds
use Rattle.fdp_base.specs.declared.recorded.Mark.{Mark}
use Rattle.fdp_base.specs.Pattern.{pattern_block}
use Rattle.fdp_rules.specs.History.{Found, FoundBlock}
use Rattle.fdp_worked.specs.Words.{done, lines, told, write_to}

abbrev pub spot : ℕ → ℕ → Spot
spot unit page = record { unit = unit; page = page }

-- a block of 512 bytes of this number in namespace 1, written by handle 2, which stands at a page of unit 3
abbrev pub found_at : ℕ → ℕ → ℕ → FoundBlock
found_at lba number page = record { nsid = 1; lba = lba; bytes = pattern_block 512 number 0; rg = 0; ruh = 2; spot = spot 3 page }

-- drive T after 40 entries: blocks 0 and 1 of its namespace stand in unit 3; events of moves are kept for handle 2
abbrev pub image : Found
image = record {
  is_image = true;
  enabled = true;
  index = 0;
  generation = 0;
  totals = record { position = 40; host_blocks = 20; media_blocks = 24; erases = 2 };
  reports = record { ruh = 2; kind = kinds.MediaReallocated } ∷ [];
  namespaces = record { nsid = 1; namespace = record { size = 8; handles = 2 ∷ 0 ∷ []; given = true; birth = 0 } } ∷ [];
  blocks = found_at 0 100 0 ∷ found_at 1 101 1 ∷ [];
  host_events = [];
  controller_events = [];
}

-- the image is opened; block 0 is read as it was found; block 1 is written anew, by handle 0; the page of block 0 is copied to
-- unit 4 and moved there, and unit 3, in which no block stands any more, is erased; block 0 is read again
abbrev pub entries_over_image : List Entry
entries_over_image =
    entries.Reopened
    ∷ told 0 (commands.Read (record { nsid = 1; slba = 0; count = 1 })) (pattern_block 512 100 0)
    ∷ entries.Started (record { queue = 1; number = 1; command = write_to 1 1 1 7; rg = 0; ruh = 0; pid_valid = true })
    ∷ entries.Placed (record { ticket = 43; index = 0; unit = 0; page = 0 })
    ∷ done 1 (write_to 1 1 1 7)
    ∷ entries.Copied (record { from = spot 3 0; to = spot 4 0 })
    ∷ entries.Moved (record { rg = 0; blocks = record { nsid = 1; lba = 0 } ∷ [] })
    ∷ entries.Erased (record { unit = 3 })
    ∷ told 2 (commands.Read (record { nsid = 1; slba = 0; count = 1 })) (pattern_block 512 100 0)
    ∷ []

abbrev pub text_over_image : List ℕ
text_over_image = lines (
    codes "queue 1"
    ∷ codes "0 read 0/00 00000000"
    ∷ codes "  00000064"
    ∷ codes "1 write 0/00 00000000"
    ∷ codes "2 read 0/00 00000000"
    ∷ codes "  00000064"
    ∷ codes "stats 10752 13312 12288"
    ∷ codes "ruh 0 1"
    ∷ codes "ruh 1 0"
    ∷ codes "ruh 2 1"
    ∷ codes "event ctrl 80 06 0000 47 1 1 0 0 2"
    ∷ [])

-- a mark of the seat with this number: blocks of an applied write, pages programmed, units erased
abbrev pub mark : ℕ → ℕ → ℕ → ℕ → Mark
mark number host media erased = record { number = number; host_blocks = host; media_blocks = media; erases = erased }

-- the opening; queue 1 reads, starts, places and completes; relocation copies, moves and erases; queue 1 reads
abbrev pub marks_over_image : List Mark
marks_over_image =
    mark 0 0 0 0 ∷ mark 1 0 0 0 ∷ mark 1 0 0 0 ∷ mark 1 0 1 0 ∷ mark 1 1 0 0 ∷ mark 0 0 1 0 ∷ mark 0 0 0 0 ∷ mark 0 0 0 1 ∷ mark 1 0 0 0 ∷ []
