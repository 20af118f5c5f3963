-- The printed history of a run: an entry a line, and below it the data that its command carries or answers.
use Rattle.std.specs.Prelude.{ℕ, ◌+◌, List, [], ◌∷◌, ◌++◌, map, codes, decimal}
use Rattle.fdp_base.specs.declared.config.DriveConfig.{DriveConfig}
use Rattle.fdp_base.specs.declared.entry.BlockName.{BlockName}
use Rattle.fdp_base.specs.declared.entry.Entry.{Entry}
use Rattle.fdp_base.specs.declared.entry.Entry.TheVariants as entries
use Rattle.fdp_base.specs.declared.entry.Host.{Host}
use Rattle.fdp_base.specs.declared.entry.Spot.{Spot}
use Rattle.fdp_base.specs.declared.entry.Started.{Started}
use Rattle.fdp_base.specs.EventCodes.{bit}
use Rattle.fdp_base.specs.Text.{hex, line, status_text}
use Rattle.fdp_rules.specs.History.{Found}
use Rattle.fdp_output.specs.CommandData.{own_text}
use Rattle.fdp_output.specs.CommandText.{command_text}
use Rattle.fdp_output.specs.Output.{data_text}
use Rattle.fdp_output.specs.RunOutput.{output_of}

-- a completion: queue, number, 1 where the change was made, status, dword 0, moment, command
abbrev pub host_words : Host → List (List ℕ)
host_words h =
    codes "host" ∷ decimal h.queue ∷ decimal h.number ∷ decimal (bit h.reply.applied) ∷ status_text h.reply.status ∷ hex 8 h.reply.dw0
    ∷ decimal h.moment ∷ command_text h.command ∷ []

-- the start of a write: queue, number, group, handle, 1 where its placement identifier is valid, command
abbrev pub started_words : Started → List (List ℕ)
started_words s =
    codes "started" ∷ decimal s.queue ∷ decimal s.number ∷ decimal s.rg ∷ decimal s.ruh ∷ decimal (bit s.pid_valid) ∷ command_text s.command ∷ []

-- a page: its unit, and its number there
abbrev pub spot_words : Spot → List (List ℕ)
spot_words spot = decimal spot.unit ∷ decimal spot.page ∷ []

-- a block: its namespace, a colon, its address
abbrev pub block_word : BlockName → List ℕ
block_word block = decimal block.nsid ++ codes ":" ++ decimal block.lba

-- what an entry says, behind its position
abbrev pub entry_words : Entry → List (List ℕ)
entry_words (entries.Host h) = host_words h
entry_words (entries.Started s) = started_words s
entry_words (entries.Placed p) = codes "placed" ∷ decimal p.ticket ∷ decimal p.index ∷ decimal p.unit ∷ decimal p.page ∷ []
entry_words (entries.Copied c) = codes "copied" ∷ spot_words c.from ++ spot_words c.to
entry_words (entries.Moved m) = codes "moved" ∷ decimal m.rg ∷ map block_word m.blocks
entry_words (entries.Erased e) = codes "erased" ∷ decimal e.unit ∷ []
entry_words (entries.Retired r) = codes "retired" ∷ decimal r.unit ∷ []
entry_words (entries.Aside a) = codes "aside" ∷ decimal a.unit ∷ []
entry_words (entries.Shut s) = codes "shut" ∷ decimal s.rg ∷ decimal s.ruh ∷ []
entry_words (entries.Worn w) = codes "worn" ∷ decimal w.rg ∷ []
entry_words entries.Reopened = codes "reopened" ∷ []

-- the lines of the data of an entry: those that its command carries, where no trace spells it, or those that it answers; no command has both
abbrev pub entry_data : ℕ → Entry → List ℕ
entry_data block (entries.Host h) = own_text block h.command ++ data_text h.command h.reply.bytes
entry_data block (entries.Started s) = own_text block s.command
entry_data block (entries.Placed p) = []
entry_data block (entries.Copied c) = []
entry_data block (entries.Moved m) = []
entry_data block (entries.Erased e) = []
entry_data block (entries.Retired r) = []
entry_data block (entries.Aside a) = []
entry_data block (entries.Shut s) = []
entry_data block (entries.Worn w) = []
entry_data block entries.Reopened = []

-- the lines of an entry, with blocks of so many bytes: its position and what it says, then its data
abbrev pub entry_lines : ℕ → ℕ → Entry → List ℕ
entry_lines block position e = line (decimal position ∷ entry_words e) ++ entry_data block e

-- the lines of entries that follow one another, the first at this position
abbrev pub history_text : ℕ → ℕ → List Entry → List ℕ
history_text block position [] = []
history_text block position (e ∷ es) = entry_lines block position e ++ history_text block (position + 1) es

-- the output of a run, and then its history, whose positions go on from the one that was found
unfoldable pub record_of : DriveConfig → Found → ℕ → List Entry → List ℕ
record_of c f traces es = output_of c f traces es ++ history_text c.block (f.totals.position + 1) es
