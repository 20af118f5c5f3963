-- What a run of the generated load comes to, read off its history, and the line that says so.
use Rattle.std.specs.Prelude.{ℕ, ◌+◌, ◌-◌, ◌*◌, ◌==◌, ◌&&◌, Bool, true, false, List, [], ◌∷◌, ◌++◌, take, drop, count_by, sum_by, fold, Option, Some, None, is_some, option_and_then, option_map, codes, decimal, if◌then◌else◌}
use Rattle.std.specs.Option.{option_map_or, option_or}
use Rattle.std.specs.Str.{bytes_eq}
use Rattle.fdp_base.specs.declared.command.Read.{Read}
use Rattle.fdp_base.specs.declared.command.Write.{Write}
use Rattle.fdp_base.specs.declared.config.DriveConfig.{DriveConfig}
use Rattle.fdp_base.specs.declared.entry.Entry.{Entry}
use Rattle.fdp_base.specs.declared.entry.Host.{Host}
use Rattle.fdp_base.specs.declared.status.TheConstants.Status as statuses
use Rattle.fdp_base.specs.CommandKinds.{blocks_read, read_of, write_of}
use Rattle.fdp_base.specs.EntryKinds.{host_of}
use Rattle.fdp_base.specs.Numbers.{count_below, is_among}
use Rattle.fdp_base.specs.Pattern.{payload_block}
use Rattle.fdp_base.specs.Text.{line}
use Rattle.fdp_rules.specs.Answer.{read_block}
use Rattle.fdp_rules.specs.Change.{is_status}
use Rattle.fdp_rules.specs.History.{Found, state_of}
use Rattle.fdp_rules.specs.Totals.{host_blocks}
use Rattle.fdp_make.specs.declared.summary.Summary.{Summary}

-- ---- commands and blocks

-- a command was completed
abbrev pub is_completion : Entry → Bool
is_completion e = is_some (host_of e)

-- its status is Success
abbrev pub succeeds : Host → Bool
succeeds h = is_status h.reply.status statuses.SUCCESS

abbrev pub is_success : Entry → Bool
is_success e = option_map_or succeeds (host_of e) false

-- the blocks of a successful read
abbrev pub blocks_given : Entry → ℕ
blocks_given e = option_map_or (λ (h : Host). if succeeds h then blocks_read h.command else 0) (host_of e) 0

-- ---- what a read is to find in a block

-- a write has this block
abbrev pub covers : ℕ → ℕ → Write → Bool
covers nsid lba w = w.nsid == nsid && is_among w.slba w.count lba

-- the write of a completion, if it is one of this queue to this block and its change was made
abbrev pub write_made : ℕ → ℕ → ℕ → Host → Option Write
write_made queue nsid lba h =
    if h.reply.applied && (h.queue == queue && option_map_or (covers nsid lba) (write_of h.command) false) then write_of h.command else None

abbrev pub write_in : ℕ → ℕ → ℕ → Entry → Option Write
write_in queue nsid lba e = option_and_then (write_made queue nsid lba) (host_of e)

-- the last applied write of a queue to a block, if there is one
unfoldable pub last_write : ℕ → ℕ → ℕ → List Entry → Option Write
last_write queue nsid lba es = fold (λ (old : Option Write) (e : Entry). option_or (write_in queue nsid lba e) old) None es

-- what a write put into one of its blocks
abbrev pub put_by : ℕ → ℕ → Write → List ℕ
put_by block lba w = payload_block block w.payload (lba - w.slba)

-- what blocks held when the run began, as far as that is told
abbrev pub Beginning : Type 0
Beginning = ℕ → ℕ → Option (List ℕ)

-- nothing is told of it
abbrev pub untold : Beginning
untold nsid lba = None

-- what a read of a queue is to find in a block: what the last applied write of that queue put there, or, where there is none, what the
-- block held when the run began
abbrev pub wanted : ℕ → Beginning → ℕ → ℕ → ℕ → List Entry → Option (List ℕ)
wanted block beginning queue nsid lba before = option_or (option_map (put_by block lba) (last_write queue nsid lba before)) (beginning nsid lba)

-- ---- what a read found

-- the bytes of block i of a read
abbrev pub block_given : ℕ → List ℕ → ℕ → List ℕ
block_given block bytes i = take block (drop (i * block) bytes)

-- these bytes are what was wanted; nothing speaks against them where that is not told
abbrev pub agrees : Option (List ℕ) → List ℕ → Bool
agrees want bytes = option_map_or (λ (xs : List ℕ). bytes_eq xs bytes) want true

-- block i of a read of a completion is as wanted, after these entries
abbrev pub is_as_wanted : ℕ → Beginning → List Entry → Host → Read → ℕ → Bool
is_as_wanted block beginning before h r i =
    agrees (wanted block beginning h.queue r.nsid (r.slba + i) before) (block_given block h.reply.bytes i)

-- the blocks of a completion that are as wanted: of a successful read
abbrev pub agreeing_in : ℕ → Beginning → List Entry → Host → ℕ
agreeing_in block beginning before h =
    if succeeds h then option_map_or (λ (r : Read). count_below r.count (is_as_wanted block beginning before h r)) (read_of h.command) 0 else 0

abbrev pub agreeing_of : ℕ → Beginning → List Entry → Entry → ℕ
agreeing_of block beginning before e = option_map_or (agreeing_in block beginning before) (host_of e) 0

-- the blocks of reads that are as wanted, each by the entries before it
unfoldable pub agreeing_after : ℕ → Beginning → List Entry → List Entry → ℕ
agreeing_after block beginning before [] = 0
agreeing_after block beginning before (e ∷ es) = agreeing_of block beginning before e + agreeing_after block beginning (before ++ e ∷ []) es

-- the blocks of reads that equal the last applied write of the same queue to that block before the read, or, where there is none, the
-- block as the run found it
abbrev pub same_blocks : DriveConfig → Found → List Entry → ℕ
same_blocks c f es = agreeing_after c.block (λ nsid lba. Some (read_block c (state_of c f []) nsid lba)) [] es

-- the same, where a block that its queue had not written counts, whatever it held
abbrev pub unrefuted_blocks : ℕ → List Entry → ℕ
unrefuted_blocks block es = agreeing_after block untold [] es

-- ---- the line

-- what a run comes to, with so many of the blocks of its reads the same
abbrev pub summary : ℕ → List Entry → ℕ → Summary
summary block es same = record {
  commands = count_by is_completion es;
  successes = count_by is_success es;
  host_bytes = block * host_blocks es;
  read = sum_by blocks_given es;
  same = same;
}

-- the line of a summary, with the word that asked for so many commands
abbrev pub summary_line : List ℕ → Summary → List ℕ
summary_line word s =
    line
    (codes "make" ∷ word ∷ codes "commands" ∷ decimal s.commands ∷ codes "ok" ∷ decimal s.successes
    ∷ codes "hbmw" ∷ decimal s.host_bytes ∷ codes "read" ∷ decimal s.read ∷ codes "same" ∷ decimal s.same ∷ [])

-- the line of a run, with so many of the blocks of its reads the same
abbrev pub summary_text : List ℕ → ℕ → List Entry → ℕ → List ℕ
summary_text word block es same = summary_line word (summary block es same)
