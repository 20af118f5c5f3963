-- What a block holds by the last change of it alone.
use Rattle.std.specs.Prelude.{ℕ, ◌-◌, ◌&&◌, List, ◌==◌, Option, Some, None, if◌then◌else◌, fold, unwrap_or, option_and_then}
use Rattle.fdp_base.specs.declared.command.Command.{Command}
use Rattle.fdp_base.specs.declared.command.Command.TheVariants as commands
use Rattle.fdp_base.specs.declared.config.DriveConfig.{DriveConfig}
use Rattle.fdp_base.specs.declared.entry.Entry.{Entry}
use Rattle.fdp_rules.specs.Answer.{read_block}
use Rattle.fdp_rules.specs.Effect.{is_in_ranges}
use Rattle.fdp_rules.specs.History.{Found, first_state}
use Rattle.fdp_rules.specs.LogPages.{zeros}
use Rattle.fdp_base.specs.Numbers.{is_among}
use Rattle.fdp_base.specs.Pattern.{payload_block}
use Rattle.fdp_base.specs.declared.entry.Host.{Host}
use Rattle.fdp_base.specs.EntryKinds.{host_of}

-- what a command leaves in a block where its change is made: of a write its bytes, of a zeroing, a deallocation or the end of
-- the namespace zeros; none where it leaves the block alone
abbrev pub left_by : DriveConfig → ℕ → ℕ → Command → Option (List ℕ)
left_by c n lba (commands.Write w) =
    if n == w.nsid && is_among w.slba w.count lba then Some (payload_block c.block w.payload (lba - w.slba)) else None
left_by c n lba (commands.Read r) = None
left_by c n lba (commands.Zero z) = if n == z.nsid && is_among z.slba z.count lba then Some (zeros c.block) else None
left_by c n lba (commands.Dealloc d) =
    if n == d.nsid && (d.deallocate && is_in_ranges d.ranges lba) then Some (zeros c.block) else None
left_by c n lba (commands.Flush f) = None
left_by c n lba (commands.Delete d) = if n == d.nsid then Some (zeros c.block) else None
left_by c n lba (commands.Status s) = None
left_by c n lba (commands.Update u) = None
left_by c n lba (commands.Log l) = None
left_by c n lba (commands.SetFdp s) = None
left_by c n lba (commands.GetFdp g) = None
left_by c n lba (commands.SetEvents s) = None
left_by c n lba (commands.Create create) = None
left_by c n lba (commands.Other o) = None

-- what an entry leaves in a block: only a command whose change is made leaves anything
abbrev pub left_by_entry : DriveConfig → ℕ → ℕ → Entry → Option (List ℕ)
left_by_entry c n lba e = option_and_then (λ (h : Host). if h.reply.applied then left_by c n lba h.command else None) (host_of e)

-- what the last entry left in a block that left anything there, or else the bytes that were there before
abbrev pub last_left : DriveConfig → ℕ → ℕ → List ℕ → List Entry → List ℕ
last_left c n lba bytes es = fold (λ (old : List ℕ) (e : Entry). unwrap_or (left_by_entry c n lba e) old) bytes es

-- what a run last wrote to a block, or else what it found there
unfoldable pub last_written : DriveConfig → Found → List Entry → ℕ → ℕ → List ℕ
last_written c f es nsid lba = last_left c nsid lba (read_block c (first_state c f) nsid lba) es
