-- What a state has behind each pointer, and what each entry does to it.
use Rattle.std.specs.Prelude.{ℕ, Bool, true, false, ◌&&◌, List, [], Option, Some, None, is_some, nat_lt, if◌then◌else◌, option_and_then, option_map}
use Rattle.std.specs.Option.{option_map_or}
use Rattle.fdp_base.specs.declared.command.Command.{Command}
use Rattle.fdp_base.specs.declared.command.Command.TheVariants as commands
use Rattle.fdp_base.specs.declared.config.DriveConfig.{DriveConfig}
use Rattle.fdp_base.specs.declared.entry.Entry.{Entry}
use Rattle.fdp_base.specs.declared.entry.Entry.TheVariants as entries
use Rattle.fdp_base.specs.CommandKinds.{write_of}
use Rattle.fdp_base.specs.EntryKinds.{placed_of}
use Rattle.fdp_rules.specs.Effect.{is_in_ranges}
use Rattle.fdp_base.specs.Numbers.{is_among}
use Rattle.fdp_base.specs.Pattern.{payload_block}
use Rattle.fdp_rules.specs.PlainState.{Block, Going, PageName, PageName.written, PlainState}
use Rattle.fdp_rules.specs.Sites.{is_there}
use Rattle.fdp_pointers.specs.Pointers.{Behind, Pointer, Pointer.of_block, Pointer.of_flight, is_block, is_elsewhere, is_of_another, is_outside, only, taken_by}
use Rattle.fdp_base.specs.declared.command.Write.{Write}

-- a page of data: its name and its bytes
pub record PageContent : Type 0 where
  pub name : PageName
  pub bytes : List ℕ

abbrev pub content_of_block : Block → PageContent
content_of_block b = record { name = b.page; bytes = b.bytes }

-- block `index` of a write
abbrev pub bytes_of_write : DriveConfig → Command → ℕ → List ℕ
bytes_of_write c command index = option_map_or (λ (w : Write). payload_block c.block w.payload index) (write_of command) []

-- the page of block `index` of a going write
abbrev pub page_of_write : DriveConfig → Going → ℕ → PageContent
page_of_write c g index = record { name = written g.ticket index; bytes = bytes_of_write c g.command index }

-- that page where it was placed and the namespace of the write is still there
abbrev pub placed_page : DriveConfig → PlainState → ℕ → Going → Option PageContent
placed_page c s index g = if is_there s g && nat_lt index g.placed then Some (page_of_write c g index) else None

-- the page of a present block, or of a block of a going write
abbrev pub content_at : DriveConfig → PlainState → Behind PageContent
content_at c s (of_block nsid lba) = option_map content_of_block (s.blocks nsid lba)
content_at c s (of_flight queue index) = option_and_then (placed_page c s index) (s.going queue)

-- what a completed command does to the pointers, with its change made or not
abbrev pub ended_by : PlainState → ℕ → Bool → Command → Pointer → Option Pointer
ended_by s queue made (commands.Write w) = if made then taken_by queue w.nsid w.slba w.count else only (is_of_another queue)
ended_by s queue made (commands.Read r) = Some
ended_by s queue made (commands.Zero z) = if made then only (is_outside z.nsid (is_among z.slba z.count)) else Some
ended_by s queue made (commands.Dealloc d) = if made then only (is_outside d.nsid (λ lba. d.deallocate && is_in_ranges d.ranges lba)) else Some
ended_by s queue made (commands.Flush f) = Some
ended_by s queue made (commands.Delete d) = if made then only (is_elsewhere s d.nsid) else Some
ended_by s queue made (commands.Status status) = Some
ended_by s queue made (commands.Update u) = Some
ended_by s queue made (commands.Log l) = Some
ended_by s queue made (commands.SetFdp set) = Some
ended_by s queue made (commands.GetFdp g) = Some
ended_by s queue made (commands.SetEvents set) = Some
ended_by s queue made (commands.Create c) = Some
ended_by s queue made (commands.Other o) = Some

-- how an entry renames the pointers; a Placed entry points one more instead
abbrev pub renamed_by : PlainState → Entry → Pointer → Option Pointer
renamed_by s (entries.Host h) = ended_by s h.queue h.reply.applied h.command
renamed_by s (entries.Started started) = only (is_of_another started.queue)
renamed_by s (entries.Placed p) = Some
renamed_by s (entries.Copied c) = Some
renamed_by s (entries.Moved m) = Some
renamed_by s (entries.Erased e) = Some
renamed_by s (entries.Retired r) = Some
renamed_by s (entries.Aside a) = Some
renamed_by s (entries.Shut shut) = Some
renamed_by s (entries.Worn w) = Some
renamed_by s entries.Reopened = only is_block

-- an entry tells of a page that was placed
abbrev pub tells_placed : Entry → Bool
tells_placed e = is_some (placed_of e)

-- an entry by which no page is placed, copied, moved or erased
abbrev pub leaves_pages : Entry → Bool
leaves_pages (entries.Host h) = true
leaves_pages (entries.Started s) = true
leaves_pages (entries.Placed p) = false
leaves_pages (entries.Copied c) = false
leaves_pages (entries.Moved m) = false
leaves_pages (entries.Erased e) = false
leaves_pages (entries.Retired r) = true
leaves_pages (entries.Aside a) = true
leaves_pages (entries.Shut s) = true
leaves_pages (entries.Worn w) = true
leaves_pages entries.Reopened = true
