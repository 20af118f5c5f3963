-- The data that a command itself carries, as a printed history has them below the command where no line of a trace spells it.
use Rattle.std.specs.Prelude.{ℕ, List, [], if◌then◌else◌}
use Rattle.fdp_base.specs.declared.command.Command.{Command}
use Rattle.fdp_base.specs.declared.command.Command.TheVariants as commands
use Rattle.fdp_queues.specs.Data.{payload_data, pids_data, ranges_data}
use Rattle.fdp_output.specs.CommandText.{is_spelled}
use Rattle.fdp_output.specs.Output.{block_lines, data_lines}

-- the lines of the data behind an entry: blocks of a write as those that a read answers, all else as a log
abbrev pub own_lines : ℕ → Command → List ℕ
own_lines block (commands.Write w) = block_lines w.count (payload_data block w.count w.payload)
own_lines block (commands.Read r) = []
own_lines block (commands.Zero z) = []
own_lines block (commands.Dealloc d) = data_lines (ranges_data d.ranges)
own_lines block (commands.Flush f) = []
own_lines block (commands.Delete d) = []
own_lines block (commands.Status s) = []
own_lines block (commands.Update u) = data_lines (pids_data u.pids)
own_lines block (commands.Log l) = []
own_lines block (commands.SetFdp s) = []
own_lines block (commands.GetFdp g) = []
own_lines block (commands.SetEvents s) = data_lines s.types
own_lines block (commands.Create c) = []
own_lines block (commands.Other o) = []

-- a line of a trace says its data itself
abbrev pub own_text : ℕ → Command → List ℕ
own_text block command = if is_spelled command then [] else own_lines block command
