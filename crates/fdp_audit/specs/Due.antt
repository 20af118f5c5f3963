-- What contracts see of the text that is due: a sink that tells what it holds.
use Rattle.std.specs.Prelude.{true}
use Rattle.fdp_audit.specs.declared.due.Due.{Due}
use Rattle.fdp_io.specs.Sink.{SinkState}

abbrev pub due_state : Due → SinkState
due_state due = record { faults = due.faults; told = true; bytes = due.text.items }
