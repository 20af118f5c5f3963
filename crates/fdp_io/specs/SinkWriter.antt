-- What contracts see of a sink over a writer: its count of faults. It tells no bytes of its own.
use Rattle.std.specs.Prelude.{false, []}
use Rattle.fdp_io.specs.declared.sink_writer.SinkWriter.{SinkWriter}
use Rattle.fdp_io.specs.Sink.{SinkState}

abbrev pub writer_state : {W : Type 0} → SinkWriter W → SinkState
writer_state sink = record { faults = sink.faults; told = false; bytes = [] }
