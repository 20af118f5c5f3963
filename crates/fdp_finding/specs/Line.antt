-- How the line of a fault is written.
use Rattle.std.specs.Prelude.{◌≡◌, ◌≤◌, ℕ, List, MatchResult, OnOk, Result, ⊤}
use Rattle.fdp_io.specs.declared.sink.SinkFailed.{SinkFailed}
use Rattle.fdp_io.specs.Sink.{Holds, HoldsFront, SinkState}

-- the sink holds a text more; or a write failed, which was counted, and it holds a prefix of the text
pub record Writes (old new : SinkState) (text : List ℕ) (result : Result ⊤ SinkFailed) : Type 0 where
  pub tells : new.told ≡ old.told
  pub faults : old.faults ≤ new.faults
  pub counts : OnOk result (new.faults ≡ old.faults)
  pub ends : MatchResult result (λ _. Holds old new text) (λ _. HoldsFront old new text)
