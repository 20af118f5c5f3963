use Rattle.std.specs.Prelude.{flat_map, take}
use Rattle.fdp_rules.specs.LogPages.{event_bytes}
use Rattle.fdp_pieces.specs.Parts.{PutsPiece}
use Rattle.fdp_log_pages.proofs.events.put_each_event.Given as goal

abbrev pub invariant-loop-index : goal.invariant-loop-index
invariant-loop-index l = PutsPiece l.offset l.start (flat_map event_bytes (take l.index l.events)) l.initial.into l.into
