use Rattle.std.proofs.Common.{ℕ, List, refl, subst}
use Rattle.fdp_rules.specs.LogPages.{event_bytes}
use Rattle.fdp_pieces.specs.Parts.{PutsPiece}
use Rattle.fdp_log_pages.proofs.Lengths.{event_length}
use Rattle.fdp_log_pages.proofs.events.put_event.Goals as goal

pub returns-then-is_outside : goal.returns-then-is_outside
returns-then-is_outside c = c.is_outside.ensures c.if-is_outside.true (event_bytes c.args.event.now) c.args.into.now (event_length c.args.event.now) refl

pub returns : goal.returns
returns c = subst (λ (bytes : List ℕ). PutsPiece c.args.offset c.args.at bytes c.args.into.now c.put_piece.new.into) c.event_frame.ensures c.put_piece.ensures
