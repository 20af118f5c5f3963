use Rattle.std.proofs.Common.{◌≡◌, ◌∙◌, ℕ, List, ◌++◌, ◌+◌, ◌*◌, ap, length, subst, sym}
use Rattle.std.specs.Prelude.{flat_map}
use Rattle.std.specs.Int.{to_le_bytes, w32}
use Rattle.std.proofs.lemmas.Grind.{flat_map-append}
use Rattle.fdp_base.specs.declared.event.Event.{Event}
use Rattle.fdp_rules.specs.LogPages.{event_bytes, zeros}
use Rattle.fdp_pieces.specs.Parts.{PutsPiece}
use Rattle.fdp_pieces.proofs.Putting.{even_length, puts_both}
use Rattle.fdp_log_pages.proofs.Lengths.{event_length}
use Rattle.fdp_log_pages.proofs.events.put_events.Goals as goal

pub returns : goal.returns
returns c =
    let older = c.pieces.result.0.now in
    let newer = c.pieces.result.1.now in
    let head : List ℕ = to_le_bytes w32 (length c.args.events.now) ++ zeros 60 in
    let is : c.events_head.result ≡ head = c.events_head.ensures ∙ ap (λ (n : ℕ). to_le_bytes w32 n ++ zeros 60) c.len.ensures.len in
    let place : 64 + 64 * length older ≡ 64 + length (flat_map event_bytes older) = ap (λ (n : ℕ). 64 + n) (sym (even_length event_bytes 64 older event_length)) in
    let each : PutsPiece c.args.offset 64 (flat_map event_bytes older ++ flat_map event_bytes newer) c.put_piece.new.into c.put_each_event-2.new.into =
    puts_both c.args.offset 64 (flat_map event_bytes older) (flat_map event_bytes newer) c.put_piece.new.into c.put_each_event.new.into c.put_each_event-2.new.into c.put_each_event.ensures
    (subst (λ (n : ℕ). PutsPiece c.args.offset n (flat_map event_bytes newer) c.put_each_event.new.into c.put_each_event-2.new.into) place c.put_each_event-2.ensures) in
    puts_both c.args.offset 0 head (flat_map event_bytes c.args.events.now) c.args.into.now c.put_piece.new.into c.put_each_event-2.new.into
    (subst (λ (bytes : List ℕ). PutsPiece c.args.offset 0 bytes c.args.into.now c.put_piece.new.into) is c.put_piece.ensures)
    (subst (λ (bytes : List ℕ). PutsPiece c.args.offset 64 bytes c.put_piece.new.into c.put_each_event-2.new.into)
    (sym (flat_map-append event_bytes older newer) ∙ ap (λ (xs : List Event). flat_map event_bytes xs) c.pieces.ensures) each)
