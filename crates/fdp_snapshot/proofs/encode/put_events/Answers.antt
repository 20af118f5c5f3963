use Rattle.std.proofs.Common.{◌∙◌, ℕ, List, ◌+◌, ap, sym, length, arith}
use Rattle.std.specs.Prelude.{flat_map}
use Rattle.std.proofs.lemmas.Grind.{flat_map-append}
use Rattle.std.proofs.lemmas.List.{length-append}
use Rattle.fdp_base.specs.declared.event.Event.{Event}
use Rattle.fdp_records.specs.Bytes.{placed}
use Rattle.fdp_records.proofs.Laying.{length-items, placed-placed}
use Rattle.fdp_rules.specs.LogPages.{event_bytes}
use Rattle.fdp_snapshot.specs.Lengths.{event_long}
use Rattle.fdp_snapshot.proofs.encode.put_events.Goals as goal

pub returns-clause-bytes : goal.returns-clause-bytes
returns-clause-bytes c =
    let older = c.pieces.result.0.now in
    let newer = c.pieces.result.1.now in
    let all = ap length (sym c.pieces.ensures) ∙ length-append older newer in
    let front = length-items event_bytes 64 event_long older in
    let back = length-items event_bytes 64 event_long newer in
    c.put_all-2.ensures.bytes
    ∙ ap (λ (n : ℕ). placed (c.args.at + n) (flat_map event_bytes newer) c.put_all.new.into) (sym front)
    ∙ ap (placed (c.args.at + length (flat_map event_bytes older)) (flat_map event_bytes newer)) c.put_all.ensures.bytes
    ∙ placed-placed c.args.at (flat_map event_bytes older) (flat_map event_bytes newer) c.args.into.now (omega (arith, front, back, all, c.requires.room))
    ∙ ap (λ (bs : List ℕ). placed c.args.at bs c.args.into.now) (sym (flat_map-append event_bytes older newer))
    ∙ ap (λ (xs : List Event). placed c.args.at (flat_map event_bytes xs) c.args.into.now) c.pieces.ensures
