use Rattle.std.proofs.Common.{◌∷◌, [], codes, decimal}
use Rattle.fdp_base.specs.EventCodes.{flags_code, kind_code}
use Rattle.fdp_base.specs.Text.{hex}
use Rattle.fdp_printing.proofs.Lists.{event_pushed}
use Rattle.fdp_printing.proofs.closing.push_event.Goals as goal

pub returns : goal.returns
returns c =
    let e = c.args.event.now in
    event_pushed c.args.into.now.items _ _ _ _ _ (codes "event") c.args.class.now (hex 2 (kind_code e.kind) ∷ hex 2 (flags_code e.flags) ∷ hex 4 e.pid ∷ [])
    (decimal e.position ∷ decimal e.nsid ∷ decimal e.moved ∷ decimal e.lba ∷ decimal e.rg ∷ decimal e.ruh ∷ [])
    c.in_ok-extend_from_slice.ensures.items c.in_ok-push_word.ensures.ok c.in_ok-push_codes.ensures c.in_ok-push_place.ensures c.in_ok-push.ensures.items
