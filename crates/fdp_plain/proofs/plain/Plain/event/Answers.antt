use Rattle.std.proofs.Common.{◌≡◌}
use Rattle.std.specs.Prelude.{if◌then◌else◌, slice_get}
use Rattle.fdp_plain.proofs.Sound.{history_sound}
use Rattle.fdp_plain.proofs.Told.{told_after}
use Rattle.fdp_plain.proofs.plain.Plain.event.Goals as goal

pub new-requires : goal.new-requires
new-requires c = history_sound c.self.inside.kept c.self.invariant

pub returns : goal.returns
returns c =
    told_after (λ b p. c.event.result ≡ slice_get (if c.args.host then p.host_events else p.controller_events) c.args.index) c.self.inside.kept c.new.result c.args.self.now c.self.invariant c.new.ensures c.self.view_is c.event.ensures
