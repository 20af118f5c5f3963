-- The size of what a log answers.
use Rattle.std.proofs.Common.{◌≡◌, ◌*◌, ◌%◌, ◌≤◌, Bool, true, false, ◌||◌, length, [], ◌∷◌, None, refl, ap, ◌∙◌, le-leb}
use Rattle.std.specs.Prelude.{◌==◌, ◌&&◌, if◌then◌else◌, is_none, nat_lt, not}
use Rattle.std.proofs.lemmas.Bool.{ltb-false, or_parts}
use Rattle.fdp_base.specs.Codes.{log_code, log_named}
use Rattle.fdp_base.specs.declared.codes.LogPage.TheVariants as logs
use Rattle.fdp_base.specs.declared.command.Command.TheVariants as commands
use Rattle.fdp_base.specs.declared.command.GetLog.{GetLog}
use Rattle.fdp_base.specs.declared.limits.TheConstants.{MOST_DWORDS}
use Rattle.fdp_base.specs.declared.status.Status.{Status}
use Rattle.fdp_base.specs.declared.status.TheConstants.Status as statuses
use Rattle.fdp_base.specs.declared.config.DriveConfig.{DriveConfig}
use Rattle.fdp_relocation.specs.fdp_book.Room.{RoomSeen, most_bytes, room_for}
use Rattle.fdp_rules.specs.LogPages.{log_page}
use Rattle.fdp_rules.specs.Point.{Point}
use Rattle.fdp_rules.specs.Refusal.{checks_of, first_that_holds, refusal_of, ◌⟶◌}

second-passes : (a b d last : Bool) (w x y z : Status) → first_that_holds ((a ⟶ w) ∷ (b ⟶ x) ∷ (d ⟶ y) ∷ (last ⟶ z) ∷ []) ≡ None → b ≡ false
second-passes true b d last w x y z e = absurd cc
second-passes false true d last w x y z e = absurd cc
second-passes false false d last w x y z e = refl

-- a log that is not refused asks for no more dwords than are transferred
accepted-log : (c : DriveConfig) (p : Point) (l : GetLog) → refusal_of c p (commands.Log l) ≡ None → l.dwords ≤ MOST_DWORDS
unfolding refusal_of checks_of
accepted-log c p l e =
    let form : not (l.group == 1) || nat_lt MOST_DWORDS l.dwords || not (l.offset % 4 == 0) ≡ false =
    second-passes (is_none (log_named l.lid)) (not (l.group == 1) || nat_lt MOST_DWORDS l.dwords || not (l.offset % 4 == 0)) (not (l.lid == log_code logs.Configurations) && not p.state.enabled) (nat_lt (length (log_page c p l.lid l.lsp)) l.offset)
    statuses.INVALID_LOG_PAGE statuses.INVALID_FIELD statuses.FDP_DISABLED statuses.INVALID_FIELD e in
    ltb-false MOST_DWORDS l.dwords (or_parts _ _ (or_parts _ _ form).0).1

-- so the buffer for its answer has a byte for each that is asked for
pub logged-bytes : (c : DriveConfig) (p : Point) (l : GetLog) (room : RoomSeen) → refusal_of c p (commands.Log l) ≡ None → room ≡ room_for (commands.Log l) c → most_bytes room.command room.block room.most ≡ 4 * l.dwords
logged-bytes c p l room accepted is =
    let few : l.dwords ≤ MOST_DWORDS = accepted-log c p l accepted in
    ap (λ (r : RoomSeen). most_bytes r.command r.block r.most) is ∙ ap (λ (t : Bool). if t then 4 * l.dwords else 0) (le-leb l.dwords MOST_DWORDS few)
