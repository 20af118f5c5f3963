-- What a refusal is answered by: neither success nor a media error.
use Rattle.std.proofs.Common.{◌≡◌, Bool, true, false, ◌&&◌, cond, List, [], ◌∷◌, Some, refl, sym, ◌∙◌, ap}
use Rattle.std.specs.Prelude.{not}
use Rattle.fdp_base.specs.declared.command.Command.{Command}
use Rattle.fdp_base.specs.declared.command.Command.TheVariants as commands
use Rattle.fdp_base.specs.declared.config.DriveConfig.{DriveConfig}
use Rattle.fdp_base.specs.declared.status.Status.{Status}
use Rattle.fdp_base.specs.declared.status.TheConstants.Status as statuses
use Rattle.fdp_rules.specs.Change.{is_media_error, is_status}
use Rattle.fdp_rules.specs.Point.{Point}
use Rattle.fdp_rules.specs.Refusal.{Check, checks_of, first_that_holds, refusal_of}

refuses : Status → Bool
refuses status = not (is_status status statuses.SUCCESS) && not (is_media_error status)

AreRefusals : List Check → Type 0
AreRefusals [] = Unit {0}
AreRefusals (x ∷ xs) = (refuses x.status ≡ true) × AreRefusals xs

first-refuses : (xs : List Check) (status : Status) → AreRefusals xs → first_that_holds xs ≡ Some status → refuses status ≡ true
unfolding AreRefusals
first-refuses [] status all e = absurd cc
first-refuses (x ∷ xs) status all e =
    let P : Bool → Type 0 = λ b. cond b (Some x.status) (first_that_holds xs) ≡ Some status → refuses status ≡ true in
    (elim x.holds as P [
      | true ↦ λ here. let same : x.status ≡ status = cc in ap refuses (sym same) ∙ all.0
      | false ↦ λ later. first-refuses xs status all.1 later
    ]) e

all-refuse : (c : DriveConfig) (p : Point) (command : Command) → AreRefusals (checks_of c p command)
unfolding checks_of refuses AreRefusals
all-refuse c p (commands.Write w) = (refl, (refl, (refl, (refl, tt))))
all-refuse c p (commands.Read r) = (refl, (refl, (refl, tt)))
all-refuse c p (commands.Zero z) = (refl, (refl, (refl, tt)))
all-refuse c p (commands.Dealloc d) = (refl, (refl, (refl, tt)))
all-refuse c p (commands.Flush f) = (refl, tt)
all-refuse c p (commands.Delete d) = (refl, tt)
all-refuse c p (commands.Status s) = (refl, (refl, (refl, tt)))
all-refuse c p (commands.Update u) = (refl, (refl, (refl, (refl, tt))))
all-refuse c p (commands.Log l) = (refl, (refl, (refl, (refl, tt))))
all-refuse c p (commands.SetFdp s) = (refl, (refl, tt))
all-refuse c p (commands.GetFdp g) = (refl, tt)
all-refuse c p (commands.SetEvents s) = (refl, (refl, (refl, tt)))
all-refuse c p (commands.Create create) = (refl, (refl, (refl, (refl, tt))))
all-refuse c p (commands.Other o) = (refl, (refl, tt))

both-false : (a b : Bool) → not a && not b ≡ true → (a ≡ false) × (b ≡ false)
both-false true b e = absurd cc
both-false false true e = absurd cc
both-false false false e = (refl, refl)

refused : (c : DriveConfig) (p : Point) (command : Command) (status : Status) → refusal_of c p command ≡ Some status → (is_status status statuses.SUCCESS ≡ false) × (is_media_error status ≡ false)
unfolding refusal_of refuses
refused c p command status e = both-false (is_status status statuses.SUCCESS) (is_media_error status) (first-refuses (checks_of c p command) status (all-refuse c p command) e)

-- a refusal is not Success
pub refused-fails : (c : DriveConfig) (p : Point) (command : Command) (status : Status) → refusal_of c p command ≡ Some status → is_status status statuses.SUCCESS ≡ false
refused-fails c p command status e = (refused c p command status e).0

-- .. and no media error
pub refused-fine : (c : DriveConfig) (p : Point) (command : Command) (status : Status) → refusal_of c p command ≡ Some status → is_media_error status ≡ false
refused-fine c p command status e = (refused c p command status e).1
