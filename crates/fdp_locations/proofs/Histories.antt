-- What an entry more puts into the pages.
use Rattle.std.proofs.Common.{◌≡◌, List, [], ◌∷◌, ◌++◌, Option, refl}
use Rattle.std.specs.Prelude.{fold}
use Rattle.fdp_base.specs.declared.config.DriveConfig.{DriveConfig}
use Rattle.fdp_base.specs.declared.entry.Entry.{Entry}
use Rattle.fdp_base.specs.declared.entry.Spot.{Spot}
use Rattle.fdp_rules.specs.Change.{after}
use Rattle.fdp_rules.specs.History.{Found, first_state, point_of, state_of}
use Rattle.fdp_rules.specs.PlainState.{PlainState}
use Rattle.fdp_locations.specs.Written.{Written, written_after, written_by, written_from}

written_from-push : (c : DriveConfig) (s : PlainState) (pages : Spot → Option Written) (es : List Entry) (e : Entry) → written_from c s pages (es ++ e ∷ []) ≡ written_after c (fold (after c) s es) (written_from c s pages es) e
unfolding written_from
written_from-push c s pages [] e = refl
written_from-push c s pages (x ∷ xs) e = written_from-push c (after c s x) (written_after c s pages x) xs e

written_of-push : (c : DriveConfig) (found : Found) (first : Spot → Option Written) (es : List Entry) (e : Entry) → written_by c found first (es ++ e ∷ []) ≡ written_after c (state_of c found es) (written_by c found first es) e
unfolding state_of
written_of-push c found first es e = written_from-push c (first_state c found) first es e

-- the pages of a history of one entry more
pub written_by-push : (c : DriveConfig) (found : Found) (first : Spot → Option Written) (es : List Entry) (e : Entry) → written_by c found first (es ++ e ∷ []) ≡ written_after c (point_of c found es).state (written_by c found first es) e
unfolding point_of
written_by-push c found first es e = written_of-push c found first es e
