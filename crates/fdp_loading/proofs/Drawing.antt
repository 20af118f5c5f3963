-- What stands when a run begins.
use Rattle.std.proofs.Common.{◌≡◌, [], ◌∷◌, refl, Option}
use Rattle.fdp_base.specs.declared.config.DriveConfig.{DriveConfig}
use Rattle.fdp_base.specs.declared.entry.Entry.TheVariants as entries
use Rattle.fdp_base.specs.declared.entry.Spot.{Spot}
use Rattle.fdp_keeper.specs.fdp_locations.Written.{Written, written_by, written_from}
use Rattle.fdp_rules.specs.Change.{after, changed_by}
use Rattle.fdp_rules.specs.History.{Found, first_state, point_of, state_of}

-- the entry of an opening wrote no page
pub written-reopened : (c : DriveConfig) (f : Found) (first : Spot → Option Written) → written_by c f first (entries.Reopened ∷ []) ≡ first
unfolding written_from
written-reopened c f first = refl

-- nor does it tell of a media error
pub media-reopened : (c : DriveConfig) (f : Found) → (point_of c f (entries.Reopened ∷ [])).state.media ≡ []
unfolding point_of state_of first_state after changed_by
media-reopened c f = refl

pub media-none : (c : DriveConfig) (f : Found) → (point_of c f []).state.media ≡ []
unfolding point_of state_of first_state
media-none c f = refl
