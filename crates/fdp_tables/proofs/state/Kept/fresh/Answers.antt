use Rattle.std.proofs.Common.{Ok, Err}
use Rattle.std.specs.Prelude.{IfOk, Result}
use Rattle.std.specs.declared.alloc.AllocError.{AllocError}
use Rattle.fdp_base.specs.declared.config.DriveConfig.{DriveConfig}
use Rattle.fdp_base.specs.Config.{IsValidConfig}
use Rattle.fdp_tables.specs.declared.state.Kept.{Kept}
use Rattle.fdp_tables.specs.Fresh.{IsBlank, IsFresh}
use Rattle.fdp_tables.proofs.Blank.{blank_point}
use Rattle.fdp_tables.proofs.Beginning.{blank_sound}
use Rattle.fdp_tables.proofs.state.Kept.fresh.Goals as goal

begun : (c : DriveConfig) → IsValidConfig c → (r : Result Kept AllocError) → IfOk r (IsBlank c) → IfOk r (IsFresh c)
begun c valid (Ok k) h = record { config = h.config; point = blank_point c k h; sound = blank_sound c valid k h; starts = h.starts }
begun c valid (Err e) h = h

pub returns : goal.returns
returns c = begun c.args.config.now c.requires c.blank.result c.blank.ensures
