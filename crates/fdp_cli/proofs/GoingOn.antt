-- A run over the cells that another put back.
use Rattle.std.proofs.Common.{◌≡◌, ◌∙◌, List, [], Some, ap, arith, sym}
use Rattle.std.specs.Prelude.{Option}
use Rattle.fdp_base.specs.declared.config.DriveConfig.{DriveConfig}
use Rattle.fdp_base.specs.declared.entry.Entry.{Entry}
use Rattle.fdp_flash.specs.declared.cell.Cell.{Cell}
use Rattle.fdp_image.specs.Reading.{Reading}
use Rattle.fdp_image.specs.StandsFor.{StandsFor}
use Rattle.fdp_image.specs.Valid.{state_in}
use Rattle.fdp_rules.specs.History.{Found}
use Rattle.fdp_rules.specs.PlainState.{lasting}
use Rattle.fdp_base.specs.Placement.{geometry_of}
use Rattle.fdp_cli.specs.GoesOn.{GoesOnFrom}
use Rattle.fdp_cli.specs.Loading.{of_opening}
use Rattle.fdp_drive.specs.fdp_loading.Opens.{Opens}
use Rattle.fdp_drive.specs.fdp_loading.Faults.{TellsFault}
use Rattle.fdp_drive.specs.fdp_recovery.Taken.{HasSameKeys, IsUsedUp}
use Rattle.fdp_drive.specs.fdp_recovery.declared.opened.OpenFault.{OpenFault}
use Rattle.fdp_drive.specs.fdp_recovery.declared.opened.OpenFault.TheVariants as faults
use Rattle.fdp_finding.specs.Faults.{status_of}

same : {X : Type 0} (o : Option X) (x y : X) → o ≡ Some x → o ≡ Some y → x ≡ y
same o x y p q = cc

-- what an image reads as is one reading
pub goes_on : (c : DriveConfig) (f found : Found) (cells : List Cell) (kept : List Entry) → StandsFor c f cells kept → StandsFor c found cells [] → GoesOnFrom c f kept found
goes_on c f found cells kept s t =
    let is = same _ t.reading s.reading t.read s.read in
    record {
      lasting_part = sym t.says.shows.lasting_part ∙ ap (λ (r : Reading). lasting (state_in c cells r)) is ∙ s.says.shows.lasting_part;
      totals = sym t.says.totals ∙ ap (λ (r : Reading). r.totals) is ∙ s.says.totals;
      host_events = sym t.says.shows.host_events ∙ ap (λ (r : Reading). r.host_events) is ∙ s.says.shows.host_events;
      controller_events = sym t.says.shows.controller_events ∙ ap (λ (r : Reading). r.controller_events) is ∙ s.says.shows.controller_events;
    }

-- an image that opens is refused with status 4 only where it is used up
pub opens_again : (c d : DriveConfig) (cells : List Cell) (fault : OpenFault) → (opens : Opens c cells) → HasSameKeys c d → TellsFault d (geometry_of d) cells fault → status_of (of_opening fault) ≡ 4 → IsUsedUp d cells opens.reading
opens_again c d cells (faults.OtherConfig key) opens same tells four = absurd (opens.faults d same (faults.OtherConfig key) tells)
opens_again c d cells faults.NotADrive opens same tells four = absurd (opens.faults d same faults.NotADrive tells)
opens_again c d cells (faults.BadImage page) opens same tells four = absurd (opens.faults d same (faults.BadImage page) tells)
opens_again c d cells (faults.FlashFault moment) opens same tells four = absurd (omega arith)
opens_again c d cells faults.Spent opens same tells four = opens.faults d same faults.Spent tells
opens_again c d cells faults.NoMemory opens same tells four = absurd (omega arith)
