-- Why a drive was not opened, as a fault of the run.
use Rattle.fdp_finding.specs.declared.fault.Fault.{Fault}
use Rattle.fdp_finding.specs.declared.fault.Fault.TheVariants as faults
use Rattle.fdp_finding.specs.declared.image.ImageFault.TheVariants as images
use Rattle.fdp_drive.specs.fdp_recovery.declared.opened.OpenFault.{OpenFault}
use Rattle.fdp_drive.specs.fdp_recovery.declared.opened.OpenFault.TheVariants as opens

-- what the cells show is a fault of the image; a call that failed is one of the flash
abbrev pub of_opening : OpenFault → Fault
of_opening (opens.OtherConfig key) = faults.Image (images.Other key)
of_opening opens.NotADrive = faults.Image images.NotADrive
of_opening (opens.BadImage page) = faults.Image (images.Bad page)
of_opening (opens.FlashFault moment) = faults.Flash
of_opening opens.Spent = faults.Image images.Spent
of_opening opens.NoMemory = faults.NoMemory
