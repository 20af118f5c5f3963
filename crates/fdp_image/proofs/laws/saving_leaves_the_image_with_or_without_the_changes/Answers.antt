use Rattle.fdp_image.proofs.NextRecord.{next_record_reads}
use Rattle.fdp_image.proofs.laws.saving_leaves_the_image_with_or_without_the_changes.Goals as goal

pub returns : goal.returns
returns c = next_record_reads
