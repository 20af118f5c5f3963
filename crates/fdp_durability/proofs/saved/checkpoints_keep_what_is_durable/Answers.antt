use Rattle.fdp_durability.proofs.Beginnings.{image-stands}
use Rattle.fdp_durability.proofs.Said.{renewal-durable, renewal-tells}
use Rattle.fdp_durability.proofs.saved.checkpoints_keep_what_is_durable.Goals as goal

pub returns-clause-images : goal.returns-clause-images
returns-clause-images c = λ d f es firm s t old given drive h can wanted image reads. image-stands d f es firm t old image _ (renewal-tells d f es firm s t old given drive h can wanted) reads

pub returns-clause-after : goal.returns-clause-after
returns-clause-after c = renewal-durable
