use Rattle.fdp_durability.specs.Saved.{with_saved}
use Rattle.fdp_durability.proofs.Beginnings.{image-stands}
use Rattle.fdp_durability.proofs.Said.{saving-durable, saving-tells}
use Rattle.fdp_durability.proofs.saved.savings_keep_what_is_durable.Goals as goal

pub returns-clause-images : goal.returns-clause-images
returns-clause-images c = λ d f es added firm s t old given first rest drive saves h can can_then answer image reads. image-stands d f (with_saved es added answer) firm t old image _ (saving-tells d f es added firm s t old given first rest drive saves h can can_then answer) reads

pub returns-clause-after : goal.returns-clause-after
returns-clause-after c = saving-durable
