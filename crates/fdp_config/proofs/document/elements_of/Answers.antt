use Rattle.std.proofs.Common.{sym}
use Rattle.fdp_config.proofs.Views.{items_list-view}
use Rattle.fdp_config.proofs.document.elements_of.Goals as goal

pub returns-in-Some-as_array : goal.returns-in-Some-as_array
returns-in-Some-as_array c =
    let known = rw c.in-Some-as_array.is at c.as_array.ensures in
    rw (c.in-Some.is, ← known, c.as_slice.ensures.value) (sym (items_list-view _))
