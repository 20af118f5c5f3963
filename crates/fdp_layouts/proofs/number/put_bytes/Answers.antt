use Rattle.std.proofs.Common.{arith, ap, sym, ◌∙◌, List, ℕ, ◌+◌, ◌-◌}
use Rattle.fdp_layouts.specs.Frame.{placed}
use Rattle.fdp_layouts.proofs.Bytes.{bytes_fit, bytes_of_parts}
use Rattle.fdp_layouts.proofs.Placing.{wrote_all}
use Rattle.fdp_layouts.proofs.number.put_bytes.Goals as goal

pub returns-clause-placed : goal.returns-clause-placed
returns-clause-placed g c =
    let parts = bytes_of_parts g.row.LEN c.args.part.now c.told-part c.see_bytes.ensures in
    wrote_all c.args.at (c.args.at + g.row.LEN - c.args.at) c.args.frame.now _ c.args.part.now (omega arith) (omega arith) c.copy_from_slice.ensures.after
    ∙ ap (λ (bs : List ℕ). placed c.args.at bs c.args.frame.now) (sym parts)

pub returns-clause-fits : goal.returns-clause-fits
returns-clause-fits g c = bytes_fit g.row.LEN c.args.part.now c.told-part c.see_bytes.ensures
