use Rattle.std.proofs.Common.{◌≡◌, ◌∙◌, ap, arith, length}
use Rattle.fdp_tables.proofs.Lying.{all-among}
use Rattle.fdp_tables.proofs.blocks.Blocks.count_in.Goals as goal

pub returns-else-rg-lt16 : goal.returns-else-rg-lt16
returns-else-rg-lt16 c =
    let n : c.len.result ≡ length c.args.self.now = omega (arith, c.len.ensures, ap (λ xs. length xs) c.self.view_is) in
    c.count_among.ensures ∙ all-among c.args.rg c.args.self.now c.len.result n
