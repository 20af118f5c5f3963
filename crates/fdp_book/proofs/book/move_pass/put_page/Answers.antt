use Rattle.std.proofs.Common.{refl, sym, ◌∙◌}
use Rattle.fdp_book.proofs.Relocating.Placing.{page-set}
use Rattle.fdp_book.proofs.book.move_pass.put_page.Goals as goal

pub returns : goal.returns
returns c = λ f e. page-set f c.in-Some.flight _ c.args.index c.from.result c.args.to c.as_mut_slice-pages.result.now (sym c.in-Some.is ∙ e) refl c.as_mut_slice-pages.ensures.value c.from.ensures refl
