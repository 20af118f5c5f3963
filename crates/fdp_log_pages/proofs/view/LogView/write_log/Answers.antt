use Rattle.std.proofs.Common.{◌≡◌, ℕ, ◌*◌, List, length, ◌∙◌, ap, sym, subst}
use Rattle.std.proofs.lemmas.List.{length-replicate}
use Rattle.fdp_rules.specs.LogPages.{log_page, zeros}
use Rattle.fdp_pieces.specs.Parts.{part_of}
use Rattle.fdp_pieces.proofs.Putting.{puts_whole}
use Rattle.fdp_log_pages.proofs.view.LogView.write_log.Goals as goal

pub returns : goal.returns
returns c = λ p tells.
    let log = c.args.log.now in
    let old = c.args.into.now in
    let page = log_page c.args.self.now.config p log.lid log.lsp in
    let size : length old ≡ 4 * log.dwords = ap (λ (xs : List ℕ). length xs) c.requires ∙ length-replicate (4 * log.dwords) 0 in
    let empty : old ≡ zeros (length old) = c.requires ∙ ap zeros (sym size) in
    puts_whole log.offset page old c.put_page.new.into empty (c.put_page.ensures p tells) ∙ ap (λ (n : ℕ). part_of log.offset n page) size
