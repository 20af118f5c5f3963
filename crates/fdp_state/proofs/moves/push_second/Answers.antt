use Rattle.std.proofs.Common.{◌∙◌, ◌++◌, ℕ, List, ap, sym}
use Rattle.std.proofs.lemmas.List.{append-nil}
use Rattle.fdp_image.specs.Changed.{page_numbers}
use Rattle.fdp_records.specs.Records.{target_or_none}
use Rattle.fdp_state.proofs.Moving.{no_pages}
use Rattle.fdp_state.proofs.moves.push_second.Goals as goal

pub returns-in-None : goal.returns-in-None
returns-in-None c =
    sym (append-nil c.args.to.now.items)
    ∙ ap (λ (xs : List ℕ). c.args.to.now.items ++ xs) (sym (ap (λ o. page_numbers c.args.config.now (target_or_none o)) c.in-None.is ∙ no_pages c.args.config.now))
