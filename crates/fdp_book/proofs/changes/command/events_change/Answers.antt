use Rattle.std.proofs.Common.{◌∙◌, ℕ, ap}
use Rattle.std.specs.Prelude.{◌==◌}
use Rattle.std.specs.List.{list_any}
use Rattle.std.proofs.lemmas.Bool.{lt-ltb}
use Rattle.fdp_base.specs.EventCodes.{kind_code}
use Rattle.fdp_records.specs.declared.change.Change.TheVariants as changes
use Rattle.fdp_records.specs.Limits.{is_within_limits}
use Rattle.fdp_book.proofs.changes.command.events_change.Goals as goal

pub returns-clause-change : goal.returns-clause-change
returns-clause-change c = record {
  mask = c.mask_of.result;
  kinds = λ kind. c.mask_of.ensures.kinds kind ∙ ap (list_any (λ code. code == kind_code kind)) c.as_slice.ensures;
  known = c.mask_of.ensures.low;
  change_is = ap (λ (n : ℕ). changes.SetEvents n c.args.set.now.enable c.mask_of.result) c.handle_of.ensures;
}

pub returns-clause-limits : goal.returns-clause-limits
unfolding is_within_limits
returns-clause-limits c = lt-ltb c.mask_of.result 64 c.mask_of.ensures.low
