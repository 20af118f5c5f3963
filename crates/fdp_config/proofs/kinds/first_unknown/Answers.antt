use Rattle.std.proofs.Common.{Some, option_map, string_bytes, sym, ap, ◌∙◌}
use Rattle.fdp_config.proofs.Order.{first_unknown_of}
use Rattle.fdp_config.proofs.Passing.{find-words}
use Rattle.fdp_config.specs.Kinds.{is_unknown}
use Rattle.fdp_config.proofs.kinds.first_unknown.Goals as goal

pub returns-in-Some-clause-value : goal.returns-in-Some-clause-value
returns-in-Some-clause-value c = ap Some c.as_str.ensures.value ∙ ap (option_map string_bytes) c.in-Some.ensures.value ∙ find-words is_unknown c.args.table.now.entries

pub returns-in-None-clause-value : goal.returns-in-None-clause-value
returns-in-None-clause-value c = ap (option_map string_bytes) c.in-None.ensures.value ∙ find-words is_unknown c.args.table.now.entries

pub returns-in-Some-clause-first : goal.returns-in-Some-clause-first
returns-in-Some-clause-first c =
    rw c.as_str.ensures.value (first_unknown_of (string_bytes c.in-Some.word.now) c.args.table.now.entries c.in-Some.ensures.ordered (sym (ap (option_map string_bytes) c.in-Some.ensures.value ∙ find-words is_unknown c.args.table.now.entries)))
