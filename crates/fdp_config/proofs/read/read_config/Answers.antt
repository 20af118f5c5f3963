use Rattle.fdp_config.proofs.Answer.{config_answer, fault_answer, first_answer, read_answer, told_answer, valid_answer}
use Rattle.fdp_config.proofs.read.read_config.Goals as goal

pub returns-in-Ok-clause-config : goal.returns-in-Ok-clause-config
returns-in-Ok-clause-config c = config_answer _ _ _ c.in-Ok.ensures.ok c.read_table.ensures.config

pub returns-in-Ok-clause-fault : goal.returns-in-Ok-clause-fault
returns-in-Ok-clause-fault c = fault_answer _ _ _ c.in-Ok.ensures.ok c.read_table.ensures.fault

pub returns-in-Ok-clause-read : goal.returns-in-Ok-clause-read
returns-in-Ok-clause-read c = read_answer _ _ _ c.in-Ok.ensures.ok c.read_table.ensures.config c.read_table.ensures.fault

pub returns-in-Ok-clause-told : goal.returns-in-Ok-clause-told
returns-in-Ok-clause-told c = told_answer _ _ _ c.in-Ok.ensures.ok c.read_table.ensures.config c.read_table.ensures.fault

pub returns-in-Ok-clause-valid : goal.returns-in-Ok-clause-valid
returns-in-Ok-clause-valid c = valid_answer _ _ (config_answer _ _ _ c.in-Ok.ensures.ok c.read_table.ensures.config)

pub returns-in-Ok-clause-first : goal.returns-in-Ok-clause-first
returns-in-Ok-clause-first c = first_answer _ _ _ c.in-Ok.ensures.ok c.read_table.ensures.first
