-- What is to be done, and what was found for it.
use Rattle.std.specs.Prelude.{◌≡◌, ◌<◌, ◌≤◌, All, length}
use Rattle.fdp_base.specs.declared.limits.TheConstants.{LONGEST_TRACE}
use Rattle.fdp_base.specs.Config.{IsValidConfig}
use Rattle.fdp_make.specs.Load.{make_config, make_traces}
use Rattle.fdp_trace.specs.Numbers.{value_of}
use Rattle.fdp_finding.specs.declared.asked.Form.TheVariants as forms
use Rattle.fdp_finding.specs.declared.asked.LoadAsked.{LoadAsked}
use Rattle.fdp_finding.specs.declared.reading.Audited.{Audited}
use Rattle.fdp_finding.specs.declared.reading.Task.{Task}
use Rattle.fdp_finding.specs.declared.reading.Task.TheVariants as tasks
use Rattle.fdp_finding.specs.declared.reading.Wanted.{Wanted}
use Rattle.fdp_finding.specs.Traced.{IsServable}
use Rattle.fdp_finding.specs.Wanted.{Sought, audited, commands_of, session, texts_in}

-- what was found, as plain data
abbrev pub sought_of : Task → Sought
sought_of (tasks.Serve found) = session found.form found.config found.image.now (commands_of found.traces.items)
sought_of (tasks.Audit found) = audited found.config (texts_in found.texts.items)

-- it is to be served, and this holds of it
abbrev pub ServesIf : (Wanted → Type 0) → Task → Type 0
ServesIf P (tasks.Serve found) = P found
ServesIf P (tasks.Audit found) = ⊥

-- it is to be judged, and this holds of it
abbrev pub AuditsIf : (Audited → Type 0) → Task → Type 0
AuditsIf P (tasks.Serve found) = ⊥
AuditsIf P (tasks.Audit found) = P found

-- traces that a drive of a configuration can serve, each in a queue
pub record CanServe (found : Wanted) : Type 0 where
  pub valid : IsValidConfig found.config
  pub queued : length found.traces.items ≤ found.config.queues
  pub servable : All (λ trace. IsServable found.config trace.items) found.traces.items

-- one to sixteen texts, each of at most as many bytes as a trace may have, and the configuration of a drive that can be made
pub record CanJudge (found : Audited) : Type 0 where
  pub valid : IsValidConfig found.config
  pub some : 0 < length found.texts.items
  pub few : length found.texts.items ≤ 16
  pub short : All (λ text. length text.items ≤ LONGEST_TRACE) found.texts.items

-- it can be done
abbrev pub CanBegin : Task → Type 0
CanBegin (tasks.Serve found) = CanServe found
CanBegin (tasks.Audit found) = CanJudge found

-- a generated load, its drive and its traces
pub record IsLoad (load : LoadAsked) (found : Wanted) : Type 0 where
  pub form : found.form ≡ forms.Make load.number
  pub image : found.image ≡ load.image
  pub config : found.config ≡ make_config
  pub traces : commands_of found.traces.items ≡ make_traces (value_of 10 load.number.now)
