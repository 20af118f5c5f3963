-- What the reader of command lines finds, and what the words behind the first come to.
use Rattle.std.specs.Prelude.{◌≡◌, ◌<◌, ◌≤◌, ℕ, true, List, length, Option, Some, None, codes, map, option_map, String, string_bytes}
use Rattle.std.specs.declared.alloc.Global.{Global}
use Rattle.clap.specs.Simple.{on_top}
use Rattle.clap.specs.Words.{App, Rule, first_value, found_of, matched_of, new_app, new_rule, raw_values}
use Rattle.clap.specs.declared.parser.matches.ArgMatches.{ArgMatches}
use Rattle.fdp_trace.specs.Numbers.{value_of}
use Rattle.fdp_finding.specs.declared.asked.AuditAsked.{AuditAsked}
use Rattle.fdp_finding.specs.declared.asked.Request.{Request}
use Rattle.fdp_finding.specs.declared.asked.Request.TheVariants as requests
use Rattle.fdp_finding.specs.declared.asked.LoadAsked.{LoadAsked}
use Rattle.fdp_finding.specs.declared.asked.NamesAsked.{NamesAsked}
use Rattle.fdp_finding.specs.declared.asked.NotAsked.{NotAsked}
use Rattle.fdp_finding.specs.declared.asked.NotAsked.TheVariants as causes
use Rattle.fdp_finding.specs.declared.asked.TheConstants.{MOST_NUMBER, MOST_RECORDS}
use Rattle.fdp_finding.specs.declared.command_line.PairAsked.{PairAsked}
use Rattle.fdp_finding.specs.Asked.{Asked, AuditNames, Load, Names, Pair, auditing, making, recording, recording_streams, running, streaming}

-- the texts behind words
abbrev pub spelled : List (String Global) → List (List ℕ)
spelled = map string_bytes

-- what was matched are these names
pub record AreNames (m : ArgMatches) (names : Names) : Type 0 where
  pub config : first_value (found_of m) (codes "CONFIG") ≡ Some names.config
  pub image : first_value (found_of m) (codes "IMAGE") ≡ Some names.image
  pub traces : option_map raw_values (matched_of (found_of m) (codes "TRACE")) ≡ Some names.traces

-- what was matched are two words
pub record ArePair (m : ArgMatches) (pair : Pair) : Type 0 where
  pub first_is : first_value (found_of m) (codes "FIRST") ≡ Some pair.first
  pub second_is : first_value (found_of m) (codes "SECOND") ≡ Some pair.second

-- what was matched are the names of an audit
pub record AreAuditNames (m : ArgMatches) (names : AuditNames) : Type 0 where
  pub config : first_value (found_of m) (codes "CONFIG") ≡ Some names.config
  pub texts : option_map raw_values (matched_of (found_of m) (codes "RECORD")) ≡ Some names.texts

-- a command without a word of its own, and without options
abbrev pub bare : App
bare = on_top (λ s. record s { no_binary_name = true; disable_help_flag = true }) (new_app (codes "fdpdrive"))

-- an argument that is one word, in its place
abbrev pub one : List ℕ → Rule
one id = record (new_rule id) { required = true }

-- an argument that is one word or more, up to so many, at the end
abbrev pub one_to : ℕ → List ℕ → Rule
one_to most id = record (one id) { range = Some (record { start_inclusive = 1; end_inclusive = most }) }

-- names, a pair, the names of an audit and a load as texts
abbrev pub as_names : NamesAsked → Names
as_names names = record { config = names.config.now; image = names.image.now; traces = map (λ name. name.now) names.traces.items }

abbrev pub as_pair : PairAsked → Pair
as_pair pair = record { first = pair.first.now; second = pair.second.now }

abbrev pub as_audit : AuditAsked → AuditNames
as_audit audit = record { config = audit.config.now; texts = map (λ name. name.now) audit.texts.items }

abbrev pub as_load : LoadAsked → Load
as_load load = record { number = load.number.now; image = load.image.now }

-- the digits spell so many commands
pub record Counts (load : LoadAsked) : Type 0 where
  pub value : load.commands ≡ value_of 10 load.number.now
  pub few : load.commands ≤ MOST_NUMBER

-- the records are one to sixteen
pub record AreFew (audit : AuditAsked) : Type 0 where
  pub some : 0 < length audit.texts.items
  pub few : length audit.texts.items ≤ MOST_RECORDS

-- this is what is asked for
abbrev pub AsksFor : Option Asked → Request → Type 0
AsksFor found (requests.Run names) = found ≡ Some (running (as_names names))
AsksFor found (requests.Record names) = found ≡ Some (recording (as_names names))
AsksFor found (requests.Stream names) = found ≡ Some (streaming (as_names names))
AsksFor found (requests.StreamRecord names) = found ≡ Some (recording_streams (as_names names))
AsksFor found (requests.Make load) = (found ≡ Some (making (as_load load))) × Counts load
AsksFor found (requests.Audit audit) = (found ≡ Some (auditing (as_audit audit))) × AreFew audit

-- nothing is found for a faulty command line; want of memory comes freely
abbrev pub Misses : {A : Type 0} → Option A → NotAsked → Type 0
Misses found causes.Usage = found ≡ None
Misses found causes.NoMemory = Unit {0}
