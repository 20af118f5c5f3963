-- What the words of a run ask for.
use Rattle.std.specs.Prelude.{◌≡◌, ℕ, Bool, false, not, ◌&&◌, ◌==◌, nat_le, if◌then◌else◌, List, [], ◌∷◌, length, map, codes, bytes_eq, String, string_bytes, Option, Some, None, option_and_then, option_map}
use Rattle.std.specs.Char.{is_ascii_digit}
use Rattle.std.specs.List.{list_all, list_any}
use Rattle.std.specs.declared.alloc.Global.{Global}
use Rattle.fdp_trace.specs.Numbers.{value_of}
use Rattle.fdp_finding.specs.declared.asked.Texts.{Texts}
use Rattle.fdp_finding.specs.declared.asked.Texts.TheVariants as texts
use Rattle.fdp_finding.specs.declared.asked.TheConstants.{LONGEST_NUMBER, MOST_NUMBER, MOST_RECORDS, MOST_TRACES}

-- the names of the texts that a run reads, and of the image that holds its drive
pub record Names : Type 0 where
  pub config : List ℕ
  pub image : List ℕ
  pub traces : List (List ℕ)

-- a generated load: the number of commands of each of its traces as the words give it, and the name of the image that holds its drive
pub record Load : Type 0 where
  pub number : List ℕ
  pub image : List ℕ

-- two words
pub record Pair : Type 0 where
  pub first : List ℕ
  pub second : List ℕ

-- the names of a configuration and of the records of runs that followed one another on one image
pub record AuditNames : Type 0 where
  pub config : List ℕ
  pub texts : List (List ℕ)

-- what is asked for: to serve the traces of these names and print the output, or that and the history; the same of streams; to serve a generated load; or to judge records
pub data Asked : Type 0 where
  running : Names → Asked
  recording : Names → Asked
  streaming : Names → Asked
  recording_streams : Names → Asked
  making : Load → Asked
  auditing : AuditNames → Asked

-- a word that begins with `-`
abbrev pub begins_with_dash : List ℕ → Bool
begins_with_dash [] = false
begins_with_dash (first ∷ rest) = first == 45

-- the words behind `run` and `record`, `stream` and `stream-record`: a configuration, an image, and 1 to 16 traces or streams
abbrev pub names_of : List (List ℕ) → Option Names
names_of [] = None
names_of (config ∷ []) = None
names_of (config ∷ image ∷ []) = None
names_of (config ∷ image ∷ trace ∷ more) =
    if nat_le (length (trace ∷ more)) MOST_TRACES then Some (record { config = config; image = image; traces = trace ∷ more }) else None

-- one to four digits that spell at most 8,192
abbrev pub is_number : List ℕ → Bool
is_number digits =
    not (length digits == 0) && nat_le (length digits) LONGEST_NUMBER && list_all is_ascii_digit digits && nat_le (value_of 10 digits) MOST_NUMBER

-- the words are two
abbrev pub pair_of : List (List ℕ) → Option Pair
pair_of [] = None
pair_of (first ∷ []) = None
pair_of (first ∷ second ∷ []) = Some (record { first = first; second = second })
pair_of (first ∷ second ∷ more ∷ others) = None

-- behind `make`: a number, and an image
abbrev pub numbered : Pair → Option Load
numbered pair = if is_number pair.first then Some (record { number = pair.first; image = pair.second }) else None

abbrev pub load_of : List (List ℕ) → Option Load
load_of words = option_and_then numbered (pair_of words)

-- behind `audit`: a configuration, and 1 to 16 records
abbrev pub audit_of : List (List ℕ) → Option AuditNames
audit_of [] = None
audit_of (config ∷ []) = None
audit_of (config ∷ text ∷ more) =
    if nat_le (length (text ∷ more)) MOST_RECORDS then Some (record { config = config; texts = text ∷ more }) else None

-- what the words ask for behind the first, which chooses
abbrev pub chosen_by : List ℕ → List (List ℕ) → Option Asked
chosen_by word words =
    if bytes_eq word (codes "run") then option_map running (names_of words)
    else if bytes_eq word (codes "record") then option_map recording (names_of words)
    else if bytes_eq word (codes "stream") then option_map streaming (names_of words)
    else if bytes_eq word (codes "stream-record") then option_map recording_streams (names_of words)
    else if bytes_eq word (codes "make") then option_map making (load_of words)
    else if bytes_eq word (codes "audit") then option_map auditing (audit_of words)
    else None

-- what the words ask for, where they have one of the six forms and none of them begins with `-`
abbrev pub asked_by : List (List ℕ) → Option Asked
asked_by [] = None
asked_by (word ∷ words) = if list_any begins_with_dash (word ∷ words) then None else chosen_by word words

abbrev pub asked_of : List (String Global) → Option Asked
asked_of words = asked_by (map string_bytes words)

-- the texts that are asked for, and what they are
abbrev pub texts_of : Asked → Option (Texts × Names)
texts_of (running names) = Some (texts.Traces, names)
texts_of (recording names) = Some (texts.Traces, names)
texts_of (streaming names) = Some (texts.Streams, names)
texts_of (recording_streams names) = Some (texts.Streams, names)
texts_of (making load) = None
texts_of (auditing names) = None

-- the words ask for these texts
abbrev pub AsksForTexts : List (String Global) → Texts → Names → Type 0
AsksForTexts words kind names = option_and_then texts_of (asked_of words) ≡ Some (kind, names)
