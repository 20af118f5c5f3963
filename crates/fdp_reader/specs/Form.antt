-- The form of an output, line by line: which line may follow which. It tells nothing of values.
use Rattle.std.specs.Prelude.{◌≡◌, ◌≢◌, ℕ, ◌+◌, Bool, false, ◌&&◌, ◌||◌, nat_le, nat_lt, if◌then◌else◌, List, [], ◌∷◌, ◌++◌, length, take, drop, codes, decimal, bytes_eq, flat_map, Option, Some, None}
use Rattle.std.specs.List.{AllByRecursion}
use Rattle.std.specs.Option.{option_map_or}
use Rattle.fdp_base.specs.declared.config.DriveConfig.{DriveConfig}
use Rattle.fdp_reader.specs.declared.place.Place.{Place}
use Rattle.fdp_reader.specs.declared.place.Place.TheVariants as places

-- a line without its end
abbrev pub IsLine : List ℕ → Type 0
IsLine line = AllByRecursion (λ (b : ℕ). b ≢ 10) line

abbrev pub AreLines : List (List ℕ) → Type 0
AreLines lines = AllByRecursion IsLine lines

-- lines, each with its end
abbrev pub ended : List ℕ → List ℕ
ended line = line ++ 10 ∷ []

abbrev pub text_of : List (List ℕ) → List ℕ
text_of lines = flat_map ended lines

abbrev pub begins : List ℕ → List ℕ → Bool
begins front line = bytes_eq (take (length front) line) front

-- the first line of a queue's output: a word and the queue's number
abbrev pub is_queue : ℕ → List ℕ → Bool
is_queue n line = begins (codes "queue ") line && bytes_eq (drop 6 line) (decimal n)

abbrev pub begins_with_digit : List ℕ → Bool
begins_with_digit [] = false
begins_with_digit (b ∷ bs) = nat_le 48 b && nat_le b 57

-- a completion begins with its number, its data with two blanks
abbrev pub is_completion : List ℕ → Bool
is_completion line = begins_with_digit line || begins (codes "  ") line

abbrev pub is_stats : List ℕ → Bool
is_stats line = begins (codes "stats ") line

-- the usage of a handle, or an event
abbrev pub is_closing : List ℕ → Bool
is_closing line = begins (codes "ruh ") line || begins (codes "event ") line

-- where a text stands after one line more, if the line may follow: queues from 1 on, with their completions, the sums, usages and events
unfoldable pub step : DriveConfig → Place → List ℕ → Option Place
step c places.Start line = if is_queue 1 line then Some (places.Queue 1) else None
step c (places.Queue n) line =
    if is_stats line then Some (places.Closing n)
    else (if nat_lt n c.queues && is_queue (n + 1) line then Some (places.Queue (n + 1))
    else (if is_completion line then Some (places.Queue n) else None))
step c (places.Closing n) line = if is_closing line then Some (places.Closing n) else None

-- of how many queues an output is that came to its end
abbrev pub queues_of : Place → Option ℕ
queues_of places.Start = None
queues_of (places.Queue n) = None
queues_of (places.Closing n) = Some n

-- and after more lines
unfoldable pub walk : DriveConfig → Place → List (List ℕ) → Option Place
walk c place [] = Some place
walk c place (line ∷ lines) = option_map_or (λ next. walk c next lines) (step c place line) None

-- a text has the form of an output of so many queues
pub record IsForm (c : DriveConfig) (traces : ℕ) (output : List ℕ) : Type 0 where
  pub lines : List (List ℕ)
  pub whole : AreLines lines
  pub text : output ≡ text_of lines
  pub steps : walk c places.Start lines ≡ Some (places.Closing traces)

-- ---- how far a text has the form

-- no line at the front of what is left may follow
abbrev pub Stops : DriveConfig → Place → List ℕ → Type 0
Stops c place rest = (line more : List ℕ) → IsLine line → rest ≡ line ++ 10 ∷ more → step c place line ≡ None

-- lines at the front of a text lead to a place
pub record Walks (c : DriveConfig) (text : List ℕ) (place : Place) (rest : List ℕ) : Type 0 where
  pub lines : List (List ℕ)
  pub whole : AreLines lines
  pub text_is : text ≡ text_of lines ++ rest
  pub steps : walk c places.Start lines ≡ Some place

-- and no more of them
pub record WalksTo (c : DriveConfig) (text : List ℕ) (place : Place) (rest : List ℕ) : Type 0 where
  pub walks : Walks c text place rest
  pub stops : Stops c place rest
