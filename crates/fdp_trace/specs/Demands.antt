-- How far the words of a line come in the grammar, and what they lack.
use Rattle.std.specs.Prelude.{◌≡◌, ℕ, ◌≤◌, List, length, take, ◌⊎◌}
use Rattle.std.specs.List.{AllZip}
use Rattle.fdp_base.specs.declared.command.Command.{Command}
use Rattle.fdp_trace.specs.declared.fault.FaultKind.{FaultKind}
use Rattle.fdp_trace.specs.declared.fault.FaultKind.TheVariants as kinds
use Rattle.fdp_trace.specs.Numbers.{IsNumber}
use Rattle.fdp_trace.specs.Lines.{Part, Fixed, Number, IsLine}

-- a fixed word stands in its place
abbrev pub IsWordFor : Part → List ℕ → Type 0
IsWordFor (Fixed text) word = word ≡ text
IsWordFor (Number low high n) word = Unit {0}

-- and a number where one has to stand
abbrev pub IsNumberFor : Part → List ℕ → Type 0
IsNumberFor (Fixed text) word = word ≡ text
IsNumberFor (Number low high n) word = IsNumber word n

-- and the number is within its range
abbrev pub IsInRange : Part → List ℕ → Type 0
IsInRange (Fixed text) word = word ≡ text
IsInRange (Number low high n) word = IsNumber word n × (low ≤ n) × (n ≤ high)

-- the words begin as the line does
abbrev pub HasFirst : List Part → List (List ℕ) → Type 0
HasFirst line words = AllZip IsWordFor (take 1 line) (take 1 words)

-- and they are as many
abbrev pub HasCount : List Part → List (List ℕ) → Type 0
HasCount line words = HasFirst line words × (length words ≡ length line)

-- and the fixed words stand in their places
abbrev pub HasWords : List Part → List (List ℕ) → Type 0
HasWords line words = AllZip IsWordFor line words

-- and numbers where numbers have to stand
abbrev pub HasNumbers : List Part → List (List ℕ) → Type 0
HasNumbers line words = AllZip IsNumberFor line words

-- and the numbers are within their ranges
abbrev pub HasRanges : List Part → List (List ℕ) → Type 0
HasRanges line words = AllZip IsInRange line words

-- some line of the grammar has what is demanded
abbrev pub Meets : (List Part → List (List ℕ) → Type 0) → List (List ℕ) → Type 0
Meets demand words = (line : List Part) × (command : Command) × IsLine line command × demand line words

-- some line has the one, and none has the other, which comes after it
abbrev pub Lacks : (had lacked : List Part → List (List ℕ) → Type 0) → List (List ℕ) → Type 0
Lacks had lacked words = Meets had words × (Meets lacked words → ⊥)

-- the words are those of a line that spells this command
abbrev pub Spells : List (List ℕ) → Command → Type 0
Spells words command = (line : List Part) × IsLine line command × HasRanges line words

-- the first thing that the words lack: no line begins so, none is as long, none has these fixed words, numbers or ranges
abbrev pub WordsLack : List (List ℕ) → FaultKind → Type 0
WordsLack words kinds.Word = (Meets HasFirst words → ⊥) ⊎ Lacks HasCount HasWords words
WordsLack words kinds.Count = Lacks HasFirst HasCount words
WordsLack words kinds.Number = Lacks HasWords HasNumbers words
WordsLack words kinds.Range = Lacks HasNumbers HasRanges words
WordsLack words kinds.Long = ⊥
WordsLack words kinds.Utf8 = ⊥
