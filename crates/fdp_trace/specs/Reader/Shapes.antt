-- The shapes of the lines: which words begin one, how many words follow, and which of them are fixed.
use Rattle.std.specs.Prelude.{ℕ, ◌+◌, ◌%◌, Bool, true, false, not, ◌&&◌, ◌||◌, ◌==◌, if◌then◌else◌, nat_le, List, [], ◌∷◌, codes, bytes_eq, Option, Some, None, is_none}
use Rattle.fdp_trace.specs.Reader.NumberOf.{number_of}
use Rattle.fdp_trace.specs.declared.command_word.CommandWord.{CommandWord}
use Rattle.fdp_trace.specs.declared.command_word.CommandWord.TheVariants.{Write, Read, Zero, Dealloc, Flush, Status, Update, Log, SetFdp, GetFdp, SetEvents, Create, Delete}

-- the command that a first word stands for
unfoldable pub word_named : List ℕ → Option CommandWord
word_named text =
    if bytes_eq text (codes "write") then Some Write
    else (if bytes_eq text (codes "read") then Some Read
    else (if bytes_eq text (codes "zero") then Some Zero
    else (if bytes_eq text (codes "dealloc") then Some Dealloc
    else (if bytes_eq text (codes "flush") then Some Flush
    else (if bytes_eq text (codes "status") then Some Status
    else (if bytes_eq text (codes "update") then Some Update
    else (if bytes_eq text (codes "log") then Some Log
    else (if bytes_eq text (codes "set-fdp") then Some SetFdp
    else (if bytes_eq text (codes "get-fdp") then Some GetFdp
    else (if bytes_eq text (codes "set-events") then Some SetEvents
    else (if bytes_eq text (codes "create") then Some Create
    else (if bytes_eq text (codes "delete") then Some Delete
    else None))))))))))))

-- how many words may follow the first
abbrev pub accepts : CommandWord → ℕ → Bool
accepts Write n = (n == 4) || (n == 6)
accepts Read n = n == 3
accepts Zero n = n == 3
accepts Dealloc n = nat_le 3 n && nat_le n 513 && (n % 2 == 1)
accepts Flush n = n == 1
accepts Status n = n == 2
accepts Update n = nat_le 2 n && nat_le n 257
accepts Log n = (n == 3) || (n == 4)
accepts SetFdp n = n == 2
accepts GetFdp n = n == 0
accepts SetEvents n = nat_le 4 n && nat_le n 9
accepts Create n = nat_le 1 n && nat_le n 33
accepts Delete n = n == 1

-- the place behind the first word where a fixed word stands; everywhere else stands a number
abbrev pub is_fixed : CommandWord → ℕ → Bool
is_fixed Write i = i == 4
is_fixed Read i = false
is_fixed Zero i = false
is_fixed Dealloc i = false
is_fixed Flush i = false
is_fixed Status i = false
is_fixed Update i = false
is_fixed Log i = i == 3
is_fixed SetFdp i = i == 0
is_fixed GetFdp i = false
is_fixed SetEvents i = i == 2
is_fixed Create i = false
is_fixed Delete i = false

-- the fixed words
abbrev pub is_choice : CommandWord → List ℕ → Bool
is_choice Write text = bytes_eq text (codes "pid")
is_choice Read text = false
is_choice Zero text = false
is_choice Dealloc text = false
is_choice Flush text = false
is_choice Status text = false
is_choice Update text = false
is_choice Log text = bytes_eq text (codes "host") || bytes_eq text (codes "ctrl")
is_choice SetFdp text = bytes_eq text (codes "on") || bytes_eq text (codes "off")
is_choice GetFdp text = false
is_choice SetEvents text = bytes_eq text (codes "on") || bytes_eq text (codes "off")
is_choice Create text = false
is_choice Delete text = false

-- the fixed words are such, from a place on
unfoldable pub words_fit : CommandWord → ℕ → List (List ℕ) → Bool
words_fit word i [] = true
words_fit word i (text ∷ texts) = if is_fixed word i && not (is_choice word text) then false else words_fit word (i + 1) texts

-- the others are numbers, from a place on
unfoldable pub numbers_fit : CommandWord → ℕ → List (List ℕ) → Bool
numbers_fit word i [] = true
numbers_fit word i (text ∷ texts) = if not (is_fixed word i) && is_none (number_of text) then false else numbers_fit word (i + 1) texts
