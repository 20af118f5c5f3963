-- A text that is read from a reader, as the file of a bench.
use Rattle.std.specs.Prelude.{◌≡◌, ℕ, ◌<◌, ◌≤◌, List, length, Option}
use Rattle.std.specs.Option.{IfSome}
use Rattle.fdp_io.specs.declared.bench.TextRead.{TextRead}
use Rattle.fdp_io.specs.declared.bench.TextRead.TheVariants.{Done, Missing, TooLong, Failed, NoMemory}

-- what each answer says of the bytes that the reader has left, where it tells them: Done gives all of them, and they are not
-- above the limit; too long is what has more
abbrev pub ReadsRest : Option (List ℕ) → ℕ → List ℕ → TextRead → Type 0
ReadsRest left limit bytes Done = (length bytes ≤ limit) × IfSome left (λ rest. bytes ≡ rest)
ReadsRest left limit bytes TooLong = IfSome left (λ rest. limit < length rest)
ReadsRest left limit bytes Missing = ⊥
ReadsRest left limit bytes Failed = Unit {0}
ReadsRest left limit bytes NoMemory = Unit {0}
