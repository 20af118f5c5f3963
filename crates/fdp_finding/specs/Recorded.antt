-- The records that an audit finds, or why it finds none.
use Rattle.std.specs.Prelude.{◌≡◌, ◌≤◌, ◌==◌, ℕ, if◌then◌else◌, IsTrue, List, length, Option, Some, None}
use Rattle.fdp_base.specs.declared.limits.TheConstants.{LONGEST_TRACE}
use Rattle.fdp_io.specs.Bench.{BenchState}
use Rattle.fdp_finding.specs.declared.no_record.NoRecord.{NoRecord}
use Rattle.fdp_finding.specs.declared.no_record.NoRecord.TheVariants.{Absent, Line, TooLong}
use Rattle.fdp_finding.specs.Traced.{IsTooLong}

-- a text of at most as many bytes as a trace may have; where the bench tells its texts, it is the one of this name
pub record ReadsRecord (bench : BenchState) (name text : List ℕ) : Type 0 where
  pub short : length text ≤ LONGEST_TRACE
  pub there : IsTrue bench.told → bench.text name ≡ Some text

-- where the bench tells its texts, there is none of this name, or it is longer; what a text says is not looked at here
abbrev pub ReadsNoRecord : BenchState → List ℕ → NoRecord → Type 0
ReadsNoRecord bench name Absent = IsTrue bench.told → bench.text name ≡ None
ReadsNoRecord bench name TooLong = IsTrue bench.told → IsTooLong (bench.text name)
ReadsNoRecord bench name (Line line) = ⊥

-- the number of a record among so many, from 1; the only one has none
abbrev pub number_among : ℕ → ℕ → Option ℕ
number_among count number = if count == 1 then None else Some number
