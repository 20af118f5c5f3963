-- What contracts see of a bench over files: its count of faults, and which flashes are out. It tells no texts and no flashes.
use Rattle.std.specs.Prelude.{◌≡◌, ℕ, Bool, true, false, List, None, Result, Ok, Err, bytes_eq, String}
use Rattle.std.specs.BTreeSet.{BTreeSet, contains_text}
use Rattle.std.specs.declared.alloc.AllocError.{AllocError}
use Rattle.std.specs.declared.alloc.Global.{Global}
use Rattle.fdp_io.specs.declared.bench_file.BenchFile.{BenchFile}
use Rattle.fdp_io.specs.Bench.{BenchState}

-- the names of the flashes that are out
abbrev pub Names : Type 0
Names = BTreeSet (String Global)

abbrev pub file_bench : {R : Type 0} → BenchFile R → BenchState
file_bench bench = record {
  faults = bench.faults;
  told = false;
  text = λ name. None;
  image = λ name. None;
  is_out = contains_text bench.out;
}

-- a name is among them now, or is not, and all others as they were
pub record SetsName (old new : Names) (name : List ℕ) (among : Bool) : Type 0 where
  pub here : contains_text new name ≡ among
  pub elsewhere : (other : List ℕ) → bytes_eq name other ≡ false → contains_text new other ≡ contains_text old other

-- a name that was not among them was added, or it was among them already, or memory was wanting
abbrev pub AddsName : Names → Names → List ℕ → Result Bool AllocError → Type 0
AddsName old new name (Ok true) = (contains_text old name ≡ false) × SetsName old new name true
AddsName old new name (Ok false) = contains_text new ≡ contains_text old
AddsName old new name (Err e) = contains_text new ≡ contains_text old
