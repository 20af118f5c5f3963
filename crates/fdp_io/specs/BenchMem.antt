-- What contracts see of a bench in memory.
use Rattle.std.specs.Prelude.{◌≡◌, ℕ, ◌↔◌, ◌⊎◌, Bool, true, false, IsTrue, List, Option, Some, None, Result, Ok, Err, bytes_eq, if◌then◌else◌}
use Rattle.std.specs.List.{Contains}
use Rattle.std.specs.Option.{option_map, option_or}
use Rattle.fdp_base.specs.Counts.{counted}
use Rattle.fdp_flash.specs.declared.memory.FlashMem.{FlashMem}
use Rattle.fdp_io.specs.declared.bench.NotTaken.{NotTaken}
use Rattle.fdp_io.specs.declared.bench.NotTaken.TheVariants as refusals
use Rattle.fdp_io.specs.declared.bench_mem.BenchMem.{BenchMem}
use Rattle.fdp_io.specs.Bench.{BenchState, SameElsewhere, SameTexts}
use Rattle.fdp_io.specs.Berths.{flash_in, image_of, is_out_of}
use Rattle.fdp_io.specs.Calls.{CallsState, MakesCall, calls_of, faults_of}
use Rattle.fdp_io.specs.Texts.{text_named}

abbrev pub bench_state : BenchMem → BenchState
bench_state bench = record {
  faults = faults_of bench.calls;
  told = true;
  text = λ name. text_named name bench.texts.items;
  image = λ name. option_map image_of (flash_in bench.berths name);
  is_out = is_out_of bench.berths;
}

-- its calls
abbrev pub bench_calls : BenchMem → CallsState
bench_calls bench = calls_of bench.calls

-- the flash that lies there under a name
abbrev pub flash_on : BenchMem → List ℕ → Option FlashMem
flash_on bench name = flash_in bench.berths name

-- no text and no flash is there, and none is out
pub record IsEmptyBench (s : BenchState) : Type 0 where
  pub tells : s.told ≡ true
  pub no_faults : s.faults ≡ 0
  pub empty : (name : List ℕ) → s.text name ≡ None
  pub no_flash : (name : List ℕ) → s.image name ≡ None
  pub none_out : (name : List ℕ) → s.is_out name ≡ false

-- a text was added under a name; a name that had a text keeps it
pub record AddsText (old : BenchState) (name text : List ℕ) (new : BenchState) : Type 0 where
  pub text_of : (n : List ℕ) → new.text n ≡ option_or (old.text n) (if bytes_eq name n then Some text else None)
  pub tells : new.told ≡ old.told
  pub same_faults : new.faults ≡ old.faults

-- a flash was laid down under a name, in the place of what was there
pub record LaysFlash (old : BenchState) (name : List ℕ) (flash : FlashMem) (new : BenchState) : Type 0 where
  pub lies : new.image name ≡ Some (image_of flash)
  pub lies_there : new.is_out name ≡ false
  pub elsewhere : SameElsewhere old new name
  pub texts : SameTexts old new
  pub same_faults : new.faults ≡ old.faults

-- whether a flash was not handed out since a call failed
abbrev pub take_failed : {F : Type 0} → Result F NotTaken → Bool
take_failed (Ok flash) = false
take_failed (Err refusals.Failed) = true
take_failed (Err refusals.NoMemory) = false

-- a flash is not handed out just where that was to fail or it is out, and just that is counted
pub record TakesAsPlanned (old new : BenchMem) (name : List ℕ) (failed : Bool) : Type 0 where
  pub made : (bench_calls new).made ≡ counted (bench_calls old).made
  pub plan : (bench_calls new).failing ≡ (bench_calls old).failing
  pub fails : IsTrue failed ↔ (Contains (bench_calls old).failing (bench_calls new).made ⊎ IsTrue ((bench_state old).is_out name))
  pub counts : (bench_state new).faults ≡ (if failed then counted (bench_state old).faults else (bench_state old).faults)

-- a flash was given back, in a call that may have failed, and just that is counted
abbrev pub GivesAsPlanned : BenchMem → BenchMem → Type 0
GivesAsPlanned old new = (failed : Bool) × MakesCall (bench_calls old) (bench_calls new) failed
