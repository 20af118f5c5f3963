-- The form of the generated traces.
use Rattle.std.proofs.Common.{◌≡◌, ℕ, zero, suc, ◌+◌, ◌-◌, ◌≤◌, All, [], get_or, length, map, refl, arith, ap}
use Rattle.std.proofs.lemmas.List.Elements.{All-cons, All-from_recursion, All-nil}
use Rattle.fdp_base.specs.declared.config.DriveConfig.{DriveConfig}
use Rattle.fdp_base.specs.declared.limits.TheConstants.{MOST_TRACE_COMMANDS}
use Rattle.fdp_base.specs.CommandKinds.{IsWellFormed}
use Rattle.fdp_base.specs.Geometry.{IsWithin}
use Rattle.fdp_base.specs.Numbers.{numbers_from}
use Rattle.fdp_make.specs.Load.{CanBeServed, address, make_command, make_trace, make_traces, number_at}
use Rattle.fdp_make.proofs.Loads.{by-made}

made-formed : (c : DriveConfig) (trace k : ℕ) → IsWellFormed c (make_command trace k)
made-formed c trace k = by-made (IsWellFormed c) trace k (address trace (number_at trace (k + 1))) (omega arith, omega arith) ((omega arith, omega arith), tt)

all-formed : (c : DriveConfig) (trace i n : ℕ) → All (IsWellFormed c) (map (make_command trace) (numbers_from i n))
unfolding numbers_from
all-formed c trace i zero = All-nil (IsWellFormed c)
all-formed c trace i (suc n) = All-cons (IsWellFormed c) (make_command trace i) (map (make_command trace) (numbers_from (i + 1) n)) (made-formed c trace i) (all-formed c trace (i + 1) n)

so-many : (trace i n : ℕ) → length (map (make_command trace) (numbers_from i n)) ≡ n
unfolding numbers_from
so-many trace i zero = refl
so-many trace i (suc n) = ap suc (so-many trace (i + 1) n)

pub trace-served : (number trace : ℕ) → number ≤ MOST_TRACE_COMMANDS → CanBeServed (make_trace number trace)
unfolding make_trace
trace-served number trace few = record { formed = λ c. all-formed c trace 0 number; few = omega (arith, few, so-many trace 0 number) }

pub traces-served : (number : ℕ) → number ≤ MOST_TRACE_COMMANDS → All CanBeServed (make_traces number)
traces-served number few =
    All-from_recursion CanBeServed (make_traces number)
    (trace-served number 1 few, (trace-served number 2 few, (trace-served number 3 few, (trace-served number 4 few, tt))))

pub own-trace : (number queue : ℕ) → IsWithin 1 4 queue → get_or (make_traces number) (queue - 1) [] ≡ make_trace number queue
own-trace number zero within = absurd (omega (arith, within.0))
own-trace number (suc zero) within = refl
own-trace number (suc (suc zero)) within = refl
own-trace number (suc (suc (suc zero))) within = refl
own-trace number (suc (suc (suc (suc zero)))) within = refl
own-trace number (suc (suc (suc (suc (suc n))))) within = absurd (omega (arith, within.1))
