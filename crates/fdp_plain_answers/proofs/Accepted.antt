-- What is known of a command that is not refused: none of its checks holds.
use Rattle.std.specs.Prelude.{◌||◌, ◌==◌, ◌%◌, not, nat_lt}
use Rattle.std.proofs.Common.{◌≡◌, ℕ, ◌+◌, ◌≤◌, Bool, true, false, List, [], ◌∷◌, None, arith, refl, sym}
use Rattle.std.proofs.lemmas.Bool.{false≢true}
use Rattle.std.proofs.lemmas.Bool.Decides.{nat_tests}
use Rattle.fdp_base.specs.declared.command.Command.TheVariants as commands
use Rattle.fdp_base.specs.declared.command.GetLog.{GetLog}
use Rattle.fdp_base.specs.declared.command.HandleStatus.{HandleStatus}
use Rattle.fdp_base.specs.declared.command.Read.{Read}
use Rattle.fdp_base.specs.declared.config.DriveConfig.{DriveConfig}
use Rattle.fdp_base.specs.declared.status.Status.{Status}
use Rattle.fdp_rules.specs.Point.{Point}
use Rattle.fdp_rules.specs.Refusal.{Check, checks_of, first_that_holds, refusal_of, ◌⟶◌}
use Rattle.fdp_rules.specs.Room.{size_of}

-- no check holds
abbrev pub NoneHolds : List Check → Type 0
NoneHolds [] = Unit {0}
NoneHolds (x ∷ xs) = (x.holds ≡ false) × NoneHolds xs

none_after : (holds : Bool) (status : Status) (xs : List Check) → first_that_holds ((holds ⟶ status) ∷ xs) ≡ None → (holds ≡ false) × (first_that_holds xs ≡ None)
none_after true status xs e = absurd (cc)
none_after false status xs e = (refl, e)

pub none_holds : (xs : List Check) → first_that_holds xs ≡ None → NoneHolds xs
none_holds [] e = tt
none_holds (x ∷ xs) e =
    let here = none_after x.holds x.status xs e in
    (here.0, none_holds xs here.1)

-- the blocks of a read lie in its namespace
pub read_fits : (c : DriveConfig) (p : Point) (r : Read) → refusal_of c p (commands.Read r) ≡ None → r.slba + r.count ≤ size_of p.state r.nsid
unfolding refusal_of checks_of
read_fits c p r accepted =
    let past : nat_lt (size_of p.state r.nsid) (r.slba + r.count) ≡ false = (none_holds (checks_of c p (commands.Read r)) accepted).1.1.0 in
    grind (arith, nat_tests)

few_of_two : (a : Bool) (dwords : ℕ) → a || nat_lt 1024 dwords ≡ false → dwords ≤ 1024
few_of_two true dwords e = absurd (false≢true (sym e))
few_of_two false dwords e = grind (arith, nat_tests)

few_of_three : (a b : Bool) (dwords : ℕ) → a || nat_lt 1024 dwords || b ≡ false → dwords ≤ 1024
few_of_three a true dwords e = grind (arith, nat_tests)
few_of_three true false dwords e = absurd (false≢true (sym e))
few_of_three false false dwords e = grind (arith, nat_tests)

-- a status and a log ask for at most 1,024 dwords
pub status_is_short : (c : DriveConfig) (p : Point) (x : HandleStatus) → refusal_of c p (commands.Status x) ≡ None → x.dwords ≤ 1024
unfolding refusal_of checks_of
status_is_short c p x accepted =
    few_of_two (not (x.mo == 1)) x.dwords ((none_holds (checks_of c p (commands.Status x)) accepted).1.0)

pub log_is_short : (c : DriveConfig) (p : Point) (x : GetLog) → refusal_of c p (commands.Log x) ≡ None → x.dwords ≤ 1024
unfolding refusal_of checks_of
log_is_short c p x accepted =
    few_of_three (not (x.group == 1)) (not (x.offset % 4 == 0)) x.dwords ((none_holds (checks_of c p (commands.Log x)) accepted).1.0)
