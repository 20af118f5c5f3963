-- What commands pass that are not refused: their blocks lie in their namespaces, and a created one is not too large.
use Rattle.std.proofs.Common.{◌≡◌, ℕ, zero, suc, ◌+◌, ◌-◌, ◌*◌, ◌<◌, ◌≤◌, Bool, true, false, List, [], ◌∷◌, slice_get, Option, Some, None, refl, ap, sym, ◌∙◌, arith, cond, lt-ltb}
use Rattle.std.specs.Prelude.{◌&&◌, is_none, nat_lt}
use Rattle.std.specs.List.{list_any}
use Rattle.std.proofs.lemmas.Bool.{false≢true, ltb-false, or_parts}
use Rattle.std.proofs.lemmas.Nat.{mul-le}
use Rattle.fdp_base.specs.declared.command.Command.{Command}
use Rattle.fdp_base.specs.declared.command.Command.TheVariants as commands
use Rattle.fdp_base.specs.declared.command.Create.{Create}
use Rattle.fdp_base.specs.declared.command.Other.{Other}
use Rattle.fdp_base.specs.declared.command.Range.{Range}
use Rattle.fdp_base.specs.declared.config.DriveConfig.{DriveConfig}
use Rattle.fdp_base.specs.declared.limits.TheConstants.{MOST_DWORDS}
use Rattle.fdp_base.specs.declared.status.Status.{Status}
use Rattle.fdp_base.specs.Config.{IsValidConfig}
use Rattle.fdp_base.specs.Placement.{budget_of}
use Rattle.fdp_book.proofs.Histories.Configuring.{budgets-few}
use Rattle.fdp_history.proofs.Checks.{IsAcceptedCreate}
use Rattle.fdp_history.proofs.Sizes.{budgets-whole}
use Rattle.fdp_rules.specs.PlainState.{Namespace, PlainState}
use Rattle.fdp_rules.specs.Point.{Point}
use Rattle.fdp_rules.specs.Refusal.{Check, checks_of, first_that_holds, is_range_past_end, refusal_of}
use Rattle.fdp_rules.specs.Room.{handles_in_force, size_of}

-- none of these checks holds
abbrev NoneHolds : List Check → Type 0
NoneHolds [] = Unit {0}
NoneHolds (x ∷ xs) = (x.holds ≡ false) × NoneHolds xs

passes-one : (b : Bool) (status : Status) (rest : Option Status) → cond b (Some status) rest ≡ None → (b ≡ false) × (rest ≡ None)
passes-one true status rest e = absurd cc
passes-one false status rest e = (refl, e)

passes-all : (xs : List Check) → first_that_holds xs ≡ None → NoneHolds xs
passes-all [] e = tt
passes-all (x ∷ xs) e = let one = passes-one x.holds x.status (first_that_holds xs) e in (one.0, passes-all xs one.1)

passes : (c : DriveConfig) (p : Point) (command : Command) → refusal_of c p command ≡ None → NoneHolds (checks_of c p command)
unfolding refusal_of
passes c p command e = passes-all (checks_of c p command) e

-- a command that is not served is always refused
pub other-refused : (c : DriveConfig) (p : Point) (o : Other) → refusal_of c p (commands.Other o) ≡ None → ⊥
unfolding checks_of
other-refused c p o e = false≢true (sym (passes c p (commands.Other o) e).1.0)

-- the blocks of a zeroing lie in its namespace
pub accepted-zero : (c : DriveConfig) (p : Point) (nsid slba count : ℕ) → refusal_of c p (commands.Zero (record { nsid = nsid; slba = slba; count = count })) ≡ None → slba + count ≤ size_of p.state nsid
unfolding checks_of
accepted-zero c p nsid slba count e =
    let held = passes c p (commands.Zero (record { nsid = nsid; slba = slba; count = count })) e in
    ltb-false (size_of p.state nsid) (slba + count) held.1.1.0

none-at : (test : Range → Bool) (xs : List Range) (index : ℕ) (x : Range) → list_any test xs ≡ false → slice_get xs index ≡ Some x → test x ≡ false
none-at test [] zero x none e = absurd cc
none-at test [] (suc index) x none e = absurd cc
none-at test (y ∷ ys) zero x none e = let same : y ≡ x = cc in ap test (sym same) ∙ (or_parts (test y) (list_any test ys) none).0
none-at test (y ∷ ys) (suc index) x none e = none-at test ys index x (or_parts (test y) (list_any test ys) none).1 e

both-false : (a b : Bool) → a ≡ true → (a && b) ≡ false → b ≡ false
both-false true b is e = e
both-false false b is e = absurd (false≢true is)

-- those of each range of a deallocation do
pub accepted-ranges : (c : DriveConfig) (p : Point) (nsid : ℕ) (deallocate : Bool) (ranges : List Range) → refusal_of c p (commands.Dealloc (record { nsid = nsid; deallocate = deallocate; ranges = ranges })) ≡ None → (index : ℕ) (range : Range) → slice_get ranges index ≡ Some range → 0 < range.length → range.slba + range.length ≤ size_of p.state nsid
unfolding checks_of
accepted-ranges c p nsid deallocate ranges e index range there some =
    let held = passes c p (commands.Dealloc (record { nsid = nsid; deallocate = deallocate; ranges = ranges })) e in
    let within : is_range_past_end p.state nsid range ≡ false = none-at (is_range_past_end p.state nsid) ranges index range held.1.1.0 there in
    ltb-false (size_of p.state nsid) (range.slba + range.length) (both-false (nat_lt 0 range.length) (nat_lt (size_of p.state nsid) (range.slba + range.length)) (lt-ltb 0 range.length some) within)

there-is : (o : Option Namespace) → is_none o ≡ false → (x : Namespace) × (o ≡ Some x)
there-is None e = absurd cc
there-is (Some x) e = (x, refl)

-- a namespace that is deleted is there
pub accepted-delete : (c : DriveConfig) (p : Point) (nsid : ℕ) → refusal_of c p (commands.Delete (record { nsid = nsid })) ≡ None → (x : Namespace) × (p.state.namespaces nsid ≡ Some x)
unfolding checks_of
accepted-delete c p nsid e = there-is (p.state.namespaces nsid) (passes c p (commands.Delete (record { nsid = nsid })) e).0

-- a created namespace has no more blocks than the drive has pages of data
pub created-pages : (c : DriveConfig) (s : PlainState) (x : Create) → IsAcceptedCreate c s x.size x.list → x.size ≤ c.groups * c.units * c.unit_pages
created-pages c s x accepted =
    let handles : ℕ = handles_in_force c s in
    let pages = mul-le c.unit_pages (c.units - 0 - 2 * handles - 3) c.unit_pages c.units (omega arith) (omega arith) in
    let one : budget_of c handles 0 ≤ c.unit_pages * c.units = omega (arith, pages) in
    let all = mul-le c.groups (budget_of c handles 0) c.groups (c.unit_pages * c.units) (omega arith) one in
    let turned : c.groups * (c.unit_pages * c.units) ≡ c.groups * c.units * c.unit_pages = omega arith in
    omega (arith, all, turned, accepted.fits, budgets-whole c s)

-- and no more than a map has places
pub created-few : (c : DriveConfig) (s : PlainState) → IsValidConfig c → (x : Create) → IsAcceptedCreate c s x.size x.list → x.size ≤ 262144
created-few c s valid x accepted = omega (arith, accepted.fits, budgets-whole c s, budgets-few c valid (handles_in_force c s))

-- a handle status that is not refused asks for no more dwords than are transferred
pub accepted-status : (c : DriveConfig) (p : Point) (nsid mo dwords : ℕ) → refusal_of c p (commands.Status (record { nsid = nsid; mo = mo; dwords = dwords })) ≡ None → dwords ≤ MOST_DWORDS
unfolding checks_of
accepted-status c p nsid mo dwords e =
    let held = passes c p (commands.Status (record { nsid = nsid; mo = mo; dwords = dwords })) e in
    ltb-false MOST_DWORDS dwords (or_parts _ _ held.1.0).1
