-- What the bytes of a checkpoint tell, and how many pages an area has.
use Rattle.std.proofs.Common.{◌≡◌, ℕ, zero, suc, ◌+◌, ◌-◌, ◌*◌, ◌^◌, ◌<◌, ◌≤◌, IsTrue, List, length, Option, sym, ap, ◌∙◌, arith, inl, inr}
use Rattle.std.proofs.Math.Nat.{mul-le-mul_left, mul-le-mul_right, mul_comm}
use Rattle.fdp_base.specs.declared.config.Geometry.{Geometry}
use Rattle.fdp_base.specs.Geometry.{IsValidGeometry, area_pages, data_units}
use Rattle.fdp_snapshot.specs.declared.space.Space.{Space}
use Rattle.fdp_snapshot.specs.declared.state.Summary.{Summary}
use Rattle.fdp_snapshot.specs.declared.state.State.{State}
use Rattle.fdp_snapshot.specs.Checkpoint.{IsBadAt, checkpoint_size, is_checkpoint}
use Rattle.fdp_snapshot.specs.Reading.{blocks_in, state_in, summary_in}
use Rattle.fdp_snapshot.proofs.Judging.{is_one}

pub size_is : (s : Summary) (spaces : List (Option Space)) → spaces ≡ s.spaces → checkpoint_size s ≡ 5120 + 4 * blocks_in spaces
unfolding checkpoint_size
size_is s spaces is = ap (λ (xs : List (Option Space)). 5120 + 4 * blocks_in xs) (sym is)

-- the offset that shows bytes to be no checkpoint is within them
pub bad_within : (version : ℕ) (bytes : List ℕ) (at : ℕ) → IsBadAt version bytes at → at ≤ length bytes
bad_within version bytes at (inl short) = omega (arith, short.last)
bad_within version bytes at (inr (inl differs)) = omega (arith, differs.long, differs.within)
bad_within version bytes at (inr (inr (inl cut))) = omega (arith, cut.last)
bad_within version bytes at (inr (inr (inr filled))) = omega (arith, filled.within)

-- an area has at most as many pages as the flash
pub area_small : (g : Geometry) → IsValidGeometry g → area_pages g ≤ 262144
area_small g valid =
    let most : g.area_units ≤ data_units g + 2 * g.area_units = omega arith in
    omega (arith, valid.pages, mul-le-mul_left g.unit_pages most)

-- and at most a gigabyte
pub area_bytes : (g : Geometry) (pages n : ℕ) → IsValidGeometry g → g.block ≤ 4096 → pages < area_pages g → n ≡ pages * g.block → n ≤ 2 ^ 30
area_bytes g pages n valid block within is =
    let a : pages * g.block ≤ 262144 * g.block = mul-le-mul_right g.block (omega (arith, area_small g valid, within)) in
    omega (arith, a, is, block)

pub first_small : (g : Geometry) (area : ℕ) → area ≤ 1 → IsValidGeometry g → (data_units g + area * g.area_units) * g.unit_pages ≤ 262144
first_small g area two valid =
    let units : area * g.area_units ≤ 1 * g.area_units = mul-le-mul_right g.area_units two in
    let most : data_units g + area * g.area_units ≤ data_units g + 2 * g.area_units = omega (arith, units) in
    omega (arith, valid.pages, mul-le-mul_right g.unit_pages most, mul_comm g.unit_pages (data_units g + 2 * g.area_units))

pub some_pages : (pages block n size : ℕ) → n ≡ pages * block → 5120 ≤ size → size + block ≤ n → (pages - 1 + 1) * block ≡ n
some_pages zero block n size is least long = absurd (omega (arith, is, least, long))
some_pages (suc k) block n size is least long =
    let e : suc k - 1 + 1 ≡ suc k = omega arith in
    ap (λ (m : ℕ). m * block) e ∙ sym is

pub summary_told : (s : State) (bytes : List ℕ) → s ≡ state_in bytes → s.summary ≡ summary_in bytes
unfolding state_in
summary_told s bytes told = ap (λ (x : State). x.summary) told

pub size_least : (s : Summary) → 5120 ≤ checkpoint_size s
unfolding checkpoint_size
size_least s = omega arith

pub state_fits : (version : ℕ) (s : State) (bytes : List ℕ) → s ≡ state_in bytes → IsTrue (is_checkpoint version bytes) → checkpoint_size s.summary ≤ length bytes
state_fits version s bytes told is = rw (summary_told s bytes told) ((is_one version bytes is).room)
