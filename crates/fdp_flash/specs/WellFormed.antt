-- A flash in memory is well formed.
use Rattle.std.proofs.Common.{nat_le, arith}
use Rattle.std.proofs.lemmas.Bool.{and_parts, leb-true}
use Rattle.std.proofs.lemmas.List.{length-map}
use Rattle.fdp_flash.specs.declared.memory.FlashMem.{FlashMem}
use Rattle.fdp_flash.specs.FlashMem.{state_of}
use Rattle.fdp_flash.specs.FlashState.{IsWellFormed}
use Rattle.fdp_flash.specs.Plan.{keeps_calls}

pub memory_well_formed : (flash : FlashMem) → IsWellFormed (state_of flash)
memory_well_formed flash = record {
  geometry = flash.sound.geometry;
  counts = flash.counts;
  size = λ t. flash.sound.size;
  blocks = λ t k spare bytes h. flash.sound.has_blocks.whole k spare bytes h;
  images = λ m image d. flash.sound.images m image d.0 d.1;
  calls = λ t.
      let most = leb-true flash.moment flash.plan.calls (and_parts (keeps_calls flash.plan) (nat_le flash.moment flash.plan.calls) t).1 in
      rw length-map (omega (arith, flash.sound.listed));
}
