use Rattle.std.proofs.Common.{arith, ◌∙◌, sym}
use Rattle.fdp_flash.proofs.ImageCells.{image_cells}
use Rattle.fdp_flash.proofs.Replay.{replay-none}
use Rattle.fdp_flash.proofs.memory.FlashMem.of_cells.Goals as goal

pub invariant_of-result : goal.invariant_of-result
invariant_of-result c =
    let none = c.in_ok-list.ensures.empty in
    record {
      counts = record { moment_is = omega arith; faults_are = omega arith; programs_are = omega arith };
      sound = record {
        geometry = c.requires.geometry;
        size = c.requires.cells.size;
        has_blocks = rw c.as_slice.ensures.value at c.in_ok-blocks.ensures;
        limit = omega arith;
        listed = rw none (omega arith);
        room = rw none (omega (arith, c.in_ok-list.ensures.count));
        reserved = c.in_ok-list.ensures.room;
        block_size = c.in_ok-list.ensures.size;
        places = rw none (λ k call h. absurd (let e = h in cc));
        program_bytes = rw none (λ k call h o. absurd (let e = h in cc));
        first_bytes = λ keeps. rw (c.in_ok-first.ensures (rw c.keeps_calls.ensures keeps) ∙ c.as_slice-2.ensures.value) c.requires.cells.blocks;
        replayed = λ keeps. rw (none, replay-none) (sym (c.in_ok-first.ensures (rw c.keeps_calls.ensures keeps) ∙ c.as_slice-2.ensures.value));
        images = λ m image keeps d.
            image_cells c.args.geometry c.args.cells.items _ _ m image c.requires.cells.size c.requires.cells.blocks (rw (none, replay-none) (sym (c.in_ok-first.ensures (rw c.keeps_calls.ensures keeps) ∙ c.as_slice-2.ensures.value)))
            (rw (c.in_ok-first.ensures (rw c.keeps_calls.ensures keeps) ∙ c.as_slice-2.ensures.value) c.requires.cells.blocks) (rw none (λ k call h o. absurd (let e = h in cc))) d;
      };
    }
