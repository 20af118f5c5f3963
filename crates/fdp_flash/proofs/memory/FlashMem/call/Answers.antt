use Rattle.std.proofs.Common.{arith}
use Rattle.std.specs.Vec.{vec_capacity}
use Rattle.fdp_flash.proofs.Called.{Step, step_sound, step_called}
use Rattle.fdp_flash.proofs.memory.FlashMem.call.Goals as goal

pub invariant_of-self : goal.invariant_of-self
invariant_of-self c =
    let step : Step c.args.self.now.plan c.args.self.now.geometry c.args.self.now.moment c.args.self.now.faults c.args.self.now.programs
    c.args.self.now.pages.cells.items c.args.self.now.list.calls.items c.args.self.now.first.items
    c.saturating_add-self.result c.faults_after-self.result c.programs_after-self.result c.change.new.self.cells.items c.note.new.self.calls.items
    c.args.operation c.args.at c.args.spare.now c.args.bytes.now c.fate-fate.result c.fails-failed.result = record {
      blocks = c.args.self.now.pages.blocks.items;
      blocks' = c.change.new.self.blocks.items;
      call_blocks = c.args.self.now.list.blocks.items;
      call_blocks' = c.note.new.self.blocks.items;
      capacity = vec_capacity c.args.self.now.list.calls;
      capacity' = vec_capacity c.note.new.self.calls;
      sound = c.args.self.now.sound;
      small = omega arith;
      small_faults = omega arith;
      small_programs = omega arith;
      place = c.requires.place;
      size = c.requires.size;
      blank = c.requires.order;
      moment = c.saturating_add-self.ensures;
      fate_is = c.fate-fate.ensures;
      failed_is = c.fails-failed.ensures;
      noted = c.note.ensures.noted;
      capacity_same = c.note.ensures.capacity;
      cells_are = c.change.ensures.cells;
      has_blocks = c.change.ensures.blocks;
      faults_are = c.faults_after-self.ensures;
      programs_are = c.programs_after-self.ensures;
    } in
    record { counts = record { moment_is = omega arith; faults_are = omega arith; programs_are = omega arith }; sound = step_sound _ _ _ _ _ _ _ _ _ _ _ _ _ _ _ _ _ _ _ step }

pub returns-clause-called : goal.returns-clause-called
returns-clause-called c =
    let step : Step c.args.self.now.plan c.args.self.now.geometry c.args.self.now.moment c.args.self.now.faults c.args.self.now.programs
    c.args.self.now.pages.cells.items c.args.self.now.list.calls.items c.args.self.now.first.items
    c.saturating_add-self.result c.faults_after-self.result c.programs_after-self.result c.change.new.self.cells.items c.note.new.self.calls.items
    c.args.operation c.args.at c.args.spare.now c.args.bytes.now c.fate-fate.result c.fails-failed.result = record {
      blocks = c.args.self.now.pages.blocks.items;
      blocks' = c.change.new.self.blocks.items;
      call_blocks = c.args.self.now.list.blocks.items;
      call_blocks' = c.note.new.self.blocks.items;
      capacity = vec_capacity c.args.self.now.list.calls;
      capacity' = vec_capacity c.note.new.self.calls;
      sound = c.args.self.now.sound;
      small = omega arith;
      small_faults = omega arith;
      small_programs = omega arith;
      place = c.requires.place;
      size = c.requires.size;
      blank = c.requires.order;
      moment = c.saturating_add-self.ensures;
      fate_is = c.fate-fate.ensures;
      failed_is = c.fails-failed.ensures;
      noted = c.note.ensures.noted;
      capacity_same = c.note.ensures.capacity;
      cells_are = c.change.ensures.cells;
      has_blocks = c.change.ensures.blocks;
      faults_are = c.faults_after-self.ensures;
      programs_are = c.programs_after-self.ensures;
    } in
    step_called _ _ _ _ _ _ _ _ _ _ _ _ _ _ _ _ _ _ _ step
