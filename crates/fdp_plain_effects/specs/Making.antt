-- What is made for an entry before anything changes.
use Rattle.std.specs.Prelude.{IfSome, ◌≡◌, ℕ, Bool, Some, None, List, Option}
use Rattle.std.specs.Option.{IsSomeAnd}
use Rattle.fdp_base.specs.declared.command.Command.{Command}
use Rattle.fdp_base.specs.declared.command.Command.TheVariants as commands
use Rattle.fdp_base.specs.CommandKinds.{write_of}
use Rattle.fdp_rules.specs.Effect.{created}
use Rattle.fdp_rules.specs.PlainState.{Going}
use Rattle.fdp_tables.specs.declared.state.Kept.{Kept}
use Rattle.fdp_tables.specs.declared.state.KeptBlock.{KeptBlock}
use Rattle.fdp_tables.specs.declared.state.Space.{Space}
use Rattle.fdp_tables.specs.Spaces.{AreMade}
use Rattle.fdp_tables.specs.State.{namespace_of, plain_of, row}

-- a created namespace, with absent blocks
pub record IsCreated (k : Kept) (size : ℕ) (given : Bool) (list : List ℕ) (x : Space) : Type 0 where
  pub namespace : namespace_of x ≡ created (plain_of k) size given list
  pub empty : (lba : ℕ) → row x.blocks lba ≡ None

-- of a write the blocks that the one going in its queue puts
abbrev pub AreBlocksOf : Kept → ℕ → Command → List (Option KeptBlock) → Type 0
AreBlocksOf k queue command blocks = IfSome (write_of command) (λ w. (g : Going) → (plain_of k).going queue ≡ Some g → AreMade k.config.block w.payload g w.count blocks)

-- of a create the namespace
abbrev pub IsSpaceOf : Kept → Command → Option Space → Type 0
IsSpaceOf k (commands.Write w) space = Unit {0}
IsSpaceOf k (commands.Read r) space = Unit {0}
IsSpaceOf k (commands.Zero z) space = Unit {0}
IsSpaceOf k (commands.Dealloc d) space = Unit {0}
IsSpaceOf k (commands.Flush f) space = Unit {0}
IsSpaceOf k (commands.Delete d) space = Unit {0}
IsSpaceOf k (commands.Status s) space = Unit {0}
IsSpaceOf k (commands.Update u) space = Unit {0}
IsSpaceOf k (commands.Log l) space = Unit {0}
IsSpaceOf k (commands.SetFdp s) space = Unit {0}
IsSpaceOf k (commands.GetFdp g) space = Unit {0}
IsSpaceOf k (commands.SetEvents s) space = Unit {0}
IsSpaceOf k (commands.Create c) space = IsSomeAnd space (IsCreated k c.size c.given c.list)
IsSpaceOf k (commands.Other o) space = Unit {0}
