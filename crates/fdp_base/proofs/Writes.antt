-- A command that is a write, and entries of a kind: what each is, and what holds of the others.
use Rattle.std.proofs.Common.{◌≡◌, ℕ, ◌≤◌, Option, Some, None, refl, sym, ap, subst, arith}
use Rattle.std.specs.Prelude.{IsTrue, is_some}
use Rattle.std.specs.Option.{option_map_or}
use Rattle.fdp_base.specs.declared.command.Command.{Command}
use Rattle.fdp_base.specs.declared.command.Command.TheVariants as commands
use Rattle.fdp_base.specs.declared.command.Write.{Write}
use Rattle.fdp_base.specs.CommandKinds.{blocks_written, is_write, write_of}

-- what is shown of each write holds of a command that is one
pub each-write : (P : Command → Type 0) → ((w : Write) → P (commands.Write w)) → (command : Command) → IsTrue (is_write command) → P command
each-write P each (commands.Write w) write = each w
each-write P each (commands.Read r) write = absurd cc
each-write P each (commands.Zero z) write = absurd cc
each-write P each (commands.Dealloc d) write = absurd cc
each-write P each (commands.Flush f) write = absurd cc
each-write P each (commands.Delete d) write = absurd cc
each-write P each (commands.Status s) write = absurd cc
each-write P each (commands.Update u) write = absurd cc
each-write P each (commands.Log l) write = absurd cc
each-write P each (commands.SetFdp s) write = absurd cc
each-write P each (commands.GetFdp g) write = absurd cc
each-write P each (commands.SetEvents s) write = absurd cc
each-write P each (commands.Create c) write = absurd cc
each-write P each (commands.Other o) write = absurd cc

-- a command with a write is that write
pub write-is : (command : Command) (w : Write) → write_of command ≡ Some w → command ≡ commands.Write w
write-is command w e =
    let P : Command → Type 0 = λ x. write_of x ≡ Some w → x ≡ commands.Write w in
    each-write P (λ v same. let one : v ≡ w = cc in ap commands.Write one) command (ap is_some e) e

-- what holds of each write, and of each command with none, holds of all
pub by-write : (P : Command → Type 0) → ((w : Write) → P (commands.Write w)) → ((command : Command) → write_of command ≡ None → P command) → (command : Command) → P command
by-write P each other command =
    let Q : Option Write → Type 0 = λ o. write_of command ≡ o → P command in
    (elim (write_of command) as Q [ None ↦ λ none. other command none | Some w ↦ λ some. subst P (sym (write-is command w some)) (each w) ]) refl

-- a bound on the blocks of a command that is shown of each write
pub few-written : (n : ℕ) (command : Command) → ((w : Write) → command ≡ commands.Write w → w.count ≤ n) → blocks_written command ≤ n
few-written n command few =
    let Q : Option Write → Type 0 = λ o. write_of command ≡ o → option_map_or (λ (w : Write). w.count) o 0 ≤ n in
    (elim (write_of command) as Q [ None ↦ λ none. omega arith | Some w ↦ λ some. few w (write-is command w some) ]) refl
