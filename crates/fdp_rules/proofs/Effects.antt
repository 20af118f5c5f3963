-- Commands by what their change is: those that change something, each for itself, and all that change nothing; and what follows
-- for commands that put a configuration in force, and for those whose change is saved.
use Rattle.std.proofs.Common.{◌≡◌, ℕ, None, refl, true, false, sym, ◌∙◌}
use Rattle.fdp_base.specs.declared.command.Command.{Command}
use Rattle.fdp_base.specs.declared.command.Command.TheVariants as commands
use Rattle.fdp_base.specs.declared.command.Create.{Create}
use Rattle.fdp_base.specs.declared.command.Dealloc.{Dealloc}
use Rattle.fdp_base.specs.declared.command.Delete.{Delete}
use Rattle.fdp_base.specs.declared.command.HandleUpdate.{HandleUpdate}
use Rattle.fdp_base.specs.declared.command.SetEvents.{SetEvents}
use Rattle.fdp_base.specs.declared.command.SetFdp.{SetFdp}
use Rattle.fdp_base.specs.declared.command.Write.{Write}
use Rattle.fdp_base.specs.declared.command.Zero.{Zero}
use Rattle.fdp_base.specs.declared.config.DriveConfig.{DriveConfig}
use Rattle.fdp_rules.specs.Effect.{effect_of}
use Rattle.fdp_rules.specs.LastWrite.{left_by}
use Rattle.fdp_rules.specs.PlainState.{PlainState}
use Rattle.std.specs.Prelude.{IsTrue, IsFalse}
use mathlib.Core.Bool.{true≢false}
use Rattle.fdp_base.specs.CommandKinds.{is_saved, is_setting, is_write}

-- a command that changes nothing: it is none of those that do
pub record ChangesNothing (command : Command) : Type 0 where
  pub written : is_write command ≡ false
  pub saved : is_saved command ≡ false
  pub setting : is_setting command ≡ false
  pub state : (c : DriveConfig) (s : PlainState) (queue : ℕ) → effect_of c s queue command ≡ s
  pub blocks : (c : DriveConfig) (n lba : ℕ) → left_by c n lba command ≡ None

-- what is shown of each command that changes something, and of those that change nothing
pub record ShownOfEach (P : Command → Type 0) : Type 0 where
  pub write : (w : Write) → P (commands.Write w)
  pub zero : (z : Zero) → P (commands.Zero z)
  pub dealloc : (d : Dealloc) → P (commands.Dealloc d)
  pub delete : (d : Delete) → P (commands.Delete d)
  pub update : (u : HandleUpdate) → P (commands.Update u)
  pub set_fdp : (s : SetFdp) → P (commands.SetFdp s)
  pub set_events : (s : SetEvents) → P (commands.SetEvents s)
  pub create : (c : Create) → P (commands.Create c)
  pub nothing : (command : Command) → ChangesNothing command → P command

pub by-effect : (P : Command → Type 0) → ShownOfEach P → (command : Command) → P command
unfolding effect_of
by-effect P shown (commands.Write w) = shown.write w
by-effect P shown (commands.Zero z) = shown.zero z
by-effect P shown (commands.Dealloc d) = shown.dealloc d
by-effect P shown (commands.Delete d) = shown.delete d
by-effect P shown (commands.Update u) = shown.update u
by-effect P shown (commands.SetFdp s) = shown.set_fdp s
by-effect P shown (commands.SetEvents s) = shown.set_events s
by-effect P shown (commands.Create c) = shown.create c
by-effect P shown (commands.Read r) = shown.nothing (commands.Read r) (record { written = refl; saved = refl; setting = refl; state = λ c s queue. refl; blocks = λ c n lba. refl })
by-effect P shown (commands.Flush f) = shown.nothing (commands.Flush f) (record { written = refl; saved = refl; setting = refl; state = λ c s queue. refl; blocks = λ c n lba. refl })
by-effect P shown (commands.Status x) = shown.nothing (commands.Status x) (record { written = refl; saved = refl; setting = refl; state = λ c s queue. refl; blocks = λ c n lba. refl })
by-effect P shown (commands.Log l) = shown.nothing (commands.Log l) (record { written = refl; saved = refl; setting = refl; state = λ c s queue. refl; blocks = λ c n lba. refl })
by-effect P shown (commands.GetFdp g) = shown.nothing (commands.GetFdp g) (record { written = refl; saved = refl; setting = refl; state = λ c s queue. refl; blocks = λ c n lba. refl })
by-effect P shown (commands.Other o) = shown.nothing (commands.Other o) (record { written = refl; saved = refl; setting = refl; state = λ c s queue. refl; blocks = λ c n lba. refl })

-- what holds of each command that puts a configuration in force, and of every other one, holds of all
pub by-setting : (P : Command → Type 0) → ((s : SetFdp) → P (commands.SetFdp s)) → ((command : Command) → is_setting command ≡ false → P command) → (command : Command) → P command
by-setting P each other =
    by-effect P
    (record {
      write = λ w. other (commands.Write w) refl;
      zero = λ z. other (commands.Zero z) refl;
      dealloc = λ d. other (commands.Dealloc d) refl;
      delete = λ d. other (commands.Delete d) refl;
      update = λ u. other (commands.Update u) refl;
      set_fdp = each;
      set_events = λ s. other (commands.SetEvents s) refl;
      create = λ c. other (commands.Create c) refl;
      nothing = λ command none. other command none.setting;
    })

-- what is shown of each such command holds of a command that is one
pub each-setting : (P : Command → Type 0) → ((s : SetFdp) → P (commands.SetFdp s)) → (command : Command) → is_setting command ≡ true → P command
each-setting P each command sets = by-setting (λ x. is_setting x ≡ true → P x) (λ s e. each s) (λ x none e. absurd (true≢false (sym e ∙ none))) command sets

-- what is shown of each command other than a write whose change is saved
pub record ShownOfSaved (P : Command → Type 0) : Type 0 where
  pub zero : (z : Zero) → P (commands.Zero z)
  pub dealloc : (d : Dealloc) → IsTrue d.deallocate → P (commands.Dealloc d)
  pub delete : (d : Delete) → P (commands.Delete d)
  pub update : (u : HandleUpdate) → P (commands.Update u)
  pub set_fdp : (s : SetFdp) → P (commands.SetFdp s)
  pub set_events : (s : SetEvents) → P (commands.SetEvents s)
  pub create : (c : Create) → P (commands.Create c)

pub by-saved : (P : Command → Type 0) → ShownOfSaved P → (command : Command) → IsTrue (is_saved command) → IsFalse (is_write command) → P command
by-saved P shown command saved other =
    by-effect (λ x. IsTrue (is_saved x) → IsFalse (is_write x) → P x)
    (record {
      write = λ w s o. absurd (true≢false o);
      zero = λ z s o. shown.zero z;
      dealloc = λ d s o. shown.dealloc d s;
      delete = λ d s o. shown.delete d;
      update = λ u s o. shown.update u;
      set_fdp = λ x s o. shown.set_fdp x;
      set_events = λ x s o. shown.set_events x;
      create = λ c s o. shown.create c;
      nothing = λ x none s o. absurd (true≢false (sym s ∙ none.saved));
    })
    command saved other
