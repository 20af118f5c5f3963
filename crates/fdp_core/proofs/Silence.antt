-- The entries of a step are those of one queue: all others are silent in them.
use Rattle.std.proofs.Common.{◌≡◌, ℕ, Bool, cond, nat_eq, List, [], ◌∷◌, ◌++◌, refl, ap, sym, ◌∙◌, ne_eqb, Option, None, Some}
use Rattle.std.specs.Prelude.{option_and_then}
use Rattle.std.specs.List.{cons_option}
use Rattle.std.proofs.lemmas.List.Elements.{All-head, All-tail, filter_map-append}
use Rattle.fdp_base.specs.declared.command.Command.{Command}
use Rattle.fdp_base.specs.declared.entry.Entry.{Entry}
use Rattle.fdp_base.specs.declared.entry.Entry.TheVariants as entries
use Rattle.fdp_base.specs.declared.config.DriveConfig.{DriveConfig}
use Rattle.fdp_base.specs.declared.entry.Host.{Host}
use Rattle.fdp_base.specs.declared.entry.Reply.{Reply}
use Rattle.fdp_base.specs.declared.entry.Started.{Started}
use Rattle.fdp_relocation.specs.Entries.{AreRelocationIn, IsRelocationIn}
use Rattle.fdp_rules.specs.Queue.{completed, completed_by, started_by, started_in}
use Rattle.fdp_core.specs.Silence.{OthersStaySilent}
use Rattle.fdp_relocation.proofs.Keeping.{quiet-entry}

-- no entry
pub silent-none : (queue : ℕ) → OthersStaySilent queue []
silent-none queue other some ne = record { completes = refl; starts = refl }

-- more entries of the queue
pub silent-joined : (queue : ℕ) (es fs : List Entry) → OthersStaySilent queue es → OthersStaySilent queue fs → OthersStaySilent queue (es ++ fs)
silent-joined queue es fs first second other some ne =
    let p = first other some ne in
    let q = second other some ne in
    record {
      completes = filter_map-append (completed_by other) es fs ∙ ap (λ xs. xs ++ completed other fs) p.completes ∙ q.completes;
      starts = filter_map-append (started_in other) es fs ∙ ap (λ xs. xs ++ started_by other fs) p.starts ∙ q.starts;
    }

-- a write is started
pub silent-started : (queue number : ℕ) (command : Command) (rg ruh : ℕ) (valid : Bool) → OthersStaySilent queue (entries.Started (record { queue = queue; number = number; command = command; rg = rg; ruh = ruh; pid_valid = valid }) ∷ [])
silent-started queue number command rg ruh valid other some ne = record {
  completes = refl;
  starts = ap (λ (b : Bool). cons_option (cond b (Some (number, command)) None) []) (ne_eqb queue other (λ same. ne (sym same)));
}

-- a command is completed
pub silent-host : (queue number : ℕ) (command : Command) (reply : Reply) (moment : ℕ) → OthersStaySilent queue (entries.Host (record { queue = queue; number = number; command = command; reply = reply; moment = moment }) ∷ [])
silent-host queue number command reply moment other some ne = record {
  completes = ap (λ (b : Bool). cons_option (cond b (Some (number, command)) None) []) (ne_eqb queue other (λ same. ne (sym same)));
  starts = refl;
}

-- a command is completed, behind other entries
pub silent-completed : (queue number : ℕ) (command : Command) (before : List Entry) (reply : Reply) (moment : ℕ) → OthersStaySilent queue before → OthersStaySilent queue (before ++ entries.Host (record { queue = queue; number = number; command = command; reply = reply; moment = moment }) ∷ [])
silent-completed queue number command before reply moment silent = silent-joined queue before (entries.Host (record { queue = queue; number = number; command = command; reply = reply; moment = moment }) ∷ []) silent (silent-host queue number command reply moment)

-- a page is placed, for whichever queue
pub silent-placed : (queue ticket index unit page : ℕ) → OthersStaySilent queue (entries.Placed (record { ticket = ticket; index = index; unit = unit; page = page }) ∷ [])
silent-placed queue ticket index unit page other some ne = record { completes = refl; starts = refl }

-- a handle is shut, for whichever queue
pub silent-shut : (queue rg ruh : ℕ) → OthersStaySilent queue (entries.Shut (record { rg = rg; ruh = ruh }) ∷ [])
silent-shut queue rg ruh other some ne = record { completes = refl; starts = refl }

-- ---- relocation

-- steps of relocation complete nothing
pub relocation-completes : (queue : ℕ) (c : DriveConfig) (rg : ℕ) (es : List Entry) → AreRelocationIn c rg es → completed queue es ≡ []
relocation-completes queue c rg [] all = refl
relocation-completes queue c rg (e ∷ es) all =
    ap (λ (o : Option Host). cons_option (option_and_then (λ (h : Host). cond (nat_eq h.queue queue) (Some (h.number, h.command)) None) o) (completed queue es)) (quiet-entry c rg e (All-head (IsRelocationIn c rg) e es all)).0.host
    ∙ relocation-completes queue c rg es (All-tail (IsRelocationIn c rg) e es all)

-- steps of relocation, for whichever queue
pub silent-relocation : (queue : ℕ) (c : DriveConfig) (rg : ℕ) (es : List Entry) → AreRelocationIn c rg es → OthersStaySilent queue es
silent-relocation queue c rg [] all other some ne = silent-none queue other some ne
silent-relocation queue c rg (e ∷ es) all other some ne =
    let rest = silent-relocation queue c rg es (All-tail (IsRelocationIn c rg) e es all) other some ne in
    let none = (quiet-entry c rg e (All-head (IsRelocationIn c rg) e es all)).0.started in
    record {
      completes = relocation-completes other c rg (e ∷ es) all;
      starts = ap (λ (o : Option Started). cons_option (option_and_then (λ (s : Started). cond (nat_eq s.queue other) (Some (s.number, s.command)) None) o) (started_by other es)) none ∙ rest.starts;
    }
