use Rattle.std.proofs.Common.{◌≡◌, ◌∙◌, ◌++◌, ℕ, ap, List, [], subst, sym, take, true}
use Rattle.fdp_base.specs.declared.config.DriveConfig.{DriveConfig}
use Rattle.fdp_base.specs.declared.entry.Entry.{Entry}
use Rattle.fdp_rules.specs.Legal.{IsLegal}
use Rattle.fdp_tables.specs.Starts.{cut}
use Rattle.fdp_plain.specs.Run.{Run, found_of}
use Rattle.fdp_plain.proofs.LegalRuns.{legal-take}
use Rattle.fdp_plain.proofs.again.beginning_of.Goals as goal

-- a run with those that were cut from these entries in front
abbrev behind-runs : Run → List ℕ → List Entry → Run
behind-runs r starts es = record r { earlier = r.earlier ++ cut 0 starts es }

-- the drive begins where the last run of the other began
begins : (c : goal.After-entries) → c.take_runs.new.drive ≡ record c.args.plain.now { entries = [] }
begins c =
    let k = c.plain.inside.kept in
    let start : Run = record { config = c.config.result.now; earlier = []; entries = [] } in
    c.in_ok-take_runs.ensures
    ∙ ap (λ (r : Run). behind-runs r c.as_slice.result.now c.as_slice-2.result.now) c.in_ok-drive.ensures
    ∙ ap (λ (ss : List ℕ). behind-runs start ss c.as_slice-2.result.now) c.as_slice.ensures.value
    ∙ ap (λ (es : List Entry). behind-runs start k.starts.items es) c.as_slice-2.ensures.value
    ∙ ap (λ (d : DriveConfig). record { config = d; earlier = cut 0 k.starts.items k.entries.items; entries = [] }) c.config.ensures.config
    ∙ ap (λ (r : Run). record c.args.plain.now { earlier = r.earlier; entries = [] }) c.plain.view_is

pub take_all-requires-clause-legal : goal.take_all-requires-clause-legal
take_all-requires-clause-legal c =
    let p = c.args.plain.now in
    subst (λ (r : Run). IsLegal true r.config (found_of r) (take c.args.kept c.entries.result.now)) (sym (begins c))
    (subst (λ (es : List Entry). IsLegal true p.config (found_of p) (take c.args.kept es)) (sym c.entries.ensures.entries) (legal-take p.config (found_of p) p.entries c.args.kept c.entries.ensures.legal))
