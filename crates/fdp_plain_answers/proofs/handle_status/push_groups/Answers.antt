use Rattle.std.proofs.Common.{ℕ, ◌+◌, List, ap, arith, subst, sym}
use Rattle.fdp_base.specs.declared.config.DriveConfig.{DriveConfig}
use Rattle.fdp_rules.specs.LogPages.{status_descriptor}
use Rattle.fdp_tables.specs.State.{plain_of}
use Rattle.fdp_plain_answers.proofs.Appending.{IsAppending, appending_end, appending_next}
use Rattle.fdp_plain_answers.proofs.handle_status.push_groups.Goals as goal

pub loop-rg-preserved : goal.loop-rg-preserved
loop-rg-preserved c =
    let k = c.args.kept.now in
    let piece : ℕ → List ℕ = status_descriptor k.config (plain_of k) c.args.handle c.args.ruh in
    let start = c.args.bytes.now.items in
    subst (λ (x : List ℕ). IsAppending piece k.config.groups (c.loop-rg.rg + 1) start x) (sym c.in_ok-push_descriptor.ensures)
    (appending_next piece k.config.groups c.loop-rg.rg start c.loop-rg.bytes.items (omega (arith, ap (λ (d : DriveConfig). d.groups) c.config.ensures.value)) c.loop-rg.invariant)

pub returns : goal.returns
returns c =
    let k = c.args.kept.now in
    appending_end (status_descriptor k.config (plain_of k) c.args.handle c.args.ruh) k.config.groups c.loop-rg.rg c.args.bytes.now.items c.loop-rg.bytes.items (omega (arith, ap (λ (d : DriveConfig). d.groups) c.config.ensures.value)) c.loop-rg.invariant
