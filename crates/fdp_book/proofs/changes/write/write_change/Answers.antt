use Rattle.std.proofs.Common.{◌≡◌, ◌∙◌, ℕ, List, ap, length, not}
use Rattle.fdp_base.specs.CommandKinds.{write_of}
use Rattle.fdp_book.specs.declared.write_names.WriteNames.{WriteNames}
use Rattle.fdp_book.specs.Saving.{names_of}
use Rattle.fdp_records.specs.declared.change.Change.TheVariants as changes
use Rattle.fdp_records.specs.Limits.{is_within_limits}
use Rattle.fdp_book.proofs.Making.Limits.{within-most}
use Rattle.fdp_book.proofs.changes.write.write_change.Goals as goal

pub returns-clause-change : goal.returns-clause-change
returns-clause-change c g w tk cmd =
    let its = c.requires.numbers g tk in
    let names : c.names_of_write-names.result ≡ names_of w g = c.names_of_write-names.ensures g w tk (ap write_of cmd) in
    record {
      spots = its.spots;
      pages = its.pages;
      change_is =
          ap (λ (n : WriteNames). changes.Write n.nsid n.slba n.pid n.pid_invalid c.args.numbers.now) names
          ∙ ap (λ (ns : List ℕ). changes.Write w.nsid w.slba w.dspec (not g.pid_valid) ns) its.numbers_are;
    }

pub returns-clause-limits : goal.returns-clause-limits
unfolding is_within_limits
returns-clause-limits c = within-most 64 (length c.args.numbers.now) c.requires.few.0 c.requires.few.1
