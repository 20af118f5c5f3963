use Rattle.std.proofs.Common.{◌≡◌, false, None, sym, ⊎_elim, subst}
use Rattle.std.proofs.lemmas.Bool.{false≢true}
use Rattle.fdp_base.specs.declared.command.Command.{Command}
use Rattle.fdp_base.specs.CommandKinds.{is_write}
use Rattle.fdp_book.specs.Book.{point_in}
use Rattle.fdp_book.proofs.Histories.Accepted.{other-refused}
use Rattle.fdp_rules.specs.Refusal.{refusal_of}
use Rattle.fdp_book.proofs.book.Book.first_of_accepted.Goals as goal

pub unreachable-requires : goal.unreachable-requires
unreachable-requires c =
    ⊎_elim
    (λ write. false≢true (sym (subst (λ (k : Command). is_write k ≡ false) write.1 c.requires.other)))
    (λ other. other-refused c.args.self.now.config (point_in c.args.self.now) other.0 (subst (λ (k : Command). refusal_of c.args.self.now.config (point_in c.args.self.now) k ≡ None) other.1 c.requires.accepted))
    c.in-Write.is
