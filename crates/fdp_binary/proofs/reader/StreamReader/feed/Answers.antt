use Rattle.std.proofs.Common.{refl, sym, ap, ◌∙◌}
use Rattle.fdp_binary.proofs.Advancing.{read-stays}
use Rattle.fdp_binary.proofs.reader.StreamReader.feed.Goals as goal

pub returns-in-Some : goal.returns-in-Some
returns-in-Some c = λ bytes read.
    let stands = sym (ap (λ s. s.fault) c.self.view_is) ∙ c.in-Some.is in
    (refl, stands, read-stays c.args.self.now bytes c.args.piece.now c.in-Some.fault stands read)
