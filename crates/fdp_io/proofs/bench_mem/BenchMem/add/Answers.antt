use Rattle.std.proofs.Common.{◌∙◌, ap, refl, Some, None, cond}
use Rattle.std.specs.Prelude.{bytes_eq}
use Rattle.std.specs.Option.{option_or}
use Rattle.fdp_io.specs.Texts.{text_named}
use Rattle.fdp_io.proofs.Named.{text_named-push}
use Rattle.fdp_io.proofs.bench_mem.BenchMem.add.Goals as goal

pub returns-clause-ok : goal.returns-clause-ok
returns-clause-ok c =
    let texts = c.args.self.now.texts.items in
    record {
      text_of = λ n.
          ap (text_named n) c.in_ok-push.ensures.items ∙ text_named-push n texts _
          ∙ ap (λ name. option_or (text_named n texts) (cond (bytes_eq name n) (Some c.in_ok-bytes.bytes.items) None)) c.in_ok-name.ensures.ok
          ∙ ap (λ text. option_or (text_named n texts) (cond (bytes_eq c.args.name.now n) (Some text) None)) c.in_ok-bytes.ensures.items;
      tells = refl;
      same_faults = refl;
    }
