use Rattle.std.proofs.Common.{◌∙◌, ap, sym}
use Rattle.std.specs.List.{list_any}
use Rattle.fdp_commands.proofs.Summing.{namespace_ids_are}
use Rattle.fdp_image.specs.Fits.{has_namespace}
use Rattle.fdp_state.specs.Parts.{reading_of}
use Rattle.fdp_state.proofs.fits.has_any.Goals as goal

pub returns : goal.returns
returns c = c.has_any_of.ensures ∙ sym (ap (list_any (has_namespace (reading_of c.args.parts.now))) namespace_ids_are)
