use Rattle.std.proofs.Common.{◌∙◌, ap, sym}
use Rattle.std.specs.List.{list_all}
use Rattle.fdp_commands.proofs.Summing.{namespace_ids_are}
use Rattle.fdp_image.specs.Fits.{is_born}
use Rattle.fdp_state.specs.Parts.{reading_of}
use Rattle.fdp_state.proofs.fits.are_born.Goals as goal

pub returns : goal.returns
returns c = c.all_born.ensures ∙ sym (ap (list_all (λ nsid. is_born (reading_of c.args.parts.now) nsid c.args.position)) namespace_ids_are)
