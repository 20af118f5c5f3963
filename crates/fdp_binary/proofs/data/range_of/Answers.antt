use Rattle.std.proofs.Common.{◌∙◌, sym}
use Rattle.fdp_binary.proofs.Fronts.{no-bad-range}
use Rattle.fdp_binary.proofs.data.range_of.Goals as goal

pub unreachable-requires : goal.unreachable-requires
unreachable-requires c = no-bad-range c.copy_from_slice.new.self c.in-Err.field-0 ((c.decode.ensures.refused c.in-Err.field-0).0 c.in-Err.is)

pub returns : goal.returns
returns c = (c.in-Ok.range.attributes, c.encode-fits.ensures.fits, sym c.copy_from_slice.ensures.after ∙ c.in-Ok.ensures.ok)
