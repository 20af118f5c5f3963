use Rattle.fdp_outline.proofs.Saying.{says-reading}
use Rattle.fdp_outline.proofs.laws.an_outline_says_the_reading.Goals as goal

pub returns-clause-sizes : goal.returns-clause-sizes
returns-clause-sizes g c r s lists h = h.sizes

pub returns-clause-says : goal.returns-clause-says
returns-clause-says g c r s lists h totals pages = says-reading c r s lists h totals pages.pages
