use Rattle.std.proofs.Common.{ap, refl, ◌∙◌}
use Rattle.std.specs.Prelude.{option_and_then}
use Rattle.fdp_rules.specs.Sites.{outside}
use Rattle.fdp_tables.specs.PageSites.{site_in}
use Rattle.fdp_tables.proofs.Walks.{site-changed}
use Rattle.fdp_plain_trail.proofs.Placing.{count-changed, count_at}
use Rattle.fdp_plain_trail.proofs.trail.erase_sites.Goals as goal

pub returns-clause-sites : goal.returns-clause-sites
returns-clause-sites c = λ t i. ap (λ rows. site_in rows t i) c.erase.ensures ∙ site-changed (option_and_then (outside c.args.unit)) c.args.kept.now.sites.rows t i refl

pub returns-clause-places : goal.returns-clause-places
returns-clause-places c = λ t. ap (λ rows. count_at rows t) c.erase.ensures ∙ count-changed (option_and_then (outside c.args.unit)) c.args.kept.now.sites.rows t

pub returns-clause-found : goal.returns-clause-found
returns-clause-found c = λ spot. ap (λ rows. site_in rows spot.unit spot.page) c.erase-2.ensures ∙ site-changed (option_and_then (outside c.args.unit)) c.args.kept.now.found.rows spot.unit spot.page refl
