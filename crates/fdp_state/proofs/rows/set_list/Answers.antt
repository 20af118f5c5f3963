use Rattle.std.proofs.Common.{ℕ, List, Option, None, length}
use Rattle.std.specs.Option.{option_and_then, option_map_or}
use Rattle.fdp_state.specs.Parts.{row}
use Rattle.fdp_state.proofs.Places.{place_set}
use Rattle.fdp_state.proofs.rows.set_list.Goals as goal

pub returns-clause-pages : goal.returns-clause-pages
returns-clause-pages c n lba = place_set (option_and_then (λ (list : List (Option ℕ)). row list lba)) None _ c.args.nsid c.args.list c.requires.id c.requires.rows n

pub returns-clause-sizes : goal.returns-clause-sizes
returns-clause-sizes c n = place_set (λ (o : Option (List (Option ℕ))). option_map_or length o 0) 0 _ c.args.nsid c.args.list c.requires.id c.requires.rows n
