-- The printer's own words: the contracts of its private steps cite them, and no public one does.
use Rattle.std.specs.Prelude.{ℕ, ◌+◌, List, [], ◌∷◌, ◌++◌, codes, flat_map}
use Rattle.std.specs.Option.{option_map_or}
use Rattle.fdp_base.specs.declared.config.DriveConfig.{DriveConfig}
use Rattle.fdp_base.specs.declared.entry.Entry.{Entry}
use Rattle.fdp_base.specs.Numbers.{numbers_from}
use Rattle.fdp_output.specs.Output.{queue_text}
use Rattle.fdp_output.specs.RunOutput.{event_line, totals_line, usage_line}
use Rattle.fdp_printing.specs.declared.closing.Closing.{Closing}
use Rattle.fdp_printing.specs.declared.closing.Placement.{Placement}

-- the usages of handles that follow one another, the first of them this one
abbrev pub usage_lines : ℕ → List ℕ → List ℕ
usage_lines ruh [] = []
usage_lines ruh (usage ∷ usages) = usage_line ruh usage ++ usage_lines (ruh + 1) usages

-- usages and events
abbrev pub placement_lines : Placement → List ℕ
placement_lines x =
    usage_lines 0 x.usages.items
    ++ flat_map (event_line (codes "host")) x.host_events.items
    ++ flat_map (event_line (codes "ctrl")) x.controller_events.items

-- what is printed behind the completions
abbrev pub closing_lines : DriveConfig → Closing → List ℕ
closing_lines c x = totals_line c x.totals ++ option_map_or placement_lines x.placement []

-- the whole output: the completions of so many queues, and what is printed behind them
abbrev pub run_lines : DriveConfig → ℕ → List Entry → Closing → List ℕ
run_lines c traces es x = flat_map (queue_text es) (numbers_from 1 traces) ++ closing_lines c x
