use Rattle.std.proofs.Common.{◌≡◌, [], ◌∷◌, sym, refl, ap, ◌∙◌}
use Rattle.std.proofs.lemmas.Result.{err_from_is_err_and}
use Rattle.toml.specs.View.{table_view}
use Rattle.fdp_config.proofs.Chain.{stop_after, all_past, enabled_range, fdp_range, namespaces_range, listable_is}
use Rattle.fdp_config.proofs.Checks.{checked_free, checked_told}
use Rattle.fdp_config.specs.Document.{amount_at, truth_of}
use Rattle.fdp_config.specs.Ranges.{above}
use Rattle.fdp_config.specs.Reader.Config.{config_in}
use Rattle.fdp_config.specs.Table.{keys}
use Rattle.fdp_config.specs.declared.key.Key.TheVariants.{Block, UnitPages, Groups, Units, AreaUnits, Queues, BlocksPerCommand, Fdp, Enabled, Index, Namespaces, QueueDepth, Collectors, Turns}
use Rattle.fdp_config.proofs.read.ranged_config.Goals as goal

pub limited-requires-clause-limit : goal.limited-requires-clause-limit
limited-requires-clause-limit c =
    ap (λ pages. above pages (amount_at (table_view c.args.table.now) BlocksPerCommand)) (sym (checked_free UnitPages _ _ _ (sym c.in_ok-unit_pages.ensures.value)).1)

pub returns-in_err-block-clause-fault : goal.returns-in_err-block-clause-fault
returns-in_err-block-clause-fault c =
    let p = err_from_is_err_and c.from_residual.result c.from_residual.ensures.1 in
    let (told, fails, is) = checked_told Block _ _ _ (sym c.in_err-block.ensures) in
    rw (p.1, p.2) (λ _. stop_after (table_view c.args.table.now) [] (UnitPages ∷ Groups ∷ Units ∷ AreaUnits ∷ Queues ∷ BlocksPerCommand ∷ Fdp ∷ Enabled ∷ Index ∷ Namespaces ∷ QueueDepth ∷ Collectors ∷ Turns ∷ []) Block told _ tt fails is)

pub returns-in_err-unit_pages-clause-fault : goal.returns-in_err-unit_pages-clause-fault
returns-in_err-unit_pages-clause-fault c =
    let p = err_from_is_err_and c.from_residual-in_err-unit_pages.result c.from_residual-in_err-unit_pages.ensures.1 in
    let (told, fails, is) = checked_told UnitPages _ _ _ (sym c.in_err-unit_pages.ensures.value) in
    rw (p.1, p.2) (λ _. stop_after (table_view c.args.table.now) (Block ∷ []) (Groups ∷ Units ∷ AreaUnits ∷ Queues ∷ BlocksPerCommand ∷ Fdp ∷ Enabled ∷ Index ∷ Namespaces ∷ QueueDepth ∷ Collectors ∷ Turns ∷ []) UnitPages told _ ((checked_free Block _ _ _ (sym c.in_ok-block.ensures)).0, tt) fails is)

pub returns-in_err-groups-clause-fault : goal.returns-in_err-groups-clause-fault
returns-in_err-groups-clause-fault c =
    let p = err_from_is_err_and c.from_residual-in_err-groups.result c.from_residual-in_err-groups.ensures.1 in
    let (told, fails, is) = checked_told Groups _ _ _ (sym c.in_err-groups.ensures.value) in
    rw (p.1, p.2) (λ _. stop_after (table_view c.args.table.now) (Block ∷ UnitPages ∷ []) (Units ∷ AreaUnits ∷ Queues ∷ BlocksPerCommand ∷ Fdp ∷ Enabled ∷ Index ∷ Namespaces ∷ QueueDepth ∷ Collectors ∷ Turns ∷ []) Groups told _ ((checked_free Block _ _ _ (sym c.in_ok-block.ensures)).0, ((checked_free UnitPages _ _ _ (sym c.in_ok-unit_pages.ensures.value)).0, tt)) fails is)

pub returns-in_err-units-clause-fault : goal.returns-in_err-units-clause-fault
returns-in_err-units-clause-fault c =
    let p = err_from_is_err_and c.from_residual-in_err-units.result c.from_residual-in_err-units.ensures.1 in
    let (told, fails, is) = checked_told Units _ _ _ (sym c.in_err-units.ensures) in
    rw (p.1, p.2) (λ _. stop_after (table_view c.args.table.now) (Block ∷ UnitPages ∷ Groups ∷ []) (AreaUnits ∷ Queues ∷ BlocksPerCommand ∷ Fdp ∷ Enabled ∷ Index ∷ Namespaces ∷ QueueDepth ∷ Collectors ∷ Turns ∷ []) Units told _ ((checked_free Block _ _ _ (sym c.in_ok-block.ensures)).0, ((checked_free UnitPages _ _ _ (sym c.in_ok-unit_pages.ensures.value)).0, ((checked_free Groups _ _ _ (sym c.in_ok-groups.ensures.value)).0, tt))) fails is)

pub returns-in_err-area_units-clause-fault : goal.returns-in_err-area_units-clause-fault
returns-in_err-area_units-clause-fault c =
    let p = err_from_is_err_and c.from_residual-in_err-area_units.result c.from_residual-in_err-area_units.ensures.1 in
    let (told, fails, is) = checked_told AreaUnits _ _ _ (sym c.in_err-area_units.ensures.value) in
    rw (p.1, p.2) (λ _. stop_after (table_view c.args.table.now) (Block ∷ UnitPages ∷ Groups ∷ Units ∷ []) (Queues ∷ BlocksPerCommand ∷ Fdp ∷ Enabled ∷ Index ∷ Namespaces ∷ QueueDepth ∷ Collectors ∷ Turns ∷ []) AreaUnits told _ ((checked_free Block _ _ _ (sym c.in_ok-block.ensures)).0, ((checked_free UnitPages _ _ _ (sym c.in_ok-unit_pages.ensures.value)).0, ((checked_free Groups _ _ _ (sym c.in_ok-groups.ensures.value)).0, ((checked_free Units _ _ _ (sym c.in_ok-units.ensures)).0, tt)))) fails is)

pub returns-in_err-queues-clause-fault : goal.returns-in_err-queues-clause-fault
returns-in_err-queues-clause-fault c =
    let p = err_from_is_err_and c.from_residual-in_err-queues.result c.from_residual-in_err-queues.ensures.1 in
    let (told, fails, is) = checked_told Queues _ _ _ (sym c.in_err-queues.ensures.value) in
    rw (p.1, p.2) (λ _. stop_after (table_view c.args.table.now) (Block ∷ UnitPages ∷ Groups ∷ Units ∷ AreaUnits ∷ []) (BlocksPerCommand ∷ Fdp ∷ Enabled ∷ Index ∷ Namespaces ∷ QueueDepth ∷ Collectors ∷ Turns ∷ []) Queues told _ ((checked_free Block _ _ _ (sym c.in_ok-block.ensures)).0, ((checked_free UnitPages _ _ _ (sym c.in_ok-unit_pages.ensures.value)).0, ((checked_free Groups _ _ _ (sym c.in_ok-groups.ensures.value)).0, ((checked_free Units _ _ _ (sym c.in_ok-units.ensures)).0, ((checked_free AreaUnits _ _ _ (sym c.in_ok-area_units.ensures.value)).0, tt))))) fails is)

pub returns-in_err-blocks_per_command-clause-fault : goal.returns-in_err-blocks_per_command-clause-fault
returns-in_err-blocks_per_command-clause-fault c =
    let p = err_from_is_err_and c.from_residual-in_err-blocks_per_command.result c.from_residual-in_err-blocks_per_command.ensures.1 in
    let (told, fails, is) = checked_told BlocksPerCommand _ _ _ (sym c.in_err-blocks_per_command.ensures.value) in
    rw (p.1, p.2) (λ _. stop_after (table_view c.args.table.now) (Block ∷ UnitPages ∷ Groups ∷ Units ∷ AreaUnits ∷ Queues ∷ []) (Fdp ∷ Enabled ∷ Index ∷ Namespaces ∷ QueueDepth ∷ Collectors ∷ Turns ∷ []) BlocksPerCommand told _ ((checked_free Block _ _ _ (sym c.in_ok-block.ensures)).0, ((checked_free UnitPages _ _ _ (sym c.in_ok-unit_pages.ensures.value)).0, ((checked_free Groups _ _ _ (sym c.in_ok-groups.ensures.value)).0, ((checked_free Units _ _ _ (sym c.in_ok-units.ensures)).0, ((checked_free AreaUnits _ _ _ (sym c.in_ok-area_units.ensures.value)).0, ((checked_free Queues _ _ _ (sym c.in_ok-queues.ensures.value)).0, tt)))))) fails is)

pub returns-in_err-index-clause-fault : goal.returns-in_err-index-clause-fault
returns-in_err-index-clause-fault c =
    let p = err_from_is_err_and c.from_residual-in_err-index.result c.from_residual-in_err-index.ensures.1 in
    let (told, fails, is) = checked_told Index _ _ _ (sym c.in_err-index.ensures.value) in
    rw (p.1, p.2) (λ _. stop_after (table_view c.args.table.now) (Block ∷ UnitPages ∷ Groups ∷ Units ∷ AreaUnits ∷ Queues ∷ BlocksPerCommand ∷ Fdp ∷ Enabled ∷ []) (Namespaces ∷ QueueDepth ∷ Collectors ∷ Turns ∷ []) Index told _ ((checked_free Block _ _ _ (sym c.in_ok-block.ensures)).0, ((checked_free UnitPages _ _ _ (sym c.in_ok-unit_pages.ensures.value)).0, ((checked_free Groups _ _ _ (sym c.in_ok-groups.ensures.value)).0, ((checked_free Units _ _ _ (sym c.in_ok-units.ensures)).0, ((checked_free AreaUnits _ _ _ (sym c.in_ok-area_units.ensures.value)).0, ((checked_free Queues _ _ _ (sym c.in_ok-queues.ensures.value)).0, ((checked_free BlocksPerCommand _ _ _ (sym c.in_ok-blocks_per_command.ensures.value)).0, ((fdp_range (table_view c.args.table.now) ∙ (checked_free Fdp _ _ _ c.in_ok-fdp.ensures.value).0), ((enabled_range (table_view c.args.table.now)), tt))))))))) fails is)

pub returns-in_err-queue_depth-clause-fault : goal.returns-in_err-queue_depth-clause-fault
returns-in_err-queue_depth-clause-fault c =
    let p = err_from_is_err_and c.from_residual-in_err-queue_depth.result c.from_residual-in_err-queue_depth.ensures.1 in
    let (told, fails, is) = checked_told QueueDepth _ _ _ (sym c.in_err-queue_depth.ensures.value) in
    let same = listable_is (table_view c.args.table.now) _ _ _ _ c.listable-listable.ensures.value (c.as_slice-2.ensures ∙ (checked_free Fdp _ _ _ c.in_ok-fdp.ensures.value).1) (c.truth_of-enabled.ensures ∙ ap truth_of c.value_at.ensures) (checked_free Index _ _ _ (sym c.in_ok-index.ensures.value)).1 in
    rw (p.1, p.2) (λ _. stop_after (table_view c.args.table.now) (Block ∷ UnitPages ∷ Groups ∷ Units ∷ AreaUnits ∷ Queues ∷ BlocksPerCommand ∷ Fdp ∷ Enabled ∷ Index ∷ Namespaces ∷ []) (Collectors ∷ Turns ∷ []) QueueDepth told _ ((checked_free Block _ _ _ (sym c.in_ok-block.ensures)).0, ((checked_free UnitPages _ _ _ (sym c.in_ok-unit_pages.ensures.value)).0, ((checked_free Groups _ _ _ (sym c.in_ok-groups.ensures.value)).0, ((checked_free Units _ _ _ (sym c.in_ok-units.ensures)).0, ((checked_free AreaUnits _ _ _ (sym c.in_ok-area_units.ensures.value)).0, ((checked_free Queues _ _ _ (sym c.in_ok-queues.ensures.value)).0, ((checked_free BlocksPerCommand _ _ _ (sym c.in_ok-blocks_per_command.ensures.value)).0, ((fdp_range (table_view c.args.table.now) ∙ (checked_free Fdp _ _ _ c.in_ok-fdp.ensures.value).0), ((enabled_range (table_view c.args.table.now)), ((checked_free Index _ _ _ (sym c.in_ok-index.ensures.value)).0, ((namespaces_range (table_view c.args.table.now) c.listable-listable.result same ∙ (checked_free Namespaces _ _ _ c.in_ok-namespaces.ensures).0), tt))))))))))) fails is)

pub returns-in_err-collectors-clause-fault : goal.returns-in_err-collectors-clause-fault
returns-in_err-collectors-clause-fault c =
    let p = err_from_is_err_and c.from_residual-in_err-collectors.result c.from_residual-in_err-collectors.ensures.1 in
    let (told, fails, is) = checked_told Collectors _ _ _ (sym c.in_err-collectors.ensures.value) in
    let same = listable_is (table_view c.args.table.now) _ _ _ _ c.listable-listable.ensures.value (c.as_slice-2.ensures ∙ (checked_free Fdp _ _ _ c.in_ok-fdp.ensures.value).1) (c.truth_of-enabled.ensures ∙ ap truth_of c.value_at.ensures) (checked_free Index _ _ _ (sym c.in_ok-index.ensures.value)).1 in
    rw (p.1, p.2) (λ _. stop_after (table_view c.args.table.now) (Block ∷ UnitPages ∷ Groups ∷ Units ∷ AreaUnits ∷ Queues ∷ BlocksPerCommand ∷ Fdp ∷ Enabled ∷ Index ∷ Namespaces ∷ QueueDepth ∷ []) (Turns ∷ []) Collectors told _ ((checked_free Block _ _ _ (sym c.in_ok-block.ensures)).0, ((checked_free UnitPages _ _ _ (sym c.in_ok-unit_pages.ensures.value)).0, ((checked_free Groups _ _ _ (sym c.in_ok-groups.ensures.value)).0, ((checked_free Units _ _ _ (sym c.in_ok-units.ensures)).0, ((checked_free AreaUnits _ _ _ (sym c.in_ok-area_units.ensures.value)).0, ((checked_free Queues _ _ _ (sym c.in_ok-queues.ensures.value)).0, ((checked_free BlocksPerCommand _ _ _ (sym c.in_ok-blocks_per_command.ensures.value)).0, ((fdp_range (table_view c.args.table.now) ∙ (checked_free Fdp _ _ _ c.in_ok-fdp.ensures.value).0), ((enabled_range (table_view c.args.table.now)), ((checked_free Index _ _ _ (sym c.in_ok-index.ensures.value)).0, ((namespaces_range (table_view c.args.table.now) c.listable-listable.result same ∙ (checked_free Namespaces _ _ _ c.in_ok-namespaces.ensures).0), ((checked_free QueueDepth _ _ _ (sym c.in_ok-queue_depth.ensures.value)).0, tt)))))))))))) fails is)

pub returns-in_err-turns-clause-fault : goal.returns-in_err-turns-clause-fault
returns-in_err-turns-clause-fault c =
    let p = err_from_is_err_and c.from_residual-in_err-turns.result c.from_residual-in_err-turns.ensures.1 in
    let (told, fails, is) = checked_told Turns _ _ _ (sym c.in_err-turns.ensures.value) in
    let same = listable_is (table_view c.args.table.now) _ _ _ _ c.listable-listable.ensures.value (c.as_slice-2.ensures ∙ (checked_free Fdp _ _ _ c.in_ok-fdp.ensures.value).1) (c.truth_of-enabled.ensures ∙ ap truth_of c.value_at.ensures) (checked_free Index _ _ _ (sym c.in_ok-index.ensures.value)).1 in
    rw (p.1, p.2) (λ _. stop_after (table_view c.args.table.now) (Block ∷ UnitPages ∷ Groups ∷ Units ∷ AreaUnits ∷ Queues ∷ BlocksPerCommand ∷ Fdp ∷ Enabled ∷ Index ∷ Namespaces ∷ QueueDepth ∷ Collectors ∷ []) [] Turns told _ ((checked_free Block _ _ _ (sym c.in_ok-block.ensures)).0, ((checked_free UnitPages _ _ _ (sym c.in_ok-unit_pages.ensures.value)).0, ((checked_free Groups _ _ _ (sym c.in_ok-groups.ensures.value)).0, ((checked_free Units _ _ _ (sym c.in_ok-units.ensures)).0, ((checked_free AreaUnits _ _ _ (sym c.in_ok-area_units.ensures.value)).0, ((checked_free Queues _ _ _ (sym c.in_ok-queues.ensures.value)).0, ((checked_free BlocksPerCommand _ _ _ (sym c.in_ok-blocks_per_command.ensures.value)).0, ((fdp_range (table_view c.args.table.now) ∙ (checked_free Fdp _ _ _ c.in_ok-fdp.ensures.value).0), ((enabled_range (table_view c.args.table.now)), ((checked_free Index _ _ _ (sym c.in_ok-index.ensures.value)).0, ((namespaces_range (table_view c.args.table.now) c.listable-listable.result same ∙ (checked_free Namespaces _ _ _ c.in_ok-namespaces.ensures).0), ((checked_free QueueDepth _ _ _ (sym c.in_ok-queue_depth.ensures.value)).0, ((checked_free Collectors _ _ _ (sym c.in_ok-collectors.ensures.value)).0, tt))))))))))))) fails is)

pub returns-in_err-fdp-clause-fault : goal.returns-in_err-fdp-clause-fault
returns-in_err-fdp-clause-fault c =
    let p = err_from_is_err_and c.from_residual-in_err-fdp.result c.from_residual-in_err-fdp.ensures.1 in
    rw (p.1, p.2) (λ not_memory.
    let (told, fails, is) = checked_told Fdp _ _ _ (c.in_err-fdp.ensures.value not_memory) in
    stop_after (table_view c.args.table.now) (Block ∷ UnitPages ∷ Groups ∷ Units ∷ AreaUnits ∷ Queues ∷ BlocksPerCommand ∷ []) (Enabled ∷ Index ∷ Namespaces ∷ QueueDepth ∷ Collectors ∷ Turns ∷ []) Fdp told _ ((checked_free Block _ _ _ (sym c.in_ok-block.ensures)).0, ((checked_free UnitPages _ _ _ (sym c.in_ok-unit_pages.ensures.value)).0, ((checked_free Groups _ _ _ (sym c.in_ok-groups.ensures.value)).0, ((checked_free Units _ _ _ (sym c.in_ok-units.ensures)).0, ((checked_free AreaUnits _ _ _ (sym c.in_ok-area_units.ensures.value)).0, ((checked_free Queues _ _ _ (sym c.in_ok-queues.ensures.value)).0, ((checked_free BlocksPerCommand _ _ _ (sym c.in_ok-blocks_per_command.ensures.value)).0, tt))))))) (fdp_range (table_view c.args.table.now) ∙ fails) is)

pub returns-in_err-namespaces-clause-fault : goal.returns-in_err-namespaces-clause-fault
returns-in_err-namespaces-clause-fault c =
    let same = listable_is (table_view c.args.table.now) _ _ _ _ c.listable-listable.ensures.value (c.as_slice-2.ensures ∙ (checked_free Fdp _ _ _ c.in_ok-fdp.ensures.value).1) (c.truth_of-enabled.ensures ∙ ap truth_of c.value_at.ensures) (checked_free Index _ _ _ (sym c.in_ok-index.ensures.value)).1 in
    let p = err_from_is_err_and c.from_residual-in_err-namespaces.result c.from_residual-in_err-namespaces.ensures.1 in
    rw (p.1, p.2) (λ not_memory.
    let (told, fails, is) = checked_told Namespaces _ _ _ (c.in_err-namespaces.ensures not_memory) in
    stop_after (table_view c.args.table.now) (Block ∷ UnitPages ∷ Groups ∷ Units ∷ AreaUnits ∷ Queues ∷ BlocksPerCommand ∷ Fdp ∷ Enabled ∷ Index ∷ []) (QueueDepth ∷ Collectors ∷ Turns ∷ []) Namespaces told _ ((checked_free Block _ _ _ (sym c.in_ok-block.ensures)).0, ((checked_free UnitPages _ _ _ (sym c.in_ok-unit_pages.ensures.value)).0, ((checked_free Groups _ _ _ (sym c.in_ok-groups.ensures.value)).0, ((checked_free Units _ _ _ (sym c.in_ok-units.ensures)).0, ((checked_free AreaUnits _ _ _ (sym c.in_ok-area_units.ensures.value)).0, ((checked_free Queues _ _ _ (sym c.in_ok-queues.ensures.value)).0, ((checked_free BlocksPerCommand _ _ _ (sym c.in_ok-blocks_per_command.ensures.value)).0, ((fdp_range (table_view c.args.table.now) ∙ (checked_free Fdp _ _ _ c.in_ok-fdp.ensures.value).0), ((enabled_range (table_view c.args.table.now)), ((checked_free Index _ _ _ (sym c.in_ok-index.ensures.value)).0, tt)))))))))) (namespaces_range (table_view c.args.table.now) c.listable-listable.result same ∙ fails) is)

pub returns-clause-config : goal.returns-clause-config
returns-clause-config c =
    let same = listable_is (table_view c.args.table.now) _ _ _ _ c.listable-listable.ensures.value (c.as_slice-2.ensures ∙ (checked_free Fdp _ _ _ c.in_ok-fdp.ensures.value).1) (c.truth_of-enabled.ensures ∙ ap truth_of c.value_at.ensures) (checked_free Index _ _ _ (sym c.in_ok-index.ensures.value)).1 in
    let config : (record {
      block = c.in_ok-block.block;
      unit_pages = c.in_ok-unit_pages.unit_pages;
      groups = c.in_ok-groups.groups;
      units = c.in_ok-units.units;
      area_units = c.in_ok-area_units.area_units;
      queues = c.in_ok-queues.queues;
      blocks_per_command = c.in_ok-blocks_per_command.blocks_per_command;
      fdp = c.in_ok-fdp.fdp;
      enabled = c.truth_of-enabled.result;
      index = c.in_ok-index.index;
      namespaces = c.in_ok-namespaces.namespaces;
      queue_depth = c.in_ok-queue_depth.queue_depth;
      collectors = c.in_ok-collectors.collectors;
      turns = c.in_ok-turns.turns;
    }) ≡ config_in (table_view c.args.table.now) =
    rw ((checked_free Block _ _ _ (sym c.in_ok-block.ensures)).1, (checked_free UnitPages _ _ _ (sym c.in_ok-unit_pages.ensures.value)).1, (checked_free Groups _ _ _ (sym c.in_ok-groups.ensures.value)).1, (checked_free Units _ _ _ (sym c.in_ok-units.ensures)).1, (checked_free AreaUnits _ _ _ (sym c.in_ok-area_units.ensures.value)).1, (checked_free Queues _ _ _ (sym c.in_ok-queues.ensures.value)).1, (checked_free BlocksPerCommand _ _ _ (sym c.in_ok-blocks_per_command.ensures.value)).1, (checked_free Fdp _ _ _ c.in_ok-fdp.ensures.value).1, c.truth_of-enabled.ensures ∙ ap truth_of c.value_at.ensures, (checked_free Index _ _ _ (sym c.in_ok-index.ensures.value)).1, (checked_free Namespaces _ _ _ c.in_ok-namespaces.ensures).1, (checked_free QueueDepth _ _ _ (sym c.in_ok-queue_depth.ensures.value)).1, (checked_free Collectors _ _ _ (sym c.in_ok-collectors.ensures.value)).1, (checked_free Turns _ _ _ (sym c.in_ok-turns.ensures.value)).1) refl in
    (config, all_past (table_view c.args.table.now) keys ((checked_free Block _ _ _ (sym c.in_ok-block.ensures)).0, ((checked_free UnitPages _ _ _ (sym c.in_ok-unit_pages.ensures.value)).0, ((checked_free Groups _ _ _ (sym c.in_ok-groups.ensures.value)).0, ((checked_free Units _ _ _ (sym c.in_ok-units.ensures)).0, ((checked_free AreaUnits _ _ _ (sym c.in_ok-area_units.ensures.value)).0, ((checked_free Queues _ _ _ (sym c.in_ok-queues.ensures.value)).0, ((checked_free BlocksPerCommand _ _ _ (sym c.in_ok-blocks_per_command.ensures.value)).0, ((fdp_range (table_view c.args.table.now) ∙ (checked_free Fdp _ _ _ c.in_ok-fdp.ensures.value).0), ((enabled_range (table_view c.args.table.now)), ((checked_free Index _ _ _ (sym c.in_ok-index.ensures.value)).0, ((namespaces_range (table_view c.args.table.now) c.listable-listable.result same ∙ (checked_free Namespaces _ _ _ c.in_ok-namespaces.ensures).0), ((checked_free QueueDepth _ _ _ (sym c.in_ok-queue_depth.ensures.value)).0, ((checked_free Collectors _ _ _ (sym c.in_ok-collectors.ensures.value)).0, ((checked_free Turns _ _ _ (sym c.in_ok-turns.ensures.value)).0, tt)))))))))))))))
