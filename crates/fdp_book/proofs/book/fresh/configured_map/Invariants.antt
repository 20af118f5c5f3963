use Rattle.fdp_base.specs.Placement.{geometry_of}
use Rattle.fdp_book.proofs.Histories.Configuring.{IsRoomy}
use Rattle.fdp_book.proofs.book.fresh.configured_map.Given as goal

abbrev pub invariant-loop-place : goal.invariant-loop-place
invariant-loop-place l = IsRoomy (geometry_of l.fn.config) l.fn.config.namespaces l.place l.map
