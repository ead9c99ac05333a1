use Rattle.std.proofs.Common.{drop, map, Contains}
use Rattle.run_model.proofs.calms.find_flop.Given as goal

-- a listed source of the number is still to come
abbrev pub invariant-loop-source : goal.invariant-loop-source
invariant-loop-source g l =
    Contains (map g.V.View.source_number l.order) l.number → Contains (map g.V.View.source_number (drop l.source-index l.order)) l.number
