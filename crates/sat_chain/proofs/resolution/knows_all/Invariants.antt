use Rattle.std.proofs.Common.{◌≡◌, drop}
use Rattle.std.specs.List.{list_all}
use Rattle.sat_chain.specs.Answer.{is_known}
use Rattle.sat_chain.proofs.resolution.knows_all.Given as goal

abbrev pub invariant-loop-n : goal.invariant-loop-n
invariant-loop-n l = list_all (is_known l.count) (drop l.n-index l.chain) ≡ list_all (is_known l.count) l.chain
