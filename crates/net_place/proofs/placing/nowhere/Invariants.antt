use Rattle.std.proofs.Common.{◌≡◌, None, replicate}
use Rattle.net_place.proofs.placing.nowhere.Given as goal

abbrev pub invariant-gates : goal.invariant-gates
invariant-gates l = record {
  some : l.places.items ≡ replicate l._gate None;
}
