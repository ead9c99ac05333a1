use Rattle.std.proofs.Common.{◌≡◌, None, length, replicate, drop}
use Rattle.net_core.specs.Net.{with_gates}
use Rattle.net_place.proofs.Standing.{IsOnWay}
use Rattle.net_place.proofs.placing.place.Given as goal

abbrev pub invariant-gates : goal.invariant-gates
invariant-gates l = record {
  way : IsOnWay l.gates l.roots l.sources l.order (record { gates = l.fn.net.gates; places = replicate (length l.gates) None }) l.net.gates l.places.items (drop l.i l.order);
  net : l.net ≡ with_gates l.fn.net l.net.gates;
}
