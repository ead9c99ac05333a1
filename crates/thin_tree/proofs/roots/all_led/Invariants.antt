use Rattle.std.proofs.Common.{◌≡◌, take, map}
use Rattle.thin_tree.specs.Copies.{at_place}
use Rattle.thin_tree.specs.Places.{places_at}
use Rattle.thin_tree.specs.Written.{texts}
use Rattle.thin_tree.proofs.roots.all_led.Given as goal

abbrev pub invariant-loop-name : goal.invariant-loop-name
invariant-loop-name l = texts l.further.items ≡ map (λ e. at_place (texts l.ends) e (places_at l.places e)) (texts (take l.name-index l.names))
