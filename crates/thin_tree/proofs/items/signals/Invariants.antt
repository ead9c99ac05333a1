-- What is left decides what all give.
use Rattle.std.proofs.Common.{◌≡◌, drop, map}
use Rattle.thin_tree.specs.Form.{all_of, signal_in, input_names}
use Rattle.thin_tree.specs.Written.{a_declared}
use Rattle.thin_tree.proofs.Gathered.{behind}
use Rattle.thin_tree.proofs.items.signals.Given as goal

abbrev pub invariant-loop-s : goal.invariant-loop-s
invariant-loop-s l = behind (map a_declared l.out.items) (all_of (signal_in (input_names l.names.design.now.ports)) (drop l.s-index l.given)) ≡ all_of (signal_in (input_names l.names.design.now.ports)) l.given
