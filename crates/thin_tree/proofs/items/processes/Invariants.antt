-- What is left decides what all give.
use Rattle.std.proofs.Common.{◌≡◌, drop, map}
use Rattle.thin_tree.specs.Form.{all_of, process_in}
use Rattle.thin_tree.specs.Written.{a_process}
use Rattle.thin_tree.proofs.Gathered.{behind}
use Rattle.thin_tree.proofs.items.processes.Given as goal

abbrev pub invariant-loop-p : goal.invariant-loop-p
invariant-loop-p l = behind (map a_process l.out.items) (all_of (process_in l.names.design.now) (drop l.p-index l.given)) ≡ all_of (process_in l.names.design.now) l.given
