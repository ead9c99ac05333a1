-- What is left decides what all give.
use Rattle.std.proofs.Common.{◌≡◌, drop, map}
use Rattle.thin_tree.specs.Form.{all_of, assignment_in}
use Rattle.thin_tree.specs.Written.{an_assignment}
use Rattle.thin_tree.proofs.Gathered.{behind}
use Rattle.thin_tree.proofs.items.assignments.Given as goal

abbrev pub invariant-loop-d : goal.invariant-loop-d
invariant-loop-d l = behind (map an_assignment l.out.items) (all_of (assignment_in l.names.design.now) (drop l.d-index l.given)) ≡ all_of (assignment_in l.names.design.now) l.given
