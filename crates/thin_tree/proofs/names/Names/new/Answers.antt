use Rattle.std.proofs.Common.{rules}
use Rattle.thin_tree.specs.Copies.{copies}
use Rattle.thin_tree.specs.Places.{places_at}
use Rattle.thin_tree.specs.Written.{texts}
use Rattle.thin_tree.proofs.Leading.{ends-lead}
use Rattle.thin_tree.proofs.names.Names.new.Goals as goal

pub invariant_of-result : goal.invariant_of-result
invariant_of-result c = record {
  inputs_are = search rules;
  ends_are = λ name. ends-lead (copies c.args.design.now.drivers) (texts c.in_ok-ends.ends.items) (places_at c.in_ok-copied.copied) name (search rules) (search rules);
}
