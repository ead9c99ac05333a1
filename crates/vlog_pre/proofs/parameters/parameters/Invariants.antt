-- The parameters so far, and what is left, give all parameters.
use Rattle.std.proofs.Common.{◌≡◌, ◌≤◌, [], length}
use Rattle.vlog_pre.specs.declared.parameters.Reached.TheVariants.{BeforeName}
use Rattle.vlog_pre.specs.Macros.{parameters_from}
use Rattle.vlog_pre.proofs.parameters.parameters.Given as goal

abbrev pub invariant-bytes : goal.invariant-bytes
invariant-bytes l = record {
  read : parameters_from l.reached l.names l.name l.reader.items ≡ parameters_from BeforeName [] [] l.initial.reader.items;
  names : l.reader.names ≡ l.initial.reader.names;
  shorter : length l.reader.items ≤ length l.initial.reader.items;
}

abbrev pub decreases-bytes : goal.decreases-bytes
decreases-bytes l = length l.reader.items
