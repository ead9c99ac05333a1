-- The arguments so far, and what is left, give all arguments.
use Rattle.std.proofs.Common.{◌≡◌, ◌≤◌, [], length}
use Rattle.vlog_items.specs.declared.modes.Mode.TheVariants.{Plain}
use Rattle.vlog_pre.specs.Uses.{arguments_from}
use Rattle.vlog_pre.proofs.arguments.arguments_behind.Given as goal

abbrev pub invariant-bytes : goal.invariant-bytes
invariant-bytes l = record {
  read : arguments_from l.mode l.depth l.arguments l.argument l.reader.items ≡ arguments_from Plain 0 [] [] l.initial.reader.items;
  depth : l.depth ≤ length l.argument;
  names : l.reader.names ≡ l.initial.reader.names;
  shorter : length l.reader.items ≤ length l.initial.reader.items;
}

abbrev pub decreases-bytes : goal.decreases-bytes
decreases-bytes l = length l.reader.items
