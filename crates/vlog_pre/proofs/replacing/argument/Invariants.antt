-- The parameters that are left have the argument.
use Rattle.std.proofs.Common.{◌≡◌, length}
use Rattle.vlog_pre.specs.Uses.{argument_of}
use Rattle.vlog_pre.proofs.replacing.argument.Given as goal

abbrev pub invariant-parameters : goal.invariant-parameters
invariant-parameters l = argument_of l.later l.values l.word ≡ argument_of l.parameters l.arguments l.word

abbrev pub decreases-parameters : goal.decreases-parameters
decreases-parameters l = length l.later
