-- Fewer frames are left.
use Rattle.std.proofs.Common.{length}
use Rattle.elab_names.proofs.scope.+found_in.Given as goal

abbrev pub decreases-found_in : goal.decreases-found_in
decreases-found_in l = length l.frames.now
