-- Fewer scopes are left.
use Rattle.std.proofs.Common.{length}
use Rattle.elab_items.proofs.scopes.+entry_in.Given as goal

abbrev pub decreases-entry_in : goal.decreases-entry_in
decreases-entry_in l = length l.around.now
