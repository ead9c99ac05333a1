-- Each level takes one from those that are left.
use Rattle.std.proofs.Common.{◌≡◌, ◌+◌, ◌*◌, drop}
use Rattle.elab_scopes.specs.Threads.{threaded}
use Rattle.elab_items.specs.Tables.{lib_of, pending_of}
use Rattle.elab_tree.specs.Hierarchy.{grown}
use Rattle.elab_tree.specs.Tables.{state_of}
use Rattle.elab_tree.proofs.hierarchy.+hierarchy.Given as goal

abbrev pub decreases-instance : goal.decreases-instance
decreases-instance l = 3 * l.levels

abbrev pub decreases-inner : goal.decreases-inner
decreases-inner l = 3 * l.levels + 1

abbrev pub decreases-instance_of : goal.decreases-instance_of
decreases-instance_of l = 3 * l.levels + 2

abbrev pub invariant-inner-loop-w : goal.invariant-inner-loop-w
invariant-inner-loop-w l = threaded (λ s w. grown l.levels (lib_of l.library) l.chain (pending_of w) s) (state_of l.g) (drop l.w-index l.waiting) ≡ threaded (λ s w. grown l.levels (lib_of l.library) l.chain (pending_of w) s) (state_of l.fn.g) l.waiting
