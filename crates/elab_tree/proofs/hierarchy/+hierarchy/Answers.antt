use Rattle.std.proofs.Common.{arith, ◌∙◌}
use Rattle.elab_scopes.proofs.ThreadLemmas.{one_more, one_stops, all_done}
use Rattle.elab_items.specs.Tables.{lib_of, pending_of}
use Rattle.elab_tree.specs.Hierarchy.{grown}
use Rattle.elab_tree.specs.Tables.{state_of}
use Rattle.elab_tree.proofs.MapLemmas.{stops_map, threaded_map}
use Rattle.elab_tree.proofs.hierarchy.+hierarchy.Goals as goal

pub inner-loop-w-preserved : goal.inner-loop-w-preserved
inner-loop-w-preserved t c = one_more (λ s w. grown c.args.levels (lib_of c.args.library.now) c.args.chain.now (pending_of w) s) (state_of c.loop-w.g) (state_of c.instance.new.g) (state_of c.args.g.now) c.args.waiting.now c.loop-w.w-index c.w-item.result (omega arith) c.w-item.is c.loop-w.invariant c.in-Ok.ensures

pub inner-returns-in-Err : goal.inner-returns-in-Err
inner-returns-in-Err t c = stops_map (λ s x. grown c.args.levels (lib_of c.args.library.now) c.args.chain.now x s) pending_of (state_of c.args.g.now) c.args.waiting.now c.in-Err.fault
    (one_stops (λ s w. grown c.args.levels (lib_of c.args.library.now) c.args.chain.now (pending_of w) s) (state_of c.loop-w.g) (state_of c.args.g.now) c.in-Err.fault c.args.waiting.now c.loop-w.w-index c.w-item.result (omega arith) c.w-item.is c.loop-w.invariant c.in-Err.ensures)

pub inner-returns : goal.inner-returns
inner-returns t c = threaded_map (λ s x. grown c.args.levels (lib_of c.args.library.now) c.args.chain.now x s) pending_of (state_of c.args.g.now) c.args.waiting.now
    ∙ all_done (λ s w. grown c.args.levels (lib_of c.args.library.now) c.args.chain.now (pending_of w) s) (state_of c.loop-w.g) (state_of c.args.g.now) c.args.waiting.now c.loop-w.w-index (omega arith) c.loop-w.invariant
