use Rattle.std.proofs.Common.{[], ◌∷◌, None}
use Rattle.run_model.specs.Netlist.{level_of}
use Rattle.run_model.proofs.Ordered.{ordered_alike}
use Rattle.net_tests.proofs.PinOrders.{tree_netlist, tree_resets, tree_ordered}
use Rattle.net_tests.proofs.tree.step_under.Goals as goal

pub step_into-answer-requires-clause-ordered : goal.step_into-answer-requires-clause-ordered
step_into-answer-requires-clause-ordered c =
    ordered_alike tree_netlist (level_of tree_resets) (λ n. None) (level_of c.args.resets.now) (λ n. None) (2 ∷ 4 ∷ 6 ∷ 7 ∷ 8 ∷ []) tree_ordered
