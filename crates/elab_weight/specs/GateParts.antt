-- The parts of a gate's terminals: an output is assigned to, and an input stands by itself.
--     behind_one d es           the first terminal is the output
--     before_last d es          the last terminal is the input
--     sized_gate d g            the parts of a gate
use Rattle.std.specs.Prelude.{List, [], ◌∷◌, ◌++◌}
use Rattle.std.specs.List.{flat_map}
use Rattle.vlog_tree.specs.declared.expr.Expr.{Expr}
use Rattle.vlog_tree.specs.declared.item.GateKind.{GateKind}
use Rattle.vlog_tree.specs.declared.item.GateKind.TheVariants as gate
use Rattle.design_form.specs.declared.parts.GateUse.{GateUse}
use Rattle.design_form.specs.declared.parts.Parts.{Parts}
use Rattle.design_sizes.specs.Sizes.{Sized, sized_alone, sized_target}

unfoldable pub behind_one : Parts → List Expr → List Sized
behind_one d [] = []
behind_one d (e ∷ es) = sized_target d e ++ flat_map (sized_alone d) es

unfoldable pub before_last : Parts → List Expr → List Sized
before_last d [] = []
before_last d (e ∷ []) = sized_alone d e
before_last d (e ∷ f ∷ es) = sized_target d e ++ before_last d (f ∷ es)

unfoldable pub sized_terminals : Parts → GateKind → List Expr → List Sized
sized_terminals d gate.Not es = before_last d es
sized_terminals d gate.Buf es = before_last d es
sized_terminals d _ es = behind_one d es

abbrev pub sized_gate : Parts → GateUse → List Sized
sized_gate d g = sized_terminals d g.kind g.terminals
