-- What the program keeps of parts with their sizes.
--     sized_of p, all_sized ps      a part, and a list of them
--     apart d inside e              an expression by itself, which stands in a constant one or not
--     are_apart d inside es         some of these
--     labels_of arms                the labels of case items
--     arm_parts d c arm             the parts of a case item, in the context of all labels
use Rattle.std.specs.Prelude.{Bool, false, List, ◌++◌, map}
use Rattle.std.specs.List.{flat_map}
use Rattle.vlog_tree.specs.declared.expr.Expr.{Expr}
use Rattle.vlog_tree.specs.declared.stmt.Arm.{Arm}
use Rattle.vlog_tree.specs.declared.stmt.Stmt.{Stmt}
use Rattle.vlog_const.specs.declared.shape.Shape.{Shape}
use Rattle.design_form.specs.declared.parts.Parts.{Parts}
use Rattle.design_form.specs.Extents.{shape_of}
use Rattle.design_sizes.specs.declared.sizing.Sizing.{Sizing}
use Rattle.design_sizes.specs.Sizes as sizes
use Rattle.design_sizes.specs.Sizes.{Sized, sized, sized_statement}

abbrev pub sized_of : Sizing → Sized
sized_of p = record { expr = p.expr.now; shape = shape_of p.size; constant = p.constant; inside = p.inside }

abbrev pub all_sized : List Sizing → List Sized
all_sized ps = map sized_of ps

abbrev pub apart : Parts → Bool → Expr → List Sized
apart d inside e = sized d (sizes.shape_of d e) inside e

abbrev pub are_apart : Parts → Bool → List Expr → List Sized
are_apart d inside es = flat_map (apart d inside) es

abbrev pub labels_of : List (Arm Stmt) → List Expr
labels_of arms = flat_map (λ a. a.labels) arms

abbrev pub arm_parts : Parts → Shape → Arm Stmt → List Sized
arm_parts d c a = flat_map (sized d c false) a.labels ++ sized_statement d a.body
