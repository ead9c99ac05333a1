-- Which bits an expression reads, each at the place of the name that it belongs to, from left to right.
--     reads ss e
use Rattle.std.specs.Prelude.{List, [], ◌++◌}
use Rattle.std.specs.List.{flat_map}
use Rattle.vlog_tree.specs.declared.expr.Expr.{Expr, para-Expr}
use Rattle.vlog_tree.specs.declared.expr.Expr.TheOpen.{Expr-F}
use Rattle.design_form.specs.declared.signal.Signal.{Signal}
use Rattle.elab_bits.specs.declared.touch.Touch.{Touch}
use Rattle.elab_bits.specs.Touches.{touched}
use Rattle.elab_bits.specs.Selects.{all_bits, indexed, selected}

-- by the parts of an expression, each beside what it reads
unfoldable pub reads_by_parts : List Signal → Expr-F (Expr × List Touch) → List Touch
reads_by_parts ss (Expr-F.Number place n) = []
reads_by_parts ss (Expr-F.Name place name) = touched place (all_bits ss name)
reads_by_parts ss (Expr-F.Index place name i) = touched place (indexed ss name i.0) ++ i.1
reads_by_parts ss (Expr-F.Select how place name i j) = touched place (selected ss how name i.0 j.0) ++ (i.1 ++ j.1)
reads_by_parts ss (Expr-F.Brackets place a) = a.1
reads_by_parts ss (Expr-F.Concat place members) = flat_map (λ a. a.1) members
reads_by_parts ss (Expr-F.Repeat place n members) = n.1 ++ flat_map (λ a. a.1) members
reads_by_parts ss (Expr-F.Unary place op a) = a.1
reads_by_parts ss (Expr-F.Binary place op a b) = a.1 ++ b.1
reads_by_parts ss (Expr-F.Conditional place test a b) = test.1 ++ (a.1 ++ b.1)

unfoldable pub reads : List Signal → Expr → List Touch
reads ss = para-Expr (List Touch) (reads_by_parts ss)
