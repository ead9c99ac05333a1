-- What a part of an expression weighs, where it stands.
--     signal_width d name                the width of a signal; a name that is none has none
--     unary_weight op w                  an operator in front of its operand, in a context of w bits
--     binary_weight op w n               one between two, of which the right one has n bits by itself
--     select_weight d own name i         a select of so many bits by an index that isn't constant
--     operator_weight d w e              an expression in a context of w bits, without its parts
--     part_weight d p, parts_weight d ps a part, and parts together
-- An expression that is made of constants weighs its width, and what stands in it weighs nothing.
use Rattle.std.specs.Prelude.{ℕ, ◌*◌, if◌then◌else◌, List, Option, Some, None}
use Rattle.std.specs.List.{sum_by}
use Rattle.vlog_tree.specs.declared.expr.Expr.{Expr, para-Expr}
use Rattle.vlog_tree.specs.declared.expr.Expr.TheOpen.{Expr-F}
use Rattle.vlog_tree.specs.declared.expr.Part.{Part}
use Rattle.vlog_tree.specs.declared.expr.Part.TheVariants.{Fixed}
use Rattle.vlog_tree.specs.declared.operator.Unary.{Unary}
use Rattle.vlog_tree.specs.declared.operator.Unary.TheVariants as unary
use Rattle.vlog_tree.specs.declared.operator.Binary.{Binary}
use Rattle.vlog_tree.specs.declared.operator.Binary.TheVariants as binary
use Rattle.design_form.specs.declared.parts.Parts.{Parts}
use Rattle.design_form.specs.declared.signal.Signal.{Signal}
use Rattle.design_form.specs.Numbers.{signal_of}
use Rattle.design_form.specs.Signals.{bounds_of, width_of}
use Rattle.design_sizes.specs.Sizes.{Sized, has_name, shape_of}

unfoldable pub width_if : Option Signal → ℕ
width_if None = 0
width_if (Some s) = width_of (bounds_of s)

abbrev pub signal_width : Parts → List ℕ → ℕ
signal_width d name = width_if (signal_of d.signals name)

unfoldable pub unary_weight : Unary → ℕ → ℕ
unary_weight unary.Minus w = 8 * w
unary_weight _ w = w

unfoldable pub binary_weight : Binary → ℕ → ℕ → ℕ
binary_weight binary.Add w n = 8 * w
binary_weight binary.Subtract w n = 8 * w
binary_weight binary.Less w n = 8 * w
binary_weight binary.AtMost w n = 8 * w
binary_weight binary.Greater w n = 8 * w
binary_weight binary.AtLeast w n = 8 * w
binary_weight binary.Equal w n = 8 * w
binary_weight binary.NotEqual w n = 8 * w
binary_weight binary.CaseEqual w n = 8 * w
binary_weight binary.CaseNotEqual w n = 8 * w
binary_weight binary.Multiply w n = 8 * w * w
binary_weight binary.ShiftLeft w n = 4 * w * n
binary_weight binary.ShiftRight w n = 4 * w * n
binary_weight binary.ArithmeticShiftLeft w n = 4 * w * n
binary_weight binary.ArithmeticShiftRight w n = 4 * w * n
binary_weight _ w n = w

-- a select by an index in which a name stands
unfoldable pub select_weight : Parts → ℕ → List ℕ → Expr → ℕ
select_weight d own name i = 4 * own * signal_width d name * (shape_of d i).width

-- name [ i : j ], name [ i +: j ], name [ i -: j ]; of the first the bounds are constants
unfoldable pub range_weight : Parts → Part → ℕ → ℕ → List ℕ → Expr → ℕ
range_weight d Fixed own w name i = w
range_weight d how own w name i = if has_name i then select_weight d own name i else w

-- an expression of so many bits by itself, in a context of w bits, by its form
unfoldable pub weight_by_parts : Parts → ℕ → ℕ → Expr-F (Expr × ℕ) → ℕ
weight_by_parts d own w (Expr-F.Number place n) = w
weight_by_parts d own w (Expr-F.Name place name) = w
weight_by_parts d own w (Expr-F.Index place name i) = if has_name i.0 then select_weight d own name i.0 else w
weight_by_parts d own w (Expr-F.Select how place name i j) = range_weight d how own w name i.0
weight_by_parts d own w (Expr-F.Brackets place a) = w
weight_by_parts d own w (Expr-F.Concat place members) = w
weight_by_parts d own w (Expr-F.Repeat place n members) = w
weight_by_parts d own w (Expr-F.Unary place op a) = unary_weight op w
weight_by_parts d own w (Expr-F.Binary place op a b) = binary_weight op w (shape_of d b.0).width
weight_by_parts d own w (Expr-F.Conditional place test a b) = 4 * w

unfoldable pub form_weight : Parts → ℕ → ℕ → Expr → ℕ
form_weight d own w = para-Expr ℕ (weight_by_parts d own w)

abbrev pub operator_weight : Parts → ℕ → Expr → ℕ
operator_weight d w e = form_weight d (shape_of d e).width w e

unfoldable pub part_weight : Parts → Sized → ℕ
part_weight d p = if p.inside then 0 else (if p.constant then p.shape.width else operator_weight d p.shape.width p.expr)

abbrev pub parts_weight : Parts → List Sized → ℕ
parts_weight d ps = sum_by (part_weight d) ps
