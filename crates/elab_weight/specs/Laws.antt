-- What the ends of loops weigh.
--     EndingsCount       what a variable ends with weighs as an assignment of that number
use Rattle.std.specs.Prelude.{◌≡◌, max}
use Rattle.vlog_tree.specs.declared.expr.Expr.TheVariants.{Name}
use Rattle.vlog_tree.specs.declared.ident.Ident.{Ident}
use Rattle.vlog_const.specs.declared.answer.ConstValue.{ConstValue}
use Rattle.design_form.specs.declared.parts.Parts.{Parts}
use Rattle.design_sizes.specs.Sizes.{shape_of, sized_statement}
use Rattle.proc_loops.specs.Turns.{ended}
use Rattle.elab_weight.specs.PartWeights.{parts_weight}

-- the last statement of a loop without its turns is no statement of the text
abbrev pub EndingsCount : Type 0
EndingsCount = (d : Parts) (variable : Ident) (v : ConstValue) → parts_weight d (sized_statement d (ended variable v)) ≡ max v.width (shape_of d (Name variable.place variable.name)).width
