-- What a generate `if` and a generate `case` choose.
--     is_true frames test              whether a test is true
--     Label, labels                    a label that is put in, with its value by itself
--     widest s ls                      the width and the sign of a selector and all labels together
--     any_equal c bits ls              whether an arm matches
--     picked, chosen                   the first arm that matches, or the one without labels
use Rattle.std.specs.Prelude.{ℕ, ◌==◌, not, Bool, List, [], ◌∷◌, length, map, Option, Ok}
use Rattle.std.specs.List.{list_any, position}
use Rattle.std.specs.Option.{option_or}
use Rattle.vlog_tree.specs.declared.expr.Expr.{Expr}
use Rattle.vlog_const.specs.declared.shape.Shape.{Shape}
use Rattle.vlog_const.specs.Names.{no_values}
use Rattle.vlog_const.specs.Widths.{common}
use Rattle.vlog_const.specs.Worths.{shape_of}
use Rattle.vlog_const.specs.Constants.{value_of, value_in}
use Rattle.elab_choices.specs.declared.choices.Label.{Label}
use Rattle.elab_names.specs.Answers.{Or_fault, ◌>>=◌, gathered, lifted}
use Rattle.elab_names.specs.Meanings.{Frames}
use Rattle.elab_names.specs.Expressions.{put_in, constant}

-- whether a test is true
unfoldable pub is_true : Frames → Expr → Or_fault Bool
is_true frames e = do
  v ← constant frames e
  Ok (not (v.bits == 0))

-- a constant expression that is put in, with its shape
unfoldable pub label : Frames → Expr → Or_fault Label
label frames e = do
  a ← put_in frames e
  v ← lifted (value_of no_values a)
  Ok (record { expr = a; shape = shape_of v })

-- the labels of each arm
unfoldable pub labels : Frames → List (List Expr) → Or_fault (List (List Label))
labels frames es = gathered (map (λ xs. gathered (map (label frames) xs)) es)

-- the width and the sign of all together
unfoldable pub widest : Shape → List Label → Shape
widest s [] = s
widest s (l ∷ ls) = widest (common s l.shape) ls

unfoldable pub widest_of : Shape → List (List Label) → Shape
widest_of s [] = s
widest_of s (ls ∷ all) = widest_of (widest s ls) all

-- whether a label has the value, in the context of all
unfoldable pub equal : Shape → ℕ → Label → Or_fault Bool
equal c bits l = do
  v ← lifted (value_in no_values c l.expr)
  Ok (v.bits == bits)

-- which labels of an arm have it
unfoldable pub any_equal : Shape → ℕ → List Label → Or_fault Bool
any_equal c bits ls = do
  hits ← gathered (map (equal c bits) ls)
  Ok (list_any (λ h. h) hits)

-- the arm that is chosen: the first with such a label, or else the one without labels
abbrev pub picked : List Bool → List (List Label) → Option ℕ
picked hits ls = option_or (position (λ h. h) hits) (position (λ xs. length xs == 0) ls)

unfoldable pub chosen : Frames → Expr → List (List Expr) → Or_fault (Option ℕ)
chosen frames selector arms = do
  s ← label frames selector
  ls ← labels frames arms
  v ← lifted (value_in no_values (widest_of s.shape ls) s.expr)
  hits ← gathered (map (any_equal (widest_of s.shape ls) v.bits) ls)
  Ok (picked hits ls)
