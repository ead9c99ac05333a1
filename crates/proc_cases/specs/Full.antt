-- Which `case` without `default` has no path past it.
--     takes_context e            whether the width around it changes the value of an expression
--     value_in_case c w x        a number of w bits as it is compared
--     pattern how c e            a constant label, where it is one
--     hits x p                   whether it matches a number
--     fits c w                   few enough bits
--     is_full d how selector labels      whether a `case` with these labels has no path past its items
--     labels_of arms             the labels of case items
use Rattle.std.specs.Prelude.{if◌then◌else◌, ℕ, zero, suc, ◌+◌, ◌-◌, ◌^◌, Bool, true, false, ◌&&◌, ◌==◌, nat_le, bit_or, List, map, Option, Some, None, Ok, Err}
use Rattle.std.specs.List.{flat_map, list_all, list_any}
use Rattle.vlog_tree.specs.declared.expr.Expr.{Expr, fold-Expr}
use Rattle.vlog_tree.specs.declared.expr.Expr.TheOpen.{Expr-F}
use Rattle.vlog_tree.specs.declared.stmt.Arm.{Arm}
use Rattle.vlog_tree.specs.declared.stmt.Matching.{Matching}
use Rattle.vlog_tree.specs.declared.stmt.Matching.TheVariants.{Exact, Wildcard}
use Rattle.vlog_const.specs.declared.answer.ConstValue.{ConstValue}
use Rattle.vlog_const.specs.declared.shape.Shape.{Shape}
use Rattle.vlog_const.specs.declared.shape.Family.{Family}
use Rattle.vlog_const.specs.declared.shape.Family.TheVariants.{Contextual, Compared, Alone, Leading}
use Rattle.vlog_const.specs.Names.{no_values}
use Rattle.vlog_const.specs.Widths.{operand_family, family_of}
use Rattle.vlog_const.specs.Words.{is_negative}
use Rattle.vlog_const.specs.Worths as worths
use Rattle.vlog_const.specs.Constants.{value_in}
use Rattle.design_form.specs.declared.parts.Parts.{Parts}
use Rattle.design_sizes.specs.Sizes.{shape_of, case_shape}
use Rattle.proc_cases.specs.declared.patterns.Pattern.{Pattern}
use Rattle.proc_cases.specs.Masks.{mask_of}

-- ---- what is compared

-- whether an operator hands its context down
unfoldable pub is_handed : Family → Bool
is_handed Contextual = true
is_handed Compared = false
is_handed Alone = false
is_handed Leading = true

unfoldable pub context_by_parts : Expr-F Bool → Bool
context_by_parts (Expr-F.Brackets place a) = a
context_by_parts (Expr-F.Unary place op a) = is_handed (operand_family op)
context_by_parts (Expr-F.Binary place op a b) = is_handed (family_of op)
context_by_parts (Expr-F.Conditional place test a b) = true
context_by_parts _ = false

-- whether the width around it changes the value of an expression, and doesn't only extend it
unfoldable pub takes_context : Expr → Bool
takes_context = fold-Expr Bool context_by_parts

-- how many bits the values have that a selector may take
abbrev pub selector_width : Shape → Shape → Expr → ℕ
selector_width c own selector = if takes_context selector then c.width else own.width

-- a number of w bits as it is compared, in the shape of the selector and all labels together
unfoldable pub value_in_case : Shape → ℕ → ℕ → ℕ
value_in_case c w x = if is_negative c.signed w x then x + (2 ^ c.width - 2 ^ w) else x

-- ---- labels

-- positions that don't count
unfoldable pub mask_in : Matching → Expr → ℕ
mask_in Exact e = 0
mask_in Wildcard e = mask_of e

unfoldable pub pattern_if : Matching → Expr → worths.Or_fault ConstValue → Option Pattern
pattern_if how e (Ok v) = Some (record { bits = v.bits; mask = mask_in how e })
pattern_if how e (Err fault) = None

-- a constant label, where it is one
abbrev pub pattern : Matching → Shape → Expr → Option Pattern
pattern how c e = pattern_if how e (value_in no_values c e)

abbrev pub patterns : Matching → Shape → List Expr → List (Option Pattern)
patterns how c labels = map (pattern how c) labels

unfoldable pub is_constant : Option Pattern → Bool
is_constant None = false
is_constant (Some p) = true

-- whether it matches a number
unfoldable pub hits : ℕ → Option Pattern → Bool
hits x None = false
hits x (Some p) = bit_or x p.mask == bit_or p.bits p.mask

-- ---- statements

-- of each number below n
unfoldable pub each_below : ℕ → (ℕ → Bool) → Bool
each_below zero test = true
each_below (suc n) test = test n && each_below n test

-- few enough bits
abbrev pub fits : Shape → ℕ → Bool
fits c w = nat_le w 12 && nat_le c.width 128

-- all are constant, and each number of w bits matches one
unfoldable pub covers : Shape → ℕ → List (Option Pattern) → Bool
covers c w ps = list_all is_constant ps && each_below (2 ^ w) (λ x. list_any (hits (value_in_case c w x)) ps)

unfoldable pub full_at : Matching → Shape → ℕ → List Expr → Bool
full_at how c w labels = if fits c w then covers c w (patterns how c labels) else false

-- whether a `case` with these labels has no path past its items
unfoldable pub is_full : Parts → Matching → Expr → List Expr → Bool
is_full d how selector labels =
    full_at how (case_shape d selector labels) (selector_width (case_shape d selector labels) (shape_of d selector) selector) labels

-- the labels of case items
abbrev pub labels_of : {S : Type 0} → List (Arm S) → List Expr
labels_of arms = flat_map (λ a. a.labels) arms
