-- Which positions of a case label don't count in `casez`: those of the z digits of a number, and those of the parts of brackets,
-- concatenations and replications (IEEE 1364-2005, 9.5.1). Any other expression has none. A constant has at most 128 of them.
--     width_of e             how wide an expression is as a constant
--     behind r w m           positions, and w more on their right
--     row_of r parts         and those of some parts, each beside what it has
--     copies n r             n times the same
--     mask_of e              a number with a 1 in each position that doesn't count
use Rattle.std.specs.Prelude.{if◌then◌else◌, ℕ, zero, suc, ◌+◌, ◌*◌, ◌^◌, min, nat_lt, bit_or, List, [], ◌∷◌, Ok, Err}
use Rattle.vlog_tree.specs.declared.expr.Expr.{Expr, para-Expr}
use Rattle.vlog_tree.specs.declared.expr.Expr.TheOpen.{Expr-F}
use Rattle.vlog_const.specs.declared.answer.ConstValue.{ConstValue}
use Rattle.vlog_const.specs.Names.{no_values}
use Rattle.vlog_const.specs.Words.{low}
use Rattle.vlog_const.specs.Worths as worths
use Rattle.vlog_const.specs.Selects.{whole, counted}
use Rattle.vlog_const.specs.Constants.{value_of}
use Rattle.proc_cases.specs.declared.masks.Row.{Row}

unfoldable pub width_if : worths.Or_fault ConstValue → ℕ
width_if (Ok v) = v.width
width_if (Err fault) = 0

-- how wide an expression is as a constant
abbrev pub width_of : Expr → ℕ
width_of e = width_if (value_of no_values e)

-- w places to the left
unfoldable pub moved : ℕ → ℕ → ℕ
moved w m = if nat_lt w 128 then low 128 (m * 2 ^ w) else 0

-- positions, and w more on their right
unfoldable pub behind : Row → ℕ → ℕ → Row
behind r w m = record { width = min (r.width + w) 128; mask = bit_or (moved w r.mask) m }

-- no positions
abbrev pub empty : Row
empty = record { width = 0; mask = 0 }

-- and those of some parts
unfoldable pub row_of : Row → List (Expr × ℕ) → Row
row_of r [] = r
row_of r (p ∷ ps) = row_of (behind r (width_of p.0) p.1) ps

-- n times the same
unfoldable pub copies : ℕ → Row → ℕ
copies zero r = 0
copies (suc n) r = bit_or (moved r.width (copies n r)) r.mask

unfoldable pub count_if : worths.Or_fault ConstValue → ℕ
count_if (Ok v) = min (counted (whole v)) 128
count_if (Err fault) = 0

-- by the parts of an expression, each beside what it has
unfoldable pub mask_by_parts : Expr-F (Expr × ℕ) → ℕ
mask_by_parts (Expr-F.Number place n) = n.z
mask_by_parts (Expr-F.Brackets place a) = a.1
mask_by_parts (Expr-F.Concat place members) = (row_of empty members).mask
mask_by_parts (Expr-F.Repeat place n members) = copies (count_if (value_of no_values n.0)) (row_of empty members)
mask_by_parts _ = 0

-- a number with a 1 in each position that doesn't count
unfoldable pub mask_of : Expr → ℕ
mask_of = para-Expr ℕ mask_by_parts
