-- Numbers in the place of constants, and their bits, whose positions are width - 1 down to 0.
--     as_number place v                a constant as a number: in binary, without a size
--     holds_name e                     an expression with a name in it
--     piece v start n                  n bits of a constant from a position up
--     fits how w i j, start_of how i j, count_of how i j
--                                      a part: whether a constant of w bits has it, where it begins, and its width
--     bit_in place v i, part_in place v how i j      a bit and a part of a constant as numbers
use Rattle.std.specs.Prelude.{ℕ, ◌+◌, ◌-◌, ◌/◌, ◌^◌, Bool, true, false, not, ◌&&◌, ◌||◌, nat_le, nat_lt, if◌then◌else◌, Ok, Err}
use Rattle.std.specs.List.{list_any}
use Rattle.rdc_outside.specs.declared.source.Place.{Place}
use Rattle.vlog_tree.specs.declared.expr.Expr.{Expr, fold-Expr}
use Rattle.vlog_tree.specs.declared.expr.Expr.TheVariants as expr
use Rattle.vlog_tree.specs.declared.expr.Expr.TheOpen.{Expr-F}
use Rattle.vlog_tree.specs.declared.expr.Part.{Part}
use Rattle.vlog_tree.specs.declared.expr.Part.TheVariants.{Fixed, Up, Down}
use Rattle.vlog_tree.specs.declared.number.Base.TheVariants as base
use Rattle.vlog_const.specs.declared.answer.ConstValue.{ConstValue}
use Rattle.vlog_const.specs.declared.whole.Whole.{Whole}
use Rattle.vlog_const.specs.Names.{no_values}
use Rattle.vlog_const.specs.Words.{low}
use Rattle.vlog_const.specs.Selects.{whole}
use Rattle.vlog_const.specs.Constants.{value_of}
use Rattle.elab_names.specs.declared.fault.ElabFault.TheVariants.{BadRange, NotBuilt}
use Rattle.elab_names.specs.Answers.{Or_fault, ◌>>=◌, lifted}

-- a constant as a number; of written ones only those with a base and no size, as 'b1, are like it
abbrev pub as_number : Place → ConstValue → Expr
as_number place v = expr.Number place (record { sized = false; signed = v.signed; base = base.Binary; width = v.width; bits = v.bits; z = 0 })

-- a name, from the parts of an expression
unfoldable pub holds_by_parts : Expr-F Bool → Bool
holds_by_parts (Expr-F.Number place n) = false
holds_by_parts (Expr-F.Name place name) = true
holds_by_parts (Expr-F.Index place name i) = true
holds_by_parts (Expr-F.Select how place name i j) = true
holds_by_parts (Expr-F.Brackets place a) = a
holds_by_parts (Expr-F.Concat place members) = list_any (λ a. a) members
holds_by_parts (Expr-F.Repeat place n members) = n || list_any (λ a. a) members
holds_by_parts (Expr-F.Unary place op a) = a
holds_by_parts (Expr-F.Binary place op a b) = a || b
holds_by_parts (Expr-F.Conditional place test a b) = test || (a || b)

-- whether a name stands in an expression
unfoldable pub holds_name : Expr → Bool
holds_name = fold-Expr Bool holds_by_parts

-- n bits of a constant, from a position up
abbrev pub piece : ConstValue → ℕ → ℕ → ConstValue
piece v start n = record { bits = low n (v.bits / 2 ^ start); width = n; signed = false }

-- ---- [i]

-- a position of a constant of w bits
unfoldable pub position : Place → ℕ → Whole → Or_fault ℕ
position place w i = if i.negative || not (nat_lt i.magnitude w) then Err (BadRange place) else Ok i.magnitude

-- a bit of a constant, at a constant index
unfoldable pub bit_in : Place → ConstValue → Expr → Or_fault Expr
bit_in place v i = if holds_name i then Err (NotBuilt place) else (do
  at ← lifted (value_of no_values i)
  start ← position place v.width (whole at)
  Ok (as_number place (piece v start 1)))

-- ---- [i : j], [i +: j], [i -: j]

-- whether a constant of w bits has the positions i down to j, j of them from i up, and j of them from i down
unfoldable pub fits : Part → ℕ → ℕ → ℕ → Bool
fits Fixed w i j = nat_le j i && nat_lt i w
fits Up w i j = nat_le 1 j && nat_le (i + j) w
fits Down w i j = nat_le 1 j && (nat_le j (i + 1) && nat_lt i w)

-- the lowest position
unfoldable pub start_of : Part → ℕ → ℕ → ℕ
start_of Fixed i j = j
start_of Up i j = i
start_of Down i j = (i + 1) - j

-- how many positions there are
unfoldable pub count_of : Part → ℕ → ℕ → ℕ
count_of Fixed i j = (i + 1) - j
count_of Up i j = j
count_of Down i j = j

-- a part of a constant
unfoldable pub part_of : Place → ConstValue → Part → Whole → Whole → Or_fault ConstValue
part_of place v how i j =
    if (i.negative || j.negative) || not (fits how v.width i.magnitude j.magnitude) then Err (BadRange place)
    else Ok (piece v (start_of how i.magnitude j.magnitude) (count_of how i.magnitude j.magnitude))

-- whether a part begins at a variable index
unfoldable pub is_variable : Part → Expr → Bool
is_variable Fixed i = false
is_variable Up i = holds_name i
is_variable Down i = holds_name i

-- a part of a constant, between constant bounds
unfoldable pub part_in : Place → ConstValue → Part → Expr → Expr → Or_fault Expr
part_in place v how i j = if is_variable how i then Err (NotBuilt place) else (do
  a ← lifted (value_of no_values i)
  b ← lifted (value_of no_values j)
  p ← part_of place v how (whole a) (whole b)
  Ok (as_number place p))
