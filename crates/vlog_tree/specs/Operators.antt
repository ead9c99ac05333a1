-- Operators (IEEE 1364-2005, 5.1), by their bytes, and how tightly they bind.
--     unary_of mark, binary_of mark, part_of mark      the operator that a mark is, if it is one
--     level_of op                  how tightly it binds its operands, from 1 to 11
--     level_of_expression, level_of_unary, level_of_primary      the levels below and above
use Rattle.std.specs.Prelude.{ℕ, Bool, ◌&&◌, ◌||◌, ◌==◌, if◌then◌else◌, List, [], ◌∷◌, Option, Some, None}
use Rattle.vlog_tree.specs.declared.expr.Part.{Part}
use Rattle.vlog_tree.specs.declared.expr.Part.TheVariants.{Fixed, Up, Down}
use Rattle.vlog_tree.specs.declared.operator.Unary.{Unary}
use Rattle.vlog_tree.specs.declared.operator.Unary.TheVariants as unary
use Rattle.vlog_tree.specs.declared.operator.Binary.{Binary}
use Rattle.vlog_tree.specs.declared.operator.Binary.TheVariants as binary

-- + - ! ~ & | ^
unfoldable pub unary_of_one : ℕ → Option Unary
unary_of_one a =
    if a == 43 then Some unary.Plus
    else (if a == 45 then Some unary.Minus
    else (if a == 33 then Some unary.Not
    else (if a == 126 then Some unary.Invert
    else (if a == 38 then Some unary.ReduceAnd
    else (if a == 124 then Some unary.ReduceOr
    else (if a == 94 then Some unary.ReduceXor
    else None))))))

-- ~& ~| ~^ ^~
unfoldable pub unary_of_two : ℕ → ℕ → Option Unary
unary_of_two a b =
    if a == 126 && b == 38 then Some unary.ReduceNand
    else (if a == 126 && b == 124 then Some unary.ReduceNor
    else (if (a == 126 && b == 94) || (a == 94 && b == 126) then Some unary.ReduceXnor
    else None))

-- the operator before an operand
unfoldable pub unary_of : List ℕ → Option Unary
unary_of [] = None
unary_of (a ∷ []) = unary_of_one a
unary_of (a ∷ b ∷ []) = unary_of_two a b
unary_of (a ∷ b ∷ c ∷ bs) = None

-- * / % + - < > & ^ |
unfoldable pub binary_of_one : ℕ → Option Binary
binary_of_one a =
    if a == 42 then Some binary.Multiply
    else (if a == 47 then Some binary.Divide
    else (if a == 37 then Some binary.Remainder
    else (if a == 43 then Some binary.Add
    else (if a == 45 then Some binary.Subtract
    else (if a == 60 then Some binary.Less
    else (if a == 62 then Some binary.Greater
    else (if a == 38 then Some binary.And
    else (if a == 94 then Some binary.Xor
    else (if a == 124 then Some binary.Or
    else None)))))))))

-- ** << >> <= >= == != ~^ ^~ && ||
unfoldable pub binary_of_two : ℕ → ℕ → Option Binary
binary_of_two a b =
    if a == 42 && b == 42 then Some binary.Power
    else (if a == 60 && b == 60 then Some binary.ShiftLeft
    else (if a == 62 && b == 62 then Some binary.ShiftRight
    else (if a == 60 && b == 61 then Some binary.AtMost
    else (if a == 62 && b == 61 then Some binary.AtLeast
    else (if a == 61 && b == 61 then Some binary.Equal
    else (if a == 33 && b == 61 then Some binary.NotEqual
    else (if (a == 126 && b == 94) || (a == 94 && b == 126) then Some binary.Xnor
    else (if a == 38 && b == 38 then Some binary.LogicalAnd
    else (if a == 124 && b == 124 then Some binary.LogicalOr
    else None)))))))))

-- <<< >>> === !==
unfoldable pub binary_of_three : ℕ → ℕ → ℕ → Option Binary
binary_of_three a b c =
    if a == 60 && b == 60 && c == 60 then Some binary.ArithmeticShiftLeft
    else (if a == 62 && b == 62 && c == 62 then Some binary.ArithmeticShiftRight
    else (if a == 61 && b == 61 && c == 61 then Some binary.CaseEqual
    else (if a == 33 && b == 61 && c == 61 then Some binary.CaseNotEqual
    else None)))

-- the operator between two operands
unfoldable pub binary_of : List ℕ → Option Binary
binary_of [] = None
binary_of (a ∷ []) = binary_of_one a
binary_of (a ∷ b ∷ []) = binary_of_two a b
binary_of (a ∷ b ∷ c ∷ []) = binary_of_three a b c
binary_of (a ∷ b ∷ c ∷ d ∷ bs) = None

-- : +: -:
unfoldable pub part_of : List ℕ → Option Part
part_of [] = None
part_of (a ∷ []) = if a == 58 then Some Fixed else None
part_of (a ∷ b ∷ []) = if b == 58 then (if a == 43 then Some Up else (if a == 45 then Some Down else None)) else None
part_of (a ∷ b ∷ c ∷ bs) = None

-- how tightly an operator binds (IEEE 1364-2005, 5.1.2): a higher level before a lower one
unfoldable pub level_of : Binary → ℕ
level_of binary.LogicalOr = 1
level_of binary.LogicalAnd = 2
level_of binary.Or = 3
level_of binary.Xor = 4
level_of binary.Xnor = 4
level_of binary.And = 5
level_of binary.Equal = 6
level_of binary.NotEqual = 6
level_of binary.CaseEqual = 6
level_of binary.CaseNotEqual = 6
level_of binary.Less = 7
level_of binary.AtMost = 7
level_of binary.Greater = 7
level_of binary.AtLeast = 7
level_of binary.ShiftLeft = 8
level_of binary.ShiftRight = 8
level_of binary.ArithmeticShiftLeft = 8
level_of binary.ArithmeticShiftRight = 8
level_of binary.Add = 9
level_of binary.Subtract = 9
level_of binary.Multiply = 10
level_of binary.Divide = 10
level_of binary.Remainder = 10
level_of binary.Power = 11

-- any expression; an operand of `?` or of the loosest operator; one operator before a primary; a primary alone
abbrev pub level_of_expression : ℕ
level_of_expression = 0

abbrev pub level_of_operand : ℕ
level_of_operand = 1

abbrev pub level_of_unary : ℕ
level_of_unary = 12

abbrev pub level_of_primary : ℕ
level_of_primary = 13
