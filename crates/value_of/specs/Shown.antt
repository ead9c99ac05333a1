-- What is written for an expression.
--     digits w             a word, most significant bit first
--     constant_digits r    a value as a constant, or `-` where there is none
--     line_of r w          both, and the end of the line
use Rattle.std.specs.Prelude.{ℕ, List, [], ◌∷◌, ◌++◌, map, reverse, Ok, Err, codes}
use Rattle.rdc_tern.specs.declared.value.Tern.{Tern}
use Rattle.rdc_tern.specs.declared.value.Tern.TheVariants.{Zero, One, Unsettled}
use Rattle.vlog_const.specs.declared.answer.ConstValue.{ConstValue}
use Rattle.vlog_const.specs.Worths.{Or_fault}
use Rattle.design_form.specs.Bits.{bits}

abbrev pub digit : Tern → ℕ
digit Zero = 0x30
digit One = 0x31
digit Unsettled = 0x78

-- 'b, and a digit for each bit
abbrev pub digits : List Tern → List ℕ
digits w = codes "'b" ++ reverse (map digit w)

unfoldable pub constant_digits : Or_fault ConstValue → List ℕ
constant_digits (Ok v) = digits (bits v.width v.bits)
constant_digits (Err fault) = codes "-"

abbrev pub line_of : Or_fault ConstValue → List Tern → List ℕ
line_of r w = constant_digits r ++ (codes " " ++ (digits w ++ codes "\n"))
