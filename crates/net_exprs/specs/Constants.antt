-- Constants in a net.
--   lowest_bit i n, start_bits i n w     the lowest bit of a number, and its w lowest, or their inverses
--   constants w             a node for each bit of a settled word
--   value_or r b            what is built where there is no value, else the value's bits
--   IsValue v r             an answer that is a value, or says that there is none
use Rattle.std.specs.Prelude.{◌≡◌, ℕ, Bool, true, false, if◌then◌else◌, List, [], ◌∷◌, Option, Some, None, Ok, Err, IsErr}
use Rattle.rdc_tern.specs.declared.value.Tern.{Tern}
use Rattle.rdc_tern.specs.Kleene.{not_of}
use Rattle.rdc_tern.specs.Words.{inverted}
use Rattle.rdc_tern.specs.declared.value.Tern.TheVariants.{Zero, One, Unsettled}
use Rattle.net_view.specs.declared.gate.Gate.TheVariants.{Const}
use Rattle.net_words.specs.Builds.{Build, ◌>>=◌, return, put}
use Rattle.vlog_const.specs.declared.answer.ConstValue.{ConstValue}
use Rattle.vlog_const.specs.Worths.{Or_fault}
use Rattle.design_form.specs.Bits.{bits, low_bit}

-- a settled value as a bit
abbrev pub is_one : Tern → Bool
is_one One = true
is_one Zero = false
is_one Unsettled = false

-- the lowest bit of a number, or its inverse, and the same of its w lowest bits
abbrev pub lowest_bit : Bool → ℕ → Tern
lowest_bit inverse n = if inverse then not_of (low_bit n) else low_bit n

abbrev pub start_bits : Bool → ℕ → ℕ → List Tern
start_bits inverse n w = if inverse then inverted (bits w n) else bits w n

-- a node for each bit, the least significant one first
unfoldable pub constants : List Tern → Build (List ℕ)
constants [] = return []
constants (t ∷ w) = do
  n ← put (Const (is_one t))
  rest ← constants w
  return (n ∷ rest)

-- the value of a constant, where it has one, else what is built
abbrev pub value_or : Or_fault ConstValue → Build (List ℕ) → Build (List ℕ)
value_or (Ok v) built = constants (bits v.width v.bits)
value_or (Err fault) built = built

-- an answer that is a value, or says that there is none
abbrev pub IsValue : Option ConstValue → Or_fault ConstValue → Type 0
IsValue (Some v) r = r ≡ Ok v
IsValue None r = IsErr r
