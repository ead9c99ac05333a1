-- What an expression is by itself, and its value in a context.
--     Or_fault A, and_then         a value, or why there is none
--     Worth                        an expression by itself: its shape, and its value in each context
--     fixed, truth, settled        one that a context only extends
--     in_context a c, alone a      its value in a context, and where it is its own
--     narrow place n               a width, where it is at most 128
--     number, named                a number, and a name
use Rattle.std.specs.Prelude.{if◌then◌else◌, ℕ, Bool, not, ◌==◌, nat_lt, List, Option, Some, None, Result, Ok, Err}
use Rattle.rdc_outside.specs.declared.source.Place.{Place}
use Rattle.vlog_tree.specs.declared.number.Number.{Number}
use Rattle.vlog_const.specs.declared.shape.Shape.{Shape}
use Rattle.vlog_const.specs.declared.answer.ConstValue.{ConstValue}
use Rattle.vlog_const.specs.declared.answer.ConstFault.{ConstFault}
use Rattle.vlog_const.specs.declared.answer.ConstFault.TheVariants.{NotConstant, TooWide}
use Rattle.vlog_const.specs.Names.{Values}
use Rattle.vlog_const.specs.Widths.{bit}
use Rattle.vlog_const.specs.Words.{low, extended}

-- a value, or why there is none
abbrev pub Or_fault : Type 0 → Type 0
Or_fault A = Result A ConstFault

-- the first part's fault, or what follows from its value
unfoldable pub and_then : {A B : Type 0} → Or_fault A → (A → Or_fault B) → Or_fault B
and_then (Ok a) f = f a
and_then (Err fault) f = Err fault

infixl 10 ◌>>=◌
-- the same, for blocks of steps
abbrev pub ◌>>=◌ : {A B : Type 0} → Or_fault A → (A → Or_fault B) → Or_fault B
r >>= f = and_then r f

-- an expression by itself: the place of its first token, its shape, and its value in a context
pub record Worth : Type 0 where
  pub place : Place
  pub shape : Shape
  pub value : Shape → Or_fault ℕ

-- a value that its own shape fixes, which a context only extends
abbrev pub fixed : Place → Shape → ℕ → Worth
fixed place s bits = record { place = place; shape = s; value = λ c. Ok (extended s.width c bits) }

-- a width, where it is at most 128
unfoldable pub narrow : Place → ℕ → Or_fault ℕ
narrow place n = if nat_lt 128 n then Err (TooWide place) else Ok n

abbrev pub valued : Shape → ℕ → ConstValue
valued s bits = record { bits = low s.width bits; width = s.width; signed = s.signed }

abbrev pub shape_of : ConstValue → Shape
shape_of v = record { width = v.width; signed = v.signed }

-- the value in a context
unfoldable pub in_context : Worth → Shape → Or_fault ConstValue
in_context a c = do
  bits ← a.value c
  Ok (valued c bits)

-- the value where the expression is its own context
unfoldable pub alone : Worth → Or_fault ConstValue
alone a = in_context a a.shape

-- whether a bit is 1
abbrev pub is_true : ConstValue → Bool
is_true v = not (v.bits == 0)

abbrev pub one_bit : Bool → ℕ
one_bit b = if b then 1 else 0

-- one bit, without a sign
abbrev pub truth : Place → Bool → Worth
truth place b = fixed place bit (one_bit b)

-- bits of some width, where that is at most 128
unfoldable pub settled : Place → Shape → ℕ → Or_fault Worth
settled place s bits = do
  w ← narrow place s.width
  Ok (fixed place s (low s.width bits))

unfoldable pub number : Place → Number → Or_fault Worth
number place n = settled place (record { width = n.width; signed = n.signed }) n.bits

-- what a name stands for
unfoldable pub looked_up : Place → Option ConstValue → Or_fault ConstValue
looked_up place None = Err (NotConstant place)
looked_up place (Some v) = Ok v

unfoldable pub named : Values → Place → List ℕ → Or_fault Worth
named values place name = do
  v ← looked_up place (values name)
  settled place (shape_of v) v.bits
