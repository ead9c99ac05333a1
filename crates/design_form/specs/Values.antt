-- What an expression is worth where names stand for words (IEEE 1364-2005, clause 5), least significant bit first.
--     Valued                             an expression by itself: its shape, and its word in a context
--     valued names e                     an expression, where each name stands for what `names` says
--     word_of names e, word_in names c e, word_within names w e     its word alone, in a context, and as on the right of an
--                                        assignment to w bits
-- `/`, `%`, `**`, counts, the bounds of `:` and the widths of `+:` and `-:` are those of constants; what has no value as a
-- constant counts as 0. A name that is not declared has no bits.
use Rattle.std.specs.Prelude.{ℕ, ◌+◌, Bool, false, ◌||◌, if◌then◌else◌, List, [], ◌∷◌, ◌++◌, length, map, Ok, Err}
use Rattle.vlog_tree.specs.declared.expr.Expr.{Expr, para-Expr}
use Rattle.vlog_tree.specs.declared.expr.Expr.TheVariants as expr
use Rattle.vlog_tree.specs.declared.expr.Expr.TheOpen.{Expr-F}
use Rattle.vlog_tree.specs.declared.expr.Part.{Part}
use Rattle.vlog_tree.specs.declared.expr.Part.TheVariants.{Fixed, Down}
use Rattle.vlog_tree.specs.declared.operator.Unary.{Unary}
use Rattle.vlog_tree.specs.declared.operator.Binary.{Binary}
use Rattle.rdc_tern.specs.declared.value.Tern.{Tern}
use Rattle.rdc_tern.specs.Shifts.{select_of}
use Rattle.rdc_tern.specs.Words.{any_of}
use Rattle.vlog_const.specs.declared.shape.Shape.{Shape}
use Rattle.vlog_const.specs.declared.answer.ConstValue.{ConstValue}
use Rattle.vlog_const.specs.declared.whole.Whole.{Whole}
use Rattle.vlog_const.specs.Names.{no_values}
use Rattle.vlog_const.specs.Widths.{bit, unsigned, common, unary_shape, binary_shape, choice_shape, repeated_shape, unary_context, left_context, right_context, within}
use Rattle.vlog_const.specs.Worths.{Or_fault}
use Rattle.vlog_const.specs.Selects.{whole, counted}
use Rattle.vlog_const.specs.Operations.{is_division, is_power}
use Rattle.vlog_const.specs.Constants.{value_of, value_in}
use Rattle.design_form.specs.Bits.{bits, extended, copies}
use Rattle.design_form.specs.Gates.{before, between}
use Rattle.design_form.specs.Selects.{Seen, part, part_width, picked}

-- an expression by itself
pub record Valued : Type 0 where
  pub shape : Shape
  pub word : Shape → List Tern

-- ---- constants

-- the number of a constant, or 0
unfoldable pub number_of : Or_fault ConstValue → Whole
number_of (Ok v) = whole v
number_of (Err fault) = record { negative = false; magnitude = 0 }

-- the bits of a constant, or 0
unfoldable pub constant_bits : ℕ → Or_fault ConstValue → List Tern
constant_bits w (Ok v) = bits w v.bits
constant_bits w (Err fault) = bits w 0

-- what an expression is as a number, and as a count
abbrev pub number_alone : Expr → Whole
number_alone e = number_of (value_of no_values e)

abbrev pub count_alone : Expr → ℕ
count_alone e = counted (number_alone e)

-- `/`, `%` and `**` are computed of constants alone
unfoldable pub is_computed : Binary → Bool
is_computed op = is_division op || is_power op

-- ---- forms

-- a word that its own shape fixes, which a context only extends
abbrev pub fixed : Shape → List Tern → Valued
fixed s w = record { shape = s; word = λ c. extended c w }

-- the word of an expression that stands alone
abbrev pub word_alone : Valued → List Tern
word_alone a = a.word a.shape

-- a name's shape and word
abbrev pub named : Seen → Valued
named v = fixed (record { width = length v.word; signed = v.signed }) v.word

-- members side by side, the first one at the top
unfoldable pub joined : List Valued → List Tern
joined [] = []
joined (a ∷ members) = joined members ++ word_alone a

unfoldable pub joined_width : List Valued → ℕ
joined_width [] = 0
joined_width (a ∷ members) = joined_width members + a.shape.width

-- name [ i ]
abbrev pub index_valued : Seen → Valued → Valued
index_valued v i = fixed bit (picked Down v 1 i.shape (word_alone i))

-- name [ i : j ], name [ i +: j ], name [ i -: j ]
unfoldable pub select_width : Seen → Part → Expr → Expr → ℕ
select_width v Fixed i j = part_width v.range (number_alone i) (number_alone j)
select_width v how i j = count_alone j

unfoldable pub select_word : Seen → Part → Expr → Valued → Expr → List Tern
select_word v Fixed i _ j = part v (number_alone i) (number_alone j)
select_word v how _ i j = picked how v (count_alone j) i.shape (word_alone i)

abbrev pub select_valued : Seen → Part → Expr → Valued → Expr → Valued
select_valued v how i a j = fixed (unsigned (select_width v how i j)) (select_word v how i a j)

abbrev pub concat_valued : List Valued → Valued
concat_valued members = fixed (unsigned (joined_width members)) (joined members)

abbrev pub repeat_valued : ℕ → List Valued → Valued
repeat_valued n members = fixed (repeated_shape n (unsigned (joined_width members))) (copies n (joined members))

abbrev pub unary_valued : Unary → Valued → Valued
unary_valued op a = record { shape = unary_shape op a.shape; word = λ c. before op c (a.word (unary_context op a.shape c)) }

-- an operator between its operands, as its gates
abbrev pub gates_word : Binary → Valued → Valued → Shape → List Tern
gates_word op a b c = between op (common a.shape b.shape).signed c (a.word (left_context op a.shape b.shape c)) (b.word (right_context op a.shape b.shape c))

-- an operator between its operands; the whole expression is e
unfoldable pub binary_word : Expr → Binary → Valued → Valued → Shape → List Tern
binary_word e op a b c = if is_computed op then constant_bits c.width (value_in no_values c e) else gates_word op a b c

abbrev pub binary_valued : Expr → Binary → Valued → Valued → Valued
binary_valued e op a b = record { shape = binary_shape op a.shape b.shape; word = binary_word e op a b }

-- test ? a : b
abbrev pub choice_valued : Valued → Valued → Valued → Valued
choice_valued test a b = record { shape = choice_shape a.shape b.shape; word = λ c. select_of (any_of (word_alone test)) (a.word c) (b.word c) }

-- ---- expressions

-- an expression by itself, from its parts, each beside what it is worth
unfoldable pub valued_by_parts : (List ℕ → Seen) → Expr-F (Expr × Valued) → Valued
valued_by_parts names (Expr-F.Number place n) = fixed (record { width = n.width; signed = n.signed }) (bits n.width n.bits)
valued_by_parts names (Expr-F.Name place name) = named (names name)
valued_by_parts names (Expr-F.Index place name i) = index_valued (names name) i.1
valued_by_parts names (Expr-F.Select how place name i j) = select_valued (names name) how i.0 i.1 j.0
valued_by_parts names (Expr-F.Brackets place a) = a.1
valued_by_parts names (Expr-F.Concat place members) = concat_valued (map (λ a. a.1) members)
valued_by_parts names (Expr-F.Repeat place n members) = repeat_valued (count_alone n.0) (map (λ a. a.1) members)
valued_by_parts names (Expr-F.Unary place op a) = unary_valued op a.1
valued_by_parts names (Expr-F.Binary place op a b) = binary_valued (expr.Binary place op a.0 b.0) op a.1 b.1
valued_by_parts names (Expr-F.Conditional place test a b) = choice_valued test.1 a.1 b.1

-- an expression by itself
unfoldable pub valued : (List ℕ → Seen) → Expr → Valued
valued names = para-Expr Valued (valued_by_parts names)

-- the word of an expression that stands alone
abbrev pub word_of : (List ℕ → Seen) → Expr → List Tern
word_of names e = word_alone (valued names e)

-- its word in a context
abbrev pub word_in : (List ℕ → Seen) → Shape → Expr → List Tern
word_in names c e = (valued names e).word c

-- its word as on the right of an assignment to w bits: in the larger width, by its own sign; what is above w is cut
abbrev pub word_within : (List ℕ → Seen) → ℕ → Expr → List Tern
word_within names w e = word_in names (within w (valued names e).shape) e
