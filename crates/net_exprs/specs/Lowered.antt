-- The gates of an expression where names stand for nodes (IEEE 1364-2005, clause 5), least significant bit first, fan-ins
-- first and from left to right. A constant expression that has a value in its context is built as that value.
--   Formed                                    an expression by its form: its shape, and how its word is built in a context
--   Lowered                                   the same, where a constant is its value
--   lowered names e                           an expression, where each name stands for what `names` says
--   built_of names e, built_in names c e, built_within names w e   its word alone, in a context, and as on the right of an
--                                             assignment to w bits
use Rattle.std.specs.Prelude.{ℕ, ◌+◌, if◌then◌else◌, List, [], ◌∷◌, ◌++◌, length, map}
use Rattle.vlog_tree.specs.declared.expr.Expr.{Expr, para-Expr}
use Rattle.vlog_tree.specs.declared.expr.Expr.TheVariants as expr
use Rattle.vlog_tree.specs.declared.expr.Expr.TheOpen.{Expr-F}
use Rattle.vlog_tree.specs.declared.expr.Part.{Part}
use Rattle.vlog_tree.specs.declared.expr.Part.TheVariants.{Fixed, Down}
use Rattle.vlog_tree.specs.declared.operator.Unary.{Unary}
use Rattle.vlog_tree.specs.declared.operator.Binary.{Binary}
use Rattle.vlog_const.specs.declared.shape.Shape.{Shape}
use Rattle.vlog_const.specs.Names.{no_values}
use Rattle.vlog_const.specs.Widths.{bit, unsigned, common, unary_shape, binary_shape, choice_shape, repeated_shape, unary_context, left_context, right_context, within}
use Rattle.vlog_const.specs.Constants.{value_in}
use Rattle.design_form.specs.Bits.{bits}
use Rattle.design_form.specs.Values.{number_alone, count_alone, constant_bits, is_computed}
use Rattle.design_form.specs.Selects.{part_width}
use Rattle.design_form.specs.declared.signal.Bounds.{Bounds}
use Rattle.net_words.specs.Builds.{Build, ◌>>=◌, return}
use Rattle.net_words.specs.Words.{any, select}
use Rattle.net_exprs.specs.Wired.{Wired}
use Rattle.net_exprs.specs.Constants.{constants, value_or}
use Rattle.net_exprs.specs.Extensions.{extended, copies}
use Rattle.net_exprs.specs.Operators.{before, between}
use Rattle.net_exprs.specs.Selects.{part, picked}

-- an expression by its form
pub record Formed : Type 0 where
  pub shape : Shape
  pub gates : Shape → Build (List ℕ)

-- an expression by itself, whose word is its value where it is a constant
pub record Lowered : Type 0 where
  pub formed : Formed
  pub shape : Shape
  pub word : Shape → Build (List ℕ)

-- a constant is its value, where it has one in the context
abbrev pub by_value : Expr → Formed → Lowered
by_value e a = record { formed = a; shape = a.shape; word = λ c. value_or (value_in no_values c e) (a.gates c) }

-- ---- forms

-- a word that its own shape fixes, which a context only extends
abbrev pub fixed : Shape → Build (List ℕ) → Formed
fixed s b = record { shape = s; gates = λ c. b >>= extended c }

-- the word of an expression that stands alone
abbrev pub built_alone : Lowered → Build (List ℕ)
built_alone a = a.word a.shape

-- a name's shape and nodes
abbrev pub named : Wired → Formed
named v = fixed (record { width = length v.nodes; signed = v.signed }) (return v.nodes)

-- members from left to right; the first one stands at the top
unfoldable pub joined : List Lowered → Build (List ℕ)
joined [] = return []
joined (a ∷ members) = do
  top ← built_alone a
  low ← joined members
  return (low ++ top)

unfoldable pub joined_width : List Lowered → ℕ
joined_width [] = 0
joined_width (a ∷ members) = joined_width members + a.shape.width

-- n bits by an index, which stands alone
unfoldable pub picked_by : Part → Wired → ℕ → Lowered → Build (List ℕ)
picked_by how v n i = built_alone i >>= picked how v n i.shape

-- name [ i ]
abbrev pub index_formed : Wired → Lowered → Formed
index_formed v i = fixed bit (picked_by Down v 1 i)

-- name [ i : j ], name [ i +: j ], name [ i -: j ]
unfoldable pub select_width : Bounds → Part → Expr → Expr → ℕ
select_width r Fixed i j = part_width r (number_alone i) (number_alone j)
select_width r how i j = count_alone j

abbrev pub fixed_part : Wired → Expr → Expr → Build (List ℕ)
fixed_part v i j = part v (number_alone i) (number_alone j)

unfoldable pub select_word : Wired → Part → Expr → Lowered → Expr → Build (List ℕ)
select_word v Fixed i _ j = fixed_part v i j
select_word v how _ i j = picked_by how v (count_alone j) i

abbrev pub select_formed : Wired → Part → Expr → Lowered → Expr → Formed
select_formed v how i a j = fixed (unsigned (select_width v.range how i j)) (select_word v how i a j)

abbrev pub brackets_formed : Lowered → Formed
brackets_formed a = record { shape = a.shape; gates = a.word }

abbrev pub concat_formed : List Lowered → Formed
concat_formed members = fixed (unsigned (joined_width members)) (joined members)

unfoldable pub repeated : ℕ → List Lowered → Build (List ℕ)
repeated n members = do
  w ← joined members
  return (copies n w)

abbrev pub repeat_formed : ℕ → List Lowered → Formed
repeat_formed n members = fixed (repeated_shape n (unsigned (joined_width members))) (repeated n members)

abbrev pub unary_formed : Unary → Lowered → Formed
unary_formed op a = record { shape = unary_shape op a.shape; gates = λ c. a.word (unary_context op a.shape c) >>= before op c }

-- both operands, the left one first, and the operator between them
unfoldable pub gates_word : Binary → Lowered → Lowered → Shape → Build (List ℕ)
gates_word op a b c = do
  x ← a.word (left_context op a.shape b.shape c)
  y ← b.word (right_context op a.shape b.shape c)
  between op (common a.shape b.shape).signed c x y

-- an operator between its operands; the whole expression is e
unfoldable pub binary_word : Expr → Binary → Lowered → Lowered → Shape → Build (List ℕ)
binary_word e op a b c = if is_computed op then constants (constant_bits c.width (value_in no_values c e)) else gates_word op a b c

abbrev pub binary_formed : Expr → Binary → Lowered → Lowered → Formed
binary_formed e op a b = record { shape = binary_shape op a.shape b.shape; gates = binary_word e op a b }

-- test ? a : b
unfoldable pub choice_word : Lowered → Lowered → Lowered → Shape → Build (List ℕ)
choice_word test a b c = do
  bits ← built_alone test
  t ← any bits
  x ← a.word c
  y ← b.word c
  select t x y

abbrev pub choice_formed : Lowered → Lowered → Lowered → Formed
choice_formed test a b = record { shape = choice_shape a.shape b.shape; gates = choice_word test a b }

-- ---- expressions

-- an expression by itself, from its parts, each beside how it is built
unfoldable pub lowered_by_parts : (List ℕ → Wired) → Expr-F (Expr × Lowered) → Lowered
lowered_by_parts names (Expr-F.Number place n) = by_value (expr.Number place n) (fixed (record { width = n.width; signed = n.signed }) (constants (bits n.width n.bits)))
lowered_by_parts names (Expr-F.Name place name) = by_value (expr.Name place name) (named (names name))
lowered_by_parts names (Expr-F.Index place name i) = by_value (expr.Index place name i.0) (index_formed (names name) i.1)
lowered_by_parts names (Expr-F.Select how place name i j) = by_value (expr.Select how place name i.0 j.0) (select_formed (names name) how i.0 i.1 j.0)
lowered_by_parts names (Expr-F.Brackets place a) = by_value (expr.Brackets place a.0) (brackets_formed a.1)
lowered_by_parts names (Expr-F.Concat place members) = by_value (expr.Concat place (map (λ a. a.0) members)) (concat_formed (map (λ a. a.1) members))
lowered_by_parts names (Expr-F.Repeat place n members) = by_value (expr.Repeat place n.0 (map (λ a. a.0) members)) (repeat_formed (count_alone n.0) (map (λ a. a.1) members))
lowered_by_parts names (Expr-F.Unary place op a) = by_value (expr.Unary place op a.0) (unary_formed op a.1)
lowered_by_parts names (Expr-F.Binary place op a b) = by_value (expr.Binary place op a.0 b.0) (binary_formed (expr.Binary place op a.0 b.0) op a.1 b.1)
lowered_by_parts names (Expr-F.Conditional place test a b) = by_value (expr.Conditional place test.0 a.0 b.0) (choice_formed test.1 a.1 b.1)

-- an expression by itself
unfoldable pub lowered : (List ℕ → Wired) → Expr → Lowered
lowered names = para-Expr Lowered (lowered_by_parts names)

-- the word of an expression that stands alone
abbrev pub built_of : (List ℕ → Wired) → Expr → Build (List ℕ)
built_of names e = built_alone (lowered names e)

-- its word in a context by its form, constant or not
abbrev pub formed_in : (List ℕ → Wired) → Shape → Expr → Build (List ℕ)
formed_in names c e = (lowered names e).formed.gates c

-- its word in a context
abbrev pub built_in : (List ℕ → Wired) → Shape → Expr → Build (List ℕ)
built_in names c e = (lowered names e).word c

-- its word as on the right of an assignment to w bits, in the larger width, by its own sign
abbrev pub built_within : (List ℕ → Wired) → ℕ → Expr → Build (List ℕ)
built_within names w e = built_in names (within w (lowered names e).shape) e
