-- The bits that a statement may assign, by their numbers in the design.
--     Row, row d name             a signal's bits: its range and their numbers
--     target_bits d e             what an assignment to e may assign: by an index that isn't constant the whole signal
--     assigned_bits d s           what a statement may assign, each as often as it is assigned
--     once so_far ns              each number once, in ascending order
--     assigned d s                how many bits a statement may assign
use Rattle.std.specs.Prelude.{ℕ, if◌then◌else◌, List, [], ◌∷◌, ◌++◌, length, Option, Some, None}
use Rattle.std.specs.List.{flat_map}
use Rattle.std.specs.Option.{option_map, unwrap_or}
use Rattle.std.specs.Ordering.{nat_cmp}
use Rattle.std.specs.BTreeSet.{insert_key}
use Rattle.vlog_tree.specs.declared.expr.Expr.{Expr, para-Expr}
use Rattle.vlog_tree.specs.declared.expr.Expr.TheOpen.{Expr-F}
use Rattle.vlog_tree.specs.declared.expr.Part.{Part}
use Rattle.vlog_tree.specs.declared.stmt.Stmt.{Stmt, fold-Stmt}
use Rattle.vlog_tree.specs.declared.stmt.Stmt.TheOpen.{Stmt-F}
use Rattle.design_form.specs.declared.parts.Parts.{Parts}
use Rattle.design_form.specs.declared.signal.Bounds.{Bounds}
use Rattle.design_form.specs.declared.signal.Signal.{Signal}
use Rattle.design_form.specs.Numbers.{numbers_of, signal_of}
use Rattle.design_form.specs.Signals.{bounds_of}
use Rattle.design_form.specs.Values.{number_alone}
use Rattle.design_sizes.specs.Sizes.{has_name}
use Rattle.elab_weight.specs.Reaches.{reach, reach_of_one, reached}

-- ---- targets

-- a signal's range, and the numbers of its bits, least significant first
pub record Row : Type 0 where
  pub range : Bounds
  pub numbers : List ℕ

abbrev pub row_of : List Signal → Signal → Row
row_of ss s = record { range = bounds_of s; numbers = numbers_of ss s }

-- that of a name; one that is no signal has none
abbrev pub row : Parts → List ℕ → Option Row
row d name = option_map (row_of d.signals) (signal_of d.signals name)

-- all bits
unfoldable pub all_of : Option Row → List ℕ
all_of None = []
all_of (Some x) = x.numbers

-- name [ i ]
unfoldable pub one_of : Expr → Option Row → List ℕ
one_of i None = []
one_of i (Some x) = reached x.range (reach_of_one (number_alone i)) x.numbers

unfoldable pub index_bits : Parts → List ℕ → Expr → List ℕ
index_bits d name i = if has_name i then all_of (row d name) else one_of i (row d name)

-- name [ i : j ], name [ i +: j ], name [ i -: j ]
unfoldable pub part_of : Part → Expr → Expr → Option Row → List ℕ
part_of how i j None = []
part_of how i j (Some x) = reached x.range (reach how x.range (number_alone i) (number_alone j)) x.numbers

unfoldable pub select_bits : Parts → Part → List ℕ → Expr → Expr → List ℕ
select_bits d how name i j = if has_name i then all_of (row d name) else part_of how i j (row d name)

unfoldable pub bits_by_parts : Parts → Expr-F (Expr × List ℕ) → List ℕ
bits_by_parts d (Expr-F.Name place name) = all_of (row d name)
bits_by_parts d (Expr-F.Index place name i) = index_bits d name i.0
bits_by_parts d (Expr-F.Select how place name i j) = select_bits d how name i.0 j.0
bits_by_parts d (Expr-F.Concat place members) = flat_map (λ a. a.1) members
bits_by_parts d _ = []

unfoldable pub target_bits : Parts → Expr → List ℕ
target_bits d = para-Expr (List ℕ) (bits_by_parts d)

-- ---- statements

unfoldable pub assigned_by_parts : Parts → Stmt-F (List ℕ) → List ℕ
assigned_by_parts d (Stmt-F.Empty place) = []
assigned_by_parts d (Stmt-F.Block place label ss) = flat_map (λ s. s) ss
assigned_by_parts d (Stmt-F.Assign place target by value) = target_bits d target
assigned_by_parts d (Stmt-F.If place test a b) = a ++ unwrap_or b []
assigned_by_parts d (Stmt-F.Case place how selector arms) = flat_map (λ a. a.body) arms
assigned_by_parts d (Stmt-F.For place h body) = body

unfoldable pub assigned_bits : Parts → Stmt → List ℕ
assigned_bits d = fold-Stmt (List ℕ) (assigned_by_parts d)

-- each number once
unfoldable pub once : List ℕ → List ℕ → List ℕ
once so_far [] = so_far
once so_far (n ∷ ns) = once (insert_key nat_cmp so_far n) ns

abbrev pub assigned : Parts → Stmt → ℕ
assigned d s = length (once [] (assigned_bits d s))
