-- Targets of assignments: a name, a select, or a concatenation of these.
--     targets ss e           the bits that it names; one that is named twice stands there twice
--     target_reads ss e      what its indices read
use Rattle.std.specs.Prelude.{ℕ, List, [], ◌++◌}
use Rattle.std.specs.List.{flat_map}
use Rattle.vlog_tree.specs.declared.expr.Expr.{Expr, para-Expr}
use Rattle.vlog_tree.specs.declared.expr.Expr.TheOpen.{Expr-F}
use Rattle.design_form.specs.declared.signal.Signal.{Signal}
use Rattle.elab_bits.specs.declared.touch.Touch.{Touch}
use Rattle.elab_bits.specs.Selects.{all_bits, indexed, selected}
use Rattle.elab_bits.specs.Reads.{reads}

-- by its parts, each beside the bits that it names
unfoldable pub targets_by_parts : List Signal → Expr-F (Expr × List ℕ) → List ℕ
targets_by_parts ss (Expr-F.Name place name) = all_bits ss name
targets_by_parts ss (Expr-F.Index place name i) = indexed ss name i.0
targets_by_parts ss (Expr-F.Select how place name i j) = selected ss how name i.0 j.0
targets_by_parts ss (Expr-F.Concat place members) = flat_map (λ a. a.1) members
targets_by_parts ss _ = []

unfoldable pub targets : List Signal → Expr → List ℕ
targets ss = para-Expr (List ℕ) (targets_by_parts ss)

-- by its parts, each beside what its indices read
unfoldable pub target_reads_by_parts : List Signal → Expr-F (Expr × List Touch) → List Touch
target_reads_by_parts ss (Expr-F.Index place name i) = reads ss i.0
target_reads_by_parts ss (Expr-F.Select how place name i j) = reads ss i.0 ++ reads ss j.0
target_reads_by_parts ss (Expr-F.Concat place members) = flat_map (λ a. a.1) members
target_reads_by_parts ss _ = []

unfoldable pub target_reads : List Signal → Expr → List Touch
target_reads ss = para-Expr (List Touch) (target_reads_by_parts ss)
