-- What the `if`s and the case labels of a statement weigh, beside their parts.
--     arm_weight n w a          a case item: each label is compared at w bits, and selects n bits
--     choice_weight d n s       a statement that assigns n bits
--     arm_of d n w a            an item of such statements
use Rattle.std.specs.Prelude.{ℕ, ◌+◌, ◌*◌, length}
use Rattle.std.specs.List.{flat_map, sum_by}
use Rattle.std.specs.Option.{unwrap_or}
use Rattle.vlog_tree.specs.declared.stmt.Arm.{Arm}
use Rattle.vlog_tree.specs.declared.stmt.Stmt.{Stmt, fold-Stmt}
use Rattle.vlog_tree.specs.declared.stmt.Stmt.TheOpen.{Stmt-F}
use Rattle.design_form.specs.declared.parts.Parts.{Parts}
use Rattle.design_sizes.specs.Sizes.{case_shape}

-- a label selects 4 times all bits, and is compared
abbrev pub arm_weight : ℕ → ℕ → Arm ℕ → ℕ
arm_weight n w a = length a.labels * (4 * n + 8 * w) + a.body

unfoldable pub choice_by_parts : Parts → ℕ → Stmt-F ℕ → ℕ
choice_by_parts d n (Stmt-F.Empty place) = 0
choice_by_parts d n (Stmt-F.Block place label ss) = sum_by (λ s. s) ss
choice_by_parts d n (Stmt-F.Assign place target by value) = 0
choice_by_parts d n (Stmt-F.If place test a b) = 4 * n + a + unwrap_or b 0
choice_by_parts d n (Stmt-F.Case place how selector arms) = sum_by (arm_weight n (case_shape d selector (flat_map (λ a. a.labels) arms)).width) arms
choice_by_parts d n (Stmt-F.For place h body) = body

unfoldable pub choice_weight : Parts → ℕ → Stmt → ℕ
choice_weight d n = fold-Stmt ℕ (choice_by_parts d n)

-- a case item of statements
abbrev pub arm_of : Parts → ℕ → ℕ → Arm Stmt → ℕ
arm_of d n w a = length a.labels * (4 * n + 8 * w) + choice_weight d n a.body
