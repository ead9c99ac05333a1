-- What holds of each body without loops.
--     has_loop s         whether a statement holds a loop
--     HoldsNoLoop        what is unrolled holds none
--     CountsTurns        fewer than 65,536 turns were made
--     KeepsOthers        a body without loops stays as it is
use Rattle.std.specs.Prelude.{◌≡◌, ◌<◌, Bool, true, false, ◌||◌, Ok}
use Rattle.std.specs.List.{list_any}
use Rattle.vlog_tree.specs.declared.stmt.Stmt.{Stmt, fold-Stmt}
use Rattle.vlog_tree.specs.declared.stmt.Stmt.TheOpen.{Stmt-F}
use Rattle.proc_loops.specs.declared.turn.Unrolled.{Unrolled}
use Rattle.proc_loops.specs.Names.{is_if}
use Rattle.proc_loops.specs.Unrolled.{unrolled}

-- by the parts of a statement
unfoldable pub has_loop_by_parts : Stmt-F Bool → Bool
has_loop_by_parts (Stmt-F.Empty place) = false
has_loop_by_parts (Stmt-F.Block place label ss) = list_any (λ b. b) ss
has_loop_by_parts (Stmt-F.Assign place target by value) = false
has_loop_by_parts (Stmt-F.If place test a b) = a || is_if b
has_loop_by_parts (Stmt-F.Case place how selector arms) = list_any (λ a. a.body) arms
has_loop_by_parts (Stmt-F.For place h body) = true

-- whether a statement holds a loop
unfoldable pub has_loop : Stmt → Bool
has_loop = fold-Stmt Bool has_loop_by_parts

-- what is unrolled holds no loop
abbrev pub HoldsNoLoop : Type 0
HoldsNoLoop = (s : Stmt) (u : Unrolled) → unrolled s ≡ Ok u → has_loop u.body ≡ false

-- fewer than 65,536 turns were made
abbrev pub CountsTurns : Type 0
CountsTurns = (s : Stmt) (u : Unrolled) → unrolled s ≡ Ok u → u.turns < 65536

-- a body without loops stays as it is
abbrev pub KeepsOthers : Type 0
KeepsOthers = (s : Stmt) → has_loop s ≡ false → unrolled s ≡ Ok (record { body = s; turns = 0; headers = 0; is_cut = false })
