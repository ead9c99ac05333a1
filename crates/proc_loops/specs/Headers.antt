-- Which headers of loops are constant.
--     running values h body v        what names stand for in a turn, where the variable of the loop is v
--     unknown s values               the first name of a header that has no value there, if there is one: those of the start,
--                                    of the test, of the step, and then of the loops in the body
use Rattle.std.specs.Prelude.{ℕ, ◌%◌, ◌^◌, true, false, if◌then◌else◌, map, Option, None, Some}
use Rattle.rdc_outside.specs.declared.source.Place.{Place}
use Rattle.vlog_tree.specs.declared.expr.Expr.{Expr}
use Rattle.vlog_tree.specs.declared.stmt.Loop.{Loop}
use Rattle.vlog_tree.specs.declared.stmt.Stmt.{Stmt, para-Stmt}
use Rattle.vlog_tree.specs.declared.stmt.Stmt.TheOpen.{Stmt-F}
use Rattle.vlog_const.specs.declared.answer.ConstValue.{ConstValue}
use Rattle.vlog_const.specs.Names.{Values, with_value}
use Rattle.proc_loops.specs.Names.{sooner, first_among, first_name, assigns}
use Rattle.proc_loops.specs.Scopes.{stands}

-- the variable of a loop: the lowest 32 bits, with a sign
abbrev pub integer : ℕ → ConstValue
integer bits = record { bits = bits % 2 ^ 32; width = 32; signed = true }

-- inside a loop its variable has a value, unless the body assigns it
unfoldable pub running : Values → Loop → Stmt → ConstValue → Values
running values h body v = if assigns h.variable.name body then values else with_value values h.variable.name v

-- where a name without a value stands
abbrev pub unknown_in : Values → Expr → Option Place
unknown_in values e = first_name (stands false values) e

-- of the loop's own header; which value the variable has makes no difference
abbrev pub unknown_header : Values → Values → Loop → Option Place
unknown_header outside inside h = sooner (unknown_in outside h.start) (sooner (unknown_in inside h.test) (unknown_in inside h.step))

abbrev pub unknown_if : Values → Option (Stmt × (Values → Option Place)) → Option Place
unknown_if values None = None
unknown_if values (Some s) = s.1 values

-- by the parts of a statement, each beside its own answer
unfoldable pub unknown_by_parts : Stmt-F (Stmt × (Values → Option Place)) → Values → Option Place
unknown_by_parts (Stmt-F.Empty place) values = None
unknown_by_parts (Stmt-F.Block place label ss) values = first_among (map (λ s. s.1 values) ss)
unknown_by_parts (Stmt-F.Assign place target by value) values = None
unknown_by_parts (Stmt-F.If place test a b) values = sooner (a.1 values) (unknown_if values b)
unknown_by_parts (Stmt-F.Case place how selector arms) values = first_among (map (λ a. a.body.1 values) arms)
unknown_by_parts (Stmt-F.For place h body) values =
    sooner (unknown_header values (running values h body.0 (integer 0)) h) (body.1 (running values h body.0 (integer 0)))

unfoldable pub unknown : Stmt → Values → Option Place
unknown = para-Stmt (Values → Option Place) unknown_by_parts

-- of a loop with its body
abbrev pub unknown_in_loop : Loop → Stmt → Values → Option Place
unknown_in_loop h body values =
    sooner (unknown_header values (running values h body (integer 0)) h) (unknown body (running values h body (integer 0)))
