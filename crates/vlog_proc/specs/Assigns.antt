-- What a process may assign, and how.
--     loop_variables s           the variables of the loops of a statement
--     Rule                       inside loops over some variables, whether a kind of assignment to a name is right
--     combinational ss           without edges: `=` to registers and integers
--     clocked ss variables       with edges: `<=` to registers, and `=` to variables of loops that aren't running
--     rights r s                 the first `WrongAssign` of a statement; a loop's header assigns its variable
--     rights_checked d p         of a process
use Rattle.std.specs.Prelude.{if◌then◌else◌, ℕ, Bool, false, not, ◌&&◌, List, [], ◌∷◌, ◌++◌, Option, Some, None, Ok, Err}
use Rattle.std.specs.List.{flat_map}
use Rattle.vlog_tree.specs.declared.stmt.Assigns.{Assigns}
use Rattle.vlog_tree.specs.declared.stmt.Assigns.TheVariants.{Blocking, Nonblocking}
use Rattle.vlog_tree.specs.declared.stmt.Loop.{Loop}
use Rattle.vlog_tree.specs.declared.stmt.Stmt.{Stmt, fold-Stmt}
use Rattle.vlog_tree.specs.declared.stmt.Stmt.TheOpen.{Stmt-F}
use Rattle.design_form.specs.declared.signal.Signal.{Signal}
use Rattle.design_form.specs.declared.parts.Parts.{Parts}
use Rattle.design_form.specs.declared.parts.Process.{Process}
use Rattle.elab_bits.specs.Bodies.{side}
use Rattle.elab_bits.specs.Processes.{has_edges}
use Rattle.vlog_proc.specs.declared.fault.ProcFault.TheVariants.{WrongAssign}
use Rattle.vlog_proc.specs.Faults.{Or_fault, all_checked}
use Rattle.vlog_proc.specs.Names.{is_named, is_register, is_variable, kind_of}
use Rattle.vlog_proc.specs.Uses.{Test, then_also, named_targets}

-- ---- variables of loops

unfoldable pub variables_by_parts : Stmt-F (List (List ℕ)) → List (List ℕ)
variables_by_parts (Stmt-F.Empty place) = []
variables_by_parts (Stmt-F.Block place label inner) = flat_map (λ ns. ns) inner
variables_by_parts (Stmt-F.Assign place target by value) = []
variables_by_parts (Stmt-F.If place test a b) = a ++ side b
variables_by_parts (Stmt-F.Case place how selector arms) = flat_map (λ arm. arm.body) arms
variables_by_parts (Stmt-F.For place h body) = h.variable.name ∷ body

-- the variables of the loops of a statement
unfoldable pub loop_variables : Stmt → List (List ℕ)
loop_variables = fold-Stmt (List (List ℕ)) variables_by_parts

-- ---- rules

-- inside loops over some variables, whether a kind of assignment to a name is right
abbrev pub Rule : Type 0
Rule = List (List ℕ) → Assigns → List ℕ → Bool

unfoldable pub combinational : List Signal → Rule
combinational ss running Blocking name = is_variable (kind_of ss name)
combinational ss running Nonblocking name = false

unfoldable pub clocked : List Signal → List (List ℕ) → Rule
clocked ss variables running Blocking name = is_named variables name && not (is_named running name)
clocked ss variables running Nonblocking name = is_register (kind_of ss name)

-- that of a process with edges or without, whose loops have these variables
unfoldable pub rule : List Signal → Bool → List (List ℕ) → Rule
rule ss edged variables = if edged then clocked ss variables else combinational ss

-- ---- statements

unfoldable pub allowed : Rule → List (List ℕ) → Assigns → Test
allowed r running by place name = if r running by name then Ok tt else Err (WrongAssign name place)

-- a loop's header assigns its variable, and what it steps
abbrev pub header_right : Rule → Loop → Or_fault (Unit {0})
header_right r h = then_also (allowed r [] Blocking h.variable.place h.variable.name) (allowed r [] Blocking h.stepped.place h.stepped.name)

-- inside loops over these variables
abbrev pub Within : Type 0
Within = List (List ℕ) → Or_fault (Unit {0})

unfoldable pub side_right : {S : Type 0} → (S → Within) → Option S → Within
side_right f None running = Ok tt
side_right f (Some s) running = f s running

unfoldable pub rights_by_parts : Rule → Stmt-F Within → Within
rights_by_parts r (Stmt-F.Empty place) running = Ok tt
rights_by_parts r (Stmt-F.Block place label inner) running = all_checked (λ s. s running) inner
rights_by_parts r (Stmt-F.Assign place target by value) running = named_targets (allowed r running by) target
rights_by_parts r (Stmt-F.If place test a b) running = then_also (a running) (side_right (λ s. s) b running)
rights_by_parts r (Stmt-F.Case place how selector arms) running = all_checked (λ arm. arm.body running) arms
rights_by_parts r (Stmt-F.For place h body) running = then_also (header_right r h) (body (running ++ h.variable.name ∷ []))

-- the first `WrongAssign` of a statement
unfoldable pub rights : Rule → Stmt → Within
rights r = fold-Stmt Within (rights_by_parts r)

-- of a process
unfoldable pub rights_checked : Parts → Process → Or_fault (Unit {0})
rights_checked d p = rights (rule d.signals (has_edges p.control) (loop_variables p.body)) p.body []
