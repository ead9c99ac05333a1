-- Statements and what starts them, in a scope. Blocks lose their names.
--     counter place name m           the integer that a name means
--     statement_in frames s          a statement
--     control_in frames c            what a process waits for
use Rattle.std.specs.Prelude.{ℕ, List, map, Option, Some, None, Ok, Err}
use Rattle.std.specs.Option.{option_map}
use Rattle.rdc_outside.specs.declared.source.Place.{Place}
use Rattle.vlog_tree.specs.declared.ident.Ident.{Ident}
use Rattle.vlog_tree.specs.declared.stmt.Arm.{Arm}
use Rattle.vlog_tree.specs.declared.stmt.Loop.{Loop}
use Rattle.vlog_tree.specs.declared.stmt.Stmt.{Stmt, fold-Stmt}
use Rattle.vlog_tree.specs.declared.stmt.Stmt.TheVariants as stmt
use Rattle.vlog_tree.specs.declared.stmt.Stmt.TheOpen.{Stmt-F}
use Rattle.vlog_tree.specs.declared.stmt.Event.{Event}
use Rattle.vlog_tree.specs.declared.stmt.Control.{Control}
use Rattle.vlog_tree.specs.declared.stmt.Control.TheVariants.{Reads, Events}
use Rattle.vlog_const.specs.declared.answer.ConstFault.TheVariants.{NotConstant}
use Rattle.design_form.specs.declared.signal.SignalKind.{SignalKind}
use Rattle.design_form.specs.declared.signal.SignalKind.TheVariants.{Wire, Register, Integer}
use Rattle.elab_names.specs.declared.fault.ElabFault.TheVariants.{Undeclared, Const}
use Rattle.elab_names.specs.declared.meaning.Known.{Known}
use Rattle.elab_names.specs.declared.meaning.Meaning.{Meaning}
use Rattle.elab_names.specs.declared.meaning.Meaning.TheVariants.{Constant, Signal, Other}
use Rattle.elab_names.specs.Answers.{Or_fault, ◌>>=◌, gathered, optional}
use Rattle.elab_names.specs.Meanings.{Frames, found}
use Rattle.elab_names.specs.Expressions.{put_in}
use Rattle.elab_names.specs.Targets.{target_in}

-- a name in the place of another one
abbrev pub renamed : Ident → Known → Ident
renamed i s = record { place = i.place; name = s.printed }

-- ---- statements

unfoldable pub of_kind : Place → Known → SignalKind → Or_fault Known
of_kind place s Integer = Ok s
of_kind place s Wire = Err (Const (NotConstant place))
of_kind place s Register = Err (Const (NotConstant place))

-- the integer that a name means
unfoldable pub counter : Place → List ℕ → Option Meaning → Or_fault Known
counter place name None = Err (Undeclared name place)
counter place name (Some (Signal s)) = of_kind place s s.kind
counter place name (Some (Constant v)) = Err (Const (NotConstant place))
counter place name (Some Other) = Err (Const (NotConstant place))

-- a variable of a loop
unfoldable pub counter_in : Frames → Ident → Or_fault Ident
counter_in frames i = do
  s ← counter i.place i.name (found frames i.name)
  Ok (renamed i s)

-- (variable = start; test; stepped = step)
unfoldable pub loop_in : Frames → Loop → Or_fault Loop
loop_in frames l = do
  variable ← counter_in frames l.variable
  start ← put_in frames l.start
  test ← put_in frames l.test
  stepped ← counter_in frames l.stepped
  step ← put_in frames l.step
  Ok (record { variable = variable; start = start; test = test; stepped = stepped; step = step })

-- a case item
unfoldable pub arm_in : Frames → Arm (Or_fault Stmt) → Or_fault (Arm Stmt)
arm_in frames arm = do
  labels ← gathered (map (put_in frames) arm.labels)
  body ← arm.body
  Ok (record { place = arm.place; labels = labels; body = body })

-- a statement, from those in it
unfoldable pub statement_by_parts : Frames → Stmt-F (Or_fault Stmt) → Or_fault Stmt
statement_by_parts frames (Stmt-F.Empty place) = Ok (stmt.Empty place)
statement_by_parts frames (Stmt-F.Block place label inner) = do
  ss ← gathered inner
  Ok (stmt.Block place None ss)
statement_by_parts frames (Stmt-F.Assign place target by value) = do
  t ← target_in frames target
  v ← put_in frames value
  Ok (stmt.Assign place t by v)
statement_by_parts frames (Stmt-F.If place test first second) = do
  t ← put_in frames test
  a ← first
  b ← optional second
  Ok (stmt.If place t a b)
statement_by_parts frames (Stmt-F.Case place matching selector arms) = do
  s ← put_in frames selector
  items ← gathered (map (arm_in frames) arms)
  Ok (stmt.Case place matching s items)
statement_by_parts frames (Stmt-F.For place header body) = do
  h ← loop_in frames header
  b ← body
  Ok (stmt.For place h b)

-- a statement
unfoldable pub statement_in : Frames → Stmt → Or_fault Stmt
statement_in frames = fold-Stmt (Or_fault Stmt) (statement_by_parts frames)

-- a case item, with its statement
abbrev pub arm_with : Frames → Arm Stmt → Or_fault (Arm Stmt)
arm_with frames arm = arm_in frames (record { place = arm.place; labels = arm.labels; body = statement_in frames arm.body })

-- ---- what starts them

-- the signal that an event is a change of
unfoldable pub changing : Place → List ℕ → Option Meaning → Or_fault Known
changing place name None = Err (Undeclared name place)
changing place name (Some (Signal s)) = Ok s
changing place name (Some (Constant v)) = Err (Const (NotConstant place))
changing place name (Some Other) = Err (Const (NotConstant place))

unfoldable pub changing_in : Frames → Ident → Or_fault Ident
changing_in frames i = do
  s ← changing i.place i.name (found frames i.name)
  Ok (renamed i s)

-- [posedge|negedge] name [ i ]
unfoldable pub event_in : Frames → Event → Or_fault Event
event_in frames e = do
  name ← changing_in frames e.name
  index ← optional (option_map (put_in frames) e.index)
  Ok (record { edge = e.edge; name = name; index = index })

-- what a process waits for
unfoldable pub control_in : Frames → Control → Or_fault Control
control_in frames Reads = Ok Reads
control_in frames (Events es) = do
  events ← gathered (map (event_in frames) es)
  Ok (Events events)
