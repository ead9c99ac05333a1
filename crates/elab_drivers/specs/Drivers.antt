-- What drives the signals of a scope.
--     wired d n                a declared wire with its driver
--     assigns d a              one assignment of an `assign`
--     processed c s d          a process
--     gated kind d g           a gate
use Rattle.std.specs.Prelude.{ℕ, ◌-◌, nat_lt, if◌then◌else◌, List, ◌++◌, length, map, take, drop, Option, Some, None, Ok, Err}
use Rattle.rdc_outside.specs.declared.source.Place.{Place}
use Rattle.vlog_tree.specs.declared.expr.Expr.{Expr}
use Rattle.vlog_tree.specs.declared.expr.Expr.TheVariants as expr
use Rattle.vlog_tree.specs.declared.ident.Ident.{Ident}
use Rattle.vlog_tree.specs.declared.stmt.Stmt.{Stmt}
use Rattle.vlog_tree.specs.declared.stmt.Control.{Control}
use Rattle.vlog_tree.specs.declared.item.Net.{Net}
use Rattle.vlog_tree.specs.declared.item.Assignment.{Assignment}
use Rattle.vlog_tree.specs.declared.item.Gate.{Gate}
use Rattle.vlog_tree.specs.declared.item.GateKind.{GateKind}
use Rattle.vlog_tree.specs.declared.item.GateKind.TheVariants as gate
use Rattle.design_form.specs.declared.parts.DriverKind.TheVariants.{Assign}
use Rattle.elab_names.specs.declared.fault.ElabFault.TheVariants.{PortCount}
use Rattle.elab_names.specs.Answers.{Or_fault, ◌>>=◌, gathered}
use Rattle.elab_names.specs.Meanings.{Frames, found}
use Rattle.elab_names.specs.Expressions.{put_in}
use Rattle.elab_names.specs.Statements.{control_in, statement_in}
use Rattle.elab_scopes.specs.Ranges.{place_of}
use Rattle.elab_drivers.specs.Drafts.{Draft, frames_in, with_driver, with_process, with_gate}
use Rattle.elab_drivers.specs.Targets.{drivable, assigned}

-- a wire that is driven where it is declared
unfoldable pub wired_by : Draft → Ident → Expr → Or_fault Draft
wired_by d i e = do
  s ← drivable i.place i.name (found (frames_in d) i.name)
  v ← put_in (frames_in d) e
  Ok (with_driver d (record { place = i.place; kind = Assign; target = expr.Name i.place s.printed; value = v }))

unfoldable pub wired_if : Draft → Ident → Option Expr → Or_fault Draft
wired_if d i None = Ok d
wired_if d i (Some e) = wired_by d i e

-- a declared wire with its driver, if it has one
unfoldable pub wired : Draft → Net → Or_fault Draft
wired d n = wired_if d n.name n.driver

-- one assignment of an `assign`, which stands where its target does
unfoldable pub assigns : Draft → Assignment → Or_fault Draft
assigns d a = do
  t ← assigned (frames_in d) a.target
  v ← put_in (frames_in d) a.value
  Ok (with_driver d (record { place = place_of a.target; kind = Assign; target = t; value = v }))

-- a process
unfoldable pub processed : Place → Control → Stmt → Draft → Or_fault Draft
processed place c s d = do
  on ← control_in (frames_in d) c
  body ← statement_in (frames_in d) s
  Ok (with_process d (record { place = place; control = on; body = body }))

-- how many of n terminals are outputs
unfoldable pub outputs : GateKind → ℕ → ℕ
outputs gate.Not n = n - 1
outputs gate.Buf n = n - 1
outputs _ n = 1

-- the terminals of a gate, the outputs first
unfoldable pub terminals : Frames → ℕ → List Expr → Or_fault (List Expr)
terminals frames k es = do
  outs ← gathered (map (assigned frames) (take k es))
  ins ← gathered (map (put_in frames) (drop k es))
  Ok (outs ++ ins)

-- a gate, which has two terminals or more
unfoldable pub gated : GateKind → Draft → Gate → Or_fault Draft
gated kind d g =
    if nat_lt (length g.terminals) 2 then Err (PortCount g.place)
    else (terminals (frames_in d) (outputs kind (length g.terminals)) g.terminals >>= (λ es. Ok (with_gate d (record { place = g.place; kind = kind; terminals = es }))))
