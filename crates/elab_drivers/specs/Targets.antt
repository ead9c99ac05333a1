-- What an `assign`, a gate or an instance may drive: a wire of the module that is no input port of it, a constant select of
-- one, or a concatenation of these.
--     drivable place name m        the wire that a name means
--     may_drive frames e           whether a target is one
--     assigned frames e            the target in the flat design
use Rattle.std.specs.Prelude.{ℕ, Bool, false, not, if◌then◌else◌, List, Option, Some, None, Ok, Err}
use Rattle.rdc_outside.specs.declared.source.Place.{Place}
use Rattle.vlog_tree.specs.declared.expr.Expr.{Expr, para-Expr}
use Rattle.vlog_tree.specs.declared.expr.Expr.TheOpen.{Expr-F}
use Rattle.design_form.specs.declared.signal.SignalKind.{SignalKind}
use Rattle.design_form.specs.declared.signal.SignalKind.TheVariants.{Wire}
use Rattle.elab_names.specs.declared.fault.ElabFault.TheVariants.{Undeclared, NotAssignable}
use Rattle.elab_names.specs.declared.meaning.Known.{Known}
use Rattle.elab_names.specs.declared.meaning.Meaning.{Meaning}
use Rattle.elab_names.specs.declared.meaning.Meaning.TheVariants.{Constant, Signal, Other}
use Rattle.elab_names.specs.Answers.{Or_fault, ◌>>=◌}
use Rattle.elab_names.specs.Meanings.{Frames, found}
use Rattle.elab_names.specs.Expressions.{constant}
use Rattle.elab_names.specs.Targets.{target_in}
use Rattle.elab_scopes.specs.Threads.{threaded}

-- a wire that is no input port
unfoldable pub is_wire : SignalKind → Bool → Bool
is_wire Wire input = not input
is_wire _ input = false

-- the wire that a name means
unfoldable pub drivable : Place → List ℕ → Option Meaning → Or_fault Known
drivable place name None = Err (Undeclared name place)
drivable place name (Some (Signal s)) = if is_wire s.kind s.input then Ok s else Err (NotAssignable place)
drivable place name (Some (Constant v)) = Err (NotAssignable place)
drivable place name (Some Other) = Err (NotAssignable place)

-- what is driven is the name alone
unfoldable pub passes : {A : Type 0} → Or_fault A → Or_fault (Unit {0})
passes r = r >>= (λ a. Ok tt)

-- a target, from its parts
unfoldable pub drive_by_parts : Frames → Expr-F (Expr × Or_fault (Unit {0})) → Or_fault (Unit {0})
drive_by_parts frames (Expr-F.Name place name) = passes (drivable place name (found frames name))
drive_by_parts frames (Expr-F.Index place name i) = do
  s ← drivable place name (found frames name)
  v ← constant frames i.0
  Ok tt
drive_by_parts frames (Expr-F.Select how place name i j) = do
  s ← drivable place name (found frames name)
  v ← constant frames i.0
  w ← constant frames j.0
  Ok tt
drive_by_parts frames (Expr-F.Concat place members) = threaded (λ u a. a.1) tt members
drive_by_parts frames _ = Ok tt

-- whether each name in a target is a wire that may be driven, and each index a constant
unfoldable pub may_drive : Frames → Expr → Or_fault (Unit {0})
may_drive frames = para-Expr (Or_fault (Unit {0})) (drive_by_parts frames)

-- the target in the flat design
unfoldable pub assigned : Frames → Expr → Or_fault Expr
assigned frames e = do
  t ← target_in frames e
  u ← may_drive frames e
  Ok t
