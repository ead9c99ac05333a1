-- The turns of a loop.
--     Run A                  from what names stand for and the turns so far: a value and the turns then, or a fault
--     turn h inside ..       one turn of a loop
--     turns n h inside ..    its turns, fewer than n of them, behind the statements done
--     unroll_loop            a loop as a block of its turns
use Rattle.std.specs.Prelude.{ℕ, zero, suc, ◌+◌, ◌-◌, ◌^◌, min, Bool, true, false, nat_le, not, if◌then◌else◌, List, [], ◌∷◌, ◌++◌, None, Ok, Err}
use Rattle.std.specs.Str.{bytes_eq}
use Rattle.rdc_outside.specs.declared.source.Place.{Place}
use Rattle.vlog_tree.specs.declared.expr.Expr.TheVariants as expr
use Rattle.vlog_tree.specs.declared.ident.Ident.{Ident}
use Rattle.vlog_tree.specs.declared.stmt.Loop.{Loop}
use Rattle.vlog_tree.specs.declared.stmt.Assigns.TheVariants.{Blocking}
use Rattle.vlog_tree.specs.declared.stmt.Stmt.{Stmt}
use Rattle.vlog_tree.specs.declared.stmt.Stmt.TheVariants as stmt
use Rattle.vlog_const.specs.declared.answer.ConstValue.{ConstValue}
use Rattle.vlog_const.specs.Names.{Values}
use Rattle.vlog_const.specs.Worths as worths
use Rattle.vlog_const.specs.Worths.{is_true}
use Rattle.vlog_const.specs.Constants.{value_of, value_within}
use Rattle.design_form.specs.ConstantLaws.{as_number}
use Rattle.proc_loops.specs.declared.progress.Progress.{Progress}
use Rattle.proc_loops.specs.declared.turn.Turn.{Turn}
use Rattle.proc_loops.specs.declared.turn.Turn.TheVariants.{Ended, Full, Cut, Made}
use Rattle.proc_loops.specs.Faults.{Or_fault, ◌>>=◌, constant}
use Rattle.proc_loops.specs.Headers.{integer, running}

-- so many turns are one too many
unfoldable pub most_turns : ℕ
most_turns = 65536

abbrev pub Run : Type 0 → Type 0
Run A = Values → Progress → Or_fault (A × Progress)

-- no turn is made yet
abbrev pub begun : Progress
begun = record { turns = 0; headers = 0; is_cut = false }

-- what is left of a loop: its variable has the value that it ends with
abbrev pub ended : Ident → ConstValue → Stmt
ended variable v = stmt.Assign variable.place (expr.Name variable.place variable.name) Blocking (as_number variable.place v)

-- the variable after a step that gives w
abbrev pub stepped : Loop → ConstValue → ConstValue → ConstValue
stepped h v w = if bytes_eq h.variable.name h.stepped.name then integer w.bits else v

-- whether another turn is one too many
abbrev pub is_full : Progress → Bool
is_full p = nat_le most_turns (p.turns + 1)

-- one more turn, or none any more
abbrev pub one_more : Progress → Progress
one_more p = record p { turns = p.turns + 1 }

abbrev pub cut : Progress → Progress
cut p = record p { is_cut = true }

-- a turn: none where the test is false, or where it would be one too many
unfoldable pub turn : Loop → Values → Run Stmt → ConstValue → Progress → Or_fault Turn
turn h inside body v p = do
  t ← constant (value_of inside h.test)
  if not (is_true t) then Ok Ended else (if is_full p then Ok Full else (do
    r ← body inside (one_more p)
    if r.1.is_cut then Ok (Cut r.0 r.1) else (do
      w ← constant (value_within inside 32 h.step)
      Ok (Made r.0 (stepped h v w) r.1))))

-- the assignment that a loop leaves is none of the text: the 32 that it weighs are taken off its header
abbrev pub closed : Progress → Progress
closed p = record p { headers = p.headers - 32 }

-- what follows a turn that began at the value v, behind the statements done
unfoldable pub after_turn : (ConstValue → List Stmt → Progress → Or_fault (List Stmt × Progress)) → Loop → ConstValue → List Stmt → Progress → Turn → Or_fault (List Stmt × Progress)
after_turn more h v done p Ended = Ok (done ++ ended h.variable v ∷ [], closed p)
after_turn more h v done p Full = Ok (done, cut p)
after_turn more h v done p (Cut s q) = Ok (done ++ s ∷ [], q)
after_turn more h v done p (Made s w q) = more w (done ++ s ∷ []) q

-- the turns of a loop from the value v of its variable on, fewer than n of them, behind the statements done
unfoldable pub turns : ℕ → Loop → (ConstValue → Values) → Run Stmt → ConstValue → List Stmt → Progress → Or_fault (List Stmt × Progress)
turns zero h inside body v done p = Ok (done, cut p)
turns (suc n) h inside body v done p = do
  t ← turn h (inside v) body v p
  after_turn (turns n h inside body) h v done p t

-- how wide a constant expression is, where it has a value
abbrev pub width_if : worths.Or_fault ConstValue → ℕ
width_if (Ok v) = v.width
width_if (Err fault) = 0

-- the widths of a header, its variable having a value
abbrev pub header_width : Values → ConstValue → Loop → ℕ
header_width values v h = v.width + (width_if (value_of values h.test) + width_if (value_within values 32 h.step))

-- as far as 64 bits count
abbrev pub counted : ℕ → Progress → Progress
counted w p = record p { headers = min (p.headers + w) (2 ^ 64 - 1) }

-- a loop is a block of its turns
unfoldable pub unroll_loop : Place → Loop → Stmt → Run Stmt → Run Stmt
unroll_loop place h body run values p = do
  v ← constant (value_within values 32 h.start)
  r ← turns most_turns h (running values h body) run (integer v.bits) [] (counted (header_width (running values h body (integer v.bits)) v h) p)
  Ok (stmt.Block place None r.0, r.1)
