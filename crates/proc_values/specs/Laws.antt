-- What holds of every body, and isn't proved yet.
--     RaisesBodies          a state that tells less gives bits that tell no more
use Rattle.std.specs.Prelude.{ℕ, List}
use Rattle.vlog_tree.specs.declared.stmt.Stmt.{Stmt}
use Rattle.rdc_tern.specs.declared.value.Tern.{Tern}
use Rattle.rdc_tern.specs.Numbers.{AreBelow}
use Rattle.design_form.specs.declared.parts.Parts.{Parts}
use Rattle.proc_values.specs.Bodies.{worth}

-- a state that tells less gives bits that tell no more
abbrev pub RaisesBodies : Type 0
RaisesBodies = (d : Parts) (reads bits : List ℕ) (s : Stmt) (a b : List Tern) → AreBelow a b → AreBelow (worth d reads bits s a) (worth d reads bits s b)
