-- Opening a scope: its declarations are read, and each name is declared with what it means.
--     as_fault f, taken r               a fault of declarations, and an answer of them
--     all_other frames names            the names, none of which has a value yet
--     opened prefix given ps ports is d       the declarations, and the names and signals with those of the scope
use Rattle.std.specs.Prelude.{ℕ, List, [], ◌∷◌, Result, Ok, Err}
use Rattle.vlog_tree.specs.declared.port.Port.{Port}
use Rattle.vlog_tree.specs.declared.item.Item.{Item}
use Rattle.vlog_tree.specs.declared.module.Parameter.{Parameter}
use Rattle.elab_decls.specs.declared.fault.DeclFault.{DeclFault}
use Rattle.elab_decls.specs.declared.fault.DeclFault.TheVariants as decl
use Rattle.elab_decls.specs.Tables.{Table, declared_in}
use Rattle.elab_names.specs.declared.fault.ElabFault.{ElabFault}
use Rattle.elab_names.specs.declared.fault.ElabFault.TheVariants.{Memory, NoPort, TwiceDeclared}
use Rattle.elab_names.specs.declared.meaning.Meaning.TheVariants.{Other}
use Rattle.elab_names.specs.Answers.{Or_fault, ◌>>=◌}
use Rattle.elab_names.specs.Meanings.{Frames, no_names, declaring}
use Rattle.elab_scopes.specs.Parameters.{Given, parameters}
use Rattle.elab_scopes.specs.Signals.{Drawn, signals}

unfoldable pub as_fault : DeclFault → ElabFault
as_fault decl.Memory = Memory
as_fault (decl.NoPort name place) = NoPort name place
as_fault (decl.TwiceDeclared name place) = TwiceDeclared name place

unfoldable pub taken : {A : Type 0} → Result A DeclFault → Or_fault A
taken (Ok a) = Ok a
taken (Err fault) = Err (as_fault fault)

-- names that are declared and have no value yet
unfoldable pub all_other : Frames → List (List ℕ) → Frames
all_other frames [] = frames
all_other frames (n ∷ ns) = all_other (declaring frames n Other) ns

-- a scope that was opened
pub record Opened : Type 0 where
  pub table : Table
  pub drawn : Drawn

-- its declarations, and the names and signals with its own
unfoldable pub opened : List ℕ → Given → List Parameter → List Port → List Item → Drawn → Or_fault Opened
opened prefix given ps ports items d = do
  t ← taken (declared_in ps ports items)
  f ← parameters given (all_other (no_names ∷ d.frames) t.names) ps items
  e ← signals prefix t.at (record { frames = f; signals = d.signals }) ports items
  Ok (record { table = t; drawn = e })
