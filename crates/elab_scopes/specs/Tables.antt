-- What the program keeps, and what its calls answer.
--     given_of g, with_given g name e      what is given by name
--     drawn_of d                           the names and signals so far
--     Changes result new r                 a call that changes something: a definition says what it is then, or the fault
--     Opens result new r                   a call that opens a scope
use Rattle.std.specs.Prelude.{◌≡◌, ℕ, if◌then◌else◌, List, Some, Result, Ok, Err}
use Rattle.std.specs.Str.{bytes_eq}
use Rattle.std.specs.HashMap as hash
use Rattle.vlog_tree.specs.declared.expr.Expr.{Expr}
use Rattle.elab_decls.specs.declared.table.Entries.{Entries}
use Rattle.elab_decls.specs.Tables.{table_of}
use Rattle.elab_names.specs.declared.fault.ElabFault.{ElabFault}
use Rattle.elab_names.specs.Answers.{Or_fault}
use Rattle.elab_names.specs.Meanings.{frames_of}
use Rattle.elab_scopes.specs.declared.given.Given as table
use Rattle.elab_scopes.specs.declared.drawing.Drawing.{Drawing}
use Rattle.elab_scopes.specs.Threads.{Stops}
use Rattle.elab_scopes.specs.Parameters.{Given}
use Rattle.elab_scopes.specs.Signals.{Drawn}
use Rattle.elab_scopes.specs.Openings.{Opened}

-- what is given by name
abbrev pub given_of : table.Given → Given
given_of g = λ name. hash.get_by (λ key. bytes_eq name key.items) g.table

abbrev pub with_given : Given → List ℕ → Expr → Given
with_given g name e = λ other. if bytes_eq name other then Some e else g other

-- the names and signals so far
abbrev pub drawn_of : Drawing → Drawn
drawn_of d = record { frames = frames_of d.scope; signals = d.signals.items }

-- a call that changes something
abbrev pub Changes : {S : Type 0} → Result (Unit {0}) ElabFault → S → Or_fault S → Type 0
Changes (Ok done) s r = r ≡ Ok s
Changes (Err fault) s r = Stops fault r

-- a call that opens a scope
abbrev pub Opens : Result Entries ElabFault → Drawn → Or_fault Opened → Type 0
Opens (Ok entries) d r = r ≡ Ok (record { table = table_of entries; drawn = d })
Opens (Err fault) d r = Stops fault r
