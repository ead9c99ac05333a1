-- What the program keeps of a plan.
--     lib_of l                     the modules and boxes that a name may mean
--     pending_of x, plan_of p      an instance that is still to be elaborated, and all
use Rattle.std.specs.Prelude.{◌≡◌, List, map, reverse, Option, Result, Ok, Err}
use Rattle.elab_decls.specs.declared.table.Entries.{Entries}
use Rattle.elab_decls.specs.Tables.{table_of}
use Rattle.elab_scopes.specs.Signals as signals
use Rattle.elab_scopes.specs.Tables.{given_of}
use Rattle.elab_drivers.specs.Drafts.{draft_of}
use Rattle.elab_items.specs.declared.plan.Pending as kept
use Rattle.elab_items.specs.declared.plan.Plan as plan
use Rattle.elab_binds.specs.declared.library.Library as library
use Rattle.vlog_const.specs.declared.answer.ConstValue.{ConstValue}
use Rattle.elab_names.specs.declared.fault.ElabFault.{ElabFault}
use Rattle.elab_names.specs.Answers.{Or_fault}
use Rattle.elab_scopes.specs.Threads.{Stops}
use Rattle.elab_items.specs.Items.{Turn}
use Rattle.elab_items.specs.Instances.{Lib}
use Rattle.elab_items.specs.Plans.{Pending, Plan}

-- the modules and boxes that a name may mean
abbrev pub lib_of : library.Library → Lib
lib_of l = record { modules = l.modules.now; boxes = l.boxes.now }

abbrev pub pending_of : kept.Pending → Pending
pending_of x = record { position = x.position; prefix = x.prefix; given = given_of x.given; place = x.place }

abbrev pub entries_of : Entries → signals.Entries
entries_of t = (table_of t).at

-- the innermost scope is the last that is kept
abbrev pub around_of : List Entries → List signals.Entries
around_of all = map entries_of (reverse all)

abbrev pub plan_of : plan.Plan → Plan
plan_of p = record { draft = draft_of p.draft; boxes = p.boxes.items; pending = map pending_of p.pending.items; around = around_of p.around.items; turns = p.turns }

-- a call that tests and turns
abbrev pub Turns : Result (Option ConstValue) ElabFault → Plan → Or_fault Turn → Type 0
Turns (Ok next) p r = r ≡ Ok (record { next = next; plan = p })
Turns (Err fault) p r = Stops fault r
