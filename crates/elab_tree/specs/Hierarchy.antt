-- What goes down the hierarchy: an instance is its module's own part under its parameters and its prefix, and then the
-- instances within it, in the order of the text.
--     State                           the flat design so far, and its size
--     begun w m p, own lib w m p      into a module's body, and the module's own part
--     placed_in lib chain w m s       the same, and the size then, of an instance that stands in those of `chain`
--     grown n lib chain w s           an instance with all below it; `n` levels are left, and it stands in those of `chain`
use Rattle.std.specs.Prelude.{ℕ, zero, suc, ◌==◌, if◌then◌else◌, List, [], ◌∷◌, ◌++◌, length, Option, Some, None, Ok, Err, slice_get}
use Rattle.std.specs.List.{list_any}
use Rattle.vlog_tree.specs.declared.module.Module.{Module}
use Rattle.elab_names.specs.declared.fault.ElabFault.TheVariants.{HierLimit, Recursion}
use Rattle.elab_names.specs.Answers.{Or_fault, ◌>>=◌}
use Rattle.elab_scopes.specs.Openings.{opened}
use Rattle.elab_scopes.specs.Threads.{threaded}
use Rattle.elab_items.specs.Plans.{Pending, Plan, with_around, with_drawn}
use Rattle.elab_items.specs.Scopes.{ended}
use Rattle.elab_items.specs.Instances.{Lib}
use Rattle.elab_items.specs.Items.{items_act}
use Rattle.elab_tree.specs.Sizes.{weighed}

-- the flat design so far, and its size
pub record State : Type 0 where
  pub plan : Plan
  pub size : ℕ

-- into a module's body, which sees no name from outside
unfoldable pub begun : Pending → Module → Plan → Or_fault Plan
begun w m p = do
  o ← opened w.prefix w.given m.parameters m.ports m.items p.draft.drawn
  Ok (with_around (with_drawn p o.drawn) (o.table.at ∷ p.around))

-- a module's own part
unfoldable pub own : Lib → Pending → Module → Plan → Or_fault Plan
own lib w m p = do
  b ← begun w m p
  e ← items_act lib w.prefix b m.items
  Ok (ended e)

-- the instances within it are taken up
abbrev pub taken_up : Plan → Plan
taken_up p = record { draft = p.draft; boxes = p.boxes; pending = []; around = p.around; turns = p.turns }

-- the own part of an instance, and the size then
unfoldable pub own_placed : Lib → Pending → Module → State → Or_fault State
own_placed lib w m s = do
  q ← own lib w m s.plan
  n ← weighed w.place (length s.plan.boxes) (length s.plan.draft.drawn.signals) q s.size
  Ok (record { plan = q; size = n })

-- no module stands within itself
unfoldable pub placed_in : Lib → List ℕ → Pending → Module → State → Or_fault State
placed_in lib chain w m s = if list_any (λ k. k == w.position) chain then Err (Recursion m.name.name w.place) else own_placed lib w m s

-- an instance, and then those within it
unfoldable pub grown_in : (List ℕ → Pending → State → Or_fault State) → Lib → List ℕ → Pending → Module → State → Or_fault State
grown_in inner lib chain w m s = do
  t ← placed_in lib chain w m s
  threaded (λ u x. inner (chain ++ w.position ∷ []) x u) (record { plan = taken_up t.plan; size = t.size }) t.plan.pending

unfoldable pub grown_at : (List ℕ → Pending → State → Or_fault State) → Lib → List ℕ → Pending → Option Module → State → Or_fault State
grown_at inner lib chain w None s = Ok s
grown_at inner lib chain w (Some m) s = grown_in inner lib chain w m s

-- an instance with all below it, of at most n levels
unfoldable pub grown : ℕ → Lib → List ℕ → Pending → State → Or_fault State
grown zero lib chain w s = Err (HierLimit w.place)
grown (suc n) lib chain w s = grown_at (grown n lib) lib chain w (slice_get lib.modules w.position) s
