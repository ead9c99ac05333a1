-- A module by number, what is declared and assigned in name order.
--     lists_of ds marks                   the names of its inputs, sources and wires, and which sources are clocks
--     AreNumbers l ps assigns found       its processes and expressions by number, and an order of its wires
--     IsRefused l ps assigns              why there are none
use Rattle.std.specs.Prelude.{◌≡◌, ℕ, Bool, List, map, Some, None}
use Rattle.std.specs.List.{AllByRecursion}
use Rattle.thin_tree.specs.declared.tree.Class.TheVariants.{Input, Net, Register}
use Rattle.thin_tree.specs.Tree.{Declared, Assignment, Process}
use Rattle.thin_form.specs.Rules.{targets, cleared}
use Rattle.thin_form.specs.Order.{of_class, no_wires}
use Rattle.thin_form.specs.Numbers.{Lists, flop_of, rules_of, IsControlled}
use Rattle.thin_form.specs.Walk.{IsOrder, IsCircle}
use Rattle.thin_form.specs.Values.{wires_in, rules_at}
use Rattle.thin_form.specs.declared.term.Term.{Term}
use Rattle.thin_form.specs.declared.resolver.Resolved.{Resolved}

-- the names of inputs, sources and wires, with a mark at each source that is a clock
abbrev pub lists_of : List Declared → List Bool → Lists
lists_of ds marks = record { inputs = of_class Input ds; sources = no_wires ds; wires = of_class Net ds; clocks = marks }

-- processes and expressions by number, and an order of the wires
pub record AreNumbers (l : Lists) (ps : List Process) (assigns : List Assignment) (found : Resolved) : Type 0 where
  pub flops : found.flops.items ≡ map (flop_of l) ps
  pub wires : rules_of l (map (λ a. a.value) assigns) ≡ Some (rules_at found.wires.items)
  pub «data» : rules_of l (map (λ p. p.data) ps) ≡ Some (rules_at found.data.items)
  pub order : IsOrder (map wires_in (rules_at found.wires.items)) found.order.items

-- the same with some marks, where what is assigned is what is declared
pub record IsResolved (ds : List Declared) (ps : List Process) (assigns : List Assignment) (found : Resolved) : Type 0 where
  pub marks : List Bool
  pub nets : targets assigns ≡ of_class Net ds
  pub registers : cleared ps ≡ of_class Register ds
  pub controlled : AllByRecursion (IsControlled (lists_of ds marks)) ps
  pub numbers : AreNumbers (lists_of ds marks) ps assigns found

-- a process that breaks a rule of its own, a name that can't be read, or wires that go in a circle
pub data IsRefused (l : Lists) (ps : List Process) (assigns : List Assignment) : Type 0 where
  by_process : (AllByRecursion (IsControlled l) ps → ⊥) → IsRefused l ps assigns
  by_value : rules_of l (map (λ a. a.value) assigns) ≡ None → IsRefused l ps assigns
  by_register : rules_of l (map (λ p. p.data) ps) ≡ None → IsRefused l ps assigns
  by_circle : (rs : List (List Term)) (ws : List ℕ) → rules_of l (map (λ a. a.value) assigns) ≡ Some rs → IsCircle (map wires_in rs) ws → IsRefused l ps assigns
