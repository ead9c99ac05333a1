-- The netlist of a module, what is declared and assigned in name order.
use Rattle.std.specs.Prelude.{◌≡◌, ℕ, Bool, List, map, Some}
use Rattle.std.specs.List.{AllByRecursion}
use Rattle.thin_tree.specs.declared.tree.Class.TheVariants.{Net, Register}
use Rattle.thin_tree.specs.Tree.{Declared, Assignment, Process}
use Rattle.thin_form.specs.Rules.{targets, cleared}
use Rattle.thin_form.specs.Order.{of_class}
use Rattle.thin_form.specs.Numbers.{flop_of, rules_of, IsControlled}
use Rattle.thin_form.specs.Resolved.{lists_of}
use Rattle.thin_form.specs.Walk.{IsOrder}
use Rattle.thin_form.specs.Values.{wires_in, AreMade}
use Rattle.thin_form.specs.Assembled.{bits_of, entries_of}
use Rattle.thin_form.specs.Netlist.{Netlist}
use Rattle.thin_form.specs.declared.term.Term.{Term}

-- sources and bits are what is declared, with the flops of the processes and the nodes of the expressions
pub record IsNetOf (ds : List Declared) (ps : List Process) (assigns : List Assignment) (net : Netlist) : Type 0 where
  pub marks : List Bool
  pub rules : List (List Term)
  pub «data» : List (List Term)
  pub order : List ℕ
  pub wires : List ℕ
  pub values : List ℕ
  pub nets : targets assigns ≡ of_class Net ds
  pub registers : cleared ps ≡ of_class Register ds
  pub controlled : AllByRecursion (IsControlled (lists_of ds marks)) ps
  pub rules_are : rules_of (lists_of ds marks) (map (λ a. a.value) assigns) ≡ Some rules
  pub data_are : rules_of (lists_of ds marks) (map (λ p. p.data) ps) ≡ Some «data»
  pub ordered : IsOrder (map wires_in rules) order
  pub wires_made : AreMade net.nodes wires rules wires
  pub values_made : AreMade net.nodes wires «data» values
  pub sources_are : net.sources ≡ entries_of (map (flop_of (lists_of ds marks)) ps) values ds
  pub bits_are : net.bits ≡ bits_of wires ds
