-- What is declared and assigned, in name order.
--     IsOrderOf es ds                     the same declarations, in name order
--     of_class class ds, no_wires ds      the names of a class, and of all but the wires
--     all_assigns, all_processes          assignments and processes, without where they lie in memory
use Rattle.std.specs.Prelude.{ℕ, List, map, not, filter}
use Rattle.std.specs.List.Sorted.{IsPermutation}
use Rattle.thin_tree.specs.declared.tree.Class.{Class}
use Rattle.thin_tree.specs.declared.tree.Class.TheVariants.{Net}
use Rattle.thin_form.specs.declared.assigned.Assigned.{Assigned}
use Rattle.thin_form.specs.declared.assigned.Clocked.{Clocked}
use Rattle.thin_tree.specs.Tree as tree
use Rattle.thin_tree.specs.Written.{an_assignment, a_process}
use Rattle.thin_form.specs.Rules.{names_of, class_eq}
use Rattle.thin_form.specs.Design.{IsAscending}

-- ds is what es declares, in name order
pub record IsOrderOf (es ds : List tree.Declared) : Type 0 where
  pub same : IsPermutation es ds
  pub ascending : IsAscending (names_of ds)

-- the names that are declared as one of a class
abbrev pub of_class : Class → List tree.Declared → List (List ℕ)
of_class class ds = names_of (filter (λ d. class_eq class d.class) ds)

-- the names that are declared as no wire
abbrev pub no_wires : List tree.Declared → List (List ℕ)
no_wires ds = names_of (filter (λ d. not (class_eq Net d.class)) ds)

-- assignments, without where they lie in memory
abbrev pub all_assigns : List Assigned → List tree.Assignment
all_assigns assigns = map (λ a. an_assignment a.of.now) assigns

-- processes, without where they lie in memory
abbrev pub all_processes : List Clocked → List tree.Process
all_processes ps = map (λ p. a_process p.of.now) ps
