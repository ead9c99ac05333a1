-- The code's trees, without where their names lie in memory.
--     texts                                     names
--     a_declared, all_declared                  what is declared
--     an_assignment, a_process, a_module        the tree
--     a_copy, all_copies                        copies
use Rattle.std.specs.Prelude.{ℕ, List, map}
use Rattle.std.specs.Borrow.{Bor}
use Rattle.thin_tree.specs.Tree as tree
use Rattle.thin_tree.specs.Copies as copies
use Rattle.thin_tree.specs.Postfix.{expression_of}
use Rattle.thin_tree.specs.declared.tree.Declared.{Declared}
use Rattle.thin_tree.specs.declared.tree.Assign.{Assign}
use Rattle.thin_tree.specs.declared.tree.Process.{Process}
use Rattle.thin_tree.specs.declared.tree.Module.{Module}
use Rattle.thin_tree.specs.declared.roots.Link.{Link}

-- names by their bytes
abbrev pub texts : List (Bor (List ℕ)) → List (List ℕ)
texts ts = map (λ t. t.now) ts

-- what is declared, by its bytes
abbrev pub a_declared : Declared → tree.Declared
a_declared d = record { class = d.class; name = d.name.now }

-- all that is declared
abbrev pub all_declared : List Declared → List tree.Declared
all_declared ds = map a_declared ds

-- an assignment
abbrev pub an_assignment : Assign → tree.Assignment
an_assignment a = record { target = a.target.now; value = expression_of a.value }

-- a process
abbrev pub a_process : Process → tree.Process
a_process p = record {
  clock = p.clock.now;
  falling = p.falling;
  event = p.event.now;
  negated = p.negated;
  tested = p.tested.now;
  cleared = p.cleared.now;
  value = p.value;
  loaded = p.loaded.now;
  «data» = expression_of p.data;
}

-- the whole
abbrev pub a_module : Module → tree.Module
a_module m = record { declared = all_declared m.declared.items; assignments = map an_assignment m.assigns.items; processes = map a_process m.processes.items }

-- a copy
abbrev pub a_copy : Link → copies.Copy
a_copy c = record { target = c.target.now; source = c.source.now }

-- all copies
abbrev pub all_copies : List Link → List copies.Copy
all_copies cs = map a_copy cs
