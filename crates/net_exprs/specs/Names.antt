-- What the names of a design stand for, where each of its bits has a node by its number.
--   node_at nodes n        the node of a bit
--   wired_in d nodes       what each name stands for
--   HasNodes d nodes       there is a node for each bit
use Rattle.std.specs.Prelude.{◌≡◌, ℕ, false, List, [], length, map, Option, Some, None, slice_index_or}
use Rattle.design_form.specs.declared.signal.Signal.{Signal}
use Rattle.design_form.specs.declared.parts.Parts.{Parts}
use Rattle.design_form.specs.Signals.{bounds_of}
use Rattle.design_form.specs.Numbers.{bits_of, numbers_of, signal_of}
use Rattle.net_exprs.specs.Wired.{Wired}

-- the node of a bit
abbrev pub node_at : List ℕ → ℕ → ℕ
node_at nodes n = slice_index_or nodes n 0

-- what a signal stands for; a name that is not declared has no nodes
unfoldable pub wired_as : List Signal → List ℕ → Option Signal → Wired
wired_as ss nodes None = record { range = record { msb = 0; lsb = 0 }; signed = false; nodes = [] }
wired_as ss nodes (Some s) = record { range = bounds_of s; signed = s.signed; nodes = map (node_at nodes) (numbers_of ss s) }

-- what each name stands for
unfoldable pub wired_in : Parts → List ℕ → List ℕ → Wired
wired_in d nodes name = wired_as d.signals nodes (signal_of d.signals name)

-- there is a node for each bit
abbrev pub HasNodes : Parts → List ℕ → Type 0
HasNodes d nodes = length nodes ≡ length (bits_of d.signals)
