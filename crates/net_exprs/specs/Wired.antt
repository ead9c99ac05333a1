-- What a name stands for in a net.
--   Wired              its range, its sign and its nodes, least significant bit first
--   seen_of v w        the same, with values in the place of the nodes
use Rattle.std.specs.Prelude.{ℕ, Bool, List, map}
use Rattle.rdc_tern.specs.declared.value.Tern.{Tern}
use Rattle.design_form.specs.declared.signal.Bounds.{Bounds}
use Rattle.design_form.specs.Selects.{Seen}

-- what a name stands for
pub record Wired : Type 0 where
  pub range : Bounds
  pub signed : Bool
  pub nodes : List ℕ

-- the same, with values in the place of the nodes
abbrev pub seen_of : (ℕ → Tern) → Wired → Seen
seen_of v w = record { range = w.range; signed = w.signed; word = map v w.nodes }
