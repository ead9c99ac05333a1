-- The cones of the pins as steps of a graph.
use Rattle.std.specs.Prelude.{◌≡◌, ℕ, List, Contains}
use Rattle.reset_trees.specs.declared.trees.PinCone.{PinCone}

-- the pin of flop f is listed, and reads source s
abbrev pub IsPinStep : List PinCone → ℕ → ℕ → Type 0
IsPinStep pins s f = (pin : PinCone) × Contains pins pin × (pin.flop ≡ f) × Contains pin.sources s
