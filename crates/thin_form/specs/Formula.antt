-- What an expression computes from the sources of a design, its wires put in.
--     Formula          a formula over source numbers
--     sources_in f     the sources that it reads, from left to right: its cone, as a list
use Rattle.std.specs.Prelude.{ℕ, List, [], ◌∷◌, ◌++◌}

-- a source by number, or a gate over one or two formulas
pub data Formula : Type 0 where
  Source : ℕ → Formula
  Not : Formula → Formula
  And : Formula → Formula → Formula
  Or : Formula → Formula → Formula

-- the sources that a formula reads
abbrev pub sources_in : Formula → List ℕ
sources_in (Source n) = n ∷ []
sources_in (Not a) = sources_in a
sources_in (And a b) = sources_in a ++ sources_in b
sources_in (Or a b) = sources_in a ++ sources_in b
