-- The domain of a reset in a net.
use Rattle.std.specs.Prelude.{ℕ}
use Rattle.cons_bind.specs.Names.{Net}
use Rattle.reset_trees.specs.Reads.{PinReads}

-- the least set of flops that holds each flop whose pin reads the reset, and each flop whose pin reads a member
pub data InDomain (net : Net) (r : ℕ) : ℕ → Type 0 where
  reads : (f : ℕ) → PinReads net f r → InDomain net r f
  follows : (f g : ℕ) → PinReads net f g → InDomain net r g → InDomain net r f
