-- What is true of every design that a text spells: its names ascend, and its numbers are sources of its own.
use Rattle.std.specs.Prelude.{◌≡◌, ℕ, ◌<◌, length}
use Rattle.std.specs.List.{AllByRecursion}
use Rattle.thin_form.specs.Formula.{sources_in}
use Rattle.thin_form.specs.Design.{Flop, Input, Register, Design, IsAscending, names, kind_at}

-- the flop's clock and pin are input ports, and what it reads are sources
pub record IsFlopOf (design : Design) (f : Flop) : Type 0 where
  pub clock_is_input : kind_at design f.clock ≡ Input
  pub pin : f.pin < length design.sources
  pub pin_is_input : kind_at design f.pin ≡ Input
  pub next : AllByRecursion (λ n. n < length design.sources) (sources_in f.next)

-- the names ascend, and each flop's numbers are sources of the design
pub record IsClosed (design : Design) : Type 0 where
  pub ascending : IsAscending (names design)
  pub flops : (n : ℕ) (f : Flop) → kind_at design n ≡ Register f → IsFlopOf design f
