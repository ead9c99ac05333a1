-- Facts on what an Option holds, and on the sources of a net.
use Rattle.std.proofs.Common.{ℕ, Option, Some, None, IfSome}
use Rattle.std.specs.Option.{option_map}

pub some_numbered : {N : Type 0} (number : N → ℕ) (o : Option N) (P : ℕ → Type 0) → IfSome (option_map number o) P → IfSome o (λ x. P (number x))
some_numbered number None P h = tt
some_numbered number (Some x) P h = h
