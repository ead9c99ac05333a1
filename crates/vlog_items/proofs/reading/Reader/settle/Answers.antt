-- Without spent macros, the first byte stands within those of the frames.
use Rattle.std.proofs.Common.{arith, length-drop}
use Rattle.vlog_items.proofs.StackLemmas.{settled, names_within}
use Rattle.vlog_items.proofs.reading.Reader.settle.Goals as goal

pub returns-clause-within : goal.returns-clause-within
returns-clause-within c = rw c.clear.ensures.items (settled _ _ _ _ _ _ _ (names_within _ _) c.self.invariant (λ is undone. omega (arith, c.self.inside.top.open is undone, length-drop c.self.inside.top.at c.self.inside.top.bytes.items)))
