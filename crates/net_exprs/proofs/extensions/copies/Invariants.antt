use Rattle.std.proofs.Common.{◌≡◌, ◌-◌, ◌++◌}
use Rattle.net_exprs.specs.Extensions.{copies}
use Rattle.net_exprs.proofs.extensions.copies.Given as goal

abbrev pub invariant-loop-done : goal.invariant-loop-done
invariant-loop-done l = l.all.items ++ copies (l.count - l.done) l.word ≡ copies l.count l.word
