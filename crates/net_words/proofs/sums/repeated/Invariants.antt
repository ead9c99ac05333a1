use Rattle.std.proofs.Common.{◌≡◌, replicate}
use Rattle.net_words.proofs.sums.repeated.Given as goal

abbrev pub invariant-loop-i : goal.invariant-loop-i
invariant-loop-i l = l.word.items ≡ replicate l.i l.fn.node
