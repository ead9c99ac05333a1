use Rattle.std.proofs.Common.{◌≤◌, ◌<◌, length, drop}
use Rattle.net_words.specs.Words.{reduced_from}
use Rattle.net_words.proofs.BuildLemmas.{IsLeft}
use Rattle.net_words.proofs.reductions.reduce_from.Given as goal

abbrev pub invariant-loop-i : goal.invariant-loop-i
invariant-loop-i l = record {
  left : IsLeft (reduced_from l.op l.fn.found l.word) l.fn.net l.net (reduced_from l.op l.found (drop l.i l.word));
  there : l.found < length l.net;
  longer : length l.fn.net ≤ length l.net;
}
