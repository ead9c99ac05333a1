-- The bytes so far were put out.
use Rattle.std.proofs.Common.{◌≡◌, true, length}
use Rattle.vlog_pre.specs.Levels.{is_taken}
use Rattle.vlog_pre.specs.Known.{state_of}
use Rattle.vlog_pre.specs.Turns.{IsCopied}
use Rattle.vlog_pre.proofs.copying.copy_taken.Given as goal

abbrev pub invariant-bytes : goal.invariant-bytes
invariant-bytes l = record {
  copied : IsCopied (state_of l.initial.known) l.initial.reader.items (state_of l.known) l.reader.items;
  taken : is_taken l.known.levels ≡ true;
}

abbrev pub decreases-bytes : goal.decreases-bytes
decreases-bytes l = length l.reader.items
