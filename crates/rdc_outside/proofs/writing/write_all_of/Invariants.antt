-- The bytes up to the count have been written.
use Rattle.std.proofs.Common.{length, take, ◌-◌, ◌≡◌, ◌≤◌}
use Rattle.rdc_outside.specs.Sink.{written_with}
use Rattle.rdc_outside.proofs.writing.write_all_of.Given as goal

abbrev pub invariant-loop-count : goal.invariant-loop-count
invariant-loop-count g l =
    (l.count ≤ length l.bytes)
    × (g.K.Sink.written l.sink ≡ written_with (g.K.Sink.written l.initial.sink) (take l.count l.bytes))
    × (g.K.Sink.faults l.initial.sink ≤ g.K.Sink.faults l.sink)

abbrev pub decreases-loop-count : goal.decreases-loop-count
decreases-loop-count g l = length l.bytes - l.count
