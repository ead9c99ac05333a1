-- What standard output counts.
use Rattle.std.specs.Prelude.{ℕ, Result, Ok, Err}
use Rattle.rdc_outside.specs.Counts.{counted}
use Rattle.rdc_outside.specs.declared.faults.SinkFault.{SinkFault}
use Rattle.rdc_outside.specs.declared.standard_output.OutSink.{OutSink}

-- the count after a write
abbrev pub out_after : {R : Type 0} → OutSink R → Result ℕ SinkFault → OutSink R
out_after sink (Ok _) = sink
out_after sink (Err _) = record sink { faults = counted sink.faults }
