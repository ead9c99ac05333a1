-- A sink in memory: what it holds, and what each write does.
--   SinkState, new_sink                          what it holds
--   write_fails, count_taken, write_answer       what the next write answers
--   sink_after_fault, sink_after_taking, sink_after      the sink after it
use Rattle.std.specs.Prelude.{◌==◌, ◌&&◌, ◌||◌, ℕ, ◌-◌, ◌++◌, Bool, List, [], length, take, min, nat_lt, Result, Ok, Err, if◌then◌else◌}
use Rattle.std.specs.List.{list_any}
use Rattle.rdc_outside.specs.Counts.{counted}
use Rattle.rdc_outside.specs.declared.faults.SinkFault.{SinkFault}
use Rattle.rdc_outside.specs.declared.faults.SinkFault.TheVariants.{Failed}

-- a sink in memory
pub record SinkState : Type 0 where
  -- what was written
  pub bytes : List ℕ
  -- the numbers, from 1 on, of the writes that are to fail
  pub failing : List ℕ
  -- how many bytes one write takes at most
  pub most : ℕ
  -- how many bytes there is room for
  pub room : ℕ
  -- how many writes there were
  pub writes : ℕ
  -- how many of them failed
  pub faults : ℕ

-- the next write fails: it is to fail, or there is something to write and no room
abbrev pub write_fails : SinkState → List ℕ → Bool
write_fails sink piece = list_any (λ n. n == counted sink.writes) sink.failing || (sink.room == 0 && nat_lt 0 (length piece))

-- how many bytes the next write takes where it doesn't fail
abbrev pub count_taken : SinkState → List ℕ → ℕ
count_taken sink piece = min (length piece) (min sink.most sink.room)

-- what the next write answers
abbrev pub write_answer : SinkState → List ℕ → Result ℕ SinkFault
write_answer sink piece = if write_fails sink piece then Err Failed else Ok (count_taken sink piece)

-- the sink after a write that fails
abbrev pub sink_after_fault : SinkState → SinkState
sink_after_fault sink = record sink { writes = counted sink.writes; faults = counted sink.faults }

-- the sink after a write that takes so many bytes of the piece
abbrev pub sink_after_taking : SinkState → List ℕ → ℕ → SinkState
sink_after_taking sink piece count =
    record sink { bytes = sink.bytes ++ take count piece; room = sink.room - count; writes = counted sink.writes }

-- the sink after the next write
abbrev pub sink_after : SinkState → List ℕ → SinkState
sink_after sink piece = if write_fails sink piece then sink_after_fault sink else sink_after_taking sink piece (count_taken sink piece)

-- a sink to which nothing was written yet
abbrev pub new_sink : List ℕ → ℕ → ℕ → SinkState
new_sink failing most room = record { bytes = []; failing = failing; most = most; room = room; writes = 0; faults = 0 }
