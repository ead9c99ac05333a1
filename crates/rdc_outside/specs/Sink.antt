-- What was written to a sink.
use Rattle.std.specs.Prelude.{◌<◌, ◌≤◌, ℕ, ◌++◌, List, [], length, take, Option, Result, Ok, Err, option_map, ⊤}
use Rattle.rdc_outside.specs.declared.faults.SinkFault.{SinkFault}
use Rattle.rdc_outside.specs.declared.writing.WroteUpTo.{WroteUpTo}

-- what was written, where the sink tells it, and these bytes after it
abbrev pub written_with : Option (List ℕ) → List ℕ → Option (List ℕ)
written_with written bytes = option_map (λ told. told ++ bytes) written

-- the first bytes of a piece that one write takes: as many as it answers, and none where it fails
abbrev pub part_taken : Result ℕ SinkFault → List ℕ → List ℕ
part_taken (Ok count) piece = take count piece
part_taken (Err _) piece = []

-- one write takes at most the piece, and something of a piece that isn't empty
abbrev pub IsCountOf : ℕ → List ℕ → Type 0
IsCountOf count piece = (count ≤ length piece) × (0 < length piece → 0 < count)

-- the first bytes that were written: all of them, or up to a count
abbrev pub part_written : Result ⊤ WroteUpTo → List ℕ → List ℕ
part_written (Ok _) bytes = bytes
part_written (Err up_to) bytes = take up_to.count bytes
