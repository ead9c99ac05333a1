-- What the program keeps of indices, and of signals.
--     reach_of x            what it keeps, as indices
--     short x               indices as far as 128 bits count
--     row_seen x            a signal's range, and the numbers of its bits
use Rattle.std.specs.Prelude.{◌-◌, ◌^◌, min}
use Rattle.elab_weight.specs.declared.reaches.Covered.{Covered}
use Rattle.elab_weight.specs.declared.targets.Seen.{Seen}
use Rattle.elab_weight.specs.Reaches.{Reach}
use Rattle.elab_weight.specs.TargetBits.{Row}

abbrev pub reach_of : Covered → Reach
reach_of x = record { low = x.low; high = x.high }

abbrev pub short : Reach → Reach
short x = record { low = min x.low (2 ^ 128 - 1); high = min x.high (2 ^ 128 - 1) }

abbrev pub row_seen : Seen → Row
row_seen x = record { range = x.bounds; numbers = x.numbers.now }
