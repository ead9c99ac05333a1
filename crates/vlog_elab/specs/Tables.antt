-- What the program keeps.
--     tally_of t       the weight and the touches so far
use Rattle.vlog_elab.specs.declared.tally.Tally as kept
use Rattle.vlog_elab.specs.Tallies.{Tally}

abbrev pub tally_of : kept.Tally → Tally
tally_of t = record { weight = t.weight; drives = t.drives.items; reads = t.reads.items }
