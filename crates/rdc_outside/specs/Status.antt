-- The exit statuses of the program.
use Rattle.std.specs.Prelude.{ℕ}
use Rattle.rdc_outside.specs.declared.outcome.Status.{Status}
use Rattle.rdc_outside.specs.declared.outcome.Status.TheVariants.{Clean, Hazard, Usage, Waived, Source, Constraints, Absent, Read, Write, Spent, Memory, Certificate, Idle, Abstract, Replay, NotYet}

-- the number of a status
abbrev pub number_of : Status → ℕ
number_of Clean = 0
number_of Hazard = 1
number_of Usage = 2
number_of Waived = 3
number_of Source = 4
number_of Constraints = 5
number_of Absent = 6
number_of Read = 7
number_of Write = 8
number_of Spent = 9
number_of Memory = 10
number_of Certificate = 11
number_of Idle = 12
number_of Abstract = 13
number_of Replay = 14
number_of NotYet = 15
