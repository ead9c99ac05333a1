-- Causes and faults.
use Rattle.std.specs.Prelude.{ℕ}
use Rattle.cons_bind.specs.declared.cause.Cause.{Cause}
use Rattle.cons_bind.specs.declared.cause.Cause.TheVariants as causes
use Rattle.cons_bind.specs.declared.fault.BindFault.{BindFault}
use Rattle.cons_bind.specs.declared.fault.BindFault.TheVariants as faults

-- the fault of a line
abbrev pub fault_at : Cause → ℕ → BindFault
fault_at causes.Memory n = faults.Memory
fault_at causes.NoName n = faults.NoName n
fault_at causes.NotOneBit n = faults.NotOneBit n
fault_at causes.NotAnInput n = faults.NotAnInput n
fault_at causes.NotAFlop n = faults.NotAFlop n
fault_at causes.NotAReset n = faults.NotAReset n
fault_at causes.NotAClock n = faults.NotAClock n
fault_at causes.ClockRead n = faults.ClockRead n
fault_at causes.Twice n = faults.Twice n
fault_at causes.TrackLimit n = faults.TrackLimit n

-- want of memory is free, any other cause has its condition
abbrev pub OnCause : (Cause → Type 0) → Cause → Type 0
OnCause P causes.Memory = Unit {0}
OnCause P cause = P cause
