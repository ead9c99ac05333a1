-- Faults of bodies without loops.
use Rattle.std.proofs.Common.{◌≡◌, ◌⊎◌, Result, Err, inl, inr, sym, ap, ◌∙◌, ⊎_elim}
use Rattle.rdc_outside.specs.declared.source.Place.{Place}
use Rattle.proc_loops.specs.declared.fault.LoopFault.{LoopFault}
use Rattle.proc_loops.specs.declared.fault.LoopFault.TheVariants as loop
use Rattle.proc_loops.specs.declared.turn.Unrolled.{Unrolled}
use Rattle.vlog_proc.specs.declared.fault.ProcFault.{ProcFault}
use Rattle.vlog_proc.specs.declared.fault.ProcFault.TheVariants.{Memory}
use Rattle.vlog_proc.specs.Faults.{fault_of}
use Rattle.vlog_proc.specs.Processes.{finished}

pub stopped : (place : Place) (r : Result Unrolled LoopFault) (cause : LoopFault) (fault : ProcFault) → fault ≡ fault_of cause → (cause ≡ loop.Memory) ⊎ (r ≡ Err cause) → (fault ≡ Memory) ⊎ (finished place r ≡ Err fault)
unfolding fault_of finished
stopped place r cause fault is answer = ⊎_elim
    (λ lack. inl (is ∙ ap fault_of lack))
    (λ bad. inr (ap (finished place) bad ∙ ap Err (sym is)))
    answer
