-- What is left decides what all answer.
use Rattle.std.proofs.Common.{◌≡◌, drop}
use Rattle.elab_sound.specs.Sound.{all_checked, process_checked}
use Rattle.elab_sound.proofs.designs.processes.Given as goal

abbrev pub invariant-loop-one : goal.invariant-loop-one
invariant-loop-one l = all_checked (process_checked l.design) (drop l.one-index l.processes) ≡ all_checked (process_checked l.design) l.processes
