-- What is left decides.
use Rattle.std.proofs.Common.{◌≡◌, drop}
use Rattle.elab_names.specs.Meanings.{frames_of}
use Rattle.elab_scopes.specs.Threads.{threaded}
use Rattle.elab_drivers.specs.Targets.{may_drive}
use Rattle.elab_drivers.proofs.targets.+drives.Given as goal

abbrev pub invariant-all_may_drive-loop-member : goal.invariant-all_may_drive-loop-member
invariant-all_may_drive-loop-member l = threaded (λ (u : Unit {0}) x. may_drive (frames_of l.scope) x) tt (drop l.member-index l.members) ≡ threaded (λ (u : Unit {0}) x. may_drive (frames_of l.scope) x) tt l.members
