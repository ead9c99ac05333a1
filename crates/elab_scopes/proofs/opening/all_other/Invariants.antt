-- What is left decides.
use Rattle.std.proofs.Common.{◌≡◌, drop}
use Rattle.elab_names.specs.Meanings.{frames_of}
use Rattle.elab_scopes.specs.Openings.{all_other}
use Rattle.elab_scopes.proofs.opening.all_other.Given as goal

abbrev pub invariant-loop-name : goal.invariant-loop-name
invariant-loop-name l = all_other (frames_of l.scope) (drop l.name-index l.names) ≡ all_other (frames_of l.fn.scope) l.names
