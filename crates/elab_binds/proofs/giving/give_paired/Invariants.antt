-- What is left decides.
use Rattle.std.proofs.Common.{◌≡◌, drop}
use Rattle.elab_names.specs.Meanings.{frames_of}
use Rattle.elab_scopes.specs.Tables.{given_of}
use Rattle.elab_binds.specs.Connections.{paired}
use Rattle.elab_binds.specs.Passed.{always, giving, same}
use Rattle.elab_binds.proofs.giving.give_paired.Given as goal

abbrev pub invariant-loop-k : goal.invariant-loop-k
invariant-loop-k l = paired (λ g name value. giving (frames_of l.scope) g (same name) (always name) value) (given_of l.given) (drop l.k l.names) (drop l.k l.values) ≡ paired (λ g name value. giving (frames_of l.scope) g (same name) (always name) value) (given_of l.fn.given) l.names l.values
