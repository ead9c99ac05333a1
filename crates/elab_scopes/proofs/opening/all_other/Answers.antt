use Rattle.std.proofs.Common.{ℕ, List, ap, ◌∙◌, arith}
use Rattle.elab_names.specs.Meanings.{frames_of, declaring}
use Rattle.elab_names.specs.declared.meaning.Meaning.TheVariants.{Other}
use Rattle.elab_scopes.proofs.ThreadLemmas.{one_named, all_named}
use Rattle.elab_scopes.proofs.opening.all_other.Goals as goal

pub loop-name-preserved : goal.loop-name-preserved
loop-name-preserved c = one_named (frames_of c.loop-name.scope) (frames_of c.declare.new.self) (frames_of c.args.scope.now) c.args.names.now c.loop-name.name-index c.name-item.result (omega arith) c.name-item.is c.loop-name.invariant (c.in_ok-declare.ensures.ok ∙ ap (λ (n : List ℕ). declaring (frames_of c.loop-name.scope) n Other) c.as_slice.ensures)

pub returns : goal.returns
returns c = all_named (frames_of c.loop-name.scope) (frames_of c.args.scope.now) c.args.names.now c.loop-name.name-index (omega arith) c.loop-name.invariant
