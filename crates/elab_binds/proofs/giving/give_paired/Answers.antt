use Rattle.std.proofs.Common.{arith}
use Rattle.elab_names.specs.Meanings.{frames_of}
use Rattle.elab_scopes.specs.Tables.{given_of}
use Rattle.elab_binds.specs.Connections.{paired}
use Rattle.elab_binds.specs.Passed.{always, giving, same}
use Rattle.elab_binds.proofs.PairLemmas.{one_pair, pair_stops, all_pairs}
use Rattle.elab_binds.proofs.giving.give_paired.Goals as goal

pub loop-k-preserved : goal.loop-k-preserved
loop-k-preserved c =
    one_pair (λ g name value. giving (frames_of c.args.scope.now) g (same name) (always name) value) (given_of c.loop-k.given) (given_of c.give_to.new.given) (paired (λ g name value. giving (frames_of c.args.scope.now) g (same name) (always name) value) (given_of c.args.given.now) c.args.names.now c.args.values.now) c.args.names.now c.args.values.now c.loop-k.k c.index-names-k.result c.index-values-k.result (omega arith) (omega arith) c.index-names-k.is c.index-values-k.is c.loop-k.invariant c.in-Ok.ensures

pub returns-in-Err : goal.returns-in-Err
returns-in-Err c =
    pair_stops (λ g name value. giving (frames_of c.args.scope.now) g (same name) (always name) value) (given_of c.loop-k.given) (paired (λ g name value. giving (frames_of c.args.scope.now) g (same name) (always name) value) (given_of c.args.given.now) c.args.names.now c.args.values.now) c.in-Err.fault c.args.names.now c.args.values.now c.loop-k.k c.index-names-k.result c.index-values-k.result (omega arith) (omega arith) c.index-names-k.is c.index-values-k.is c.loop-k.invariant c.in-Err.ensures

pub returns : goal.returns
returns c = all_pairs (λ g name value. giving (frames_of c.args.scope.now) g (same name) (always name) value) (given_of c.loop-k.given) (paired (λ g name value. giving (frames_of c.args.scope.now) g (same name) (always name) value) (given_of c.args.given.now) c.args.names.now c.args.values.now) c.args.names.now c.args.values.now c.loop-k.k (omega arith) c.loop-k.invariant
