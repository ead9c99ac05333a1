use Rattle.std.proofs.Common.{ℕ, Option, subst, sym}
use Rattle.net_words.specs.Builds.{return}
use Rattle.net_words.proofs.BuildLemmas.{IsLeft, all_left, done}
use Rattle.net_exprs.specs.Selects.{node_or_0}
use Rattle.net_exprs.proofs.selects.node_or_0.Goals as goal

pub returns-in-Some-clause-builds : goal.returns-in-Some-clause-builds
unfolding node_or_0
returns-in-Some-clause-builds c =
    done (λ n. n) c.in-Some.node (subst (λ (o : Option ℕ). IsLeft (node_or_0 o) c.args.net.now c.args.net.now (return c.in-Some.node)) (sym c.in-Some.is) (all_left (return c.in-Some.node) c.args.net.now))
