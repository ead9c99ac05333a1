use Rattle.std.proofs.Common.{subst, sym}
use Rattle.vlog_tree.specs.declared.operator.Unary.{Unary}
use Rattle.design_form.specs.Extents.{shape_of}
use Rattle.net_words.specs.Builds.{return}
use Rattle.net_words.proofs.BuildLemmas.{IsLeft, all_left, done}
use Rattle.net_exprs.specs.Operators.{before}
use Rattle.net_exprs.proofs.operators.prefixed.Goals as goal

pub returns-in-Plus-clause-builds : goal.returns-in-Plus-clause-builds
unfolding before
returns-in-Plus-clause-builds c =
    done (λ w. w.items) c.args.a
    (subst (λ (o : Unary). IsLeft (before o (shape_of c.args.context) c.args.a.items) c.args.net.now c.args.net.now (return c.args.a.items)) (sym c.in-Plus.is) (all_left (return c.args.a.items) c.args.net.now))
