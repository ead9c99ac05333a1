use Rattle.std.proofs.Common.{List, ℕ, subst, sym, arith}
use Rattle.std.specs.Vec.{vec_len}
use Rattle.net_words.specs.Builds.{Build, Builds}
use Rattle.net_words.proofs.BuildLemmas.{done}
use Rattle.net_exprs.proofs.BitSteps.{right_none, filled_some, empty, not_empty}
use Rattle.net_exprs.proofs.operators.filled.Goals as goal

pub returns-then-is_empty-clause-builds : goal.returns-then-is_empty-clause-builds
returns-then-is_empty-clause-builds c =
    done (λ w. w.items) c.args.a (right_none c.args.net.now c.args.a.items c.args.amount.now (omega (arith, empty (vec_len c.args.a) c.is_empty.result c.is_empty.ensures c.if-is_empty.true)))

pub returns-clause-builds : goal.returns-clause-builds
returns-clause-builds c =
    subst (λ (b : Build (List ℕ)). Builds (λ w. w.items) b c.args.net.now c.sar.result c.sar.new.net)
    (sym (filled_some c.args.a.items c.args.amount.now (omega (arith, not_empty (vec_len c.args.a) c.is_empty.result c.is_empty.ensures c.if-is_empty.false))))
    (rw c.as_slice.ensures.value at c.sar.ensures.builds)
