use Rattle.net_words.proofs.BuildLemmas.{done, next, fault}
use Rattle.net_exprs.proofs.PickSteps.{term_not, term_none, term_so}
use Rattle.net_exprs.proofs.picks.put_term.Goals as goal

pub returns-in-None-clause-builds : goal.returns-in-None-clause-builds
returns-in-None-clause-builds c = done _ (tt {0}) (term_not c.args.net.now c.args.found.now.items c.args.hit c.args.bit c.in-None.is)

pub returns-in-None-bit-clause-builds : goal.returns-in-None-bit-clause-builds
returns-in-None-bit-clause-builds c = done _ (tt {0}) (term_none c.args.net.now c.args.found.now.items c.args.hit c.args.bit c.in-None-bit.is)

pub returns-in_err-both-in-Some-bit-clause-builds : goal.returns-in_err-both-in-Some-bit-clause-builds
returns-in_err-both-in-Some-bit-clause-builds c =
    fault _ _ (term_so c.args.net.now c.args.found.now.items c.args.hit c.args.bit _ _ c.in-Some.is c.in-Some-bit.is) c.in_err-both-in-Some-bit.ensures.builds c.from_residual.ensures

pub returns-in_ok-push-in-Some-bit-clause-builds : goal.returns-in_ok-push-in-Some-bit-clause-builds
returns-in_ok-push-in-Some-bit-clause-builds c =
    done _ (tt {0})
    (rw c.in_ok-push-in-Some-bit.ensures.items (next _ _ (term_so c.args.net.now c.args.found.now.items c.args.hit c.args.bit _ _ c.in-Some.is c.in-Some-bit.is) c.in_ok-both-in-Some-bit.ensures.builds))
