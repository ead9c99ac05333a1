use Rattle.net_words.specs.Bits.{mux}
use Rattle.net_words.proofs.BuildLemmas.{all_left, next, last, fault}
use Rattle.net_words.proofs.bits.mux.Goals as goal

pub returns-in_err-first-clause-builds : goal.returns-in_err-first-clause-builds
unfolding mux
returns-in_err-first-clause-builds c =
    let begun = all_left (mux c.args.s c.args.a c.args.b) c.args.net.now in
    fault _ _ begun c.in_err-first.ensures.builds c.from_residual.ensures

pub returns-in_err-other-clause-builds : goal.returns-in_err-other-clause-builds
unfolding mux
returns-in_err-other-clause-builds c =
    let begun = all_left (mux c.args.s c.args.a c.args.b) c.args.net.now in
    fault _ _ (next _ _ begun c.in_ok-first.ensures.builds) c.in_err-other.ensures.builds c.from_residual-in_err-other.ensures

pub returns-in_err-second-clause-builds : goal.returns-in_err-second-clause-builds
unfolding mux
returns-in_err-second-clause-builds c =
    let begun = all_left (mux c.args.s c.args.a c.args.b) c.args.net.now in
    fault _ _ (next _ _ (next _ _ begun c.in_ok-first.ensures.builds) c.in_ok-other.ensures.builds) c.in_err-second.ensures.builds c.from_residual-in_err-second.ensures

pub returns-clause-builds : goal.returns-clause-builds
unfolding mux
returns-clause-builds c =
    let begun = all_left (mux c.args.s c.args.a c.args.b) c.args.net.now in
    last (next _ _ (next _ _ (next _ _ begun c.in_ok-first.ensures.builds) c.in_ok-other.ensures.builds) c.in_ok-second.ensures.builds) c.put-4.ensures.builds
