use Rattle.net_words.specs.Sums.{full_adder}
use Rattle.net_words.proofs.BuildLemmas.{all_left, next, fault, done}
use Rattle.net_words.proofs.sums.full_adder.Goals as goal

pub returns-in_err-differs-clause-builds : goal.returns-in_err-differs-clause-builds
unfolding full_adder
returns-in_err-differs-clause-builds c = fault _ _ (all_left (full_adder c.args.more c.args.c c.args.a c.args.b) c.args.net.now) c.in_err-differs.ensures.builds c.from_residual.ensures

pub returns-in_err-bit-clause-builds : goal.returns-in_err-bit-clause-builds
unfolding full_adder
returns-in_err-bit-clause-builds c = fault _ _ (next _ _ (all_left (full_adder c.args.more c.args.c c.args.a c.args.b) c.args.net.now) c.in_ok-differs.ensures.builds) c.in_err-bit.ensures.builds c.from_residual-in_err-bit.ensures

pub returns-in_err-carry-clause-builds : goal.returns-in_err-carry-clause-builds
unfolding full_adder
returns-in_err-carry-clause-builds c = fault _ _ (next _ _ (next _ _ (all_left (full_adder c.args.more c.args.c c.args.a c.args.b) c.args.net.now) c.in_ok-differs.ensures.builds) c.in_ok-bit.ensures.builds) c.in_err-carry.ensures.builds c.from_residual-in_err-carry.ensures

pub returns-clause-builds : goal.returns-clause-builds
unfolding full_adder
returns-clause-builds c = done (λ p. p) (c.in_ok-bit.bit, c.in_ok-carry.carry) (next _ _ (next _ _ (next _ _ (all_left (full_adder c.args.more c.args.c c.args.a c.args.b) c.args.net.now) c.in_ok-differs.ensures.builds) c.in_ok-bit.ensures.builds) c.in_ok-carry.ensures.builds)
