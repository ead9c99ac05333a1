use Rattle.net_words.specs.Products.{mul}
use Rattle.net_words.proofs.BuildLemmas.{all_left, next, fault, last}
use Rattle.net_words.proofs.products.mul.Goals as goal

pub returns-in_err-low-clause-builds : goal.returns-in_err-low-clause-builds
unfolding mul
returns-in_err-low-clause-builds c = fault _ _ (all_left (mul c.args.a.now c.args.b.now) c.args.net.now) c.in_err-low.ensures.builds c.from_residual.ensures

pub returns-clause-builds : goal.returns-clause-builds
unfolding mul
returns-clause-builds c = last (next _ _ (all_left (mul c.args.a.now c.args.b.now) c.args.net.now) c.in_ok-low.ensures.builds) (rw c.in_ok-zeros.ensures.items at c.add_rows.ensures.builds)
