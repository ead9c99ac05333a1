use Rattle.std.proofs.Common.{length, ◌<◌}
use Rattle.std.proofs.lemmas.List.Elements.{All-replicate}
use Rattle.net_words.specs.Sums.{neg}
use Rattle.net_words.proofs.BuildLemmas.{all_left, next, fault, last}
use Rattle.net_words.proofs.sums.neg.Goals as goal

pub sub-requires-clause-a : goal.sub-requires-clause-a
sub-requires-clause-a c = rw (c.as_slice.ensures.value, c.in_ok-zeros.ensures.items) (All-replicate (λ n. n < length c.put.new.net) (length c.args.a.now) c.in_ok-zero.zero c.in_ok-zero.ensures.inside)

pub returns-in_err-zero-clause-builds : goal.returns-in_err-zero-clause-builds
unfolding neg
returns-in_err-zero-clause-builds c = fault _ _ (all_left (neg c.args.a.now) c.args.net.now) c.in_err-zero.ensures.builds c.from_residual.ensures

pub returns-clause-builds : goal.returns-clause-builds
unfolding neg
returns-clause-builds c =
    last (next _ _ (all_left (neg c.args.a.now) c.args.net.now) c.in_ok-zero.ensures.builds) (rw (c.as_slice.ensures.value, c.in_ok-zeros.ensures.items) at c.sub.ensures.builds)
